-- What is taken in when payloads are read.
use Rattle.std.proofs.Common.{◌≡◌, inl, inr, ℕ, suc, ◌+◌, ◌<◌, List, [], ◌∷◌, ◌++◌, length, take, drop, get_or, Bool, true, false, Some, None, refl, sym, ◌∙◌, ap, subst, append_assoc, add-one, drop-cons}
use Rattle.std.specs.Prelude.{Option, ◌≢◌, not, ◌&&◌, ◌||◌, ◌==◌, bytes_eq, if◌then◌else◌, MatchBool, MatchOption}
use Rattle.std.specs.Bool.{OnTrue}
use Rattle.std.proofs.Math.Seq.{take-suc}
use Rattle.std.proofs.lemmas.Bool.{OnTrue_at, and_parts}
use Rattle.std.proofs.lemmas.Slice.Eq.{bytes_eq-Decides}
use Rattle.gd_prim.specs.declared.Batch.{Batch}
use Rattle.gd_prim.specs.History.{prims_of}
use Rattle.gd_prim.specs.WellFormed.{may_follow, all_follow}
use Rattle.gd_list_laws.proofs.Histories.{follow_more}
use Rattle.gd_bytes.specs.File.{Version, first, second, is_marked, mark, has_lang, damaged, record_batches, groups_of, meaning}
use Rattle.gd_bytes.specs.Group.{IsGroup, group_of}
use Rattle.gd_codec.specs.declared.stop.CodecFault.{CodecFault}
use Rattle.gd_codec.specs.declared.stop.CodecFault.TheVariants as fault
use Rattle.gd_journal.specs.Meaning.{held_by, HasVersion}
use Rattle.gd_journal.specs.Reading.{BeginsWith}
use Rattle.gd_journal.specs.Versions.{number_of}
use Rattle.gd_log.specs.Groups.{AreGroups}
use Rattle.gd_log.specs.Opening.{AddsGroup, IsTaken, IsRefused, Loads, bytes_of}
use Rattle.gd_log.proofs.Meaning.{meaning_is, walk_stop, walk_torn, push, push_mark}

-- ---- batches one by one

-- the item at a place, and what comes behind it
pub next_item : {A : Type 0} (xs : List A) (i : ℕ) (x : A) → i < length xs → x ≡ get_or xs i x → drop i xs ≡ x ∷ drop (i + 1) xs
next_item {A} xs i x lt is = drop-cons xs i x lt ∙ ap (λ (y : A). y ∷ drop (suc i) xs) (sym is) ∙ ap (λ (k : ℕ). x ∷ drop k xs) (sym (add-one i))

pub take_item : {A : Type 0} (xs : List A) (i : ℕ) (x : A) → i < length xs → x ≡ get_or xs i x → take (i + 1) xs ≡ take i xs ++ x ∷ []
take_item {A} xs i x lt is = ap (λ (k : ℕ). take k xs) (add-one i) ∙ take-suc xs i x lt ∙ ap (λ (y : A). take i xs ++ y ∷ []) (sym is)

pub batch_follow : (start store now xs : List Batch) (i : ℕ) (b : Batch) (t : Bool) → i < length xs → b ≡ get_or xs i b → t ≡ true → t ≡ may_follow (prims_of store) (length store) b → OnTrue t (now ≡ store ++ b ∷ [])
    → all_follow (prims_of store) (length store) (drop i xs) ≡ all_follow (prims_of start) (length start) xs → all_follow (prims_of now) (length now) (drop (i + 1) xs) ≡ all_follow (prims_of start) (length start) xs
batch_follow start store now xs i b t lt is passed may more before =
    let now_is : now ≡ store ++ b ∷ [] = OnTrue_at passed more in
    ap (λ (l : List Batch). all_follow (prims_of l) (length l) (drop (i + 1) xs)) now_is
    ∙ sym (follow_more store b (drop (i + 1) xs) (sym may ∙ passed))
    ∙ ap (λ (l : List Batch). all_follow (prims_of store) (length store) l) (sym (next_item xs i b lt is))
    ∙ before

pub batch_more : (start store now xs : List Batch) (i : ℕ) (b : Batch) (t : Bool) → i < length xs → b ≡ get_or xs i b → t ≡ true → OnTrue t (now ≡ store ++ b ∷ []) → store ++ drop i xs ≡ start ++ xs → now ++ drop (i + 1) xs ≡ start ++ xs
batch_more start store now xs i b t lt is passed more before =
    let now_is : now ≡ store ++ b ∷ [] = OnTrue_at passed more in
    ap (λ (l : List Batch). l ++ drop (i + 1) xs) now_is
    ∙ append_assoc store (b ∷ []) (drop (i + 1) xs)
    ∙ ap (λ (l : List Batch). store ++ l) (sym (next_item xs i b lt is))
    ∙ before

-- ---- a record

not_true : (b : Bool) → not b ≡ true → b ≡ false
not_true true is = cc
not_true false is = refl

and_last : (a b : Bool) → b ≡ false → (a && b) ≡ false
and_last true b is = is
and_last false b is = refl

allowed : (marked langs has : Bool) → langs ≡ has → (not marked && langs) ≡ false → (marked || not has) ≡ true
allowed true langs has same none = refl
allowed false langs true same none = cc
allowed false langs false same none = refl

forbidden : (marked langs has : Bool) → langs ≡ has → (not marked && langs) ≡ true → (marked || not has) ≡ false
forbidden true langs has same some = cc
forbidden false langs true same some = refl
forbidden false langs false same some = cc

taken_not : (bs : List Batch) (t : Bool) → t ≡ false → (if t then Some bs else None) ≡ None
taken_not bs t is = ap (λ (b : Bool). if b then Some bs else None) is

-- a group is taken in exactly if its batches may follow, and have languages only where they may
pub group_taken : (marked langs : Bool) (before : List Batch) (p : List ℕ) (more listed now : List Batch) (t : Bool) → IsGroup p more → group_of p ≡ Some more → listed ≡ more → langs ≡ has_lang more → (not marked && langs) ≡ false
    → t ≡ all_follow (prims_of before) (length before) listed → OnTrue t (now ≡ before ++ listed) → MatchBool t (AddsGroup marked before p now) (record_batches marked before p ≡ None)
unfolding prims_of
group_taken marked langs before p more listed now true is meant same has none may now_is =
    (more, record { group = is; meant = meant; langs = allowed marked langs (has_lang more) has none; follow = ap (λ (l : List Batch). all_follow (prims_of before) (length before) l) (sym same) ∙ sym may }, now_is ∙ ap (λ (l : List Batch). before ++ l) same)
group_taken marked langs before p more listed now false is meant same has none may now_is =
    rw meant (taken_not more ((marked || not (has_lang more)) && all_follow (prims_of before) (length before) more)
    (and_last (marked || not (has_lang more)) _ (ap (λ (l : List Batch). all_follow (prims_of before) (length before) l) (sym same) ∙ sym may)))

-- one with languages where they may not is not
pub early_lang : (marked langs : Bool) (before : List Batch) (p : List ℕ) (more : List Batch) → group_of p ≡ Some more → langs ≡ has_lang more → (not marked && langs) ≡ true → record_batches marked before p ≡ None
unfolding prims_of
early_lang marked langs before p more meant has some =
    rw meant (taken_not more ((marked || not (has_lang more)) && all_follow (prims_of before) (length before) more)
    (ap (λ (b : Bool). b && all_follow (prims_of before) (length before) more) (forbidden marked langs (has_lang more) has some)))

-- bytes that are no group are not taken in
pub no_group : (marked : Bool) (before : List Batch) (p : List ℕ) (f : CodecFault) (n : ℕ) → f ≡ fault.BadBytes n → (f ≢ fault.Memory → group_of p ≡ None) → record_batches marked before p ≡ None
no_group marked before p f n is meant = rw (meant (λ same. let clash : fault.BadBytes n ≡ fault.Memory = sym is ∙ same in cc)) refl

-- the mark is taken in where it may stand
pub mark_taken : (marked now : Bool) (before : List Batch) (p : List ℕ) → (not marked && bytes_eq p mark) ≡ true → now ≡ true → IsTaken marked before p now before
mark_taken marked now before p is set = let both = and_parts (not marked) (bytes_eq p mark) is in inl (not_true marked both.0, (bytes_eq-Decides p mark).0 both.1, set, refl)

-- and another payload where it is a group
pub payload_taken : (marked now t : Bool) (before : List Batch) (p : List ℕ) (after : List Batch) → (not marked && bytes_eq p mark) ≡ false → now ≡ marked → MatchBool t (AddsGroup marked before p after) (record_batches marked before p ≡ None)
    → MatchBool t (IsTaken marked before p now after) (IsRefused marked before p)
payload_taken marked now true before p after other same adds = inr (same, adds)
payload_taken marked now false before p after other same none = (other, none)

-- ---- payloads one by one

-- texts may have languages from the start in a file of the second version
pub starts_marked : (v : Version) (n : ℕ) → n ≡ number_of v → is_marked v ≡ (n == 2)
starts_marked first n is = sym (ap (λ (k : ℕ). k == 2) is)
starts_marked second n is = sym (ap (λ (k : ℕ). k == 2) is)

bytes_push : (read : List (ℕ × List ℕ)) (r : ℕ × List ℕ) → bytes_of (read ++ r ∷ []) ≡ bytes_of read ++ r.1 ∷ []
bytes_push [] r = refl
bytes_push (q ∷ read) r = ap (λ (l : List (List ℕ)). q.1 ∷ l) (bytes_push read r)

-- one record more was taken in
pub record_taken : (m : Bool) (read : List (ℕ × List ℕ)) (r : ℕ × List ℕ) (marked last : Bool) (store now : List Batch) → AreGroups m [] (bytes_of read) marked store → IsTaken marked store r.1 last now → AreGroups m [] (bytes_of (read ++ r ∷ [])) last now
record_taken m read r marked last store now are (inl (none, is, set, kept)) =
    let there = push_mark m [] (bytes_of read) marked store are none in
    let one = subst (λ (p : List ℕ). AreGroups m [] (bytes_of read ++ p ∷ []) true store) (sym is) there in
    let two = subst (λ (k : Bool). AreGroups m [] (bytes_of read ++ r.1 ∷ []) k store) (sym set) one in
    subst (λ (l : List (List ℕ)). AreGroups m [] l last now) (sym (bytes_push read r)) (subst (λ (l : List Batch). AreGroups m [] (bytes_of read ++ r.1 ∷ []) last l) (sym kept) two)
record_taken m read r marked last store now are (inr (same, (more, next, now_is))) =
    let there = push m [] (bytes_of read) marked store r.1 more are next in
    let one = subst (λ (k : Bool). AreGroups m [] (bytes_of read ++ r.1 ∷ []) k (store ++ more)) (sym same) there in
    subst (λ (l : List (List ℕ)). AreGroups m [] l last now) (sym (bytes_push read r)) (subst (λ (l : List Batch). AreGroups m [] (bytes_of read ++ r.1 ∷ []) last l) (sym now_is) one)

-- a record that is not taken in is the first damaged one
pub record_stops : (v : Version) (file : List ℕ) (read : List (ℕ × List ℕ)) (r : ℕ × List ℕ) (marked : Bool) (store : List Batch) → HasVersion v file → BeginsWith (read ++ r ∷ []) file → AreGroups (is_marked v) [] (bytes_of read) marked store → IsRefused marked store r.1
    → meaning file ≡ damaged r.0
record_stops v file read r marked store begins (rest, held) are refused =
    meaning_is v file (record { list = read ++ r ∷ [] ++ rest.list; damaged = rest.damaged }) begins held
    ∙ ap (λ (l : List (ℕ × List ℕ)). groups_of (is_marked v) [] l rest.damaged) (append_assoc read (r ∷ []) rest.list) ∙ walk_stop (is_marked v) read r rest.list rest.damaged marked store are refused.0 refused.1

-- all were taken in, and behind them a record is not there in full, or none
pub records_done : (v : Version) (file : List ℕ) (read : List (ℕ × List ℕ)) (torn first : Option ℕ) (marked : Bool) (store : List Batch) → HasVersion v file → held_by file ≡ Some (record { list = read; damaged = torn }) → AreGroups (is_marked v) [] (bytes_of read) marked store → first ≡ torn
    → MatchOption first (Loads v file store) (λ offset. meaning file ≡ damaged offset)
records_done v file read torn None marked store begins held are is = (marked, read, begins, held ∙ ap (λ (o : Option ℕ). Some (record { list = read; damaged = o })) (sym is), are)
records_done v file read torn (Some offset) marked store begins held are is =
    meaning_is v file (record { list = read; damaged = torn }) begins held ∙ ap (λ (o : Option ℕ). groups_of (is_marked v) [] read o) (sym is) ∙ walk_torn (is_marked v) read offset marked store are
