-- What a file of groups means.
use Rattle.std.proofs.Common.{◌≡◌, ◌⊎◌, inl, inr, ℕ, ◌+◌, ◌<◌, ◌≤◌, List, [], ◌∷◌, ◌++◌, length, Bool, true, false, Some, None, refl, sym, ◌∙◌, ap, subst, arith, append_assoc}
use Rattle.std.specs.Prelude.{Option, if◌then◌else◌, nat_le, bytes_eq, not, ◌&&◌, ◌||◌, map}
use Rattle.std.specs.List.{list_any}
use Rattle.std.specs.Option.{option_map}
use Rattle.std.proofs.lemmas.Bool.{cases_lt}
use Rattle.std.proofs.lemmas.Bool.Decides.{nat_tests}
use Rattle.std.proofs.lemmas.List.{append-nil}
use Rattle.std.proofs.lemmas.Slice.Eq.{bytes_eq-Decides}
use Rattle.gd_prim.specs.declared.Batch.{Batch}
use Rattle.gd_prim.specs.History.{prims_of}
use Rattle.gd_prim.specs.WellFormed.{all_follow}
use Rattle.gd_bytes.specs.Group.{group_of}
use Rattle.gd_bytes.specs.File.{Meaning, not_store, damaged, groups, joined, Version, version_of, is_marked, mark, has_lang, Payloads, no_payloads, payloads, record_batches, with_group, groups_of, meaning, StandsFor, MayStandFor}
use Rattle.gd_journal.specs.Meaning as journal
use Rattle.gd_log.specs.Groups.{IsNext, AreGroups}

cases_bool : (b : Bool) → (b ≡ true) ⊎ (b ≡ false)
cases_bool true = inl refl
cases_bool false = inr refl

-- ---- the meaning of a file

means_short : (file : List ℕ) → length file ≤ 9 → (meaning file ≡ groups []) × (journal.held_by file ≡ Some no_payloads)
unfolding journal.held_by
means_short file short = let test : nat_le (length file) 9 ≡ true = grind (arith, nat_tests) in rw test (refl, refl)

means_long : (file : List ℕ) (v : Version) → 9 < length file → version_of file ≡ Some v → (meaning file ≡ groups_of (is_marked v) [] (payloads file).list (payloads file).damaged) × (journal.held_by file ≡ Some (payloads file))
unfolding journal.held_by
means_long file v long is = let test : nat_le (length file) 9 ≡ false = grind (arith, nat_tests) in rw (test, is) (refl, refl)

means_none : (file : List ℕ) → 9 < length file → version_of file ≡ None → (meaning file ≡ not_store) × (journal.held_by file ≡ None)
unfolding journal.held_by
means_none file long is = let test : nat_le (length file) 9 ≡ false = grind (arith, nat_tests) in rw (test, is) (refl, refl)

-- of one that holds these payloads, and has the header of this version
pub meaning_is : (v : Version) (file : List ℕ) (found : Payloads) → journal.HasVersion v file → journal.held_by file ≡ Some found → meaning file ≡ groups_of (is_marked v) [] found.list found.damaged
meaning_is v file found begins held = elim (cases_lt 9 (length file)) [
  | inr short ↦
      let m = means_short file short in
      let same : no_payloads ≡ found = cc in
      m.0 ∙ ap (λ (p : Payloads). groups_of (is_marked v) [] p.list p.damaged) same
  | inl long ↦
      let m = means_long file v long (begins long) in
      let same : payloads file ≡ found = cc in
      m.0 ∙ ap (λ (p : Payloads). groups_of (is_marked v) [] p.list p.damaged) same
]

-- of one that is no store
pub meaning_none : (file : List ℕ) → journal.held_by file ≡ None → meaning file ≡ not_store
meaning_none file none = elim (cases_lt 9 (length file)) [
  | inr short ↦ cc (none, (means_short file short).1)
  | inl long ↦ by long (version_of file) refl
]
  where
    by : 9 < length file → (o : Option Version) → version_of file ≡ o → meaning file ≡ not_store
    by long None is = (means_none file long is).0
    by long (Some v) is = cc (none, (means_long file v long is).1)

-- ---- what a file tells is what it means

-- the groups of payloads without the mark
abbrev told_groups : List Batch → List (Bool × (ℕ × List ℕ)) → Option ℕ → Meaning
told_groups before [] None = groups []
told_groups before [] (Some offset) = damaged offset
told_groups before (r ∷ rs) torn = next (record_batches r.0 before r.1.1) (λ bs. told_groups (before ++ bs) rs torn)
  where
    next : Option (List Batch) → (List Batch → Meaning) → Meaning
    next None rest = damaged r.1.0
    next (Some bs) rest = with_group bs (rest bs)

-- the next payload is the mark
groups_mark : (m : Bool) (before : List Batch) (r : ℕ × List ℕ) (rs : List (ℕ × List ℕ)) (torn : Option ℕ) → (not m && bytes_eq r.1 mark) ≡ true → groups_of m before (r ∷ rs) torn ≡ groups_of true before rs torn
groups_mark m before r rs torn is = rw is refl

-- it is neither the mark nor a group that may follow
groups_stop : (m : Bool) (before : List Batch) (r : ℕ × List ℕ) (rs : List (ℕ × List ℕ)) (torn : Option ℕ) → (not m && bytes_eq r.1 mark) ≡ false → record_batches m before r.1 ≡ None → groups_of m before (r ∷ rs) torn ≡ damaged r.0
groups_stop m before r rs torn is none = rw (is, none) refl

-- it is a group that may follow
groups_step : (m : Bool) (before : List Batch) (r : ℕ × List ℕ) (rs : List (ℕ × List ℕ)) (torn : Option ℕ) (bs : List Batch) → (not m && bytes_eq r.1 mark) ≡ false → record_batches m before r.1 ≡ Some bs
    → groups_of m before (r ∷ rs) torn ≡ with_group bs (groups_of m (before ++ bs) rs torn)
groups_step m before r rs torn bs is some = rw (is, some) refl

told_stop : (before : List Batch) (r : Bool × (ℕ × List ℕ)) (rs : List (Bool × (ℕ × List ℕ))) (torn : Option ℕ) → record_batches r.0 before r.1.1 ≡ None → told_groups before (r ∷ rs) torn ≡ damaged r.1.0
told_stop before r rs torn none = rw none refl

told_step : (before : List Batch) (r : Bool × (ℕ × List ℕ)) (rs : List (Bool × (ℕ × List ℕ))) (torn : Option ℕ) (bs : List Batch) → record_batches r.0 before r.1.1 ≡ Some bs → told_groups before (r ∷ rs) torn ≡ with_group bs (told_groups (before ++ bs) rs torn)
told_step before r rs torn bs some = rw some refl

told_next : (m : Bool) (before : List Batch) (r : ℕ × List ℕ) (rs : List (ℕ × List ℕ)) (torn : Option ℕ) → groups_of true before rs torn ≡ told_groups before (journal.told true rs) torn
    → ((bs : List Batch) → groups_of m (before ++ bs) rs torn ≡ told_groups (before ++ bs) (journal.told m rs) torn) → groups_of m before (r ∷ rs) torn ≡ told_groups before (journal.told m (r ∷ rs)) torn
told_next m before r rs torn marked rest = by (not m && bytes_eq r.1 mark) refl
  where
    group : (o : Option (List Batch)) → (not m && bytes_eq r.1 mark) ≡ false → record_batches m before r.1 ≡ o → groups_of m before (r ∷ rs) torn ≡ told_groups before ((m, r) ∷ journal.told m rs) torn
    group None is none = groups_stop m before r rs torn is none ∙ sym (told_stop before (m, r) (journal.told m rs) torn none)
    group (Some bs) is some = groups_step m before r rs torn bs is some ∙ ap (with_group bs) (rest bs) ∙ sym (told_step before (m, r) (journal.told m rs) torn bs some)

    by : (b : Bool) → (not m && bytes_eq r.1 mark) ≡ b → groups_of m before (r ∷ rs) torn ≡ told_groups before (if b then journal.told true rs else (m, r) ∷ journal.told m rs) torn
    by true is = groups_mark m before r rs torn is ∙ marked
    by false is = group (record_batches m before r.1) is refl

groups_told : (m : Bool) (before : List Batch) (list : List (ℕ × List ℕ)) (torn : Option ℕ) → groups_of m before list torn ≡ told_groups before (journal.told m list) torn
groups_told m before [] None = refl
groups_told m before [] (Some offset) = refl
groups_told m before (r ∷ rs) torn = told_next m before r rs torn (groups_told true before rs torn) (λ (bs : List Batch). groups_told m (before ++ bs) rs torn)

abbrev meant : Option journal.Told → Meaning
meant None = not_store
meant (Some t) = told_groups [] t.list t.damaged

tells_short : (file : List ℕ) → length file ≤ 9 → journal.told_by file ≡ Some (record { list = []; damaged = None })
unfolding journal.told_by
tells_short file short = let test : nat_le (length file) 9 ≡ true = grind (arith, nat_tests) in rw test refl

tells_long : (file : List ℕ) (o : Option Version) → 9 < length file → version_of file ≡ o → journal.told_by file ≡ option_map (journal.told_of (payloads file)) o
unfolding journal.told_by
tells_long file o long is = let test : nat_le (length file) 9 ≡ false = grind (arith, nat_tests) in rw (test, is) refl

meaning_told : (file : List ℕ) → meaning file ≡ meant (journal.told_by file)
meaning_told file = elim (cases_lt 9 (length file)) [
  | inr short ↦ (means_short file short).0 ∙ sym (ap meant (tells_short file short))
  | inl long ↦ by long (version_of file) refl
]
  where
    by : 9 < length file → (o : Option Version) → version_of file ≡ o → meaning file ≡ meant (journal.told_by file)
    by long None is = (means_none file long is).0 ∙ sym (ap meant (tells_long file None long is))
    by long (Some v) is = (means_long file v long is).0 ∙ groups_told (is_marked v) [] (payloads file).list (payloads file).damaged ∙ sym (ap meant (tells_long file (Some v) long is))

-- files that tell the same mean the same
pub same_meaning : (c file : List ℕ) → journal.told_by c ≡ journal.told_by file → meaning c ≡ meaning file
same_meaning c file same = meaning_told c ∙ ap meant same ∙ sym (meaning_told file)

-- ---- payloads that are groups

taken_if : (bs : List Batch) (t : Bool) → t ≡ true → (if t then Some bs else None) ≡ Some bs
taken_if bs t is = ap (λ (b : Bool). if b then Some bs else None) is

both_true : (a b : Bool) → a ≡ true → b ≡ true → (a && b) ≡ true
both_true true true p q = refl
both_true true false p q = cc
both_true false b p q = cc

-- a group that may follow is read
pub next_read : (m : Bool) (before : List Batch) (p : List ℕ) (more : List Batch) → IsNext m before p more → record_batches m before p ≡ Some more
unfolding prims_of
next_read m before p more n = rw n.meant (taken_if more ((m || not (has_lang more)) && all_follow (prims_of before) (length before) more) (both_true _ _ n.langs n.follow))

-- and it is not the mark
no_group : group_of mark ≡ None
no_group = refl

and_none : (a : Bool) → (a && false) ≡ false
and_none true = refl
and_none false = refl

pub not_mark : (m : Bool) (p : List ℕ) (more : List Batch) → group_of p ≡ Some more → (not m && bytes_eq p mark) ≡ false
not_mark m p more is = elim (cases_bool (bytes_eq p mark)) [
  | inl same ↦
      let there : group_of p ≡ None = ap group_of ((bytes_eq-Decides p mark).0 same) ∙ no_group in
      cc (there, is)
  | inr other ↦ ap (λ (b : Bool). not m && b) other ∙ and_none (not m)
]

-- the mark, where it may stand
marks : (m : Bool) (p : List ℕ) → m ≡ false → p ≡ mark → (not m && bytes_eq p mark) ≡ true
marks m p none is = ap (λ (k : Bool). not k && bytes_eq p mark) none ∙ ap (λ (q : List ℕ). bytes_eq q mark) is

-- groups in front of what follows
abbrev pub behind : List (List Batch) → Meaning → Meaning
behind [] m = m
behind (g ∷ gs) m = with_group g (behind gs m)

pub behind_end : (gs : List (List Batch)) → behind gs (groups []) ≡ groups gs
behind_end [] = refl
behind_end (g ∷ gs) = ap (with_group g) (behind_end gs)

pub behind_damaged : (gs : List (List Batch)) (offset : ℕ) → behind gs (damaged offset) ≡ damaged offset
behind_damaged [] offset = refl
behind_damaged (g ∷ gs) offset = ap (with_group g) (behind_damaged gs offset)

abbrev pub bytes : List (ℕ × List ℕ) → List (List ℕ)
bytes rs = map (λ r. r.1) rs

-- payloads that are groups, in front of others
pub walk : (m : Bool) (before : List Batch) (front rest : List (ℕ × List ℕ)) (torn : Option ℕ) (last : Bool) (bs : List Batch) → AreGroups m before (bytes front) last bs
    → (gs : List (List Batch)) × (groups_of m before (front ++ rest) torn ≡ behind gs (groups_of last bs rest torn)) × (before ++ joined gs ≡ bs)
walk m before [] rest torn last bs (kept, same) = ([], ap (λ (k : Bool). groups_of k before rest torn) kept ∙ ap (λ (l : List Batch). groups_of last l rest torn) same, append-nil before ∙ same)
walk m before (r ∷ front) rest torn last bs (inl (none, is, are)) =
    let w = walk true before front rest torn last bs are in
    (w.0, groups_mark m before r (front ++ rest) torn (marks m r.1 none is) ∙ w.1, w.2)
walk m before (r ∷ front) rest torn last bs (inr (more, n, are)) =
    let w = walk m (before ++ more) front rest torn last bs are in
    (more ∷ w.0, groups_step m before r (front ++ rest) torn more (not_mark m r.1 more n.meant) (next_read m before r.1 more n) ∙ ap (with_group more) w.1, sym (append_assoc before more (joined w.0)) ∙ w.2)

-- all payloads are groups
pub walk_all : (m : Bool) (rs : List (ℕ × List ℕ)) (last : Bool) (bs : List Batch) → AreGroups m [] (bytes rs) last bs → (gs : List (List Batch)) × (groups_of m [] rs None ≡ groups gs) × (joined gs ≡ bs)
walk_all m rs last bs are =
    let w = walk m [] rs [] None last bs are in
    (w.0, ap (λ (l : List (ℕ × List ℕ)). groups_of m [] l None) (sym (append-nil rs)) ∙ w.1 ∙ behind_end w.0, w.2)

-- behind them a payload is none that may follow
pub walk_stop : (m : Bool) (front : List (ℕ × List ℕ)) (r : ℕ × List ℕ) (rest : List (ℕ × List ℕ)) (torn : Option ℕ) (last : Bool) (bs : List Batch) → AreGroups m [] (bytes front) last bs
    → (not last && bytes_eq r.1 mark) ≡ false → record_batches last bs r.1 ≡ None → groups_of m [] (front ++ r ∷ rest) torn ≡ damaged r.0
walk_stop m front r rest torn last bs are other none =
    let w = walk m [] front (r ∷ rest) torn last bs are in
    w.1 ∙ ap (behind w.0) (groups_stop last bs r rest torn other none) ∙ behind_damaged w.0 r.0

-- behind them a record is not there in full
pub walk_torn : (m : Bool) (rs : List (ℕ × List ℕ)) (offset : ℕ) (last : Bool) (bs : List Batch) → AreGroups m [] (bytes rs) last bs → groups_of m [] rs (Some offset) ≡ damaged offset
walk_torn m rs offset last bs are =
    let w = walk m [] rs [] (Some offset) last bs are in
    ap (λ (l : List (ℕ × List ℕ)). groups_of m [] l (Some offset)) (sym (append-nil rs)) ∙ w.1 ∙ behind_damaged w.0 offset

-- one payload more
pub push : (m : Bool) (before : List Batch) (ps : List (List ℕ)) (last : Bool) (bs : List Batch) (p : List ℕ) (more : List Batch) → AreGroups m before ps last bs → IsNext last bs p more → AreGroups m before (ps ++ p ∷ []) last (bs ++ more)
push m before [] last bs p more (kept, same) n = inr (more, subst (λ (k : Bool). IsNext k before p more) (sym kept) (subst (λ (l : List Batch). IsNext last l p more) (sym same) n), (kept, ap (λ (l : List Batch). l ++ more) same))
push m before (q ∷ ps) last bs p more (inl (none, is, are)) n = inl (none, is, push true before ps last bs p more are n)
push m before (q ∷ ps) last bs p more (inr (g, k, are)) n = inr (g, k, push m (before ++ g) ps last bs p more are n)

-- the mark behind them
pub push_mark : (m : Bool) (before : List Batch) (ps : List (List ℕ)) (last : Bool) (bs : List Batch) → AreGroups m before ps last bs → last ≡ false → AreGroups m before (ps ++ mark ∷ []) true bs
push_mark m before [] last bs (kept, same) none = inl (kept ∙ none, refl, (refl, same))
push_mark m before (q ∷ ps) last bs (inl (was, is, are)) none = inl (was, is, push_mark true before ps last bs are none)
push_mark m before (q ∷ ps) last bs (inr (g, k, are)) none = inr (g, k, push_mark m (before ++ g) ps last bs are none)

or_true : (a : Bool) → (a || true) ≡ true
or_true true = refl
or_true false = refl

or_none : (a : Bool) → (a || false) ≡ a
or_none true = refl
or_none false = refl

-- behind them texts may have languages just where they may from the start, or the mark is among them
pub last_marked : (m : Bool) (before : List Batch) (ps : List (List ℕ)) (last : Bool) (bs : List Batch) → AreGroups m before ps last bs → last ≡ (m || list_any (λ p. bytes_eq p mark) ps)
last_marked m before [] last bs (kept, same) = sym kept ∙ sym (or_none m)
last_marked m before (p ∷ ps) last bs (inl (none, is, are)) =
    let here : bytes_eq p mark ≡ true = ap (λ (q : List ℕ). bytes_eq q mark) is in
    last_marked true before ps last bs are ∙ sym (ap (λ (b : Bool). m || (b || list_any (λ q. bytes_eq q mark) ps)) here ∙ or_true m)
last_marked m before (p ∷ ps) last bs (inr (more, n, are)) =
    let other : bytes_eq p mark ≡ false = not_mark false p more n.meant in
    last_marked m (before ++ more) ps last bs are ∙ sym (ap (λ (b : Bool). m || (b || list_any (λ q. bytes_eq q mark) ps)) other)

-- so with the mark where it is due they may
pub with_mark_groups : (v : Version) (ps : List (List ℕ)) (last : Bool) (bs : List Batch) → AreGroups (is_marked v) [] ps last bs → AreGroups (is_marked v) [] (journal.with_mark v ps) true bs
with_mark_groups v ps last bs are = by (journal.marked_by v ps) refl
  where
    by : (b : Bool) → journal.marked_by v ps ≡ b → AreGroups (is_marked v) [] (if b then ps else ps ++ mark ∷ []) true bs
    by true is = subst (λ (k : Bool). AreGroups (is_marked v) [] ps k bs) (last_marked (is_marked v) [] ps last bs are ∙ is) are
    by false is = push_mark (is_marked v) [] ps last bs are (last_marked (is_marked v) [] ps last bs are ∙ is)

-- ---- a file with such payloads stands for their batches

pub located_bytes : (at : ℕ) (ps : List (List ℕ)) → bytes (journal.located at ps) ≡ ps
located_bytes at [] = refl
located_bytes at (p ∷ ps) = ap (λ (l : List (List ℕ)). p ∷ l) (located_bytes (at + 5 + length p) ps)

pub stands : (file : List ℕ) (v : Version) (ps : List (List ℕ)) (last : Bool) (bs : List Batch) → journal.StandsFor v ps file → AreGroups (is_marked v) [] ps last bs → StandsFor file bs
stands file v ps last bs (held, begins) are =
    let w = walk_all (is_marked v) (journal.located 8 ps) last bs (subst (λ (l : List (List ℕ)). AreGroups (is_marked v) [] l last bs) (sym (located_bytes 8 ps)) are) in
    (w.0, meaning_is v file (journal.whole ps) begins held ∙ w.1, w.2)

pub may_stand : (file : List ℕ) (v : Version) (ps : List (List ℕ)) (p : List ℕ) (last : Bool) (bs more : List Batch) → journal.MayStandFor v ps p file → AreGroups (is_marked v) [] ps last bs → IsNext last bs p more → MayStandFor bs (more ∷ []) file
may_stand file v ps p last bs more (inl is) are n = inl (stands file v ps last bs is are)
may_stand file v ps p last bs more (inr is) are n = inr (stands file v (ps ++ p ∷ []) last (bs ++ more) is (push (is_marked v) [] ps last bs p more are n))
