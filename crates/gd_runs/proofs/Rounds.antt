-- A run grows by one line, and an explained run by one round.
use Rattle.std.proofs.Common.{◌≡◌, refl, ℕ, zero, suc, ◌+◌, ◌<◌, ◌≤◌, ◌==◌, Bool, true, false, cond, List, [], ◌∷◌, ◌++◌, length, map, flat_map, fold, count_by, nat_lt, nat_le, Result, Ok, Err, Option, Some, None, slice_get, subst, sym, ap, ◌∙◌, ◌⊎◌, inl, inr, ⊎_elim, arith, length-append, append_assoc, if◌then◌else◌, le-ltb, le-leb, ltb-false, ltb-true, leb-true}
use Rattle.std.proofs.lemmas.List.{map-append, take-append-le, length-map, append-nil}
use Rattle.std.proofs.lemmas.Grind.{flat_map-append, fold-append}
use Rattle.std.specs.Option.{option_flatten}
use Rattle.std.specs.List.{AllByRecursion}
use Rattle.gd_prim.specs.declared.Primitive.{Primitive}
use Rattle.gd_prim.specs.declared.Batch.{Batch}
use Rattle.gd_prim.specs.Builtin.{builtin}
use Rattle.gd_prim.specs.History.{prims_of}
use Rattle.gd_defs.specs.History.{prims_at}
use Rattle.gd_prim.specs.WellFormed.{all_follow}
use Rattle.gd_defs.specs.Query.{Query}
use Rattle.gd_bytes.specs.Cursor.{Cursor, cursor_of}
use Rattle.gd_tree.specs.Json.{list}
use Rattle.gd_defs.specs.Lines.{items_of, ok_line, err_line, cursor_ahead}
use Rattle.gd_defs.specs.Reply.{answer, answer_item, within_reply, reply}
use Rattle.gd_runs.specs.Request.{Line, read, write, ReadSet, one_query, queries, CursorAsk, no_cursor, first_page, page_after, asks_page, page_reply, query_reply, reply_of}
use Rattle.gd_runs.specs.Input.{InputFault, line_from}
use Rattle.gd_runs.specs.Owed.{MembersOf}
use Rattle.gd_runs.specs.Legal.{Entry, History, size, batches, with_entry, with_entries, upto, take_below, exec_line, AreEntriesAfter}
use Rattle.gd_runs.specs.Explained.{Numbered, Run, Outcome, no_request, no_memory, stored, refused, late, in_doubt, not_tried, answered, entry_at, IsOfLine, IsWithin, Prints, HasNumber, MayBeEntry, IsOfRun, SameSession, TakesIn, IsBounded, MayBe, stored_dateline, told_dateline, cursor_dateline, ask_dateline, read_dateline, line_dateline, is_upto, stands_upto, without_return, pieces, IsExplainedBy, IsOldDoubt, IsRoundAfter}
use Rattle.gd_runs.specs.Core.{State}
use Rattle.gd_runs.specs.Replay.{LineStep, Replies}

-- one line more
pub replies_then : (members : MembersOf) (may : ℕ → Bool) (s : State) (k : ℕ) (ls : List Numbered) (out : List ℕ) (mid : State) (l : Numbered) (reply : List ℕ) (t : State)
    → Replies members may s k ls out mid → LineStep members may mid (k + length ls) l.bytes reply t → Replies members may s k (ls ++ l ∷ []) (out ++ (reply ++ 10 ∷ [])) t
replies_then members may s k [] out mid l reply t (o, m) step =
    (reply, t, [], subst (λ (x : State). LineStep members may x k l.bytes reply t) m (subst (λ (n : ℕ). LineStep members may mid n l.bytes reply t) (omega arith) step), ap (λ (b : List ℕ). b ++ (reply ++ 10 ∷ [])) o, (refl, refl))
replies_then members may s k (a ∷ ls) out mid l reply t (r, m, rest, first, o, more) step = (
  r,
  m,
  rest ++ (reply ++ 10 ∷ []),
  first,
  ap (λ (b : List ℕ). b ++ (reply ++ 10 ∷ [])) o ∙ append_assoc r (10 ∷ rest) (reply ++ 10 ∷ []),
  replies_then members may m (k + 1) ls rest mid l reply t more (subst (λ (n : ℕ). LineStep members may mid n l.bytes reply t) (omega arith) step),
)

-- ---- places of lists joined

pub some_same : {X : Type 0} {x y : X} → Some x ≡ Some y → x ≡ y
some_same e = cc

pub no_some : {X Y : Type 0} {x : X} → None ≡ Some x → Y
no_some {X} {Y} {x} e = absurd (apart e)
  where
    apart : None ≡ Some x → ⊥
    apart q = cc

pub get_left : {X : Type 0} (xs ys : List X) (k : ℕ) (x : X) → slice_get xs k ≡ Some x → slice_get (xs ++ ys) k ≡ Some x
get_left [] ys k x e = no_some e
get_left (a ∷ xs) ys zero x e = e
get_left (a ∷ xs) ys (suc k) x e = get_left xs ys k x e

pub get_right : {X : Type 0} (xs ys : List X) (j : ℕ) (x : X) → slice_get ys j ≡ Some x → slice_get (xs ++ ys) (length xs + j) ≡ Some x
get_right [] ys j x e = let is : j ≡ 0 + j = omega arith in subst (λ (n : ℕ). slice_get ys n ≡ Some x) is e
get_right (a ∷ xs) ys j x e = let is : suc (length xs + j) ≡ suc (length xs) + j = omega arith in subst (λ (n : ℕ). slice_get (a ∷ (xs ++ ys)) n ≡ Some x) is (get_right xs ys j x e)

pub get_within : {X : Type 0} (xs : List X) (k : ℕ) (x : X) → slice_get xs k ≡ Some x → k < length xs
get_within [] k x e = no_some e
get_within (a ∷ xs) zero x e = omega arith
get_within (a ∷ xs) (suc k) x e = let h = get_within xs k x e in omega (arith, h)

pub get_cases : {X : Type 0} (xs ys : List X) (k : ℕ) (x : X) → slice_get (xs ++ ys) k ≡ Some x → (slice_get xs k ≡ Some x) ⊎ ((j : ℕ) × (k ≡ length xs + j) × (slice_get ys j ≡ Some x))
get_cases [] ys k x e = inr (k, omega arith, e)
get_cases (a ∷ xs) ys zero x e = inl e
get_cases (a ∷ xs) ys (suc k) x e = ⊎_elim (λ h. inl h) (λ (j, is, h). inr (j, omega (arith, is), h)) (get_cases xs ys k x e)

-- ---- entries of a history that has gained some

-- entry e stands in the list of entries, behind the loaded batches
pub slot : (bs : List Batch) (es : List Entry) (e : ℕ) (x : Entry) → option_flatten (slice_get (map (λ b. None) bs ++ map (λ y. Some y) es) e) ≡ Some x → (i : ℕ) × (e ≡ length bs + i) × (slice_get es i ≡ Some x)
slot [] [] e x is = no_some is
slot [] (y ∷ es) zero x is = (0, refl, is)
slot [] (y ∷ es) (suc e) x is = let (i, at, there) = slot [] es e x is in (suc i, omega (arith, at), there)
slot (b ∷ bs) es zero x is = no_some is
slot (b ∷ bs) es (suc e) x is = let (i, at, there) = slot bs es e x is in (i, omega (arith, at), there)

slot_here : (es : List Entry) (i : ℕ) (x : Entry) → slice_get es i ≡ Some x → option_flatten (slice_get (map (λ y. Some y) es) i) ≡ Some x
slot_here [] i x is = no_some is
slot_here (y ∷ es) zero x is = is
slot_here (y ∷ es) (suc i) x is = slot_here es i x is

pub slot_back : (bs : List Batch) (es : List Entry) (i : ℕ) (x : Entry) → slice_get es i ≡ Some x → option_flatten (slice_get (map (λ b. None) bs ++ map (λ y. Some y) es) (length bs + i)) ≡ Some x
slot_back [] es i x is = let at : i ≡ 0 + i = omega arith in subst (λ (n : ℕ). option_flatten (slice_get (map (λ y. Some y) es) n) ≡ Some x) at (slot_here es i x is)
slot_back (b ∷ bs) es i x is = let at : suc (length bs + i) ≡ suc (length bs) + i = omega arith in subst (λ (n : ℕ). option_flatten (slice_get (map (λ b. None) (b ∷ bs) ++ map (λ y. Some y) es) n) ≡ Some x) at (slot_back bs es i x is)

pub entry_below : (h : History) (e : ℕ) (x : Entry) → entry_at h e ≡ Some x → e < size h
entry_below h e x is = let (i, at, there) = slot h.loaded h.entries e x is in let within = get_within h.entries i x there in omega (arith, at, within)

pub entry_old : (h : History) (new : List Entry) (e : ℕ) (x : Entry) → entry_at h e ≡ Some x → entry_at (with_entries h new) e ≡ Some x
entry_old h new e x is =
    let (i, at, there) = slot h.loaded h.entries e x is in
    subst (λ (n : ℕ). entry_at (with_entries h new) n ≡ Some x) (sym at) (slot_back h.loaded (h.entries ++ new) i x (get_left h.entries new i x there))

pub entry_new : (h : History) (new : List Entry) (i : ℕ) (x : Entry) → slice_get new i ≡ Some x → entry_at (with_entries h new) (size h + i) ≡ Some x
entry_new h new i x there =
    let at : length h.loaded + (length h.entries + i) ≡ size h + i = omega arith in
    subst (λ (n : ℕ). entry_at (with_entries h new) n ≡ Some x) at (slot_back h.loaded (h.entries ++ new) (length h.entries + i) x (get_right h.entries new i x there))

-- an entry is an old one or a new one
pub entry_cases : (h : History) (new : List Entry) (e : ℕ) (x : Entry) → entry_at (with_entries h new) e ≡ Some x → (entry_at h e ≡ Some x) ⊎ ((i : ℕ) × (e ≡ size h + i) × (slice_get new i ≡ Some x))
entry_cases h new e x is =
    let (i, at, there) = slot h.loaded (h.entries ++ new) e x is in
    ⊎_elim
    (λ old. inl (subst (λ (n : ℕ). entry_at h n ≡ Some x) (sym at) (slot_back h.loaded h.entries i x old)))
    (λ (j, same, old). inr (j, omega (arith, at, same), old))
    (get_cases h.entries new i x there)

-- ---- what was said of the shorter history holds of the longer one

pub batches_more : (h : History) (new : List Entry) → batches (with_entries h new) ≡ batches h ++ map (λ e. e.batch) new
batches_more h new = ap (λ (l : List Batch). h.loaded ++ l) (map-append (λ e. e.batch) h.entries new) ∙ sym (append_assoc h.loaded (map (λ e. e.batch) h.entries) (map (λ e. e.batch) new))

pub length_batches : (h : History) → length (batches h) ≡ size h
length_batches h = length-append h.loaded (map (λ e. e.batch) h.entries) ∙ ap (λ (n : ℕ). length h.loaded + n) (length-map h.entries (λ (e : Entry). e.batch))

pub prims_kept : (bs cs : List Batch) (m : ℕ) → m ≤ length bs → prims_at (bs ++ cs) m ≡ prims_at bs m
prims_kept bs cs m h = ap prims_of (take-append-le m bs cs h)

page_kept : (bs cs : List Batch) (m k : ℕ) (q : Query) (c : Result Cursor ℕ) → m ≤ length bs → page_reply (bs ++ cs) m k q c ≡ page_reply bs m k q c
page_kept bs cs m k q (Err offset) h = refl
page_kept bs cs m k q (Ok c) h = by (nat_lt m c.dateline) refl
  where
    ahead : List ℕ
    ahead = err_line m k (cursor_ahead c.dateline m)

    at : List Batch → List ℕ
    at batches = reply (prims_at batches c.dateline) c.dateline k true (Some c.after) q

    by : (b : Bool) → nat_lt m c.dateline ≡ b → page_reply (bs ++ cs) m k q (Ok c) ≡ page_reply bs m k q (Ok c)
    by true t = ap (λ (b : Bool). if b then ahead else at (bs ++ cs)) t ∙ sym (ap (λ (b : Bool). if b then ahead else at bs) t)
    by false f =
        let within : c.dateline ≤ length bs = let e = ltb-false m c.dateline f in omega (arith, e, h) in
        ap (λ (b : Bool). if b then ahead else at (bs ++ cs)) f
        ∙ ap (λ (prims : List Primitive). reply prims c.dateline k true (Some c.after) q) (prims_kept bs cs c.dateline within)
        ∙ sym (ap (λ (b : Bool). if b then ahead else at bs) f)

pub query_kept : (bs cs : List Batch) (m k : ℕ) (a : CursorAsk) (q : Query) → m ≤ length bs → query_reply (bs ++ cs) m k (record { cursor = a; query = q }) ≡ query_reply bs m k (record { cursor = a; query = q })
query_kept bs cs m k no_cursor q h = ap (λ (prims : List Primitive). reply prims m k false None q) (prims_kept bs cs m h)
query_kept bs cs m k first_page q h = ap (λ (prims : List Primitive). reply prims m k true None q) (prims_kept bs cs m h)
query_kept bs cs m k (page_after t) q h = page_kept bs cs m k q (cursor_of t) h

pub reply_kept_at : (bs cs : List Batch) (m k : ℕ) (r : ReadSet) → m ≤ length bs → reply_of (bs ++ cs) m k r ≡ reply_of bs m k r
reply_kept_at bs cs m k (one_query r) h = query_kept bs cs m k r.cursor r.query h
reply_kept_at bs cs m k (queries rs) h = ap (λ (prims : List Primitive). within_reply m k (ok_line m k
    (list (items_of (map (λ r. answer_item (answer prims m (asks_page r.cursor) None r.query)) rs))))) (prims_kept bs cs m h)

pub reply_kept : (h : History) (new : List Entry) (m k : ℕ) (r : ReadSet) → m ≤ size h → reply_of (batches (with_entries h new)) m k r ≡ reply_of (batches h) m k r
reply_kept h new m k r within =
    let long : m ≤ length (batches h) = omega (arith, within, length_batches h) in
    ap (λ (bs : List Batch). reply_of bs m k r) (batches_more h new) ∙ reply_kept_at (batches h) (map (λ e. e.batch) new) m k r long

stop_at : (place n : ℕ) (es : List Entry) → n ≤ place → take_below place n es ≡ []
stop_at place n [] h = refl
stop_at place n (y ∷ es) h = ap (λ (b : Bool). if b then y ∷ take_below (place + 1) n es else []) (le-ltb place n h)

take_kept : (place n : ℕ) (es new : List Entry) → n ≤ place + length es → take_below place n (es ++ new) ≡ take_below place n es
take_kept place n [] new h = stop_at place n new (omega (arith, h))
take_kept place n (y ∷ es) new h = ap (λ (l : List Entry). if nat_lt place n then y ∷ l else []) (take_kept (place + 1) n es new (omega (arith, h)))

pub upto_kept : (h : History) (new : List Entry) (n : ℕ) → n ≤ size h → upto n (with_entries h new) ≡ upto n h
upto_kept h new n within = ap (λ (es : List Entry). record { loaded = h.loaded; entries = es }) (take_kept (length h.loaded) n h.entries new within)

of_line_kept : (h : History) (new : List Entry) (k e : ℕ) (x : Entry) → IsOfLine h k e x → IsOfLine (with_entries h new) k e x
of_line_kept h new k e x (there, line) = (entry_old h new e x there, line)

pub size_more : (h : History) (new : List Entry) → size h ≤ size (with_entries h new)
size_more h new = let long = length-append h.entries new in omega (arith, long)

within_kept : (h : History) (new : List Entry) (n : ℕ) → IsWithin h n → IsWithin (with_entries h new) n
within_kept h new n within = let longer = size_more h new in record { loaded = within.loaded; size = omega (arith, within.size, longer) }

pub prints_kept : (h : History) (new : List Entry) (k : ℕ) (bytes : List ℕ) (o : Outcome) (reply : List ℕ) → Prints h k bytes o reply → Prints (with_entries h new) k bytes o reply
prints_kept h new k bytes no_request reply p = p
prints_kept h new k bytes no_memory reply p = p
prints_kept h new k bytes (stored e) reply (x, s, line, asked, is) = (x, s, of_line_kept h new k e x line, asked, is)
prints_kept h new k bytes (late e) reply (x, line, is) = (x, of_line_kept h new k e x line, is)
prints_kept h new k bytes in_doubt reply p = p
prints_kept h new k bytes not_tried reply p = p
prints_kept h new k bytes (refused n) reply (s, w, moment, f, asked, within, does, is) = (
  s,
  w,
  moment,
  f,
  asked,
  within_kept h new n within,
  ap (λ (g : History). exec_line g w moment (length bytes)) (upto_kept h new n within.size) ∙ does,
  is,
)
prints_kept h new k bytes (answered m) reply (s, r, asked, most, is) =
    let longer = size_more h new in
    (s, r, asked, omega (arith, most, longer), is ∙ sym (reply_kept h new m k r most))

-- ---- counting the entries of a round and those before it

step_by : (Entry → Bool) → ℕ → Entry → ℕ
step_by test n x = n + cond (test x) 1 0

fold_all : (test : Entry → Bool) (es : List Entry) (a : ℕ) → ((i : ℕ) (x : Entry) → slice_get es i ≡ Some x → test x ≡ true) → fold (λ n x. n + cond (test x) 1 0) a es ≡ a + length es
fold_all test [] a each = omega arith
fold_all test (y ∷ es) a each =
    let one : ◌≡◌ {A = ℕ} (cond (test y) 1 0) 1 = ap (λ (b : Bool). cond b 1 0) (each 0 y refl) in
    let rest = fold_all test es (a + cond (test y) 1 0) (λ i x there. each (suc i) x there) in
    let sum : (a + cond (test y) 1 0) + length es ≡ a + suc (length es) = omega (arith, one) in
    rest ∙ sum

fold_grows : (test : Entry → Bool) (es : List Entry) (a b : ℕ) → a ≤ b → a ≤ fold (λ n x. n + cond (test x) 1 0) b es
fold_grows test [] a b h = h
fold_grows test (y ∷ es) a b h = fold_grows test es a (b + cond (test y) 1 0) (omega (arith, h))

fold_more : (f g : Entry → Bool) → ((x : Entry) → f x ≡ true → g x ≡ true) → (es : List Entry) (a b : ℕ) → a ≤ b → fold (λ n x. n + cond (f x) 1 0) a es ≤ fold (λ n x. n + cond (g x) 1 0) b es
fold_more f g also [] a b h = h
fold_more f g also (y ∷ es) a b h = fold_more f g also es (a + cond (f y) 1 0) (b + cond (g y) 1 0) (by (f y) refl)
  where
    by : (t : Bool) → f y ≡ t → a + cond (f y) 1 0 ≤ b + cond (g y) 1 0
    by true e =
        let one : ◌≡◌ {A = ℕ} (cond (f y) 1 0) 1 = ap (λ (c : Bool). cond c 1 0) e in
        let two : ◌≡◌ {A = ℕ} (cond (g y) 1 0) 1 = ap (λ (c : Bool). cond c 1 0) (also y e) in
        omega (arith, one, two, h)
    by false e =
        let one : ◌≡◌ {A = ℕ} (cond (f y) 1 0) 0 = ap (λ (c : Bool). cond c 1 0) e in
        omega (arith, one, h)

count_more : (f g : Entry → Bool) → ((x : Entry) → f x ≡ true → g x ≡ true) → (es new : List Entry) → count_by f es ≤ count_by g (es ++ new)
count_more f g also es new =
    let joined = fold-append (λ (n : ℕ) (x : Entry). n + cond (g x) 1 0) 0 es new in
    let more = fold_more f g also es 0 0 (omega arith) in
    let grows = fold_grows g new (fold (λ (n : ℕ) (x : Entry). n + cond (f x) 1 0) 0 es) (fold (λ (n : ℕ) (x : Entry). n + cond (g x) 1 0) 0 es) more in
    subst (λ (n : ℕ). count_by f es ≤ n) (sym joined) grows

count_all : (test : Entry → Bool) (es : List Entry) → ((i : ℕ) (x : Entry) → slice_get es i ≡ Some x → test x ≡ true) → count_by test es ≡ length es
count_all test es each = let all = fold_all test es 0 each in omega (arith, all)

stands : (runs : List Run) (round : ℕ) (x : Entry) (q : Run) → slice_get runs x.line ≡ Some q → q.line.round ≤ round → stands_upto runs round x ≡ true
stands runs round x q there h = ap (λ (o : Option Run). is_upto round o) there ∙ le-leb q.line.round round h

stands_kept : (runs more : List Run) (round : ℕ) (x : Entry) → stands_upto runs round x ≡ true → stands_upto (runs ++ more) round x ≡ true
stands_kept runs more round x = by (slice_get runs x.line) refl
  where
    by : (o : Option Run) → slice_get runs x.line ≡ o → stands_upto runs round x ≡ true → stands_upto (runs ++ more) round x ≡ true
    by None e is = let no = sym (ap (λ (o : Option Run). is_upto round o) e) ∙ is in absurd (apart no)
      where
        apart : false ≡ true → ⊥
        apart q = cc
    by (Some q) e is = ap (λ (o : Option Run). is_upto round o) (get_left runs more x.line q e) ∙ sym (ap (λ (o : Option Run). is_upto round o) e) ∙ is

-- ---- datelines that were printed

cursor_within : (m : ℕ) (c : Result Cursor ℕ) → cursor_dateline m c ≤ m
cursor_within m (Err offset) = omega arith
cursor_within m (Ok c) = by (nat_le c.dateline m) refl
  where
    by : (b : Bool) → nat_le c.dateline m ≡ b → cursor_dateline m (Ok c) ≤ m
    by true t = let is : cursor_dateline m (Ok c) ≡ c.dateline = ap (λ (b : Bool). if b then c.dateline else m) t in let within = leb-true c.dateline m t in omega (arith, is, within)
    by false f = let is : cursor_dateline m (Ok c) ≡ m = ap (λ (b : Bool). if b then c.dateline else m) f in omega (arith, is)

pub ask_within : (m : ℕ) (a : CursorAsk) → ask_dateline m a ≤ m
ask_within m no_cursor = omega arith
ask_within m first_page = omega arith
ask_within m (page_after t) = cursor_within m (cursor_of t)

pub read_within : (m : ℕ) (r : ReadSet) → read_dateline m r ≤ m
read_within m (one_query r) = ask_within m r.cursor
read_within m (queries rs) = omega arith

pub line_within : (m : ℕ) (l : Result Line InputFault) → line_dateline m l ≤ m
line_within m (Ok (read s r)) = read_within m r
line_within m (Ok (write s w)) = omega arith
line_within m (Err f) = omega arith

-- no dateline is printed above the history
pub told_within : (h : History) (k : ℕ) (bytes : List ℕ) (o : Outcome) (reply : List ℕ) (d : ℕ) → Prints h k bytes o reply → told_dateline bytes o ≡ Some d → d ≤ size h
told_within h k bytes no_request reply d p e = no_some e
told_within h k bytes no_memory reply d p e = no_some e
told_within h k bytes (stored n) reply d (x, s, (there, line), asked, is) e = let below = entry_below h n x there in let same = some_same e in omega (arith, below, same)
told_within h k bytes (refused n) reply d p e = no_some e
told_within h k bytes (late n) reply d p e = no_some e
told_within h k bytes in_doubt reply d p e = no_some e
told_within h k bytes not_tried reply d p e = no_some e
told_within h k bytes (answered m) reply d (s, r, asked, most, is) e = let within = line_within m (line_from bytes) in let same = some_same e in omega (arith, within, same, most)

-- what a write printed with ok was told too
pub stored_told : (bytes : List ℕ) (o : Outcome) (d : ℕ) → stored_dateline o ≡ Some d → told_dateline bytes o ≡ Some d
stored_told bytes no_request d e = no_some e
stored_told bytes no_memory d e = no_some e
stored_told bytes (stored n) d e = e
stored_told bytes (refused n) d e = no_some e
stored_told bytes (late n) d e = no_some e
stored_told bytes in_doubt d e = no_some e
stored_told bytes not_tried d e = no_some e
stored_told bytes (answered m) d e = no_some e

-- a number that a line has in the longer history it had before, or the line was in doubt and is a new entry
number_cases : (h : History) (new : List Entry) (k : ℕ) (o : Outcome) (n : ℕ) → HasNumber (with_entries h new) k o n → HasNumber h k o n ⊎ ((i : ℕ) × (x : Entry) × (n ≡ size h + i) × (slice_get new i ≡ Some x) × (x.line ≡ k))
number_cases h new k no_request n e = inl e
number_cases h new k no_memory n e = inl e
number_cases h new k (stored m) n e = inl e
number_cases h new k (refused m) n e = inl e
number_cases h new k (late m) n e = inl e
number_cases h new k in_doubt n (x, (there, line)) = ⊎_elim (λ old. inl (x, (old, line))) (λ (i, is, at). inr (i, x, is, at, line)) (entry_cases h new n x there)
number_cases h new k not_tried n e = inl e
number_cases h new k (answered m) n e = inl e

pub entries_after : (g : History) (es fs : List Entry) → AreEntriesAfter g es → AreEntriesAfter (with_entries g es) fs → AreEntriesAfter g (es ++ fs)
entries_after g [] fs a b = subst (λ (l : List Entry). AreEntriesAfter (record { loaded = g.loaded; entries = l }) fs) (append-nil g.entries) b
entries_after g (e ∷ es) fs (first, rest) b =
    (first, entries_after (with_entry g e) es fs rest (subst (λ (l : List Entry). AreEntriesAfter (record { loaded = g.loaded; entries = l }) fs) (sym (append_assoc g.entries (e ∷ []) es)) b))

-- ---- an explained run and one round more are an explained run

module _ (loaded : List Batch) (may : ℕ → Bool) (given : List Numbered) (output : List ℕ) (h : History) (runs : List Run) (ex : IsExplainedBy loaded may given output h runs)
    (round : ℕ) (lines : List Numbered) (out : List ℕ) (new : List Entry) (more : List Run) (rd : IsRoundAfter may h runs round lines out new more) where
  -- an old entry is of a line before the round
  old_line : (e : ℕ) (x : Entry) → entry_at h e ≡ Some x → x.line < length runs
  old_line e x at = let (r, there, does, is) = ex.entries e x at in get_within runs x.line r there

  run_round : (k : ℕ) (r : Run) → slice_get (runs ++ more) k ≡ Some r → r.line.round ≤ round
  run_round k r at = ⊎_elim (λ old. let e = rd.earlier k r old in omega (arith, e)) (λ (j, is, there). let e = rd.this j r there in omega (arith, e)) (get_cases runs more k r at)

  new_entry : (i : ℕ) (x : Entry) → slice_get new i ≡ Some x → IsOfRun (runs ++ more) (size h + i) x
  new_entry i x there = ⊎_elim
      (λ (j, r, line, at, does, is). (r, subst (λ (n : ℕ). slice_get (runs ++ more) n ≡ Some r) (sym line) (get_right runs more j r at), does, is))
      (λ (zero_is, (r, d)). (r, get_left runs more x.line r d.there, d.does, subst (λ (o : Outcome). MayBeEntry o (size h + i)) (sym d.doubt) tt))
      (rd.entries i x there)

  all_entries : (e : ℕ) (x : Entry) → entry_at (with_entries h new) e ≡ Some x → IsOfRun (runs ++ more) e x
  all_entries e x at = ⊎_elim
      (λ old. let (r, there, does, is) = ex.entries e x old in (r, get_left runs more x.line r there, does, is))
      (λ (i, is, there). subst (λ (n : ℕ). IsOfRun (runs ++ more) n x) (sym is) (new_entry i x there))
      (entry_cases h new e x at)

  lines_differ : (i j : ℕ) (x y : Entry) → slice_get (h.entries ++ new) i ≡ Some x → slice_get (h.entries ++ new) j ≡ Some y → i < j → x.line ≡ y.line → ⊥
  lines_differ i j x y a b before same = ⊎_elim
      (λ old. ⊎_elim
      (λ older. ex.legal.lines i j x y old older before same)
      (λ (j, is, there). ⊎_elim
      (λ (l, r, line, at, does, may_be). let below = old_line (length h.loaded + i) x (slot_back h.loaded h.entries i x old) in omega (arith, below, line, same))
      (λ (zero_is, (r, d)).
      let at = slot_back h.loaded h.entries i x old in
      let (q, there, does, may_be) = ex.entries (length h.loaded + i) x at in
      (d.last (length h.loaded + i) x q at there).2 same)
      (rd.entries j y there))
      (get_cases h.entries new j y b))
      (λ (i, is, there). ⊎_elim
      (λ older. let within = get_within h.entries j y older in omega (arith, is, before, within))
      (λ (j, is', there'). (rd.order i j x y there there' (omega (arith, is, is', before))).0 same)
      (get_cases h.entries new j y b))
      (get_cases h.entries new i x a)

  kept_lower : (k : ℕ) (r : Run) (n : ℕ) → slice_get runs k ≡ Some r → TakesIn (length h.loaded) runs k r n → TakesIn (length h.loaded) (runs ++ more) k r n
  kept_lower k r n at b = record {
    loaded = b.loaded;
    rounds = λ i q d there later is. ⊎_elim
        (λ old. b.rounds i q d old later is)
        (λ (j, same, fresh). let one = rd.this j q fresh in let two = rd.earlier k r at in omega (arith, one, two, later))
        (get_cases runs more i q there);
    session = λ i q d before there same is. ⊎_elim
        (λ old. b.session i q d before old same is)
        (λ (j, place, fresh). let within = get_within runs k r at in omega (arith, place, before, within))
        (get_cases runs more i q there);
  }

  kept_bounds : (k : ℕ) (r : Run) (n : ℕ) → slice_get runs k ≡ Some r → IsBounded h runs k r n → IsBounded (with_entries h new) (runs ++ more) k r n
  kept_bounds k r n at b = record {
    lower = kept_lower k r n at b.lower;
    upper = let counts = count_more (stands_upto runs r.line.round) (stands_upto (runs ++ more) r.line.round) (stands_kept runs more r.line.round) h.entries new in let most = b.upper in omega (arith, counts, most);
  }

  told : (k : ℕ) (q : Run) (d : ℕ) → slice_get runs k ≡ Some q → told_dateline q.line.bytes q.outcome ≡ Some d → d ≤ size h
  told k q d at is = told_within h k q.line.bytes q.outcome q.reply d (ex.each k q at) is

  -- the line that was in doubt, and is the first new entry
  doubt_bounds : (k : ℕ) (r : Run) (x : Entry) → slice_get runs k ≡ Some r → x.line ≡ k → IsOldDoubt h runs x r → IsBounded h runs k r (size h)
  doubt_bounds k r x at line d = record {
    lower = record {
      loaded = omega arith;
      rounds = λ i q m there later is. told i q m there (stored_told q.line.bytes q.outcome m is);
      session = λ i q m before there same is. told i q m there is;
    };
    upper =
        let counts = count_all (stands_upto runs r.line.round) h.entries (λ i y there.
        let place = slot_back h.loaded h.entries i y there in
        let (q, is, does, may_be) = ex.entries (length h.loaded + i) y place in
        stands runs r.line.round y q is (d.last (length h.loaded + i) y q place is).0) in
        omega (arith, counts);
  }

  old_bounds : (k : ℕ) (r : Run) (n : ℕ) → slice_get runs k ≡ Some r → HasNumber (with_entries h new) k r.outcome n → IsBounded (with_entries h new) (runs ++ more) k r n
  old_bounds k r n at has = ⊎_elim
      (λ old. kept_bounds k r n at (ex.bounds k r n at old))
      (λ (i, x, is, there, line). ⊎_elim
      (λ (j, q, place, fresh, does, may_be). let within = get_within runs k r at in absurd (apart j x.line place line within))
      (λ (zero_is, (q, d)).
      let same : q ≡ r = some_same (sym d.there ∙ ap (λ (l : ℕ). slice_get runs l) line ∙ at) in
      let size_is : size h ≡ n = omega (arith, is, zero_is) in
      subst (λ (m : ℕ). IsBounded (with_entries h new) (runs ++ more) k r m) size_is (kept_bounds k r (size h) at (doubt_bounds k r x at line (subst (IsOldDoubt h runs x) same d))))
      (rd.entries i x there))
      (number_cases h new k r.outcome n has)
    where
      apart : (j l : ℕ) → l ≡ length runs + j → l ≡ k → k < length runs → ⊥
      apart j l place line within = omega (arith, place, line, within)

  new_bounds : (j : ℕ) (r : Run) (n : ℕ) → slice_get more j ≡ Some r → HasNumber (with_entries h new) (length runs + j) r.outcome n → IsBounded (with_entries h new) (runs ++ more) (length runs + j) r n
  new_bounds j r n at has =
      let (lower, most) = rd.bounds j r n at has in
      let counts = count_all (stands_upto (runs ++ more) r.line.round) (h.entries ++ new) (λ i y there.
      let (q, is, does, may_be) = all_entries (length h.loaded + i) y (slot_back h.loaded (h.entries ++ new) i y there) in
      let one = run_round y.line q is in
      let two = rd.this j r at in
      stands (runs ++ more) r.line.round y q is (omega (arith, one, two))) in
      record { lower = lower; upper = omega (arith, counts, most) }

  all_bounds : (k : ℕ) (r : Run) (n : ℕ) → slice_get (runs ++ more) k ≡ Some r → HasNumber (with_entries h new) k r.outcome n → IsBounded (with_entries h new) (runs ++ more) k r n
  all_bounds k r n at has = ⊎_elim
      (λ old. old_bounds k r n old has)
      (λ (j, is, there). subst (λ (l : ℕ). IsBounded (with_entries h new) (runs ++ more) l r n) (sym is) (new_bounds j r n there (subst (λ (l : ℕ). HasNumber (with_entries h new) l r.outcome n) is has)))
      (get_cases runs more k r at)

  all_each : (k : ℕ) (r : Run) → slice_get (runs ++ more) k ≡ Some r → Prints (with_entries h new) k r.line.bytes r.outcome r.reply
  all_each k r at = ⊎_elim
      (λ old. prints_kept h new k r.line.bytes r.outcome r.reply (ex.each k r old))
      (λ (j, is, there). subst (λ (l : ℕ). Prints (with_entries h new) l r.line.bytes r.outcome r.reply) (sym is) (rd.each j r there))
      (get_cases runs more k r at)

  all_moments : (e : ℕ) (x : Entry) → entry_at (with_entries h new) e ≡ Some x → MayBe may x.moment
  all_moments e x at = ⊎_elim (λ old. ex.moments e x old) (λ (i, is, there). rd.moments i x there) (entry_cases h new e x at)

  abbrev Before : Entry → Entry → Run → Run → Type 0
  Before x y q r = ((x.line < y.line) × SameSession q r) ⊎ (q.line.round < r.line.round)

  -- of a new entry and an old one, the new one does not come before
  new_old : (i e : ℕ) (x y : Entry) (q r : Run) → slice_get new i ≡ Some x → entry_at h e ≡ Some y → slice_get (runs ++ more) x.line ≡ Some q → slice_get (runs ++ more) y.line ≡ Some r → Before x y q r → ⊥
  new_old i e x y q r a b at_x at_y before =
      let (s, y_is, does, may_be) = ex.entries e y b in
      let r_is : s ≡ r = some_same (sym (get_left runs more y.line s y_is) ∙ at_y) in
      ⊎_elim
      (λ (j, p, line, fresh, does', may_be').
      let q_is : p ≡ q = some_same (sym (subst (λ (n : ℕ). slice_get (runs ++ more) n ≡ Some p) (sym line) (get_right runs more j p fresh)) ∙ at_x) in
      let q_round = rd.this j p fresh in
      let r_round = rd.earlier y.line s y_is in
      ⊎_elim
      (λ (line_before, same). let below = old_line e y b in omega (arith, line, line_before, below))
      (λ later. let p_q = ap (λ (z : Run). z.line.round) q_is in let s_r = ap (λ (z : Run). z.line.round) r_is in omega (arith, q_round, r_round, later, p_q, s_r))
      before)
      (λ (zero_is, (p, d)).
      let q_is : p ≡ q = some_same (sym (get_left runs more x.line p d.there) ∙ at_x) in
      let (r_round, line_after, differ) = d.last e y s b y_is in
      ⊎_elim
      (λ (line_before, same). let after = line_after (subst (λ (z : Run). SameSession z s) (sym q_is) (subst (SameSession q) (sym r_is) same)) in omega (arith, after, line_before))
      (λ later. let p_q = ap (λ (z : Run). z.line.round) q_is in let s_r = ap (λ (z : Run). z.line.round) r_is in omega (arith, r_round, later, p_q, s_r))
      before)
      (rd.entries i x a)

  -- of two new entries, the later one does not come before
  later_first : (i j : ℕ) (x y : Entry) (q r : Run) → slice_get new i ≡ Some x → slice_get new j ≡ Some y → slice_get (runs ++ more) x.line ≡ Some q → slice_get (runs ++ more) y.line ≡ Some r → j < i → Before x y q r → ⊥
  later_first i j x y q r a b at_x at_y after before = ⊎_elim
      (λ (line_before, (s, one, two)). let line_after = (rd.order j i y x b a after).1 r q at_y at_x (s, two, one) in omega (arith, line_before, line_after))
      (λ later. ⊎_elim
      (λ (l, p, line, fresh, does, may_be).
      let q_is : p ≡ q = some_same (sym (subst (λ (n : ℕ). slice_get (runs ++ more) n ≡ Some p) (sym line) (get_right runs more l p fresh)) ∙ at_x) in
      let p_q = ap (λ (z : Run). z.line.round) q_is in
      let q_round = rd.this l p fresh in
      let r_round = run_round y.line r at_y in
      omega (arith, q_round, r_round, later, p_q))
      (λ (zero_is, d). omega (arith, zero_is, after))
      (rd.entries i x a))
      before

  new_new : (i j : ℕ) (x y : Entry) (q r : Run) → slice_get new i ≡ Some x → slice_get new j ≡ Some y → slice_get (runs ++ more) x.line ≡ Some q → slice_get (runs ++ more) y.line ≡ Some r → Before x y q r → i < j
  new_new i j x y q r a b at_x at_y before = by (nat_lt i j) refl
    where
      same_place : i ≡ j → ⊥
      same_place is =
          let x_y : x ≡ y = some_same (sym a ∙ ap (λ (n : ℕ). slice_get new n) is ∙ b) in
          let q_r : q ≡ r = some_same (sym at_x ∙ ap (λ (z : Entry). slice_get (runs ++ more) z.line) x_y ∙ at_y) in
          let lines_same = ap (λ (z : Entry). z.line) x_y in
          let rounds_same = ap (λ (z : Run). z.line.round) q_r in
          ⊎_elim (λ (line_before, same). omega (arith, line_before, lines_same)) (λ later. omega (arith, later, rounds_same)) before

      not_before : j ≤ i → ⊥
      not_before after = by_after (nat_lt j i) refl
        where
          by_after : (b : Bool) → nat_lt j i ≡ b → ⊥
          by_after true t = later_first i j x y q r a b at_x at_y (ltb-true j i t) before
          by_after false f = let e = ltb-false j i f in same_place (omega (arith, e, after))

      by : (t : Bool) → nat_lt i j ≡ t → i < j
      by true t = ltb-true i j t
      by false f = absurd (not_before (ltb-false i j f))

  all_order : (d e : ℕ) (x y : Entry) (q r : Run) → entry_at (with_entries h new) d ≡ Some x → entry_at (with_entries h new) e ≡ Some y → slice_get (runs ++ more) x.line ≡ Some q → slice_get (runs ++ more) y.line ≡ Some r → Before x y q r → d < e
  all_order d e x y q r a b at_x at_y before = ⊎_elim
      (λ old. ⊎_elim
      (λ older.
      let (p, p_at, does, may_be) = ex.entries d x old in
      let (s, s_at, does', may_be') = ex.entries e y older in
      let q_is : p ≡ q = some_same (sym (get_left runs more x.line p p_at) ∙ at_x) in
      let r_is : s ≡ r = some_same (sym (get_left runs more y.line s s_at) ∙ at_y) in
      ex.order d e x y q r old older (p_at ∙ ap (λ (z : Run). Some z) q_is) (s_at ∙ ap (λ (z : Run). Some z) r_is) before)
      (λ (j, is, there). let below = entry_below h d x old in omega (arith, below, is))
      (entry_cases h new e y b))
      (λ (i, is, there). ⊎_elim
      (λ older. absurd (new_old i e x y q r there older at_x at_y before))
      (λ (j, is', there'). let less = new_new i j x y q r there there' at_x at_y before in omega (arith, is, is', less))
      (entry_cases h new e y b))
      (entry_cases h new d x a)

  abbrev printed : Run → List ℕ
  printed r = r.reply ++ 10 ∷ []

  pub one_round_more : IsExplainedBy loaded may (given ++ lines) (output ++ out) (with_entries h new) (runs ++ more)
  one_round_more = record {
    begins = ex.begins;
    legal = record { loaded = ex.legal.loaded; entries = entries_after (record { loaded = h.loaded; entries = [] }) h.entries new ex.legal.entries rd.legal; lines = lines_differ };
    lines = map-append (λ (r : Run). r.line) runs more ∙ ap (λ (l : List Numbered). l ++ map (λ (r : Run). r.line) more) ex.lines ∙ ap (λ (l : List Numbered). given ++ l) rd.lines;
    replies = ap (λ (l : List ℕ). l ++ out) ex.replies ∙ ap (λ (l : List ℕ). flat_map printed runs ++ l) rd.replies ∙ sym (flat_map-append printed runs more);
    each = all_each;
    entries = all_entries;
    bounds = all_bounds;
    order = all_order;
    moments = all_moments;
  }

-- before the first round
pub no_round : (loaded : List Batch) (may : ℕ → Bool) → all_follow builtin 0 loaded ≡ true → IsExplainedBy loaded may [] [] (record { loaded = loaded; entries = [] }) []
no_round loaded may follow = record {
  begins = refl;
  legal = record { loaded = follow; entries = tt; lines = λ i j x y a b before same. no_some a };
  lines = refl;
  replies = refl;
  each = λ k r at. no_some at;
  entries = λ e x at. let (i, is, there) = slot loaded [] e x at in no_some there;
  bounds = λ k r n at has. no_some at;
  order = λ d e x y q r a b at_x at_y before. no_some at_x;
  moments = λ e x at. let (i, is, there) = slot loaded [] e x at in no_some there;
}

-- ---- reading the input line by line

abbrev pub NoNewline : List ℕ → Type 0
NoNewline line = AllByRecursion (λ c. (c == 10) ≡ false) line

-- up to a newline the bytes are one piece
pub one_piece : (front line rest : List ℕ) → NoNewline line → pieces front (line ++ (10 ∷ rest)) ≡ without_return (front ++ line) ∷ pieces [] rest
one_piece front [] rest none = ap (λ (l : List ℕ). without_return l ∷ pieces [] rest) (sym (append-nil front))
one_piece front (c ∷ line) rest (other, none) =
    ap (λ (b : Bool). if b then without_return front ∷ pieces [] (line ++ (10 ∷ rest)) else pieces (front ++ (c ∷ [])) (line ++ (10 ∷ rest))) other
    ∙ one_piece (front ++ (c ∷ [])) line rest none ∙ ap (λ (l : List ℕ). without_return l ∷ pieces [] rest) (append_assoc front (c ∷ []) line)

-- and so are those up to the end of input
pub last_piece : (front line : List ℕ) → NoNewline line → pieces front line ≡ (front ++ line) ∷ []
last_piece front [] none = ap (λ (l : List ℕ). l ∷ []) (sym (append-nil front))
last_piece front (c ∷ line) (other, none) =
    ap (λ (b : Bool). if b then without_return front ∷ pieces [] line else pieces (front ++ (c ∷ [])) line) other
    ∙ last_piece (front ++ (c ∷ [])) line none ∙ ap (λ (l : List ℕ). l ∷ []) (append_assoc front (c ∷ []) line)
