-- What is left of the rows of a page falls by the steps that are taken.
use Rattle.std.proofs.Common.{◌≡◌, ℕ, zero, suc, ◌+◌, ◌*◌, ◌<◌, ◌≤◌, List, [], ◌∷◌, map, Bool, true, false, Option, Some, None, refl, ap, sym, subst, ◌∙◌, arith}
use Rattle.std.specs.Prelude.{drop, slice_get, sum_by, Result, IfOk, if◌then◌else◌}
use Rattle.std.proofs.lemmas.Result.{IfOk-weaker}
use Rattle.std.proofs.lemmas.List.Sums.{sum_by-cons}
use Rattle.gd_prim.specs.declared.Batch.{Batch}
use Rattle.gd_prim.specs.declared.Primitive.{Primitive}
use Rattle.gd_prim.specs.History.{prims_of}
use Rattle.gd_defs.specs.Asked.{Asked}
use Rattle.gd_defs.specs.Plan.{template_of}
use Rattle.gd_defs.specs.Rows as defs
use Rattle.gd_defs.specs.Reply.{Mark, page}
use Rattle.gd_defs.specs.Template.{Template, passes_template}
use Rattle.gd_shape.specs.PassedOn.{judge_turns, KeepsPage, page_objects}
use Rattle.gd_work_laws.specs.Scan.{candidate_turns}
use Rattle.gd_work_laws.specs.Turns.{test_turns, build_turns}
use Rattle.gd_work_laws.specs.Reading.{place_steps, gathering_most, page_most}
use Rattle.gd_window.specs.Kept.{Kept}
use Rattle.gd_plan.specs.Asked.{asked_view}
use Rattle.gd_plan.specs.declared.asked.Asked.{Asked as Found}
use Rattle.gd_roots.specs.PassedOn.{matcher_ahead}
use Rattle.gd_tree.specs.Trees.{Tree}
use Rattle.gd_read.specs.Left.{crowded_left, gain_left, gathering_left, page_places, prints_most, round_left, rows_left, rows_most, row_left, walked_left}
use Rattle.gd_read.specs.Stages.{TreeGains}
use Rattle.gd_read.specs.declared.gathering.Gathered.{Gathered}
use Rattle.gd_read.specs.declared.gathering.RowGain.{RowGain}
use Rattle.gd_read.specs.declared.gathering.RowGain.TheVariants as gain
use Rattle.gd_read.specs.declared.gathering.RowsWalked.{RowsWalked}
use Rattle.gd_read.specs.declared.gathering.Gathering.{Gathering}
use Rattle.gd_read.specs.declared.trying.Trying.{Trying}
use Rattle.gd_read.specs.declared.stage.Round.{Round}

-- ---- one row

-- LAW: judging a row takes no more than 16 steps for each of its turns but one
pub judged_few : (prims : List Primitive) (q : Asked) (t : Template) (o r s : ℕ) → t ≡ template_of q → s ≤ r + 1 + 3 + 16 * judge_turns prims t o → s + 12 ≤ r + 16 * candidate_turns prims q o
judged_few prims q t o r s same few = by (passes_template prims (template_of q) o) (ap (λ u. judge_turns prims u o) same)
  where
    by : (b : Bool) → judge_turns prims t o ≡ test_turns prims (template_of q) o + (if b then build_turns prims (template_of q) o else 0)
        → s + 12 ≤ r + 16 * (1 + test_turns prims (template_of q) o + (if b then 1 + build_turns prims (template_of q) o else 0))
    by true is = omega (arith, is, few)
    by false is = omega (arith, is, few)

drop_next : (xs : List ℕ) (n x : ℕ) → slice_get xs n ≡ Some x → drop n xs ≡ x ∷ drop (suc n) xs
drop_next [] n x is = absurd (cc)
drop_next (y ∷ xs) zero x is = let same : y ≡ x = cc in ap (λ z. z ∷ xs) same
drop_next (y ∷ xs) (suc n) x is = drop_next xs n x is

-- LAW: the next row, and those behind it
pub rows_next : (prims : List Primitive) (q : Asked) (os : List ℕ) (n o : ℕ) → slice_get os n ≡ Some o → rows_most prims q (drop n os) ≡ 64 * (2 + candidate_turns prims q o) + rows_most prims q (drop (n + 1) os)
rows_next prims q os n o is =
    ap (sum_by (place_steps prims q)) (drop_next os n o is)
    ∙ sum_by-cons (place_steps prims q) o (drop (suc n) os)
    ∙ ap (λ m. place_steps prims q o + rows_most prims q (drop m os)) (one_more n)
  where
    one_more : (m : ℕ) → suc m ≡ m + 1
    one_more m = omega arith

-- ---- rows that are judged

-- LAW: one more is known; the steps that it took are paid, and one more
pub row_passed : (c g s u r a b : ℕ) → a ≡ 64 * (2 + c) + b → u + 12 ≤ s + 16 * c → s + g + a ≤ r → u + (g + 1) + b ≤ r
row_passed c g s u r a b is few less = omega (arith, is, few, less)

-- LAW: one is crowded
pub row_crowded : (c g s u r a b : ℕ) → a ≡ 64 * (2 + c) + b → u + 12 ≤ s + 16 * c → s + g + a ≤ r → u + (1 + (48 * (2 + c) + 1 + b)) ≤ r
row_crowded c g s u r a b is few less = omega (arith, is, few, less)

-- LAW: with one they weigh too much
pub row_heavy : (c g s u r a b : ℕ) → a ≡ 64 * (2 + c) + b → u + 12 ≤ s + 16 * c → s + g + a ≤ r → u + 0 ≤ r
row_heavy c g s u r a b is few less = omega (arith, is, few, less)

-- LAW: where the budget is spent, one was looked at
pub rows_spent : (r b s g x y : ℕ) → 0 < b → r + b ≤ s → (g ≡ 0 → s ≤ r) → s + g + x ≤ y → s + (1 + x) ≤ y
rows_spent r b s zero x y some spent first less = absurd (let none = first refl in omega (arith, some, spent, none))
rows_spent r b s (suc g) x y some spent first less = omega (arith, less)

-- LAW: the steps so far are paid
pub rows_paid : (s g x y : ℕ) → s + g + x ≤ y → s ≤ y
rows_paid s g x y less = omega (arith, less)

-- LAW: the steps of one are paid
pub row_covered : (c g s u r a b : ℕ) → a ≡ 64 * (2 + c) + b → u + 12 ≤ s + 16 * c → s + g + a ≤ r → u ≤ r
row_covered c g s u r a b is few less = omega (arith, is, few, less)

-- ---- a page

-- LAW: the steps of the objects of rows are those of the rows
pub sum_objects : (f : ℕ → ℕ) (rs : List defs.Row) → sum_by f (map (λ (r : defs.Row). r.object) rs) ≡ sum_by (λ (r : defs.Row). f r.object) rs
sum_objects f [] = refl
sum_objects f (r ∷ rs) =
    sum_by-cons f r.object (map (λ (x : defs.Row). x.object) rs) ∙ ap (λ m. f r.object + m) (sum_objects f rs)
    ∙ sym (sum_by-cons (λ (x : defs.Row). f x.object) r rs)

-- LAW: a page begins
pub page_begun : (prims : List Primitive) (q : Asked) (after : Option Mark) → rows_most prims q (page_places prims q after) + 2 + prints_most prims q after ≤ page_most prims q after
page_begun prims q after = by _ _ (prints_most prims q after) (sum_objects (place_steps prims q) (page prims q after))
  where
    by : (a b m : ℕ) → a ≡ b → a + 2 + m ≤ b + 256 + m
    by a b m same = omega (arith, same)

-- LAW: printing is a part of it
pub page_printed : {E : Type 0} (n : ℕ) (batches : List Batch) (q : Asked) (after : Option Mark) (r : Result Round E) → IfOk r (λ round. round_left n batches after round ≤ prints_most (prims_of batches) q after)
    → IfOk r (λ round. round_left n batches after round ≤ page_most (prims_of batches) q after)
page_printed n batches q after r left = IfOk-weaker r _ _ (λ round few. by (round_left n batches after round) (gathering_most (prims_of batches) q (page (prims_of batches) q after)) (prints_most (prims_of batches) q after) few) left
  where
    by : (a b m : ℕ) → a ≤ m → a ≤ b + m
    by a b m few = omega (arith, few)

-- ---- the objects that a window keeps

-- LAW: where a window keeps the page, its objects are those of the page
pub page_kept : (prims : List Primitive) (q : Asked) (after : Option Mark) (w : Kept) → KeepsPage prims q after w → page_objects w ≡ page_places prims q after
page_kept prims q after w keeps = ap (map (λ (r : defs.Row). r.object)) keeps.rows

-- LAW: what a walk over rows leaves, by other objects that are the same
pub moved_over : (batches : List Batch) (q : Asked) (os ps : List ℕ) (before now : Option Trying) (n m : ℕ) (walked : RowsWalked) (r s : ℕ) → os ≡ ps
    → s + walked_left batches q os now m walked ≤ r + 1 + rows_left batches q os before n → s + walked_left batches q ps now m walked ≤ r + 1 + rows_left batches q ps before n
moved_over batches q os ps before now n m walked r s same moved = subst (λ (ls : List ℕ). s + walked_left batches q ls now m walked ≤ r + 1 + rows_left batches q ls before n) same moved

-- LAW: and its steps
pub covered_over : (batches : List Batch) (q : Asked) (os ps : List ℕ) (before : Option Trying) (n r s : ℕ) → os ≡ ps → s ≤ r + 1 + rows_left batches q os before n → s ≤ r + 1 + rows_left batches q ps before n
covered_over batches q os ps before n r s same covered = subst (λ (ls : List ℕ). s ≤ r + 1 + rows_left batches q ls before n) same covered

-- ---- a row that is tried

-- LAW: it is known, and one step more was taken
pub try_known : (a l r s u : ℕ) → s + 0 + 48 * l ≤ r + 48 * a → u ≤ s + 1 → u + 0 ≤ r + (48 * a + 1)
try_known a l r s u covers more = omega (arith, covers, more)

-- LAW: it is not known yet
pub try_open : (a l r s : ℕ) → s + 0 + 48 * l ≤ r + 48 * a → s + (48 * l + 1) ≤ r + (48 * a + 1)
try_open a l r s covers = omega (arith, covers)

-- LAW: one that is not known, and the rows behind it
pub open_behind : (t v b r s : ℕ) → s + v ≤ r + t → s + (1 + (v + b)) ≤ r + 1 + (t + b)
open_behind t v b r s few = omega (arith, few)

-- LAW: one with which they weigh too much
pub heavy_behind : (t b r s : ℕ) → s + 0 ≤ r + t → s + 0 ≤ r + 1 + (t + b)
heavy_behind t b r s few = omega (arith, few)

-- ---- a round

-- LAW: all rows are known, and the page is printed
pub rows_all : (a m k r s u : ℕ) → k ≡ m → s + 0 ≤ r + 1 + a → u ≤ s + 1 → u + k ≤ r + (a + 2 + m)
rows_all a m k r s u same few more = omega (arith, same, few, more)

-- LAW: a row begins to be tried
pub rows_crowded : (a c m r s : ℕ) → s + (1 + c) ≤ r + 1 + a → s + (c + 2 + m) ≤ r + (a + 2 + m)
rows_crowded a c m r s few = omega (arith, few)

-- LAW: nothing is left
pub rows_over : (a m r s : ℕ) → s ≤ r + 1 + a → s + 0 ≤ r + (a + 2 + m)
rows_over a m r s few = omega (arith, few)

-- LAW: memory was wanting
pub rows_refused : (a m r s : ℕ) → s ≤ r + 1 + a → s ≤ r + (a + 2 + m)
rows_refused a m r s few = omega (arith, few)

-- LAW: a row is tried from its start
pub tried_first : (n : ℕ) (batches : List Batch) (after : Option Mark) (g h : Gathering) (t : Trying) (o : ℕ) → h ≡ record g { tried = Some t } → matcher_ahead batches (template_of (asked_view g.plan)) t.matcher ≤ 2 + candidate_turns (prims_of batches) (asked_view g.plan) o
    → gathering_left n batches after h ≤ crowded_left batches (asked_view g.plan) (page_places (prims_of batches) (asked_view g.plan) after) g.next o + 2 + prints_most (prims_of batches) (asked_view g.plan) after
tried_first n batches after g h t o is ahead =
    by _ (rows_most (prims_of batches) (asked_view g.plan) (drop (g.next + 1) (page_places (prims_of batches) (asked_view g.plan) after))) _ _ (prints_most (prims_of batches) (asked_view g.plan) after) (ap (gathering_left n batches after) is) ahead
  where
    by : (x b a c m : ℕ) → x ≡ 48 * a + 1 + b + 2 + m → a ≤ 2 + c → x ≤ 48 * (2 + c) + 1 + b + 2 + m
    by x b a c m is few = omega (arith, is, few)

-- LAW: it goes on
pub rows_on : (n : ℕ) (batches : List Batch) (after : Option Mark) (g h : Gathering) (r s : ℕ) → h.plan ≡ g.plan
    → s + (1 + rows_left batches (asked_view g.plan) (page_places (prims_of batches) (asked_view g.plan) after) h.tried h.next) ≤ r + 1 + rows_left batches (asked_view g.plan) (page_places (prims_of batches) (asked_view g.plan) after) g.tried g.next
    → s + gathering_left n batches after h ≤ r + gathering_left n batches after g
rows_on n batches after g h r s same less =
    by _ _ _ _ _ (ap (λ (p : Found). rows_left batches (asked_view p) (page_places (prims_of batches) (asked_view p) after) h.tried h.next) same) (ap (λ (p : Found). prints_most (prims_of batches) (asked_view p) after) same) less
  where
    by : (x y z m k : ℕ) → x ≡ y → m ≡ k → s + (1 + y) ≤ r + 1 + z → s + (x + 2 + m) ≤ r + (z + 2 + k)
    by x y z m k same also less = omega (arith, same, also, less)

-- ---- a row that is tried, or rows

-- LAW: where a row was tried, by what it was
pub moved_tried : {E : Type 0} (batches : List Batch) (q : Asked) (os : List ℕ) (tried : Option Trying) (t : Trying) (n : ℕ) (r : Result RowsWalked E) (left : RowsWalked → ℕ) (b u : ℕ) → tried ≡ Some t
    → IfOk r (λ walked. u + left walked ≤ b + 1 + rows_left batches q os (Some t) n) → IfOk r (λ walked. u + left walked ≤ b + 1 + rows_left batches q os tried n)
moved_tried batches q os tried t n r left b u is moved = subst (λ (o : Option Trying). IfOk r (λ walked. u + left walked ≤ b + 1 + rows_left batches q os o n)) (sym is) moved

-- LAW: and its steps
pub covered_tried : (batches : List Batch) (q : Asked) (os : List ℕ) (tried : Option Trying) (t : Trying) (n b u : ℕ) → tried ≡ Some t → u ≤ b + rows_left batches q os (Some t) n → u ≤ b + 1 + rows_left batches q os tried n
covered_tried batches q os tried t n b u is covered = by _ _ (ap (λ (o : Option Trying). rows_left batches q os o n) is) covered
  where
    by : (x y : ℕ) → x ≡ y → u ≤ b + y → u ≤ b + 1 + x
    by x y same few = omega (arith, same, few)

-- LAW: where none was tried, one step and those of a walk over rows
pub moved_rows : {E : Type 0} (batches : List Batch) (q : Asked) (os : List ℕ) (tried now : Option Trying) (n m : ℕ) (r : Result RowsWalked E) (b s u : ℕ) → tried ≡ None → now ≡ None → s ≤ b + 1
    → IfOk r (λ walked. u + walked_left batches q os None m walked ≤ s + rows_left batches q os None n) → IfOk r (λ walked. u + walked_left batches q os now m walked ≤ b + 1 + rows_left batches q os tried n)
moved_rows batches q os tried now n m r b s u before after one moved =
    subst (λ (o : Option Trying). IfOk r (λ walked. u + walked_left batches q os now m walked ≤ b + 1 + rows_left batches q os o n)) (sym before)
    (subst (λ (o : Option Trying). IfOk r (λ walked. u + walked_left batches q os o m walked ≤ b + 1 + rows_left batches q os None n)) (sym after)
    (IfOk-weaker r _ _ (λ walked few. by (walked_left batches q os None m walked) (rows_left batches q os None n) few) moved))
  where
    by : (x y : ℕ) → u + x ≤ s + y → u + x ≤ b + 1 + y
    by x y few = omega (arith, one, few)

-- LAW: and its steps
pub covered_rows : (batches : List Batch) (q : Asked) (os : List ℕ) (tried : Option Trying) (n b s u : ℕ) → tried ≡ None → s ≤ b + 1 → u ≤ s + rows_left batches q os None n → u ≤ b + 1 + rows_left batches q os tried n
covered_rows batches q os tried n b s u is one covered = by _ _ (ap (λ (o : Option Trying). rows_left batches q os o n) is) covered
  where
    by : (x y : ℕ) → x ≡ y → u ≤ s + y → u ≤ b + 1 + x
    by x y same few = omega (arith, same, few, one)

-- LAW: the rows behind one that is known
pub known_behind : (batches : List Batch) (q : Asked) (os : List ℕ) (t : Trying) (tried : Option Trying) (n r s : ℕ) → tried ≡ None → s + 0 ≤ r + row_left batches q t
    → s + (1 + rows_left batches q os tried (n + 1)) ≤ r + 1 + rows_left batches q os (Some t) n
known_behind batches q os t tried n r s none few = by _ _ _ (ap (λ (o : Option Trying). rows_left batches q os o (n + 1)) none) few
  where
    by : (x y z : ℕ) → x ≡ y → s + 0 ≤ r + z → s + (1 + x) ≤ r + 1 + (z + y)
    by x y z same few = omega (arith, same, few)

-- ---- what keeping a tree leaves

-- LAW: nothing of its row
pub kept_moved : {E : Type 0} (batches : List Batch) (q : Asked) (t : Trying) (old new : Gathered) (u : Tree) (w : ℕ) (r : Result RowGain E) (s b : ℕ) → IfOk r (λ g. TreeGains old new u w g) → s + 0 ≤ b → IfOk r (λ g. s + gain_left batches q t g ≤ b)
kept_moved batches q t old new u w r s b kept few = IfOk-weaker r _ _ by kept
  where
    by : (g : RowGain) → TreeGains old new u w g → s + gain_left batches q t g ≤ b
    by gain.Known is = few
    by gain.Heavy is = few
    by gain.Open is = absurd is

-- LAW: it is known then
pub kept_known : {E : Type 0} (P : Type 0) (old new : Gathered) (u : Tree) (w : ℕ) (r : Result RowGain E) → IfOk r (λ g. TreeGains old new u w g) → IfOk r (λ g. g ≡ gain.Open → P)
kept_known P old new u w r kept = IfOk-weaker r _ _ (λ g is so. absurd (subst (λ (x : RowGain). TreeGains old new u w x) so is)) kept
