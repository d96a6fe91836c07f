-- Bodies that stand for a reading of a query that began.
use Rattle.std.proofs.Common.{◌≡◌, ◌∙◌, refl, sym, ap, subst, arith, ◌==◌, ℕ, zero, suc, ◌+◌, ◌<◌, ◌≤◌, List, [], ◌∷◌, ◌++◌, Bool, true, false, cond, ◌&&◌, ◌||◌, Option, Some, None, Err, length, map, filter, take, append_assoc}
use Rattle.std.specs.Prelude.{nat_le, nat_lt, option_map, is_some, slice_get, if◌then◌else◌}
use Rattle.std.specs.List.{list_any, cons_option, enumerate_from}
use Rattle.std.specs.Ordering.{nat_cmp}
use Rattle.std.specs.declared.cmp.Ordering.TheVariants.{Less}
use Rattle.std.proofs.lemmas.Bool.{and_from, le-leb}
use Rattle.std.proofs.lemmas.Bool.Decides.{nat_tests}
use Rattle.std.proofs.lemmas.List.{append-nil}
use Rattle.std.proofs.lemmas.List.Folds.{list_any-append}
use Rattle.std.proofs.lemmas.List.Sums.{sum_by-cons, sum_by-append}
use Rattle.gd_prim.specs.declared.Primitive.{Primitive}
use Rattle.gd_tree.specs.Trees.{Tree, Trees, no_trees, trees_of, place_of}
use Rattle.gd_defs.specs.Asked.{Asked}
use Rattle.gd_defs.specs.Lines.{too_wide}
use Rattle.gd_defs.specs.Plan.{template_of}
use Rattle.gd_defs.specs.Reply.{Mark, mark_row, row_mark, max_candidate_weight, Answer}
use Rattle.gd_defs.specs.Rows.{Row, row_of}
use Rattle.gd_defs.specs.Template.{Template, passes_template}
use Rattle.gd_bytes.specs.Frozen.{IterAt, Frame, Scan, scanning, building}
use Rattle.gd_runs.specs.Owed.{ScanOrder, Candidate, candidate, owed_by, tried, scan_fits, weighs_too_much}
use Rattle.gd_runs.specs.Scanned.{scan_order}
use Rattle.gd_runs.specs.Thawed.{window, answering, built_trees, built_weight, row_candidates, page_of_rows, body_answer}
use Rattle.gd_runs.specs.Fitting.{body_fits}
use Rattle.gd_order_laws.specs.Window.{Each, Rising}
use Rattle.gd_match_laws.specs.PassedOn.{start}
use Rattle.gd_match_laws.specs.Moves.{order_from, StackMoves, frame_moves, ScanMoves, scan_passes_over, picks, frames_move, gives, Runs, stays, moves}
use Rattle.gd_match_laws.specs.Rows.{rows_order}
use Rattle.gd_match_laws.proofs.Bodies.{filter_map-append}
use Rattle.gd_match_laws.proofs.First.{cmp-less}
use Rattle.gd_match_laws.proofs.Scans.{run-keeps}
use Rattle.gd_match_laws.proofs.Whole.{rows-rise}
use Rattle.gd_window.specs.Kept.{Kept, HasSeen}
use Rattle.gd_window.proofs.Objects.{objects_behind, objects_told, marks_told, told_behind}
use Rattle.gd_suspended_laws.specs.Standing.{valued, rows_of, marks_of, page_rows, page_objects, trees_among, weight_among, IsOrderOf, HasScanned, HasVisited}
use Rattle.gd_suspended_laws.proofs.Full.{full_are}
use Rattle.gd_suspended_laws.proofs.Gathered.{trees_built, weight_built}
use Rattle.gd_suspended_laws.proofs.Given.{runs_join, light_join}
use Rattle.gd_suspended_laws.proofs.Going.{length-map}
use Rattle.gd_suspended_laws.proofs.Laws.{orders_are, starts_owe, scans_owe, builds_go_on}
use Rattle.gd_thaw_laws.specs.Alone.{standing_at}
use Rattle.gd_thaw_laws.specs.Gone.{RowsTold}
use Rattle.gd_thaw_laws.specs.Grown.{StackPlaced}
use Rattle.gd_thaw_laws.specs.Spelled.{one_member}
use Rattle.gd_thaw_laws.specs.Thawing.{between, order_within, candidates_within}
use Rattle.gd_thaw_laws.specs.Standing.{Began, StandsFor, IsScanOrder, KeepsRows, body_owes, StartsStand, ScannedRowsFit, ScansStand, VisitsStand, TriedStand, PagesStand, RowsStand, TriedRowsStand}
use Rattle.gd_thaw_laws.proofs.Alone.{candidates_go_alone}
use Rattle.gd_thaw_laws.proofs.Freezing.{gone_rows_fit, gone_fits, builds_fit}
use Rattle.gd_thaw_laws.proofs.Gone.{scanned_has_gone}
use Rattle.gd_thaw_laws.proofs.Reach.{scans_reach, same_front}
use Rattle.gd_thaw_laws.proofs.Visits.{firsts, passing, visits_scan}

told : RowsTold
told = record { objects = objects_told; marks = marks_told; behind = told_behind }

start_fits : (prims : List Primitive) (t : Template) → scan_fits prims one_member t start ≡ true
start_fits prims t = and_from _ _ (and_from _ _ (le-leb 0 (length prims) (omega arith)) refl) refl

-- ---- scanning

-- what is answered where these candidates are owed
abbrev with_owed : Began → Asked → List Mark → List Candidate → Answer
with_owed r q kept owed =
    let offered : List Row = window r.prims q r.after (map (mark_row r.prims q.sort) kept ++ map (row_of r.prims q.sort 0) (answering owed)) in
    let page : List Row = take q.limit offered in
    let built : List Candidate = row_candidates r.prims q 0 page in
    if list_any weighs_too_much (owed ++ built) then Err (too_wide (max_candidate_weight + 1))
    else page_of_rows r.prims q r.dateline r.with_cursor (length offered) page (built_weight built) (built_trees built) []

scans_alike : (r : Began) (q : Asked) (order : ScanOrder) (kept : List Mark) (s : Scan) → IsScanOrder r.prims q order
    → body_owes r q kept (scanning s) ≡ body_answer r.prims q order r.dateline r.with_cursor r.after kept (scanning s)
scans_alike r q order kept s is =
    ap (λ (xs : ScanOrder). with_owed r q kept (tried r.prims (template_of q) s.weight s.frames ++ map (λ c. candidate r.prims (template_of q) c.1) xs)) (sym (is.alike s.iter.place))

pub starts_stand : StartsStand
starts_stand r q asks = record {
  fitting = and_from _ _ (and_from _ _ refl (le-leb 0 (q.limit + 1) (omega arith))) (start_fits r.prims (template_of q));
  numbers = omega arith;
  owes = starts_owe r.prims r.written q (scan_order r.prims q) asks.held asks.asked (orders_are r.prims r.written q asks.held asks.asked) r.dateline r.with_cursor r.after;
}

pub scanned_rows_fit : ScannedRowsFit
scanned_rows_fit prims q after order s w has =
    let fit = gone_rows_fit told prims one_member q after order [] start s w refl (start_fits prims (template_of q)) (scanned_has_gone prims q after order s w has) in
    record { each = fit.0; few = fit.1 }

pub scans_stand : ScansStand
scans_stand r q order s w asks is has at placed light = record {
  fitting = gone_fits told r.prims one_member q order [] start s w r.dateline r.after refl (start_fits r.prims (template_of q)) (scanned_has_gone r.prims q r.after order s w has) at placed;
  numbers = light;
  owes =
      scans_alike r q order (marks_of w) s is
      ∙ scans_owe objects_behind r.prims q order r.after s w asks.some order_is has r.dateline r.with_cursor
      ∙ starts_owe r.prims r.written q order asks.held asks.asked order_is r.dateline r.with_cursor r.after;
}
  where
    order_is : IsOrderOf r.prims q order
    order_is = full_are r.prims r.written q order asks.held asks.asked is.once is.all

-- ---- orders

-- behind a place none is early
none_within : (b n : ℕ) (ys : ScanOrder) → b ≤ n → Each (λ j. nat_cmp n j ≡ Less) (map (λ d. d.0) ys) → order_within ys 0 b ≡ []
none_within b n [] up all = refl
none_within b n (d ∷ ys) up (less, all) = ap (λ (r : Bool). cond (nat_le 0 d.0 && r) (d ∷ order_within ys 0 b) (order_within ys 0 b)) late ∙ no (nat_le 0 d.0) ∙ none_within b n ys up all
  where
    late : nat_lt d.0 b ≡ false
    late = let after : n < d.0 = cmp-less n d.0 less in grind (arith, nat_tests, after, up)

    no : (x : Bool) → cond (x && false) (d ∷ order_within ys 0 b) (order_within ys 0 b) ≡ order_within ys 0 b
    no true = refl
    no false = refl

-- one that is early is within
early_within : (b : ℕ) (c : ℕ × ℕ) (xs : ScanOrder) → c.0 < b → order_within (c ∷ xs) 0 b ≡ c ∷ order_within xs 0 b
early_within b c xs less =
    ap (λ (x : Bool). cond (x && nat_lt c.0 b) (c ∷ order_within xs 0 b) (order_within xs 0 b)) (le-leb 0 c.0 (omega arith))
    ∙ ap (λ (x : Bool). cond x (c ∷ order_within xs 0 b) (order_within xs 0 b)) (early c.0 less)
  where
    early : (n : ℕ) → n < b → nat_lt n b ≡ true
    early n few = grind (arith, nat_tests)

late_within : (b : ℕ) (c : ℕ × ℕ) (xs : ScanOrder) → b ≤ c.0 → order_within (c ∷ xs) 0 b ≡ order_within xs 0 b
late_within b c xs up = ap (λ (x : Bool). cond (nat_le 0 c.0 && x) (c ∷ order_within xs 0 b) (order_within xs 0 b)) (late c.0 up) ∙ no (nat_le 0 c.0)
  where
    late : (n : ℕ) → b ≤ n → nat_lt n b ≡ false
    late n few = grind (arith, nat_tests)

    no : (x : Bool) → cond (x && false) (c ∷ order_within xs 0 b) (order_within xs 0 b) ≡ order_within xs 0 b
    no true = refl
    no false = refl

-- what an order has from a place on
abbrev from_on : ℕ → ScanOrder → ScanOrder
from_on p xs = filter (λ c. nat_le p c.0) xs

-- an order that rises is what it has up to a place, and from there on
rising_split : (p : ℕ) (xs : ScanOrder) → Rising nat_cmp (map (λ c. c.0) xs) → xs ≡ order_within xs 0 p ++ from_on p xs
rising_split p [] rises = refl
rising_split p (c ∷ xs) rises = by (nat_lt c.0 p) (nat_le p c.0) refl refl (rising_split p xs rises.1)
  where
    is_early : nat_lt c.0 p ≡ true → (c.0 < p) × (nat_le p c.0 ≡ false)
    is_early e = (grind (arith, nat_tests, e), grind (arith, nat_tests, e))

    is_late : nat_lt c.0 p ≡ false → (p ≤ c.0) × (nat_le p c.0 ≡ true)
    is_late e = (grind (arith, nat_tests, e), grind (arith, nat_tests, e))

    by : (x y : Bool) → nat_lt c.0 p ≡ x → nat_le p c.0 ≡ y → xs ≡ order_within xs 0 p ++ from_on p xs → c ∷ xs ≡ order_within (c ∷ xs) 0 p ++ cond y (c ∷ from_on p xs) (from_on p xs)
    by true y ex ey rest =
        let e = is_early ex in
        let no : y ≡ false = sym ey ∙ e.1 in
        ap (λ l. c ∷ l) rest ∙ ap (λ (l : ScanOrder). l ++ from_on p xs) (sym (early_within p c xs e.0)) ∙ ap (λ (z : Bool). order_within (c ∷ xs) 0 p ++ cond z (c ∷ from_on p xs) (from_on p xs)) (sym no)
    by false y ex ey rest =
        let e = is_late ex in
        let yes : y ≡ true = sym ey ∙ e.1 in
        let none : order_within xs 0 p ≡ [] = none_within p c.0 xs e.0 rises.0 in
        ap (λ l. c ∷ l) (rest ∙ ap (λ (l : ScanOrder). l ++ from_on p xs) none)
        ∙ ap (λ (l : ScanOrder). l ++ (c ∷ from_on p xs)) (sym (late_within p c xs e.0 ∙ none))
        ∙ ap (λ (z : Bool). order_within (c ∷ xs) 0 p ++ cond z (c ∷ from_on p xs) (from_on p xs)) (sym yes)

-- the first of an order, up to one of it
within_front : (front : ScanOrder) (c : ℕ × ℕ) (back : ScanOrder) → Rising nat_cmp (map (λ d. d.0) (front ++ c ∷ back)) → order_within (front ++ c ∷ back) 0 c.0 ≡ front
within_front [] c back rises = late_within c.0 c back (omega arith) ∙ none_within c.0 c.0 back (omega arith) rises.0
within_front (d ∷ front) c back rises = early_within c.0 d (front ++ c ∷ back) (cmp-less d.0 c.0 (there front rises.0)) ∙ ap (λ l. d ∷ l) (within_front front c back rises.1)
  where
    there : (xs : ScanOrder) → Each (λ j. nat_cmp d.0 j ≡ Less) (map (λ e. e.0) (xs ++ c ∷ back)) → nat_cmp d.0 c.0 ≡ Less
    there [] all = all.0
    there (x ∷ xs) all = there xs all.1

module _ (prims : List Primitive) (t : Template) where
  -- of those behind a place all that pass are left
  all_from : (n : ℕ) (ys : ScanOrder) → Each (λ j. nat_cmp n j ≡ Less) (map (λ d. d.0) ys) → order_from prims t ys n ≡ filter (λ d. passes_template prims t d.1) ys
  all_from n [] all = refl
  all_from n (d ∷ ys) (less, all) =
      ap (λ (x : Bool). cond (x && passes_template prims t d.1) (d ∷ order_from prims t ys n) (order_from prims t ys n)) here
      ∙ ap (λ (l : ScanOrder). cond (passes_template prims t d.1) (d ∷ l) l) (all_from n ys all)
    where
      here : nat_le n d.0 ≡ true
      here = let after : n < d.0 = cmp-less n d.0 less in grind (arith, nat_tests, after)

  -- where one passes, it is the next from its place on
  from_front : (front : ScanOrder) (c : ℕ × ℕ) (back : ScanOrder) → Rising nat_cmp (map (λ d. d.0) (front ++ c ∷ back)) → passes_template prims t c.1 ≡ true
      → order_from prims t (front ++ c ∷ back) c.0 ≡ c ∷ filter (λ d. passes_template prims t d.1) back
  from_front [] c back rises passes =
      ap (λ (x : Bool). cond (x && passes_template prims t c.1) (c ∷ order_from prims t back c.0) (order_from prims t back c.0)) (le-leb c.0 c.0 (omega arith))
      ∙ ap (λ (x : Bool). cond x (c ∷ order_from prims t back c.0) (order_from prims t back c.0)) passes
      ∙ ap (λ (l : ScanOrder). c ∷ l) (all_from c.0 back rises.0)
  from_front (d ∷ front) c back rises passes =
      ap (λ (x : Bool). cond (x && passes_template prims t d.1) (d ∷ order_from prims t (front ++ c ∷ back) c.0) (order_from prims t (front ++ c ∷ back) c.0)) (past (cmp-less d.0 c.0 (there front rises.0)))
      ∙ from_front front c back rises.1 passes
    where
      there : (xs : ScanOrder) → Each (λ j. nat_cmp d.0 j ≡ Less) (map (λ e. e.0) (xs ++ c ∷ back)) → nat_cmp d.0 c.0 ≡ Less
      there [] all = all.0
      there (x ∷ xs) all = there xs all.1

      past : d.0 < c.0 → nat_le c.0 d.0 ≡ false
      past less = grind (arith, nat_tests, less)

  -- those from a place on that pass
  passing_on : (p : ℕ) (xs : ScanOrder) → filter (λ d. passes_template prims t d.1) (from_on p xs) ≡ order_from prims t xs p
  passing_on p [] = refl
  passing_on p (c ∷ xs) = by (nat_le p c.0) (passing_on p xs)
    where
      by : (x : Bool) → filter (λ d. passes_template prims t d.1) (from_on p xs) ≡ order_from prims t xs p
          → filter (λ d. passes_template prims t d.1) (cond x (c ∷ from_on p xs) (from_on p xs)) ≡ cond (x && passes_template prims t c.1) (c ∷ order_from prims t xs p) (order_from prims t xs p)
      by true rest = ap (λ (l : ScanOrder). cond (passes_template prims t c.1) (c ∷ l) l) rest
      by false rest = rest

-- the last one of a list
record Last (ys : ScanOrder) (visited : List ℕ) (place : ℕ) : Type 0 where
  front : ScanOrder
  last : ℕ × ℕ
  parts : ys ≡ front ++ last ∷ []
  first : map (λ c. c.1) front ≡ visited
  is : last.1 ≡ place

last_of : (ys : ScanOrder) (visited : List ℕ) (place : ℕ) → map (λ c. c.1) ys ≡ visited ++ place ∷ [] → Last ys visited place
last_of [] [] place e = absurd (cc)
last_of [] (v ∷ visited) place e = absurd (cc)
last_of (y ∷ []) [] place e = record { front = []; last = y; parts = refl; first = refl; is = cc }
last_of (y ∷ z ∷ ys) [] place e = absurd (cc)
last_of (y ∷ ys) (v ∷ visited) place e =
    let heads : y.1 ≡ v = cc in
    let tails : map (λ c. c.1) ys ≡ visited ++ place ∷ [] = cc in
    let rest = last_of ys visited place tails in
    record { front = y ∷ rest.front; last = rest.last; parts = ap (λ l. y ∷ l) rest.parts; first = cc (heads, rest.first); is = rest.is }

map-places : (xs ys : ScanOrder) → map (λ c. c.1) (xs ++ ys) ≡ map (λ c. c.1) xs ++ map (λ c. c.1) ys
map-places [] ys = refl
map-places (x ∷ xs) ys = ap (λ (l : List ℕ). x.1 ∷ l) (map-places xs ys)

-- ---- visiting

pub visits_stand : VisitsStand
visits_stand r q order left visited p w asks is parts left_is has within =
    scans_stand r q order (between p) w asks is (visits_scan r.prims q r.after order p w is.rises (subst (λ l. HasVisited r.prims q r.after l w) (sym before) has))
    (and_from _ _ (le-leb p (length r.prims) within) refl) tt (omega arith)
  where
    before : map (λ c. c.1) (order_within order 0 p) ≡ visited
    before = same_front (map (λ c. c.1) (order_within order 0 p)) visited (map (λ c. c.1) left)
        (ap (λ l. map (λ c. c.1) (order_within order 0 p) ++ map (λ c. c.1) l) left_is
        ∙ sym (map-places (order_within order 0 p) (from_on p order)) ∙ ap (map (λ c. c.1)) (sym (rising_split p order is.rises)) ∙ parts)

-- ---- a candidate that is tried by itself

module _ (prims : List Primitive) (t : Template) where
  -- a scan without frames of which nothing is left has none later
  idle_run : (order : ScanOrder) (s m : Scan) (cs : List Candidate) → ((a : ℕ) → order_from prims t order a ≡ []) → s.frames ≡ [] → Runs prims order t s cs m → m.frames ≡ []
  idle_run order _ _ _ none idle (stays s) = idle
  idle_run order _ _ _ none idle (moves s m e cs ds step rest) = idle_run order m e ds none (one t s m cs none idle step) rest
    where
      moved : (u : Template) (gs : List Frame) (d : ℕ) (hs : List Frame) → gs ≡ [] → StackMoves prims u gs d hs → ⊥
      moved _ _ _ _ e (frame_moves _ _ _ _ _ _ _ _ _) = cc e

      one : (u : Template) (s m : Scan) (cs : List Candidate) → ((a : ℕ) → order_from prims u order a ≡ []) → s.frames ≡ [] → ScanMoves prims order u s cs m → m.frames ≡ []
      one _ _ _ _ none idle (scan_passes_over u s j same) = idle
      one _ _ _ _ none idle (picks u s c j k empty is) = absurd (let gone = none s.iter.place in cc (gone, is))
      one _ _ _ _ none idle (frames_move u s d fs step) = absurd (moved u s.frames d fs idle step)
      one _ _ _ _ none idle (gives ks asked s f n o alone ends) = absurd (cc (idle, alone))

  -- one that is tried with frames passes
  tried_passes : (place : ℕ) (m : Scan) (cs : List Candidate) (f : Frame) (fs : List Frame) → Runs prims ((0, place) ∷ []) t start cs m → m.frames ≡ f ∷ fs → passes_template prims t place ≡ true
  tried_passes place m cs f fs run some = by (passes_template prims t place) refl
    where
      only : ScanOrder
      only = (0, place) ∷ []

      no : (x : Bool) → cond (x && false) only [] ≡ []
      no true = refl
      no false = refl

      by : (b : Bool) → passes_template prims t place ≡ b → passes_template prims t place ≡ true
      by true is = is
      by false is =
          let none = idle_run only start m cs (λ a. ap (λ (b : Bool). cond (nat_le a 0 && b) only []) is ∙ no (nat_le a 0)) refl run in
          absurd (cc (none, some))

-- candidates without a tree have no object, and no weight
none_answer : (cs : List Candidate) → built_trees cs ≡ [] → answering cs ≡ []
none_answer [] is = refl
none_answer (c ∷ cs) is = by c.answer is (λ none. none_answer cs none)
  where
    by : (o : Option Tree) → cons_option o (built_trees cs) ≡ [] → (built_trees cs ≡ [] → answering cs ≡ []) → cons_option (option_map place_of o) (answering cs) ≡ []
    by None is rest = rest is
    by (Some u) is rest = absurd (cc)

none_weigh : (cs : List Candidate) → built_trees cs ≡ [] → built_weight cs ≡ 0
none_weigh [] is = refl
none_weigh (c ∷ cs) is = sum_by-cons (λ (d : Candidate). if is_some d.answer then d.weight else 0) c cs ∙ by c.answer is (λ none. none_weigh cs none)
  where
    by : (o : Option Tree) → cons_option o (built_trees cs) ≡ [] → (built_trees cs ≡ [] → built_weight cs ≡ 0) → (if is_some o then c.weight else 0) + built_weight cs ≡ 0
    by None is rest = let zero_is = rest is in omega (arith, zero_is)
    by (Some u) is rest = absurd (cc)

-- a scan that has come so far with a window goes on to where nothing answered
scanned_on : (prims : List Primitive) (q : Asked) (after : Option Mark) (order : ScanOrder) (s m : Scan) (w : Kept) (cs : List Candidate) → HasScanned prims q after order s w → Runs prims order (template_of q) s cs m
    → list_any weighs_too_much cs ≡ false → built_trees cs ≡ [] → HasScanned prims q after order m w
scanned_on prims q after order s m w cs has run light none = record {
  given = has.given ++ cs;
  runs = runs_join prims order (template_of q) start s m has.given cs has.runs run;
  light = light_join has.given cs has.light light;
  is = has.is;
  seen = subst (λ (os : List ℕ). HasSeen w (map (valued prims q) os)) (sym same) has.seen;
}
  where
    same : answering (has.given ++ cs) ≡ answering has.given
    same = filter_map-append _ has.given cs ∙ ap (λ l. answering has.given ++ l) (none_answer cs none) ∙ append-nil (answering has.given)

pub tried_stand : TriedStand
tried_stand r q order left visited place p w m cs f fs asks is parts left_is has within run light none some placed few =
    scans_stand r q order (standing_at i m) w asks is (scanned_on r.prims q r.after order (between at.last.0) (standing_at i m) w cs before along light none)
    (and_from _ _ (le-leb p (length r.prims) within) refl) placed few
  where
    i : IterAt
    i = record { place = p; accepted = None }

    at : Last (order_within order 0 p) visited place
    at = last_of (order_within order 0 p) visited place
        (same_front (map (λ c. c.1) (order_within order 0 p)) (visited ++ place ∷ []) (map (λ c. c.1) left)
        (ap (λ l. map (λ c. c.1) (order_within order 0 p) ++ map (λ c. c.1) l) left_is
        ∙ sym (map-places (order_within order 0 p) (from_on p order)) ∙ ap (map (λ c. c.1)) (sym (rising_split p order is.rises)) ∙ parts
        ∙ sym (append_assoc visited (place ∷ []) (map (λ c. c.1) left))))

    whole : order ≡ at.front ++ at.last ∷ from_on p order
    whole = rising_split p order is.rises ∙ ap (λ (l : ScanOrder). l ++ from_on p order) at.parts ∙ append_assoc at.front (at.last ∷ []) (from_on p order)

    rises : Rising nat_cmp (map (λ c. c.0) (at.front ++ at.last ∷ from_on p order))
    rises = subst (λ (l : ScanOrder). Rising nat_cmp (map (λ c. c.0) l)) whole is.rises

    before : HasScanned r.prims q r.after order (between at.last.0) w
    before = visits_scan r.prims q r.after order at.last.0 w is.rises
        (subst (λ l. HasVisited r.prims q r.after l w)
        (sym (ap (λ (l : ScanOrder). map (λ c. c.1) (order_within l 0 at.last.0)) whole ∙ ap (map (λ c. c.1)) (within_front at.front at.last (from_on p order) rises) ∙ at.first)) has)

    alone : Runs r.prims ((0, at.last.1) ∷ []) (template_of q) start cs m
    alone = subst (λ x. Runs r.prims ((0, x) ∷ []) (template_of q) start cs m) (sym at.is) run

    next : order_from r.prims (template_of q) order at.last.0 ≡ at.last ∷ order_from r.prims (template_of q) order p
    next =
        ap (λ (l : ScanOrder). order_from r.prims (template_of q) l at.last.0) whole
        ∙ from_front r.prims (template_of q) at.front at.last (from_on p order) rises (tried_passes r.prims (template_of q) at.last.1 m cs f fs alone some)
        ∙ ap (λ (l : ScanOrder). at.last ∷ l) (passing_on r.prims (template_of q) p order)

    along : Runs r.prims order (template_of q) (between at.last.0) cs (standing_at i m)
    along = candidates_go_alone r.prims order (template_of q) at.last i (between at.last.0) m cs f fs refl next alone some

-- ---- building

-- the rows in front of one, and those behind it
record Around (k : ℕ) (os : List ℕ) (m place : ℕ) : Type 0 where
  front : ScanOrder
  back : ScanOrder
  parts : enumerate_from k os ≡ front ++ (k + m, place) ∷ back
  behind : back ≡ from_on (k + m + 1) (enumerate_from k os)

page_fits : (prims : List Primitive) (q : Asked) (rows : ℕ) → body_fits prims one_member q rows (building 0 no_trees start) ≡ true
page_fits prims q rows = and_from _ _ (and_from _ _ (and_from _ _ (and_from _ _ (and_from _ _ refl (by q.count)) (le-leb 0 rows (omega arith))) refl) refl) refl
  where
    by : (b : Bool) → (if b then 0 == 0 else nat_le 0 rows) ≡ true
    by true = refl
    by false = le-leb 0 rows (omega arith)

pub pages_stand : PagesStand
pages_stand r q w keeps = record {
  fitting = and_from _ _ (and_from _ _ keeps.fit.each (le-leb (length (marks_of w)) (q.limit + 1) keeps.fit.few)) (page_fits r.prims q (length (marks_of w)));
  numbers = (omega arith, omega arith);
  owes = keeps.owes;
}

no_more : (n : ℕ) → 0 + n ≡ n
no_more n = omega arith

take_less : {A : Type 0} (n : ℕ) (xs : List A) → length (take n xs) ≤ length xs
take_less zero xs = omega arith
take_less (suc n) [] = omega arith
take_less (suc n) (x ∷ xs) = let rest = take_less n xs in omega (arith, rest)

few_page : (w : Kept) → length (page_objects w) ≤ length (marks_of w)
few_page w =
    let one = length-map (λ (x : Row). x.object) (page_rows w) in
    let two = take_less w.limit (rows_of w) in
    let three = length-map row_mark (rows_of w) in
    omega (arith, one, two, three)

module _ (r : Began) (q : Asked) (w : Kept) (keeps : KeepsRows r q w) (listed : q.count ≡ false) where
  abbrev t : Template
  t = template_of q

  abbrev rows : ScanOrder
  rows = rows_order (page_rows w)

  -- where a run over the rows of the page has come
  builds_stand : (m : Scan) (cs : List Candidate) (v : ℕ) (ts : Trees) → Runs r.prims rows t start cs m → list_any weighs_too_much cs ≡ false → m.iter.place ≤ length (page_objects w) → m.iter.accepted ≡ None
      → StackPlaced r.prims one_member t m.frames → v ≡ built_weight cs → ts ≡ trees_of (built_trees cs) → v ≤ 4_294_967_295 → m.weight ≤ 4_294_967_295 → StandsFor r q (marks_of w) (building v ts m)
  builds_stand m cs v ts run light at none placed weighs trees few_v few_m = record {
    fitting = and_from _ _ (and_from _ _ keeps.fit.each (le-leb (length (marks_of w)) (q.limit + 1) keeps.fit.few))
        (subst (λ (us : Trees). body_fits r.prims one_member q (length (marks_of w)) (building v us m) ≡ true) (sym trees)
        (builds_fit r.prims one_member q (page_rows w) (length (marks_of w)) 0 v no_trees start m cs listed (page_fits r.prims q (length (marks_of w))) run (omega arith) inside none placed));
    numbers = (few_v, few_m);
    owes =
        ap (λ n. body_owes r q (marks_of w) (building n ts m)) weighs
        ∙ ap (λ (us : Trees). body_owes r q (marks_of w) (building (built_weight cs) us m)) trees
        ∙ ap (λ n. body_owes r q (marks_of w) (building n (trees_of (built_trees cs)) m)) (sym (no_more (built_weight cs)))
        ∙ sym (builds_go_on r.prims q (scan_order r.prims q) r.dateline r.with_cursor r.after w keeps.kept listed 0 no_trees start m cs run light)
        ∙ keeps.owes;
  }
    where
      inside : m.iter.place ≤ length (marks_of w)
      inside = let few = few_page w in omega (arith, at, few)

  -- ---- up to a row

  within_none : (b k : ℕ) (os : List ℕ) → b ≤ k → order_within (enumerate_from k os) 0 b ≡ []
  within_none b k [] up = refl
  within_none b k (o ∷ os) up = late_within b (k, o) (enumerate_from (k + 1) os) up ∙ within_none b (k + 1) os (omega (arith, up))

  within_take : (k n : ℕ) (os : List ℕ) → map (λ c. c.1) (order_within (enumerate_from k os) 0 (k + n)) ≡ take n os
  within_take k zero os = ap (map (λ c. c.1)) (within_none (k + 0) k os (omega arith))
  within_take k (suc n) [] = refl
  within_take k (suc n) (o ∷ os) =
      ap (map (λ c. c.1)) (early_within (k + suc n) (k, o) (enumerate_from (k + 1) os) (omega arith))
      ∙ ap (λ (l : List ℕ). o ∷ l) (ap (λ b. map (λ c. c.1) (order_within (enumerate_from (k + 1) os) 0 b)) (plus k n) ∙ within_take (k + 1) n os)
    where
      plus : (k n : ℕ) → k + suc n ≡ k + 1 + n
      plus k n = omega arith

  passed_places : (xs : ScanOrder) → map (λ c. c.1) (passing r.prims t xs) ≡ filter (passes_template r.prims t) (map (λ c. c.1) xs)
  passed_places [] = refl
  passed_places (c ∷ xs) = by (passes_template r.prims t c.1) (passed_places xs)
    where
      by : (b : Bool) → map (λ d. d.1) (passing r.prims t xs) ≡ filter (passes_template r.prims t) (map (λ d. d.1) xs)
          → map (λ d. d.1) (cond b (c ∷ passing r.prims t xs) (passing r.prims t xs)) ≡ cond b (c.1 ∷ filter (passes_template r.prims t) (map (λ d. d.1) xs)) (filter (passes_template r.prims t) (map (λ d. d.1) xs))
      by true rest = ap (λ (l : List ℕ). c.1 ∷ l) rest
      by false rest = rest

  module _ (n : ℕ) where
    abbrev given : List Candidate
    given = candidates_within r.prims t rows 0 n

    given_is : given ≡ map (candidate r.prims t) (filter (passes_template r.prims t) (take n (page_objects w)))
    given_is =
        firsts r.prims t (passing r.prims t (order_within rows 0 n))
        ∙ ap (map (candidate r.prims t)) (passed_places (order_within rows 0 n)
        ∙ ap (filter (passes_template r.prims t)) (ap (λ b. map (λ c. c.1) (order_within rows 0 b)) (sym (no_more n)) ∙ within_take 0 n (page_objects w)))

    first_run : Runs r.prims rows t start given (between n)
    first_run = scans_reach r.prims rows t 0 n (rows-rise (page_rows w)) (omega arith)

    first_light : list_any weighs_too_much given ≡ false
    first_light = front_none given (owed_by r.prims t rows (between n)) (ap (list_any weighs_too_much) (sym (run-keeps r.prims rows t start given (between n) first_run)) ∙ keeps.kept.light)
      where
        front_none : (xs ys : List Candidate) → list_any weighs_too_much (xs ++ ys) ≡ false → list_any weighs_too_much xs ≡ false
        front_none xs ys none = by (list_any weighs_too_much xs) (sym (list_any-append weighs_too_much xs ys) ∙ none)
          where
            by : (b : Bool) → (b || list_any weighs_too_much ys) ≡ false → b ≡ false
            by true e = e
            by false e = refl

    first_trees : built_trees given ≡ trees_among r.prims q (take n (page_objects w))
    first_trees = ap built_trees given_is ∙ trees_built r.prims q (take n (page_objects w))

    first_weight : built_weight given ≡ weight_among r.prims q (take n (page_objects w))
    first_weight = ap built_weight given_is ∙ weight_built r.prims q (take n (page_objects w))

    rows_at : n ≤ length (page_objects w) → weight_among r.prims q (take n (page_objects w)) ≤ 4_294_967_295
        → StandsFor r q (marks_of w) (building (weight_among r.prims q (take n (page_objects w))) (trees_of (trees_among r.prims q (take n (page_objects w)))) (between n))
    rows_at inside few = builds_stand (between n) given _ _ first_run first_light inside refl tt (sym first_weight) (ap trees_of (sym first_trees)) few (omega arith)

    -- ---- the next row

    -- the rows in front of it, and those behind it
    split_rows : (k : ℕ) (os : List ℕ) (m place : ℕ) → slice_get os m ≡ Some place → Around k os m place
    split_rows k [] m place is = absurd (cc)
    split_rows k (o ∷ os) zero place is =
        let same : o ≡ place = cc in
        record {
          front = [];
          back = enumerate_from (k + 1) os;
          parts = ap (λ x. (k, x) ∷ enumerate_from (k + 1) os) same ∙ ap (λ n. (n, place) ∷ enumerate_from (k + 1) os) (sym (first k));
          behind = sym (later (k + 0 + 1) k (k, o) (enumerate_from (k + 1) os) (omega arith) ∙ all_behind (k + 0 + 1) (k + 1) os (omega arith));
        }
      where
        first : (k : ℕ) → k + 0 ≡ k
        first k = omega arith

        later : (p k : ℕ) (c : ℕ × ℕ) (xs : ScanOrder) → c.0 < p → from_on p (c ∷ xs) ≡ from_on p xs
        later p k c xs less = ap (λ (b : Bool). cond b (c ∷ from_on p xs) (from_on p xs)) (no c.0 less)
          where
            no : (n : ℕ) → n < p → nat_le p n ≡ false
            no n few = grind (arith, nat_tests)

        all_behind : (p k : ℕ) (os : List ℕ) → p ≤ k → from_on p (enumerate_from k os) ≡ enumerate_from k os
        all_behind p k [] up = refl
        all_behind p k (o ∷ os) up = ap (λ (b : Bool). cond b ((k, o) ∷ from_on p (enumerate_from (k + 1) os)) (from_on p (enumerate_from (k + 1) os))) (le-leb p k up) ∙ ap (λ (l : ScanOrder). (k, o) ∷ l) (all_behind p (k + 1) os (omega (arith, up)))
    split_rows k (o ∷ os) (suc m) place is =
        let rest = split_rows (k + 1) os m place is in
        let n_is = plus k m in
        record {
          front = (k, o) ∷ rest.front;
          back = rest.back;
          parts = ap (λ (l : ScanOrder). (k, o) ∷ l) (rest.parts ∙ ap (λ n. rest.front ++ (n, place) ∷ rest.back) n_is);
          behind = rest.behind ∙ ap (λ n. from_on (n + 1) (enumerate_from (k + 1) os)) n_is ∙ sym (later (k + suc m + 1) (k, o) (enumerate_from (k + 1) os) (omega arith));
        }
      where
        plus : (k m : ℕ) → k + 1 + m ≡ k + suc m
        plus k m = omega arith

        later : (p : ℕ) (c : ℕ × ℕ) (xs : ScanOrder) → c.0 < p → from_on p (c ∷ xs) ≡ from_on p xs
        later p c xs less = ap (λ (b : Bool). cond b (c ∷ from_on p xs) (from_on p xs)) (no c.0 less)
          where
            no : (n : ℕ) → n < p → nat_le p n ≡ false
            no n few = grind (arith, nat_tests)

    next_row : (place : ℕ) → slice_get (page_objects w) n ≡ Some place → passes_template r.prims t place ≡ true → order_from r.prims t rows n ≡ (n, place) ∷ order_from r.prims t rows (n + 1)
    next_row place is passes =
        let parts = split_rows 0 (page_objects w) n place is in
        let at : parts.front ++ (n, place) ∷ parts.back ≡ parts.front ++ (0 + n, place) ∷ parts.back = ap (λ m. parts.front ++ (m, place) ∷ parts.back) (sym (no_more n)) in
        let whole : rows ≡ parts.front ++ (n, place) ∷ parts.back = parts.parts ∙ sym at in
        ap (λ (l : ScanOrder). order_from r.prims t l n) whole
        ∙ from_front r.prims t parts.front (n, place) parts.back (subst (λ (l : ScanOrder). Rising nat_cmp (map (λ c. c.0) l)) whole (rows-rise (page_rows w))) passes
        ∙ ap (λ (l : ScanOrder). (n, place) ∷ l) (ap (filter (λ d. passes_template r.prims t d.1)) (parts.behind ∙ ap (λ m. from_on (m + 1) rows) (no_more n)) ∙ passing_on r.prims t (n + 1) rows)

    row_inside : (place : ℕ) (os : List ℕ) (k : ℕ) → slice_get os k ≡ Some place → k + 1 ≤ length os
    row_inside place [] k is = absurd (cc)
    row_inside place (o ∷ os) zero is = omega arith
    row_inside place (o ∷ os) (suc k) is = let rest = row_inside place os k is in omega (arith, rest)

    tried_at : (place : ℕ) (m : Scan) (cs : List Candidate) (f : Frame) (fs : List Frame) → slice_get (page_objects w) n ≡ Some place → weight_among r.prims q (take n (page_objects w)) ≤ 4_294_967_295
        → Runs r.prims ((0, place) ∷ []) t start cs m → list_any weighs_too_much cs ≡ false → built_trees cs ≡ [] → m.frames ≡ f ∷ fs → StackPlaced r.prims one_member t m.frames → m.weight ≤ 4_294_967_295
        → StandsFor r q (marks_of w) (building (weight_among r.prims q (take n (page_objects w))) (trees_of (trees_among r.prims q (take n (page_objects w)))) (standing_at (record { place = n + 1; accepted = None }) m))
    tried_at place m cs f fs is few run light none some placed less =
        builds_stand (standing_at i m) (given ++ cs) _ _ (runs_join r.prims rows t start (between n) (standing_at i m) given cs first_run along) (light_join given cs first_light light)
        (row_inside place (page_objects w) n is) refl placed (sym weighs) (ap trees_of (sym trees)) few less
      where
        i : IterAt
        i = record { place = n + 1; accepted = None }

        along : Runs r.prims rows t (between n) cs (standing_at i m)
        along = candidates_go_alone r.prims rows t (n, place) i (between n) m cs f fs refl (next_row place is (tried_passes r.prims t place m cs f fs run some)) run some

        trees : built_trees (given ++ cs) ≡ trees_among r.prims q (take n (page_objects w))
        trees = filter_map-append _ given cs ∙ ap (λ l. built_trees given ++ l) none ∙ append-nil (built_trees given) ∙ first_trees

        weighs : built_weight (given ++ cs) ≡ weight_among r.prims q (take n (page_objects w))
        weighs =
            sum_by-append (λ (d : Candidate). if is_some d.answer then d.weight else 0) given cs
            ∙ ap (λ m. built_weight given + m) (none_weigh cs none)
            ∙ right (built_weight given) ∙ first_weight
          where
            right : (m : ℕ) → m + 0 ≡ m
            right m = omega arith

pub rows_stand : RowsStand
rows_stand r q w n keeps listed inside few = rows_at r q w keeps listed n inside few

pub tried_rows_stand : TriedRowsStand
tried_rows_stand r q w n place m cs f fs keeps listed is few run light none some placed less = tried_at r q w keeps listed n place m cs f fs is few run light none some placed less
