-- Positions that readings come to fit.
use Rattle.std.proofs.Common.{◌≡◌, ◌∙◌, inl, inr, ⊎_elim, refl, sym, ap, subst, arith, ◌==◌, ℕ, suc, ◌+◌, ◌<◌, ◌≤◌, List, [], ◌∷◌, ◌++◌, Bool, true, false, ◌&&◌, not, Option, Some, None, Result, Ok, Err, length, length-append, map, take}
use Rattle.std.specs.Prelude.{nat_le, nat_lt, option_map, is_some, if◌then◌else◌}
use Rattle.std.specs.List.{list_all}
use Rattle.std.proofs.lemmas.Bool.{and_parts, and_from, eq-eqb, lt-ltb, ltb-true, le-leb, leb-true}
use Rattle.std.proofs.lemmas.List.Folds.{list_all-append}
use Rattle.gd_prim.specs.declared.Primitive.{Primitive}
use Rattle.gd_prim.specs.declared.Batch.{Batch}
use Rattle.gd_prim.specs.History.{prims_at}
use Rattle.gd_tree.specs.Trees.{Tree, tree, Trees, append, trees_of, list_of}
use Rattle.gd_defs.specs.Asked.{Asked, SortKey, Unknown, asked_query}
use Rattle.gd_defs.specs.Plan.{template_of}
use Rattle.gd_defs.specs.Reply.{Mark, mark_row, row_mark, fitted}
use Rattle.gd_defs.specs.Rows.{Row, row_of}
use Rattle.gd_defs.specs.Template.{Template, template}
use Rattle.gd_bytes.specs.Frozen.{Scan, building, Frozen}
use Rattle.gd_runs.proofs.Rounds.{prims_kept}
use Rattle.gd_runs.specs.Core.{frozen_fits}
use Rattle.gd_runs.specs.Request.{ReadRequest, asks_page}
use Rattle.gd_runs.specs.Owed.{ScanOrder, Candidate, MembersOf, tree_fits, stack_fits, scan_fits}
use Rattle.gd_runs.specs.Thawed.{answering, built_trees, thawed_line, window}
use Rattle.gd_runs.specs.Fitting.{is_inside, key_inside, row_fits, trees_fit, tried_count, body_fits, fits}
use Rattle.gd_order_laws.specs.Window.{In}
use Rattle.gd_order_laws.proofs.Rows.{In-map}
use Rattle.gd_match_laws.specs.Moves.{ScanMoves, scan_passes_over, picks, frames_move, gives, Runs, stays, moves}
use Rattle.gd_match_laws.proofs.Bodies.{filter_map-append}
use Rattle.gd_match_laws.specs.Rows.{rows_order}
use Rattle.gd_window.specs.Kept.{Kept}
use Rattle.gd_suspended_laws.specs.Standing.{marks_of}
use Rattle.gd_suspended_laws.proofs.Windows.{taken_few}
use Rattle.gd_thaw_laws.specs.Thawing.{offered_since, best_since}
use Rattle.gd_thaw_laws.specs.Grown.{StackGrows, StackPlaced}
use Rattle.gd_thaw_laws.specs.Gone.{HasGone, RowsTold}
use Rattle.gd_thaw_laws.specs.Freezing.{LaterOwes, LaterFits, GoneRowsFit, GoneFits, GivenFit, BuildsFit}
use Rattle.gd_thaw_laws.proofs.Going.{given_inside, in_either}
use Rattle.gd_thaw_laws.proofs.Few.{builds_few}
use Rattle.gd_thaw_laws.proofs.Gone.{gone_keeps}
use Rattle.gd_thaw_laws.proofs.Kept.{in_best, IsAgain, mark_again, row_again}
use Rattle.gd_thaw_laws.proofs.Grown.{OFits, ends_fit, scan_grows, runs_fit, runs_grow, fits_grow, grown_fit}

-- ---- later stores

pub later_owes : LaterOwes
later_owes bs cs k r f within = ap (λ ps. thawed_line ps (asks_page r.cursor) k f (asked_query ps r.query)) (prims_kept bs cs f.dateline within)

-- ---- rows

module _ (prims : List Primitive) (q : Asked) where
  keys_fit : (sort : List SortKey) (ks : List (Option ℕ)) → (length (fitted (length prims) sort ks) ≡ length sort) × (list_all (key_inside prims) (fitted (length prims) sort ks) ≡ true)
  keys_fit [] ks = (refl, refl)
  keys_fit (s ∷ sort) [] = let rest = keys_fit sort [] in (ap suc rest.0, rest.1)
  keys_fit (s ∷ sort) (None ∷ ks) = let rest = keys_fit sort ks in (ap suc rest.0, rest.1)
  keys_fit (s ∷ sort) (Some p ∷ ks) = let rest = keys_fit sort ks in (ap suc rest.0, and_from _ _ (by (nat_lt p (length prims)) refl) rest.1)
    where
      by : (b : Bool) → nat_lt p (length prims) ≡ b → key_inside prims (if b then Some p else None) ≡ true
      by true is = is
      by false is = refl

  again_fits : (r : Row) → IsAgain prims q r → r.object < length prims → row_fits prims q (row_mark r) ≡ true
  again_fits r again inside =
      let keys : fitted (length prims) q.sort r.keys ≡ r.keys = ap (λ (s : Row). s.keys) again in
      let fit = keys_fit q.sort r.keys in
      and_from _ _ (and_from _ _ (lt-ltb r.object (length prims) inside) (eq-eqb (length r.keys) (length q.sort) (ap length (sym keys) ∙ fit.0))) (subst (λ ks. list_all (key_inside prims) ks ≡ true) keys fit.1)

  each_fits : (rows : List Row) → ((r : Row) → In r rows → row_fits prims q (row_mark r) ≡ true) → list_all (row_fits prims q) (map row_mark rows) ≡ true
  each_fits [] all = refl
  each_fits (r ∷ rows) all = and_from _ _ (all r (inl refl)) (each_fits rows (λ s there. all s (inr there)))

  one_fits : (kept : List Mark) (m : Mark) → list_all (row_fits prims q) kept ≡ true → In m kept → m.object < length prims
  one_fits [] m all here = absurd here
  one_fits (x ∷ kept) m all here =
      let parts = and_parts (row_fits prims q x) (list_all (row_fits prims q) kept) all in
      ⊎_elim (λ same. subst (λ (y : Mark). y.object < length prims) same (ltb-true x.object (length prims) (and_parts _ _ (and_parts (is_inside prims x.object && length x.keys == length q.sort) (list_all (key_inside prims) x.keys) parts.0).0).0))
      (λ there. one_fits kept m parts.1 there) here

module _ (law : RowsTold) (prims : List Primitive) (members : MembersOf) (q : Asked) (after : Option Mark) (order : ScanOrder) (kept : List Mark) (from s : Scan) (w : Kept) where
  rows_fit : list_all (row_fits prims q) kept ≡ true → scan_fits prims members (template_of q) from ≡ true → HasGone prims q after order kept from s w → (list_all (row_fits prims q) (marks_of w) ≡ true) × (length (marks_of w) ≤ q.limit + 1)
  rows_fit fit fits has = (
    subst (λ ms. list_all (row_fits prims q) ms ≡ true) (sym best) (each_fits prims q (take (suc q.limit) (window prims q after offered)) (λ r here. one r (in_best prims q after (suc q.limit) offered r here))),
    subst (λ ms. length ms ≤ q.limit + 1) (sym best) (few (take (suc q.limit) (window prims q after offered)) (taken_few (suc q.limit) (window prims q after offered))),
  )
    where
      offered : List Row
      offered = offered_since prims q kept has.given

      best : marks_of w ≡ best_since prims q after kept has.given
      best = gone_keeps law prims q after order kept from s w has

      few : (rows : List Row) → length rows ≤ suc q.limit → length (map row_mark rows) ≤ q.limit + 1
      few rows less = let same = counted rows in omega (arith, less, same)
        where
          counted : (rows : List Row) → length (map row_mark rows) ≡ length rows
          counted [] = refl
          counted (r ∷ rows) = ap suc (counted rows)

      one : (r : Row) → In r offered → row_fits prims q (row_mark r) ≡ true
      one r here = ⊎_elim
          (λ there.
          let found = In-map (mark_row prims q.sort) kept r there in
          again_fits prims q r (subst (IsAgain prims q) found.2 (mark_again prims q found.0)) (subst (λ (y : Row). y.object < length prims) found.2 (one_fits prims q kept found.0 fit found.1)))
          (λ there.
          let found = In-map (row_of prims q.sort 0) (answering has.given) r there in
          let inside = given_inside prims members (template_of q) order from s has.given fits has.runs found.0 found.1 in
          again_fits prims q r (subst (IsAgain prims q) found.2 (row_again prims q found.0 inside)) (subst (λ (y : Row). y.object < length prims) found.2 inside))
          (in_either (map (mark_row prims q.sort) kept) (map (row_of prims q.sort 0) (answering has.given)) r here)

pub gone_rows_fit : GoneRowsFit
gone_rows_fit law prims members q after order kept from s w fit fits has = rows_fit law prims members q after order kept from s w fit fits has

pub gone_fits : GoneFits
gone_fits law prims members q order kept from s w n after fit fits has at placed =
    let rows = rows_fit law prims members q after order kept from s w fit fits has in
    and_from _ _ (and_from _ _ rows.0 (le-leb (length (marks_of w)) (q.limit + 1) rows.1))
    (runs_fit prims members order (template_of q) from s has.given fits has.runs at placed)

-- ---- trees

module _ (prims : List Primitive) (order : ScanOrder) where
  move_fit : (t : Template) (s : Scan) (cs : List Candidate) (m : Scan) → ScanMoves prims order t s cs m → StackGrows prims t s.frames → list_all (tree_fits prims t) (built_trees cs) ≡ true
  move_fit _ _ _ _ (scan_passes_over t s i same) grows = refl
  move_fit _ _ _ _ (picks t s c i j none is) grows = refl
  move_fit _ _ _ _ (frames_move t s d fs step) grows = refl
  move_fit _ _ _ _ (gives cs clauses s f n o one ends) grows = by o (ends_fit prims clauses f f.lists o ends here.1)
    where
      here : Rattle.gd_thaw_laws.specs.Grown.Grows prims (template cs clauses) f []
      here = subst (StackGrows prims (template cs clauses)) one grows

      by : (o : Option Rattle.gd_tree.specs.Trees.TreeLists) → OFits prims clauses f.place o → list_all (tree_fits prims (template cs clauses)) (built_trees (record { weight = s.weight; answer = option_map (tree f.place) o } ∷ [])) ≡ true
      by None fit = refl
      by (Some ls) fit = and_from _ _ (and_from _ _ here.0 fit) refl

pub given_fit : GivenFit
given_fit prims order t _ _ _ (stays s) grows = refl
given_fit prims order t _ _ _ (moves s m e cs ds step rest) grows =
    ap (list_all (tree_fits prims t)) (filter_map-append _ cs ds)
    ∙ list_all-append (tree_fits prims t) (built_trees cs) (built_trees ds)
    ∙ and_from _ _ (move_fit prims order t s cs m step grows) (given_fit prims order t m e ds rest (scan_grows prims order t s cs m step grows))

module _ (prims : List Primitive) (members : MembersOf) (q : Asked) (page : List Row) (rows w : ℕ) (ts : Trees) (s m : Scan) (cs : List Candidate) (listed : q.count ≡ false)
    (fit : body_fits prims members q rows (building w ts s) ≡ true) (run : Runs prims (rows_order page) (template_of q) s cs m) (up : s.iter.place ≤ m.iter.place) (at : m.iter.place ≤ rows) where
  whole : ((trees_fit prims q rows ts && nat_le s.iter.place rows && not (is_some s.iter.accepted) && stack_fits prims members (template_of q) s.frames) ≡ true) × (nat_le (length (list_of ts) + tried_count s.frames) s.iter.place ≡ true)
  whole = and_parts _ _ fit

  outer : ((trees_fit prims q rows ts && nat_le s.iter.place rows && not (is_some s.iter.accepted)) ≡ true) × (stack_fits prims members (template_of q) s.frames ≡ true)
  outer = and_parts _ _ whole.0

  began : StackGrows prims (template_of q) s.frames
  began = fits_grow prims members (template_of q) s.frames outer.1

  -- the frames to which it goes grow
  pub built_grows : StackGrows prims (template_of q) m.frames
  built_grows = runs_grow prims (rows_order page) (template_of q) s m cs run began

  before : list_all (tree_fits prims (template_of q)) (list_of ts) ≡ true
  before = (and_parts _ _ (and_parts _ _ (and_parts _ _ outer.0).0).0).0

  listed_are : (us : List Tree) → list_of (append ts (trees_of us)) ≡ list_of ts ++ us
  listed_are us = by ts
    where
      again : (vs : List Tree) → list_of (trees_of vs) ≡ vs
      again [] = refl
      again (x ∷ vs) = ap (λ l. x ∷ l) (again vs)

      by : (xs : Trees) → list_of (append xs (trees_of us)) ≡ list_of xs ++ us
      by Rattle.gd_tree.specs.Trees.no_trees = again us
      by (Rattle.gd_tree.specs.Trees.and_tree x xs) = ap (λ l. x ∷ l) (by xs)

  few : length (list_of ts) + length (built_trees cs) + tried_count m.frames ≤ m.iter.place
  few = builds_few prims (template_of q) page (length (list_of ts)) s m cs run up (leb-true (length (list_of ts) + tried_count s.frames) s.iter.place whole.1)

  -- it has no more trees than rows before it, with that of the row that is tried
  pub built_few : length (list_of (append ts (trees_of (built_trees cs)))) + tried_count m.frames ≤ m.iter.place
  built_few =
      let listed_so = ap length (listed_are (built_trees cs)) in
      let same = length-append (list_of ts) (built_trees cs) in
      omega (arith, listed_so, same, few)

  count : length (list_of ts ++ built_trees cs) ≤ rows
  count = let same = length-append (list_of ts) (built_trees cs) in omega (arith, same, few, at)

  -- its trees fit
  pub built_fit : trees_fit prims q rows (append ts (trees_of (built_trees cs))) ≡ true
  built_fit = and_from _ _
      (ap (list_all (tree_fits prims (template_of q))) (listed_are (built_trees cs)) ∙ list_all-append (tree_fits prims (template_of q)) (list_of ts) (built_trees cs) ∙ and_from _ _ before (given_fit prims (rows_order page) (template_of q) s m cs run began))
      (ap (λ (c : Bool). if c then length (list_of (append ts (trees_of (built_trees cs)))) == 0 else nat_le (length (list_of (append ts (trees_of (built_trees cs))))) rows) listed
      ∙ ap (λ l. nat_le (length l) rows) (listed_are (built_trees cs)) ∙ le-leb (length (list_of ts ++ built_trees cs)) rows count)

pub builds_fit : BuildsFit
builds_fit prims members q page rows w v ts s m cs listed fit run up at none placed =
    and_from _ _
    (and_from _ _ (and_from _ _ (and_from _ _ (built_fit prims members q page rows w ts s m cs listed fit run up at) (le-leb m.iter.place rows at)) (ap (λ a. not (is_some a)) none))
    (grown_fit prims members (template_of q) m.frames (built_grows prims members q page rows w ts s m cs listed fit run up at) placed))
    (le-leb (length (list_of (append ts (trees_of (built_trees cs)))) + tried_count m.frames) m.iter.place (built_few prims members q page rows w ts s m cs listed fit run up at))

-- ---- later stores, again

fits_at : List Primitive → MembersOf → Frozen → Result Asked Unknown → Bool
fits_at prims members f (Err u) = false
fits_at prims members f (Ok q) = fits prims members q f

fits_is : (members : MembersOf) (bs : List Batch) (r : ReadRequest) (f : Frozen) → frozen_fits members bs r f ≡ fits_at (prims_at bs f.dateline) members f (asked_query (prims_at bs f.dateline) r.query)
unfolding fits_at
fits_is members bs r f = by (asked_query (prims_at bs f.dateline) r.query) refl
  where
    by : (a : Result Asked Unknown) → asked_query (prims_at bs f.dateline) r.query ≡ a → frozen_fits members bs r f ≡ fits_at (prims_at bs f.dateline) members f a
    by (Err u) e = rw e refl
    by (Ok q) e = rw e refl

pub later_fits : LaterFits
later_fits members bs cs r f within =
    fits_is members (bs ++ cs) r f
    ∙ ap (λ ps. fits_at ps members f (asked_query ps r.query)) (prims_kept bs cs f.dateline within)
    ∙ sym (fits_is members bs r f)
