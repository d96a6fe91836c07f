-- Frames that a matcher comes to fit its template.
use Rattle.std.proofs.Common.{◌≡◌, ◌∙◌, inl, inr, refl, sym, ap, subst, ◌==◌, ℕ, List, [], ◌∷◌, Bool, true, false, ◌&&◌, ◌||◌, Option, Some, None, length, map}
use Rattle.std.specs.Prelude.{nat_le, option_map, if◌then◌else◌}
use Rattle.std.specs.List.{list_all}
use Rattle.std.proofs.lemmas.Bool.{and_parts, and_from, eq-eqb}
use Rattle.gd_prim.specs.declared.Primitive.{Primitive}
use Rattle.gd_tree.specs.Trees.{Tree, tree, Trees, no_trees, and_tree, TreeLists, no_lists, and_list, place_of, list_of, trees_of, append, has_tree}
use Rattle.gd_defs.specs.Query.{Mode}
use Rattle.gd_defs.specs.Rows.{meets_mode}
use Rattle.gd_defs.specs.Template.{Constraint, Template, template, Clauses, no_clauses, clause, Hop, meets_constraints, meets_clauses, led_to, is_answer, passes_template, passes_clauses, tree_of, clause_lists, clause_answers}
use Rattle.gd_bytes.specs.Frozen.{IterAt, Frame, Scan}
use Rattle.gd_runs.specs.Owed.{ScanOrder, Candidate, MembersOf, is_among, with_list, tree_fits, lists_fit, iter_fits, frames_fit, frame_lists_fit, stack_fits}
use Rattle.gd_order_laws.specs.Window.{In}
use Rattle.gd_order_laws.proofs.Sorted.{In-filter}
use Rattle.gd_match_laws.specs.Moves.{passing_from, appended, fresh, Ends, nothing_asked, last_ends, required_unmet, later_ends, FrameMoves, begins, passes_over, descends, takes, below_moves, below_ends, next_begins, later_moves, StackMoves, frame_moves, ScanMoves, scan_passes_over, picks, frames_move, gives, stays, moves}
use Rattle.gd_thaw_laws.specs.Grown.{TreesFit, Grows, ListsGrow, StackGrows, IsPlaced, ListsPlaced, RunsGrow, FitsGrow, GrownFit, RunsFit, TreesOfFit}

-- what a list has is among it
among : (xs : List ℕ) (x : ℕ) → In x xs → is_among xs x ≡ true
among [] x here = absurd here
among (y ∷ xs) x (inl same) = ap (λ b. b || is_among xs x) (eq-eqb y x same)
among (y ∷ xs) x (inr there) = ap (λ b. (y == x) || b) (among xs x there) ∙ or_true (y == x)
  where
    or_true : (b : Bool) → (b || true) ≡ true
    or_true true = refl
    or_true false = refl

-- the tree of what meets the constraints
place_is : (prims : List Primitive) (t : Template) (p : ℕ) → place_of (tree_of prims t p) ≡ p
place_is prims (template cs clauses) p = refl

-- trees of answers fit where each does
all_fit : (prims : List Primitive) (hop : Hop) (t : Template) (p : ℕ) → ((x : ℕ) → is_answer prims t x ≡ true → tree_fits prims t (tree_of prims t x) ≡ true)
    → (xs : List ℕ) → ((x : ℕ) → In x xs → In x (led_to prims hop p) × (is_answer prims t x ≡ true)) → TreesFit prims hop t p (trees_of (map (tree_of prims t) xs))
all_fit prims hop t p one [] each = refl
all_fit prims hop t p one (x ∷ xs) each =
    let first = each x (inl refl) in
    and_from _ _ (and_from _ _ (subst (λ y. is_among (led_to prims hop p) y ≡ true) (sym (place_is prims t x)) (among (led_to prims hop p) x first.0)) (one x first.1)) (all_fit prims hop t p one xs (λ y there. each y (inr there)))

mutual
  tree_is_fit : (prims : List Primitive) (t : Template) (p : ℕ) → is_answer prims t p ≡ true → tree_fits prims t (tree_of prims t p) ≡ true
  tree_is_fit prims (template cs inner) p is = and_from _ _ (and_parts (meets_constraints prims cs p) (meets_clauses prims inner p) is).0 (lists_are_fit prims inner p)

  lists_are_fit : (prims : List Primitive) (clauses : Clauses) (p : ℕ) → lists_fit prims clauses p (clause_lists prims clauses p) ≡ true
  lists_are_fit prims no_clauses p = refl
  lists_are_fit prims (clause mode hop t rest) p =
      and_from _ _ (all_fit prims hop t p (λ x is. tree_is_fit prims t x is) (clause_answers prims hop t p) (λ x here. In-filter (is_answer prims t) (led_to prims hop p) x here)) (lists_are_fit prims rest p)

pub trees_of_fit : TreesOfFit
trees_of_fit = tree_is_fit

module _ (prims : List Primitive) where
  -- a first passing place
  passing_meets : (cs : List Constraint) (inner : Clauses) (x : ℕ) → passes_template prims (template cs inner) x ≡ true → meets_constraints prims cs x ≡ true
  passing_meets cs inner x passes = (and_parts (meets_constraints prims cs x) (passes_clauses prims inner x) passes).0

  first_passes : (hop : Hop) (t : Template) (p a x : ℕ) (xs : List ℕ) → passing_from prims hop t p a ≡ x ∷ xs → (is_among (led_to prims hop p) x ≡ true) × (passes_template prims t x ≡ true)
  first_passes hop t p a x xs is =
      let here = In-filter (λ y. nat_le a y && passes_template prims t y) (led_to prims hop p) x (subst (In x) (sym is) (inl refl)) in
      (among (led_to prims hop p) x here.0, (and_parts (nat_le a x) (passes_template prims t x) here.1).1)

  fresh_grows : (t : Template) (x : ℕ) (j : IterAt) → passes_template prims t x ≡ true → Grows prims t (fresh x j) []
  fresh_grows (template cs no_clauses) x j passes = (passing_meets cs no_clauses x passes, tt)
  fresh_grows (template cs (clause mode hop t rest)) x j passes = (passing_meets cs (clause mode hop t rest) x passes, tt)

  -- trees with one behind them
  one_more : (hop : Hop) (t : Template) (p : ℕ) (ts : Trees) (u : Tree) → TreesFit prims hop t p ts → is_among (led_to prims hop p) (place_of u) ≡ true → tree_fits prims t u ≡ true → TreesFit prims hop t p (append ts (and_tree u no_trees))
  one_more hop t p no_trees u all here fit = and_from _ _ (and_from _ _ here fit) refl
  one_more hop t p (and_tree v ts) u all here fit =
      let parts = and_parts (is_among (led_to prims hop p) (place_of v) && tree_fits prims t v) (list_all (λ w. is_among (led_to prims hop p) (place_of w) && tree_fits prims t w) (list_of ts)) all in
      and_from _ _ parts.0 (one_more hop t p ts u parts.1 here fit)

  -- ---- a frame at its end

  abbrev pub OFits : Clauses → ℕ → Option TreeLists → Type 0
  OFits clauses p None = Unit {0}
  OFits clauses p (Some ks) = lists_fit prims clauses p ks ≡ true

  list_joins : (mode : Mode) (hop : Hop) (t : Template) (rest : Clauses) (p : ℕ) (ts : Trees) (o : Option TreeLists) → TreesFit prims hop t p ts → OFits rest p o → OFits (clause mode hop t rest) p (with_list mode ts o)
  list_joins mode hop t rest p ts o all has = by (meets_mode mode (has_tree ts)) o has
    where
      by : (b : Bool) (o : Option TreeLists) → OFits rest p o → OFits (clause mode hop t rest) p (if b then option_map (and_list ts) o else None)
      by true None has = tt
      by true (Some ks) has = and_from _ _ all has
      by false o has = tt

  pub ends_fit : (clauses : Clauses) (f : Frame) (ls : TreeLists) (o : Option TreeLists) → Ends prims clauses f ls o → ListsGrow prims clauses f.place ls [] → OFits clauses f.place o
  ends_fit _ _ _ _ (nothing_asked f) grows = refl
  ends_fit _ _ _ _ (last_ends mode hop t f ts none) grows = list_joins mode hop t no_clauses f.place ts (Some no_lists) grows refl
  ends_fit _ _ _ _ (required_unmet mode hop t rest f ts none stop) grows = tt
  ends_fit _ _ _ _ (later_ends mode hop t rest f ts us ls o ends) grows = list_joins mode hop t rest f.place ts o grows.0 (ends_fit rest f (and_list us ls) o ends grows.1)

  -- ---- moves

  passing_fits : (t : Template) (x : ℕ) → passes_template prims t x ≡ true → tree_fits prims t (tree_of prims t x) ≡ true
  passing_fits (template cs inner) x passes = and_from _ _ (passing_meets cs inner x passes) (lists_are_fit prims inner x)

  ended : (mode : Mode) (hop : Hop) (cs : List Constraint) (inner rest : Clauses) (p : ℕ) (g : Frame) (ts : Trees) (o : Option TreeLists) → OFits inner g.place o
      → ListsGrow prims (clause mode hop (template cs inner) rest) p (and_list ts no_lists) (g ∷ []) → TreesFit prims hop (template cs inner) p (appended ts (option_map (tree g.place) o))
  ended mode hop cs inner rest p g ts None fit grows = grows.0
  ended mode hop cs inner rest p g ts (Some ks) fit grows = one_more hop (template cs inner) p ts (tree g.place ks) grows.0 grows.1.0 (and_from _ _ grows.1.1.0 fit)

  mutual
    frame_grows : (clauses : Clauses) (f : Frame) (ls : TreeLists) (gs : List Frame) (d : ℕ) (i : IterAt) (ks : TreeLists) (hs : List Frame) → FrameMoves prims clauses f ls gs d i ks hs
        → ListsGrow prims clauses f.place ls gs → ListsGrow prims clauses f.place ks hs
    frame_grows _ _ _ _ _ _ _ _ (begins mode hop t rest f i first) grows = refl
    frame_grows _ _ _ _ _ _ _ _ (passes_over mode hop t rest f ts gs i same) grows = grows
    frame_grows _ _ _ _ _ _ _ _ (descends mode hop t rest f ts x i j is) grows =
        let first = first_passes hop t f.place f.iter.place x (passing_from prims hop t f.place i.place) is in
        (grows, (first.0, fresh_grows t x j first.1))
    frame_grows _ _ _ _ _ _ _ _ (takes mode hop t rest f ts x i given is) grows =
        let first = first_passes hop t f.place f.iter.place x (passing_from prims hop t f.place i.place) is in
        one_more hop t f.place ts (tree_of prims t x) grows (subst (λ y. is_among (led_to prims hop f.place) y ≡ true) (sym (place_is prims t x)) first.0) (passing_fits t x first.1)
    frame_grows _ _ _ _ _ _ _ _ (below_moves mode hop t rest f ts gs d hs step) grows = below mode hop t rest f.place ts gs d hs step grows
    frame_grows _ _ _ _ _ _ _ _ (below_ends mode hop cs inner rest f g ts o ends) grows = ended mode hop cs inner rest f.place g ts o (ends_fit inner g g.lists o ends grows.1.1.1) grows
    frame_grows _ _ _ _ _ _ _ _ (next_begins mode hop t m h u rest f ts i none goes first) grows = (grows, refl)
    frame_grows _ _ _ _ _ _ _ _ (later_moves mode hop t rest f ts us vs ls ks gs d i hs step) grows = (grows.0, frame_grows rest f (and_list us ls) gs d i (and_list vs ks) hs step grows.1)

    below : (mode : Mode) (hop : Hop) (t : Template) (rest : Clauses) (p : ℕ) (ts : Trees) (gs : List Frame) (d : ℕ) (hs : List Frame) → StackMoves prims t gs d hs
        → ListsGrow prims (clause mode hop t rest) p (and_list ts no_lists) gs → ListsGrow prims (clause mode hop t rest) p (and_list ts no_lists) hs
    below mode hop _ rest p ts _ _ _ (frame_moves cs clauses g gs d i ls hs step) grows = (grows.0, (grows.1.0, (grows.1.1.0, frame_grows clauses g g.lists gs d i ls hs step grows.1.1.1)))

  stack_grows : (t : Template) (gs : List Frame) (d : ℕ) (hs : List Frame) → StackMoves prims t gs d hs → StackGrows prims t gs → StackGrows prims t hs
  stack_grows _ _ _ _ (frame_moves cs clauses f gs d i ls hs step) grows = (grows.0, frame_grows clauses f f.lists gs d i ls hs step grows.1)

  pub scan_grows : (order : ScanOrder) (t : Template) (s : Scan) (cs : List Candidate) (m : Scan) → ScanMoves prims order t s cs m → StackGrows prims t s.frames → StackGrows prims t m.frames
  scan_grows order _ _ _ _ (scan_passes_over t s i same) grows = grows
  scan_grows order _ _ _ _ (picks t s c i j none is) grows = fresh_grows t c.1 j
      (and_parts (nat_le s.iter.place c.0) (passes_template prims t c.1) (In-filter (λ (d : ℕ × ℕ). nat_le s.iter.place d.0 && passes_template prims t d.1) order c (subst (In c) (sym is) (inl refl))).1).1
  scan_grows order _ _ _ _ (frames_move t s d fs step) grows = stack_grows t s.frames d fs step grows
  scan_grows order _ _ _ _ (gives cs clauses s f n o one ends) grows = tt

pub runs_grow : RunsGrow
runs_grow prims order t _ _ _ (stays s) grows = grows
runs_grow prims order t _ _ _ (moves s m e cs ds step rest) grows = runs_grow prims order t m e ds rest (scan_grows prims order t s cs m step grows)

-- ---- what fits

mutual
  fits_grow_frame : (prims : List Primitive) (members : MembersOf) (end : ℕ) (t : Template) (f : Frame) (deeper : List Frame) → frames_fit prims members end t f deeper ≡ true → Grows prims t f deeper
  fits_grow_frame prims members end (template cs clauses) f deeper fits =
      let parts = and_parts (meets_constraints prims cs f.place) (frame_lists_fit prims members end clauses f f.lists deeper) fits in
      (parts.0, fits_grow_lists prims members end clauses f f.lists deeper parts.1)

  fits_grow_lists : (prims : List Primitive) (members : MembersOf) (end : ℕ) (clauses : Clauses) (f : Frame) (ls : TreeLists) (deeper : List Frame) → frame_lists_fit prims members end clauses f ls deeper ≡ true → ListsGrow prims clauses f.place ls deeper
  fits_grow_lists prims members end no_clauses f ls deeper fits = absurd (let none : false ≡ true = fits in cc)
  fits_grow_lists prims members end (clause mode hop t rest) f no_lists deeper fits = absurd (let none : false ≡ true = fits in cc)
  fits_grow_lists prims members end (clause mode hop t rest) f (and_list ts no_lists) [] fits = (and_parts _ (iter_fits end (members prims (Some hop) t) f.iter) fits).0
  fits_grow_lists prims members end (clause mode hop t rest) f (and_list ts no_lists) (g ∷ gs) fits =
      let outer = and_parts _ (frames_fit prims members end t g gs) fits in
      let mid = and_parts _ (is_among (led_to prims hop f.place) g.place) outer.0 in
      let inner = and_parts _ (iter_fits end (members prims (Some hop) t) f.iter) mid.0 in
      (inner.0, (mid.1, fits_grow_frame prims members end t g gs outer.1))
  fits_grow_lists prims members end (clause mode hop t rest) f (and_list ts (and_list us ls)) deeper fits =
      let parts = and_parts _ (frame_lists_fit prims members end rest f (and_list us ls) deeper) fits in
      (parts.0, fits_grow_lists prims members end rest f (and_list us ls) deeper parts.1)

pub fits_grow : FitsGrow
fits_grow prims members t [] fits = tt
fits_grow prims members t (f ∷ fs) fits = fits_grow_frame prims members (length prims) t f fs fits

mutual
  grown_frame : (prims : List Primitive) (members : MembersOf) (end : ℕ) (t : Template) (f : Frame) (deeper : List Frame) → Grows prims t f deeper → IsPlaced prims members end t f deeper → frames_fit prims members end t f deeper ≡ true
  grown_frame prims members end (template cs clauses) f deeper grows placed = and_from _ _ grows.0 (grown_lists prims members end clauses f f.lists deeper grows.1 placed)

  grown_lists : (prims : List Primitive) (members : MembersOf) (end : ℕ) (clauses : Clauses) (f : Frame) (ls : TreeLists) (deeper : List Frame) → ListsGrow prims clauses f.place ls deeper → ListsPlaced prims members end clauses f ls deeper → frame_lists_fit prims members end clauses f ls deeper ≡ true
  grown_lists prims members end no_clauses f ls deeper grows placed = absurd placed
  grown_lists prims members end (clause mode hop t rest) f no_lists deeper grows placed = absurd placed
  grown_lists prims members end (clause mode hop t rest) f (and_list ts no_lists) [] grows placed = and_from _ _ grows placed
  grown_lists prims members end (clause mode hop t rest) f (and_list ts no_lists) (g ∷ gs) grows placed =
      and_from _ _ (and_from _ _ (and_from _ _ grows.0 placed.0) grows.1.0) (grown_frame prims members end t g gs grows.1.1 placed.1)
  grown_lists prims members end (clause mode hop t rest) f (and_list ts (and_list us ls)) deeper grows placed = and_from _ _ grows.0 (grown_lists prims members end rest f (and_list us ls) deeper grows.1 placed)

pub grown_fit : GrownFit
grown_fit prims members t [] grows placed = refl
grown_fit prims members t (f ∷ fs) grows placed = grown_frame prims members (length prims) t f fs grows placed

pub runs_fit : RunsFit
runs_fit prims members order t s m cs fits run at placed =
    and_from _ _ at
    (grown_fit prims members t m.frames
    (runs_grow prims order t s m cs run (fits_grow prims members t s.frames (and_parts (iter_fits (length prims) (members prims None t) s.iter) (stack_fits prims members t s.frames) fits).1)) placed)
