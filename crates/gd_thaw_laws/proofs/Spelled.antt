-- Frozen readings that fit lie within the bounds of texts.
use Rattle.std.proofs.Common.{◌≡◌, refl, arith, ◌==◌, ℕ, ◌+◌, ◌<◌, ◌≤◌, List, [], ◌∷◌, Bool, true, ◌&&◌, not, Option, Some, None, length}
use Rattle.std.specs.Prelude.{nat_le, nat_lt, is_some}
use Rattle.std.specs.List.{list_all}
use Rattle.std.specs.Option.{option_map_or}
use Rattle.std.proofs.lemmas.Bool.{and_parts, and_from, eqb-true, ltb-true, leb-true, le-leb}
use Rattle.gd_prim.specs.declared.Primitive.{Primitive}
use Rattle.gd_tree.specs.Trees.{Tree, tree, Trees, no_trees, and_tree, TreeLists, no_lists, and_list, place_of, list_of, has_list}
use Rattle.gd_defs.specs.Asked.{Asked}
use Rattle.gd_defs.specs.Plan.{template_of}
use Rattle.gd_defs.specs.Reply.{Mark}
use Rattle.gd_defs.specs.Template.{Template, template, Clauses, no_clauses, clause, Hop, meets_constraints, led_to}
use Rattle.gd_bytes.specs.Frozen.{IterAt, Frame, Scan, Body, scanning, building, printing, place_in_bounds, key_in_bounds, row_in_bounds, iter_in_bounds, tree_in_bounds, trees_in_bounds, lists_in_bounds, frame_in_bounds, scan_in_bounds, body_in_bounds}
use Rattle.gd_runs.specs.Owed.{is_among, tree_fits, lists_fit, iter_fits, frames_fit, frame_lists_fit, stack_fits}
use Rattle.gd_runs.specs.Fitting.{is_inside, key_inside, row_fits, trees_fit, tried_count, body_fits, fits}
use Rattle.gd_thaw_laws.specs.Spelled.{one_member, NumbersFit, FittingAreSpelled}
use Rattle.gd_thaw_laws.proofs.Going.{met_inside}

-- what each of a list is, each is that follows from it
all_weaker : {A : Type 0} (p r : A → Bool) → ((x : A) → p x ≡ true → r x ≡ true) → (xs : List A) → list_all p xs ≡ true → list_all r xs ≡ true
all_weaker p r weaker [] all = refl
all_weaker p r weaker (x ∷ xs) all = let parts = and_parts (p x) (list_all p xs) all in and_from _ _ (weaker x parts.0) (all_weaker p r weaker xs parts.1)

module _ (prims : List Primitive) (few : length prims ≤ 2_097_151) where
  end : ℕ
  end = length prims

  -- places below the end
  within : (p : ℕ) → p ≤ length prims → place_in_bounds p ≡ true
  within p less = le-leb p 2_097_151 (omega (arith, less, few))

  below : (p : ℕ) → p < length prims → place_in_bounds p ≡ true
  below p less = le-leb p 2_097_151 (omega (arith, less, few))

  -- ---- rows

  key_bound : (k : Option ℕ) → key_inside prims k ≡ true → key_in_bounds k ≡ true
  key_bound None inside = refl
  key_bound (Some p) inside = below p (ltb-true p (length prims) inside)

  row_bound : (q : Asked) (r : Mark) → length q.sort ≤ 4 → row_fits prims q r ≡ true → row_in_bounds r ≡ true
  row_bound q r short fit =
      let outer = and_parts (is_inside prims r.object && length r.keys == length q.sort) (list_all (key_inside prims) r.keys) fit in
      let inner = and_parts (is_inside prims r.object) (length r.keys == length q.sort) outer.0 in
      let count : length r.keys ≡ length q.sort = eqb-true (length r.keys) (length q.sort) inner.1 in
      and_from _ _ (and_from _ _ (below r.object (ltb-true r.object (length prims) inner.0)) (le-leb (length r.keys) 4 (omega (arith, count, short))))
      (all_weaker (key_inside prims) key_in_bounds key_bound r.keys outer.1)

  -- ---- trees

  mutual
    tree_bound : (t : Template) (u : Tree) → tree_fits prims t u ≡ true → tree_in_bounds u ≡ true
    tree_bound (template cs clauses) (tree p ls) fit =
        let parts = and_parts (meets_constraints prims cs p) (lists_fit prims clauses p ls) fit in
        and_from _ _ (below p (met_inside prims cs p parts.0)) (lists_bound clauses p ls parts.1)

    lists_bound : (clauses : Clauses) (p : ℕ) (ls : TreeLists) → lists_fit prims clauses p ls ≡ true → lists_in_bounds ls ≡ true
    lists_bound no_clauses p no_lists fit = refl
    lists_bound no_clauses p (and_list ts ls) fit = absurd (cc)
    lists_bound (clause mode hop t rest) p no_lists fit = absurd (cc)
    lists_bound (clause mode hop t rest) p (and_list ts ls) fit =
        let parts = and_parts (list_all (λ u. is_among (led_to prims hop p) (place_of u) && tree_fits prims t u) (list_of ts)) (lists_fit prims rest p ls) fit in
        and_from _ _ (among_bound hop t p ts parts.0) (lists_bound rest p ls parts.1)

    among_bound : (hop : Hop) (t : Template) (p : ℕ) (ts : Trees) → list_all (λ u. is_among (led_to prims hop p) (place_of u) && tree_fits prims t u) (list_of ts) ≡ true → trees_in_bounds ts ≡ true
    among_bound hop t p no_trees fit = refl
    among_bound hop t p (and_tree u ts) fit =
        let parts = and_parts (is_among (led_to prims hop p) (place_of u) && tree_fits prims t u) (list_all (λ v. is_among (led_to prims hop p) (place_of v) && tree_fits prims t v) (list_of ts)) fit in
        and_from _ _ (tree_bound t u (and_parts (is_among (led_to prims hop p) (place_of u)) (tree_fits prims t u) parts.0).1) (among_bound hop t p ts parts.1)

  trees_bound : (t : Template) (ts : Trees) → list_all (tree_fits prims t) (list_of ts) ≡ true → trees_in_bounds ts ≡ true
  trees_bound t no_trees fit = refl
  trees_bound t (and_tree u ts) fit =
      let parts = and_parts (tree_fits prims t u) (list_all (tree_fits prims t) (list_of ts)) fit in
      and_from _ _ (tree_bound t u parts.0) (trees_bound t ts parts.1)

  -- ---- iterators and frames

  at_bound : (p : ℕ) (accepted : Option ℕ) → place_in_bounds p ≡ true → option_map_or (λ m. nat_lt m 1) accepted true ≡ true → iter_in_bounds (record { place = p; accepted = accepted }) ≡ true
  at_bound p None at fit = and_from _ _ at refl
  at_bound p (Some m) at fit = and_from _ _ at (le-leb m 4_294_967_295 (let less = ltb-true m 1 fit in omega (arith, less)))

  iter_bound : (i : IterAt) → iter_fits (length prims) 1 i ≡ true → iter_in_bounds i ≡ true
  iter_bound i fit =
      let parts = and_parts (nat_le i.place (length prims)) (option_map_or (λ m. nat_lt m 1) i.accepted true) fit in
      at_bound i.place i.accepted (within i.place (leb-true i.place (length prims) parts.0)) parts.1

  mutual
    frames_bound : (t : Template) (f : Frame) (fs : List Frame) → frames_fit prims one_member (length prims) t f fs ≡ true → list_all frame_in_bounds (f ∷ fs) ≡ true
    frames_bound (template cs clauses) f fs fit =
        let parts = and_parts (meets_constraints prims cs f.place) (frame_lists_fit prims one_member (length prims) clauses f f.lists fs) fit in
        let inner = clauses_bound clauses f f.lists fs parts.1 in
        and_from _ _ (and_from _ _ (and_from _ _ (and_from _ _ (below f.place (met_inside prims cs f.place parts.0)) inner.0) inner.1.0) inner.1.1.0) inner.1.1.1

    clauses_bound : (clauses : Clauses) (f : Frame) (ls : TreeLists) (fs : List Frame) → frame_lists_fit prims one_member (length prims) clauses f ls fs ≡ true
        → (iter_in_bounds f.iter ≡ true) × ((has_list ls ≡ true) × ((lists_in_bounds ls ≡ true) × (list_all frame_in_bounds fs ≡ true)))
    clauses_bound no_clauses f ls fs fit = absurd (cc)
    clauses_bound (clause mode hop t rest) f no_lists fs fit = absurd (cc)
    clauses_bound (clause mode hop t rest) f (and_list ts no_lists) [] fit =
        let parts = and_parts (list_all (λ u. is_among (led_to prims hop f.place) (place_of u) && tree_fits prims t u) (list_of ts)) (iter_fits (length prims) 1 f.iter) fit in
        (iter_bound f.iter parts.1, (refl, (and_from _ _ (among_bound hop t f.place ts parts.0) refl, refl)))
    clauses_bound (clause mode hop t rest) f (and_list ts no_lists) (g ∷ gs) fit =
        let last = and_parts (list_all (λ u. is_among (led_to prims hop f.place) (place_of u) && tree_fits prims t u) (list_of ts) && iter_fits (length prims) 1 f.iter && is_among (led_to prims hop f.place) g.place) (frames_fit prims one_member (length prims) t g gs) fit in
        let next = and_parts (list_all (λ u. is_among (led_to prims hop f.place) (place_of u) && tree_fits prims t u) (list_of ts) && iter_fits (length prims) 1 f.iter) (is_among (led_to prims hop f.place) g.place) last.0 in
        let parts = and_parts (list_all (λ u. is_among (led_to prims hop f.place) (place_of u) && tree_fits prims t u) (list_of ts)) (iter_fits (length prims) 1 f.iter) next.0 in
        (iter_bound f.iter parts.1, (refl, (and_from _ _ (among_bound hop t f.place ts parts.0) refl, frames_bound t g gs last.1)))
    clauses_bound (clause mode hop t rest) f (and_list ts (and_list us ls)) fs fit =
        let parts = and_parts (list_all (λ u. is_among (led_to prims hop f.place) (place_of u) && tree_fits prims t u) (list_of ts)) (frame_lists_fit prims one_member (length prims) rest f (and_list us ls) fs) fit in
        let inner = clauses_bound rest f (and_list us ls) fs parts.1 in
        (inner.0, (refl, (and_from _ _ (among_bound hop t f.place ts parts.0) inner.1.1.0, inner.1.1.1)))

  stack_bound : (t : Template) (fs : List Frame) → stack_fits prims one_member t fs ≡ true → list_all frame_in_bounds fs ≡ true
  stack_bound t [] fit = refl
  stack_bound t (f ∷ fs) fit = frames_bound t f fs fit

  scan_bound : (t : Template) (s : Scan) → s.weight ≤ 4_294_967_295 → iter_in_bounds s.iter ≡ true → stack_fits prims one_member t s.frames ≡ true → scan_in_bounds s ≡ true
  scan_bound t s light at fit = and_from _ _ (and_from _ _ at (le-leb s.weight 4_294_967_295 light)) (stack_bound t s.frames fit)

  -- ---- bodies

  body_bound : (q : Asked) (rows : ℕ) (b : Body) → rows ≤ 1001 → NumbersFit b → body_fits prims one_member q rows b ≡ true → body_in_bounds b ≡ true
  body_bound q rows (scanning s) few_rows light fit =
      let parts = and_parts (iter_fits (length prims) 1 s.iter) (stack_fits prims one_member (template_of q) s.frames) fit in
      scan_bound (template_of q) s light (iter_bound s.iter parts.0) parts.1
  body_bound q rows (building w ts s) few_rows light fit =
      let whole = and_parts (trees_fit prims q rows ts && nat_le s.iter.place rows && not (is_some s.iter.accepted) && stack_fits prims one_member (template_of q) s.frames) (nat_le (length (list_of ts) + tried_count s.frames) s.iter.place) fit in
      let last = and_parts (trees_fit prims q rows ts && nat_le s.iter.place rows && not (is_some s.iter.accepted)) (stack_fits prims one_member (template_of q) s.frames) whole.0 in
      let next = and_parts (trees_fit prims q rows ts && nat_le s.iter.place rows) (not (is_some s.iter.accepted)) last.0 in
      let first = and_parts (trees_fit prims q rows ts) (nat_le s.iter.place rows) next.0 in
      let at : s.iter.place ≤ rows = leb-true s.iter.place rows first.1 in
      and_from _ _ (and_from _ _ (le-leb w 4_294_967_295 light.0) (trees_bound (template_of q) ts (and_parts _ _ first.0).0))
      (scan_bound (template_of q) s light.1 (none_bound s.iter.place s.iter.accepted (le-leb s.iter.place 2_097_151 (omega (arith, at, few_rows))) next.1) last.1)
    where
      none_bound : (p : ℕ) (accepted : Option ℕ) → place_in_bounds p ≡ true → not (is_some accepted) ≡ true → iter_in_bounds (record { place = p; accepted = accepted }) ≡ true
      none_bound p None at none = and_from _ _ at refl
      none_bound p (Some m) at none = absurd (cc)
  body_bound q rows (printing n ts ws) few_rows light fit =
      let last = and_parts (trees_fit prims q rows ts && list_all (Rattle.gd_runs.specs.Fitting.walk_fits prims) ws && nat_le n (Rattle.gd_tree.specs.Trees.trees_count ts)) (nat_le (length ws) (Rattle.gd_runs.specs.Shape.Ids.page_ids prims q (list_of ts))) fit in
      let next = and_parts (trees_fit prims q rows ts && list_all (Rattle.gd_runs.specs.Fitting.walk_fits prims) ws) (nat_le n (Rattle.gd_tree.specs.Trees.trees_count ts)) last.0 in
      let first = and_parts (trees_fit prims q rows ts) (list_all (Rattle.gd_runs.specs.Fitting.walk_fits prims) ws) next.0 in
      and_from _ _ (and_from _ _ (le-leb n 4_294_967_295 light.0) (trees_bound (template_of q) ts (and_parts _ _ first.0).0)) light.1

-- LAW: a frozen reading that fits has a text
pub fitting_are_spelled : FittingAreSpelled
fitting_are_spelled prims q f few short limited dateline after light fit =
    let last = and_parts (list_all (row_fits prims q) f.rows && nat_le (length f.rows) (q.limit + 1)) (body_fits prims one_member q (length f.rows) f.body) fit in
    let first = and_parts (list_all (row_fits prims q) f.rows) (nat_le (length f.rows) (q.limit + 1)) last.0 in
    let count : length f.rows ≤ q.limit + 1 = leb-true (length f.rows) (q.limit + 1) first.1 in
    let rows : length f.rows ≤ 1001 = omega (arith, count, limited) in
    and_from _ _ (and_from _ _ (and_from _ _ (and_from _ _ (le-leb f.dateline 4_194_303 dateline) after) (le-leb (length f.rows) 1001 rows))
    (all_weaker (row_fits prims q) row_in_bounds (λ r is. row_bound prims few q r short is) f.rows first.0)) (body_bound prims few q (length f.rows) f.body rows light last.1)
