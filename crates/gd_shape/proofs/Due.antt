-- The steps of a page's body are those that the work of its rows pays for.
use Rattle.std.proofs.Common.{◌≡◌, ◌∙◌, ◌≤◌, ◌<◌, ◌+◌, ◌-◌, ◌*◌, ℕ, List, [], ◌∷◌, length, map, min, refl, sym, ap, subst, arith}
use Rattle.std.specs.Prelude.{sum_by}
use Rattle.std.proofs.lemmas.List.Sums.{sum_by-cons}
use Rattle.gd_prim.specs.declared.Primitive.{Primitive}
use Rattle.gd_tree.specs.Trees as trees
use Rattle.gd_tree.specs.Trees.{list_of, tree_count, trees_count}
use Rattle.gd_defs.specs.Asked.{Asked}
use Rattle.gd_defs.specs.Plan.{template_of}
use Rattle.gd_defs.specs.Rows.{Row}
use Rattle.gd_defs.specs.Template.{tree_of}
use Rattle.gd_match_laws.specs.Walks.{rows_listed}
use Rattle.gd_trees.specs.View.{view, trees_view}
use Rattle.gd_trees.specs.declared.tree.Trees.{Trees, out-Trees}
use Rattle.gd_left_laws.specs.PassedOn.{printing_most}
use Rattle.gd_shape.specs.Shaping.{body_due, AreCounted, IsBodyOf}
use Rattle.gd_shape.specs.declared.shape.PageBody.{PageBody}
use Rattle.gd_shape.specs.declared.shape.PageBody.TheVariants as body
use Rattle.gd_shape.proofs.InTrees.{list_seen}

-- the places of trees are those of each of them
places_of : (ts : trees.Trees) → trees_count ts ≡ sum_by tree_count (list_of ts)
places_of trees.no_trees = refl
places_of (trees.and_tree t ts) = ap (λ n. tree_count t + n) (places_of ts) ∙ sym (sum_by-cons tree_count t (list_of ts))

-- a sum over what is made of rows is one over the rows
sum_made : (f : Row → trees.Tree) (rows : List Row) → sum_by tree_count (map f rows) ≡ sum_by (λ (r : Row). tree_count (f r)) rows
sum_made f [] = refl
sum_made f (r ∷ rows) =
    sum_by-cons tree_count (f r) (map f rows) ∙ ap (λ n. tree_count (f r) + n) (sum_made f rows) ∙ sym (sum_by-cons (λ (x : Row). tree_count (f x)) r rows)

-- what a body takes is paid by the rows whose trees it has
body_paid : (prims : List Primitive) (q : Asked) (b : PageBody) (rows : List Row) → IsBodyOf prims q rows b → body_due prims q b ≤ printing_most prims q rows
body_paid prims q (body.Trees ts) rows is =
    let f : Row → trees.Tree = λ (r : Row). tree_of prims (template_of q) r.object in
    let places : trees_count (trees_view ts) ≡ sum_by (λ (r : Row). tree_count (f r)) rows = places_of (trees_view ts) ∙ ap (sum_by tree_count) is ∙ sum_made f rows in
    let ids : length (rows_listed prims q.members (list_of (trees_view ts))) ≡ length (rows_listed prims q.members (map f rows)) = ap (λ us. length (rows_listed prims q.members us)) is in
    more _ _ _ _ places ids
  where
    more : (m n i j : ℕ) → m ≡ n → i ≡ j → m + 785 * i ≤ n + 785 * j + 256
    more m n i j one two = omega (arith, one, two)
body_paid prims q (body.Count n) rows is = omega arith

-- a shape of trees takes no more than its body
pub trees_due : (prims : List Primitive) (q : Asked) (ts : Trees) (places due : ℕ) → places ≤ trees_count (trees_view ts)
    → due ≤ places + 785 * length (rows_listed prims q.members (map view (out-Trees ts).items.items)) → due ≤ body_due prims q (body.Trees ts)
trees_due prims q ts places due few most =
    let same : length (rows_listed prims q.members (map view (out-Trees ts).items.items)) ≡ length (rows_listed prims q.members (list_of (trees_view ts))) = ap (λ us. length (rows_listed prims q.members us)) (sym (list_seen ts)) in
    more _ _ _ _ _ few most same
  where
    more : (due places m i j : ℕ) → places ≤ m → due ≤ places + 785 * i → i ≡ j → due ≤ m + 785 * j
    more due places m i j few most same = omega (arith, few, most, same)

-- what is no more than a body takes is paid by the rows whose trees it has
pub due_paid : (prims : List Primitive) (q : Asked) (b : PageBody) (rows : List Row) (due : ℕ) → IsBodyOf prims q rows b → due ≤ body_due prims q b → due ≤ printing_most prims q rows
due_paid prims q b rows due is less = more _ _ _ less (body_paid prims q b rows is)
  where
    more : (i j k : ℕ) → i ≤ j → j ≤ k → i ≤ k
    more i j k one two = omega (arith, one, two)

-- ---- places that are counted

-- of trees of which some were counted
pub trees_counted : (ts : Trees) (count most printed places : ℕ) → count ≡ min (trees_count (trees_view ts)) 18_446_744_073_709_551_615 → most ≡ min count 262_144 → places ≡ most - printed
    → printed ≤ trees_count (trees_view ts) → AreCounted (map view (out-Trees ts).items.items) printed places
trees_counted ts count most printed places count_is most_is places_is held =
    let same : trees_count (trees_view ts) ≡ sum_by tree_count (map view (out-Trees ts).items.items) = places_of (trees_view ts) ∙ ap (sum_by tree_count) (list_seen ts) in
    record { left = few _ _ count most printed places same count_is most_is places_is; held = subst (λ n. printed ≤ n) same held }
  where
    few : (m n count most printed places : ℕ) → m ≡ n → count ≡ min m 18_446_744_073_709_551_615 → most ≡ min count 262_144 → places ≡ most - printed → places ≡ min n 262_144 - printed
    few m n count most printed places same count_is most_is places_is = omega (arith, same, count_is, most_is, places_is)

-- no steps are due for those
pub trees_left : (prims : List Primitive) (q : Asked) (ts : Trees) (count most printed places due : ℕ) → count ≡ min (trees_count (trees_view ts)) 18_446_744_073_709_551_615 → most ≡ min count 262_144 → places ≡ most - printed
    → printed ≤ trees_count (trees_view ts) → due ≤ places + 785 * length (rows_listed prims q.members (map view (out-Trees ts).items.items)) → due + printed ≤ body_due prims q (body.Trees ts)
trees_left prims q ts count most printed places due count_is most_is places_is held few =
    let same : length (rows_listed prims q.members (map view (out-Trees ts).items.items)) ≡ length (rows_listed prims q.members (list_of (trees_view ts))) = ap (λ us. length (rows_listed prims q.members us)) (sym (list_seen ts)) in
    more _ _ _ count_is held few same
  where
    more : (m i j : ℕ) → count ≡ min m 18_446_744_073_709_551_615 → printed ≤ m → due ≤ places + 785 * i → i ≡ j → due + printed ≤ m + 785 * j
    more m i j counted held few same = omega (arith, counted, most_is, places_is, held, few, same)

pub none_left : (prims : List Primitive) (q : Asked) (ts : List trees.Tree) (printed due : ℕ) → ts ≡ [] → printed ≤ 0 → due ≤ 0 + 785 * length (rows_listed prims q.members ts) → due + printed ≤ 0
none_left prims q ts printed due none few most =
    let empty : length (rows_listed prims q.members ts) ≡ 0 = ap (λ us. length (rows_listed prims q.members us)) none in
    less _ empty most
  where
    less : (i : ℕ) → i ≡ 0 → due ≤ 0 + 785 * i → due + printed ≤ 0
    less i empty most = omega (arith, empty, most, few)

-- of none
pub none_counted : (ts : List trees.Tree) (printed : ℕ) → ts ≡ [] → printed ≤ 0 → AreCounted ts printed 0
none_counted ts printed none few = subst (λ (us : List trees.Tree). AreCounted us printed 0) (sym none) (record { left = omega (arith, few); held = few })

-- one more is counted
pub counted_on : (ts : List trees.Tree) (printed places now left : ℕ) → AreCounted ts printed places → 0 < places → now ≡ min (printed + 1) 4_294_967_295 → left ≡ places - 1 → AreCounted ts now left
counted_on ts printed places now left counted some now_is left_is = record { left = on _ counted.left some now_is left_is; held = held _ counted.left counted.held some now_is }
  where
    on : (m : ℕ) → places ≡ min m 262_144 - printed → 0 < places → now ≡ min (printed + 1) 4_294_967_295 → left ≡ places - 1 → left ≡ min m 262_144 - now
    on m is some now_is left_is = omega (arith, is, some, now_is, left_is)

    held : (m : ℕ) → places ≡ min m 262_144 - printed → printed ≤ m → 0 < places → now ≡ min (printed + 1) 4_294_967_295 → now ≤ m
    held m is below some now_is = omega (arith, is, below, some, now_is)
