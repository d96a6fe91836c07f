-- Steps by places of trees, one tree and one list at a time.
use Rattle.std.proofs.Common.{◌≡◌, ℕ, suc, List, ◌∷◌, drop, length, get_or, ◌<◌, ◌≤◌, ◌+◌, ◌*◌, map, refl, sym, ap, rules, add-one, drop-cons, arith}
use Rattle.gd_tree.specs.Trees as defs
use Rattle.gd_tree.specs.Trees.{trees_of, tree_lists_of, lists_of, lists_count, trees_count, tree_count}
use Rattle.gd_trees.specs.View.{view, trees_view}
use Rattle.gd_trees.specs.declared.tree.Tree.{Tree, out-Tree}
use Rattle.gd_trees.specs.declared.tree.Tree.TheFolds.{the_lemmas}
use Rattle.gd_trees.specs.declared.tree.Trees.{Trees, out-Trees}

pub tree_counted : (t : Tree) → lists_count (lists_of (view t)) ≡ lists_count (tree_lists_of (map trees_view (out-Tree t).lists.items))
tree_counted t = ap (λ v. lists_count (lists_of v)) (seen t)
  where
    seen : (t : Tree) → view t ≡ defs.tree (out-Tree t).place (tree_lists_of (map trees_view (out-Tree t).lists.items))
    seen t = search (rules, the_lemmas)

pub trees_counted : (ts : Trees) → trees_count (trees_view ts) ≡ trees_count (trees_of (map view (out-Trees ts).items.items))
trees_counted ts = ap trees_count (seen ts)
  where
    seen : (ts : Trees) → trees_view ts ≡ trees_of (map view (out-Trees ts).items.items)
    seen ts = search (rules, the_lemmas)

lists_left : (xs : List Trees) (i : ℕ) (x : Trees) → i < length xs → x ≡ get_or xs i x → drop i xs ≡ x ∷ drop (i + 1) xs
lists_left xs i x within is = rw (add-one, drop-cons xs i x) (ap (λ y. y ∷ drop (suc i) xs) (sym is))

trees_left : (xs : List Tree) (i : ℕ) (x : Tree) → i < length xs → x ≡ get_or xs i x → drop i xs ≡ x ∷ drop (i + 1) xs
trees_left xs i x within is = rw (add-one, drop-cons xs i x) (ap (λ y. y ∷ drop (suc i) xs) (sym is))

pub one_list_less : (xs : List Trees) (i : ℕ) (x : Trees) (before after most : ℕ) → i < length xs → x ≡ get_or xs i x → after ≤ before + 4 * trees_count (trees_view x)
    → before + 4 * lists_count (tree_lists_of (map trees_view (drop i xs))) ≤ most → after + 4 * lists_count (tree_lists_of (map trees_view (drop (i + 1) xs))) ≤ most
one_list_less xs i x before after most within is took was =
    let e : lists_count (tree_lists_of (map trees_view (drop i xs))) ≡ trees_count (trees_view x) + lists_count (tree_lists_of (map trees_view (drop (i + 1) xs))) =
    ap (λ ys. lists_count (tree_lists_of (map trees_view ys))) (lists_left xs i x within is) in
    omega (arith, e, took, was)

pub one_tree_less : (xs : List Tree) (i : ℕ) (x : Tree) (before after most : ℕ) → i < length xs → x ≡ get_or xs i x → after ≤ before + 4 + 4 * lists_count (lists_of (view x))
    → before + 4 * trees_count (trees_of (map view (drop i xs))) ≤ most → after + 4 * trees_count (trees_of (map view (drop (i + 1) xs))) ≤ most
one_tree_less xs i x before after most within is took was =
    let e : trees_count (trees_of (map view (drop i xs))) ≡ tree_count (view x) + trees_count (trees_of (map view (drop (i + 1) xs))) =
    ap (λ ys. trees_count (trees_of (map view ys))) (trees_left xs i x within is) in
    let f : tree_count (view x) ≡ 1 + lists_count (lists_of (view x)) = itself (view x) in
    omega (arith, e, f, took, was)
  where
    itself : (v : defs.Tree) → tree_count v ≡ 1 + lists_count (lists_of v)
    itself (defs.tree place lists) = refl
