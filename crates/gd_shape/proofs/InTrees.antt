-- The first of lists of trees.
use Rattle.std.proofs.Common.{◌≡◌, List, [], ◌∷◌, map, refl, ap, ◌∙◌, rules}
use Rattle.gd_tree.specs.Trees as defs
use Rattle.gd_tree.specs.Trees.{trees_of, list_of, first_list}
use Rattle.gd_trees.specs.View.{view, trees_view}
use Rattle.gd_trees.specs.declared.tree.Tree.{Tree, out-Tree}
use Rattle.gd_trees.specs.declared.tree.Tree.TheFolds.{the_lemmas}
use Rattle.gd_trees.specs.declared.tree.Trees.{Trees, out-Trees}
use Rattle.gd_shape.specs.InTrees.{lists_view}

list-trees : (ts : List defs.Tree) → list_of (trees_of ts) ≡ ts
list-trees [] = refl
list-trees (t ∷ ts) = ap (λ us. t ∷ us) (list-trees ts)

-- trees as a list are those that they hold
pub list_seen : (ts : Trees) → list_of (trees_view ts) ≡ map view (out-Trees ts).items.items
list_seen ts = ap list_of (seen ts) ∙ list-trees (map view (out-Trees ts).items.items)
  where
    seen : (ts : Trees) → trees_view ts ≡ trees_of (map view (out-Trees ts).items.items)
    seen ts = search (rules, the_lemmas)

-- a tree by its place and its lists
pub tree_seen : (t : Tree) → view t ≡ defs.tree (out-Tree t).place (lists_view (out-Tree t).lists.items)
tree_seen t = search (rules, the_lemmas)

-- its place and its lists
pub row_seen : (t : Tree) → (defs.place_of (view t) ≡ (out-Tree t).place) × (defs.lists_of (view t) ≡ lists_view (out-Tree t).lists.items)
row_seen t = (ap defs.place_of (tree_seen t), ap defs.lists_of (tree_seen t))
