use Rattle.std.proofs.Common.{◌≡◌, ◌∙◌, map, ap, arith}
use Rattle.gd_tree.specs.Trees.{trees_of}
use Rattle.gd_trees.specs.View.{view}
use Rattle.gd_frozen.specs.Pieces.{trees_pieces, trees_in}
use Rattle.gd_flat.proofs.Again.{pieces_same, pieces_flat}
use Rattle.gd_flat.proofs.Pushed.{trees_done}
use Rattle.gd_flat.proofs.frozen_list.Goals as goal

pub of-requires : goal.of-requires
of-requires c =
    let done : c.loop-tree.pieces.items ≡ trees_pieces (trees_of (map view c.args.trees.now))
    = trees_done c.args.trees.now c.loop-tree.tree-index c.loop-tree.pieces.items _ (omega (arith, c.loop-tree-test.false, c.loop-tree.auto.tree-index-end)) c.loop-tree.invariant in
    pieces_flat c.loop-tree.pieces.items (trees_of (map view c.args.trees.now)) done

pub returns : goal.returns
returns c =
    let done : c.loop-tree.pieces.items ≡ trees_pieces (trees_of (map view c.args.trees.now))
    = trees_done c.args.trees.now c.loop-tree.tree-index c.loop-tree.pieces.items _ (omega (arith, c.loop-tree-test.false, c.loop-tree.auto.tree-index-end)) c.loop-tree.invariant in
    ap trees_in c.of.ensures ∙ pieces_same c.loop-tree.pieces.items (trees_of (map view c.args.trees.now)) done
