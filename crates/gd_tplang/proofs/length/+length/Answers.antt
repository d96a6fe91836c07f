use Rattle.std.proofs.Common.{◌∙◌, ◌+◌, sym, ap, map, length, true, arith}
use Rattle.gd_tree.specs.Trees.{trees_of}
use Rattle.gd_bytes.specs.Frozen.{trees_text}
use Rattle.gd_trees.specs.View.{view, trees_view}
use Rattle.gd_tplang.specs.Printed.{trees_from}
use Rattle.gd_tplang.proofs.Lengths.{trees_counted, trees_done}
use Rattle.gd_tplang.proofs.length.+length.Goals as goal

pub trees_length-returns : goal.trees_length-returns
trees_length-returns t c =
    let l = c.loop-tree in
    let whole = trees_counted c.args.trees.now ∙ ap (λ ys. 2 + length (trees_from true (trees_of (map view ys)))) (sym c.deref-tree-items.ensures.value) in
    trees_done view c.deref-tree-items.result.now l.tree-index l.is_first l.total (length (trees_text (trees_view c.args.trees.now))) (omega (arith, c.loop-tree-test.false)) l.invariant.small whole l.invariant.left
