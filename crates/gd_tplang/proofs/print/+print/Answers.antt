use Rattle.std.proofs.Common.{◌∙◌, ◌++◌, sym, ap, append_assoc, map, true, decimal, arith}
use Rattle.std.specs.Prelude.{codes}
use Rattle.gd_tree.specs.Trees.{trees_of, tree_lists_of}
use Rattle.gd_trees.specs.View.{view, trees_view}
use Rattle.gd_trees.specs.declared.tree.Tree.{out-Tree}
use Rattle.gd_tplang.specs.Printed.{trees_from, lists_from, lists_part}
use Rattle.gd_tplang.proofs.Prints.{tree_parts, trees_parts, one_tree, trees_end, lists_end, bracketed, some_lists}
use Rattle.gd_tplang.proofs.print.+print.Goals as goal

pub push_tree-returns : goal.push_tree-returns
push_tree-returns t c =
    let old = c.args.out.now.items in
    let lists = ap (λ l. lists_part (tree_lists_of (map trees_view l))) c.deref.ensures.value in
    c.in_ok-push_lists.ensures ∙ ap (λ l. l ++ lists_part (tree_lists_of (map trees_view c.deref.result.now))) c.in_ok-push_place.ensures ∙ append_assoc old (decimal (out-Tree c.args.tree.now).place) (lists_part (tree_lists_of (map trees_view c.deref.result.now))) ∙ ap (λ l. old ++ (decimal (out-Tree c.args.tree.now).place ++ l)) lists ∙ ap (λ l. old ++ l) (sym (tree_parts c.args.tree.now))

pub push_trees-loop-tree-preserved : goal.push_trees-loop-tree-preserved
push_trees-loop-tree-preserved t c =
    let l = c.loop-tree in
    one_tree view c.deref-tree-items.result.now l.tree-index c.tree-item.result l.is_first l.out.items c.separate.new.out.items c.push_tree.new.out.items ((c.args.out.now.items ++ codes "[") ++ trees_from true (trees_of (map view c.deref-tree-items.result.now)))
    c.loop-tree-test.true c.tree-item.is c.in_ok-separate.ensures c.in_ok-push_tree.ensures l.invariant

pub push_lists-returns : goal.push_lists-returns
push_lists-returns t c =
    let l = c.loop-trees in
    let xs = c.args.lists.now in
    let inside = lists_end xs l.trees-index l.is_first l.out.items ((c.args.out.now.items ++ codes "(") ++ lists_from true (tree_lists_of (map trees_view xs))) (omega (arith, c.loop-trees-test.false)) l.invariant in
    bracketed c.args.out.now.items (lists_from true (tree_lists_of (map trees_view xs))) l.out.items c.push-2.new.self.items (codes "(") (codes ")") inside c.in_ok-push-2.ensures.items ∙ ap (λ l. c.args.out.now.items ++ l) (some_lists xs (sym c.is_empty.ensures ∙ c.if-is_empty.false))

pub push_trees-returns : goal.push_trees-returns
push_trees-returns t c =
    let l = c.loop-tree in
    let xs = c.deref-tree-items.result.now in
    let inside = trees_end view xs l.tree-index l.is_first l.out.items ((c.args.out.now.items ++ codes "[") ++ trees_from true (trees_of (map view xs))) (omega (arith, c.loop-tree-test.false)) l.invariant in
    let whole = ap (λ l. codes "[" ++ (trees_from true (trees_of (map view l)) ++ codes "]")) c.deref-tree-items.ensures.value ∙ sym (trees_parts c.args.trees.now) in
    bracketed c.args.out.now.items (trees_from true (trees_of (map view xs))) l.out.items c.push-2.new.self.items (codes "[") (codes "]") inside c.in_ok-push-2.ensures.items ∙ ap (λ l. c.args.out.now.items ++ l) whole
