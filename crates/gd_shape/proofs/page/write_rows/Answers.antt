use Rattle.std.proofs.Common.{ap, sym, ◌∙◌}
use Rattle.gd_plan.specs.Asked.{members_view}
use Rattle.gd_shape.specs.Outcome.{seen}
use Rattle.gd_shape.proofs.Rows.{rows_more}
use Rattle.gd_shape.proofs.page.write_rows.Goals as goal

pub loop-tree-preserved : goal.loop-tree-preserved
loop-tree-preserved c = record {
  printed = rows_more c.args.sight.now (members_view c.args.members.now) c.args.trees.now c.loop-tree.tree-index c.tree-item.result c.loop-tree.out.tokens c.write_row.new.out.tokens
      c.loop-tree.told c.write_row.new.told _
      c.loop-tree-test.true c.tree-item.is (ap (λ r. seen (λ _. (c.write_row.new.out.tokens, c.write_row.new.told)) r) (sym c.in-Ok.is) ∙ c.in_ok-write_row.ensures.printed) c.loop-tree.invariant.printed;
  before = c.in_ok-write_row.ensures.before ∙ c.loop-tree.invariant.before;
}
