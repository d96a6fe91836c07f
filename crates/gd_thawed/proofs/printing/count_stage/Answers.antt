use Rattle.std.proofs.Common.{◌∙◌, ap, map, length, take}
use Rattle.gd_tree.specs.Trees.{trees_of}
use Rattle.gd_trees.specs.View.{view as tree_view}
use Rattle.gd_thawed.specs.Subject.{marks_in}
use Rattle.gd_thawed.proofs.Printed.{counts_rows}
use Rattle.gd_thawed.proofs.printing.count_stage.Goals as goal

pub returns-in-Ok : goal.returns-in-Ok
returns-in-Ok c = λ batches owed s counts.
    c.page_stage.ensures batches owed s c.args.window.now
    (counts_rows batches owed s c.args.plan (marks_in c.args.rows.items) c.args.window.now _ counts (ap length (c.page_of.ensures ∙ ap (λ n. take n c.rows.result.now) c.limit.ensures ∙ ap (take c.args.window.now.limit) c.rows.ensures.rows)))
    c.in-Ok.ensures
