use Rattle.std.proofs.Common.{◌∙◌, ap, length, map}
use Rattle.gd_plan.specs.Asked.{asked_view}
use Rattle.gd_runs.specs.Shape.Ids.{page_ids}
use Rattle.gd_trees.specs.View.{view as tree_view}
use Rattle.gd_shape.proofs.Counted.{page_counted}
use Rattle.gd_shape.proofs.ids.ids_printed.Goals as goal

pub returns : goal.returns
returns c =
    ap length c.as_slice.ensures.value
    ∙ page_counted c.new-sight.result (asked_view c.args.asked.now) c.args.trees.now c.trees_printed-printed.result.now c.in_ok-objects.objects.items c.trees_printed-printed.ensures c.in_ok-objects.ensures
    ∙ ap (λ ps. page_ids ps (asked_view c.args.asked.now) (map tree_view c.args.trees.now)) c.new-sight.ensures
