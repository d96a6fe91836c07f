use Rattle.gd_prim.specs.History.{prims_of}
use Rattle.gd_plan.specs.Asked.{asked_view}
use Rattle.gd_shape.proofs.Counted.{all_counted}
use Rattle.gd_shape.proofs.ids.ids_among.Goals as goal

pub returns-then-asked : goal.returns-then-asked
returns-then-asked c = all_counted (prims_of c.args.view.now) (asked_view c.args.asked.now) c.args.trees.now c.args.objects.now c.if-asked.true c.requires
