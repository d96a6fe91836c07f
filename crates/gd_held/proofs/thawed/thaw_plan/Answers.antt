use Rattle.gd_prim.specs.History.{prims_of}
use Rattle.gd_json.specs.View.{view as json_view}
use Rattle.gd_plan.specs.Asked.{asked_view}
use Rattle.gd_read.proofs.Begun.{asked_bounded, asked_limited}
use Rattle.gd_held.proofs.thawed.thaw_plan.Goals as goal

pub thaw-requires-clause-few : goal.thaw-requires-clause-few
thaw-requires-clause-few g c = (asked_bounded (prims_of c.args.view.now) (json_view c.args.request.query) (asked_view c.args.plan) c.args.request.spells c.requires.asked).0

pub thaw-requires-clause-some : goal.thaw-requires-clause-some
thaw-requires-clause-some g c = (asked_bounded (prims_of c.args.view.now) (json_view c.args.request.query) (asked_view c.args.plan) c.args.request.spells c.requires.asked).1

pub thaw-requires-clause-most : goal.thaw-requires-clause-most
thaw-requires-clause-most g c = asked_limited (prims_of c.args.view.now) (json_view c.args.request.query) (asked_view c.args.plan) c.args.request.spells c.requires.asked
