use Rattle.std.proofs.Common.{subst, sym}
use Rattle.gd_prim.specs.History.{prims_of}
use Rattle.gd_shape.specs.Knowing.{TellsId}
use Rattle.gd_shape.proofs.WalkUp.{walk_up_tells}
use Rattle.gd_shape.proofs.shape.find_id.Goals as goal

pub returns-clause-known : goal.returns-clause-known
returns-clause-known g c = λ known.
    c.learn.ensures.known (prims_of c.args.view.now) known
    (subst (λ w. TellsId (prims_of c.args.view.now) c.args.object w) (sym c.in_ok-walk.ensures.walk) (walk_up_tells (prims_of c.args.view.now) c.args.object))
