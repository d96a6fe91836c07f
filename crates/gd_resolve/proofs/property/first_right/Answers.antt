use Rattle.std.proofs.Common.{Some, None, sym, ◌∙◌}
use Rattle.gd_prim.specs.History.{prims_of}
use Rattle.gd_resolve.proofs.Scans.{first_right-found}
use Rattle.gd_resolve.proofs.property.first_right.Goals as goal

pub returns-in-Some-clause-right : goal.returns-in-Some-clause-right
returns-in-Some-clause-right g c = c.right_at.ensures.right
    ∙ sym (first_right-found (prims_of c.args.view.now) c.args.typ c.args.object (Some c.in-Some.link) (sym c.first_found.ensures.first ∙ c.in-Some.is))

pub returns-in-None-clause-right : goal.returns-in-None-clause-right
returns-in-None-clause-right g c = sym (first_right-found (prims_of c.args.view.now) c.args.typ c.args.object None (sym c.first_found.ensures.first ∙ c.in-None.is))
