use Rattle.std.proofs.Common.{is_some, ap, sym, ◌∙◌}
use Rattle.gd_prim.specs.History.{prims_of}
use Rattle.gd_resolve.proofs.Scans.{has_type-found}
use Rattle.gd_resolve.proofs.property.has_type.Goals as goal

pub returns-clause-has : goal.returns-clause-has
returns-clause-has g c = c.is_some.ensures ∙ ap is_some c.first_found.ensures.first ∙ sym (has_type-found (prims_of c.args.view.now) c.args.object c.args.of)
