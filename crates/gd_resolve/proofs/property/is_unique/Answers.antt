use Rattle.std.proofs.Common.{Some, None, unwrap_or, false, ap, sym, ◌∙◌}
use Rattle.gd_prim.specs.History.{prims_of}
use Rattle.gd_resolve.proofs.Scans.{is_unique-found}
use Rattle.gd_resolve.proofs.property.is_unique.Goals as goal

pub returns-in-Some-clause-unique : goal.returns-in-Some-clause-unique
returns-in-Some-clause-unique g c =
    c.unwrap_or.ensures ∙ ap (λ o. unwrap_or o false) c.truth_at.ensures.truth
    ∙ sym (is_unique-found (prims_of c.args.view.now) c.args.property (Some c.in-Some.mark) (sym c.first_found.ensures.first ∙ c.in-Some.is))

pub returns-in-None-clause-unique : goal.returns-in-None-clause-unique
returns-in-None-clause-unique g c = sym (is_unique-found (prims_of c.args.view.now) c.args.property None (sym c.first_found.ensures.first ∙ c.in-None.is))
