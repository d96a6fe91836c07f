use Rattle.std.proofs.Common.{◌∙◌, ap, sym}
use Rattle.std.specs.Prelude.{find}
use Rattle.gd_prim.specs.History.{prims_of}
use Rattle.gd_prim.specs.declared.End.TheVariants.{Left}
use Rattle.gd_prim.specs.End.{places_with}
use Rattle.gd_resolve.specs.Found.{is_found, is_wanted}
use Rattle.gd_resolve.proofs.Lefts.{found_left}
use Rattle.gd_resolve.proofs.property.first_found.Goals as goal

pub returns-clause-first : goal.returns-clause-first
returns-clause-first g c =
    c.first_from.ensures.first
    ∙ ap (λ object. find (is_found (is_wanted c.args.wanted.now) (prims_of c.args.view.now)) (places_with Left object (prims_of c.args.view.now))) c.left_of.ensures
    ∙ sym (found_left c.args.wanted.now (prims_of c.args.view.now))
