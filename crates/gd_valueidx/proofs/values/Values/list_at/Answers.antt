use Rattle.std.proofs.Common.{◌∙◌, ap}
use Rattle.gd_postings.specs.Postings.{Places}
use Rattle.gd_valueidx.specs.Values.{number_list}
use Rattle.gd_valueidx.proofs.Each.{number_there, number_absent}
use Rattle.gd_valueidx.proofs.values.Values.list_at.Goals as goal

pub returns-in-Some : goal.returns-in-Some
returns-in-Some c =
    ap (λ (p : Places). p.ids)
    (number_there c.self.inside.lists.entries c.args.number c.in-Some.field-0-0.now c.in-Some.list.now c.in-Some.ensures.entry c.in-Some.ensures.value ∙ ap (number_list c.args.number) c.self.view_is)

pub returns-in-None : goal.returns-in-None
returns-in-None c =
    c.self.invariant.0
    ∙ ap (λ (p : Places). p.ids) (number_absent c.self.inside.lists.entries c.args.number c.in-None.ensures.entry ∙ ap (number_list c.args.number) c.self.view_is)
