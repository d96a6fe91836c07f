use Rattle.std.proofs.Common.{◌∙◌, ap, Some, None}
use Rattle.gd_postings.specs.Postings.{Places}
use Rattle.gd_valueidx.specs.Values.{value_list}
use Rattle.gd_valueidx.proofs.Each.{found_list}
use Rattle.gd_valueidx.proofs.values.Values.list.Goals as goal

pub returns-in-Some : goal.returns-in-Some
returns-in-Some c =
    ap (λ (p : Places). p.ids) (found_list c.self.inside.lists.entries c.args.value.now (Some c.in-Some.list.now) c.in-Some.ensures.value ∙ ap (value_list c.args.value.now) c.self.view_is)

pub returns-in-None : goal.returns-in-None
returns-in-None c =
    c.self.invariant.0
    ∙ ap (λ (p : Places). p.ids) (found_list c.self.inside.lists.entries c.args.value.now None c.in-None.ensures.value ∙ ap (value_list c.args.value.now) c.self.view_is)
