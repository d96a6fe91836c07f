use Rattle.std.proofs.Common.{◌∙◌, ap, sym, Some, None, is_some}
use Rattle.gd_json.specs.View.{view}
use Rattle.gd_defs.specs.Moment.{moment_of}
use Rattle.gd_mql.proofs.Literals.{moment_text-told}
use Rattle.gd_mql.proofs.operand.is_moment_text.Goals as goal

pub returns-in-Some : goal.returns-in-Some
returns-in-Some c = c.spells_moment.ensures
    ∙ (ap (λ t. is_some (moment_of t)) c.as_str.ensures ∙ sym (moment_text-told (view c.args.value.now) (Some c.in-Some.text.now) c.in-Some.ensures))

pub returns-in-None : goal.returns-in-None
returns-in-None c = sym (moment_text-told (view c.args.value.now) None c.in-None.ensures)
