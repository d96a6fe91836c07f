use Rattle.std.proofs.Common.{◌∙◌, ap, sym, subst}
use Rattle.gd_json.specs.View.{view, members_view}
use Rattle.gd_defs.specs.Change.{Setting}
use Rattle.gd_form_laws.specs.WriteFaults.{entries_fault}
use Rattle.gd_form_laws.proofs.Changes.{create-change, other-change}
use Rattle.gd_mql.specs.FormFault.{Checks, Refuses}
use Rattle.gd_mql.proofs.change_form.check_change.Goals as goal

pub returns-in-Some : goal.returns-in-Some
returns-in-Some c = subst (λ e. Checks e c.check_created.result) (sym (create-change (members_view c.args.members.now) (view c.in-Some.word.now) (sym c.in-Some.ensures))) c.check_created.ensures

pub returns-then-has_object : goal.returns-then-has_object
returns-then-has_object c =
    let ms = members_view c.args.members.now in
    let told = rw (← c.if-has_object.ensures) at (other-change ms (sym c.in_default.ensures)) in
    subst (λ e. Checks e c.check_entries.result) (ap (λ (s : Setting). entries_fault s ms) c.setting_of.ensures ∙ sym told) c.check_entries.ensures

pub returns-else-has_object : goal.returns-else-has_object
returns-else-has_object c =
    let told = rw (← c.if-has_object.ensures) at (other-change (members_view c.args.members.now) (sym c.in_default.ensures)) in
    subst (λ e. Refuses e c.root_fault.result) (sym told) c.root_fault.ensures
