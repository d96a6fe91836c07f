use Rattle.std.proofs.Common.{◌∙◌, ap, sym, subst, List, ℕ, Some, true, false}
use Rattle.gd_json.specs.View.{members_view}
use Rattle.gd_defs.specs.Change.{target_of}
use Rattle.gd_form_laws.proofs.Changes.{part-target, whole-target}
use Rattle.gd_mql.specs.FormFault.{Refuses}
use Rattle.gd_mql.specs.Changes.{fault_of, target_view}
use Rattle.gd_mql.proofs.Written.{there}
use Rattle.gd_mql.proofs.change_form.check_target.Goals as goal

pub returns-in-Some : goal.returns-in-Some
returns-in-Some c =
    let ms = members_view c.args.form.now in
    let f = fault_of c.as_str.result.now c.in-Some.code in
    let first = sym c.in-Some.ensures ∙ ap (λ (k : List ℕ). Some (fault_of k c.in-Some.code)) (sym c.as_str.ensures) in
    subst (λ e. Refuses e c.below.result) (sym (part-target c.args.name.now ms f first)) (c.below.ensures (Some f) c.fault_at.ensures)

pub returns-then-is_some : goal.returns-then-is_some
returns-then-is_some c =
    let ms = members_view c.args.form.now in
    whole-target c.args.name.now ms true (sym c.in_default.ensures) (there c.target_of.result (target_of ms) target_view true c.target_of.ensures c.if-is_some.ensures)

pub returns-else-is_some : goal.returns-else-is_some
returns-else-is_some c =
    let ms = members_view c.args.form.now in
    let told = whole-target c.args.name.now ms false (sym c.in_default.ensures) (there c.target_of.result (target_of ms) target_view false c.target_of.ensures c.if-is_some.ensures) in
    subst (λ e. Refuses e c.fault_at-else-is_some.result) (sym told) c.fault_at-else-is_some.ensures
