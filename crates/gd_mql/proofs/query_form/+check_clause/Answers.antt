use Rattle.std.proofs.Common.{◌∙◌, ap, sym, subst, true, false}
use Rattle.std.proofs.lemmas.Result.{err_from_is_err_and}
use Rattle.gd_tree.specs.Json.{list}
use Rattle.gd_json.specs.View.{view, members_view}
use Rattle.gd_form_laws.specs.Faults.{clause_fault, form_fault}
use Rattle.gd_form_laws.proofs.Queries.{operand_or_form, more-fault, empty-fault}
use Rattle.gd_mql.specs.Names.{name_view}
use Rattle.gd_mql.specs.FormFault.{Checks, Refuses}
use Rattle.gd_mql.proofs.Literals.{word-none}
use Rattle.gd_mql.proofs.Walked.{members-pass, members-stop, members-end, none_view, member-directive, member-named, member-misnamed, object-form, sole_object-form, more_view}
use Rattle.gd_mql.proofs.query_form.+check_clause.Goals as goal

pub check_below-returns-in-Err : goal.check_below-returns-in-Err
check_below-returns-in-Err t c = c.below.ensures (clause_fault false (members_view c.args.members.now)) c.in-Err.ensures

pub check_clause-loop-member-preserved : goal.check_clause-loop-member-preserved
check_clause-loop-member-preserved t c = c.loop-member.invariant
    ∙ members-pass c.args.root c.args.members.now c.loop-member.member-index c.member-item.result c.loop-member-test.true c.member-item.is c.in_ok-check_member.ensures

pub check_form-returns-then-wants_operand : goal.check_form-returns-then-wants_operand
check_form-returns-then-wants_operand t c =
    subst (λ e. Checks e c.check_operand.result) (sym (operand_or_form (name_view c.args.name.now) (view c.args.value.now) true (sym c.if-wants_operand.ensures))) c.check_operand.ensures

pub check_form-returns-else-wants_operand : goal.check_form-returns-else-wants_operand
check_form-returns-else-wants_operand t c =
    subst (λ e. Checks e c.check_value.result) (sym (operand_or_form (name_view c.args.name.now) (view c.args.value.now) false (sym c.if-wants_operand.ensures))) c.check_value.ensures

pub check_list-returns-in_default : goal.check_list-returns-in_default
check_list-returns-in_default t c =
    let more = more_view c.args.items.now c.in_default.len_at_least in
    let n = name_view c.args.name.now in
    subst (λ e. Refuses e c.fault_at.result) (sym (ap (λ js. form_fault n (list js)) more.is ∙ more-fault n more.one more.two more.others)) c.fault_at.ensures

pub check_clause-returns-in_err-check_member : goal.check_clause-returns-in_err-check_member
check_clause-returns-in_err-check_member t c =
    let p = err_from_is_err_and c.from_residual.result c.from_residual.ensures.1 in
    rw (p.1, p.2) (members-stop c.args.root c.args.members.now c.loop-member.member-index c.member-item.result (clause_fault c.args.root (members_view c.args.members.now)) c.in_err-check_member.field-0.0
    c.loop-member-test.true c.member-item.is c.loop-member.invariant c.in_err-check_member.ensures)

pub check_clause-returns : goal.check_clause-returns
check_clause-returns t c = c.loop-member.invariant ∙ members-end c.args.root c.args.members.now c.loop-member.member-index c.loop-member-test.false

pub check_list-returns-in-empty : goal.check_list-returns-in-empty
check_list-returns-in-empty t c = let n = name_view c.args.name.now in ap (λ js. form_fault n (list js)) (none_view c.args.items.now c.in-empty.len_below) ∙ empty-fault n

pub check_member-returns-in-Some : goal.check_member-returns-in-Some
check_member-returns-in-Some t c =
    member-directive c.args.root c.args.name.now c.as_str-spelled.result.now (view c.args.value.now) c.in-Some.word c.check_directive.result c.as_str-spelled.ensures c.in-Some.ensures c.check_directive.ensures

pub check_member-returns-in-Ok : goal.check_member-returns-in-Ok
check_member-returns-in-Ok t c =
    member-named c.args.root c.args.name.now c.as_str-spelled.result.now (view c.args.value.now) (name_view c.in-Ok.name) c.check_form.result c.as_str-spelled.ensures (word-none c.as_str-spelled.result.now c.in_default.ensures) c.in-Ok.ensures c.check_form.ensures

pub check_member-returns-in-Err : goal.check_member-returns-in-Err
check_member-returns-in-Err t c =
    member-misnamed c.args.root c.args.name.now c.as_str-spelled.result.now (view c.args.value.now) _ c.fault_at.result c.as_str-spelled.ensures (word-none c.as_str-spelled.result.now c.in_default.ensures) c.in-Err.ensures c.fault_at.ensures

pub check_sole-returns-in-Object : goal.check_sole-returns-in-Object
check_sole-returns-in-Object t c = let n = name_view c.args.name.now in
    subst (λ e. Checks e c.check_below.result) (sym (sole_object-form n c.in-Object.members c.args.sole.now c.in-Object.is)) (rw c.deref.ensures.value at c.check_below.ensures)

pub check_value-returns-in-Object : goal.check_value-returns-in-Object
check_value-returns-in-Object t c = let n = name_view c.args.name.now in
    subst (λ e. Checks e c.check_below.result) (sym (object-form n c.in-Object.members c.args.value.now c.in-Object.is)) (rw c.deref.ensures.value at c.check_below.ensures)
