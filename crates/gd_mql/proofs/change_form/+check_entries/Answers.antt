use Rattle.std.proofs.Common.{◌∙◌, sym, subst, Some, None}
use Rattle.std.proofs.lemmas.Result.{err_from_is_err_and}
use Rattle.gd_json.specs.View.{view, items_view, members_view}
use Rattle.gd_form_laws.specs.WriteFaults.{entries_fault, items_fault}
use Rattle.gd_form_laws.proofs.Changes.{connect-item, created, plain-item, named-item, list-item}
use Rattle.gd_fault.specs.Fault.{code_view}
use Rattle.gd_mql.specs.Names.{name_view}
use Rattle.gd_mql.specs.Changes.{setting_view}
use Rattle.gd_mql.specs.FormFault.{Checks, Refuses}
use Rattle.gd_mql.proofs.Written.{entries-pass, entries-stop, entries-end, items-pass, items-stop, items-end, entry-created, entry-named, entry-misnamed, object-item}
use Rattle.gd_mql.proofs.change_form.+check_entries.Goals as goal

pub check_entries-returns-in_err-check_entry : goal.check_entries-returns-in_err-check_entry
check_entries-returns-in_err-check_entry t c =
    let p = err_from_is_err_and c.from_residual.result c.from_residual.ensures.1 in
    rw (p.1, p.2) (entries-stop (setting_view c.args.setting) c.args.members.now c.loop-member.member-index c.member-item.result (entries_fault (setting_view c.args.setting) (members_view c.args.members.now)) c.in_err-check_entry.field-0.0
    c.loop-member-test.true c.member-item.is c.loop-member.invariant c.in_err-check_entry.ensures)

pub check_entries-loop-member-preserved : goal.check_entries-loop-member-preserved
check_entries-loop-member-preserved t c = c.loop-member.invariant
    ∙ entries-pass (setting_view c.args.setting) c.args.members.now c.loop-member.member-index c.member-item.result c.loop-member-test.true c.member-item.is c.in_ok-check_entry.ensures

pub check_entries-returns : goal.check_entries-returns
check_entries-returns t c = c.loop-member.invariant ∙ entries-end (setting_view c.args.setting) c.args.members.now c.loop-member.member-index c.loop-member-test.false

pub check_items-returns-in_err-check_item : goal.check_items-returns-in_err-check_item
check_items-returns-in_err-check_item t c =
    let p = err_from_is_err_and c.from_residual.result c.from_residual.ensures.1 in
    let s = setting_view c.args.setting in
    let n = name_view c.args.name.now in
    rw (p.1, p.2) (items-stop s n c.args.items.now c.loop-item.item-index c.item-item.result (items_fault s n (items_view c.args.items.now)) c.in_err-check_item.field-0.0
    c.loop-item-test.true c.item-item.is c.loop-item.invariant c.in_err-check_item.ensures)

pub check_items-loop-item-preserved : goal.check_items-loop-item-preserved
check_items-loop-item-preserved t c = c.loop-item.invariant
    ∙ items-pass (setting_view c.args.setting) (name_view c.args.name.now) c.args.items.now c.loop-item.item-index c.item-item.result c.loop-item-test.true c.item-item.is c.in_ok-check_item.ensures

pub check_items-returns : goal.check_items-returns
check_items-returns t c = c.loop-item.invariant ∙ items-end (setting_view c.args.setting) (name_view c.args.name.now) c.args.items.now c.loop-item.item-index c.loop-item-test.false

pub check_entry-returns-then-eq : goal.check_entry-returns-then-eq
check_entry-returns-then-eq t c =
    entry-created (setting_view c.args.setting) c.args.name.now c.as_str-spelled.result.now (view c.args.value.now) c.check_create.result c.as_str-spelled.ensures (sym c.if-eq.true ∙ c.eq.ensures) c.check_create.ensures

pub check_entry-returns-in-Ok : goal.check_entry-returns-in-Ok
check_entry-returns-in-Ok t c =
    entry-named (setting_view c.args.setting) c.args.name.now c.as_str-spelled.result.now (view c.args.value.now) (name_view c.in-Ok.name) c.check_named.result c.as_str-spelled.ensures (sym c.if-eq.false ∙ c.eq.ensures) c.in-Ok.ensures
    c.check_named.ensures

pub check_entry-returns-in-Err : goal.check_entry-returns-in-Err
check_entry-returns-in-Err t c =
    entry-misnamed (setting_view c.args.setting) c.args.name.now c.as_str-spelled.result.now (view c.args.value.now) _ c.fault_at.result c.as_str-spelled.ensures (sym c.if-eq.false ∙ c.eq.ensures) c.in-Err.ensures c.fault_at.ensures

pub check_form-returns-in-Some : goal.check_form-returns-in-Some
check_form-returns-in-Some t c =
    subst (λ e. Checks e c.check_connect.result) (sym (connect-item (setting_view c.args.setting) (name_view c.args.name.now) (members_view c.args.form.now) (view c.in-Some.word.now) (sym c.in-Some.ensures))) c.check_connect.ensures

pub check_form-returns-in-Some-member : goal.check_form-returns-in-Some-member
check_form-returns-in-Some-member t c =
    subst (λ e. Checks e c.check_nested.result)
    (sym (created (setting_view c.args.setting) (name_view c.args.name.now) (members_view c.args.form.now) (view c.in-Some-member.word.now) (sym c.in_default.ensures) (sym c.in-Some-member.ensures))) c.check_nested.ensures

pub check_form-returns : goal.check_form-returns
check_form-returns t c =
    subst (λ e. Checks e c.check_fact.result)
    (sym (plain-item (setting_view c.args.setting) (name_view c.args.name.now) (members_view c.args.form.now) (sym c.in_default.ensures) (sym c.in_default-member.ensures))) c.check_fact.ensures

pub check_item-returns-in-Object : goal.check_item-returns-in-Object
check_item-returns-in-Object t c =
    subst (λ e. Checks e c.check_form.result) (sym (object-item (setting_view c.args.setting) (name_view c.args.name.now) c.in-Object.form c.args.value.now c.in-Object.is)) (rw c.deref.ensures.value at c.check_form.ensures)

pub check_list-returns-in-Some : goal.check_list-returns-in-Some
check_list-returns-in-Some t c =
    subst (λ e. Refuses e c.fault_at.result) (sym (list-item (setting_view c.args.setting) (name_view c.args.name.now) (items_view c.args.items.now) (Some (code_view c.in-Some.code)) c.in-Some.ensures)) c.fault_at.ensures

pub check_list-returns-in-None : goal.check_list-returns-in-None
check_list-returns-in-None t c =
    subst (λ e. Checks e c.check_items.result) (sym (list-item (setting_view c.args.setting) (name_view c.args.name.now) (items_view c.args.items.now) None c.in-None.ensures)) c.check_items.ensures

pub check_named-returns-then-is_identity : goal.check_named-returns-then-is_identity
check_named-returns-then-is_identity t c = let told = rw (← c.if-is_identity.ensures) at (named-item (setting_view c.args.setting) (name_view c.args.name.now) (view c.args.value.now)) in
    subst (λ e. Checks e c.check_identity.result) (sym told) c.check_identity.ensures

pub check_named-returns-else-is_identity : goal.check_named-returns-else-is_identity
check_named-returns-else-is_identity t c = let told = rw (← c.if-is_identity.ensures) at (named-item (setting_view c.args.setting) (name_view c.args.name.now) (view c.args.value.now)) in
    subst (λ e. Checks e c.check_item.result) (sym told) c.check_item.ensures

pub check_nested-returns-in-Err : goal.check_nested-returns-in-Err
check_nested-returns-in-Err t c = c.below.ensures _ c.in-Err.ensures
