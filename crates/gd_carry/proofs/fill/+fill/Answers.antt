use Rattle.std.proofs.Common.{◌≤◌, ◌∙◌, ap, sym, map, length, arith}
use Rattle.gd_growing.specs.State.{so_far}
use Rattle.gd_carry.specs.Printed.{printed_view, fields_view, pair_view}
use Rattle.gd_carry.proofs.Fields.{fields_seen, items_seen, take_all}
use Rattle.gd_carry.proofs.Views.{form_printed}
use Rattle.gd_carry.proofs.fill.+fill.Goals as goal

pub fill-returns-in_ok-fill_fields-in-Form : goal.fill-returns-in_ok-fill_fields-in-Form
fill-returns-in_ok-fill_fields-in-Form t c =
    let final = so_far c.args.growing.now in
    form_printed final c.in-Form.fields c.in_ok-fill_fields-in-Form.field-0 (c.in_ok-fill_fields-in-Form.ensures ∙ ap (fields_view final) c.deref.ensures.value)
    ∙ sym (ap (printed_view final) c.in-Form.is)

pub fill_fields-returns : goal.fill_fields-returns
fill_fields-returns t c =
    let final = so_far c.args.growing.now in
    let ended : length c.args.fields.now ≤ c.loop-field.field-index = omega (arith, c.loop-field-test.false) in
    fields_seen final c.args.fields.now c.loop-field.members.items (c.loop-field.invariant ∙ ap (map (pair_view final)) (take_all c.args.fields.now c.loop-field.field-index ended))

pub fill_items-returns : goal.fill_items-returns
fill_items-returns t c =
    let final = so_far c.args.growing.now in
    let ended : length c.args.items.now ≤ c.loop-item.item-index = omega (arith, c.loop-item-test.false) in
    items_seen final c.args.items.now c.loop-item.filled.items (c.loop-item.invariant ∙ ap (map (printed_view final)) (take_all c.args.items.now c.loop-item.item-index ended))
