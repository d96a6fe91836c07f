use Rattle.std.proofs.Math.ListN.{drop_of_length-le}
use Rattle.std.proofs.Common.{◌+◌, map, drop, sym, ap, ◌∙◌, subst, arith}
use Rattle.gd_base.specs.Answers.{Gives}
use Rattle.json.specs.Value.{value_view, items_view as values_view, members_view as map_view}
use Rattle.serde_json.specs.Data.{member}
use Rattle.gd_json.specs.View.{view, member_view}
use Rattle.gd_json.specs.Reading.{value_at, items_at, members_at}
use Rattle.gd_json.specs.Text.{as_data, items_data, plain_members, entries_data, object_at}
use Rattle.gd_json.specs.declared.from.JsonFault.TheVariants.{Memory as no_memory}
use Rattle.gd_json.proofs.Parts.{left_at}
use Rattle.gd_json.proofs.Rising.{rising_members}
use Rattle.gd_json.proofs.Walk.{list_within, list_too_wide, object_within, object_too_wide, members_count, entries_count, items_then, items_then_more, members_then, members_then_more, list_done, object_done}
use Rattle.gd_json.proofs.from.+convert.Goals as goal

pub convert-returns-then-len-gt-WIDEST : goal.convert-returns-then-len-gt-WIDEST
convert-returns-then-len-gt-WIDEST t c never =
    ap (λ v. value_at c.args.level (as_data (value_view v))) c.in-Array.is ∙ list_too_wide c.args.level c.in-Array.items (omega arith) (omega arith)

pub convert-returns-else-len-gt-WIDEST : goal.convert-returns-else-len-gt-WIDEST
convert-returns-else-len-gt-WIDEST t c =
    subst (λ e. Gives view no_memory e c.convert_list.result)
    (sym (ap (λ v. value_at c.args.level (as_data (value_view v))) c.in-Array.is ∙ list_within c.args.level c.in-Array.items (omega arith) (omega arith)))
    c.convert_list.ensures

pub convert_list-loop-item-preserved : goal.convert_list-loop-item-preserved
convert_list-loop-item-preserved t c =
    let l = c.loop-item in
    let items = c.args.items.now.items in
    let here = c.item-item.result in
    let rest = items_data (values_view (drop (l.item-index + 1) items)) in
    ap (λ list. items_then (map view list) (items_at c.args.level rest)) c.in_ok-push.ensures.items
    ∙ items_then_more l.list.items c.in_ok-convert.field-0 c.args.level (as_data (value_view here)) rest c.in_ok-convert.ensures
    ∙ sym (ap (λ left. items_then (map view l.list.items) (items_at c.args.level (items_data (values_view left)))) (left_at items l.item-index here (grind arith) (grind arith)))
    ∙ l.invariant

pub convert_members-loop-member-preserved : goal.convert_members-loop-member-preserved
convert_members-loop-member-preserved t c =
    let l = c.loop-member in
    let items = c.args.members.now.items in
    let here = c.member-item.result in
    let d = as_data (value_view here.1) in
    let rest = plain_members (map_view (drop (l.member-index + 1) items)) in
    ap (λ object. members_then (map member_view object) (members_at c.args.level rest)) c.in_ok-push.ensures.items
    ∙ members_then_more l.object.items (c.in_ok-name.name, c.in_ok-convert.field-0) c.args.level d rest c.in_ok-convert.ensures
    ∙ ap (λ k. members_then (map member_view l.object.items) (members_at c.args.level (member k d rest))) c.in_ok-name.ensures
    ∙ sym (ap (λ left. members_then (map member_view l.object.items) (members_at c.args.level (plain_members (map_view left)))) (left_at items l.member-index here (grind arith) (grind arith)))
    ∙ l.invariant

pub convert_object-returns-then-len-gt-WIDEST : goal.convert_object-returns-then-len-gt-WIDEST
convert_object-returns-then-len-gt-WIDEST t c never =
    let ms = c.args.members.now.items in
    ap (object_at c.args.level) (rising_members (map_view ms) (grind arith)) ∙ object_too_wide c.args.level _ (plain_members (map_view ms)) (members_count ms) (omega arith)

pub convert_object-returns-then-are_rising : goal.convert_object-returns-then-are_rising
convert_object-returns-then-are_rising t c =
    let ms = c.args.members.now.items in
    subst (λ e. Gives view no_memory e c.convert_members.result)
    (sym (ap (object_at c.args.level) (rising_members (map_view ms) (grind arith)) ∙ object_within c.args.level _ (plain_members (map_view ms)) (members_count ms) (omega arith)))
    c.convert_members.ensures

pub convert_object-returns-then-len-gt-WIDEST-2 : goal.convert_object-returns-then-len-gt-WIDEST-2
convert_object-returns-then-len-gt-WIDEST-2 t c never =
    let found = c.in_ok-found in
    ap (object_at c.args.level) (sym found.ensures) ∙ object_too_wide c.args.level _ (entries_data found.found.entries) (entries_count found.found.entries) (omega (arith, c.len-2.ensures))

pub convert_object-returns : goal.convert_object-returns
convert_object-returns t c =
    let found = c.in_ok-found in
    subst (λ e. Gives view no_memory e c.convert_found.result)
    (sym (ap (object_at c.args.level) (sym found.ensures) ∙ object_within c.args.level _ (entries_data found.found.entries) (entries_count found.found.entries) (omega (arith, c.len-2.ensures))))
    c.convert_found.ensures

pub convert_list-returns : goal.convert_list-returns
convert_list-returns t c =
    let l = c.loop-item in
    let items = c.args.items.now.items in
    list_done c.args.level (items_data (values_view items)) l.list
    (ap (λ left. items_then (map view l.list.items) (items_at c.args.level (items_data (values_view left)))) (sym (drop_of_length-le items (grind arith))) ∙ l.invariant)

pub convert_members-returns : goal.convert_members-returns
convert_members-returns t c =
    let l = c.loop-member in
    let items = c.args.members.now.items in
    object_done c.args.level (plain_members (map_view items)) l.object
    (ap (λ left. members_then (map member_view l.object.items) (members_at c.args.level (plain_members (map_view left)))) (sym (drop_of_length-le items (grind arith))) ∙ l.invariant)

pub convert_found-loop-name-preserved : goal.convert_found-loop-name-preserved
convert_found-loop-name-preserved t c =
    let l = c.loop-name in
    let d = as_data (value_view c.in-Some.tree.now.now) in
    let rest = entries_data c.next.new.self in
    ap (λ object. members_then (map member_view object) (members_at c.args.level rest)) c.in_ok-push.ensures.items
    ∙ members_then_more l.object.items (c.in_ok-name.name, c.in_ok-convert.field-0) c.args.level d rest c.in_ok-convert.ensures
    ∙ ap (λ k. members_then (map member_view l.object.items) (members_at c.args.level (member k d rest))) c.in_ok-name.ensures
    ∙ ap (λ left. members_then (map member_view l.object.items) (members_at c.args.level (entries_data left))) (sym c.in-Some.ensures.steps)
    ∙ l.invariant

pub convert_found-returns : goal.convert_found-returns
convert_found-returns t c =
    let l = c.loop-name in
    object_done c.args.level (entries_data c.args.found.now.entries) l.object
    (ap (λ left. members_then (map member_view l.object.items) (members_at c.args.level (entries_data left))) (sym c.in-None.ensures.steps.0) ∙ l.invariant)
