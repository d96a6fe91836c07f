use Rattle.std.proofs.Common.{◌≡◌, map, take}
use Rattle.gd_json.specs.View.{view, member_view}
use Rattle.gd_growing.specs.State.{so_far}
use Rattle.gd_carry.specs.Printed.{pair_view, printed_view}
use Rattle.gd_carry.proofs.fill.+fill.Given as goal

abbrev pub invariant-fill_fields-loop-field : goal.invariant-fill_fields-loop-field
invariant-fill_fields-loop-field l = map member_view l.members.items ≡ map (pair_view (so_far l.growing)) (take l.field-index l.fields)

abbrev pub invariant-fill_items-loop-item : goal.invariant-fill_items-loop-item
invariant-fill_items-loop-item l = map view l.filled.items ≡ map (printed_view (so_far l.growing)) (take l.item-index l.items)
