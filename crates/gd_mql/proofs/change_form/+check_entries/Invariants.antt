use Rattle.std.proofs.Common.{◌≡◌, drop}
use Rattle.gd_json.specs.View.{items_view, members_view}
use Rattle.gd_form_laws.specs.WriteFaults.{entries_fault, items_fault}
use Rattle.gd_mql.specs.Names.{name_view}
use Rattle.gd_mql.specs.Changes.{setting_view}
use Rattle.gd_mql.proofs.change_form.+check_entries.Given as goal

abbrev pub invariant-check_entries-loop-member : goal.invariant-check_entries-loop-member
invariant-check_entries-loop-member l = entries_fault (setting_view l.setting) (members_view l.members) ≡ entries_fault (setting_view l.setting) (members_view (drop l.member-index l.members))

abbrev pub invariant-check_items-loop-item : goal.invariant-check_items-loop-item
invariant-check_items-loop-item l = items_fault (setting_view l.setting) (name_view l.name) (items_view l.items) ≡ items_fault (setting_view l.setting) (name_view l.name) (items_view (drop l.item-index l.items))
