use Rattle.std.proofs.Common.{◌≡◌, drop}
use Rattle.json.specs.Value.{members_view as map_view}
use Rattle.serde_json.specs.Data.{no_members}
use Rattle.gd_json.specs.Text.{members_data, entries_data}
use Rattle.gd_json.proofs.tree.by_name.Given as goal

abbrev pub invariant-loop-member : goal.invariant-loop-member
invariant-loop-member l = members_data (map_view (drop l.member-index l.members.items)) (entries_data l.found.entries) ≡ members_data (map_view l.members.items) no_members
