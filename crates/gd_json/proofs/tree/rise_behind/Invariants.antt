use Rattle.std.proofs.Common.{◌≡◌, drop}
use denote.Text.{Utf8}
use denote.Shadow.{shadow}
use Rattle.json.specs.Value.{members_view as map_view}
use Rattle.gd_json.specs.Text.{rises_behind}
use Rattle.gd_json.proofs.tree.rise_behind.Given as goal

-- what is left decides
abbrev pub invariant-loop-member : goal.invariant-loop-member
invariant-loop-member l = shadow (Utf8 l.last) × (rises_behind l.name (map_view l.members) ≡ rises_behind l.last (map_view (drop l.member-index l.members)))
