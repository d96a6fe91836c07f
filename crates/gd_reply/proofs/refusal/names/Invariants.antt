use Rattle.std.proofs.Common.{◌≡◌, map, take}
use Rattle.gd_tree.specs.Json.{text}
use Rattle.gd_json.specs.View.{view}
use Rattle.gd_reply.proofs.refusal.names.Given as goal

abbrev pub invariant-loop-name : goal.invariant-loop-name
invariant-loop-name l = map view l.names.items ≡ map text (take l.name-index l.path)
