use Rattle.std.proofs.Common.{◌≡◌, map, take}
use Rattle.gd_mql.specs.Requests.{asked_change}
use Rattle.gd_mql.proofs.request.ChangeList.copy.Given as goal

abbrev pub invariant-loop-change : goal.invariant-loop-change
invariant-loop-change l = map asked_change l.changes.items ≡ map asked_change (take l.change-index l.change-items)
