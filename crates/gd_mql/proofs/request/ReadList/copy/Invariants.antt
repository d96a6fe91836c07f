use Rattle.std.proofs.Common.{◌≡◌, map, take}
use Rattle.gd_mql.specs.Requests.{read_view}
use Rattle.gd_mql.proofs.request.ReadList.copy.Given as goal

abbrev pub invariant-loop-request : goal.invariant-loop-request
invariant-loop-request l = map read_view l.requests.items ≡ map read_view (take l.request-index l.request-items)
