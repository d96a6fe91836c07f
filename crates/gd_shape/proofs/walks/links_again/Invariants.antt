use Rattle.std.proofs.Common.{◌≡◌, ◌++◌, drop}
use Rattle.gd_shape.proofs.walks.links_again.Given as goal

abbrev pub invariant-loop-link : goal.invariant-loop-link
invariant-loop-link l = l.again.items ++ drop l.link-index l.links ≡ l.links
