use Rattle.std.proofs.Common.{◌≡◌, ◌++◌, map, drop}
use Rattle.gd_frozen.specs.Meaning.{walk_of}
use Rattle.gd_shape.proofs.walks.walks_again.Given as goal

abbrev pub invariant-loop-walk : goal.invariant-loop-walk
invariant-loop-walk l = map walk_of l.again.items ++ map walk_of (drop l.walk-index l.walks) ≡ map walk_of l.walks
