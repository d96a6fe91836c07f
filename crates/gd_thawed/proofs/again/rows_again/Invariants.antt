use Rattle.std.proofs.Common.{◌≡◌, ◌++◌, map, drop}
use Rattle.gd_frozen.specs.Meaning.{row_of}
use Rattle.gd_thawed.proofs.again.rows_again.Given as goal

abbrev pub invariant-loop-row : goal.invariant-loop-row
invariant-loop-row l = map row_of l.again.items ++ map row_of (drop l.row-index l.rows) ≡ map row_of l.rows
