use Rattle.std.proofs.Common.{◌≡◌, ◌++◌, map, take}
use Rattle.gd_prim.specs.Builtin.{unique_mark}
use Rattle.gd_prim.proofs.builtin.push_unique_marks.Given as goal

abbrev pub invariant-loop-row : goal.invariant-loop-row
invariant-loop-row l = l.prims.items ≡ l.initial.prims.items ++ map unique_mark (take l.row-index l.rows)
