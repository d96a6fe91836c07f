use Rattle.std.proofs.Common.{◌≡◌, ◌++◌, map, take}
use Rattle.gd_prim.specs.Builtin.{key_link}
use Rattle.gd_prim.specs.Tables.{key_row}
use Rattle.gd_prim.proofs.builtin.push_keys.Given as goal

abbrev pub invariant-loop-row : goal.invariant-loop-row
invariant-loop-row l = l.prims.items ≡ l.initial.prims.items ++ map (λ row. key_link (key_row row)) (take l.row-index l.rows)
