use Rattle.std.proofs.Common.{◌≡◌, ◌++◌, map, take}
use Rattle.gd_prim.specs.Builtin.{name_link}
use Rattle.gd_prim.specs.Tables.{name_row}
use Rattle.gd_prim.proofs.builtin.push_names.Given as goal

abbrev pub invariant-loop-row : goal.invariant-loop-row
invariant-loop-row l = l.prims.items ≡ l.initial.prims.items ++ map (λ row. name_link (name_row row)) (take l.row-index l.rows)
