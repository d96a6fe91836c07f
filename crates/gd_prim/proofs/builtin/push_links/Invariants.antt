use Rattle.std.proofs.Common.{◌≡◌, ◌++◌, map, take}
use Rattle.gd_prim.specs.Builtin.{link}
use Rattle.gd_prim.proofs.builtin.push_links.Given as goal

abbrev pub invariant-loop-row : goal.invariant-loop-row
invariant-loop-row l = l.prims.items ≡ l.initial.prims.items ++ map (link l.typ) (take l.row-index l.rows)
