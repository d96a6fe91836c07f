use Rattle.std.proofs.Common.{◌≡◌, ◌≤◌, ◌+◌, ◌*◌, flat_map, length, drop}
use Rattle.gd_bytes.specs.Group.{primitive_bytes}
use Rattle.gd_codec.proofs.length.primitives_length.Given as goal

abbrev pub invariant-loop-prim : goal.invariant-loop-prim
invariant-loop-prim l = record {
  so_far : l.total + length (flat_map primitive_bytes (drop l.prim-index l.prims)) ≡ length (flat_map primitive_bytes l.prims);
  bound : l.total ≤ 8222 * l.prim-index;
}
