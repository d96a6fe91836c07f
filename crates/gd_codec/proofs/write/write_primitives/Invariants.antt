use Rattle.std.proofs.Common.{◌≡◌, ◌++◌, flat_map, drop, IsTrue}
use Rattle.std.specs.List.{AllByRecursion}
use Rattle.gd_prim.specs.WellFormed.{may_hold}
use Rattle.gd_bytes.specs.Group.{primitive_bytes, PrimitiveFits}
use Rattle.gd_codec.proofs.write.write_primitives.Given as goal

abbrev pub invariant-loop-prim : goal.invariant-loop-prim
invariant-loop-prim l = record {
  may : AllByRecursion (λ p. IsTrue (may_hold p.value)) (drop l.prim-index l.prims);
  so_far : l.out.items ++ flat_map primitive_bytes (drop l.prim-index l.prims) ≡ l.fn.out.items ++ flat_map primitive_bytes l.prims;
  fits : AllByRecursion (λ p. PrimitiveFits p.moment p) (drop l.prim-index l.prims) → AllByRecursion (λ p. PrimitiveFits p.moment p) l.prims;
}
