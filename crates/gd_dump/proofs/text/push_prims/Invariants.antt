use Rattle.std.proofs.Common.{◌≡◌, ◌++◌, flat_map, drop, IsTrue}
use Rattle.std.specs.List.{AllByRecursion}
use Rattle.gd_prim.specs.WellFormed.{may_hold}
use Rattle.gd_dump_laws.specs.Dump.{prim_line, PrimitiveFits}
use Rattle.gd_dump.proofs.text.push_prims.Given as goal

abbrev pub invariant-loop-prim : goal.invariant-loop-prim
invariant-loop-prim l = record {
  may : AllByRecursion (λ p. IsTrue (may_hold p.value)) (drop l.prim-index l.prims);
  so_far : l.out.items ++ flat_map prim_line (drop l.prim-index l.prims) ≡ l.fn.out.items ++ flat_map prim_line l.prims;
  fits : AllByRecursion (λ p. PrimitiveFits p.moment p) (drop l.prim-index l.prims) → AllByRecursion (λ p. PrimitiveFits p.moment p) l.prims;
}
