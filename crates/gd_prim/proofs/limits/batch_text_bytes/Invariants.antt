use Rattle.std.proofs.Common.{◌≡◌, ◌≤◌, ◌+◌, ◌*◌, drop, sum_by}
use Rattle.gd_prim.specs.Limits.{text_bytes}
use Rattle.gd_prim.proofs.limits.batch_text_bytes.Given as goal

abbrev pub invariant-loop-prim : goal.invariant-loop-prim
invariant-loop-prim l = record {
  bytes : l.bytes + sum_by text_bytes (drop l.prim-index l.prims) ≡ sum_by text_bytes l.prims;
  small : l.bytes ≤ 8_192 * l.prim-index;
}
