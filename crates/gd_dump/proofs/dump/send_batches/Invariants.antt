use Rattle.std.proofs.Common.{◌≤◌, flat_map, take, drop}
use Rattle.std.specs.List.{AllByRecursion}
use Rattle.std.specs.Io.KnownBytes.{Appends}
use Rattle.gd_dump_laws.specs.Dump.{batch_text, PrimitiveFits}
use Rattle.gd_dump.proofs.dump.send_batches.Given as goal

abbrev pub invariant-loop-n : goal.invariant-loop-n
invariant-loop-n g l = record {
  above : l.from ≤ l.n;
  sent : Appends (g.K.Sink.held l.fn.sink) (g.K.Sink.held l.sink) (flat_map batch_text (drop l.from (take l.n l.store)));
  fits : AllByRecursion (λ b. AllByRecursion (λ p. PrimitiveFits p.moment p) b.prims) (drop l.from (take l.n l.store));
  later : g.K.Sink.faults l.fn.sink ≤ g.K.Sink.faults l.sink;
}
