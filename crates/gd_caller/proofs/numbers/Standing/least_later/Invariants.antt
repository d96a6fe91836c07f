use Rattle.std.proofs.Common.{◌≡◌, ◌≤◌, min, List, map, drop}
use Rattle.gd_runs.specs.Side.{Told}
use Rattle.gd_core_laws.specs.Bounds.{least_later}
use Rattle.gd_caller.specs.Told.{AreNumbers}
use Rattle.gd_round_lines.specs.Works.{write_of}
use Rattle.gd_caller.proofs.numbers.Standing.least_later.Given as goal

abbrev pub invariant-loop-write : goal.invariant-loop-write
invariant-loop-write l = record {
  shown : l.least ≤ l.self.shown;
  least : (outs : List Told) → AreNumbers l.self.first outs l.self.numbers.now
      → min l.least (least_later (map write_of (drop l.write-index l.self.writes.now)) outs l.read.line l.read.session l.self.shown)
      ≡ least_later (map write_of l.self.writes.now) outs l.read.line l.read.session l.self.shown;
}
