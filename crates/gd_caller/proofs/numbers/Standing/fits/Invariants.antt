use Rattle.std.proofs.Common.{◌≤◌, List, map, drop}
use Rattle.gd_runs.specs.Side.{Told}
use Rattle.gd_core_laws.specs.Bounds.{least_later}
use Rattle.gd_caller.specs.Told.{AreNumbers}
use Rattle.gd_round_lines.specs.Works.{write_of}
use Rattle.gd_caller.specs.Fits.{FollowsWrites}
use Rattle.gd_caller.proofs.numbers.Standing.fits.Given as goal

abbrev pub invariant-loop-write : goal.invariant-loop-write
invariant-loop-write l = record {
  later : (outs : List Told) → AreNumbers l.self.first outs l.self.numbers.now
      → l.at ≤ least_later (map write_of (drop l.write-index l.self.writes.now)) outs l.read.line l.read.session l.self.shown
      → l.at ≤ least_later (map write_of l.self.writes.now) outs l.read.line l.read.session l.self.shown;
  follows : (outs : List Told) → AreNumbers l.self.first outs l.self.numbers.now → FollowsWrites outs l.read l.at (drop l.write-index l.self.writes.now) → FollowsWrites outs l.read l.at l.self.writes.now;
}
