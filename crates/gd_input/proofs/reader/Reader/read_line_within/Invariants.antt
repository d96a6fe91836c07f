use Rattle.std.proofs.Common.{◌+◌, ◌-◌, ◌^◌, ◌≤◌}
use Rattle.std.specs.Io.KnownBytes.{prepend_known}
use Rattle.gd_input.specs.Held.{IsBounded, CountsOn}
use Rattle.gd_input.proofs.Reading.{Reading}
use Rattle.gd_input.proofs.reader.Reader.read_line_within.Given as goal

abbrev pub invariant-loop-line : goal.invariant-loop-line
invariant-loop-line g l = record {
  reading : Reading l.fn.most (prepend_known l.fn.self.bytes (g.S.Source.left l.fn.source)) (prepend_known l.self.bytes (g.S.Source.left l.source)) l.fn.self.consumed l.self.consumed l.line;
  counts : CountsOn l.fn.self (g.S.Source.given l.fn.source) l.self (g.S.Source.given l.source);
  bounded : IsBounded l.self;
  later : g.S.Source.faults l.fn.source ≤ g.S.Source.faults l.source;
}

abbrev pub decreases-loop-line : goal.decreases-loop-line
decreases-loop-line g l = 2 ^ 40 + 4096 - l.self.consumed
