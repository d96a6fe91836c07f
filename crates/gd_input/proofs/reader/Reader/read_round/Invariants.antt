use Rattle.std.proofs.Common.{◌+◌, ◌-◌, ◌≤◌, vec_len}
use Rattle.std.specs.Io.KnownBytes.{prepend_known}
use Rattle.std.specs.List.{All}
use Rattle.gd_input.specs.Line.{IsShort}
use Rattle.gd_input.specs.Held.{IsBounded, CountsOn}
use Rattle.gd_input.specs.Pieces.{Known, Advances}
use Rattle.gd_input.proofs.Gathering.{Gathering}
use Rattle.gd_input.proofs.reader.Reader.read_round.Given as goal

abbrev pub invariant-loop-self : goal.invariant-loop-self
invariant-loop-self g l = record {
  gathering : Known (prepend_known l.fn.self.bytes (g.S.Source.left l.fn.source)) (prepend_known l.self.bytes (g.S.Source.left l.source)) (Gathering l.lines.items);
  advances : Advances (prepend_known l.fn.self.bytes (g.S.Source.left l.fn.source)) (prepend_known l.self.bytes (g.S.Source.left l.source)) l.fn.self.consumed l.self.consumed;
  short : All IsShort l.lines.items;
  few : vec_len l.lines ≤ 256;
  forward : l.fn.self.consumed + vec_len l.lines ≤ l.self.consumed;
  counts : CountsOn l.fn.self (g.S.Source.given l.fn.source) l.self (g.S.Source.given l.source);
  bounded : IsBounded l.self;
  later : g.S.Source.faults l.fn.source ≤ g.S.Source.faults l.source;
}

abbrev pub decreases-loop-self : goal.decreases-loop-self
decreases-loop-self g l = 256 - vec_len l.lines
