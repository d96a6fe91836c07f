use Rattle.std.proofs.Common.{◌≡◌, ◌≤◌, ◌+◌, ◌-◌, ◌^◌, length, true}
use Rattle.std.specs.Io.KnownBytes.{prepend_known}
use Rattle.gd_base.specs.Counts.{RoseBy}
use Rattle.gd_input.specs.Held.{IsBounded}
use Rattle.gd_input.specs.Pieces.{Known, Advances}
use Rattle.gd_answering.specs.Runs.{RunsOn, RunsUpto}
use Rattle.gd_answering.proofs.answering.answer_all.Given as goal

abbrev pub invariant-loop-piece : goal.invariant-loop-piece
invariant-loop-piece g l = record {
  upto : Known (g.S.Source.left l.fn.source) (prepend_known l.reader.bytes (g.S.Source.left l.source))
      (RunsUpto g.A.Answers.answers l.fn.answers l.answers (g.K.Sink.held l.fn.sink) (g.K.Sink.held l.sink) l.line);
  on : RunsOn g.A.Answers.answers l.fn.answers l.answers (g.K.Sink.held l.fn.sink) (g.K.Sink.held l.sink) l.line;
  advances : Advances (g.S.Source.left l.fn.source) (prepend_known l.reader.bytes (g.S.Source.left l.source)) 0 l.reader.consumed;
  given : RoseBy (g.S.Source.given l.fn.source) (g.S.Source.given l.source) (l.reader.consumed + length l.reader.bytes);
  counted : l.line ≤ l.reader.consumed;
  bounded : IsBounded l.reader;
  sent : g.K.Sink.sent l.sink ≡ true;
  source_later : g.S.Source.faults l.fn.source ≤ g.S.Source.faults l.source;
  sink_later : g.K.Sink.faults l.fn.sink ≤ g.K.Sink.faults l.sink;
}

abbrev pub decreases-loop-piece : goal.decreases-loop-piece
decreases-loop-piece g l = 2 ^ 40 + 4096 - l.reader.consumed
