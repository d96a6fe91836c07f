use Rattle.std.proofs.Common.{◌≤◌, ◌+◌, ◌-◌, ◌^◌, length}
use Rattle.std.specs.Io.KnownBytes.{prepend_known}
use Rattle.std.specs.Option.{is_some}
use Rattle.gd_base.specs.Counts.{RoseBy}
use Rattle.gd_input.specs.Held.{IsBounded}
use Rattle.gd_input.specs.Pieces.{Known, Advances}
use Rattle.gd_replay_laws.specs.Runs.{AreBelow}
use Rattle.gd_sessions.specs.Running.{core_state, left_now}
use Rattle.gd_replay.specs.Stops.{GoesAlong}
use Rattle.gd_replay.specs.Runs.{RunUpto}
use Rattle.gd_replay.proofs.replay.replay_lines.Given as goal

abbrev pub invariant-loop-piece : goal.invariant-loop-piece
invariant-loop-piece g l = record {
  upto : Known (g.S.Source.left l.fn.source) (prepend_known l.reader.bytes (g.S.Source.left l.source))
      (RunUpto (is_some (g.D.Disk.content l.fn.running.side.log.disk)) (g.C.Clock.may l.fn.running.side.clock) l.fn.running.side.history.loaded (g.K.Sink.held l.fn.sink) (g.K.Sink.held l.sink) (g.D.Disk.faults l.fn.running.side.log.disk) (g.D.Disk.faults l.current.side.log.disk) l.line (core_state l.current) (left_now l.current));
  advances : Advances (g.S.Source.left l.fn.source) (prepend_known l.reader.bytes (g.S.Source.left l.source)) 0 l.reader.consumed;
  given : RoseBy (g.S.Source.given l.fn.source) (g.S.Source.given l.source) (l.reader.consumed + length l.reader.bytes);
  counted : l.line ≤ l.reader.consumed;
  below : AreBelow l.line (core_state l.current);
  along : GoesAlong g.D.Disk.content g.D.Disk.faults g.C.Clock.may l.fn.running.side l.current.side;
  bounded : IsBounded l.reader;
  source_later : g.S.Source.faults l.fn.source ≤ g.S.Source.faults l.source;
  sink_later : g.K.Sink.faults l.fn.sink ≤ g.K.Sink.faults l.sink;
}

abbrev pub decreases-loop-piece : goal.decreases-loop-piece
decreases-loop-piece g l = 2 ^ 40 + 4096 - l.reader.consumed
