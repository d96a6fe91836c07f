use Rattle.std.proofs.Common.{◌≡◌, ◌⊎◌, true, false, ◌≤◌, ◌+◌, ◌-◌, ◌*◌, ◌^◌, length}
use Rattle.std.specs.Option.{is_some}
use Rattle.gd_base.specs.Counts.{RoseBy}
use Rattle.std.specs.Io.KnownBytes.{prepend_known}
use Rattle.gd_input.specs.Held.{IsBounded}
use Rattle.gd_input.specs.Pieces.{Known, Advances}
use Rattle.gd_threads.specs.Served.{state_at}
use Rattle.gd_top.specs.Answered.{ServedUpto}
use Rattle.gd_top.proofs.rounds.serve_rounds.Given as goal

abbrev pub invariant-loop-round : goal.invariant-loop-round
invariant-loop-round g l = record {
  upto : Known (g.S.Source.left l.fn.source) (prepend_known l.reader.bytes (g.S.Source.left l.source)) (ServedUpto false l.fn.rounds.side.history.loaded (g.C.Clock.may l.fn.rounds.side.clock) (g.K.Sink.held l.fn.sink) (g.K.Sink.held l.sink)
      (g.D.Disk.faults l.fn.rounds.side.log.disk) (g.D.Disk.faults l.rounds.side.log.disk) l.fn.rounds.keeping l.rounds.keeping (state_at l.rounds.side) l.rounds.lines);
  caches : length l.rounds.keeping.caches ≡ length l.fn.rounds.keeping.caches;
  advances : Advances (g.S.Source.left l.fn.source) (prepend_known l.reader.bytes (g.S.Source.left l.source)) 0 l.reader.consumed;
  given : RoseBy (g.S.Source.given l.fn.source) (g.S.Source.given l.source) (l.reader.consumed + length l.reader.bytes);
  counted : l.rounds.lines ≤ 256 * l.reader.consumed;
  loaded : l.rounds.side.history.loaded ≡ l.fn.rounds.side.history.loaded;
  told : is_some (g.D.Disk.content l.rounds.side.log.disk) ≡ is_some (g.D.Disk.content l.fn.rounds.side.log.disk);
  clock : g.C.Clock.may l.rounds.side.clock ≡ g.C.Clock.may l.fn.rounds.side.clock;
  sent : (l.sink ≡ l.fn.sink) ⊎ (g.K.Sink.sent l.sink ≡ true);
  bounded : IsBounded l.reader;
  source_later : g.S.Source.faults l.fn.source ≤ g.S.Source.faults l.source;
  sink_later : g.K.Sink.faults l.fn.sink ≤ g.K.Sink.faults l.sink;
  disk_later : g.D.Disk.faults l.fn.rounds.side.log.disk ≤ g.D.Disk.faults l.rounds.side.log.disk;
}

abbrev pub decreases-loop-round : goal.decreases-loop-round
decreases-loop-round g l = 2 ^ 40 + 4096 - l.reader.consumed
