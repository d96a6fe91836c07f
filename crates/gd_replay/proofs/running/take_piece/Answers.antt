use Rattle.std.proofs.Common.{◌∙◌, sym}
use Rattle.std.specs.Option.{is_some}
use Rattle.gd_runs.specs.Core.{State}
use Rattle.gd_sessions.specs.PassedOn.{Tells}
use Rattle.gd_sessions.specs.Running.{core_state, left_now}
use Rattle.gd_replay.specs.Stops.{Leaves}
use Rattle.gd_replay.proofs.Carried.{along_same}
use Rattle.gd_replay.proofs.Pieces.{line_prints, blank_prints, line_stops}
use Rattle.gd_replay.proofs.running.take_piece.Goals as goal

pub returns-in-Ok-clause-prints : goal.returns-in-Ok-clause-prints
returns-in-Ok-clause-prints g c = λ bytes kept.
    let faults = g.D.Disk.faults in
    line_prints (is_some (g.D.Disk.content c.args.running.side.log.disk)) (g.C.Clock.may c.args.running.side.clock) (core_state c.args.running) c.args.line bytes (core_state c.in-Ok.next) (g.K.Sink.held c.args.sink.now) (g.K.Sink.held c.take_line.new.sink)
    (faults c.args.running.side.log.disk) (faults c.in-Ok.next.side.log.disk) (left_now c.args.running) (left_now c.in-Ok.next) (sym (c.is_blank.ensures 262_144 bytes kept) ∙ c.if-is_blank.false) c.in-Ok.ensures.along.later (c.in-Ok.ensures.prints bytes kept)

pub returns-then-is_blank-clause-prints : goal.returns-then-is_blank-clause-prints
returns-then-is_blank-clause-prints g c = λ bytes kept.
    blank_prints (is_some (g.D.Disk.content c.args.running.side.log.disk)) (g.C.Clock.may c.args.running.side.clock) (core_state c.args.running) c.args.line bytes (g.K.Sink.held c.args.sink.now) (g.D.Disk.faults c.args.running.side.log.disk) (left_now c.args.running)
    (sym (c.is_blank.ensures 262_144 bytes kept) ∙ c.if-is_blank.true)

pub returns-in-Err-clause-stops : goal.returns-in-Err-clause-stops
returns-in-Err-clause-stops g c = λ bytes kept.
    let faults = g.D.Disk.faults in
    line_stops (is_some (g.D.Disk.content c.args.running.side.log.disk)) (g.C.Clock.may c.args.running.side.clock) (core_state c.args.running) c.args.line bytes (λ (t : State). Tells (g.D.Disk.content c.args.running.side.log.disk) → Leaves (g.D.Disk.images c.in-Err.halt.1) t) c.in-Err.halt.0 (g.K.Sink.held c.args.sink.now) (g.K.Sink.held c.take_line.new.sink)
    (faults c.args.running.side.log.disk) (faults c.in-Err.halt.1) (left_now c.args.running) (sym (c.is_blank.ensures 262_144 bytes kept) ∙ c.if-is_blank.false) c.in-Err.ensures.disk (c.in-Err.ensures.stops bytes kept)

pub returns-then-is_blank-clause-along : goal.returns-then-is_blank-clause-along
returns-then-is_blank-clause-along g c = along_same g.D.Disk.content g.D.Disk.faults g.C.Clock.may c.args.running.side
