use Rattle.std.proofs.Common.{◌^◌, Err, ap, arith}
use Rattle.std.specs.Io.KnownBytes.{prepend_known}
use Rattle.std.specs.Option.{is_some}
use Rattle.gd_input.proofs.Taken.{taken_known, none_taken}
use Rattle.gd_runs.specs.Legal.{batches}
use Rattle.gd_runs.specs.Core.{State}
use Rattle.gd_sessions.specs.PassedOn.{Tells}
use Rattle.gd_sessions.specs.Running.{core_state, left_now}
use Rattle.gd_replay.specs.Stops.{Leaves}
use Rattle.gd_replay.proofs.Begun.{begun_upto, begun_advances, begun_bounded, begun_below, prints_by, stops_by, stops_more}
use Rattle.gd_replay.proofs.Carried.{along_same, along_then, tells_on}
use Rattle.gd_replay.proofs.Kept.{leaves_has, has_earlier, keeps_more, input_keeps}
use Rattle.gd_replay.proofs.Known.{more_known, done_known, stops_known, input_known, advances_then, caused_ends, input_ends, caused_begun, input_begun}
use Rattle.gd_replay.proofs.Taken.{rose_since, caused_since}
use Rattle.gd_replay.proofs.replay.replay_lines.Goals as goal

pub loop-piece-init : goal.loop-piece-init
loop-piece-init g c =
    let left = g.S.Source.left c.args.source.now in
    let new = c.new-reader.ensures in
    record {
      upto = begun_upto (is_some (g.D.Disk.content c.args.running.side.log.disk)) (g.C.Clock.may c.args.running.side.clock) c.args.running.side.history.loaded (g.K.Sink.held c.args.sink.now) (g.D.Disk.faults c.args.running.side.log.disk) (core_state c.args.running) (left_now c.args.running) c.new-reader.result left c.requires.left new c.requires.opened;
      advances = begun_advances c.new-reader.result left new;
      given = none_taken (g.S.Source.given c.args.source.now) c.new-reader.result new;
      counted = omega arith;
      below = begun_below (core_state c.args.running) c.args.running.side.history.loaded 0 c.requires.opened;
      along = along_same g.D.Disk.content g.D.Disk.faults g.C.Clock.may c.args.running.side;
      bounded = begun_bounded c.new-reader.result new;
      source_later = omega arith;
      sink_later = omega arith;
    }

pub loop-piece-preserved : goal.loop-piece-preserved
loop-piece-preserved g c =
    let inv = c.loop-piece.invariant in
    let loaded = c.args.running.side.history.loaded in
    let given = g.C.Clock.may c.args.running.side.clock in
    let may = g.C.Clock.may c.loop-piece.current.side.clock in
    let old = g.K.Sink.held c.args.sink.now in
    let mid = g.K.Sink.held c.loop-piece.sink in
    let new = g.K.Sink.held c.take_piece.new.sink in
    let k = c.loop-piece.line in
    let s = core_state c.loop-piece.current in
    let begun = g.D.Disk.faults c.args.running.side.log.disk in
    let before = g.D.Disk.faults c.loop-piece.current.side.log.disk in
    let after = g.D.Disk.faults c.in-Ok-take_piece.next.side.log.disk in
    let x = g.S.Source.left c.args.source.now in
    let y = prepend_known c.loop-piece.reader.bytes (g.S.Source.left c.loop-piece.source) in
    let z = prepend_known c.read_line.new.self.bytes (g.S.Source.left c.read_line.new.source) in
    record {
      upto = more_known (is_some (g.D.Disk.content c.args.running.side.log.disk)) given loaded old mid new begun before after k s (left_now c.loop-piece.current)
          c.in-Ok-take_piece.count (core_state c.in-Ok-take_piece.next) (left_now c.in-Ok-take_piece.next) x y z c.in-Ok.piece c.if-by_newline.true inv.upto c.in-Ok.ensures.line
          (λ bytes kept. prints_by (is_some (g.D.Disk.content c.args.running.side.log.disk)) (is_some (g.D.Disk.content c.loop-piece.current.side.log.disk)) inv.along.told given may inv.along.clock s k bytes mid new before after (left_now c.loop-piece.current) (core_state c.in-Ok-take_piece.next) c.in-Ok-take_piece.count (left_now c.in-Ok-take_piece.next)
          (c.in-Ok-take_piece.ensures.prints bytes kept));
      advances = advances_then x y z c.loop-piece.reader.consumed c.read_line.new.self.consumed inv.advances c.read_line.ensures.advances;
      given = c.read_line.ensures.counted (g.S.Source.given c.args.source.now) inv.given;
      counted = (let forward = c.in-Ok.ensures.forward c.if-by_newline.true in let few = c.in-Ok-take_piece.ensures.few in omega (arith, inv.counted, forward, few));
      below = c.in-Ok-take_piece.ensures.below;
      along = along_then g.D.Disk.content g.D.Disk.faults g.C.Clock.may c.args.running.side c.loop-piece.current.side c.in-Ok-take_piece.next.side inv.along c.in-Ok-take_piece.ensures.along;
      bounded = c.read_line.ensures.bounded;
      source_later = omega (arith, inv.source_later, c.read_line.ensures.later);
      sink_later = omega (arith, inv.sink_later, c.take_piece.ensures.later);
    }

pub returns-else-by_newline-clause-ends : goal.returns-else-by_newline-clause-ends
returns-else-by_newline-clause-ends g c =
    let inv = c.loop-piece.invariant in
    let loaded = c.args.running.side.history.loaded in
    let given = g.C.Clock.may c.args.running.side.clock in
    let may = g.C.Clock.may c.loop-piece.current.side.clock in
    let old = g.K.Sink.held c.args.sink.now in
    let mid = g.K.Sink.held c.loop-piece.sink in
    let new = g.K.Sink.held c.take_piece.new.sink in
    let k = c.loop-piece.line in
    let s = core_state c.loop-piece.current in
    let begun = g.D.Disk.faults c.args.running.side.log.disk in
    let before = g.D.Disk.faults c.loop-piece.current.side.log.disk in
    let after = g.D.Disk.faults c.in-Ok-take_piece.next.side.log.disk in
    let x = g.S.Source.left c.args.source.now in
    let y = prepend_known c.loop-piece.reader.bytes (g.S.Source.left c.loop-piece.source) in
    let z = prepend_known c.read_line.new.self.bytes (g.S.Source.left c.read_line.new.source) in
    rw c.ended.ensures.parts
    (done_known (is_some (g.D.Disk.content c.args.running.side.log.disk)) given loaded old mid new begun before after k s (left_now c.loop-piece.current)
    (λ (t : State). Tells (g.D.Disk.content c.args.running.side.log.disk) → Leaves (g.D.Disk.images c.in-Ok-take_piece.next.side.log.disk) t) c.in-Ok-take_piece.count (core_state c.in-Ok-take_piece.next) (left_now c.in-Ok-take_piece.next) x y z c.in-Ok.piece c.if-by_newline.false inv.upto c.in-Ok.ensures.line
    (λ bytes kept. prints_by (is_some (g.D.Disk.content c.args.running.side.log.disk)) (is_some (g.D.Disk.content c.loop-piece.current.side.log.disk)) inv.along.told given may inv.along.clock s k bytes mid new before after (left_now c.loop-piece.current) (core_state c.in-Ok-take_piece.next) c.in-Ok-take_piece.count (left_now c.in-Ok-take_piece.next) (c.in-Ok-take_piece.ensures.prints bytes kept))
    (λ tells. c.ended.ensures.holds (tells_on g.D.Disk.content g.D.Disk.faults g.C.Clock.may c.loop-piece.current.side c.in-Ok-take_piece.next.side c.in-Ok-take_piece.ensures.along
    (tells_on g.D.Disk.content g.D.Disk.faults g.C.Clock.may c.args.running.side c.loop-piece.current.side inv.along tells))))

pub returns-in-Err-take_piece-clause-ends : goal.returns-in-Err-take_piece-clause-ends
returns-in-Err-take_piece-clause-ends g c =
    let inv = c.loop-piece.invariant in
    let loaded = c.args.running.side.history.loaded in
    let given = g.C.Clock.may c.args.running.side.clock in
    let may = g.C.Clock.may c.loop-piece.current.side.clock in
    let old = g.K.Sink.held c.args.sink.now in
    let mid = g.K.Sink.held c.loop-piece.sink in
    let new = g.K.Sink.held c.take_piece.new.sink in
    let k = c.loop-piece.line in
    let s = core_state c.loop-piece.current in
    let begun = g.D.Disk.faults c.args.running.side.log.disk in
    let before = g.D.Disk.faults c.loop-piece.current.side.log.disk in
    let after = g.D.Disk.faults c.in-Err-take_piece.disk in
    let x = g.S.Source.left c.args.source.now in
    let y = prepend_known c.loop-piece.reader.bytes (g.S.Source.left c.loop-piece.source) in
    let z = prepend_known c.read_line.new.self.bytes (g.S.Source.left c.read_line.new.source) in
    let tells_now = tells_on g.D.Disk.content g.D.Disk.faults g.C.Clock.may c.args.running.side c.loop-piece.current.side inv.along in
    let leaves = λ (t : State). Tells (g.D.Disk.content c.args.running.side.log.disk) → Leaves (g.D.Disk.images c.in-Err-take_piece.disk) t in
    stops_known (is_some (g.D.Disk.content c.args.running.side.log.disk)) given loaded old mid new begun before after k s (left_now c.loop-piece.current)
    leaves c.in-Err-take_piece.stop _ _ c.in-Err-take_piece.ensures.caused x y z c.in-Ok.piece inv.upto c.in-Ok.ensures.line
    (λ bytes kept. stops_by (is_some (g.D.Disk.content c.args.running.side.log.disk)) (is_some (g.D.Disk.content c.loop-piece.current.side.log.disk)) inv.along.told given may inv.along.clock s k bytes mid new before after (left_now c.loop-piece.current) leaves c.in-Err-take_piece.stop
    (stops_more (is_some (g.D.Disk.content c.args.running.side.log.disk)) (is_some (g.D.Disk.content c.loop-piece.current.side.log.disk)) inv.along.told given may inv.along.clock s k bytes mid new before after (left_now c.loop-piece.current) (λ (t : State). Tells (g.D.Disk.content c.loop-piece.current.side.log.disk) → Leaves (g.D.Disk.images c.in-Err-take_piece.disk) t) leaves (λ t left tells. left (tells_now tells)) c.in-Err-take_piece.stop
    (c.in-Err-take_piece.ensures.stops bytes kept)))

pub returns-in-Err-take_piece-clause-caused : goal.returns-in-Err-take_piece-clause-caused
returns-in-Err-take_piece-clause-caused g c =
    let inv = c.loop-piece.invariant in
    caused_ends c.in-Err-take_piece.stop _ _ _ _
    (caused_since c.in-Err-take_piece.stop (g.K.Sink.faults c.args.sink.now) (g.K.Sink.faults c.loop-piece.sink) (g.K.Sink.faults c.take_piece.new.sink)
    (g.D.Disk.faults c.args.running.side.log.disk) (g.D.Disk.faults c.loop-piece.current.side.log.disk) (g.D.Disk.faults c.in-Err-take_piece.disk) inv.sink_later inv.along.later c.in-Err-take_piece.ensures.caused)

pub returns-in-Err-clause-ends : goal.returns-in-Err-clause-ends
returns-in-Err-clause-ends g c =
    let inv = c.loop-piece.invariant in
    rw c.stopped.ensures.parts
    (input_known (is_some (g.D.Disk.content c.args.running.side.log.disk)) (g.C.Clock.may c.args.running.side.clock) c.args.running.side.history.loaded (λ (t : State). Tells (g.D.Disk.content c.args.running.side.log.disk) → Leaves (g.D.Disk.images c.loop-piece.current.side.log.disk) t) (g.K.Sink.held c.args.sink.now) (g.K.Sink.held c.loop-piece.sink)
    (g.D.Disk.faults c.args.running.side.log.disk) (g.D.Disk.faults c.loop-piece.current.side.log.disk) c.loop-piece.line (core_state c.loop-piece.current) (left_now c.loop-piece.current) c.in-Err.fault
    (g.S.Source.left c.args.source.now) (prepend_known c.loop-piece.reader.bytes (g.S.Source.left c.loop-piece.source)) inv.upto
    (λ tells. c.stopped.ensures.holds (tells_on g.D.Disk.content g.D.Disk.faults g.C.Clock.may c.args.running.side c.loop-piece.current.side inv.along tells)))

pub returns-else-by_newline-clause-kept : goal.returns-else-by_newline-clause-kept
returns-else-by_newline-clause-kept g c = λ tells.
    let side = c.args.running.side in
    let next = c.in-Ok-take_piece.next in
    let along = along_then g.D.Disk.content g.D.Disk.faults g.C.Clock.may side c.loop-piece.current.side next.side c.loop-piece.invariant.along c.in-Ok-take_piece.ensures.along in
    let then = tells_on g.D.Disk.content g.D.Disk.faults g.C.Clock.may side next.side along tells in
    rw c.ended.ensures.parts
    (leaves_has (g.D.Disk.content next.side.log.disk) (g.D.Disk.images next.side.log.disk) (batches side.history) (core_state next) then (along.grows tells) (c.ended.ensures.holds then))

pub returns-in-Err-take_piece-clause-kept : goal.returns-in-Err-take_piece-clause-kept
returns-in-Err-take_piece-clause-kept g c = λ tells.
    let side = c.args.running.side in
    let along = c.loop-piece.invariant.along in
    let now = tells_on g.D.Disk.content g.D.Disk.faults g.C.Clock.may side c.loop-piece.current.side along tells in
    keeps_more (Err c.in-Err-take_piece.stop) _ _ _ _
    (has_earlier (g.D.Disk.content c.in-Err-take_piece.disk) (g.D.Disk.images c.in-Err-take_piece.disk) (batches side.history) (batches c.loop-piece.current.side.history) (along.grows tells)) (λ f no. no)
    (c.in-Err-take_piece.ensures.kept now)

pub returns-in-Err-clause-kept : goal.returns-in-Err-clause-kept
returns-in-Err-clause-kept g c = λ tells.
    let side = c.args.running.side in
    let current = c.loop-piece.current in
    let along = c.loop-piece.invariant.along in
    let now = tells_on g.D.Disk.content g.D.Disk.faults g.C.Clock.may side current.side along tells in
    rw c.stopped.ensures.parts
    (input_keeps c.in-Err.fault _ _
    (leaves_has (g.D.Disk.content current.side.log.disk) (g.D.Disk.images current.side.log.disk) (batches side.history) (core_state current) now (along.grows tells) (c.stopped.ensures.holds now)))

pub returns-in-Err-clause-caused : goal.returns-in-Err-clause-caused
returns-in-Err-clause-caused g c =
    let inv = c.loop-piece.invariant in
    let x = g.S.Source.left c.args.source.now in
    let y = prepend_known c.loop-piece.reader.bytes (g.S.Source.left c.loop-piece.source) in
    let z = prepend_known c.read_line.new.self.bytes (g.S.Source.left c.read_line.new.source) in
    rw c.stopped.ensures.parts
    (input_ends c.in-Err.fault _ _ _ _
    (λ e. rose_since (g.S.Source.faults c.args.source.now) (g.S.Source.faults c.loop-piece.source) (g.S.Source.faults c.read_line.new.source) inv.source_later (c.in-Err.ensures.failed (ap Err e)))
    (λ e. taken_known x (g.S.Source.left c.read_line.new.source) (g.S.Source.given c.args.source.now) (g.S.Source.given c.read_line.new.source) c.read_line.new.self (2 ^ 40) (advances_then x y z c.loop-piece.reader.consumed c.read_line.new.self.consumed inv.advances c.read_line.ensures.advances)
    (c.read_line.ensures.counted (g.S.Source.given c.args.source.now) inv.given) (c.in-Err.ensures.too_much (ap Err e))))

pub returns-else-by_newline-clause-begun : goal.returns-else-by_newline-clause-begun
returns-else-by_newline-clause-begun g c = rw c.ended.ensures.parts tt

pub returns-in-Err-take_piece-clause-begun : goal.returns-in-Err-take_piece-clause-begun
returns-in-Err-take_piece-clause-begun g c = caused_begun c.in-Err-take_piece.stop _ _ c.in-Err-take_piece.ensures.caused

pub returns-in-Err-clause-begun : goal.returns-in-Err-clause-begun
returns-in-Err-clause-begun g c = rw c.stopped.ensures.parts (input_begun c.in-Err.fault)
