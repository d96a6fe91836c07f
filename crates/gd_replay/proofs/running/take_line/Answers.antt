use Rattle.std.proofs.Common.{◌≤◌, ◌+◌, Bool, IsTrue, sym, subst}
use Rattle.std.specs.Option.{is_some}
use Rattle.std.proofs.KnownBytes.{Keeps-refl}
use Rattle.gd_base.specs.Counts.{Rose}
use Rattle.gd_runs.specs.Legal.{batches}
use Rattle.gd_runs.specs.Core.{State}
use Rattle.gd_sessions.specs.PassedOn.{Tells}
use Rattle.gd_replay_laws.specs.Runs.{AreBelow}
use Rattle.gd_sessions.specs.Running.{RunningValue, core_state, left_now}
use Rattle.gd_replay.specs.Stops.{Leaves, GoesAlong}
use Rattle.gd_replay.specs.Runs.{LinePrints, LineStops}
use Rattle.gd_replay.proofs.Carried.{tells_on}
use Rattle.gd_replay.proofs.Grown.{grows_same}
use Rattle.gd_replay.proofs.Kept.{leaves_has, halted_keeps}
use Rattle.gd_replay.proofs.Taken.{printed_line, halted_line, halted_cause, lost_rose, back_told}
use Rattle.gd_replay.proofs.Outcomes.{ok_two, ok_more, err_three, err_four, err_more, on_err_more}
use Rattle.gd_replay.proofs.running.take_line.Goals as goal

pub returns-in-Ok-clause-prints : goal.returns-in-Ok-clause-prints
returns-in-Ok-clause-prints g c =
    let may = g.C.Clock.may c.args.running.side.clock in
    let s = core_state c.args.running in
    let old = g.K.Sink.held c.args.sink.now in
    let new = g.K.Sink.held c.print_or_halt.new.sink in
    let faults = g.D.Disk.faults in
    let before = faults c.args.running.side.log.disk in
    ok_two c.print_or_halt.result _ _ _
    (λ next is printed. λ bytes kept.
    subst (λ (r : RunningValue _ _). LinePrints (is_some (g.D.Disk.content c.args.running.side.log.disk)) may s c.args.line bytes (core_state r) old new before (faults r.side.log.disk) (left_now c.args.running) (left_now r)) (sym is)
    (printed_line (is_some (g.D.Disk.content c.args.running.side.log.disk)) may s (core_state c.in-Ok.running) c.args.line bytes old new before (faults c.in-Ok.running.side.log.disk) (left_now c.args.running) (left_now c.in-Ok.running) c.in-Ok.reply (c.in-Ok.ensures.answers bytes kept) printed))
    c.print_or_halt.ensures.same c.print_or_halt.ensures.printed

pub returns-in-Ok-clause-below : goal.returns-in-Ok-clause-below
returns-in-Ok-clause-below g c = ok_more c.print_or_halt.result _ _ (λ next is. subst (λ (r : RunningValue _ _). AreBelow (c.args.line + 1) (core_state r)) (sym is) c.in-Ok.ensures.below) c.print_or_halt.ensures.same

pub returns-in-Ok-clause-along : goal.returns-in-Ok-clause-along
returns-in-Ok-clause-along g c = ok_more c.print_or_halt.result _ _ (λ next is. subst (λ (r : RunningValue _ _). GoesAlong g.D.Disk.content g.D.Disk.faults g.C.Clock.may c.args.running.side r.side) (sym is) c.in-Ok.ensures.along) c.print_or_halt.ensures.same

pub returns-in-Ok-clause-stops : goal.returns-in-Ok-clause-stops
returns-in-Ok-clause-stops g c =
    let may = g.C.Clock.may c.args.running.side.clock in
    let s = core_state c.args.running in
    let old = g.K.Sink.held c.args.sink.now in
    let new = g.K.Sink.held c.print_or_halt.new.sink in
    let faults = g.D.Disk.faults in
    let before = faults c.args.running.side.log.disk in
    let rose = Rose (g.K.Sink.faults c.args.sink.now) (g.K.Sink.faults c.print_or_halt.new.sink) in
    err_four c.print_or_halt.result _ _ _ _ _
    (λ halt why front disk holds. λ bytes kept.
    let leaves = λ (t : State). Tells (g.D.Disk.content c.args.running.side.log.disk) → Leaves (g.D.Disk.images halt.1) t in
    subst (λ d. LineStops (is_some (g.D.Disk.content c.args.running.side.log.disk)) may s c.args.line bytes leaves halt.0 old new before (faults d) (left_now c.args.running)) (sym disk)
    (halted_line (is_some (g.D.Disk.content c.args.running.side.log.disk)) may s (core_state c.in-Ok.running) c.args.line bytes leaves halt.0 rose old new before (faults c.in-Ok.running.side.log.disk) (left_now c.args.running) (left_now c.in-Ok.running) c.in-Ok.reply why
    (c.in-Ok.ensures.answers bytes kept) front (λ tells. holds (tells_on g.D.Disk.content g.D.Disk.faults g.C.Clock.may c.args.running.side c.in-Ok.running.side c.in-Ok.ensures.along tells))
    (back_told c.in-Ok.reply _ _ _ (λ tells. on_err_more c.in-Ok.reply _ _ (λ before left file is. before file (left file is)) (c.in-Ok.ensures.unmade tells))) c.in-Ok.ensures.along.later))
    c.print_or_halt.ensures.halt c.print_or_halt.ensures.front c.print_or_halt.ensures.disk c.print_or_halt.ensures.holds

pub returns-in-Ok-clause-caused : goal.returns-in-Ok-clause-caused
returns-in-Ok-clause-caused g c = err_more c.print_or_halt.result _ _
    (λ halt why. halted_cause halt.0 (Rose (g.K.Sink.faults c.args.sink.now) (g.K.Sink.faults c.print_or_halt.new.sink)) _ (Rose (g.D.Disk.faults c.args.running.side.log.disk) (g.D.Disk.faults halt.1)) why)
    c.print_or_halt.ensures.halt

pub returns-in-Ok-clause-disk : goal.returns-in-Ok-clause-disk
returns-in-Ok-clause-disk g c = err_more c.print_or_halt.result _ _
    (λ halt is. subst (λ d. g.D.Disk.faults c.args.running.side.log.disk ≤ g.D.Disk.faults d) (sym is) c.in-Ok.ensures.along.later)
    c.print_or_halt.ensures.disk

pub returns-in-Ok-clause-kept : goal.returns-in-Ok-clause-kept
returns-in-Ok-clause-kept g c =
    let side = c.args.running.side in
    let along = c.in-Ok.ensures.along in
    err_three c.print_or_halt.result _ _ _ _
    (λ halt why disk holds. λ tells.
    let now = tells_on g.D.Disk.content g.D.Disk.faults g.C.Clock.may side c.in-Ok.running.side along tells in
    halted_keeps halt.0 (Rose (g.K.Sink.faults c.args.sink.now) (g.K.Sink.faults c.print_or_halt.new.sink)) _ _ _ why
    (leaves_has (g.D.Disk.content halt.1) (g.D.Disk.images halt.1) (batches side.history) (core_state c.in-Ok.running) (subst (λ d. Tells (g.D.Disk.content d)) (sym disk) now) (along.grows tells) (holds now)))
    c.print_or_halt.ensures.halt c.print_or_halt.ensures.disk c.print_or_halt.ensures.holds

pub returns-in-Err-clause-kept : goal.returns-in-Err-clause-kept
returns-in-Err-clause-kept g c = λ tells.
    let lost = c.in-Err.ensures.lost in
    let side = c.args.running.side in (
      leaves_has (g.D.Disk.content c.in-Err.disk) (g.D.Disk.images c.in-Err.disk) (batches side.history) (core_state c.args.running) (subst (λ (b : Bool). IsTrue b) (sym lost.told) tells) (grows_same (batches side.history)) (lost.holds tells),
      lost.hindered tells,
    )

pub returns-in-Err-clause-stops : goal.returns-in-Err-clause-stops
returns-in-Err-clause-stops g c = λ bytes kept.
    let lost = c.in-Err.ensures.lost in
    record {
      left = lost.holds;
      kept = Keeps-refl (g.K.Sink.held c.args.sink.now);
      rose = lost_rose c.in-Err.fault (g.D.Disk.faults c.args.running.side.log.disk) (g.D.Disk.faults c.in-Err.disk) lost.cause lost.later;
    }
