use Rattle.std.specs.Option.{is_some}
use Rattle.gd_runs.specs.Core as core
use Rattle.gd_events.specs.Events.{event_view}
use Rattle.gd_reply.specs.Replies.{reply_text}
use Rattle.gd_sessions.specs.Running.{core_state, left_now}
use Rattle.gd_replay.proofs.Carried.{anew_below, taken_below, taken_grows, due_grows, unmade_before, along_opened, along_stepped, lost_opened}
use Rattle.gd_replay.proofs.Kept.{hindered}
use Rattle.gd_replay.proofs.Outcomes.{ok_more, ok_two, ok_each, err_each}
use Rattle.gd_replay.proofs.Answered.{may_take, reopened_counted, reopened_paced}
use Rattle.gd_replay.proofs.answering.carry.Goals as goal

pub returns-then-opens_again-clause-takes : goal.returns-then-opens_again-clause-takes
returns-then-opens_again-clause-takes g c =
    let told = is_some (g.D.Disk.content c.args.running.side.log.disk) in
    let may = g.C.Clock.may c.args.running.side.clock in
    let s = core_state c.args.running in
    let before = g.D.Disk.faults c.args.running.side.log.disk in
    rw (c.opens_again.ensures.again c.if-opens_again.true)
    (ok_two c.reopen.result _ _ _
    (λ both takes left. reopened_paced told may s c.args.line c.args.bytes (core_state both.0) before (g.D.Disk.faults both.0.side.log.disk) (left_now c.args.running) (left_now both.0) both.1 left
    (reopened_counted told may s c.args.line c.args.bytes (core_state both.0) before (g.D.Disk.faults both.0.side.log.disk) both.1 (takes may c.args.bytes)))
    c.reopen.ensures.takes c.reopen.ensures.left)

pub returns-then-opens_again-clause-unmade : goal.returns-then-opens_again-clause-unmade
returns-then-opens_again-clause-unmade g c =
    let may = g.C.Clock.may c.args.running.side.clock in
    ok_more c.reopen.result _ _ (λ both takes. λ tells. unmade_before (is_some (g.D.Disk.content c.args.running.side.log.disk)) tells may (core_state c.args.running) c.args.line 0 (core_state both.0) both.1 (takes may 0)) c.reopen.ensures.takes

pub returns-clause-takes : goal.returns-clause-takes
returns-clause-takes g c = (c.step-reply.ensures.takes (is_some (g.D.Disk.content c.args.running.side.log.disk)), c.step-reply.ensures.counted, λ d. c.step-reply.ensures.paced c.new-steps.ensures d)

pub returns-clause-below : goal.returns-clause-below
returns-clause-below g c =
    taken_below (g.C.Clock.may c.args.running.side.clock) (core_state c.args.running) c.args.line c.args.bytes (event_view c.args.event) (core_state c.step-reply.new.self) (reply_text c.step-reply.result) c.requires.below c.step-reply.ensures.takes

pub returns-then-opens_again-clause-below : goal.returns-then-opens_again-clause-below
returns-then-opens_again-clause-below g c = ok_more c.reopen.result _ _ (λ both anew. anew_below c.args.line (core_state c.args.running) (core_state both.0) both.0.side.history.loaded c.requires.below anew) c.reopen.ensures.anew

pub returns-then-opens_again-clause-along : goal.returns-then-opens_again-clause-along
returns-then-opens_again-clause-along g c =
    let may = g.C.Clock.may c.args.running.side.clock in
    ok_each c.reopen.result _ _ _ _ _
    (λ both takes clock opens. along_opened g.D.Disk.content g.D.Disk.faults g.C.Clock.may g.D.Disk.moment g.D.Disk.images g.D.Disk.images_since c.args.running.side both.0.side clock opens
    (λ tells. due_grows (is_some (g.D.Disk.content c.args.running.side.log.disk)) tells may (core_state c.args.running) c.args.line 0 core.reopen (core_state both.0) both.1 (takes may 0)))
    c.reopen.ensures.takes c.reopen.ensures.clock c.reopen.ensures.disk

pub returns-then-opens_again-clause-lost : goal.returns-then-opens_again-clause-lost
returns-then-opens_again-clause-lost g c = err_each c.reopen.result _ _ _ _ _ _
    (λ lost cause refused holds opens. lost_opened g.D.Disk.content g.D.Disk.faults g.C.Clock.may g.D.Disk.moment g.D.Disk.images g.D.Disk.images_since c.args.running.side.log.disk lost.1 (core_state c.args.running) lost.0 cause holds opens
    (hindered g.D.Disk.content g.D.Disk.moment g.D.Disk.images g.D.Disk.images_since g.D.Disk.faults g.met.D.Disk.reads_one c.args.running.side.log.disk lost.1 (core_state c.args.running) lost.0 refused holds opens))
    c.reopen.ensures.cause c.reopen.ensures.refused c.reopen.ensures.holds c.reopen.ensures.disk

pub returns-clause-along : goal.returns-clause-along
returns-clause-along g c = along_stepped g.D.Disk.content g.D.Disk.faults g.C.Clock.may g.D.Disk.moment g.D.Disk.images g.D.Disk.images_since c.args.running.side c.step-reply.new.self.side c.step-reply.ensures.goes
    (taken_grows (g.C.Clock.may c.args.running.side.clock) (core_state c.args.running) c.args.line c.args.bytes (event_view c.args.event) (core_state c.step-reply.new.self) (reply_text c.step-reply.result)
    c.step-reply.ensures.takes)

pub step-reply-requires-clause-may : goal.step-reply-requires-clause-may
step-reply-requires-clause-may g c = may_take (core_state c.args.running) c.args.line (event_view c.args.event) c.requires.below c.requires.bounded
