use Rattle.std.proofs.Common.{◌≡◌, ◌∙◌, List, ℕ, length, Ok, Err, ap, subst, arith}
use Rattle.std.specs.Option.{is_some}
use Rattle.gd_runs.specs.Replay.{event_from}
use Rattle.gd_events.specs.Events.{event_view}
use Rattle.gd_mql.specs.Line.{fault_view}
use Rattle.gd_replay_laws.specs.Steps.{Takes}
use Rattle.gd_replay_laws.specs.Runs.{LineOver}
use Rattle.gd_replay_laws.specs.Faults.{IsCounted}
use Rattle.gd_replay_laws.proofs.Bounds.{event_bounded}
use Rattle.gd_replay_laws.proofs.Faults.{quiet_counted}
use Rattle.gd_replay_laws.proofs.Below.{later}
use Rattle.gd_reply.specs.Replies.{reply_text}
use Rattle.gd_runs.specs.Pace.{DueOf}
use Rattle.gd_replay_laws.specs.Paced.{Paces, LinePaces}
use Rattle.gd_replay_laws.proofs.Paced.{event_line_paces}
use Rattle.gd_sessions.specs.Running.{core_state, left_now}
use Rattle.gd_sessions.specs.PassedOn.{one_member}
use Rattle.gd_replay.proofs.Answered.{answers_more, takes_line, refuses_line, long_line, fault_told_quiet, long_told_quiet, refuses_paced, long_paced, stays_within}
use Rattle.gd_replay.proofs.Carried.{along_same}
use Rattle.gd_replay.proofs.Outcomes.{ok_more}
use Rattle.gd_replay.proofs.answering.answer.Goals as goal

pub carry-requires-clause-bounded : goal.carry-requires-clause-bounded
carry-requires-clause-bounded g c = event_bounded c.deref.result.now (event_view c.in-Ok.event) c.in-Ok.ensures.asked

pub returns-in-Ok-clause-answers : goal.returns-in-Ok-clause-answers
returns-in-Ok-clause-answers g c = ok_more c.carry.result _ _
    (λ both takes. λ piece kept.
    let told = is_some (g.D.Disk.content c.args.running.side.log.disk) in
    let whole = rw c.in-Bytes.is at kept in
    let asked : event_from piece ≡ Ok (event_view c.in-Ok.event) = subst (λ (bytes : List ℕ). event_from bytes ≡ Ok (event_view c.in-Ok.event)) (c.deref.ensures.value ∙ whole.0) c.in-Ok.ensures.asked in
    let may = g.C.Clock.may c.args.running.side.clock in
    let s = core_state c.args.running in
    let before = g.D.Disk.faults c.args.running.side.log.disk in
    let after = g.D.Disk.faults both.0.side.log.disk in
    answers_more (λ line. Takes told one_member may s c.args.line c.len.result (event_view c.in-Ok.event) line (core_state both.0) × IsCounted c.args.line line before after × ((d : DueOf) → Paces one_member d s c.args.line (event_view c.in-Ok.event) line (core_state both.0) (left_now c.args.running) (left_now both.0)))
    (λ line. LineOver told one_member may s c.args.line piece line (core_state both.0) × IsCounted c.args.line line before after × ((d : DueOf) → LinePaces one_member d s c.args.line piece line (core_state both.0) (left_now c.args.running) (left_now both.0))) both.1
    (λ line (taken, counted, paced). (
      takes_line told may s c.args.line c.len.result piece (event_view c.in-Ok.event) line (core_state both.0)
          asked (omega (arith, c.len.ensures, c.in-Bytes.bytes.ok.0, ap length whole.0)) taken,
      counted,
      λ d. event_line_paces one_member d s c.args.line piece line (event_view c.in-Ok.event) (core_state both.0) (left_now c.args.running) (left_now both.0) asked (paced d),
    ))
    takes)
    c.carry.ensures.takes

pub returns-in-Bytes-clause-answers : goal.returns-in-Bytes-clause-answers
returns-in-Bytes-clause-answers g c = λ piece kept.
    let whole = rw c.in-Bytes.is at kept in
    let faults = g.D.Disk.faults c.args.running.side.log.disk in
    let reply = reply_text c.refuse-reply.result in (
      refuses_line (is_some (g.D.Disk.content c.args.running.side.log.disk)) (g.C.Clock.may c.args.running.side.clock) (core_state c.args.running) c.args.line piece c.in-Err.fault reply
          (λ some. subst (λ (bytes : List ℕ). event_from bytes ≡ Err (fault_view c.in-Err.fault)) (c.deref.ensures.value ∙ whole.0) (c.in-Err.ensures.asked some)) c.refuse-reply.ensures,
      quiet_counted c.args.line reply faults faults (fault_told_quiet c.args.line c.in-Err.fault reply c.refuse-reply.ensures),
      λ d. refuses_paced d (core_state c.args.running) c.args.line piece c.in-Err.fault reply (left_now c.args.running) (left_now c.args.running)
          (λ some. subst (λ (bytes : List ℕ). event_from bytes ≡ Err (fault_view c.in-Err.fault)) (c.deref.ensures.value ∙ whole.0) (c.in-Err.ensures.asked some)) (stays_within (left_now c.args.running)) c.refuse-reply.ensures,
    )

pub returns-clause-answers : goal.returns-clause-answers
returns-clause-answers g c = λ piece kept.
    let long = rw c.in-TooLong.is at kept in
    let faults = g.D.Disk.faults c.args.running.side.log.disk in
    let reply = reply_text c.refuse_long-reply.result in (
      long_line (is_some (g.D.Disk.content c.args.running.side.log.disk)) (g.C.Clock.may c.args.running.side.clock) (core_state c.args.running) c.args.line piece reply long c.refuse_long-reply.ensures,
      quiet_counted c.args.line reply faults faults (long_told_quiet c.args.line reply c.refuse_long-reply.ensures),
      λ d. long_paced d (core_state c.args.running) c.args.line piece reply (left_now c.args.running) (left_now c.args.running) long (stays_within (left_now c.args.running)) c.refuse_long-reply.ensures,
    )

pub returns-in-Bytes-clause-below : goal.returns-in-Bytes-clause-below
returns-in-Bytes-clause-below g c = later c.args.line (core_state c.args.running) c.requires.below

pub returns-clause-below : goal.returns-clause-below
returns-clause-below g c = later c.args.line (core_state c.args.running) c.requires.below

pub returns-in-Bytes-clause-along : goal.returns-in-Bytes-clause-along
returns-in-Bytes-clause-along g c = along_same g.D.Disk.content g.D.Disk.faults g.C.Clock.may c.args.running.side

pub returns-clause-along : goal.returns-clause-along
returns-clause-along g c = along_same g.D.Disk.content g.D.Disk.faults g.C.Clock.may c.args.running.side
