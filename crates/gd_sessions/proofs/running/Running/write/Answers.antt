use Rattle.std.proofs.Common.{◌<◌, length, arith}
use Rattle.gd_mql.specs.Requests.{write_view}
use Rattle.gd_reply.specs.Replies.{reply_text}
use Rattle.gd_sessions.proofs.Ran.{writes_step, writes_keeps, writes_counted}
use Rattle.std.proofs.Common.{subst}
use Rattle.std.specs.Prelude.{set}
use Rattle.gd_replay_laws.specs.Paced.{AreWithin}
use Rattle.gd_sessions.specs.Running.{RunningValue, left_now}
use Rattle.gd_sessions.proofs.Paced.{writes_within}
use Rattle.gd_sessions.proofs.running.Running.write.Goals as goal

pub invariant_of-self : goal.invariant_of-self
invariant_of-self g c =
    let hs = c.self.inside.held.items in
    let lt : c.args.sid < length hs = let many = c.self.invariant.many in let small = c.requires.sid in omega (arith, many, small) in
    writes_keeps c.self.inside.side hs c.args.sid c.index_mut-held.result.now c.write.new.held lt c.index_mut-held.ensures.value c.write.new.side (g.C.Clock.may c.self.inside.side.clock) g.D.Disk.faults c.args.line c.args.bytes
    (write_view c.args.request.now) (reply_text c.write.result) c.shown_of-shown.ensures.within c.self.invariant c.write.ensures.writes

pub returns-clause-step : goal.returns-clause-step
returns-clause-step g c =
    let hs = c.self.inside.held.items in
    let lt : c.args.sid < length hs = let many = c.self.invariant.many in let small = c.requires.sid in omega (arith, many, small) in
    rw (← c.self.view_is)
    (writes_step c.self.inside.side hs c.args.sid c.index_mut-held.result.now c.write.new.held lt c.index_mut-held.ensures.value c.write.new.side (g.C.Clock.may c.self.inside.side.clock) g.D.Disk.faults c.args.line c.args.bytes
    (write_view c.args.request.now) (reply_text c.write.result) c.write.ensures.writes)

pub returns-clause-counted : goal.returns-clause-counted
returns-clause-counted g c =
    rw (← c.self.view_is)
    (writes_counted (g.C.Clock.may c.self.inside.side.clock) g.D.Disk.faults c.self.inside.side c.write.new.side c.args.line c.args.bytes (write_view c.args.request.now) c.index_mut-held.result.now c.write.new.held (reply_text c.write.result) c.write.ensures.writes)

pub returns-clause-left : goal.returns-clause-left
returns-clause-left g c =
    let hs = c.self.inside.held.items in
    let lt : c.args.sid < length hs = let many = c.self.invariant.many in let small = c.requires.sid in omega (arith, many, small) in
    subst (λ (r : RunningValue _ _). AreWithin (left_now (record { side = c.write.new.side; held = set hs c.args.sid c.write.new.held })) (left_now r)) c.self.view_is
    (writes_within c.self.inside.side hs c.args.sid c.index_mut-held.result.now c.write.new.held lt c.index_mut-held.ensures.value c.write.new.side (g.C.Clock.may c.self.inside.side.clock) g.D.Disk.faults c.args.line c.args.bytes
    (write_view c.args.request.now) (reply_text c.write.result) c.shown_of-shown.ensures.within c.self.invariant c.write.ensures.writes)
