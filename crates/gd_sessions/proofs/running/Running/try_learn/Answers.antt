use Rattle.std.proofs.Common.{◌<◌, length, arith}
use Rattle.gd_sessions.proofs.Ran.{learns_ok}
use Rattle.std.proofs.Common.{subst}
use Rattle.std.specs.Prelude.{set}
use Rattle.gd_replay_laws.specs.Paced.{AreWithin}
use Rattle.gd_sessions.specs.Running.{RunningValue, left_now}
use Rattle.gd_sessions.proofs.Paced.{same_within}
use Rattle.gd_sessions.proofs.running.Running.try_learn.Goals as goal

pub returns-clause-step : goal.returns-clause-step
returns-clause-step g c =
    let hs = c.self.inside.held.items in
    let lt : c.args.sid < length hs = let many = c.self.invariant.many in let small = c.requires.sid in omega (arith, many, small) in
    rw (← c.self.view_is)
    (learns_ok c.self.inside.side hs c.args.sid c.index_mut-held.result.now c.learn.new.self lt c.index_mut-held.ensures.value c.shown_of-shown.result c.args.line c.args.dateline c.learn.result
    c.shown_of-shown.ensures.count c.learn.ensures.learns)

pub returns-clause-left : goal.returns-clause-left
returns-clause-left g c =
    let hs = c.self.inside.held.items in
    let lt : c.args.sid < length hs = let many = c.self.invariant.many in let small = c.requires.sid in omega (arith, many, small) in
    subst (λ (r : RunningValue _ _). AreWithin (left_now (record { side = c.self.inside.side; held = set hs c.args.sid c.learn.new.self })) (left_now r)) c.self.view_is
    (same_within c.self.inside.side hs c.args.sid c.index_mut-held.result.now c.learn.new.self lt c.index_mut-held.ensures.value c.learn.ensures.state)
