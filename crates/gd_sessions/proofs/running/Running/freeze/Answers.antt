use Rattle.std.proofs.Common.{◌<◌, IfOk, length, inl, inr, refl, subst, arith}
use Rattle.gd_runs.specs.Core as core
use Rattle.gd_runs.specs.Core.{FreezeStep}
use Rattle.gd_held.specs.PassedOn.{one_member}
use Rattle.gd_replay_laws.specs.Steps.{Takes}
use Rattle.gd_reply.specs.Replies.{reply_text}
use Rattle.gd_sessions.specs.Running.{RunningValue, core_state}
use Rattle.gd_sessions.proofs.Ran.{freezes_ok}
use Rattle.gd_sessions.proofs.Taken.{made_refuses}
use Rattle.gd_sessions.proofs.running.Running.freeze.Goals as goal

pub returns : goal.returns
returns g c =
    let hs = c.self.inside.held.items in
    let held = c.index.result.now in
    let lt : c.args.sid < length hs = let many = c.self.invariant.many in let small = c.requires.sid in omega (arith, many, small) in
    let step = subst (λ (r : RunningValue _ _). IfOk c.freeze-reply.result (λ reply. FreezeStep one_member (core_state r) c.args.line c.args.sid reply.items (core_state r))) c.self.view_is
    (freezes_ok c.self.inside.side hs c.args.sid held held lt c.index.ensures c.store.result.now c.args.line c.freeze-reply.result c.store.ensures c.freeze-reply.ensures) in
    λ told may bytes.
    made_refuses (λ line. FreezeStep one_member (core_state c.args.self.now) c.args.line c.args.sid line (core_state c.args.self.now)) (λ line. Takes told one_member may (core_state c.args.self.now) c.args.line bytes (core.freeze c.args.sid) line (core_state c.args.self.now)) c.args.line c.freeze-reply.result (reply_text c.made.result)
    (λ line is. inl is) (inr (refl, refl)) c.made.ensures step
