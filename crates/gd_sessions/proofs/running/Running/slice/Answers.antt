use Rattle.std.proofs.Common.{◌≡◌, ◌⊎◌, None, inl, inr, refl}
use Rattle.gd_held.specs.PassedOn.{one_member}
use Rattle.gd_runs.specs.Core as core
use Rattle.gd_runs.specs.Core.{BeginStep, SliceStep, LearnStep, entered}
use Rattle.gd_replay_laws.specs.Steps.{Takes}
use Rattle.gd_reply.specs.Replies.{reply_text}
use Rattle.gd_sessions.specs.Running.{core_state}
use Rattle.gd_sessions.proofs.Taken.{made_takes}
use Rattle.gd_replay_laws.proofs.Paced.{memory_paces}
use Rattle.gd_sessions.specs.Running.{left_now, KeepsPace}
use Rattle.gd_sessions.proofs.Taken.{made_paced}
use Rattle.gd_sessions.proofs.running.Running.slice.Goals as goal

pub returns-clause-takes : goal.returns-clause-takes
returns-clause-takes g c = λ told may bytes.
    made_takes (λ line. SliceStep one_member (core_state c.args.self.now) c.args.line c.args.sid line (core_state c.try_slice-reply.new.self)) (λ line. Takes told one_member may (core_state c.args.self.now) c.args.line bytes (core.slice c.args.sid c.args.budget) line (core_state c.try_slice-reply.new.self))
    ((core_state c.try_slice-reply.new.self ≡ core_state c.args.self.now) ⊎ (core_state c.try_slice-reply.new.self ≡ entered (core_state c.args.self.now) c.args.sid None)) c.args.line c.try_slice-reply.result (reply_text c.made.result) (λ line step. inl step) (λ same. inr (refl, same)) c.made.ensures c.try_slice-reply.ensures.step c.try_slice-reply.ensures.err

pub returns-clause-paced : goal.returns-clause-paced
returns-clause-paced g c =
    let old = c.args.self.now in
    let new = c.try_slice-reply.new.self in
    let event = core.slice c.args.sid c.args.budget in
    made_paced (c.args.steps.now ≡ 0) (λ line. KeepsPace c.args.line event line old new) c.args.line c.try_slice-reply.result (reply_text c.made.result)
    (λ d. memory_paces one_member d (core_state old) c.args.line event _ (core_state new) (left_now old) (left_now new) refl c.try_slice-reply.ensures.left) c.made.ensures c.try_slice-reply.ensures.paced
