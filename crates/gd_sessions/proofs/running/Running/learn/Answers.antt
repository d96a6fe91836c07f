use Rattle.std.proofs.Common.{◌≡◌, inl, inr, refl}
use Rattle.gd_runs.specs.Core as core
use Rattle.gd_runs.specs.Core.{BeginStep, SliceStep, LearnStep, entered}
use Rattle.gd_held.specs.PassedOn.{one_member}
use Rattle.gd_replay_laws.specs.Steps.{Takes}
use Rattle.gd_reply.specs.Replies.{reply_text}
use Rattle.gd_sessions.specs.Running.{core_state}
use Rattle.gd_sessions.proofs.Taken.{made_takes}
use Rattle.gd_sessions.proofs.running.Running.learn.Goals as goal

pub returns-clause-takes : goal.returns-clause-takes
returns-clause-takes g c = λ told may bytes.
    made_takes (λ line. LearnStep (core_state c.args.self.now) c.args.line c.args.sid c.args.dateline line (core_state c.try_learn-reply.new.self)) (λ line. Takes told one_member may (core_state c.args.self.now) c.args.line bytes (core.learn c.args.sid c.args.dateline) line (core_state c.try_learn-reply.new.self))
    (core_state c.try_learn-reply.new.self ≡ core_state c.args.self.now) c.args.line c.try_learn-reply.result (reply_text c.made.result) (λ line step. inl step) (λ same. inr (refl, same)) c.made.ensures c.try_learn-reply.ensures.step c.try_learn-reply.ensures.err
