use Rattle.std.proofs.Common.{◌≡◌, inl, inr, refl}
use Rattle.gd_mql.specs.Requests.{read_set_view}
use Rattle.gd_runs.specs.Core as core
use Rattle.gd_runs.specs.Core.{BeginStep, SliceStep, LearnStep, entered}
use Rattle.gd_held.specs.PassedOn.{one_member}
use Rattle.gd_replay_laws.specs.Steps.{Takes}
use Rattle.gd_reply.specs.Replies.{reply_text}
use Rattle.gd_sessions.specs.Running.{core_state}
use Rattle.gd_sessions.proofs.Taken.{made_takes}
use Rattle.gd_replay_laws.specs.Paced.{AreWithin}
use Rattle.gd_replay_laws.proofs.Paced.{memory_paces}
use Rattle.gd_sessions.specs.Running.{left_now, KeepsPace}
use Rattle.gd_sessions.proofs.running.Running.begin.Goals as goal

pub returns-clause-takes : goal.returns-clause-takes
returns-clause-takes g c = λ told may bytes.
    made_takes (λ line. BeginStep (core_state c.args.self.now) c.args.line c.args.sid (read_set_view c.args.request) line (core_state c.try_begin-reply.new.self)) (λ line. Takes told one_member may (core_state c.args.self.now) c.args.line bytes (core.begin c.args.sid (read_set_view c.args.request)) line (core_state c.try_begin-reply.new.self))
    (core_state c.try_begin-reply.new.self ≡ core_state c.args.self.now) c.args.line c.try_begin-reply.result (reply_text c.made.result) (λ line step. inl step) (λ same. inr (refl, inl same)) c.made.ensures c.try_begin-reply.ensures.step c.try_begin-reply.ensures.err

pub returns-clause-paced : goal.returns-clause-paced
returns-clause-paced g c =
    let old = c.args.self.now in
    let new = c.try_begin-reply.new.self in
    let event = core.begin c.args.sid (read_set_view c.args.request) in
    made_takes (λ line. KeepsPace c.args.line event line old new) (λ line. KeepsPace c.args.line event line old new) (AreWithin (left_now new) (left_now old)) c.args.line c.try_begin-reply.result (reply_text c.made.result) (λ line paced. paced)
    (λ less d. memory_paces one_member d (core_state old) c.args.line event _ (core_state new) (left_now old) (left_now new) refl less) c.made.ensures c.try_begin-reply.ensures.paced c.try_begin-reply.ensures.left
