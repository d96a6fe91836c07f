use Rattle.std.proofs.Common.{◌≡◌, inl, inr, refl}
use Rattle.gd_mql.specs.Requests.{read_set_view}
use Rattle.gd_runs.specs.Core as core
use Rattle.gd_runs.specs.Core.{ThawStep}
use Rattle.gd_held.specs.PassedOn.{one_member}
use Rattle.gd_replay_laws.specs.Steps.{Takes}
use Rattle.gd_reply.specs.Replies.{reply_text}
use Rattle.gd_sessions.specs.Running.{core_state}
use Rattle.gd_sessions.proofs.Taken.{made_takes}
use Rattle.gd_sessions.proofs.running.Running.thaw.Goals as goal

pub returns-clause-takes : goal.returns-clause-takes
returns-clause-takes g c = λ told may bytes.
    let old = core_state c.args.self.now in
    let new = core_state c.try_thaw-reply.new.self in
    let asked = read_set_view c.args.request in
    made_takes (λ line. ThawStep one_member old c.args.line c.args.sid asked c.args.text.now line new) (λ line. Takes told one_member may old c.args.line bytes (core.thaw c.args.sid asked c.args.text.now) line new)
    (new ≡ old) c.args.line c.try_thaw-reply.result (reply_text c.made.result) (λ line step. inl step) (λ same. inr (refl, inl same)) c.made.ensures c.try_thaw-reply.ensures.step c.try_thaw-reply.ensures.err
