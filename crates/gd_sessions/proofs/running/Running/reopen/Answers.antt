use Rattle.std.proofs.Common.{ℕ, List, inl, inr, refl, sym, subst}
use Rattle.std.specs.Option.{is_some}
use Rattle.std.proofs.lemmas.Result.{IfOk-weaker}
use Rattle.gd_runs.specs.Core as core
use Rattle.gd_held.specs.PassedOn.{one_member}
use Rattle.gd_replay_laws.specs.Steps.{Takes, ReopenOver}
use Rattle.gd_sessions.specs.Running.{core_state}
use Rattle.gd_sessions.proofs.Left.{opens_same}
use Rattle.gd_sessions.proofs.Taken.{answers_more}
use Rattle.gd_sessions.specs.Running.{left_now}
use Rattle.gd_sessions.proofs.Paced.{left_stays}
use Rattle.gd_sessions.proofs.running.Running.reopen.Goals as goal

pub returns-in-Ok-clause-takes : goal.returns-in-Ok-clause-takes
returns-in-Ok-clause-takes g c =
    let told = is_some (g.D.Disk.content c.args.self.side.log.disk) in
    IfOk-weaker c.open_again.result _ _ (λ both given. λ may bytes.
    answers_more (λ line. ReopenOver told (core_state c.args.self) c.args.line line (core_state both.0)) (λ line. Takes told one_member may (core_state c.args.self) c.args.line bytes core.reopen line (core_state both.0)) both.1 (λ line step. inl step) given)
    c.open_again.ensures.step

pub returns-in-Ok-clause-anew : goal.returns-in-Ok-clause-anew
returns-in-Ok-clause-anew g c = IfOk-weaker c.open_again.result _ _ (λ both is. inl is) c.open_again.ensures.anew

pub returns-in-Err-clause-takes : goal.returns-in-Err-clause-takes
returns-in-Err-clause-takes g c = λ may bytes.
    subst (λ (line : List ℕ). Takes (is_some (g.D.Disk.content c.args.self.side.log.disk)) one_member may (core_state c.args.self) c.args.line bytes core.reopen line (core_state c.args.self)) (sym c.no_memory.ensures) (inr (refl, refl))

pub returns-in-Err-clause-disk : goal.returns-in-Err-clause-disk
returns-in-Err-clause-disk g c =
    let d = g.D.Disk in
    opens_same d.content d.moment d.images d.images_since d.faults g.met.D.Disk.only_now c.args.self.side.log.disk

pub returns-in-Err-clause-left : goal.returns-in-Err-clause-left
returns-in-Err-clause-left g c = left_stays (left_now c.args.self)
