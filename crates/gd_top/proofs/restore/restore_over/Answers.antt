use Rattle.std.proofs.Common.{◌≡◌, ◌∙◌, IsTrue, Bool, sym, subst}
use Rattle.std.specs.Option.{is_some}
use Rattle.gd_log.specs.Opening.{IsKept}
use Rattle.gd_restore.specs.Restores.{Leaves}
use Rattle.gd_top.specs.Held.{Loads}
use Rattle.gd_top.specs.Kept.{StaysTold}
use Rattle.gd_top.specs.Restores.{LeavesBatches}
use Rattle.gd_top.proofs.Kept.{stays_refused}
use Rattle.gd_top.proofs.Restored.{restores_weaker, restores_come, unopened_stays, restore_causes, restore_tells, restore_done, restore_keeps}
use Rattle.gd_top.proofs.restore.restore_over.Goals as goal

pub returns-clause-comes : goal.returns-clause-comes
returns-clause-comes g c =
    let run = c.restore-end in
    let d = g.D.Disk in
    let disk = c.args.disk in
    let told = d.content disk in
    let source = c.args.source.now in
    let same = run.new.source ≡ source in
    let stays = StaysTold told (d.content run.result.1) (d.images disk) (d.images run.result.1) in
    let tells : IsTrue (is_some told) → IsTrue (is_some (d.content run.result.1)) = λ t. subst (λ (b : Bool). IsTrue b) (sym run.ensures.told) t in
    rw c.status_of.ensures
    (restores_weaker (Loads told) (Loads told) (Leaves d.content d.images run.result.1) (LeavesBatches told (d.images run.result.1)) (λ loaded begun. begun) (λ after groups leaves t. leaves (tells t)) _ (same × stays) (same × stays) (g.S.Source.left source) (λ idle. idle)
    (restores_come (Loads told) (Leaves d.content d.images run.result.1) (same × stays) (g.S.Source.left source) (same × stays) (λ idle. idle) run.result.0
    (unopened_stays same stays told (λ file. IsKept d.content d.moment d.images d.images_since file disk run.result.1) (stays_refused d.content d.moment d.images d.images_since disk run.result.1) run.result.0 run.ensures.unopened run.ensures.refused)
    run.ensures.ends))

pub returns-clause-at_end : goal.returns-clause-at_end
returns-clause-at_end g c = λ is. restore_done _ c.restore-end.result.0 c.restore-end.ensures.at_end (sym c.status_of.ensures ∙ is)

pub returns-clause-causes : goal.returns-clause-causes
returns-clause-causes g c =
    let run = c.restore-end in
    let d = g.D.Disk in
    rw c.status_of.ensures
    (restore_causes _ _ _ (d.content c.args.disk) (λ file. IsKept d.content d.moment d.images d.images_since file c.args.disk run.result.1) (Leaves d.content d.images run.result.1) run.ensures.made.0 run.result.0 run.ensures.caused run.ensures.made.1 run.ensures.refused)

pub returns-clause-tells : goal.returns-clause-tells
returns-clause-tells g c = rw c.status_of.ensures (restore_tells c.restore-end.result.0)

pub returns-clause-kept : goal.returns-clause-kept
returns-clause-kept g c =
    let run = c.restore-end in
    let d = g.D.Disk in
    restore_keeps d.content d.moment d.images d.images_since c.args.disk run.result.1 run.ensures.told g.met.D.Disk.reads_one run.result.0 run.ensures.made.0 run.ensures.made.1 run.ensures.refused
