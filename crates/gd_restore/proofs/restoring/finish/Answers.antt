use Rattle.std.proofs.Common.{◌≡◌, ℕ, List, rules, subst, sym}
use Rattle.gd_dump.proofs.Outcomes.{ok_so}
use Rattle.gd_prim.specs.declared.Batch.{Batch}
use Rattle.gd_restore.specs.Gathered.{Gathered, Upto}
use Rattle.gd_restore.specs.Restores.{Leaves, StopsAs}
use Rattle.gd_restore.proofs.Stopping.{err_more, ends_of, whole_ends, end_elsewhere, end_fault}
use Rattle.gd_restore.proofs.restoring.finish.Goals as goal

pub returns-in-Ok-check_first-clause-ends : goal.returns-in-Ok-check_first-clause-ends
returns-in-Ok-check_first-clause-ends g c list seen u =
    let d = g.D.Disk in
    let new = c.append_rest.new.self in
    let have : c.have.result ≡ c.args.gathering.now.have = search rules in
    ends_of d.content d.images (Leaves d.content d.images new.stored.log.disk) list seen new.stored.batches c.append_rest.result
    (ok_so c.append_rest.result (λ whole. whole_ends d.content d.images c.args.gathering.now new c.args.text.now c.have.result have c.in-Ok.ensures.finished c.in-Ok-check_first.ensures.same whole list seen u) c.append_rest.ensures.whole)
    (err_more c.append_rest.result (λ e stops. stops list u.batches seen u.gathers u.begins) c.append_rest.ensures.stops)

pub returns-in-Err-check_first-clause-ends : goal.returns-in-Err-check_first-clause-ends
returns-in-Err-check_first-clause-ends g c =
    let have : c.have.result ≡ c.args.gathering.now.have = search rules in
    end_elsewhere g.D.Disk.content g.D.Disk.images c.args.gathering.now c.args.text.now c.have.result c.in-Err-check_first.stop have c.in-Err-check_first.ensures.other

pub returns-in-Err-clause-ends : goal.returns-in-Err-clause-ends
returns-in-Err-clause-ends g c =
    let d = g.D.Disk in
    subst (λ (s : Gathered _). (list : List Batch) (seen : List ℕ) → Upto d.content d.images list seen c.args.gathering.now c.args.text.now → StopsAs c.stop_at.result (Leaves d.content d.images s.stored.log.disk) list seen s.stored.batches) (sym c.stop_at.ensures.same)
    (end_fault d.content d.images c.args.gathering.now c.args.text.now c.in-Err.fault c.stop_at.result c.in-Err.ensures.finished c.stop_at.ensures.stops)
