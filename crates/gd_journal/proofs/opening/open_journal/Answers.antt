use Rattle.std.proofs.Common.{◌∙◌}
use Rattle.std.proofs.lemmas.Result.{err_from_is_err_and}
use Rattle.gd_disk.specs.Runs.{untouched_then}
use Rattle.gd_journal.proofs.Runs.{open_none, open_begun}
use Rattle.gd_journal.proofs.Kept.{opened_then}
use Rattle.gd_journal.proofs.opening.open_journal.Goals as goal

pub returns-in_err-opening-clause-moments : goal.returns-in_err-opening-clause-moments
returns-in_err-opening-clause-moments g c =
    let d = g.D.Disk in
    let e = c.in_err-opening in
    let p = err_from_is_err_and c.from_residual.result c.from_residual.ensures.1 in
    rw (p.1, p.2) (λ f is. open_none c.args.disk e.field-0.0.1 (g.met.D.Disk.only_now c.args.disk) e.ensures.untouched)

pub returns-in_err-journal-clause-moments : goal.returns-in_err-journal-clause-moments
returns-in_err-journal-clause-moments g c =
    let d = g.D.Disk in
    let e = c.in_err-journal in
    let u = c.in_ok-opening.ensures.untouched in
    let p = err_from_is_err_and c.from_residual-in_err-journal.result c.from_residual-in_err-journal.ensures.1 in
    rw (p.1, p.2) (λ f is. open_begun c.args.disk c.in_ok-opening.opening.disk e.field-0.0.1 f (g.met.D.Disk.only_now c.args.disk) (g.met.D.Disk.reads_one c.args.disk f is) u (e.ensures.moments f (u.same ∙ is)))

pub returns-clause-moments : goal.returns-clause-moments
returns-clause-moments g c = λ f is.
    let d = g.D.Disk in
    let u = c.in_ok-opening.ensures.untouched in
    open_begun c.args.disk c.in_ok-opening.opening.disk c.in_ok-journal.journal.disk f (g.met.D.Disk.only_now c.args.disk) (g.met.D.Disk.reads_one c.args.disk f is) u (c.in_ok-journal.ensures.moments f (u.same ∙ is))

pub returns-clause-opened : goal.returns-clause-opened
returns-clause-opened g c = λ f is.
    let d = g.D.Disk in
    let u = c.in_ok-opening.ensures.untouched in
    let j = c.in_ok-journal.journal in
    opened_then j.damaged f _ _ _ (untouched_then u) (c.in_ok-journal.ensures.opened f (u.same ∙ is))

pub returns-clause-created : goal.returns-clause-created
returns-clause-created g c = λ f is short. c.in_ok-journal.ensures.created f (c.in_ok-opening.ensures.untouched.same ∙ is) short
