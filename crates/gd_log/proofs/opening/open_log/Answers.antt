use Rattle.std.proofs.Common.{List, sym, ◌∙◌, subst}
use Rattle.std.proofs.lemmas.Result.{err_from_is_err_and}
use Rattle.gd_disk.specs.Runs.{untouched_then}
use Rattle.gd_prim.specs.declared.Batch.{Batch}
use Rattle.gd_bytes.specs.File.{Version, meaning, StandsFor}
use Rattle.gd_log.specs.State.{IsHeld}
use Rattle.gd_log.specs.Opening.{Loads}
use Rattle.gd_log.proofs.Opens.{journal_refuses, reason_refuses, loads_stands, untouched_means, kept_untouched, finished_means, kept_finished}
use Rattle.gd_log.proofs.opening.open_log.Goals as goal

pub returns-in_err-opening-clause-means : goal.returns-in_err-opening-clause-means
returns-in_err-opening-clause-means g c =
    let d = g.D.Disk in
    let e = c.in_err-opening in
    let p = err_from_is_err_and c.from_residual.result c.from_residual.ensures.1 in
    rw (p.1, p.2) (λ f is. journal_refuses e.field-0.0.0 (d.faults c.args.disk) (d.faults e.field-0.0.1) f e.ensures.cause (λ none. e.ensures.not_store none f is))

pub returns-in_err-opening-clause-moments : goal.returns-in_err-opening-clause-moments
returns-in_err-opening-clause-moments g c =
    let d = g.D.Disk in
    let e = c.in_err-opening in
    let p = err_from_is_err_and c.from_residual.result c.from_residual.ensures.1 in
    rw (p.1, p.2) (λ f is. untouched_means c.args.disk e.field-0.0.1 (g.met.D.Disk.only_now c.args.disk) e.ensures.untouched)

pub returns-in_err-opening-clause-kept : goal.returns-in_err-opening-clause-kept
returns-in_err-opening-clause-kept g c =
    let d = g.D.Disk in
    let e = c.in_err-opening in
    let p = err_from_is_err_and c.from_residual.result c.from_residual.ensures.1 in
    rw (p.1, p.2) (λ f is. kept_untouched c.args.disk e.field-0.0.1 f is e.ensures.untouched)

pub returns-in-Err-clause-means : goal.returns-in-Err-clause-means
returns-in-Err-clause-means g c = λ f is. c.in-Err.ensures.refused f (c.in_ok-opening.ensures.untouched.same ∙ is)

pub returns-in-Err-clause-moments : goal.returns-in-Err-clause-moments
returns-in-Err-clause-moments g c = rw c.into_disk.ensures (λ f is.
    let d = g.D.Disk in
    untouched_means c.args.disk c.load.new.opening.disk (g.met.D.Disk.only_now c.args.disk)
    (untouched_then c.in_ok-opening.ensures.untouched c.in-Err.ensures.untouched))

pub returns-in-Err-clause-kept : goal.returns-in-Err-clause-kept
returns-in-Err-clause-kept g c = rw c.into_disk.ensures (λ f is.
    let d = g.D.Disk in
    kept_untouched c.args.disk c.load.new.opening.disk f is
    (untouched_then c.in_ok-opening.ensures.untouched c.in-Err.ensures.untouched))

pub returns-in-Err-clause-untouched : goal.returns-in-Err-clause-untouched
returns-in-Err-clause-untouched g c = rw c.into_disk.ensures (λ _.
    let d = g.D.Disk in
    untouched_then c.in_ok-opening.ensures.untouched c.in-Err.ensures.untouched)

pub returns-in_err-opened-in-Ok-clause-means : goal.returns-in_err-opened-in-Ok-clause-means
returns-in_err-opened-in-Ok-clause-means g c =
    let d = g.D.Disk in
    let e = c.in_err-opened-in-Ok in
    let r = c.from_residual-in_err-opened-in-Ok in
    let p = err_from_is_err_and r.result r.ensures.1 in
    rw (p.1, p.2) (λ f is. reason_refuses e.field-0.0.0 (d.faults c.load.new.opening.disk) (d.faults e.field-0.0.1) (meaning f) e.ensures.cause)

pub returns-in_err-opened-in-Ok-clause-moments : goal.returns-in_err-opened-in-Ok-clause-moments
returns-in_err-opened-in-Ok-clause-moments g c =
    let d = g.D.Disk in
    let e = c.in_err-opened-in-Ok in
    let r = c.from_residual-in_err-opened-in-Ok in
    let p = err_from_is_err_and r.result r.ensures.1 in
    let mid = c.load.new.opening.disk in
    let u = untouched_then c.in_ok-opening.ensures.untouched c.load.ensures.untouched in
    rw (p.1, p.2) (λ f is. finished_means c.args.disk mid e.field-0.0.1 f (g.met.D.Disk.only_now c.args.disk) (g.met.D.Disk.reads_one c.args.disk f is) u (e.ensures.moments f (u.same ∙ is)))

pub returns-in_err-opened-in-Ok-clause-kept : goal.returns-in_err-opened-in-Ok-clause-kept
returns-in_err-opened-in-Ok-clause-kept g c =
    let d = g.D.Disk in
    let e = c.in_err-opened-in-Ok in
    let r = c.from_residual-in_err-opened-in-Ok in
    let p = err_from_is_err_and r.result r.ensures.1 in
    let mid = c.load.new.opening.disk in
    let u = untouched_then c.in_ok-opening.ensures.untouched c.load.ensures.untouched in
    rw (p.1, p.2) (λ f is.
    let stands = loads_stands c.in_ok-opening.opening.version f c.in-Ok.store (c.in-Ok.ensures.all f (c.in_ok-opening.ensures.untouched.same ∙ is)) in
    kept_finished c.args.disk mid e.field-0.0.1 f c.in-Ok.store (g.met.D.Disk.reads_one e.field-0.0.1) (g.met.D.Disk.reads_one c.args.disk f is) is u stands (e.ensures.moments f (u.same ∙ is)) e.ensures.told)

pub returns-in_ok-opened-in-Ok-clause-means : goal.returns-in_ok-opened-in-Ok-clause-means
returns-in_ok-opened-in-Ok-clause-means g c = λ f is.
    let stands = loads_stands c.in_ok-opening.opening.version f c.in-Ok.store (c.in-Ok.ensures.all f (c.in_ok-opening.ensures.untouched.same ∙ is)) in
    subst (λ (bs : List Batch). StandsFor f bs) (sym c.in_ok-opened-in-Ok.ensures.store) stands

pub returns-in_ok-opened-in-Ok-clause-moments : goal.returns-in_ok-opened-in-Ok-clause-moments
returns-in_ok-opened-in-Ok-clause-moments g c = λ f is.
    let d = g.D.Disk in
    let e = c.in_ok-opened-in-Ok in
    let mid = c.load.new.opening.disk in
    let u = untouched_then c.in_ok-opening.ensures.untouched c.load.ensures.untouched in
    finished_means c.args.disk mid e.opened.0.disk f (g.met.D.Disk.only_now c.args.disk) (g.met.D.Disk.reads_one c.args.disk f is) u (e.ensures.moments f (u.same ∙ is))

pub returns-in_ok-opened-in-Ok-clause-kept : goal.returns-in_ok-opened-in-Ok-clause-kept
returns-in_ok-opened-in-Ok-clause-kept g c = λ f is.
    let d = g.D.Disk in
    let e = c.in_ok-opened-in-Ok in
    let mid = c.load.new.opening.disk in
    let u = untouched_then c.in_ok-opening.ensures.untouched c.load.ensures.untouched in
    let stands = loads_stands c.in_ok-opening.opening.version f c.in-Ok.store (c.in-Ok.ensures.all f (c.in_ok-opening.ensures.untouched.same ∙ is)) in
    kept_finished c.args.disk mid e.opened.0.disk f c.in-Ok.store (g.met.D.Disk.reads_one e.opened.0.disk) (g.met.D.Disk.reads_one c.args.disk f is) is u stands (e.ensures.moments f (u.same ∙ is)) e.ensures.told

pub returns-in_ok-opened-in-Ok-clause-held : goal.returns-in_ok-opened-in-Ok-clause-held
returns-in_ok-opened-in-Ok-clause-held g c = λ f is.
    let d = g.D.Disk in
    let e = c.in_ok-opened-in-Ok in
    let u = untouched_then c.in_ok-opening.ensures.untouched c.load.ensures.untouched in
    subst (IsHeld (d.content e.opened.0.disk) (d.images e.opened.0.disk) e.opened.0.gate) (sym e.ensures.store)
    (e.ensures.held f (u.same ∙ is) (subst (λ (v : Version). Loads v f c.in-Ok.store) (sym c.load.ensures.version) (c.in-Ok.ensures.all f (c.in_ok-opening.ensures.untouched.same ∙ is))))
