use Rattle.std.proofs.lemmas.Result.{err_from_is_err_and}
use Rattle.gd_prim.specs.History.{prims_of}
use Rattle.gd_json.specs.View.{view}
use Rattle.gd_carry.specs.PassedOn.{write_view}
use Rattle.gd_change.specs.Fault.{fault_of}
use Rattle.gd_change.proofs.Evaluated.{done_after, full_after, refused_after, well_formed_after, small_refusal}
use Rattle.gd_change.proofs.write.evaluate.Goals as goal

pub returns-clause-exec : goal.returns-clause-exec
returns-clause-exec c =
    done_after c.args.store.now (write_view c.args.request.now) c.args.moment c.in_ok-done.done.0 (view c.in_ok-done.done.1) c.in_ok-done.ensures.made c.in_ok-fits.ensures.full

pub returns-clause-well_formed : goal.returns-clause-well_formed
returns-clause-well_formed c =
    well_formed_after c.args.store.now (write_view c.args.request.now) c.args.moment c.in_ok-done.done.0 (view c.in_ok-done.done.1) c.made.ensures.history c.requires.moment
    (done_after c.args.store.now (write_view c.args.request.now) c.args.moment c.in_ok-done.done.0 (view c.in_ok-done.done.1) c.in_ok-done.ensures.made c.in_ok-fits.ensures.full)

pub returns-in_err-done-clause-exec : goal.returns-in_err-done-clause-exec
returns-in_err-done-clause-exec c =
    let p = err_from_is_err_and c.from_residual.result c.from_residual.ensures.1 in
    rw (p.1, p.2) (λ known. refused_after c.args.store.now (write_view c.args.request.now) c.args.moment (fault_of c.in_err-done.field-0.0) (c.in_err-done.ensures.made known))

pub returns-in_err-done-clause-small : goal.returns-in_err-done-clause-small
returns-in_err-done-clause-small c =
    let p = err_from_is_err_and c.from_residual.result c.from_residual.ensures.1 in
    rw (p.1, p.2) (small_refusal (prims_of c.args.store.now) (write_view c.args.request.now) c.args.moment c.in_err-done.field-0.0 c.in_err-done.ensures.made)

pub returns-in_err-fits-clause-exec : goal.returns-in_err-fits-clause-exec
returns-in_err-fits-clause-exec c =
    let p = err_from_is_err_and c.from_residual-in_err-fits.result c.from_residual-in_err-fits.ensures.1 in
    let passed = c.in_err-fits.field-0.0 in
    rw (p.1, p.2) (λ known. full_after c.args.store.now (write_view c.args.request.now) c.args.moment c.in_ok-done.done.0 (view c.in_ok-done.done.1) passed.what passed.count c.in_ok-done.ensures.made c.in_err-fits.ensures.full)
