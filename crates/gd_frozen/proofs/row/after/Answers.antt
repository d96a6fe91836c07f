use Rattle.std.proofs.Common.{◌≡◌, sym, Some, Ok}
use Rattle.std.proofs.lemmas.Result.{err_from_is_err_and}
use Rattle.gd_bytes.specs.FrozenRead.{after_at}
use Rattle.gd_frozen.specs.RowSteps.{given_row_at}
use Rattle.gd_frozen.proofs.Steps.{stopped_then, stopped_same}
use Rattle.gd_frozen.proofs.Others.{after_given}
use Rattle.gd_frozen.proofs.row.after.Goals as goal

pub returns-in_err-row-in-None : goal.returns-in_err-row-in-None
returns-in_err-row-in-None c =
    let bytes = c.args.bytes.now in
    let p = err_from_is_err_and c.from_residual.result c.from_residual.ensures.1 in
    let stopped = stopped_then c.in_err-row-in-None.field-0.0 (given_row_at bytes) (λ r. Ok (Some r.0, r.1)) c.in_err-row-in-None.ensures in
    rw (p.1, p.2) (stopped_same c.in_err-row-in-None.field-0.0 _ _ (sym (after_given bytes c.in-None.ensures)) stopped)
