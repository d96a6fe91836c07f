use Rattle.std.proofs.lemmas.Result.{err_from_is_err_and}
use Rattle.std.specs.Prelude.{codes}
use Rattle.gd_grammar.specs.Choice.{list_at}
use Rattle.gd_tplang.specs.Written as written
use Rattle.gd_tplang.proofs.Lists.{behind_stops}
use Rattle.gd_tplang.proofs.test.value_in.Goals as goal

pub returns-in_err-values : goal.returns-in_err-values
returns-in_err-values c =
    let p = err_from_is_err_and c.from_residual-in_err-values.result c.from_residual-in_err-values.ensures.1 in
    let stopped = behind_stops c.in_err-values.field-0.0 (codes "|=") (λ x. written.value_in x) (list_at 63 124 written.value_at) c.args.bytes.now c.in_ok-rest.rest.now c.in_ok-rest.ensures c.in_err-values.ensures in
    rw (p.1, p.2) stopped
