use Rattle.std.proofs.Common.{◌∙◌, sym, ap, length, arith}
use Rattle.std.proofs.lemmas.Result.{err_from_is_err_and}
use Rattle.gd_tplang.specs.Survey.{finish, marks}
use Rattle.gd_tplang.proofs.Surveys.{begun, not_begun, byte_gone}
use Rattle.gd_tplang.proofs.survey.survey.Goals as goal

pub returns-in_err-rest : goal.returns-in_err-rest
returns-in_err-rest c =
    let p = err_from_is_err_and c.from_residual.result c.from_residual.ensures.1 in
    let stopped = not_begun c.in_err-rest.field-0.0 c.args.bytes.now c.in_err-rest.ensures in
    rw (p.1, p.2) stopped

pub loop-alloc-init : goal.loop-alloc-init
loop-alloc-init c =
    let bytes = c.args.bytes.now in
    let rest = c.in_ok-rest.rest.now in
    let gone = ap length (byte_gone 40 bytes rest c.in_ok-rest.ensures) in
    let counts = ap (λ w. length w.counts) c.new-walk.ensures in
    record {
      left = begun bytes rest c.in_ok-rest.ensures ∙ ap (λ w. finish (length bytes) w.counts (marks w) rest) (sym c.new-walk.ensures);
      enough = omega (arith, gone, counts);
    }
