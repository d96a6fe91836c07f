use Rattle.std.proofs.Common.{◌∙◌, sym, arith}
use Rattle.std.proofs.lemmas.Result.{err_from_is_err_and}
use Rattle.gd_tplang.proofs.Faults.{cause_of, text_of}
use Rattle.gd_tplang.proofs.template.template_from.Goals as goal

pub returns-in_err-marks-clause-read : goal.returns-in_err-marks-clause-read
returns-in_err-marks-clause-read c =
    let p = err_from_is_err_and c.from_residual.result c.from_residual.ensures.1 in
    let cause = cause_of c.args.bytes.now c.in_err-marks.field-0.0 c.in_err-marks.ensures in
    rw (p.1, p.2) cause

pub returns-then-marks-clause-read : goal.returns-then-marks-clause-read
returns-then-marks-clause-read c = let (t, read, bad, deep) = c.in_ok-marks.ensures in (t, text_of c.args.bytes.now t read, sym bad ∙ c.if-marks.true)

pub returns-then-marks-2-clause-read : goal.returns-then-marks-2-clause-read
returns-then-marks-2-clause-read c = let (t, read, bad, deep) = c.in_ok-marks.ensures in (t, text_of c.args.bytes.now t read, sym bad ∙ c.if-marks.false, omega (arith, deep, c.if-marks-2.true))

pub returns-in-Ok-clause-read : goal.returns-in-Ok-clause-read
returns-in-Ok-clause-read c =
    let (t, read, bad, deep) = c.in_ok-marks.ensures in
    (t, text_of c.args.bytes.now t read, sym bad ∙ c.if-marks.false, omega (arith, deep, c.if-marks-2.false), c.in-Ok.ensures t read)
