use Rattle.std.proofs.Common.{◌∙◌, ◌||◌, ap}
use Rattle.std.proofs.lemmas.Result.{err_from_is_err_and}
use Rattle.gd_tplang.specs.Seen.{test_of}
use Rattle.gd_tplang.proofs.Walked.{test_stops, test_enters}
use Rattle.gd_tplang.proofs.survey.Walk.test.Goals as goal

pub returns-in_err-test : goal.returns-in_err-test
returns-in_err-test c = λ k.
    let p = err_from_is_err_and c.from_residual.result c.from_residual.ensures.1 in
    let stopped = test_stops c.in_err-test.field-0.0 k c.args.self.now c.args.bytes.now c.requires.inside c.requires.other c.in_err-test.ensures in
    rw (p.1, p.2) stopped

pub returns : goal.returns
returns c = λ k.
    let w = c.args.self.now in
    test_enters k w c.mark.new.self c.args.bytes.now (test_of c.in_ok-test.test) c.in_ok-test.rest.now c.requires.inside c.requires.other c.in_ok-test.ensures (c.mark.ensures ∙ ap (λ b. record { counts = w.counts; bad = w.bad || b; deepest = w.deepest }) c.is_bad.ensures)
