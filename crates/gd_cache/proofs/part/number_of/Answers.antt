use Rattle.std.proofs.Common.{◌∙◌, arith, ap}
use Rattle.std.specs.Result.{result_ok}
use Rattle.std.proofs.lemmas.Fmt.{parse-decimal}
use Rattle.gd_cache.proofs.Commas.{decimal_utf8}
use Rattle.gd_cache.proofs.part.number_of.Goals as goal

pub returns-in-Ok : goal.returns-in-Ok
returns-in-Ok c = λ n low is. c.ok.ensures.value ∙ ap result_ok (parse-decimal 32 n c.in-Ok.text.now c.parse.result low (omega (arith, low)) (c.in-Ok.ensures.cases.0 ∙ is) c.parse.ensures.value.0)

pub returns-in-Err : goal.returns-in-Err
returns-in-Err c = λ n low is. absurd (c.in-Err.ensures.cases.0 (decimal_utf8 n c.args.digits.now low is))
