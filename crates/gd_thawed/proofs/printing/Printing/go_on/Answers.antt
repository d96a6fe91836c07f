use Rattle.std.proofs.Common.{◌∙◌, sym, subst, arith}
use Rattle.gd_reply.specs.Answers.{Tells}
use Rattle.gd_thawed.proofs.Going.{goes_answer}
use Rattle.gd_thawed.proofs.Printed.{prints_too_many}
use Rattle.gd_thawed.proofs.printing.Printing.go_on.Goals as goal

pub returns-then-are_many : goal.returns-then-are_many
returns-then-are_many g c = λ owed prints.
    goes_answer (subst (λ e. Tells e c.too_many.result) (prints_too_many c.args.view.now owed c.args.subject.now c.args.self c.args.window.now prints (sym c.are_many.ensures ∙ c.if-are_many.true)) c.too_many.ensures) (omega arith) (omega arith)
