use Rattle.std.proofs.Common.{◌∙◌, sym, ap, subst, Err, arith}
use Rattle.gd_prim.specs.History.{prims_of}
use Rattle.gd_shape.specs.Outcome.{text_of}
use Rattle.gd_shape.specs.Shaping.{page_of}
use Rattle.gd_reply.specs.Answers.{Tells}
use Rattle.gd_thawed.proofs.Going.{goes_answer}
use Rattle.gd_thawed.proofs.Printed.{prints_answer}
use Rattle.gd_thawed.proofs.printing.Printing.print_on.Goals as goal

pub returns-in_ok-page_answer-in-Ok-Reply : goal.returns-in_ok-page_answer-in-Ok-Reply
returns-in_ok-page_answer-in-Ok-Reply g c = λ owed prints.
    let told = rw c.in-Ok-Reply.field-0-is at c.in-Ok-Reply.ensures.reply in
    goes_answer (subst (λ e. Tells e c.in_ok-page_answer-in-Ok-Reply.field-0)
    (prints_answer c.args.view.now owed c.args.subject.now c.args.self c.args.window.now prints c.requires.one)
    (c.in_ok-page_answer-in-Ok-Reply.ensures (page_of (prims_of c.args.view.now) c.args.self.shape) told))
    (omega arith) c.resume.ensures.later

pub returns-in_ok-page_answer-in-Err-NotUnique : goal.returns-in_ok-page_answer-in-Err-NotUnique
returns-in_ok-page_answer-in-Err-NotUnique g c = λ owed prints.
    let refused = rw c.in-Err-NotUnique.field-0-is at c.in-Err-NotUnique.ensures.refused in
    goes_answer (subst (λ e. Tells e c.in_ok-page_answer-in-Err-NotUnique.field-0)
    (prints_answer c.args.view.now owed c.args.subject.now c.args.self c.args.window.now prints c.requires.one)
    (c.in_ok-page_answer-in-Err-NotUnique.ensures (page_of (prims_of c.args.view.now) c.args.self.shape) (sym (ap text_of (refused ∙ ap Err (sym c.from-path.ensures))))))
    (omega arith) c.resume.ensures.later
