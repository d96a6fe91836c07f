use Rattle.std.proofs.Common.{◌∙◌, ap}
use Rattle.gd_tree.specs.Json.{compact}
use Rattle.gd_defs.specs.Reply.{answer_item}
use Rattle.gd_read.specs.Subject.{answer_of}
use Rattle.gd_read.specs.declared.subject.Subject.{Subject}
use Rattle.gd_read.proofs.Together.{among_is, goes_at}
use Rattle.gd_read.proofs.several.text_of.Goals as goal

pub returns-in_ok-text-in-Answer-clause-text : goal.returns-in_ok-text-in-Answer-clause-text
returns-in_ok-text-in-Answer-clause-text g c =
    let s : Subject = c.args.reading.now.subject in
    let tells = rw c.in-Answer.is at c.in_ok-answer.ensures.answer in
    c.in_ok-text-in-Answer.ensures (answer_of c.args.view.now s) tells.is
    ∙ ap (λ a. compact (answer_item a)) (among_is c.args.view.now s (goes_at c.args.view.now c.args.reading.now c.requires.goes.0) c.requires.goes.1)
