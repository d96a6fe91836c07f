use Rattle.std.proofs.Common.{◌∙◌, ap, sym}
use Rattle.gd_defs.specs.Reply.{answer_line}
use Rattle.gd_read.specs.Subject.{answer_of}
use Rattle.gd_read.specs.declared.subject.Subject.{Subject}
use Rattle.gd_read.proofs.Begun.{owed_is}
use Rattle.gd_read.proofs.Together.{goes_at}
use Rattle.gd_read.proofs.reading.slice_one.Goals as goal

pub returns-in_ok-bytes-in-Answer-clause-reply : goal.returns-in_ok-bytes-in-Answer-clause-reply
returns-in_ok-bytes-in-Answer-clause-reply g c =
    let s : Subject = c.args.reading.now.subject in
    let tells = rw c.in-Answer.is at c.in_ok-answer.ensures.answer in
    c.in_ok-bytes-in-Answer.ensures (answer_of c.args.view.now s) tells.is
    ∙ ap (λ d. answer_line d c.args.line (answer_of c.args.view.now s)) (c.dateline.ensures ∙ ap (λ (x : Subject). x.dateline) c.slice.ensures.same)
    ∙ sym (owed_is c.args.view.now s c.args.line (goes_at c.args.view.now c.args.reading.now c.requires.going))
