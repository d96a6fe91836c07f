use Rattle.std.proofs.Common.{◌∙◌, sym}
use Rattle.gd_outside.proofs.Fronts.{at_err}
use Rattle.gd_answering.proofs.Pieces.{line_front}
use Rattle.gd_answering.proofs.running.take_piece.Goals as goal

pub returns-in_err-take_line-clause-front : goal.returns-in_err-take_line-clause-front
returns-in_err-take_line-clause-front g c = at_err c.from_residual.result (λ bytes kept.
    line_front g.A.Answers.answers c.args.answers.now c.args.line bytes c.take_line.new.answers (g.K.Sink.held c.args.sink.now) (g.K.Sink.held c.take_line.new.sink)
    (sym (c.is_blank.ensures g.A.Answers.most bytes kept) ∙ c.if-is_blank.false) (c.in_err-take_line.ensures.front bytes kept))
