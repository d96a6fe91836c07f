use Rattle.std.proofs.Common.{[], ◌∷◌}
use Rattle.gd_outside.proofs.Fronts.{at_err, front_first, front_second}
use Rattle.gd_outside.proofs.printing.write_line.Goals as goal

pub returns-in_err-write_all-clause-front : goal.returns-in_err-write_all-clause-front
returns-in_err-write_all-clause-front g c =
    at_err c.from_residual.result (front_first (g.K.Sink.held c.args.sink.now) (g.K.Sink.held c.write_all.new.sink) c.args.line.now (10 ∷ []) c.in_err-write_all.ensures.front)

pub returns-in_err-write_all-2-clause-front : goal.returns-in_err-write_all-2-clause-front
returns-in_err-write_all-2-clause-front g c =
    at_err c.from_residual-in_err-write_all-2.result (front_second (g.K.Sink.held c.args.sink.now) (g.K.Sink.held c.write_all.new.sink) (g.K.Sink.held c.write_all-2.new.sink) c.args.line.now (10 ∷ [])
    c.in_ok-write_all.ensures.all c.in_err-write_all-2.ensures.front)
