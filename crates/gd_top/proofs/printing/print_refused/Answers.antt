use Rattle.std.proofs.Common.{[], ◌∷◌, ◌++◌, codes, decimal}
use Rattle.std.proofs.KnownBytes.{Appends-trans}
use Rattle.gd_outside.proofs.Fronts.{at_err, front_first, front_second}
use Rattle.gd_top.proofs.printing.print_refused.Goals as goal

pub returns-in_err-print_number-clause-front : goal.returns-in_err-print_number-clause-front
returns-in_err-print_number-clause-front g c =
    at_err c.from_residual.result (front_first (g.K.Sink.held c.args.sink.now) (g.K.Sink.held c.print_number.new.sink) (codes ",\"refused\":" ++ decimal c.args.refused) (codes "}}" ++ 10 ∷ []) c.in_err-print_number.ensures.front)

pub returns-in_err-write_line-clause-front : goal.returns-in_err-write_line-clause-front
returns-in_err-write_line-clause-front g c =
    at_err c.from_residual-in_err-write_line.result (front_second (g.K.Sink.held c.args.sink.now) (g.K.Sink.held c.print_number.new.sink) (g.K.Sink.held c.write_line.new.sink) (codes ",\"refused\":" ++ decimal c.args.refused) (codes "}}" ++ 10 ∷ [])
    c.in_ok-print_number.ensures.all c.in_err-write_line.ensures.front)

pub returns-clause-all : goal.returns-clause-all
returns-clause-all g c =
    Appends-trans (g.K.Sink.held c.args.sink.now) (g.K.Sink.held c.print_number.new.sink) (g.K.Sink.held c.write_line.new.sink) (codes ",\"refused\":" ++ decimal c.args.refused) (codes "}}" ++ 10 ∷ [])
    c.in_ok-print_number.ensures.all c.in_ok-write_line.ensures.all
