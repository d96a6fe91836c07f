use Rattle.std.proofs.Common.{[], ◌∷◌, ◌++◌, decimal, subst}
use Rattle.std.specs.Io.KnownBytes.{Appends}
use Rattle.gd_reply.specs.Replies.{failure_line}
use Rattle.gd_outside.specs.Gains.{GainsFront}
use Rattle.gd_outside.proofs.Fronts.{at_err, front_first, front_second}
use Rattle.gd_reply.proofs.Printed.{pieces_line}
use Rattle.gd_reply.proofs.printing.print_failure.Goals as goal

pub returns-in_err-write_all-clause-front : goal.returns-in_err-write_all-clause-front
returns-in_err-write_all-clause-front g c =
    let old = g.K.Sink.held c.args.sink.now in
    let new = g.K.Sink.held c.write_all.new.sink in
    let begun = c.front.result.now in
    at_err c.from_residual.result (subst (GainsFront old new) (pieces_line begun (decimal c.args.line) (failure_line c.args.failure c.args.line) (c.front.ensures c.args.line))
    (front_first old new begun (decimal c.args.line ++ 125 ∷ [] ++ 10 ∷ []) (subst (GainsFront old new) c.as_bytes.ensures.value c.in_err-write_all.ensures.front)))

pub returns-in_err-print_last_number-clause-front : goal.returns-in_err-print_last_number-clause-front
returns-in_err-print_last_number-clause-front g c =
    let old = g.K.Sink.held c.args.sink.now in
    let mid = g.K.Sink.held c.write_all.new.sink in
    let new = g.K.Sink.held c.print_last_number.new.sink in
    let begun = c.front.result.now in
    at_err c.from_residual-in_err-print_last_number.result (subst (GainsFront old new) (pieces_line begun (decimal c.args.line) (failure_line c.args.failure c.args.line) (c.front.ensures c.args.line))
    (front_second old mid new begun (decimal c.args.line ++ 125 ∷ [] ++ 10 ∷ []) (subst (Appends old mid) c.as_bytes.ensures.value c.in_ok-write_all.ensures.all) c.in_err-print_last_number.ensures.front))
