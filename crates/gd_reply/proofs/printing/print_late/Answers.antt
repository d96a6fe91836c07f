use Rattle.std.proofs.Common.{[], ◌∷◌, ◌++◌, decimal, codes, subst}
use Rattle.std.specs.Io.KnownBytes.{Appends}
use Rattle.std.proofs.KnownBytes.{Appends-trans}
use Rattle.gd_reply.specs.Replies.{late_front}
use Rattle.gd_outside.specs.Gains.{GainsFront}
use Rattle.gd_outside.proofs.Fronts.{at_err, front_first, front_second}
use Rattle.gd_reply.proofs.Printed.{late_text}
use Rattle.gd_reply.proofs.printing.print_late.Goals as goal

pub returns-in_err-print_late_front-clause-front : goal.returns-in_err-print_late_front-clause-front
returns-in_err-print_late_front-clause-front g c =
    let old = g.K.Sink.held c.args.sink.now in
    let new = g.K.Sink.held c.print_late_front.new.sink in
    at_err c.from_residual.result (subst (GainsFront old new) (late_text c.args.line c.args.entry)
    (front_first old new (late_front c.args.entry) (decimal c.args.line ++ codes "}" ++ 10 ∷ []) c.in_err-print_late_front.ensures.front))

pub returns-in_err-print_last_number-clause-front : goal.returns-in_err-print_last_number-clause-front
returns-in_err-print_last_number-clause-front g c =
    let old = g.K.Sink.held c.args.sink.now in
    let mid = g.K.Sink.held c.print_late_front.new.sink in
    let new = g.K.Sink.held c.print_last_number.new.sink in
    at_err c.from_residual-in_err-print_last_number.result (subst (GainsFront old new) (late_text c.args.line c.args.entry)
    (front_second old mid new (late_front c.args.entry) (decimal c.args.line ++ codes "}" ++ 10 ∷ []) c.in_ok-print_late_front.ensures.all c.in_err-print_last_number.ensures.front))

pub returns-clause-all : goal.returns-clause-all
returns-clause-all g c =
    let old = g.K.Sink.held c.args.sink.now in
    let mid = g.K.Sink.held c.print_late_front.new.sink in
    let new = g.K.Sink.held c.print_last_number.new.sink in
    subst (Appends old new) (late_text c.args.line c.args.entry)
    (Appends-trans old mid new (late_front c.args.entry) (decimal c.args.line ++ codes "}" ++ 10 ∷ []) c.in_ok-print_late_front.ensures.all c.in_ok-print_last_number.ensures.all)
