use Rattle.std.proofs.Common.{◌≡◌, decimal, codes, subst, ◌∙◌}
use Rattle.std.specs.Io.KnownBytes.{Appends}
use Rattle.gd_outside.specs.Gains.{GainsFront}
use Rattle.gd_outside.proofs.Fronts.{at_err, front_first, front_second}
use Rattle.gd_reply.proofs.printing.print_entry.Goals as goal

pub returns-in_err-write_all-clause-front : goal.returns-in_err-write_all-clause-front
returns-in_err-write_all-clause-front g c =
    let old = g.K.Sink.held c.args.sink.now in
    let new = g.K.Sink.held c.write_all.new.sink in
    let text : c.as_bytes.result.now ≡ decimal c.args.entry = c.as_bytes.ensures.value ∙ c.format.ensures.text in
    at_err c.from_residual.result (front_first old new (decimal c.args.entry) (codes "},\"line\":") (subst (GainsFront old new) text c.in_err-write_all.ensures.front))

pub returns-in_err-write_all-2-clause-front : goal.returns-in_err-write_all-2-clause-front
returns-in_err-write_all-2-clause-front g c =
    let old = g.K.Sink.held c.args.sink.now in
    let mid = g.K.Sink.held c.write_all.new.sink in
    let new = g.K.Sink.held c.write_all-2.new.sink in
    let text : c.as_bytes.result.now ≡ decimal c.args.entry = c.as_bytes.ensures.value ∙ c.format.ensures.text in
    at_err c.from_residual-in_err-write_all-2.result (front_second old mid new (decimal c.args.entry) (codes "},\"line\":")
    (subst (Appends old mid) text c.in_ok-write_all.ensures.all) c.in_err-write_all-2.ensures.front)
