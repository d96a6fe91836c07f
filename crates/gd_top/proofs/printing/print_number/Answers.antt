use Rattle.std.proofs.Common.{◌≡◌, decimal, subst, ◌∙◌}
use Rattle.std.specs.Io.KnownBytes.{Appends}
use Rattle.std.proofs.KnownBytes.{Appends-trans}
use Rattle.gd_outside.specs.Gains.{GainsFront}
use Rattle.gd_outside.proofs.Fronts.{at_err, front_first, front_second}
use Rattle.gd_top.proofs.printing.print_number.Goals as goal

pub returns-in_err-write_all-clause-front : goal.returns-in_err-write_all-clause-front
returns-in_err-write_all-clause-front g c =
    let old = g.K.Sink.held c.args.sink.now in
    let new = g.K.Sink.held c.write_all.new.sink in
    at_err c.from_residual.result (front_first old new c.args.front.now (decimal c.args.n) (subst (GainsFront old new) c.as_bytes.ensures.value c.in_err-write_all.ensures.front))

pub returns-in_err-write_all-2-clause-front : goal.returns-in_err-write_all-2-clause-front
returns-in_err-write_all-2-clause-front g c =
    let old = g.K.Sink.held c.args.sink.now in
    let mid = g.K.Sink.held c.write_all.new.sink in
    let new = g.K.Sink.held c.write_all-2.new.sink in
    let text : c.as_bytes-2.result.now ≡ decimal c.args.n = c.as_bytes-2.ensures.value ∙ c.format.ensures.text in
    at_err c.from_residual-in_err-write_all-2.result (front_second old mid new c.args.front.now (decimal c.args.n)
    (subst (Appends old mid) c.as_bytes.ensures.value c.in_ok-write_all.ensures.all) (subst (GainsFront mid new) text c.in_err-write_all-2.ensures.front))

pub returns-clause-all : goal.returns-clause-all
returns-clause-all g c =
    let old = g.K.Sink.held c.args.sink.now in
    let mid = g.K.Sink.held c.write_all.new.sink in
    let new = g.K.Sink.held c.write_all-2.new.sink in
    let text : c.as_bytes-2.result.now ≡ decimal c.args.n = c.as_bytes-2.ensures.value ∙ c.format.ensures.text in
    Appends-trans old mid new c.args.front.now (decimal c.args.n)
    (subst (Appends old mid) c.as_bytes.ensures.value c.in_ok-write_all.ensures.all) (subst (Appends mid new) text c.in_ok-write_all-2.ensures.all)
