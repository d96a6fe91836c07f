use Rattle.std.proofs.Common.{◌≡◌, [], ◌∷◌, decimal, subst, sym, append_assoc, ◌∙◌}
use Rattle.std.specs.Io.KnownBytes.{Appends}
use Rattle.gd_outside.specs.Gains.{GainsFront}
use Rattle.gd_outside.proofs.Fronts.{at_err, front_first, front_second}
use Rattle.gd_reply.proofs.printing.print_last_number.Goals as goal

pub returns-in_err-write_all-clause-front : goal.returns-in_err-write_all-clause-front
returns-in_err-write_all-clause-front g c =
    let old = g.K.Sink.held c.args.sink.now in
    let new = g.K.Sink.held c.write_all.new.sink in
    let text : c.as_bytes.result.now ≡ decimal c.args.n = c.as_bytes.ensures.value ∙ c.format.ensures.text in
    at_err c.from_residual.result (subst (GainsFront old new) (sym (append_assoc (decimal c.args.n) (125 ∷ []) (10 ∷ []))) (front_first old new (decimal c.args.n) (125 ∷ 10 ∷ []) (subst (GainsFront old new) text c.in_err-write_all.ensures.front)))

pub returns-in_err-write_line-clause-front : goal.returns-in_err-write_line-clause-front
returns-in_err-write_line-clause-front g c =
    let old = g.K.Sink.held c.args.sink.now in
    let mid = g.K.Sink.held c.write_all.new.sink in
    let new = g.K.Sink.held c.write_line.new.sink in
    let text : c.as_bytes.result.now ≡ decimal c.args.n = c.as_bytes.ensures.value ∙ c.format.ensures.text in
    at_err c.from_residual-in_err-write_line.result (subst (GainsFront old new) (sym (append_assoc (decimal c.args.n) (125 ∷ []) (10 ∷ []))) (front_second old mid new (decimal c.args.n) (125 ∷ 10 ∷ [])
    (subst (Appends old mid) text c.in_ok-write_all.ensures.all) c.in_err-write_line.ensures.front))
