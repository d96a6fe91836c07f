use Rattle.std.proofs.Common.{◌≡◌, ◌-◌, ◌++◌, length, take, drop, ap, sym, ◌∙◌, subst, arith}
use Rattle.std.proofs.KnownBytes.{Appends-trans, Appends-kept}
use Rattle.std.proofs.Math.Seq.{take-add}
use Rattle.std.proofs.lemmas.Grind.{common_steps}
use Rattle.std.specs.Io.KnownBytes.{Appends}
use Rattle.gd_outside.proofs.Fronts.{at_err, front_of, front_stuck}
use Rattle.gd_outside.proofs.printing.write_all.Goals as goal

pub loop-written-preserved : goal.loop-written-preserved
loop-written-preserved g c =
    let bytes = c.args.bytes.now in
    let w = c.loop-written.written in
    let n = c.in_ok-count.count in
    let rest : take (length bytes - w) (drop w bytes) ≡ drop w bytes = grind (arith, common_steps) in
    let both = Appends-trans (g.K.Sink.held c.args.sink.now) (g.K.Sink.held c.loop-written.sink) (g.K.Sink.held c.write.new.self) (take w bytes) _ c.loop-written.invariant.given c.in_ok-count.ensures.bytes in
    record {
      within = omega (arith, c.in_ok-count.ensures.bound, ap length rest);
      given = subst (Appends (g.K.Sink.held c.args.sink.now) (g.K.Sink.held c.write.new.self)) (ap (λ piece. take w bytes ++ take n piece) rest ∙ sym (take-add w n bytes)) both;
      later = omega (arith, c.in_ok-count.ensures.cause.later);
    }

pub returns-in_err-count-clause-front : goal.returns-in_err-count-clause-front
returns-in_err-count-clause-front g c =
    let w = c.loop-written.written in
    at_err c.from_residual.result (front_of (g.K.Sink.held c.args.sink.now) (g.K.Sink.held c.write.new.self) c.args.bytes.now w
    (Appends-kept (g.K.Sink.held c.args.sink.now) (g.K.Sink.held c.loop-written.sink) (g.K.Sink.held c.write.new.self) (take w c.args.bytes.now) c.loop-written.invariant.given c.in_err-count.ensures.bytes))

pub returns-then-count-eq0-clause-front : goal.returns-then-count-eq0-clause-front
returns-then-count-eq0-clause-front g c =
    front_stuck (g.K.Sink.held c.args.sink.now) (g.K.Sink.held c.loop-written.sink) (g.K.Sink.held c.write.new.self) c.args.bytes.now _ c.loop-written.written c.in_ok-count.count
    c.if-count-eq0.true c.loop-written.invariant.given c.in_ok-count.ensures.bytes
