use Rattle.std.proofs.Common.{◌<◌, ◌++◌, length, take, drop, flat_map, sym, subst, arith}
use Rattle.std.specs.List.{AllByRecursion}
use Rattle.std.specs.Io.KnownBytes.{Appends}
use Rattle.std.proofs.KnownBytes.{Appends-trans}
use Rattle.gd_dump_laws.specs.Dump.{batch_text}
use Rattle.gd_outside.specs.Gains.{GainsFront}
use Rattle.gd_outside.proofs.Fronts.{at_err, front_first, front_second}
use Rattle.gd_batches.proofs.Histories.{there_is, drop_one, each_joined}
use Rattle.gd_dump.proofs.Lines.{Lines, lines_one, lines_rest}
use Rattle.gd_dump.proofs.dump.send_batches.Goals as goal

pub returns-in_err-send_batch-clause-front : goal.returns-in_err-send_batch-clause-front
returns-in_err-send_batch-clause-front g c =
    let l = c.loop-n in
    let h = c.args.store.now in
    let some : l.n < length h = omega (arith, c.loop-n-test.true, c.requests-n-end.ensures.count) in
    let (b, is) = there_is h l.n some in
    let (rest, whole) = lines_rest h c.args.from l.n b l.invariant.above is in
    let front = front_first _ _ (batch_text b) rest (c.in_err-send_batch.ensures.front b is) in
    at_err c.from_residual.result (subst (λ w. GainsFront (g.K.Sink.held c.args.sink.now) (g.K.Sink.held c.send_batch.new.sink) w) (sym whole)
    (front_second (g.K.Sink.held c.args.sink.now) (g.K.Sink.held l.sink) (g.K.Sink.held c.send_batch.new.sink) (flat_map batch_text (drop c.args.from (take l.n h))) (batch_text b ++ rest) l.invariant.sent front))

pub loop-n-preserved : goal.loop-n-preserved
loop-n-preserved g c =
    let l = c.loop-n in
    let h = c.args.store.now in
    let some : l.n < length h = omega (arith, c.loop-n-test.true, c.requests-n-end.ensures.count) in
    let (b, is) = there_is h l.n some in
    record {
      above = omega (arith, l.invariant.above);
      sent = subst (Appends (g.K.Sink.held c.args.sink.now) (g.K.Sink.held c.send_batch.new.sink)) (sym (lines_one h c.args.from l.n b l.invariant.above is))
          (Appends-trans (g.K.Sink.held c.args.sink.now) (g.K.Sink.held l.sink) (g.K.Sink.held c.send_batch.new.sink) (flat_map batch_text (drop c.args.from (take l.n h))) (batch_text b) l.invariant.sent (c.in_ok-send_batch.ensures.all b is));
      fits = subst (λ bs. AllByRecursion Lines bs) (sym (drop_one h c.args.from l.n b l.invariant.above is)) (each_joined Lines (drop c.args.from (take l.n h)) b l.invariant.fits (c.in_ok-send_batch.ensures.fits b is));
      later = omega (arith, l.invariant.later, c.send_batch.ensures.later);
    }
