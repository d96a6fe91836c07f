use Rattle.std.proofs.Common.{List, ◌+◌, ◌-◌, ◌∙◌, ap}
use Rattle.std.proofs.lemmas.Result.{err_from_is_err_and}
use Rattle.gd_prim.specs.declared.Batch.{Batch}
use Rattle.gd_grammar.specs.Reading.{items_at}
use Rattle.gd_codec.specs.Groups.{batch_at}
use Rattle.gd_grammar.specs.Choice.{with_front}
use Rattle.gd_grammar.proofs.Exact.{items_more}
use Rattle.gd_codec.proofs.Stops.{items_stop, stopped_same}
use Rattle.gd_codec.proofs.group.batches.Goals as goal

pub returns-in_err-batch : goal.returns-in_err-batch
returns-in_err-batch c =
    let l = c.loop-place in
    let p = err_from_is_err_and c.from_residual.result c.from_residual.ensures.1 in
    let stopped = items_stop c.in_err-batch.field-0.0 batch_at c.args.count l._place l.batches.items l.rest.now c.loop-place-test.true c.in_err-batch.ensures in
    rw (p.1, p.2) (stopped_same c.in_err-batch.field-0.0 _ _ l.invariant stopped)

pub loop-place-preserved : goal.loop-place-preserved
loop-place-preserved c =
    let l = c.loop-place in
    ap (λ (items : List Batch). with_front items (items_at batch_at (c.args.count - (l._place + 1)) c.in_ok-batch.behind.now)) c.in_ok-push.ensures.items
    ∙ items_more batch_at c.args.count l._place l.batches.items l.rest.now c.in_ok-batch.batch c.in_ok-batch.behind.now c.loop-place-test.true c.in_ok-batch.ensures ∙ l.invariant
