use Rattle.std.proofs.Common.{List, ◌+◌, ◌-◌, ◌∙◌, ap}
use Rattle.std.proofs.lemmas.Result.{err_from_is_err_and}
use Rattle.gd_prim.specs.declared.Primitive.{Primitive}
use Rattle.gd_grammar.specs.Reading.{items_at}
use Rattle.gd_codec.specs.Groups.{primitive_at}
use Rattle.gd_grammar.specs.Choice.{with_front}
use Rattle.gd_grammar.proofs.Exact.{items_more}
use Rattle.gd_codec.proofs.Stops.{items_stop, stopped_same}
use Rattle.gd_codec.proofs.group.primitives.Goals as goal

pub returns-in_err-prim : goal.returns-in_err-prim
returns-in_err-prim c =
    let l = c.loop-place in
    let p = err_from_is_err_and c.from_residual.result c.from_residual.ensures.1 in
    let stopped = items_stop c.in_err-prim.field-0.0 (primitive_at c.args.moment) c.args.count l._place l.prims.items l.rest.now c.loop-place-test.true c.in_err-prim.ensures in
    rw (p.1, p.2) (stopped_same c.in_err-prim.field-0.0 _ _ l.invariant stopped)

pub loop-place-preserved : goal.loop-place-preserved
loop-place-preserved c =
    let l = c.loop-place in
    ap (λ (items : List Primitive). with_front items (items_at (primitive_at c.args.moment) (c.args.count - (l._place + 1)) c.in_ok-prim.behind.now)) c.in_ok-push.ensures.items
    ∙ items_more (primitive_at c.args.moment) c.args.count l._place l.prims.items l.rest.now c.in_ok-prim.prim c.in_ok-prim.behind.now c.loop-place-test.true c.in_ok-prim.ensures ∙ l.invariant
