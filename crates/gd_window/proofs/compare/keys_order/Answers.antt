use Rattle.std.proofs.Common.{◌∙◌, ◌+◌, drop, false, sym}
use Rattle.std.specs.Option.{option_copied}
use Rattle.gd_window.specs.Rows.{keys_cmp}
use Rattle.gd_window.proofs.KeysStep.{keys_more, keys_done, decided, tied}
use Rattle.gd_window.proofs.compare.keys_order.Goals as goal

pub returns-in_default : goal.returns-in_default
returns-in_default c =
    let l = c.loop-place in
    let rest = keys_cmp (drop (l.place + 1) c.args.order.now) (drop (l.place + 1) c.args.a.now) (drop (l.place + 1) c.args.b.now) in
    let more = keys_more l.place c.args.order.now c.args.a.now c.args.b.now false c.key_order.result (option_copied c.value_at.result) (option_copied c.value_at-in-loop-place.result) c.loop-place-test.true c.value_at.ensures c.value_at-in-loop-place.ensures c.key_order.ensures l.invariant in
    sym (decided c.key_order.result rest c.in_default.not-Equal) ∙ sym more

pub loop-place-preserved : goal.loop-place-preserved
loop-place-preserved c =
    let l = c.loop-place in
    let rest = keys_cmp (drop (l.place + 1) c.args.order.now) (drop (l.place + 1) c.args.a.now) (drop (l.place + 1) c.args.b.now) in
    let more = keys_more l.place c.args.order.now c.args.a.now c.args.b.now false c.key_order.result (option_copied c.value_at.result) (option_copied c.value_at-in-loop-place.result) c.loop-place-test.true c.value_at.ensures c.value_at-in-loop-place.ensures c.key_order.ensures l.invariant in
    sym (tied c.key_order.result rest c.in-Equal.is) ∙ sym more

pub returns : goal.returns
returns c = keys_done c.loop-place.place c.args.order.now c.args.a.now c.args.b.now c.loop-place-test.false c.loop-place.invariant
