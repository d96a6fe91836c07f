use Rattle.std.proofs.Common.{◌∙◌, ◌-◌, ◌+◌, sym, arith}
use Rattle.std.proofs.lemmas.Result.{err_from_is_err_and}
use Rattle.gd_tplang.specs.Written.{value_at}
use Rattle.gd_grammar.specs.Choice.{list_at}
use Rattle.gd_tplang.proofs.Lists.{list_end, list_full, list_more, list_stop}
use Rattle.gd_tplang.proofs.value.values.Goals as goal

pub returns-then-not-is_next : goal.returns-then-not-is_next
returns-then-not-is_next c =
    let l = c.loop-part in
    list_end 124 value_at (63 - l._part) l.values.items l.rest.now (list_at 63 124 value_at c.args.bytes.now) (sym c.is_next.ensures ∙ c.if-not-is_next.true) l.invariant

pub returns-in_err-value : goal.returns-in_err-value
returns-in_err-value c =
    let l = c.loop-part in
    let p = err_from_is_err_and c.from_residual-in_err-value.result c.from_residual-in_err-value.ensures.1 in
    let stopped = list_stop 124 value_at c.in_err-value.field-0.0 (63 - l._part) (62 - l._part) l.values.items l.rest.now (list_at 63 124 value_at c.args.bytes.now) (omega (arith, c.loop-part-test.true)) (sym c.is_next.ensures ∙ c.if-not-is_next.false) c.in_err-value.ensures l.invariant in
    rw (p.1, p.2) stopped

pub loop-part-preserved : goal.loop-part-preserved
loop-part-preserved c =
    let l = c.loop-part in
    list_more 124 value_at (63 - l._part) (63 - (l._part + 1)) l.values.items c.push-in-loop-part.new.self.items c.in_ok-value.value l.rest.now c.in_ok-value.behind.now (list_at 63 124 value_at c.args.bytes.now) (omega (arith, c.loop-part-test.true)) (sym c.is_next.ensures ∙ c.if-not-is_next.false) c.in_ok-value.ensures
    c.in_ok-push-2.ensures.items l.invariant

pub returns : goal.returns
returns c =
    let l = c.loop-part in
    list_full 124 value_at (63 - l._part) l.values.items l.rest.now (list_at 63 124 value_at c.args.bytes.now) (omega (arith, c.loop-part-test.false)) l.invariant
