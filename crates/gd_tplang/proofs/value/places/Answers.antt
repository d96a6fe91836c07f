use Rattle.std.proofs.Common.{◌∙◌, ◌-◌, ◌+◌, ◌++◌, ◌∷◌, [], sym, ap, arith}
use Rattle.std.proofs.lemmas.Result.{err_from_is_err_and}
use Rattle.gd_grammar.specs.Grammar.{number_at}
use Rattle.gd_prim.specs.Limits.{max_prims}
use Rattle.gd_grammar.specs.Choice.{list_at}
use Rattle.gd_tplang.proofs.Lists.{list_end, list_full, list_more, list_stop}
use Rattle.gd_tplang.proofs.value.places.Goals as goal

pub returns-then-not-is_next : goal.returns-then-not-is_next
returns-then-not-is_next c =
    let l = c.loop-part in
    list_end 124 (number_at max_prims) (63 - l._part) l.places.items l.rest.now (list_at 63 124 (number_at max_prims) c.args.bytes.now) (sym c.is_next.ensures ∙ c.if-not-is_next.true) l.invariant

pub returns-in_err-place : goal.returns-in_err-place
returns-in_err-place c =
    let l = c.loop-part in
    let p = err_from_is_err_and c.from_residual-in_err-place.result c.from_residual-in_err-place.ensures.1 in
    let stopped = list_stop 124 (number_at max_prims) c.in_err-place.field-0.0 (63 - l._part) (62 - l._part) l.places.items l.rest.now (list_at 63 124 (number_at max_prims) c.args.bytes.now) (omega (arith, c.loop-part-test.true)) (sym c.is_next.ensures ∙ c.if-not-is_next.false) c.in_err-place.ensures l.invariant in
    rw (p.1, p.2) stopped

pub loop-part-preserved : goal.loop-part-preserved
loop-part-preserved c =
    let l = c.loop-part in
    list_more 124 (number_at max_prims) (63 - l._part) (63 - (l._part + 1)) l.places.items c.push-in-loop-part.new.self.items c.in_ok-place.place l.rest.now c.in_ok-place.behind.now (list_at 63 124 (number_at max_prims) c.args.bytes.now) (omega (arith, c.loop-part-test.true)) (sym c.is_next.ensures ∙ c.if-not-is_next.false) c.in_ok-place.ensures
    (c.in_ok-push-2.ensures.items ∙ ap (λ x. l.places.items ++ x ∷ []) c.new-in-loop-part.ensures) l.invariant

pub returns : goal.returns
returns c =
    let l = c.loop-part in
    list_full 124 (number_at max_prims) (63 - l._part) l.places.items l.rest.now (list_at 63 124 (number_at max_prims) c.args.bytes.now) (omega (arith, c.loop-part-test.false)) l.invariant
