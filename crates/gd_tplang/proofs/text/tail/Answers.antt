use Rattle.std.proofs.Common.{◌∙◌, ◌-◌, sym, subst, arith}
use Rattle.std.proofs.lemmas.Result.{err_from_is_err_and}
use Rattle.gd_utf8.specs.Utf8.{start}
use Rattle.gd_tplang.specs.Stop.{Finds}
use Rattle.gd_tplang.specs.Written.{tail_at}
use Rattle.gd_tplang.proofs.Texts.{text_begun, text_ends, text_full, text_quoted, text_more, text_stops}
use Rattle.gd_tplang.proofs.text.tail.Goals as goal

pub loop-at-init : goal.loop-at-init
loop-at-init c = text_begun c.new-text.result.items c.start-state.result c.args.bytes.now c.new-text.ensures.items c.start-state.ensures.value

pub returns-then-ends : goal.returns-then-ends
returns-then-ends c =
    let l = c.loop-at in
    let ends = text_ends (4096 - l.at) l.state l.rest.now (sym c.ends.ensures ∙ c.if-ends.true) in
    subst (λ r. Finds (λ x. (x.0.items, x.1.now)) r c.quote.result) (text_quoted l.at l.state l.text.items l.rest.now (tail_at 4096 start c.args.bytes.now) ends l.invariant) c.quote.ensures

pub returns-in_err-byte : goal.returns-in_err-byte
returns-in_err-byte c =
    let l = c.loop-at in
    let p = err_from_is_err_and c.from_residual.result c.from_residual.ensures.1 in
    let stopped = text_stops c.in_err-byte.field-0.0 l.at l.state l.text.items l.rest.now (tail_at 4096 start c.args.bytes.now) c.loop-at-test.true (sym c.ends.ensures ∙ c.if-ends.false) c.in_err-byte.ensures l.invariant in
    rw (p.1, p.2) stopped

pub loop-at-preserved : goal.loop-at-preserved
loop-at-preserved c =
    let l = c.loop-at in
    text_more l.at l.state c.after-state.result l.text.items c.push.new.self.items l.rest.now c.in_ok-byte.byte c.in_ok-byte.behind.now (tail_at 4096 start c.args.bytes.now) c.loop-at-test.true (sym c.ends.ensures ∙ c.if-ends.false) c.in_ok-byte.ensures
    c.after-state.ensures c.in_ok-push.ensures.items l.invariant

pub returns : goal.returns
returns c =
    let l = c.loop-at in
    let full = text_full l.at l.state l.rest.now (omega (arith, c.loop-at-test.false)) in
    subst (λ r. Finds (λ x. (x.0.items, x.1.now)) r c.quote-2.result) (text_quoted l.at l.state l.text.items l.rest.now (tail_at 4096 start c.args.bytes.now) full l.invariant) c.quote-2.ensures
