use Rattle.std.proofs.Common.{◌-◌, ◌+◌, ◌∙◌, List, ℕ, ap, sym}
use Rattle.std.proofs.lemmas.Result.{err_from_is_err_and}
use Rattle.gd_utf8.specs.Utf8.{start}
use Rattle.gd_grammar.specs.Choice.{with_front}
use Rattle.gd_dump_laws.specs.Reading.{hex_from, hex_to}
use Rattle.gd_dump.proofs.Steps.{text_begun, text_more, text_stops}
use Rattle.gd_dump.proofs.hex.utf8.Goals as goal

pub loop-at-init : goal.loop-at-init
loop-at-init c = text_begun c.new-text.result.items c.start-state.result c.args.mark c.args.bytes.now c.new-text.ensures.items c.start-state.ensures.value

pub returns-in_err-next : goal.returns-in_err-next
returns-in_err-next c =
    let l = c.loop-at in
    let p = err_from_is_err_and c.from_residual.result c.from_residual.ensures.1 in
    rw (p.1, p.2) (text_stops c.in_err-next.field-0.0 l.text.items l.at l.state c.args.mark l.rest.now (hex_to c.args.mark c.args.bytes.now) c.loop-at-test.true (sym c.is_end.ensures ∙ c.if-is_end.false) c.in_err-next.ensures l.invariant)

pub loop-at-preserved : goal.loop-at-preserved
loop-at-preserved c =
    let l = c.loop-at in
    ap (λ (t : List ℕ). with_front t (hex_from (4096 - (l.at + 1)) c.after-state.result c.args.mark c.in_ok-next.behind.now)) c.in_ok-push.ensures.items
    ∙ text_more l.text.items l.at l.state c.after-state.result c.args.mark c.in_ok-next.next l.rest.now c.in_ok-next.behind.now (hex_to c.args.mark c.args.bytes.now) c.loop-at-test.true (sym c.is_end.ensures ∙ c.if-is_end.false) c.in_ok-next.ensures c.after-state.ensures l.invariant
