use Rattle.std.proofs.Common.{◌≡◌, ◌∙◌, ◌-◌, ◌+◌, sym, ap, subst, arith, suc, Ok}
use Rattle.std.proofs.lemmas.Result.{err_from_is_err_and}
use Rattle.gd_tplang.specs.Building.{gathered, with_items}
use Rattle.gd_grammar.specs.Choice.{seen_at}
use Rattle.gd_tplang.specs.Meaning.{meaning}
use Rattle.gd_tplang.specs.Stop.{Finds, Stopped}
use Rattle.gd_tplang.specs.Written.{rest_at, items_at, template_at}
use Rattle.gd_tplang.proofs.Built.{items_more, items_stop, items_end, items_full, items_none, items_first, items_first_stop, template_made, template_items_stop, template_bracket_stop}
use Rattle.gd_tplang.proofs.build.+build.Goals as goal

pub further-returns-then-not-is_next : goal.further-returns-then-not-is_next
further-returns-then-not-is_next t c =
    let l = c.loop-item in
    let inner = template_at c.args.below in
    let whole = seen_at (λ t. with_items t (gathered c.args.parts)) (rest_at inner 63) c.args.bytes.now in
    subst (λ r. Finds (λ x. (gathered x.0, x.1.now)) r c.bracket.result) (items_end inner (63 - l._item) (gathered l.parts) l.rest.now whole (sym c.is_next.ensures ∙ c.if-not-is_next.true) l.invariant) c.bracket.ensures

pub further-returns-in_err-more : goal.further-returns-in_err-more
further-returns-in_err-more t c =
    let l = c.loop-item in
    let inner = template_at c.args.below in
    let whole = seen_at (λ t. with_items t (gathered c.args.parts)) (rest_at inner 63) c.args.bytes.now in
    let p = err_from_is_err_and c.from_residual.result c.from_residual.ensures.1 in
    let stopped = items_stop inner c.in_err-more.field-0.0 (63 - l._item) (62 - l._item) (gathered l.parts) l.rest.now whole (omega (arith, c.loop-item-test.true)) (sym c.is_next.ensures ∙ c.if-not-is_next.false) c.in_err-more.ensures l.invariant in
    rw (p.1, p.2) stopped

pub further-loop-item-preserved : goal.further-loop-item-preserved
further-loop-item-preserved t c =
    let l = c.loop-item in
    let inner = template_at c.args.below in
    let whole = seen_at (λ t. with_items t (gathered c.args.parts)) (rest_at inner 63) c.args.bytes.now in
    items_more inner (63 - l._item) (63 - (l._item + 1)) (gathered l.parts) (gathered c.in_ok-more.more) l.rest.now c.in_ok-more.behind.now whole (omega (arith, c.loop-item-test.true)) (sym c.is_next.ensures ∙ c.if-not-is_next.false) c.in_ok-more.ensures l.invariant

pub further-returns : goal.further-returns
further-returns t c =
    let l = c.loop-item in
    let inner = template_at c.args.below in
    let whole = seen_at (λ t. with_items t (gathered c.args.parts)) (rest_at inner 63) c.args.bytes.now in
    subst (λ r. Finds (λ x. (gathered x.0, x.1.now)) r c.bracket-2.result) (items_full inner (63 - l._item) (gathered l.parts) l.rest.now whole (omega (arith, c.loop-item-test.false)) l.invariant) c.bracket-2.ensures

pub items-returns-then-is_next : goal.items-returns-then-is_next
items-returns-then-is_next t c =
    let inner = template_at c.args.below in
    subst (λ r. Finds (λ x. (gathered x.0, x.1.now)) r c.bracket.result) (items_none inner (gathered c.args.parts) c.args.bytes.now (sym c.is_next.ensures ∙ c.if-is_next.true)) c.bracket.ensures

pub items-returns-in_err-parts : goal.items-returns-in_err-parts
items-returns-in_err-parts t c =
    let inner = template_at c.args.below in
    let p = err_from_is_err_and c.from_residual.result c.from_residual.ensures.1 in
    let stopped = items_first_stop inner c.in_err-parts.field-0.0 (gathered c.args.parts) c.args.bytes.now (sym c.is_next.ensures ∙ c.if-is_next.false) c.in_err-parts.ensures in
    rw (p.1, p.2) stopped

pub items-returns : goal.items-returns
items-returns t c =
    let inner = template_at c.args.below in
    let first = items_first inner (gathered c.args.parts) (gathered c.in_ok-parts.parts) c.args.bytes.now c.in_ok-parts.rest.now (sym c.is_next.ensures ∙ c.if-is_next.false) c.in_ok-parts.ensures in
    subst (λ r. Finds (λ x. (gathered x.0, x.1.now)) r c.further.result) first c.further.ensures

pub build-returns-in_err-rest : goal.build-returns-in_err-rest
build-returns-in_err-rest t c =
    let p = err_from_is_err_and c.from_residual.result c.from_residual.ensures.1 in
    let levels : suc (c.args.below - 1) ≡ c.args.below = omega (arith, c.if-below-eq0.false) in
    let stopped = subst (λ n. Stopped c.in_err-rest.field-0.0 (seen_at meaning (template_at n) c.args.bytes.now)) levels (template_bracket_stop c.in_err-rest.field-0.0 (c.args.below - 1) c.args.bytes.now c.in_err-rest.ensures) in
    rw (p.1, p.2) stopped

pub build-returns-in_err-parts : goal.build-returns-in_err-parts
build-returns-in_err-parts t c =
    let p = err_from_is_err_and c.from_residual-in_err-parts.result c.from_residual-in_err-parts.ensures.1 in
    let levels : suc (c.args.below - 1) ≡ c.args.below = omega (arith, c.if-below-eq0.false) in
    let inside = subst (λ g. Stopped c.in_err-parts.field-0.0 (seen_at (λ t. with_items t g) (items_at (template_at (c.args.below - 1))) c.in_ok-rest.rest.now)) c.new.ensures c.in_err-parts.ensures in
    let stopped = subst (λ n. Stopped c.in_err-parts.field-0.0 (seen_at meaning (template_at n) c.args.bytes.now)) levels (template_items_stop c.in_err-parts.field-0.0 (c.args.below - 1) c.args.bytes.now c.in_ok-rest.rest.now c.in_ok-rest.ensures inside) in
    rw (p.1, p.2) stopped

pub build-made-requires : goal.build-made-requires
build-made-requires t c =
    let inside = subst (λ g. seen_at (λ t. with_items t g) (items_at (template_at (c.args.below - 1))) c.in_ok-rest.rest.now ≡ Ok (gathered c.in_ok-parts.parts, c.in_ok-parts.rest.now)) c.new.ensures c.in_ok-parts.ensures in
    let m = template_made (c.args.below - 1) c.args.bytes.now c.in_ok-rest.rest.now c.in_ok-parts.rest.now (gathered c.in_ok-parts.parts) c.in_ok-rest.ensures inside in
    omega (arith, m.deep, c.requires)

pub build-returns : goal.build-returns
build-returns t c =
    let levels : suc (c.args.below - 1) ≡ c.args.below = omega (arith, c.if-below-eq0.false) in
    let inside = subst (λ g. seen_at (λ t. with_items t g) (items_at (template_at (c.args.below - 1))) c.in_ok-rest.rest.now ≡ Ok (gathered c.in_ok-parts.parts, c.in_ok-parts.rest.now)) c.new.ensures c.in_ok-parts.ensures in
    let m = template_made (c.args.below - 1) c.args.bytes.now c.in_ok-rest.rest.now c.in_ok-parts.rest.now (gathered c.in_ok-parts.parts) c.in_ok-rest.ensures inside in
    ap (λ n. seen_at meaning (template_at n) c.args.bytes.now) (sym levels) ∙ m.means ∙ ap (λ x. Ok (x, c.in_ok-parts.rest.now)) (sym c.made.ensures)
