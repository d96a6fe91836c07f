use Rattle.std.proofs.Common.{◌≡◌, ◌↔◌, ◌∙◌, ap, sym, subst}
use Rattle.std.specs.declared.cmp.Ordering.TheVariants.{Equal}
use Rattle.gd_base.specs.Order.{datum_cmp}
use Rattle.gd_base.proofs.Order.{datum_total, Equal_exactly, cmp_is}
use Rattle.gd_base.proofs.datum.Datum.order.Goals as goal

pub returns-clause-ties : goal.returns-clause-ties
returns-clause-ties c =
    let a = c.args.self.now in
    let b = c.args.other.now in
    let is : c.cmp.result ≡ datum_cmp a b = c.cmp.ensures ∙ ap (λ f. f a b) cmp_is in
    subst (λ o. (o ≡ Equal) ↔ (a ≡ b)) (sym is) (Equal_exactly a b)

pub returns-clause-total : goal.returns-clause-total
returns-clause-total c = datum_total
