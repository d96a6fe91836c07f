use Rattle.std.proofs.Common.{◌≡◌, ◌+◌, ◌++◌, ◌∷◌, [], length, length-append, sym, ◌∙◌, ap, arith}
use Rattle.gd_shared.specs.History.{batches_of}
use Rattle.gd_shared.proofs.Groups.{exchange_moves, group_added, front_grown}
use Rattle.gd_shared.proofs.front.Front.extend.Goals as goal

pub compare_exchange-found-requires : goal.compare_exchange-found-requires
compare_exchange-found-requires g c =
    let counter = c.requires.counter in
    let offer = c.plain-offer.ensures in
    let pen = c.no_pen-pen.ensures in
    let book : c.again-seen.result.book ≡ c.args.counter.now.book = ap (λ s. s.book) c.again-seen.ensures ∙ (ap (λ f. f.history) c.self.view_is ∙ sym (ap (λ w. w.book) counter)) in
    let long : length c.again-seen.result.log ≡ c.self.inside.groups = ap (λ s. length s.log) c.again-seen.ensures ∙ sym c.self.invariant.1 in (
      ap (λ w. w.tracked) counter,
      book,
      pen.0 ∙ book,
      offer.0,
      rw (ap (λ w. w.key) counter, pen.1, offer.1, offer.3 ∙ c.requires.state) (exchange_moves c.again-seen.result.log (g.P.Plain.ask c.args.about.now) c.self.inside.groups long),
    )

pub invariant_of-self : goal.invariant_of-self
invariant_of-self g c =
    let asked = g.P.Plain.ask c.args.about.now in
    let seen = c.self.inside.seen.log in
    let after = c.compare_exchange-found.new.seen.log in
    let is : after ≡ c.again-seen.result.log ++ c.plain-offer.result.ask ∷ [] = group_added c.self.inside.groups c.compare_exchange-found.result c.again-seen.result.log after c.plain-offer.result.ask c.if-found-groups.false c.compare_exchange-found.ensures.7 in
    let same = ap (λ s. s.log) c.again-seen.ensures in
    let whole : batches_of after ≡ batches_of seen ++ asked = front_grown seen c.again-seen.result.log after c.plain-offer.result.ask same is ∙ ap (λ l. batches_of seen ++ l) c.plain-offer.ensures.1 in
    let one : length after ≡ length seen + 1 = ap length is ∙ (length-append c.again-seen.result.log (c.plain-offer.result.ask ∷ []) ∙ ap (λ l. length l + 1) same) in
    (omega (arith, c.self.invariant.0, c.requires.more, ap length whole, length-append (batches_of seen) asked), omega (arith, one, c.self.invariant.1))

pub returns-clause-added : goal.returns-clause-added
returns-clause-added g c =
    let seen = c.self.inside.seen.log in
    let after = c.compare_exchange-found.new.seen.log in
    let is : after ≡ c.again-seen.result.log ++ c.plain-offer.result.ask ∷ [] = group_added c.self.inside.groups c.compare_exchange-found.result c.again-seen.result.log after c.plain-offer.result.ask c.if-found-groups.false c.compare_exchange-found.ensures.7 in
    let same = ap (λ s. s.log) c.again-seen.ensures in
    front_grown seen c.again-seen.result.log after c.plain-offer.result.ask same is ∙ (ap (λ l. batches_of seen ++ l) c.plain-offer.ensures.1 ∙ ap (λ f. f.list ++ g.P.Plain.ask c.args.about.now) c.self.view_is)
