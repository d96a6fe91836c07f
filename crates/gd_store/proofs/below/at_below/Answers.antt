use Rattle.std.proofs.Common.{◌∙◌, sym, ap, arith}
use Rattle.std.specs.Prelude.{None, Some, if◌then◌else◌}
use Rattle.std.proofs.lemmas.Bool.{lt-ltb, le-ltb}
use Rattle.gd_store.proofs.Rising as rising
use Rattle.gd_store.proofs.below.at_below.Goals as goal

pub returns-then-k-len-clause-id : goal.returns-then-k-len-clause-id
returns-then-k-len-clause-id g c =
    rising.get_none _ c.args.k (omega (arith, rising.fewer_below c.args.list.now.ids c.args.end, c.len.ensures.len, c.if-k-len.true))

pub returns-then-place-clause-id : goal.returns-then-place-clause-id
returns-then-place-clause-id g c =
    sym (rising.at_below c.args.list.now.ids c.args.end c.args.k c.at-id.result c.len.ensures.rising c.at-id.ensures.id
    ∙ ap (λ b. if b then Some c.at-id.result else None) (lt-ltb c.at-id.result c.args.end (omega arith)))

pub returns-clause-id : goal.returns-clause-id
returns-clause-id g c =
    sym (rising.at_below c.args.list.now.ids c.args.end c.args.k c.at-id.result c.len.ensures.rising c.at-id.ensures.id
    ∙ ap (λ b. if b then Some c.at-id.result else None) (le-ltb c.at-id.result c.args.end (omega arith)))
