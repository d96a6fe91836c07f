use Rattle.std.proofs.Common.{sym, subst}
use Rattle.gd_lookup.specs.Keeping.{KeepingValue, AllRight}
use Rattle.gd_cache.specs.Right.{KeepsRight}
use Rattle.gd_cache.specs.Shown.{Shown}
use Rattle.gd_lookup.proofs.Counted.{counted_right, right_changed}
use Rattle.gd_lookup.proofs.keeping.Keeping.count.Goals as goal

pub returns-clause-right : goal.returns-clause-right
returns-clause-right c = λ batches at q within few is keyed all.
    right_changed batches c.self.inside.caches.items c.args.session c.index_mut.result.now c.count_in.new.cache c.requires.session c.self.invariant (subst (λ (k : KeepingValue). AllRight batches k.caches) (sym c.self.view_is) all)
    (λ right. counted_right batches at c.args.line q c.index_mut.result.now c.args.key c.args.reply.now c.count_in.new.cache within few is keyed (sym c.if-not-is_answer.ensures) c.count_in.ensures.only
    (subst (λ (s : Shown). KeepsRight batches s) (sym c.index_mut.ensures.value) right))
