use Rattle.std.proofs.Common.{◌∙◌, ◌-◌, length, take, drop, ap, arith, rules}
use Rattle.gd_follow.proofs.Stores.{there_is, prims_between, prims_within, history_kept, each_at, IsKept}
use Rattle.gd_follow.proofs.batches.batch_prims.Goals as goal

pub overflow_add-n : goal.overflow_add-n
overflow_add-n c = omega (arith, c.requires.small)

pub slice_bounds-result-count : goal.slice_bounds-result-count
slice_bounds-result-count c =
    let (b, is) = there_is c.args.store.now c.args.n c.requires.there in
    (prims_within c.args.store.now c.args.n b c.below.result.now c.below-2.result.now is c.below.ensures.below c.below-2.ensures.below).0

pub slice_bounds-result-start : goal.slice_bounds-result-start
slice_bounds-result-start c =
    let (b, is) = there_is c.args.store.now c.args.n c.requires.there in
    let (one, two) = prims_within c.args.store.now c.args.n b c.below.result.now c.below-2.result.now is c.below.ensures.below c.below-2.ensures.below in
    let all = ap length c.primitives-prims.ensures.all in
    search (rules, one, two, all)

pub returns-clause-prims : goal.returns-clause-prims
returns-clause-prims c b is = ap (λ l. take (length c.below-2.result.now - length c.below.result.now) (drop (length c.below.result.now) l)) c.primitives-prims.ensures.all ∙ prims_between c.args.store.now c.args.n b c.below.result.now c.below-2.result.now is c.below.ensures.below c.below-2.ensures.below

pub returns-clause-few : goal.returns-clause-few
returns-clause-few c =
    let (b, is) = there_is c.args.store.now c.args.n c.requires.there in
    let same = ap (λ l. take (length c.below-2.result.now - length c.below.result.now) (drop (length c.below.result.now) l)) c.primitives-prims.ensures.all ∙ prims_between c.args.store.now c.args.n b c.below.result.now c.below-2.result.now is c.below.ensures.below c.below-2.ensures.below in
    let kept = each_at IsKept c.args.store.now c.args.n b (history_kept c.args.store.now c.primitives-prims.ensures.history) is in
    omega (arith, ap length same, kept.few)
