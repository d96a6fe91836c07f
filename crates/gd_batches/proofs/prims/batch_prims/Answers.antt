use Rattle.std.proofs.Common.{◌∙◌, ◌-◌, List, length, take, drop, IsTrue, sym, ap, subst, arith, rules}
use Rattle.std.specs.List.{AllByRecursion}
use Rattle.gd_prim.specs.declared.Primitive.{Primitive}
use Rattle.gd_prim.specs.WellFormed.{may_hold}
use Rattle.gd_batches.proofs.Histories.{there_is, prims_between, prims_within, prims_held, history_kept, each_at, IsKept}
use Rattle.gd_batches.proofs.prims.batch_prims.Goals as goal

pub overflow_add-n : goal.overflow_add-n
overflow_add-n c = omega (arith, c.requires.small)

pub slice_bounds-result-count : goal.slice_bounds-result-count
slice_bounds-result-count c =
    let (b, is) = there_is c.args.store.now c.args.n c.requires.there in
    (prims_within c.args.store.now c.args.n b c.below.result.now c.below-2.result.now is c.below.ensures.below c.below-2.ensures.below).0

pub slice_bounds-result-start : goal.slice_bounds-result-start
slice_bounds-result-start c =
    let (b, is) = there_is c.args.store.now c.args.n c.requires.there in
    let (one, two) = prims_within c.args.store.now c.args.n b c.below.result.now c.below-2.result.now is c.below.ensures.below c.below-2.ensures.below in
    search (rules, one)

pub returns-clause-prims : goal.returns-clause-prims
returns-clause-prims c b is = ap (λ l. take (length c.below-2.result.now - length c.below.result.now) (drop (length c.below.result.now) l)) c.primitives-prims.ensures.all ∙ prims_between c.args.store.now c.args.n b c.below.result.now c.below-2.result.now is c.below.ensures.below c.below-2.ensures.below

pub returns-clause-few : goal.returns-clause-few
returns-clause-few c =
    let (b, is) = there_is c.args.store.now c.args.n c.requires.there in
    let same = ap (λ l. take (length c.below-2.result.now - length c.below.result.now) (drop (length c.below.result.now) l)) c.primitives-prims.ensures.all ∙ prims_between c.args.store.now c.args.n b c.below.result.now c.below-2.result.now is c.below.ensures.below c.below-2.ensures.below in
    let kept = each_at IsKept c.args.store.now c.args.n b (history_kept c.args.store.now c.primitives-prims.ensures.history) is in
    omega (arith, ap length same, kept.few)

pub returns-clause-held : goal.returns-clause-held
returns-clause-held c =
    let (b, is) = there_is c.args.store.now c.args.n c.requires.there in
    let same = ap (λ l. take (length c.below-2.result.now - length c.below.result.now) (drop (length c.below.result.now) l)) c.primitives-prims.ensures.all ∙ prims_between c.args.store.now c.args.n b c.below.result.now c.below-2.result.now is c.below.ensures.below c.below-2.ensures.below in
    subst (λ (l : List Primitive). AllByRecursion (λ p. IsTrue (may_hold p.value)) l) (sym same) (prims_held c.args.store.now c.args.n b c.primitives-prims.ensures.history is)
