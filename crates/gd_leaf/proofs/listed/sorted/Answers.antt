use Rattle.std.proofs.Common.{◌≡◌, ◌∙◌, ap, sym, arith}
use Rattle.std.specs.Prelude.{◌==◌}
use Rattle.std.proofs.lemmas.Grind.{common_steps}
use Rattle.std.proofs.lemmas.List.Sorted.{list_any-IsPermutation, IsNonDecreasingBy-from_sort}
use Rattle.gd_iter_core.specs.Owed.{has_id}
use Rattle.gd_leaf.proofs.Distinct.{sorted_from}
use Rattle.gd_leaf.proofs.listed.sorted.Goals as goal

pub returns-clause-same : goal.returns-clause-same
returns-clause-same c = λ id.
    let all : c.loop-id.places.items ≡ c.args.ids.now = grind (arith, common_steps) in
    sym (list_any-IsPermutation (λ x. x == id) _ _ c.sort_unstable.ensures.permutation) ∙ ap (λ xs. has_id xs id) all

pub returns-clause-sorted : goal.returns-clause-sorted
returns-clause-sorted c = sorted_from 0 _ (λ there. omega arith) (IsNonDecreasingBy-from_sort (λ x. x) _ c.sort_unstable.ensures.sorted)
