use Rattle.std.proofs.Common.{[], ◌∷◌, ◌++◌, sym, ap, subst, ◌∙◌, append_assoc, nat_cmp}
use Rattle.std.proofs.lemmas.Cmp.{nat_cmp_total}
use Rattle.std.specs.List.Sorted.{IsStrictlySortedBy}
use Rattle.std.specs.Map.{keys_of}
use Rattle.gd_lists.proofs.Last.{put_last}
use Rattle.gd_lists.proofs.pairs.copies.Goals as goal

pub loop-namespace-preserved : goal.loop-namespace-preserved
loop-namespace-preserved c =
    let done = c.loop-namespace.made.entries in
    let key = c.in-Some.namespace.now in
    let list = c.in-Some.lists.now in
    let left = c.next.new.self in
    let all = ap (λ es. done ++ es) (sym c.in-Some.ensures.steps) ∙ c.loop-namespace.invariant in
    let last = put_last nat_cmp_total done key list left (subst (λ es. IsStrictlySortedBy nat_cmp (keys_of es)) (sym all) c.iter-namespace-items.ensures.ordered) in
    ap (λ es. es ++ left) (c.in_ok-insert.ensures.entries ∙ rw (c.in_ok-same.ensures) last) ∙ append_assoc done ((key, list) ∷ []) left ∙ all
