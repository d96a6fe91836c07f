-- Batches of groups are of moments of a clock.
use Rattle.std.proofs.Common.{inl, inr, Bool, ℕ, List, [], ◌∷◌, ◌++◌, sym, subst}
use Rattle.std.specs.List.{AllByRecursion}
use Rattle.gd_prim.specs.declared.Batch.{Batch}
use Rattle.gd_bytes.specs.Group.{BatchFits}
use Rattle.gd_log.specs.Stored.{IsEarly}
use Rattle.gd_log.specs.Opening.{IsTaken}

fits_early : (bs : List Batch) → AllByRecursion BatchFits bs → AllByRecursion IsEarly bs
fits_early [] each = tt
fits_early (b ∷ bs) each = (record { early = each.0.moment }, fits_early bs each.1)

early_joined : (xs ys : List Batch) → AllByRecursion IsEarly xs → AllByRecursion IsEarly ys → AllByRecursion IsEarly (xs ++ ys)
early_joined [] ys each more = more
early_joined (x ∷ xs) ys each more = (each.0, early_joined xs ys each.1 more)

-- with a record that is taken in
pub taken_early : (marked : Bool) (before : List Batch) (p : List ℕ) (last : Bool) (now : List Batch) → IsTaken marked before p last now → AllByRecursion IsEarly before → AllByRecursion IsEarly now
taken_early marked before p last now (inl (none, is, same, kept)) each = subst (λ l. AllByRecursion IsEarly l) (sym kept) each
taken_early marked before p last now (inr (same, (more, next, is))) each = subst (λ l. AllByRecursion IsEarly l) (sym is) (early_joined before more each (fits_early more next.group.0.each))
