-- Lists of which some elements were left out.
use Rattle.std.proofs.Common.{◌≡◌, refl, ℕ, zero, suc, inl, inr, ⊎_elim, List, [], ◌∷◌, ◌++◌, Some, slice_get, sym, subst, ap}
use Rattle.gd_runs.proofs.Rounds.{no_some}
use Rattle.gd_round_lines.specs.Some.{IsSomeOf}

pub some_none : {X : Type 0} (ys : List X) → IsSomeOf [] ys
some_none [] = refl
some_none (y ∷ ys) = inl (some_none ys)

pub some_append : {X : Type 0} (xs us ys bs : List X) → IsSomeOf xs us → IsSomeOf ys bs → IsSomeOf (xs ++ ys) (us ++ bs)
some_append xs [] ys bs is more = subst (λ zs. IsSomeOf (zs ++ ys) bs) (sym is) more
some_append xs (a ∷ us) ys bs some more = ⊎_elim
    (λ others. inl (some_append xs us ys bs others more))
    (λ (zs, is, others). inr (zs ++ ys, ap (λ l. l ++ ys) is, some_append zs us ys bs others more))
    some

pub some_all : {X : Type 0} (xs : List X) → IsSomeOf xs xs
some_all [] = refl
some_all (x ∷ xs) = inr (xs, refl, some_all xs)

pub some_there : {X : Type 0} (xs ys : List X) (i : ℕ) (a : X) → IsSomeOf xs ys → slice_get xs i ≡ Some a → (j : ℕ) × (slice_get ys j ≡ Some a)
some_there xs [] i a is at = no_some (subst (λ zs. slice_get zs i ≡ Some a) is at)
some_there xs (y ∷ ys) i a some at = ⊎_elim
    (λ others. let (j, there) = some_there xs ys i a others at in (suc j, there))
    (λ (zs, is, others). first zs i (subst (λ l. slice_get l i ≡ Some a) is at) (λ k. some_there zs ys k a others))
    some
  where
    first : (zs : List _) (i : ℕ) → slice_get (y ∷ zs) i ≡ Some a → ((k : ℕ) → slice_get zs k ≡ Some a → (j : ℕ) × (slice_get ys j ≡ Some a)) → (j : ℕ) × (slice_get (y ∷ ys) j ≡ Some a)
    first zs zero there rest = (0, there)
    first zs (suc k) there rest = let (j, is) = rest k there in (suc j, is)
