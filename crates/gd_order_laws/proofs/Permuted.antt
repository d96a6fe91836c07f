-- Rows that are offered in another order.
use Rattle.std.proofs.Common.{◌≡◌, inl, inr, zero, suc, List, [], ◌∷◌, arith, Ordering}
use Rattle.std.specs.Cmp.{IsTotalOrder}
use Rattle.std.specs.List.{Contains}
use Rattle.std.specs.List.Sorted.{IsPermutation}
use Rattle.std.proofs.lemmas.List.Sorted.{IsPermutation-sym, Contains-permutation}
use Rattle.gd_defs.specs.Rows.{sorted_onto}
use Rattle.gd_order_laws.specs.Window.{In, Apart}
use Rattle.gd_order_laws.proofs.Sorted.{offered_in_any_order}

module _ {A : Type 0} where
  pub contained : (xs : List A) (x : A) → In x xs → Contains xs x
  contained [] x here = absurd here
  contained (y ∷ xs) x (inl same) = (zero, omega arith, same)
  contained (y ∷ xs) x (inr there) = let at = contained xs x there in (suc at.0, omega (arith, at.1), at.2)

  pub stands : (xs : List A) (x : A) → Contains xs x → In x xs
  stands [] x at = absurd (omega (arith, at.1))
  stands (y ∷ xs) x (zero, within, is) = inl is
  stands (y ∷ xs) x (suc k, within, is) = inr (stands xs x (k, omega (arith, within), is))

-- the sorted list of rows that do not tie is that of each permutation of them
pub offered_permuted : {A : Type 0} (cmp : A → A → Ordering) → IsTotalOrder cmp → (xs ys : List A) → IsPermutation xs ys → Apart cmp xs → Apart cmp ys → sorted_onto cmp [] xs ≡ sorted_onto cmp [] ys
offered_permuted cmp total xs ys permuted left right =
    offered_in_any_order cmp total xs ys left right
    (λ x here. stands ys x (Contains-permutation xs ys x permuted (contained xs x here)))
    (λ x here. stands xs x (Contains-permutation ys xs x (IsPermutation-sym xs ys permuted) (contained ys x here)))
