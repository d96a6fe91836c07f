-- Lists with which a list begins.
use Rattle.std.proofs.Common.{◌≡◌, ℕ, ◌≤◌, List, take, length, sym, ap, ◌∙◌, arith, length-append}
use Rattle.std.proofs.lemmas.List.{take-append-le}
use mathlib.Core.List.{IsPrefix}

module _ {A : Type 0} where
  -- a list is no shorter than one with which it begins
  pub begins_shorter : (xs ys : List A) → IsPrefix xs ys → length xs ≤ length ys
  begins_shorter xs ys (more, is) = let long = ap length is in omega (arith, long, length-append xs more)

  -- what is within the list with which it begins stays
  pub begins_within : (n : ℕ) (xs ys : List A) → n ≤ length xs → IsPrefix xs ys → take n ys ≡ take n xs
  begins_within n xs ys within (more, is) = ap (take n) (sym is) ∙ take-append-le n xs more within
