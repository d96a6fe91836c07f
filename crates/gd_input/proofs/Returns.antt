-- The carriage return at the end of a piece of input.
use Rattle.std.proofs.Common.{◌≡◌, ℕ, suc, ◌+◌, ◌-◌, ◌<◌, ◌≤◌, List, [], ◌∷◌, length, take, Bool, true, false, Some, nat_eq, refl, sym, ap, ◌∙◌, arith}
use Rattle.std.specs.Prelude.{slice_get, if◌then◌else◌, ◌==◌}
use Rattle.std.specs.Option.{option_eq}
use Rattle.gd_runs.specs.Explained.{without_return}

one_less : (n : ℕ) → suc n - 1 ≡ n
one_less n = omega arith

-- the piece ends in a return
abbrev pub has_return : List ℕ → Bool
has_return xs = option_eq nat_eq (slice_get xs (length xs - 1)) (Some 13)

has_return-cons : (c d : ℕ) (cs : List ℕ) → has_return (c ∷ d ∷ cs) ≡ has_return (d ∷ cs)
has_return-cons c d cs = rw (one_less (suc (length cs)), one_less (length cs)) refl

take-cons : (c d : ℕ) (cs : List ℕ) → take (length (c ∷ d ∷ cs) - 1) (c ∷ d ∷ cs) ≡ c ∷ take (length (d ∷ cs) - 1) (d ∷ cs)
take-cons c d cs = rw (one_less (suc (length cs)), one_less (length cs)) refl

return-dropped : (xs : List ℕ) → has_return xs ≡ true → take (length xs - 1) xs ≡ without_return xs
return-dropped [] has = refl
return-dropped (c ∷ []) has = let is : (c == 13) ≡ true = has in rw is refl
return-dropped (c ∷ d ∷ cs) has = take-cons c d cs ∙ ap (λ l. c ∷ l) (return-dropped (d ∷ cs) (sym (has_return-cons c d cs) ∙ has))

pub no_return-kept : (xs : List ℕ) → has_return xs ≡ false → xs ≡ without_return xs
no_return-kept [] has = refl
no_return-kept (c ∷ []) has = let is : (c == 13) ≡ false = has in rw is refl
no_return-kept (c ∷ d ∷ cs) has = ap (λ l. c ∷ l) (no_return-kept (d ∷ cs) (sym (has_return-cons c d cs) ∙ has))

-- the same by a length that is given
pub pop-dropped : (xs : List ℕ) (n : ℕ) → n ≡ length xs → has_return xs ≡ true → take (n - 1) xs ≡ without_return xs
pop-dropped xs n is has = ap (λ m. take (m - 1) xs) is ∙ return-dropped xs has

length-without_return : (xs : List ℕ) → length xs ≤ length (without_return xs) + 1
length-without_return [] = omega arith
length-without_return (c ∷ []) = by (c == 13)
  where
    by : (b : Bool) → length (c ∷ []) ≤ length (if b then [] else c ∷ []) + 1
    by true = omega arith
    by false = omega arith
length-without_return (c ∷ d ∷ cs) = omega (arith, length-without_return (d ∷ cs))

-- what is too long for a line with its return makes no line
pub too_long : (most : ℕ) (by_newline : Bool) (begun : List ℕ) → most + 1 < length begun → most < length (if by_newline then without_return begun else begun)
too_long most true begun long = omega (arith, length-without_return begun)
too_long most false begun long = omega arith
