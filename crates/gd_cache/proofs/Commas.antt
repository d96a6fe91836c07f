-- The first comma.
use Rattle.std.proofs.Common.{◌≡◌, ◌∙◌, sym, ap, refl, ℕ, zero, suc, ◌+◌, ◌<◌, ◌≤◌, List, [], ◌∷◌, ◌++◌, Bool, true, false, length, take, drop, get_or, arith, length-append, length-drop, Option, Some, None, cond, not, subst, ◌-◌, ◌^◌}
use Rattle.std.specs.Str.{IsUtf8}
use Rattle.std.proofs.lemmas.Fmt.{IsAscii-decimal}
use Rattle.std.proofs.lemmas.Str.{IsUtf8-from_ascii}
use Rattle.std.specs.Prelude.{nat_eq, nat_lt, decimal}
use Rattle.std.specs.List.{position, position_or_len}
use Rattle.std.proofs.lemmas.Bool.{lt-ltb, ne_eqb, eqb-false}
use Rattle.std.proofs.lemmas.List.Quantifiers.{position-Some}
use Rattle.std.proofs.Math.Seq.{take-append_seam, drop-append_seam}
use Rattle.gd_paging_laws.proofs.Bytes.{Without, without_comma}
use Rattle.gd_cache.specs.Right.{Commaless}

abbrev is_comma : ℕ → Bool
is_comma c = nat_eq c 44

-- digits have none
commaless_of : (xs : List ℕ) → Without 44 xs → Commaless xs
commaless_of [] p = tt
commaless_of (c ∷ cs) p = (p.0, commaless_of cs p.1)

pub decimal_plain : (n : ℕ) → Commaless (decimal n)
decimal_plain n = commaless_of (decimal n) (without_comma n)

pub plain_append : (xs ys : List ℕ) → Commaless xs → Commaless ys → Commaless (xs ++ ys)
plain_append [] ys p q = q
plain_append (x ∷ xs) ys p q = (p.0, plain_append xs ys p.1 q)

-- up to the first one there is none
plain_front : (xs : List ℕ) (i : ℕ) → ((k : ℕ) → k < i → nat_eq (get_or xs k 0) 44 ≡ false) → Commaless (take i xs)
plain_front [] zero free = tt
plain_front [] (suc i) free = tt
plain_front (x ∷ xs) zero free = tt
plain_front (x ∷ xs) (suc i) free = (eqb-false x 44 (free 0 (omega arith)), plain_front xs i (λ k low. free (suc k) (omega (arith, low))))

pub plain_up_to : (xs : List ℕ) (i : ℕ) → position (λ c. nat_eq c 44) xs ≡ Some i → Commaless (take i xs)
plain_up_to xs i is = plain_front xs i (position-Some (λ c. nat_eq c 44) xs i 0 is).2

-- where there is one, the first is found
len_front : (front rest : List ℕ) → Commaless front → position_or_len (λ c. nat_eq c 44) (front ++ 44 ∷ rest) ≡ length front
len_front [] rest p = refl
len_front (c ∷ cs) rest p = let ih = len_front cs rest p.1 in rw (ne_eqb c 44 p.0) (omega (arith, ih))

len_within : (front rest : List ℕ) → position_or_len (λ c. nat_eq c 44) (front ++ 44 ∷ rest) ≤ length front
len_within [] rest = omega arith
len_within (c ∷ cs) rest = by (nat_eq c 44) (len_within cs rest)
  where
    by : (b : Bool) → position_or_len (λ c. nat_eq c 44) (cs ++ 44 ∷ rest) ≤ length cs → cond (not b) (1 + position_or_len (λ c. nat_eq c 44) (cs ++ 44 ∷ rest)) 0 ≤ suc (length cs)
    by true ih = omega arith
    by false ih = omega (arith, ih)

some_of : (n l : ℕ) → n < l → cond (nat_lt n l) (Some n) None ≡ Some n
some_of n l low = rw (lt-ltb n l low) refl

pub some_comma : (front rest : List ℕ) → position (λ c. nat_eq c 44) (front ++ 44 ∷ rest) ≡ Some (position_or_len (λ c. nat_eq c 44) (front ++ 44 ∷ rest))
some_comma front rest = some_of _ _ (let low = len_within front rest in let long = length-append front (44 ∷ rest) in omega (arith, low, long))

not_none : (o : Option ℕ) (n : ℕ) → o ≡ None → o ≡ Some n → ⊥
not_none o n is other = absurd (cc)

pub no_comma : (xs front rest : List ℕ) → position (λ c. nat_eq c 44) xs ≡ None → xs ≡ front ++ 44 ∷ rest → ⊥
no_comma xs front rest none is = not_none _ _ none (ap (position (λ c. nat_eq c 44)) is ∙ some_comma front rest)

same_number : (m n : ℕ) → Some m ≡ Some n → m ≡ n
same_number m n is = cc

-- so bytes are parted at it
pub first_comma : (xs front rest : List ℕ) (i : ℕ) → position (λ c. nat_eq c 44) xs ≡ Some i → Commaless front → xs ≡ front ++ 44 ∷ rest → (take i xs ≡ front) × (drop i xs ≡ 44 ∷ rest)
first_comma xs front rest i found plain is =
    let at : i ≡ length front = same_number i (length front) (sym found ∙ ap (position (λ c. nat_eq c 44)) is ∙ some_comma front rest ∙ ap Some (len_front front rest plain)) in (
      ap (λ n. take n xs) at ∙ ap (take (length front)) is ∙ take-append_seam front (44 ∷ rest),
      ap (λ n. drop n xs) at ∙ ap (drop (length front)) is ∙ drop-append_seam front (44 ∷ rest),
    )

-- digits are UTF-8
pub decimal_utf8 : (n : ℕ) (xs : List ℕ) → n < 2 ^ 32 → xs ≡ decimal n → IsUtf8 xs
decimal_utf8 n xs low is = subst IsUtf8 (sym is) (IsUtf8-from_ascii (decimal n) (IsAscii-decimal n (omega (arith, low))))

-- all that is behind a place
pub rest_of : (xs : List ℕ) (i : ℕ) → take (length xs - i) (drop i xs) ≡ drop i xs
rest_of xs i = take_all (length xs - i) (drop i xs) (let long = length-drop i xs in omega (arith, long))
  where
    take_all : (n : ℕ) (ys : List ℕ) → length ys ≤ n → take n ys ≡ ys
    take_all zero [] low = refl
    take_all (suc n) [] low = refl
    take_all zero (y ∷ ys) low = absurd (omega (arith, low))
    take_all (suc n) (y ∷ ys) low = ap (λ l. y ∷ l) (take_all n ys (omega (arith, low)))
