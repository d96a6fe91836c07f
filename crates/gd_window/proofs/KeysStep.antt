-- Keys compared one after another.
use Rattle.std.proofs.Common.{◌≡◌, ◌≢◌, ◌∙◌, ◌+◌, ◌<◌, ◌≤◌, ℕ, zero, suc, List, [], ◌∷◌, Bool, Ordering, Option, drop, length, get_or, refl, sym, ap, arith, add-one}
use Rattle.std.specs.Ordering.{ordering_then}
use Rattle.std.specs.declared.cmp.Ordering.TheVariants.{Less, Equal, Greater}
use Rattle.gd_base.specs.declared.datum.Datum.{Datum}
use Rattle.gd_defs.specs.Rows.{key_cmp}
use Rattle.gd_window.specs.declared.keys.Key.{Key}
use Rattle.gd_window.specs.Rows.{first_value, later_values, keys_cmp}

later_behind : (n : ℕ) (ks : List Key) → later_values (drop n ks) ≡ drop (suc n) ks
later_behind zero [] = refl
later_behind zero (k ∷ ks) = refl
later_behind (suc n) [] = refl
later_behind (suc n) (k ∷ ks) = later_behind n ks

opened : (n : ℕ) (order : List Bool) (d : Bool) → n < length order → drop n order ≡ get_or order n d ∷ drop (suc n) order
opened n [] d there = absurd (omega (arith, there))
opened zero (e ∷ order) d there = refl
opened (suc n) (e ∷ order) d there = opened n order d (omega (arith, there))

-- the comparison from a key on, by that key and those behind it
pub keys_from : (n : ℕ) (order : List Bool) (a b : List Key) (d : Bool) → n < length order
    → keys_cmp (drop n order) (drop n a) (drop n b) ≡ ordering_then (key_cmp (get_or order n d) (first_value (drop n a)) (first_value (drop n b))) (keys_cmp (drop (n + 1) order) (drop (n + 1) a) (drop (n + 1) b))
keys_from n order a b d there =
    rw (add-one, opened n order d there) (ap (λ ks. ordering_then (key_cmp (get_or order n d) (first_value (drop n a)) (first_value (drop n b))) (keys_cmp (drop (suc n) order) ks (later_values (drop n b)))) (later_behind n a)
    ∙ ap (λ ks. ordering_then (key_cmp (get_or order n d) (first_value (drop n a)) (first_value (drop n b))) (keys_cmp (drop (suc n) order) (drop (suc n) a) ks)) (later_behind n b))

-- where a key does not tie, it decides
pub decided : (o p : Ordering) → o ≢ Equal → ordering_then o p ≡ o
decided Less p other = refl
decided Equal p other = absurd (other refl)
decided Greater p other = refl

-- where it ties, those behind it decide
pub tied : (o p : Ordering) → o ≡ Equal → ordering_then o p ≡ p
tied o p is = ap (λ q. ordering_then q p) is

-- what was compared at a key, and what is left to compare
pub keys_more : (n : ℕ) (order : List Bool) (a b : List Key) (d : Bool) (o : Ordering) (x y : Option Datum) → n < length order → x ≡ first_value (drop n a) → y ≡ first_value (drop n b) → o ≡ key_cmp (get_or order n d) x y
    → keys_cmp (drop n order) (drop n a) (drop n b) ≡ keys_cmp order a b → keys_cmp order a b ≡ ordering_then o (keys_cmp (drop (n + 1) order) (drop (n + 1) a) (drop (n + 1) b))
keys_more n order a b d o x y there one two is left =
    let rest = keys_cmp (drop (n + 1) order) (drop (n + 1) a) (drop (n + 1) b) in
    let here : o ≡ key_cmp (get_or order n d) (first_value (drop n a)) (first_value (drop n b)) = is ∙ (ap (λ v. key_cmp (get_or order n d) v y) one ∙ ap (λ v. key_cmp (get_or order n d) (first_value (drop n a)) v) two) in
    sym left ∙ keys_from n order a b d there ∙ ap (λ p. ordering_then p rest) (sym here)

-- no key is left to compare
pub keys_done : (n : ℕ) (order : List Bool) (a b : List Key) → length order ≤ n → keys_cmp (drop n order) (drop n a) (drop n b) ≡ keys_cmp order a b → Equal ≡ keys_cmp order a b
keys_done n order a b end left = ap (λ l. keys_cmp l (drop n a) (drop n b)) (sym (none n order end)) ∙ left
  where
    none : (n : ℕ) (order : List Bool) → length order ≤ n → drop n order ≡ []
    none zero [] end = refl
    none (suc n) [] end = refl
    none zero (d ∷ order) end = absurd (omega (arith, end))
    none (suc n) (d ∷ order) end = none n order (omega (arith, end))
