-- The identities of a rising list that are less than an end.
use Rattle.std.proofs.Common.{◌≡◌, ℕ, zero, suc, ◌-◌, ◌<◌, ◌≤◌, Bool, true, false, cond, min, List, [], ◌∷◌, length, take, refl, sym, ap, ◌∙◌, arith}
use Rattle.std.specs.Prelude.{Option, None, Some, nat_lt, slice_get, slice_index, if◌then◌else◌}
use Rattle.std.specs.List.{last_or}
use Rattle.std.proofs.lemmas.Bool.{lt-ltb, le-ltb, ltb-true, ltb-false}
use Rattle.gd_postings.specs.Postings.{IsRising, ids_below, first_from}
use Rattle.gd_store.specs.Indexed.{below_end}

rest_rising : (x : ℕ) (xs : List ℕ) → IsRising (x ∷ xs) → IsRising xs
rest_rising x xs rising i j less there = rising (suc i) (suc j) (omega (arith, less)) (omega (arith, there))

-- the others of a list whose first is not less are not less
rest_above : (x : ℕ) (xs : List ℕ) (end : ℕ) → IsRising (x ∷ xs) → end ≤ x → (i : ℕ) → i < length xs → end ≤ slice_index xs i
rest_above x xs end rising up i there =
    let less : x < slice_index xs i = rising 0 (suc i) (omega arith) (omega (arith, there)) in
    omega (arith, less, up)

none : (xs : List ℕ) (end : ℕ) → ((i : ℕ) → i < length xs → end ≤ slice_index xs i) → ids_below end xs ≡ []
none [] end above = refl
none (x ∷ xs) end above =
    ap (λ b. cond b (x ∷ ids_below end xs) (ids_below end xs)) (le-ltb x end (above 0 (omega arith)))
    ∙ none xs end (λ i there. above (suc i) (omega (arith, there)))

-- they are a front of it
pub below_is_front : (ids : List ℕ) (end : ℕ) → IsRising ids → ids_below end ids ≡ take (length (ids_below end ids)) ids
below_is_front [] end rising = refl
below_is_front (x ∷ xs) end rising = either (nat_lt x end) refl (below_is_front xs end (rest_rising x xs rising))
  where
    either : (b : Bool) → nat_lt x end ≡ b → ids_below end xs ≡ take (length (ids_below end xs)) xs → cond b (x ∷ ids_below end xs) (ids_below end xs) ≡ take (length (cond b (x ∷ ids_below end xs) (ids_below end xs))) (x ∷ xs)
    either true is front = ap (λ ys. x ∷ ys) front
    either false is front =
        let empty : ids_below end xs ≡ [] = none xs end (rest_above x xs end rising (ltb-false x end is)) in
        empty ∙ ap (λ ys. take (length ys) (x ∷ xs)) (sym empty)

get_front : (xs : List ℕ) (n k : ℕ) → k < n → slice_get (take n xs) k ≡ slice_get xs k
get_front xs zero k less = absurd (omega (arith, less))
get_front [] (suc n) k less = refl
get_front (x ∷ xs) (suc n) zero less = refl
get_front (x ∷ xs) (suc n) (suc k) less = get_front xs n k (omega (arith, less))

last_at : (ys : List ℕ) (o : Option ℕ) (n x : ℕ) → length ys ≡ suc n → slice_get ys n ≡ Some x → last_or o ys ≡ Some x
last_at [] o n x count is = absurd (omega (arith, count))
last_at (y ∷ []) o zero x count is = is
last_at (y ∷ []) o (suc n) x count is = absurd (omega (arith, count))
last_at (y ∷ z ∷ zs) o zero x count is = absurd (omega (arith, count))
last_at (y ∷ z ∷ zs) o (suc n) x count is = last_at (z ∷ zs) (Some y) n x (omega (arith, count)) is

-- the last of them is the one at the place before their number
pub last_below : (ids : List ℕ) (end n x : ℕ) → IsRising ids → n ≡ length (ids_below end ids) → (n ≡ 0 → ⊥) → slice_get ids (n - 1) ≡ Some x → Some x ≡ last_or None (ids_below end ids)
last_below ids end n x rising count some is =
    let one_less : length (ids_below end ids) ≡ suc (n - 1) = omega (arith, count, some) in
    let here : slice_get (ids_below end ids) (n - 1) ≡ Some x =
    ap (λ ys. slice_get ys (n - 1)) (below_is_front ids end rising) ∙ get_front ids (length (ids_below end ids)) (n - 1) (omega (arith, one_less)) ∙ is in
    sym (last_at (ids_below end ids) None (n - 1) x one_less here)

no_last : (ys : List ℕ) → length ys ≡ 0 → None ≡ last_or None ys
no_last [] count = refl
no_last (y ∷ ys) count = absurd (omega (arith, count))

-- where there are none there is no last
pub none_last : (ids : List ℕ) (end : ℕ) → length (ids_below end ids) ≡ 0 → None ≡ last_or None (ids_below end ids)
none_last ids end count = no_last (ids_below end ids) count

few_or_fewer : (b : Bool) (x : ℕ) (ys : List ℕ) (n : ℕ) → length ys ≤ n → length (cond b (x ∷ ys) ys) ≤ suc n
few_or_fewer true x ys n few = omega (arith, few)
few_or_fewer false x ys n few = omega (arith, few)

-- there are no more of them than of all
pub fewer_below : (ids : List ℕ) (end : ℕ) → length (ids_below end ids) ≤ length ids
fewer_below [] end = omega arith
fewer_below (x ∷ xs) end = few_or_fewer (nat_lt x end) x (ids_below end xs) (length xs) (fewer_below xs end)

pub get_none : (xs : List ℕ) (k : ℕ) → length xs ≤ k → None ≡ slice_get xs k
get_none [] k past = refl
get_none (x ∷ xs) zero past = absurd (omega (arith, past))
get_none (x ∷ xs) (suc k) past = get_none xs k (omega (arith, past))

at_place : (xs : List ℕ) (k x : ℕ) → slice_get xs k ≡ Some x → (k < length xs) × (slice_index xs k ≡ x)
at_place [] k x is = cc
at_place (y ∷ xs) zero x is = (omega arith, cc)
at_place (y ∷ xs) (suc k) x is =
    let rest : (k < length xs) × (slice_index xs k ≡ x) = at_place xs k x is in
    (omega (arith, rest.0), rest.1)

above_at : (y : ℕ) (xs : List ℕ) (end n x : ℕ) → IsRising (y ∷ xs) → end ≤ y → n < length (y ∷ xs) → slice_index (y ∷ xs) n ≡ x → end ≤ x
above_at y xs end zero x rising up there is = omega (arith, is, up)
above_at y xs end (suc n) x rising up there is = omega (arith, is, rest_above y xs end rising up n (omega (arith, there)))

-- the k-th of them is the k-th of all, if that is less than the end
pub at_below : (ids : List ℕ) (end k x : ℕ) → IsRising ids → slice_get ids k ≡ Some x → slice_get (ids_below end ids) k ≡ (if nat_lt x end then Some x else None)
at_below [] end k x rising is = cc
at_below (y ∷ xs) end zero x rising is = ap (λ z. slice_get (cond (nat_lt z end) (z ∷ ids_below end xs) (ids_below end xs)) 0) same ∙ first (nat_lt x end) refl
  where
    same : y ≡ x
    same = cc

    first : (b : Bool) → nat_lt x end ≡ b → slice_get (cond b (x ∷ ids_below end xs) (ids_below end xs)) 0 ≡ (if b then Some x else None)
    first true less = refl
    first false less = ap (λ ys. slice_get ys 0) (none xs end (rest_above y xs end rising (omega (arith, same, ltb-false x end less))))
at_below (y ∷ xs) end (suc k) x rising is = either (nat_lt y end) refl (at_below xs end k x (rest_rising y xs rising) is)
  where
    place : (suc k < length (y ∷ xs)) × (slice_index (y ∷ xs) (suc k) ≡ x)
    place = at_place (y ∷ xs) (suc k) x is

    either : (b : Bool) → nat_lt y end ≡ b → slice_get (ids_below end xs) k ≡ (if nat_lt x end then Some x else None) → slice_get (cond b (y ∷ ids_below end xs) (ids_below end xs)) (suc k) ≡ (if nat_lt x end then Some x else None)
    either true less rest = rest
    either false less rest =
        let up : end ≤ y = ltb-false y end less in
        let above : end ≤ x = above_at y xs end (suc k) x rising up place.0 place.1 in
        ap (λ ys. slice_get ys (suc k)) (none xs end (rest_above y xs end rising up)) ∙ ap (λ c. if c then Some x else None) (sym (le-ltb x end above))

-- those below two ends are those below the nearer one
pub below_both : (from end : ℕ) (ids : List ℕ) → ids_below (min from end) ids ≡ ids_below from (ids_below end ids)
below_both from end [] = refl
below_both from end (x ∷ xs) = either (nat_lt x from) (nat_lt x end) refl refl (below_both from end xs)
  where
    either : (a b : Bool) → nat_lt x from ≡ a → nat_lt x end ≡ b → ids_below (min from end) xs ≡ ids_below from (ids_below end xs)
        → ids_below (min from end) (x ∷ xs) ≡ ids_below from (cond b (x ∷ ids_below end xs) (ids_below end xs))
    either true true near less rest =
        ap (λ c. cond c (x ∷ ids_below (min from end) xs) (ids_below (min from end) xs)) (lt-ltb x (min from end) (omega (arith, ltb-true x from near, ltb-true x end less)))
        ∙ ap (λ ys. x ∷ ys) rest
        ∙ ap (λ c. cond c (x ∷ ids_below from (ids_below end xs)) (ids_below from (ids_below end xs))) (sym near)
    either false true near less rest =
        ap (λ c. cond c (x ∷ ids_below (min from end) xs) (ids_below (min from end) xs)) (le-ltb x (min from end) (omega (arith, ltb-false x from near)))
        ∙ rest
        ∙ ap (λ c. cond c (x ∷ ids_below from (ids_below end xs)) (ids_below from (ids_below end xs))) (sym near)
    either a false near less rest =
        ap (λ c. cond c (x ∷ ids_below (min from end) xs) (ids_below (min from end) xs)) (le-ltb x (min from end) (omega (arith, ltb-false x end less)))
        ∙ rest

-- the first of them that is not less than another place is the first of all, if that is less than the end
pub first_both : (from end : ℕ) (ids : List ℕ) → IsRising ids → first_from from (ids_below end ids) ≡ below_end end (first_from from ids)
first_both from end [] rising = refl
first_both from end (x ∷ xs) rising = either (nat_lt x from) (nat_lt x end) refl refl (first_both from end xs (rest_rising x xs rising))
  where
    either : (a b : Bool) → nat_lt x from ≡ a → nat_lt x end ≡ b → first_from from (ids_below end xs) ≡ below_end end (first_from from xs)
        → first_from from (cond b (x ∷ ids_below end xs) (ids_below end xs)) ≡ below_end end (first_from from (x ∷ xs))
    either true true low less rest = rw low rest
    either true false low up rest = rw low rest
    either false true high less rest = rw (high, less) refl
    either false false high up rest =
        let empty : ids_below end xs ≡ [] = none xs end (rest_above x xs end rising (ltb-false x end up)) in
        rw (high, up, empty) refl
