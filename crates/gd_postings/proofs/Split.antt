-- Where a rising list is split, and how far a halving goes.
use Rattle.std.proofs.Common.{◌≡◌, ◌∙◌, ◌+◌, ◌-◌, ◌*◌, ◌^◌, ◌<◌, ◌≤◌, ℕ, zero, suc, true, false, List, [], ◌∷◌, length, take, Some, None, refl, sym, subst, ap, arith, ◌++◌, ⊎_elim, length-append}
use Rattle.std.specs.Prelude.{nat_lt, slice_index}
use Rattle.std.proofs.Math.Nat.{pow-succ'}
use Rattle.std.proofs.lemmas.Bool.{lt-ltb, le-ltb, cases_lt}
use Rattle.std.proofs.lemmas.Grind.{common_steps}
use Rattle.gd_postings.specs.Postings.{IsRising, IsAbove, IsSplit, ids_below, first_from}

pub halved : (i w v : ℕ) → i < 21 → w < 2 ^ (21 - i) → v + v ≤ w → v < 2 ^ (21 - (i + 1))
halved i w v small under half =
    let e : 21 - i ≡ suc (21 - (i + 1)) = omega (arith, small) in
    let p : 2 ^ (21 - i) ≡ 2 * 2 ^ (21 - (i + 1)) = ap (λ n. 2 ^ n) e ∙ pow-succ' 2 (21 - (i + 1)) in
    omega (arith, under, half, p)

-- the split of the rest of a list
rest_split : (x : ℕ) (xs : List ℕ) (end i : ℕ) → IsSplit (x ∷ xs) end (suc i) (suc i) → IsSplit xs end i i
rest_split x xs end i s = record { order = omega arith; within = omega (arith, s.within); before = λ j h. s.before (suc j) (omega (arith, h)); behind = λ j h k. s.behind (suc j) (omega (arith, h)) (omega (arith, k)) }

first_split : (x : ℕ) (xs : List ℕ) (end : ℕ) → IsSplit (x ∷ xs) end 0 0 → IsSplit xs end 0 0
first_split x xs end s = record { order = omega arith; within = omega arith; before = λ j h. absurd (omega (arith, h)); behind = λ j h k. s.behind (suc j) (omega arith) (omega (arith, k)) }

counts : (ids : List ℕ) (end i : ℕ) → IsSplit ids end i i → length (ids_below end ids) ≡ i
counts [] end i s = let w = s.within in omega (arith, w)
counts (x ∷ xs) end zero s =
    let no : nat_lt x end ≡ false = le-ltb x end (s.behind 0 (omega arith) (omega arith)) in
    let rest = counts xs end 0 (first_split x xs end s) in
    grind (arith, common_steps, no, rest)
counts (x ∷ xs) end (suc i) s =
    let yes : nat_lt x end ≡ true = lt-ltb x end (s.before 0 (omega arith)) in
    let rest = counts xs end i (rest_split x xs end i s) in
    grind (arith, common_steps, yes, rest)

pub is_count : (ids : List ℕ) (end i : ℕ) → IsSplit ids end i i → i ≡ length (ids_below end ids)
is_count ids end i s = sym (counts ids end i s)

-- the part before a split is what lies below its end
pub are_below : (ids : List ℕ) (end i : ℕ) → IsSplit ids end i i → take i ids ≡ ids_below end ids
are_below [] end zero s = refl
are_below [] end (suc i) s = refl
are_below (x ∷ xs) end zero s =
    let no : nat_lt x end ≡ false = le-ltb x end (s.behind 0 (omega arith) (omega arith)) in
    let rest = are_below xs end 0 (first_split x xs end s) in
    grind (arith, common_steps, no, rest)
are_below (x ∷ xs) end (suc i) s =
    let yes : nat_lt x end ≡ true = lt-ltb x end (s.before 0 (omega arith)) in
    let rest = are_below xs end i (rest_split x xs end i s) in
    grind (arith, common_steps, yes, rest)

pub finds : (ids : List ℕ) (end i : ℕ) → IsSplit ids end i i → i < length ids → first_from end ids ≡ Some (slice_index ids i)
finds [] end i s there = absurd (omega (arith, there))
finds (x ∷ xs) end zero s there =
    let no : nat_lt x end ≡ false = le-ltb x end (s.behind 0 (omega arith) (omega arith)) in
    grind (arith, common_steps, no)
finds (x ∷ xs) end (suc i) s there =
    let yes : nat_lt x end ≡ true = lt-ltb x end (s.before 0 (omega arith)) in
    let rest = finds xs end i (rest_split x xs end i s) (omega (arith, there)) in
    grind (arith, common_steps, yes, rest)

pub finds_none : (ids : List ℕ) (end i : ℕ) → IsSplit ids end i i → i ≡ length ids → first_from end ids ≡ None
finds_none [] end i s e = refl
finds_none (x ∷ xs) end zero s e = absurd (omega (arith, e))
finds_none (x ∷ xs) end (suc i) s e =
    let yes : nat_lt x end ≡ true = lt-ltb x end (s.before 0 (omega arith)) in
    let rest = finds_none xs end i (rest_split x xs end i s) (omega (arith, e)) in
    grind (arith, common_steps, yes, rest)

at_least : (ids : List ℕ) → IsRising ids → (i : ℕ) → i < length ids → i ≤ slice_index ids i
at_least ids rising zero there = omega arith
at_least ids rising (suc i) there =
    let below = at_least ids rising i (omega (arith, there)) in
    let next = rising i (suc i) (omega arith) there in
    omega (arith, below, next)

few_of : (ids : List ℕ) (id n : ℕ) → IsRising ids → IsAbove ids id → n ≡ length ids → n ≤ id
few_of ids id zero rising above e = omega arith
few_of ids id (suc n) rising above e =
    let there : n < length ids = omega (arith, e) in
    let low = at_least ids rising n there in
    let high = above n there in
    omega (arith, low, high)

pub few : (ids : List ℕ) (id : ℕ) → IsRising ids → IsAbove ids id → length ids ≤ id
few ids id rising above = few_of ids id (length ids) rising above refl

at_old : (xs : List ℕ) (y i : ℕ) → i < length xs → slice_index (xs ++ y ∷ []) i ≡ slice_index xs i
at_old [] y i there = absurd (omega (arith, there))
at_old (x ∷ xs) y zero there = refl
at_old (x ∷ xs) y (suc i) there = at_old xs y i (omega (arith, there))

at_new : (xs : List ℕ) (y : ℕ) → slice_index (xs ++ y ∷ []) (length xs) ≡ y
at_new [] y = refl
at_new (x ∷ xs) y = at_new xs y

-- a list stays rising with an identity above all of it
pub rising_more : (ids : List ℕ) (id : ℕ) (more : List ℕ) → IsRising ids → IsAbove ids id → more ≡ ids ++ id ∷ [] → IsRising more
rising_more ids id more rising above is = subst IsRising (sym is) pushed
  where
    last : (i j : ℕ) → i < j → j ≡ length ids → slice_index (ids ++ id ∷ []) i < slice_index (ids ++ id ∷ []) j
    last i j before end =
        let low = at_old ids id i (omega (arith, before, end)) in
        let high = ap (slice_index (ids ++ id ∷ [])) end ∙ at_new ids id in
        let less = above i (omega (arith, before, end)) in
        omega (arith, low, high, less)

    within : (i j : ℕ) → i < j → j < length ids → slice_index (ids ++ id ∷ []) i < slice_index (ids ++ id ∷ []) j
    within i j before there =
        let low = at_old ids id i (omega (arith, before, there)) in
        let high = at_old ids id j there in
        let less = rising i j before there in
        omega (arith, low, high, less)

    pushed : IsRising (ids ++ id ∷ [])
    pushed i j before there = ⊎_elim (λ less. within i j before less) (λ end. last i j before (omega (arith, end, there, length-append ids (id ∷ [])))) (cases_lt j (length ids))

-- the bound on the length of a list stays with an identity above all of it
pub still_few : (ids more : List ℕ) (id : ℕ) → IsRising ids → IsAbove ids id → id < 2_097_151 → more ≡ ids ++ id ∷ [] → length more ≤ 2_097_151
still_few ids more id rising above small longer =
    let low = few ids id rising above in
    let count = ap length longer ∙ length-append ids (id ∷ []) in
    omega (arith, low, small, count)

-- where the last identity of a rising list is less than an end, all are
pub all_before : (ids : List ℕ) (end n : ℕ) → IsRising ids → suc n ≡ length ids → slice_index ids n < end → IsSplit ids end (length ids) (length ids)
all_before ids end n rising e last = record { order = omega arith; within = omega arith; before = before; behind = λ i h k. absurd (omega (arith, h, k)) }
  where
    before : (i : ℕ) → i < length ids → slice_index ids i < end
    before i there = ⊎_elim
        (λ less. let low = rising i n less (omega (arith, e)) in omega (arith, low, last))
        (λ least. let same : i ≡ n = omega (arith, least, there, e) in let q = ap (slice_index ids) same in omega (arith, q, last))
        (cases_lt i n)

-- where the identity at a place is none that is less than an end, and the one before it is, a rising list is split there
pub split_here : (ids : List ℕ) (end at : ℕ) → IsRising ids → at < length ids → end ≤ slice_index ids at → (0 < at → slice_index ids (at - 1) < end) → IsSplit ids end at at
split_here ids end at rising there high low = record { order = omega arith; within = omega (arith, there); before = before; behind = behind }
  where
    before : (i : ℕ) → i < at → slice_index ids i < end
    before i less = ⊎_elim
        (λ under. let up = rising i (at - 1) under (omega (arith, there)) in let last = low (omega (arith, less)) in omega (arith, up, last))
        (λ least. let same : i ≡ at - 1 = omega (arith, least, less) in let q = ap (slice_index ids) same in let last = low (omega (arith, less)) in omega (arith, q, last))
        (cases_lt i (at - 1))

    behind : (i : ℕ) → at ≤ i → i < length ids → end ≤ slice_index ids i
    behind i from inside = ⊎_elim
        (λ more. let up = rising at i more inside in omega (arith, up, high))
        (λ least. let same : i ≡ at = omega (arith, least, from) in let q = ap (slice_index ids) same in omega (arith, q, high))
        (cases_lt at i)
