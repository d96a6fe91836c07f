-- Numbers are read exactly.
use Rattle.std.proofs.Common.{◌≡◌, refl, ◌⊎◌, inl, inr, ℕ, zero, suc, ◌+◌, ◌-◌, ◌*◌, ◌/◌, ◌%◌, ◌^◌, ◌<◌, ◌≤◌, Bool, true, false, ◌&&◌, ◌||◌, nat_lt, nat_le, List, [], ◌∷◌, ◌++◌, Ok, sym, ◌∙◌, ap, subst, arith, le-leb, add-one}
use Rattle.std.proofs.Math.Nat.{pow-suc, pow-le-pow_right, one-le-pow, div-div-eq-div-mul, div-mul-le_self, mul-le-mul_right}
use Rattle.std.proofs.lemmas.Nat.{pow-add, le-div, div-mul-add}
use Rattle.std.proofs.lemmas.Bool.{cases_lt}
use Rattle.std.proofs.lemmas.Bool.Decides.{nat_tests}
use Rattle.std.specs.List.{list_all}
use Rattle.std.specs.Int.{byte_at, bytes_high_first}
use Rattle.gd_grammar.specs.Chain.{◌>>=◌}
use Rattle.gd_grammar.specs.Grammar.{Reads}
use Rattle.gd_grammar.proofs.Scans.{Then, Only}
use Rattle.gd_grammar.specs.Reading.{Range, may_reach, begins_number, number_goes_on, byte_if, number_from, number_at}
use Rattle.gd_grammar.proofs.Exact.{Exact, Sound, Exact-then, Exact-only, Exact-byte, Exact-same, OneByte, byte_found}

-- ---- tests

or_cases : (a b : Bool) → (a || b) ≡ true → (a ≡ true) ⊎ (b ≡ true)
or_cases true b is = inl refl
or_cases false b is = inr is

or_left : (a b : Bool) → a ≡ true → (a || b) ≡ true
or_left a b is = ap (λ (t : Bool). t || b) is

or_right : (a b : Bool) → b ≡ true → (a || b) ≡ true
or_right true b is = refl
or_right false b is = is

and_parts : (a b : Bool) → (a && b) ≡ true → (a ≡ true) × (b ≡ true)
and_parts true b is = (refl, is)
and_parts false b is = cc

and_both : (a b : Bool) → a ≡ true → b ≡ true → (a && b) ≡ true
and_both a b p q = ap (λ (t : Bool). t && b) p ∙ q

le_of : (a b : ℕ) → nat_le a b ≡ true → a ≤ b
le_of a b is = grind (arith, nat_tests)

lt_of : (a b : ℕ) → nat_lt a b ≡ true → a < b
lt_of a b is = grind (arith, nat_tests)

lt_true : (a b : ℕ) → a < b → nat_lt a b ≡ true
lt_true a b is = grind (arith, nat_tests)

-- ---- the code's shifts and loops

pub pow_bytes : (k : ℕ) → 2 ^ (8 * k) ≡ 256 ^ k
pow_bytes zero = refl
pow_bytes (suc k) =
    let split : 8 * suc k ≡ 8 * k + 8 = omega arith in
    ap (λ (n : ℕ). 2 ^ n) split ∙ pow-add 2 (8 * k) 8 ∙ ap (λ (p : ℕ). p * 256) (pow_bytes k) ∙ sym (pow-suc 256 k)

and_true : (a b : Bool) → a ≡ true → (a && b) ≡ b
and_true a b is = ap (λ (t : Bool). t && b) is

and_false : (a b : Bool) → a ≡ false → (a && b) ≡ false
and_false a b is = ap (λ (t : Bool). t && b) is

pub reach_low : (k n : ℕ) (range : Range) → range.0 / 2 ^ (8 * k) ≤ n → nat_le n (range.1 / 2 ^ (8 * k)) ≡ may_reach k n range
reach_low k n range low =
    ap (λ (p : ℕ). nat_le n (range.1 / p)) (pow_bytes k) ∙ sym (and_true (nat_le (range.0 / 256 ^ k) n) (nat_le n (range.1 / 256 ^ k)) (le-leb (range.0 / 256 ^ k) n (subst (λ (p : ℕ). range.0 / p ≤ n) (pow_bytes k) low)))

pub reach_none : (k n : ℕ) (range : Range) → n < range.0 / 2 ^ (8 * k) → nat_le (range.0 / 2 ^ (8 * k)) n ≡ may_reach k n range
reach_none k n range high = fails (range.0 / 2 ^ (8 * k)) high ∙ sym (and_false (nat_le (range.0 / 256 ^ k) n) (nat_le n (range.1 / 256 ^ k)) (fails (range.0 / 256 ^ k) (subst (λ (p : ℕ). n < range.0 / p) (pow_bytes k) high)))
  where
    fails : (x : ℕ) → n < x → nat_le x n ≡ false
    fails x h = grind (arith, nat_tests)

-- a number of fewer than eight bytes
pub below_56 : (n place : ℕ) → n < 256 ^ place → place < 8 → n < 2 ^ 56
below_56 n place small few =
    let most : 256 ^ place ≤ 256 ^ 7 = pow-le-pow_right {n = 256} (omega arith) {i = place} {j = 7} (omega arith) in
    omega (arith, most)

pub below_more : (n b place : ℕ) → n < 256 ^ place → b < 256 → 256 * n + b < 256 ^ (place + 1)
below_more n b place small byte =
    let power : 256 ^ (place + 1) ≡ 256 ^ place * 256 = ap (λ (k : ℕ). 256 ^ k) (add-one place) ∙ pow-suc 256 place in
    omega (arith, power)

-- a byte that goes on is a byte
pub byte_small : (ranges : List Range) (k n b : ℕ) (rest after : List ℕ) → byte_if (number_goes_on ranges k n) rest ≡ Ok (b, after) → b < 256
byte_small ranges k n b rest after is =
    let (w, (test, w_is), split) = byte_found (number_goes_on ranges k n) rest b after is in
    lt_of b 256 (and_parts (nat_lt b 256) (begins_number ranges k (256 * n + b)) test).0

-- one byte of a number
pub number_more : (ranges : List Range) (size place n b x : ℕ) (rest after : List ℕ) → place < size → byte_if (number_goes_on ranges (size - 1 - place) n) rest ≡ Ok (b, after) → x ≡ b
    → number_from ranges (size - (place + 1)) (256 * n + x) after ≡ number_from ranges (size - place) n rest
number_more ranges size place n b x rest after more is same =
    let fewer : size - (place + 1) ≡ size - 1 - place = omega arith in
    let here : size - place ≡ suc (size - 1 - place) = omega (arith, more) in
    ap (λ (k : ℕ). number_from ranges k (256 * n + x) after) fewer ∙ ap (λ (y : ℕ). number_from ranges (size - 1 - place) (256 * n + y) after) same
    ∙ sym (ap (λ (k : ℕ). number_from ranges k n rest) here ∙ ap (λ (r : Reads ℕ). r >>= λ x. number_from ranges (size - 1 - place) (256 * n + x.0) x.1) is)

-- ---- numbers of ranges

positive : (k : ℕ) → 0 < 256 ^ k
positive k = let least = one-le-pow k 256 (omega arith) in omega (arith, least)

div_le : (a b p : ℕ) → 0 < p → a ≤ b → a / p ≤ b / p
div_le a b p some h = let least = div-mul-le_self a p in le-div (a / p) b p some (omega (arith, least, h))

-- the least number lies below the greatest in each range
abbrev pub ordered : List Range → Bool
ordered ranges = list_all (λ range. nat_le range.0 range.1) ranges

-- each number of the ranges has at most so many bytes
abbrev pub fits_size : ℕ → List Range → Bool
fits_size size ranges = list_all (λ range. nat_lt range.1 (256 ^ size)) ranges

reach_parts : (k n : ℕ) (range : Range) → may_reach k n range ≡ true → (range.0 / 256 ^ k ≤ n) × (n ≤ range.1 / 256 ^ k)
reach_parts k n range is = let (a, b) = and_parts (nat_le (range.0 / 256 ^ k) n) (nat_le n (range.1 / 256 ^ k)) is in (le_of (range.0 / 256 ^ k) n a, le_of n (range.1 / 256 ^ k) b)

parts_reach : (k n : ℕ) (range : Range) → range.0 / 256 ^ k ≤ n → n ≤ range.1 / 256 ^ k → may_reach k n range ≡ true
parts_reach k n range low high = and_both (nat_le (range.0 / 256 ^ k) n) (nat_le n (range.1 / 256 ^ k)) (le-leb (range.0 / 256 ^ k) n low) (le-leb n (range.1 / 256 ^ k) high)

-- the front of a number of the ranges may begin one
front_begins : (ranges : List Range) (k m : ℕ) → begins_number ranges 0 m ≡ true → begins_number ranges k (m / 256 ^ k) ≡ true
front_begins [] k m is = cc
front_begins (range ∷ ranges) k m is = elim (or_cases (may_reach 0 m range) (begins_number ranges 0 m) is) [
  | inl here ↦
      let (low, high) = reach_parts 0 m range here in
      or_left (may_reach k (m / 256 ^ k) range) (begins_number ranges k (m / 256 ^ k))
      (parts_reach k (m / 256 ^ k) range (div_le range.0 m (256 ^ k) (positive k) (omega (arith, low))) (div_le m range.1 (256 ^ k) (positive k) (omega (arith, high))))
  | inr there ↦ or_right (may_reach k (m / 256 ^ k) range) (begins_number ranges k (m / 256 ^ k)) (front_begins ranges k m there)
]

times_div : (n p : ℕ) → 0 < p → n * p / p ≡ n
times_div n p some = let whole : n * p ≡ n * p + 0 = omega arith in ap (λ (x : ℕ). x / p) whole ∙ div-mul-add n p 0 some

-- a number of the range that goes on from n
number_in : (range : Range) (k n : ℕ) → range.0 ≤ range.1 → range.0 / 256 ^ k ≤ n → n ≤ range.1 / 256 ^ k → (m : ℕ) × (m / 256 ^ k ≡ n) × (range.0 ≤ m) × (m ≤ range.1)
number_in range k n order low high = at (256 ^ k) (positive k) low high
  where
    at : (p : ℕ) → 0 < p → range.0 / p ≤ n → n ≤ range.1 / p → (m : ℕ) × (m / p ≡ n) × (range.0 ≤ m) × (m ≤ range.1)
    at p some below above = elim (cases_lt (n * p) range.0) [
      | inl less ↦ let least = le-div n range.0 p some (omega (arith, less)) in (range.0, omega (arith, below, least), omega arith, order)
      | inr more ↦
          let most = div-mul-le_self range.1 p in
          let product : n * p ≤ range.1 / p * p = mul-le-mul_right p above in
          (n * p, times_div n p some, more, omega (arith, most, product))
    ]

number_some : (ranges : List Range) (k n : ℕ) → ordered ranges ≡ true → begins_number ranges k n ≡ true → (m : ℕ) × (m / 256 ^ k ≡ n) × (begins_number ranges 0 m ≡ true)
number_some [] k n order is = cc
number_some (range ∷ ranges) k n order is =
    let (first, others) = and_parts (nat_le range.0 range.1) (ordered ranges) order in
    elim (or_cases (may_reach k n range) (begins_number ranges k n) is) [
      | inl here ↦
          let (low, high) = reach_parts k n range here in
          let (m, m_is, least, most) = number_in range k n (le_of range.0 range.1 first) low high in
          (m, m_is, or_left (may_reach 0 m range) (begins_number ranges 0 m) (parts_reach 0 m range (omega (arith, least)) (omega (arith, most))))
      | inr there ↦ let (m, m_is, within) = number_some ranges k n others there in (m, m_is, or_right (may_reach 0 m range) (begins_number ranges 0 m) within)
    ]

-- the last k bytes of a number of the ranges whose bytes before give n
abbrev Tail : List Range → ℕ → ℕ → ℕ → List ℕ → Type 0
Tail ranges k n m w = (m / 256 ^ k ≡ n) × (begins_number ranges 0 m ≡ true) × (w ≡ bytes_high_first k m)

byte_is : (k m : ℕ) → byte_at k m ≡ m / 256 ^ k % 256
byte_is zero m = omega arith
byte_is (suc k) m = refl

front_is : (k m : ℕ) → m / 256 ^ suc k ≡ m / 256 ^ k / 256
front_is k m = ap (λ (p : ℕ). m / p) (pow-suc 256 k) ∙ sym (div-div-eq-div-mul m (256 ^ k) 256)

zero_tail : (ranges : List Range) (n : ℕ) → begins_number ranges 0 n ≡ true → (m : ℕ) (w : List ℕ) → Only n m w → Tail ranges 0 n m w
zero_tail ranges n is m w (same, none) = (omega (arith, same), subst (λ (x : ℕ). begins_number ranges 0 x ≡ true) (sym same) is, none)

tail_zero : (ranges : List Range) (n m : ℕ) (w : List ℕ) → Tail ranges 0 n m w → Only n m w
tail_zero ranges n m w (front, within, w_is) = (omega (arith, front), w_is)

module _ (ranges : List Range) (k n : ℕ) where
  abbrev Parts : ℕ → List ℕ → Type 0
  Parts = Then (OneByte (number_goes_on ranges k n)) (λ b. Tail ranges k (256 * n + b))

  test_parts : (b : ℕ) → number_goes_on ranges k n b ≡ true → (b < 256) × (begins_number ranges k (256 * n + b) ≡ true)
  test_parts b is = let (x, y) = and_parts (nat_lt b 256) (begins_number ranges k (256 * n + b)) is in (lt_of b 256 x, y)

  parts_tail : (m : ℕ) (w : List ℕ) → Parts m w → Tail ranges (suc k) n m w
  parts_tail m w (b, v, u, (test, v_is), (front, within, u_is), w_is) =
      let (small, begun) = test_parts b test in
      let whole : m / 256 ^ suc k ≡ n = front_is k m ∙ omega (arith, front, small) in
      let last : byte_at k m ≡ b = byte_is k m ∙ omega (arith, front, small) in
      (whole, within, w_is ∙ ap (λ (l : List ℕ). l ++ u) v_is ∙ ap (λ (l : List ℕ). b ∷ l) u_is ∙ ap (λ (x : ℕ). x ∷ bytes_high_first k m) (sym last))

  -- a number that goes on from n goes on by this byte
  next : (m : ℕ) → m / 256 ^ suc k ≡ n → begins_number ranges 0 m ≡ true → (m / 256 ^ k ≡ 256 * n + byte_at k m) × (number_goes_on ranges k n (byte_at k m) ≡ true)
  next m whole within =
      let split = front_is k m in
      let byte = byte_is k m in
      let front : m / 256 ^ k ≡ 256 * n + byte_at k m = omega (arith, whole, split, byte) in
      let small : byte_at k m < 256 = omega (arith, byte) in
      (front, and_both (nat_lt (byte_at k m) 256) (begins_number ranges k (256 * n + byte_at k m)) (lt_true (byte_at k m) 256 small) (subst (λ (x : ℕ). begins_number ranges k x ≡ true) front (front_begins ranges k m within)))

  tail_parts : (m : ℕ) (w : List ℕ) → Tail ranges (suc k) n m w → Parts m w
  tail_parts m w (whole, within, w_is) = let (front, test) = next m whole within in (byte_at k m, byte_at k m ∷ [], bytes_high_first k m, (test, refl), (front, within, refl), w_is)

Exact-tail : (ranges : List Range) → ordered ranges ≡ true → (k n : ℕ) → begins_number ranges k n ≡ true → Exact (Tail ranges k n) (number_from ranges k n)
Exact-tail ranges order zero n is = Exact-same (Only n) (Tail ranges 0 n) (number_from ranges 0 n) (zero_tail ranges n is) (tail_zero ranges n) (Exact-only n)
Exact-tail ranges order (suc k) n is =
    let (m, front, within) = number_some ranges (suc k) n order is in
    let (first, test) = next ranges k n m front within in
    Exact-same (Parts ranges k n) (Tail ranges (suc k) n) (number_from ranges (suc k) n) (parts_tail ranges k n) (tail_parts ranges k n)
    (Exact-then (OneByte (number_goes_on ranges k n)) (λ b. Tail ranges k (256 * n + b)) (byte_if (number_goes_on ranges k n)) (λ b. number_from ranges k (256 * n + b))
    (Exact-byte (number_goes_on ranges k n) (byte_at k m) test)
    (λ b w (passes, w_is). Exact-tail ranges order k (256 * n + b) (test_parts ranges k n b passes).1)
    (λ b w (passes, w_is). let (m', front', within') = number_some ranges k (256 * n + b) order (test_parts ranges k n b passes).1 in (m', bytes_high_first k m', (front', within', refl))))

-- a number of one of the ranges, in so many bytes
abbrev pub Number : List Range → ℕ → ℕ → List ℕ → Type 0
Number ranges size n w = (begins_number ranges 0 n ≡ true) × (w ≡ bytes_high_first size n)

number_small : (ranges : List Range) (size n : ℕ) → fits_size size ranges ≡ true → begins_number ranges 0 n ≡ true → n < 256 ^ size
number_small [] size n fit is = cc
number_small (range ∷ ranges) size n fit is =
    let (first, others) = and_parts (nat_lt range.1 (256 ^ size)) (fits_size size ranges) fit in
    elim (or_cases (may_reach 0 n range) (begins_number ranges 0 n) is) [
      | inl here ↦ let most = (reach_parts 0 n range here).1 in let bound = lt_of range.1 (256 ^ size) first in omega (arith, most, bound)
      | inr there ↦ number_small ranges size n others there
    ]

pub Exact-number : (ranges : List Range) (size : ℕ) → ordered ranges ≡ true → fits_size size ranges ≡ true → begins_number ranges size 0 ≡ true → Exact (Number ranges size) (number_at ranges size)
unfolding number_at
Exact-number ranges size order fit is =
    Exact-same (Tail ranges size 0) (Number ranges size) (number_at ranges size) (λ n w (front, within, w_is). (within, w_is)) (λ n w (within, w_is). (none n (number_small ranges size n fit within), within, w_is)) (Exact-tail ranges order size 0 is)
  where
    none : (n : ℕ) → n < 256 ^ size → n / 256 ^ size ≡ 0
    none n small = let zero_first : n ≡ 0 * 256 ^ size + n = omega arith in ap (λ (x : ℕ). x / 256 ^ size) zero_first ∙ div-mul-add 0 (256 ^ size) n small

-- a number that was read is at most the greatest
pub number_within : (most size : ℕ) (bytes : List ℕ) (n : ℕ) (rest : List ℕ) → fits_size size ((0, most) ∷ []) ≡ true → begins_number ((0, most) ∷ []) size 0 ≡ true → number_at ((0, most) ∷ []) size bytes ≡ Ok (n, rest) → n ≤ most
number_within most size bytes n rest fit is reads =
    let (w, (within, w_is), split) = (Exact-number ((0, most) ∷ []) size order fit is).found bytes n rest reads in
    elim (or_cases (may_reach 0 n (0, most)) false within) [ inl here ↦ let least = (reach_parts 0 n (0, most) here).1 in omega (arith, least) | inr there ↦ absurd (none there) ]
  where
    order : ordered ((0, most) ∷ []) ≡ true
    order = grind (arith, nat_tests)

    none : false ≡ true → ⊥
    none e = cc

-- a number from the least to the greatest of a range, in so many bytes
abbrev pub InRange : ℕ → ℕ → ℕ → ℕ → List ℕ → Type 0
InRange least most size n w = (least ≤ n) × (n ≤ most) × (w ≡ bytes_high_first size n)

one_range : (least most n : ℕ) → begins_number ((least, most) ∷ []) 0 n ≡ true → (least ≤ n) × (n ≤ most)
one_range least most n is = elim (or_cases (may_reach 0 n (least, most)) false is) [
  | inl here ↦ let (low, high) = reach_parts 0 n (least, most) here in (omega (arith, low), omega (arith, high))
  | inr there ↦ absurd (none there)
]
  where
    none : false ≡ true → ⊥
    none e = cc

range_one : (least most n : ℕ) → least ≤ n → n ≤ most → begins_number ((least, most) ∷ []) 0 n ≡ true
range_one least most n low high = or_left (may_reach 0 n (least, most)) false (parts_reach 0 n (least, most) (omega (arith, low)) (omega (arith, high)))

pub Sound-range : (least most size : ℕ) → least ≤ most → fits_size size ((least, most) ∷ []) ≡ true → begins_number ((least, most) ∷ []) size 0 ≡ true → Sound (InRange least most size) (number_at ((least, most) ∷ []) size)
Sound-range least most size order fit is = record {
  exact = Exact-same (Number ((least, most) ∷ []) size) (InRange least most size) (number_at ((least, most) ∷ []) size)
      (λ n w (within, w_is). let (low, high) = one_range least most n within in (low, high, w_is))
      (λ n w (low, high, w_is). (range_one least most n low high, w_is))
      (Exact-number ((least, most) ∷ []) size (and_both (nat_le least most) true (le-leb least most order) refl) fit is);
  some = (least, bytes_high_first size least, (omega arith, order, refl));
}
