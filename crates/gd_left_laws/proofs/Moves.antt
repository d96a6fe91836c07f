-- Each move that is made lowers what is left.
use Rattle.std.proofs.Common.{◌≡◌, ◌∙◌, ℕ, suc, ◌+◌, ◌<◌, ◌≤◌, List, [], ◌∷◌, length, filter, Bool, true, false, cond, inl, inr, Option, Some, None, refl, sym, ap, arith}
use Rattle.std.specs.Prelude.{sum_by, nat_le, nat_lt, min, if◌then◌else◌}
use Rattle.std.proofs.lemmas.Bool.{false≢true, leb-true, le-leb, ltb-true, ltb-false}
use Rattle.std.proofs.lemmas.List.Sums.{sum_by-cons}
use Rattle.gd_prim.specs.declared.Primitive.{Primitive}
use Rattle.gd_prim.specs.declared.End.{End}
use Rattle.gd_prim.specs.declared.End.TheVariants.{Typ}
use Rattle.gd_prim.specs.End.{places_with}
use Rattle.gd_defs.specs.Template.{Hop, links_by, end_here, Template, led_to}
use Rattle.gd_order_laws.specs.Window.{In}
use Rattle.gd_work_laws.specs.Turns.{typ_asked, constraints_of, looked_at, hop_turns, judge_turns}
use Rattle.gd_left_laws.specs.Left.{links_from, looked_from, clause_from, hop_left}

-- ---- from a place on

later : (from to x : ℕ) → from ≤ to → nat_le to x ≡ true → nat_le from x ≡ true
later from to x less is = le-leb from x (within (leb-true to x is))
  where
    within : to ≤ x → from ≤ x
    within more = omega (arith, less, more)

-- what is kept from a later place on is no more
pub sum_later : (h : ℕ → ℕ) (from to : ℕ) (xs : List ℕ) → from ≤ to → sum_by h (filter (nat_le to) xs) ≤ sum_by h (filter (nat_le from) xs)
sum_later h from to [] less = omega arith
sum_later h from to (x ∷ xs) less = by (nat_le to x) (nat_le from x) refl refl (sum_by-cons h x (filter (nat_le to) xs)) (sum_by-cons h x (filter (nat_le from) xs)) (sum_later h from to xs less)
  where
    both : (r s t u : ℕ) → t ≡ h x + r → u ≡ h x + s → r ≤ s → t ≤ u
    both r s t u one two rest = omega (arith, one, two, rest)

    more : (r s u : ℕ) → u ≡ h x + s → r ≤ s → r ≤ u
    more r s u two rest = omega (arith, two, rest)

    by : (a b : Bool) → nat_le to x ≡ a → nat_le from x ≡ b → sum_by h (x ∷ filter (nat_le to) xs) ≡ h x + sum_by h (filter (nat_le to) xs) → sum_by h (x ∷ filter (nat_le from) xs) ≡ h x + sum_by h (filter (nat_le from) xs)
        → sum_by h (filter (nat_le to) xs) ≤ sum_by h (filter (nat_le from) xs) → sum_by h (cond a (x ∷ filter (nat_le to) xs) (filter (nat_le to) xs)) ≤ sum_by h (cond b (x ∷ filter (nat_le from) xs) (filter (nat_le from) xs))
    by true true one_is two_is one two rest = both _ _ _ _ one two rest
    by true false one_is two_is one two rest = absurd (false≢true (sym two_is ∙ later from to x less one_is))
    by false true one_is two_is one two rest = more _ _ _ two rest
    by false false one_is two_is one two rest = rest

-- one that lies between is left out
pub sum_between : (h : ℕ → ℕ) (from to x : ℕ) (xs : List ℕ) → from ≤ x → x < to → In x xs → sum_by h (filter (nat_le to) xs) + h x ≤ sum_by h (filter (nat_le from) xs)
sum_between h from to x [] low high here = absurd here
sum_between h from to x (y ∷ ys) low high here = by here (λ there. sum_between h from to x ys low high there)
  where
    less : from ≤ to
    less = omega (arith, low, high)

    out : y ≡ x → nat_le to y ≡ false
    out same = none (nat_le to y) refl
      where
        none : (b : Bool) → nat_le to y ≡ b → nat_le to y ≡ false
        none false is = is
        none true is = absurd (clash (leb-true to y is))
          where
            clash : to ≤ y → ⊥
            clash more = omega (arith, same, high, more)

    kept : y ≡ x → nat_le from y ≡ true
    kept same = le-leb from y (there same)
      where
        there : y ≡ x → from ≤ y
        there same = omega (arith, same, low)

    first : (r s u : ℕ) → u ≡ h y + s → r ≤ s → h y ≡ h x → r + h x ≤ u
    first r s u is rest same = omega (arith, is, rest, same)

    here_it : y ≡ x → sum_by h (filter (nat_le to) (y ∷ ys)) + h x ≤ sum_by h (filter (nat_le from) (y ∷ ys))
    here_it same = rw (out same, kept same) (first _ _ _ (sum_by-cons h y (filter (nat_le from) ys)) (sum_later h from to ys less) (ap h same))

    both : (r s t u : ℕ) → t ≡ h y + r → u ≡ h y + s → r + h x ≤ s → t + h x ≤ u
    both r s t u one two rest = omega (arith, one, two, rest)

    more : (r s u : ℕ) → u ≡ h y + s → r + h x ≤ s → r + h x ≤ u
    more r s u two rest = omega (arith, two, rest)

    there_it : (a b : Bool) → nat_le to y ≡ a → nat_le from y ≡ b → sum_by h (filter (nat_le to) ys) + h x ≤ sum_by h (filter (nat_le from) ys)
        → sum_by h (cond a (y ∷ filter (nat_le to) ys) (filter (nat_le to) ys)) + h x ≤ sum_by h (cond b (y ∷ filter (nat_le from) ys) (filter (nat_le from) ys))
    there_it true true one two rest = both _ _ _ _ (sum_by-cons h y (filter (nat_le to) ys)) (sum_by-cons h y (filter (nat_le from) ys)) rest
    there_it true false one two rest = absurd (false≢true (sym two ∙ later from to y less one))
    there_it false true one two rest = more _ _ _ (sum_by-cons h y (filter (nat_le from) ys)) rest
    there_it false false one two rest = rest

    by : In x (y ∷ ys) → (In x ys → sum_by h (filter (nat_le to) ys) + h x ≤ sum_by h (filter (nat_le from) ys)) → sum_by h (filter (nat_le to) (y ∷ ys)) + h x ≤ sum_by h (filter (nat_le from) (y ∷ ys))
    by (inl same) rest = here_it same
    by (inr there) rest = there_it (nat_le to y) (nat_le from y) refl refl (rest there)

ones : (xs : List ℕ) → sum_by (λ (x : ℕ). 1) xs ≡ length xs
ones [] = refl
ones (x ∷ xs) = by _ _ _ (sum_by-cons (λ (y : ℕ). 1) x xs) (ones xs)
  where
    by : (s r l : ℕ) → s ≡ 1 + r → r ≡ l → s ≡ suc l
    by s r l one two = omega (arith, one, two)

count_later : (from to : ℕ) (xs : List ℕ) → from ≤ to → length (filter (nat_le to) xs) ≤ length (filter (nat_le from) xs)
count_later from to xs less = by _ _ _ _ (ones (filter (nat_le to) xs)) (ones (filter (nat_le from) xs)) (sum_later (λ x. 1) from to xs less)
  where
    by : (a b c d : ℕ) → a ≡ b → c ≡ d → a ≤ c → b ≤ d
    by a b c d one two less = omega (arith, one, two, less)

count_between : (from to x : ℕ) (xs : List ℕ) → from ≤ x → x < to → In x xs → length (filter (nat_le to) xs) + 1 ≤ length (filter (nat_le from) xs)
count_between from to x xs low high here = by _ _ _ _ (ones (filter (nat_le to) xs)) (ones (filter (nat_le from) xs)) (sum_between (λ x. 1) from to x xs low high here)
  where
    by : (a b c d : ℕ) → a ≡ b → c ≡ d → a + 1 ≤ c → b + 1 ≤ d
    by a b c d one two less = omega (arith, one, two, less)

pub all_from : (xs : List ℕ) → filter (nat_le 0) xs ≡ xs
all_from [] = refl
all_from (x ∷ xs) = ap (λ b. cond b (x ∷ filter (nat_le 0) xs) (filter (nat_le 0) xs)) (le-leb 0 x (omega arith)) ∙ ap (λ l. x ∷ l) (all_from xs)

-- ---- a clause

module _ (prims : List Primitive) where
  links_later : (e : End) (o : Option ℕ) (place from to : ℕ) → from ≤ to → links_from prims e o place to ≤ links_from prims e o place from
  links_later e None place from to less = count_later from to (places_with e place prims) less
  links_later e (Some typ) place from to less = by (nat_lt (length (places_with Typ typ prims)) (length (places_with e place prims)))
    where
      by : (b : Bool) → (if b then length (filter (nat_le to) (places_with Typ typ prims)) else length (filter (nat_le to) (places_with e place prims)))
          ≤ (if b then length (filter (nat_le from) (places_with Typ typ prims)) else length (filter (nat_le from) (places_with e place prims)))
      by true = count_later from to (places_with Typ typ prims) less
      by false = count_later from to (places_with e place prims) less

  looked_later : (hop : Hop) (t : Template) (place from to : ℕ) → from ≤ to → looked_from prims hop t place to ≤ looked_from prims hop t place from
  looked_later (links_by e) t place from to less = links_later e (typ_asked (constraints_of t)) place from to less
  looked_later (end_here e) t place from to less = count_later from to (led_to prims (end_here e) place) less

  -- going on in a clause leaves no more
  pub clause_later : (hop : Hop) (t : Template) (place from to : ℕ) → from ≤ to → clause_from prims hop t place to ≤ clause_from prims hop t place from
  clause_later hop t place from to less = by _ _ _ _ (looked_later hop t place from to less) (sum_later (judge_turns prims t) from to (led_to prims hop place) less)
    where
      by : (a b c d : ℕ) → a ≤ b → c ≤ d → a + c ≤ b + d
      by a b c d one two = omega (arith, one, two)

  links_between : (e : End) (o : Option ℕ) (place from to x : ℕ) → ((typ : ℕ) → o ≡ Some typ → In x (places_with Typ typ prims)) → from ≤ x → x < to → In x (places_with e place prims) → links_from prims e o place to + 1 ≤ links_from prims e o place from
  links_between e None place from to x typed low high here = count_between from to x (places_with e place prims) low high here
  links_between e (Some typ) place from to x typed low high here = by (nat_lt (length (places_with Typ typ prims)) (length (places_with e place prims)))
    where
      by : (b : Bool) → (if b then length (filter (nat_le to) (places_with Typ typ prims)) else length (filter (nat_le to) (places_with e place prims))) + 1
          ≤ (if b then length (filter (nat_le from) (places_with Typ typ prims)) else length (filter (nat_le from) (places_with e place prims)))
      by true = count_between from to x (places_with Typ typ prims) low high (typed typ refl)
      by false = count_between from to x (places_with e place prims) low high here

  looked_between : (hop : Hop) (t : Template) (place from to x : ℕ) → ((typ : ℕ) → typ_asked (constraints_of t) ≡ Some typ → In x (places_with Typ typ prims)) → from ≤ x → x < to → In x (led_to prims hop place) → looked_from prims hop t place to + 1 ≤ looked_from prims hop t place from
  looked_between (links_by e) t place from to x typed low high here = links_between e (typ_asked (constraints_of t)) place from to x typed low high here
  looked_between (end_here e) t place from to x typed low high here = count_between from to x (led_to prims (end_here e) place) low high here

  -- a place that is taken has its turns
  pub clause_between : (hop : Hop) (t : Template) (place from to x : ℕ) → ((typ : ℕ) → typ_asked (constraints_of t) ≡ Some typ → In x (places_with Typ typ prims)) → from ≤ x → x < to → In x (led_to prims hop place)
      → clause_from prims hop t place to + (1 + judge_turns prims t x) ≤ clause_from prims hop t place from
  clause_between hop t place from to x typed low high here = by _ _ _ _ _ (looked_between hop t place from to x typed low high here) (sum_between (judge_turns prims t) from to x (led_to prims hop place) low high here)
    where
      by : (a b c d n : ℕ) → a + 1 ≤ b → c + n ≤ d → a + c + (1 + n) ≤ b + d
      by a b c d n one two = omega (arith, one, two)

  looked_all : (hop : Hop) (t : Template) (place : ℕ) → looked_from prims hop t place 0 ≡ looked_at prims hop t place
  looked_all (end_here e) t place = ap length (all_from (led_to prims (end_here e) place))
  looked_all (links_by e) t place = by (typ_asked (constraints_of t))
    where
      by : (o : Option ℕ) → links_from prims e o place 0 ≡ Rattle.gd_work_laws.specs.Turns.links_looked_at prims e o place
      by None = ap length (all_from (places_with e place prims))
      by (Some typ) = one (nat_lt (length (places_with Typ typ prims)) (length (places_with e place prims))) refl
        where
          least : (m n : ℕ) → m < n → m ≡ min m n
          least m n less = omega (arith, less)

          other : (m n : ℕ) → n ≤ m → n ≡ min m n
          other m n less = omega (arith, less)

          one : (b : Bool) → nat_lt (length (places_with Typ typ prims)) (length (places_with e place prims)) ≡ b
              → (if b then length (filter (nat_le 0) (places_with Typ typ prims)) else length (filter (nat_le 0) (places_with e place prims))) ≡ min (length (places_with Typ typ prims)) (length (places_with e place prims))
          one true is = ap length (all_from (places_with Typ typ prims)) ∙ least _ _ (ltb-true _ _ is)
          one false is = ap length (all_from (places_with e place prims)) ∙ other _ _ (ltb-false _ _ is)

  -- from its start on a clause has all its turns
  pub clause_all : (hop : Hop) (t : Template) (place : ℕ) → clause_from prims hop t place 0 ≡ looked_at prims hop t place + sum_by (judge_turns prims t) (led_to prims hop place)
  clause_all hop t place = ap (λ n. n + sum_by (judge_turns prims t) (filter (nat_le 0) (led_to prims hop place))) (looked_all hop t place)
      ∙ ap (λ l. looked_at prims hop t place + sum_by (judge_turns prims t) l) (all_from (led_to prims hop place))

pub hop_parts : (hop : Hop) → 1 + hop_left hop ≤ hop_turns hop
hop_parts (links_by e) = omega arith
hop_parts (end_here e) = omega arith
