-- Sort keys: whatever is counted of their clauses, their work pays for it where it pays for each property.
use Rattle.std.proofs.Common.{◌≡◌, ℕ, ◌+◌, ◌*◌, ◌≤◌, List, [], ◌∷◌, Bool, arith}
use Rattle.std.specs.Prelude.{sum_by}
use Rattle.std.proofs.lemmas.List.Sums.{sum_by-cons}
use Rattle.gd_prim.specs.declared.Primitive.{Primitive}
use Rattle.gd_defs.specs.Property.{Property}
use Rattle.gd_defs.specs.Asked.{Key, by_guid, by_timestamp, by_property, SortKey}
use Rattle.gd_defs.specs.Plan.{sort_clauses}
use Rattle.gd_defs.specs.Template.{Clauses, no_clauses}
use Rattle.gd_match_laws.specs.PassedOn.{value_work, sort_work}

split_sort : {A : Type 0} (f : A → ℕ) (x : A) (xs : List A) (n m : ℕ) → n ≤ 4 * sum_by f (x ∷ []) + m → m ≤ 4 * sum_by f xs → n ≤ 4 * sum_by f (x ∷ xs)
split_sort f x xs n m one two = by _ _ _ _ (sum_by-cons f x xs) (sum_by-cons f x []) one two
  where
    by : (a r t u : ℕ) → t ≡ a + r → u ≡ a + 0 → n ≤ 4 * u + m → m ≤ 4 * r → n ≤ 4 * t
    by a r t u is one_is one two = omega (arith, is, one_is, one, two)

module _ (prims : List Primitive) (s : ℕ) (count : Clauses → ℕ) (none : count no_clauses ≡ 0) (paid : (p : Property) (descending : Bool) (ss : List SortKey) → count (sort_clauses (record { key = by_property p; descending = descending } ∷ ss)) ≤ 4 * value_work prims p s + count (sort_clauses ss)) where
  behind : (r n : ℕ) → r ≤ n + r
  behind r n = omega arith

  key_paid : (k : Key) (descending : Bool) (ss : List SortKey)
      → count (sort_clauses (record { key = k; descending = descending } ∷ ss)) ≤ 4 * sort_work prims (record { key = k; descending = descending } ∷ []) s + count (sort_clauses ss)
  key_paid by_guid descending ss = behind (count (sort_clauses ss)) _
  key_paid by_timestamp descending ss = behind (count (sort_clauses ss)) _
  key_paid (by_property p) descending ss = whole _ _ _ (paid p descending ss)
    where
      whole : (n w m : ℕ) → n ≤ 4 * w + m → n ≤ 4 * (0 + w) + m
      whole n w m less = omega (arith, less)

  pub sort_paid : (ss : List SortKey) → count (sort_clauses ss) ≤ 4 * sort_work prims ss s
  sort_paid [] = omega (arith, none)
  sort_paid (x ∷ ss) = split_sort _ x ss (count (sort_clauses (x ∷ ss))) (count (sort_clauses ss)) (key_paid x.key x.descending ss) (sort_paid ss)
