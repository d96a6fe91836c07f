-- Rising lists of identities: how many are below one, the first from one on, and the number of reserved places.
use Rattle.std.specs.Prelude.{ℕ, ◌<◌, ◌≤◌, List, Option, length, slice_index, nat_lt, not}
use Rattle.std.specs.List.{filter, find}

-- a rising list of identities, and how many more there is room for
pub record Places : Type 0 where
  pub ids : List ℕ
  pub spare : ℕ

-- each identity is less than every later one
abbrev pub IsRising : List ℕ → Type 0
IsRising ids = (i j : ℕ) → i < j → j < length ids → slice_index ids i < slice_index ids j

-- the identity is greater than each one of the list
abbrev pub IsAbove : List ℕ → ℕ → Type 0
IsAbove ids id = (i : ℕ) → i < length ids → slice_index ids i < id

-- the identities of the list that are less than `end`
abbrev pub ids_below : ℕ → List ℕ → List ℕ
ids_below end ids = filter (λ id. nat_lt id end) ids

-- the first identity of the list that is not less than `from`
abbrev pub first_from : ℕ → List ℕ → Option ℕ
first_from from ids = find (λ id. not (nat_lt id from)) ids

-- each identity before the place `low` is less than `end`, and none from the place `high` on is
pub record IsSplit (ids : List ℕ) (end low high : ℕ) : Type 0 where
  pub order : low ≤ high
  pub within : high ≤ length ids
  pub before : (i : ℕ) → i < low → slice_index ids i < end
  pub behind : (i : ℕ) → high ≤ i → i < length ids → end ≤ slice_index ids i
