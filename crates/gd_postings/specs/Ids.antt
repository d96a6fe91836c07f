-- The identities of a list, by where they stand.
use Rattle.std.specs.Prelude.{ℕ, List, []}
use Rattle.gd_postings.specs.declared.ids.Ids.{Ids}
use Rattle.gd_postings.specs.declared.ids.Ids.TheVariants.{Empty, One, Two, Three, Many}

-- the identities
abbrev pub ids_of : Ids → List ℕ
ids_of Empty = []
ids_of (One ids) = ids
ids_of (Two ids) = ids
ids_of (Three ids) = ids
ids_of (Many many) = many.value.ids

-- how many more there is room for
abbrev pub room_of : Ids → ℕ
room_of Empty = 3
room_of (One ids) = 2
room_of (Two ids) = 1
room_of (Three ids) = 0
room_of (Many many) = many.value.spare
