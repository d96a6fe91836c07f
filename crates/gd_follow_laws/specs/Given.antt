-- What a node that holds a list of batches answers to a group from a number on.
use Rattle.std.specs.Prelude.{◌≡◌, ℕ, ◌+◌, ◌-◌, ◌<◌, ◌≤◌, List, ◌++◌, length, take, drop, true, false, Some, slice_get}
use Rattle.gd_prim.specs.declared.Batch.{Batch}
use Rattle.gd_prim.specs.History.{prims_of}
use Rattle.gd_prim.specs.WellFormed.{may_follow, all_follow}

-- the batches of the group, which begins at this number, that stand behind those of the list
abbrev pub past : List Batch → ℕ → List Batch → List Batch
past list from group = drop (length list - from) group

-- where both have a batch of a number, it is the same
abbrev pub Agrees : List Batch → ℕ → List Batch → Type 0
Agrees list from group = (at : ℕ) (b c : Batch) → from ≤ at → slice_get list at ≡ Some b → slice_get group (at - from) ≡ Some c → b ≡ c

-- at this number, and at no earlier one, a batch of the group is another than that of the list
pub record IsForkAt (list : List Batch) (from : ℕ) (group : List Batch) (at : ℕ) : Type 0 where
  pub behind : from ≤ at
  pub mine : Batch
  pub theirs : Batch
  pub here : slice_get list at ≡ Some mine
  pub there : slice_get group (at - from) ≡ Some theirs
  pub differ : mine ≡ theirs → ⊥
  pub first : (k : ℕ) (b c : Batch) → from ≤ k → k < at → slice_get list k ≡ Some b → slice_get group (k - from) ≡ Some c → b ≡ c

-- behind the list and those of these batches that stand before it, the batch of this number may not follow, and it is the first
pub record IsUnfitAt (list more : List Batch) (at : ℕ) : Type 0 where
  pub count : ℕ
  pub number : at ≡ length list + count
  pub batch : Batch
  pub here : slice_get more count ≡ Some batch
  pub before : all_follow (prims_of list) (length list) (take count more) ≡ true
  pub unfit : may_follow (prims_of (list ++ take count more)) (length list + count) batch ≡ false

-- what comes of a group where no disk fails and memory suffices
pub data Outcome : Type 0 where
  gap : Outcome
  fork : (at : ℕ) → Outcome
  known : Outcome
  unfit : (at : ℕ) → Outcome
  taken : Outcome

-- each of these comes where none that stands before it does: the group begins behind the list, holds another batch, ends within the list, has a batch that may not follow, or is taken
abbrev pub Comes : List Batch → ℕ → List Batch → Outcome → Type 0
Comes list from group gap = length list < from
Comes list from group (fork at) = (from ≤ length list) × IsForkAt list from group at
Comes list from group known = (from ≤ length list) × Agrees list from group × (from + length group ≤ length list)
Comes list from group (unfit at) = (from ≤ length list) × Agrees list from group × (length list < from + length group) × IsUnfitAt list (past list from group) at
Comes list from group taken = (from ≤ length list) × Agrees list from group × (length list < from + length group) × (all_follow (prims_of list) (length list) (past list from group) ≡ true)
