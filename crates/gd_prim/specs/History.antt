-- The primitives of a history.
use Rattle.std.specs.Prelude.{◌≡◌, ◌≤◌, ℕ, List, ◌++◌, take, flat_map, Bool, true, Some, slice_get}
use Rattle.gd_prim.specs.declared.Primitive.{Primitive}
use Rattle.gd_prim.specs.declared.Batch.{Batch}
use Rattle.gd_prim.specs.Builtin.{builtin}
use Rattle.gd_prim.specs.WellFormed.{all_follow, may_hold, max_moment}

-- the built-in primitives and those of these batches, as one list; shut, since the built-in list is long
unfoldable pub prims_of : List Batch → List Primitive
prims_of batches = builtin ++ flat_map (λ b. b.prims) batches

-- those of the first n batches: a dateline is such an n
abbrev pub prims_at : List Batch → ℕ → List Primitive
prims_at batches n = prims_of (take n batches)

-- each batch may follow the built-in primitives and the batches before it, within the limits; shut for the same reason
unfoldable pub is_history : List Batch → Bool
is_history batches = all_follow builtin 0 batches

-- each primitive of a list may hold its value
abbrev pub AreHeld : List Primitive → Type 0
AreHeld prims = (k : ℕ) (p : Primitive) → slice_get prims k ≡ Some p → may_hold p.value ≡ true

-- and is of a moment of a clock
abbrev pub AreTimed : List Primitive → Type 0
AreTimed prims = (k : ℕ) (p : Primitive) → slice_get prims k ≡ Some p → p.moment ≤ max_moment
