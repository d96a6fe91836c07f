-- The state of a write that is carried out.
use Rattle.std.specs.Prelude.{◌≡◌, ℕ, ◌+◌, ◌≤◌, List, ◌++◌, length}
use Rattle.gd_prim.specs.declared.Batch.{Batch}
use Rattle.gd_prim.specs.declared.Primitive.{Primitive}
use Rattle.gd_prim.specs.History.{prims_of}

-- the batches below a dateline, and the primitives that a write has made so far
pub record State : Type 0 where
  pub batches : List Batch
  pub made : List Primitive

-- all primitives so far
abbrev pub so_far : State → List Primitive
so_far s = prims_of s.batches ++ s.made

-- the rest begins at this place, and each place fits the type of places
pub record HasPlaces (base : List Primitive) (first : ℕ) (made : List Primitive) : Type 0 where
  pub begins : first ≡ length base
  pub fits : first + length made ≤ 4_294_967_295
