-- Which batches may be written as a group, as far as types do not say it already.
use Rattle.std.specs.Prelude.{◌≡◌, ℕ, ◌<◌, ◌≤◌, List, length, IsTrue}
use Rattle.std.specs.List.{AllByRecursion}
use Rattle.gd_prim.specs.declared.Primitive.{Primitive}
use Rattle.gd_prim.specs.declared.Batch.{Batch}
use Rattle.gd_prim.specs.WellFormed.{max_moment, may_hold}

-- a primitive of a batch of this moment: it has that moment, and a value that a primitive may hold
pub record PrimitiveMay (moment : ℕ) (p : Primitive) : Type 0 where
  pub same : p.moment ≡ moment
  pub holds : IsTrue (may_hold p.value)

-- a batch: its moment and its number of primitives lie within their bounds
pub record BatchMay (b : Batch) : Type 0 where
  pub moment : b.moment ≤ max_moment
  pub few : length b.prims ≤ 4096
  pub each : AllByRecursion (PrimitiveMay b.moment) b.prims

-- batches that may be written as a group: 1 to 256
pub record MayWrite (bs : List Batch) : Type 0 where
  pub some : 0 < length bs
  pub few : length bs ≤ 256
  pub each : AllByRecursion BatchMay bs
