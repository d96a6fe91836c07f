-- What a view keeps.
use Rattle.std.specs.Prelude.{ℕ, ◌≤◌, List, length, take, IsTrue}
use Rattle.gd_prim.specs.declared.Batch.{Batch}
use Rattle.gd_prim.specs.History.{is_history}

-- the store has so many batches, and the first of them may follow one another
pub record IsViewed (dateline : ℕ) (batches : List Batch) : Type 0 where
  pub there : dateline ≤ length batches
  pub history : IsTrue (is_history (take dateline batches))
