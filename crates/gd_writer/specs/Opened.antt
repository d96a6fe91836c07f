-- What opening a store leaves of its disk.
use Rattle.std.specs.Prelude.{◌≡◌, ℕ, ◌≤◌, List, Option}
use Rattle.std.specs.Option.{ForSome, is_some}
use Rattle.gd_bytes.specs.Disk.{LeavesOnly}
use Rattle.gd_log.specs.Opening.{MeansOneOf, IsKept}

-- A store was opened over a disk, or was not: the disk goes on to tell its content, what a stop leaves means what it might have meant before, the file is kept, and the disk's count does not fall.
pub record Opens {D : Type 0} (content : D → Option (List ℕ)) (moment : D → ℕ) (images : D → List ℕ → Type 0) (images_since : D → ℕ → List ℕ → Type 0) (faults : D → ℕ) (old new : D) : Type 0 where
  pub told : is_some (content new) ≡ is_some (content old)
  pub moments : ForSome (content old) (λ file. LeavesOnly moment images images_since old new (MeansOneOf (images old)))
  pub kept : ForSome (content old) (λ file. IsKept content moment images images_since file old new)
  pub later : faults old ≤ faults new
