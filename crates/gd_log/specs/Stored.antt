-- A log and the store of its batches: what contracts see of it, and what its disk holds.
use Rattle.std.specs.Prelude.{◌≡◌, ℕ, ◌+◌, ◌≤◌, List, [], ◌∷◌, ◌++◌, length, take, slice_get, true, false, Option, Some, None, Result, Ok, Err}
use Rattle.std.specs.List.{AllByRecursion}
use Rattle.gd_prim.specs.declared.Batch.{Batch}
use Rattle.gd_prim.specs.History.{prims_of}
use Rattle.gd_prim.specs.WellFormed.{max_moment, may_follow, all_follow}
use Rattle.gd_journal.specs.State.{Journaled}
use Rattle.gd_journal.specs.declared.fault.JournalFault.{JournalFault}
use Rattle.gd_journal.specs.declared.fault.JournalFault.TheVariants.{DiskFault}
use Rattle.gd_log.specs.State.{IsHeld, IsUnsure}

-- What contracts see: the log, and the batches of the store.
pub record Stored (D : Type 0) : Type 0 where
  pub log : Journaled D
  pub batches : List Batch

-- The moment of a batch is one that a clock may give.
pub record IsEarly (b : Batch) : Type 0 where
  pub early : b.moment ≤ max_moment

-- 1 to 256 batches, each of which may follow these and those before it, within the limits of a store.
pub record MayAppend (bs more : List Batch) : Type 0 where
  pub some : 1 ≤ length more
  pub few : length more ≤ 256
  pub follow : all_follow (prims_of bs) (length bs) more ≡ true
  pub early : AllByRecursion IsEarly more

-- Of these batches the k-th may not follow the list and those before it, and it is the first.
pub record IsFirstUnfit (bs more : List Batch) (k : ℕ) : Type 0 where
  pub batch : Batch
  pub here : slice_get more k ≡ Some batch
  pub before : all_follow (prims_of bs) (length bs) (take k more) ≡ true
  pub unfit : may_follow (prims_of (bs ++ take k more)) (length bs + k) batch ≡ false

-- The disk holds these batches, or is unsure of the group in doubt. The log is in doubt just where a group is.
abbrev pub Holds : Option (List ℕ) → (List ℕ → Type 0) → ℕ → Option ℕ → List Batch → Option (List Batch) → Type 0
Holds content images gate None bs None = IsHeld content images gate bs
Holds content images gate (Some next) bs (Some more) = IsUnsure content images gate next bs more
Holds content images gate None bs (Some more) = ⊥
Holds content images gate (Some next) bs None = ⊥

-- The groups in doubt, one or none.
abbrev pub groups_in_doubt : Option (List Batch) → List (List Batch)
groups_in_doubt None = []
groups_in_doubt (Some more) = more ∷ []

-- The group that is in doubt after an append of it.
abbrev pub doubt_after : Result (Unit {0}) JournalFault → List Batch → Option (List Batch)
doubt_after (Ok _) more = None
doubt_after (Err DiskFault) more = Some more
doubt_after (Err _) more = None
