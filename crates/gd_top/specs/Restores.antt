-- What a run that restores a dump makes of the store, for each status.
use Rattle.std.specs.Prelude.{◌≡◌, ◌⊎◌, ℕ, List, [], ◌∷◌, Option, None, Some, IfSome, IsTrue}
use Rattle.std.specs.Option.{is_some}
use Rattle.gd_prim.specs.declared.Batch.{Batch}
use Rattle.gd_bytes.specs.File.{MayStandFor}
use Rattle.gd_dump_laws.specs.Restoring.{Ending, whole, bad, starts_elsewhere, unfit, Restores, RestoresFront, RestoresDoubt}
use Rattle.gd_top.specs.declared.status.Status.{Status}
use Rattle.gd_top.specs.declared.status.Status.TheVariants as status

-- ---- the file

-- where the content was told, all that a stop leaves stands for these batches, with all or none of each of these groups behind them
abbrev pub LeavesBatches : Option (List ℕ) → (List ℕ → Type 0) → List Batch → List (List Batch) → Type 0
LeavesBatches told images after groups = IsTrue (is_some told) → (file : List ℕ) → images file → MayStandFor after groups file

-- the same of the file that the words name
abbrev pub LeavesBatchesAt : (List ℕ → Option (List ℕ)) → (List ℕ → List ℕ → Type 0) → Option (List ℕ) → List Batch → List (List Batch) → Type 0
LeavesBatchesAt content images None after groups = Unit {0}
LeavesBatchesAt content images (Some path) after groups = LeavesBatches (content path) (images path) after groups

-- ---- the list

-- The text, which ended so, made this of a list with which the run may have begun, and that is left.
pub record Restored (begins : List Batch → Type 0) (leaves : List Batch → List (List Batch) → Type 0) (ending : Ending) (text : List ℕ) : Type 0 where
  pub list : List Batch
  pub after : List Batch
  pub begun : begins list
  pub restores : Restores list text ending after
  pub left : leaves after []

-- A front of the text's batches, in whole groups, stands behind such a list.
pub record RestoredFront (begins : List Batch → Type 0) (leaves : List Batch → List (List Batch) → Type 0) (text : List ℕ) : Type 0 where
  pub list : List Batch
  pub after : List Batch
  pub begun : begins list
  pub restores : RestoresFront list text after
  pub left : leaves after []

-- And a group of them is in doubt behind those.
pub record RestoredDoubt (begins : List Batch → Type 0) (leaves : List Batch → List (List Batch) → Type 0) (text : List ℕ) : Type 0 where
  pub list : List Batch
  pub after : List Batch
  pub group : List Batch
  pub begun : begins list
  pub restores : RestoresDoubt list text after group
  pub left : leaves after (group ∷ [])

-- What a run with this status made of the store by its input, if that is told: all of its batches stand behind those of before; or the first thing that is refused in it is told, with the batches of the whole groups before it; or the run stopped, with a front of them, and after a failure of the disk with a group of them in doubt. Where the store was not opened, nothing was read, and the file stands for what it stood for.
pub record RestoresText (s : Status) (begins : List Batch → Type 0) (leaves : List Batch → List (List Batch) → Type 0) (unbegun : Type 0) (left : Option (List ℕ)) : Type 0 where
  pub done : s ≡ status.Done → IfSome left (Restored begins leaves whole)
  pub bad_dump : (offset : ℕ) → s ≡ status.BadDump offset → IfSome left (Restored begins leaves (bad offset))
  pub elsewhere : (asked have : ℕ) → s ≡ status.DumpFrom asked have → IfSome left (Restored begins leaves (starts_elsewhere asked have))
  pub unfit_batch : (batch : ℕ) → s ≡ status.Unfit batch → IfSome left (Restored begins leaves (unfit batch))
  pub front : (s ≡ status.ReadFault) ⊎ (s ≡ status.TooMuch) → IfSome left (RestoredFront begins leaves)
  pub memory : s ≡ status.Memory → unbegun ⊎ IfSome left (RestoredFront begins leaves)
  pub doubt : s ≡ status.DiskFault → unbegun ⊎ IfSome left (RestoredDoubt begins leaves)
  pub not_store : s ≡ status.NotStore → unbegun
  pub damaged : (offset : ℕ) → s ≡ status.Damaged offset → unbegun
