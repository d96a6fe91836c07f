-- What a run of events prints for its input, for each status, and what it leaves.
use Rattle.std.specs.Prelude.{◌≡◌, ◌⊎◌, ℕ, ◌+◌, List, Bool, true, Option, None, Some, IfSome, IsTrue}
use Rattle.std.specs.Option.{is_some}
use Rattle.gd_prim.specs.declared.Batch.{Batch}
use Rattle.gd_bytes.specs.File.{MayStandFor}
use Rattle.gd_runs.specs.Legal.{batches}
use Rattle.gd_runs.specs.Side.{doubt_groups}
use Rattle.gd_runs.specs.Core.{State}
use Rattle.gd_replay.specs.Replays.{Replays, ReplaysTaken, ReplaysFront}
use Rattle.gd_top.specs.declared.status.Status.{Status}
use Rattle.gd_top.specs.declared.status.Status.TheVariants as status
use Rattle.gd_top.specs.Ends.{is_refused}

-- whether the store is in memory, or the shelf tells its file
abbrev pub is_told_at : (List ℕ → Option (List ℕ)) → Option (List ℕ) → Bool
is_told_at content None = true
is_told_at content (Some path) = is_some (content path)

-- where there is a file that was told, all that a stop leaves of it stands for the history of a state of the core, with all or none of the group in doubt
abbrev pub LeavesAt : (List ℕ → Option (List ℕ)) → (List ℕ → List ℕ → Type 0) → Option (List ℕ) → State → Type 0
LeavesAt content images None s = Unit {0}
LeavesAt content images (Some path) s = IsTrue (is_some (content path)) → (file : List ℕ) → images path file → MayStandFor (batches s.history) (doubt_groups s.doubt) file

-- how many failures of the disk a status tells
abbrev pub status_faults : Status → ℕ
status_faults status.DiskFault = 1
status_faults _ = 0

-- What a run of events with this status printed, over a file that is told or not: the replies of the core to all lines of the input, or to those before which it stopped, or a front of those up to a line at which it stopped; and the count of faults rose by the lines that tell one. Without memory, and with a status of a store that is not opened, it did not begin, or it stopped between two lines; where the store was not opened again for a failure of the disk, the count rose by one more.
pub record PrintsEvents (s : Status) (told : Bool) (may : ℕ → Bool) (begins : List Batch → Type 0) (leaves : State → Type 0) (rises : ℕ → Type 0) (unbegun : Type 0) (left held_old held_new : Option (List ℕ)) : Type 0 where
  pub done : s ≡ status.Done → IfSome left (Replays told may begins leaves rises held_old held_new)
  pub between : (s ≡ status.ReadFault) ⊎ (s ≡ status.TooMuch) → IfSome left (ReplaysTaken told may begins leaves rises held_old held_new)
  pub within : s ≡ status.SinkFault → IfSome left (ReplaysFront told may begins leaves rises held_old held_new)
  pub memory : s ≡ status.Memory → unbegun ⊎ IfSome left (ReplaysTaken told may begins leaves rises held_old held_new)
  pub closed : is_refused s ≡ true → unbegun ⊎ IfSome left (ReplaysTaken told may begins leaves (λ n. rises (n + status_faults s)) held_old held_new)
