-- What contracts see of a publisher, a seat and an entered store.
use Rattle.std.specs.Prelude.{◌≡◌, ℕ, ◌^◌, ◌+◌, ◌-◌, List, length, min, max, nat_le, None, if◌then◌else◌}
use Rattle.gd_prim.specs.declared.Batch.{Batch}
use Rattle.gd_prim.specs.History.{prims_of}
use Rattle.gd_prim.specs.WellFormed.{bad_place}
use Rattle.gd_prim.specs.Limits.{limits, first_full}
use Rattle.logbook.specs.Pages.{Book}

-- a batch is well formed behind batches, and passes no limit there
pub record MayFollow (batches : List Batch) (batch : Batch) : Type 0 where
  pub well_formed : bad_place (prims_of batches) batch ≡ None
  pub fits : first_full (limits (prims_of batches) (length batches) batch.prims) ≡ None

-- the list that is shown, what is pending behind it, and what of both is in the history
pub record PublisherValue : Type 0 where
  pub history : Book
  pub shown : List Batch
  pub pending : List Batch
  pub recorded : List Batch

-- the list that was entered last, the list that was told, and how often the seat was turned away
pub record SeatValue : Type 0 where
  pub history : Book
  pub entered : List Batch
  pub told : List Batch
  pub turned_away : ℕ

-- the list of the entered store, and how often the seat was turned away
pub record EnteredValue : Type 0 where
  pub history : Book
  pub list : List Batch
  pub turned_away : ℕ

-- the longer of two lists, the second where they are equally long
abbrev pub longer : List Batch → List Batch → List Batch
longer xs ys = if nat_le (length xs) (length ys) then ys else xs

-- one more, up to the greatest number of 64 bits
abbrev pub one_more : ℕ → ℕ
one_more n = max n (min (n + 1) (2 ^ 64 - 1))

-- a new seat, which has seen a list and was never turned away
abbrev pub IsNewSeat : Book → List Batch → SeatValue → Type 0
IsNewSeat history list seat = seat ≡ record { history = history; entered = list; told = list; turned_away = 0 }
