-- What contracts see of a run that is served on threads, and what it keeps between rounds.
use Rattle.std.specs.Prelude.{◌≡◌, ℕ, ◌<◌, ◌≤◌, [], length, vec_capacity}
use Rattle.std.specs.Global.{Vec}
use Rattle.std.specs.List.{All}
use Rattle.gd_runs.specs.Core.{State, opened}
use Rattle.gd_crew.specs.PassedOn.{KeepingValue, AllRight, SessionValue, SideValue, state_of}
use Rattle.gd_round_lines.specs.Fresh.{IsFreshFrom}
use Rattle.gd_crew.specs.Ready.{IsIdle}

-- the write side, the number of the next line, and what sessions keep of replies
pub record RoundsValue (D C : Type 0) : Type 0 where
  pub side : SideValue D C
  pub lines : ℕ
  pub keeping : KeepingValue

-- the state of the core that a side is, where nobody holds or has seen anything
abbrev pub state_at : {D C : Type 0} → SideValue D C → State
state_at side = state_of side (opened side.history.loaded).sessions

-- What it keeps between rounds: nothing is kept of write lines, no entry and no write in doubt is of the next line or a later one, there are 64 seats of the published copies, none of which reads, a slice may take steps, at most 1,000,000, and what sessions keep is right over what is shown.
pub record IsBetween {D C : Type 0} (side : SideValue D C) (lines : ℕ) (seats : Vec SessionValue) (budget : ℕ) (keeping : KeepingValue) : Type 0 where
  pub outcomes : side.outcomes ≡ []
  pub fresh : IsFreshFrom lines side.history side.doubt
  pub idle : All (IsIdle side.table) seats.items
  pub all : length seats.items ≡ 64
  pub room : 64 ≤ vec_capacity seats
  pub some : 0 < budget
  pub few : budget ≤ 1_000_000
  pub kept : AllRight side.shown keeping.caches
