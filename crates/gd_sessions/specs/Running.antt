-- What contracts see of a core that is open, and what it keeps.
use Rattle.std.specs.Prelude.{◌≡◌, ◌≢◌, ℕ, ◌+◌, ◌-◌, ◌^◌, ◌<◌, ◌≤◌, min, List, [], length, false, Option, None, Result, MatchResult}
use Rattle.std.specs.List.{AllByRecursion}
use Rattle.gd_base.specs.declared.memory.Memory.{Memory}
use Rattle.gd_runs.specs.Legal.{Entry, History, batches}
use Rattle.gd_runs.specs.Core.{State, Event, begin, slice, write, learn, freeze, thaw, reopen}
use Rattle.gd_runs.specs.Pace.{DueOf, Left}
use Rattle.gd_held.specs.PassedOn.{one_member, IsPastIds}
use Rattle.gd_replay_laws.specs.Paced.{Paces}
use Rattle.gd_bytes.specs.File.{MayStandFor}
use Rattle.gd_runs.specs.Side.{IsFresh, doubt_groups}
use Rattle.gd_reply.specs.Replies.{reply_text}
use Rattle.gd_reply.specs.declared.reply.Reply.{Reply}
use Rattle.gd_writer.specs.Side.{SideValue, state_of}
use Rattle.gd_sessions.specs.declared.held.Held.{Held}
use Rattle.gd_sessions.specs.Sessions.{holds_thawed}
use Rattle.gd_sessions.specs.Held.{sessions_of, IsGoingOn, left_at}

-- the write side, and the sessions in the order of their numbers
pub record RunningValue (D C : Type 0) : Type 0 where
  pub side : SideValue D C
  pub held : List Held

-- the state of the core that it is in
abbrev pub core_state : {D C : Type 0} → RunningValue D C → State
core_state r = state_of r.side (sessions_of r.held)

-- the bytes of a file stand for the history of a state, with all or none of the group in doubt
abbrev pub StandsForState : State → List ℕ → Type 0
StandsForState s file = MayStandFor (batches s.history) (doubt_groups s.doubt) file

-- what it keeps between events: there are 64 sessions, the reading of each goes on, and nothing is kept of write lines
pub record IsRunning {D C : Type 0} (side : SideValue D C) (held : List Held) : Type 0 where
  pub many : length held ≡ 64
  pub outcomes : side.outcomes ≡ []
  pub going : AllByRecursion (IsGoingOn (batches side.history) (length side.shown)) held

-- a reply that is so, or no memory for one that is due
abbrev pub Answers : (List ℕ → Type 0) → Result Reply Memory → Type 0
Answers P result = MatchResult result (λ reply. P (reply_text reply)) (λ _. (reply : List ℕ) × P reply)

-- an event that may be carried out: it is of one of 64 sessions, with a budget that there may be, and a write is of a line that is fresh
abbrev pub MayTake : History → Option Entry → ℕ → Event → Type 0
MayTake h doubt k (begin i request) = i < 64
MayTake h doubt k (slice i budget) = (i < 64) × (0 < budget) × (budget ≤ 1_000_000)
MayTake h doubt k (write i w) = (i < 64) × IsFresh h doubt k
MayTake h doubt k (learn i m) = i < 64
MayTake h doubt k (freeze i) = i < 64
MayTake h doubt k (thaw i request text) = i < 64
MayTake h doubt k reopen = Unit {0}

-- the store is not opened again
abbrev pub GoesBy : Event → Type 0
GoesBy reopen = ⊥
GoesBy _ = Unit {0}

-- ---- how far a slice goes

-- a session has gone on with its reading for a budget: where it holds one still, the steps reach the budget, or their count stands at its end; they are at most 1,024 more than the budget; and what is left of the reading fell by at least the steps, unless it was thawed, of which no steps are counted. `n` is a number that no id reaches
pub record IsSliced {D C : Type 0} (i budget : ℕ) (old new : RunningValue D C) (steps steps_now : ℕ) : Type 0 where
  pub reached : ((core_state new).sessions i).reading ≢ None → min (steps + budget) (2 ^ 64 - 1) ≤ steps_now
  pub work : steps_now ≤ steps + budget + 1024
  pub less : holds_thawed ((core_state old).sessions i).reading ≡ false → (n : ℕ) → IsPastIds n → steps_now + left_at n (batches new.side.history) new.held i ≤ steps + left_at n (batches old.side.history) old.held i

-- so it is with an event that is a slice
abbrev pub SlicesBy : {D C : Type 0} → Event → RunningValue D C → RunningValue D C → ℕ → ℕ → Type 0
SlicesBy (slice i budget) old new steps steps_now = IsSliced i budget old new steps steps_now
SlicesBy _ old new steps steps_now = Unit {0}

-- ---- the pace

-- how much the readings of the sessions have left, at most, told with the first number that no id reaches
abbrev pub left_now : {D C : Type 0} → RunningValue D C → Left
left_now r i = left_at (2 ^ 32) (batches r.side.history) r.held i

-- an event of line k that printed this reply keeps the pace of what the readings have left
abbrev pub KeepsPace : {D C : Type 0} → ℕ → Event → List ℕ → (old new : RunningValue D C) → Type 0
KeepsPace k e reply old new = (d : DueOf) → Paces one_member d (core_state old) k e reply (core_state new) (left_now old) (left_now new)
