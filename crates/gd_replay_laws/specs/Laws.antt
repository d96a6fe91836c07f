-- The laws of a run of events.
use Rattle.std.specs.Prelude.{◌≡◌, ℕ, ◌+◌, List, ◌++◌, length, Bool, false, Ok}
use Rattle.gd_prim.specs.declared.Batch.{Batch}
use Rattle.gd_runs.specs.Owed.{MembersOf}
use Rattle.gd_defs.specs.Write.{WriteRequest}
use Rattle.gd_runs.specs.Explained.{Numbered, lines_of, tells_fault}
use Rattle.gd_runs.specs.Core.{Event, write, State, opened}
use Rattle.gd_runs.specs.Replay.{event_from, Replays}
use Rattle.gd_runs.specs.Pace.{DueOf, Left, PacedReplays}
use Rattle.gd_replay_laws.specs.Runs.{LineOver, RepliesOver, IsBounded, AreBelow, MayReopen}
use Rattle.gd_replay_laws.specs.Paced.{PacedRun}
use Rattle.gd_replay_laws.specs.Faults.{faults_from}

-- A run of lines and a run of the lines behind them are a run.
abbrev pub RunsFollow : Type 0
RunsFollow = (told : Bool) (members : MembersOf) (may : ℕ → Bool) (s mid t : State) (k : ℕ) (before behind : List Numbered) (output rest : List ℕ) → RepliesOver told members may s k before output mid
    → RepliesOver told members may mid (k + length before) behind rest t → RepliesOver told members may s k (before ++ behind) (output ++ rest) t

-- Where each entry is of an earlier line, so it is behind line k.
abbrev pub LinesStayBelow : Type 0
LinesStayBelow = (told : Bool) (members : MembersOf) (may : ℕ → Bool) (s t : State) (k : ℕ) (bytes reply : List ℕ) → AreBelow k s → LineOver told members may s k bytes reply t → AreBelow (k + 1) t

-- Where the file is told, or no line opens the store again, a run is one of the definitions.
abbrev pub RunsAreReplays : Type 0
RunsAreReplays = (told : Bool) (members : MembersOf) (may : ℕ → Bool) (loaded : List Batch) (input output : List ℕ) (t : State) → MayReopen told (lines_of input) → RepliesOver told members may (opened loaded) 0 (lines_of input) output t
    → Replays members may loaded input output t

-- A paced run of lines and one of the lines behind them are a paced run.
abbrev pub PacedRunsFollow : Type 0
PacedRunsFollow = (told : Bool) (members : MembersOf) (d : DueOf) (may : ℕ → Bool) (s mid t : State) (a b z : Left) (k : ℕ) (before behind : List Numbered) (output rest : List ℕ) → PacedRun told members d may s a k before output mid b
    → PacedRun told members d may mid b (k + length before) behind rest t z → PacedRun told members d may s a k (before ++ behind) (output ++ rest) t z

-- Where the file is told, or no line opens the store again, a paced run is one of the definitions: no reading is unfinished too often.
abbrev pub PacedRunsAreReplays : Type 0
PacedRunsAreReplays = (told : Bool) (members : MembersOf) (d : DueOf) (may : ℕ → Bool) (loaded : List Batch) (input output : List ℕ) (t : State) (z : Left) → MayReopen told (lines_of input)
    → PacedRun told members d may (opened loaded) (λ i. 0) 0 (lines_of input) output t z → PacedReplays members d may loaded input output t

-- The session of an event that bytes spell is one of 64, and its budget one that there may be.
abbrev pub EventsAreBounded : Type 0
EventsAreBounded = (bytes : List ℕ) (e : Event) → event_from bytes ≡ Ok e → IsBounded e

-- Only the reply to a write tells a failure of the disk.
abbrev pub OnlyWritesTellFaults : Type 0
OnlyWritesTellFaults = (told : Bool) (members : MembersOf) (may : ℕ → Bool) (s t : State) (k : ℕ) (bytes reply : List ℕ) → ((i : ℕ) (w : WriteRequest) → event_from bytes ≡ Ok (write i w) → ⊥) → LineOver told members may s k bytes reply t
    → tells_fault k reply ≡ false

-- The failures that a run tells and those that are told behind it add up.
abbrev pub FaultsAddUp : Type 0
FaultsAddUp = (told : Bool) (members : MembersOf) (may : ℕ → Bool) (s t : State) (k : ℕ) (given : List Numbered) (output rest : List ℕ) → RepliesOver told members may s k given output t
    → faults_from k (output ++ rest) ≡ faults_from k output + faults_from (k + length given) rest
