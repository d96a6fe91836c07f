-- What a run of events prints for its input, and what it leaves, over a disk that tells its content or not (`told`).
use Rattle.std.specs.Prelude.{ℕ, List, ◌++◌, take, Bool, Option}
use Rattle.std.specs.Option.{ForSome}
use Rattle.std.specs.Io.KnownBytes.{Appends}
use Rattle.gd_prim.specs.declared.Batch.{Batch}
use Rattle.gd_bytes.specs.File.{StandsFor}
use Rattle.gd_sessions.specs.PassedOn.{one_member}
use Rattle.gd_runs.specs.Explained.{Numbered, lines_of, faults_told}
use Rattle.gd_runs.specs.Core.{State, opened}
use Rattle.gd_runs.specs.Pace.{DueOf, Left}
use Rattle.gd_replay_laws.specs.Runs.{RepliesOver}
use Rattle.gd_replay_laws.specs.Paced.{PacedRun}

-- where the content is told, it stands for these batches
abbrev pub Loads : Option (List ℕ) → List Batch → Type 0
Loads told loaded = ForSome told (λ file. StandsFor file loaded)

-- Lines came to this output: over a list of batches with which the run may begin, they print it and make a state, which is left, no reading is unfinished too often, and the count of faults rose by the lines that tell one.
pub record Accounts (told : Bool) (may : ℕ → Bool) (loads : List Batch → Type 0) (leaves : State → Type 0) (rises : ℕ → Type 0) (given : List Numbered) (output : List ℕ) : Type 0 where
  pub loaded : List Batch
  pub state : State
  pub begun : loads loaded
  pub replies : RepliesOver told one_member may (opened loaded) 0 given output state
  pub paced : (d : DueOf) → (z : Left) × PacedRun told one_member d may (opened loaded) (λ i. 0) 0 given output state z
  pub left : leaves state
  pub counted : rises (faults_told output)

-- the sink gained what all lines of the input came to
pub record Replays (told : Bool) (may : ℕ → Bool) (loads : List Batch → Type 0) (leaves : State → Type 0) (rises : ℕ → Type 0) (old new : Option (List ℕ)) (input : List ℕ) : Type 0 where
  pub output : List ℕ
  pub accounts : Accounts told may loads leaves rises (lines_of input) output
  pub gained : Appends old new output

-- the sink gained what the first so many lines of the input came to
pub record ReplaysTaken (told : Bool) (may : ℕ → Bool) (loads : List Batch → Type 0) (leaves : State → Type 0) (rises : ℕ → Type 0) (old new : Option (List ℕ)) (input : List ℕ) : Type 0 where
  pub taken : ℕ
  pub output : List ℕ
  pub accounts : Accounts told may loads leaves rises (take taken (lines_of input)) output
  pub gained : Appends old new output

-- the sink gained a front of what the first so many lines of the input came to
pub record ReplaysFront (told : Bool) (may : ℕ → Bool) (loads : List Batch → Type 0) (leaves : State → Type 0) (rises : ℕ → Type 0) (old new : Option (List ℕ)) (input : List ℕ) : Type 0 where
  pub taken : ℕ
  pub output : List ℕ
  pub rest : List ℕ
  pub accounts : Accounts told may loads leaves rises (take taken (lines_of input)) (output ++ rest)
  pub gained : Appends old new output
