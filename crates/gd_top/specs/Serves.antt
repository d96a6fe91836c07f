-- What a run of lines prints for its input, for each status.
use Rattle.std.specs.Prelude.{◌≡◌, ◌⊎◌, ℕ, List, ◌++◌, Bool, true, Option, Some, IfSome}
use Rattle.std.specs.Io.KnownBytes.{Appends, Consumes}
use Rattle.gd_prim.specs.declared.Batch.{Batch}
use Rattle.gd_runs.specs.Legal.{History}
use Rattle.gd_runs.specs.Explained.{Numbered, Run, lines_of, lines_within, IsExplainedBy, faults_told}
use Rattle.gd_input.specs.Taken.{whole_rounds}
use Rattle.gd_top.specs.declared.status.Status.{Status}
use Rattle.gd_top.specs.declared.status.Status.TheVariants as status
use Rattle.gd_top.specs.Ends.{is_refused, is_stopped}

-- One legal history explains this output for these lines. It begins with a list that the run may begin with, its moments are such as the clock may give, what it leaves in the file stands for it, and the count of faults rose by the lines that tell one.
pub record Accounts (may : ℕ → Bool) (begins : List Batch → Type 0) (leaves : History → List Run → Type 0) (rises : ℕ → Type 0) (given : List Numbered) (output : List ℕ) : Type 0 where
  pub loaded : List Batch
  pub history : History
  pub runs : List Run
  pub begun : begins loaded
  pub explained : IsExplainedBy loaded may given output history runs
  pub left : leaves history runs
  pub counted : rises (faults_told output)

-- the sink gained an output for the input that a legal history explains
pub record Serves (may : ℕ → Bool) (begins : List Batch → Type 0) (leaves : History → List Run → Type 0) (rises : ℕ → Type 0) (old new : Option (List ℕ)) (input : List ℕ) : Type 0 where
  pub output : List ℕ
  pub accounts : Accounts may begins leaves rises (lines_of input) output
  pub gained : Appends old new output

-- the sink gained a front of such an output
pub record ServesFront (may : ℕ → Bool) (begins : List Batch → Type 0) (leaves : History → List Run → Type 0) (rises : ℕ → Type 0) (old new : Option (List ℕ)) (input : List ℕ) : Type 0 where
  pub output : List ℕ
  pub rest : List ℕ
  pub accounts : Accounts may begins leaves rises (lines_of input) (output ++ rest)
  pub gained : Appends old new output

-- the sink gained such an output for the rounds that lie wholly in what was taken of the input, of which this is left
pub record ServesRounds (may : ℕ → Bool) (begins : List Batch → Type 0) (leaves : History → List Run → Type 0) (rises : ℕ → Type 0) (old new now : Option (List ℕ)) (input : List ℕ) : Type 0 where
  pub taken : List ℕ
  pub parts : Consumes (Some input) now taken
  pub output : List ℕ
  pub accounts : Accounts may begins leaves rises (lines_within (whole_rounds taken) input) output
  pub gained : Appends old new output

-- What a run of lines with this status printed: an output that is explained, for all lines of the input, for those of all whole rounds that it took, or a front of it where it stopped. Without memory it may also not have begun, and where its store was not opened it did not begin.
pub record PrintsLines (s : Status) (may : ℕ → Bool) (begins : List Batch → Type 0) (leaves : History → List Run → Type 0) (rises : ℕ → Type 0) (unbegun : Type 0) (left left_now held_old held_new : Option (List ℕ)) : Type 0 where
  pub done : s ≡ status.Done → IfSome left (Serves may begins leaves rises held_old held_new)
  pub rounds : (s ≡ status.ReadFault) ⊎ (s ≡ status.TooMuch) → IfSome left (ServesRounds may begins leaves rises held_old held_new left_now)
  pub front : is_stopped s ≡ true → IfSome left (ServesFront may begins leaves rises held_old held_new)
  pub memory : s ≡ status.Memory → unbegun ⊎ IfSome left (ServesFront may begins leaves rises held_old held_new)
  pub nothing : is_refused s ≡ true → unbegun
