-- What a run of a node prints for its input, and what it leaves.
use Rattle.std.specs.Prelude.{ℕ, List, ◌++◌, take, Option}
use Rattle.std.specs.Option.{ForSome}
use Rattle.std.specs.Io.KnownBytes.{Appends}
use Rattle.gd_prim.specs.declared.Batch.{Batch}
use Rattle.gd_bytes.specs.File.{StandsFor}
use Rattle.gd_runs.specs.Explained.{Numbered, lines_of, faults_told}
use Rattle.gd_follow_laws.specs.World.{Node, certain}
use Rattle.gd_follow.specs.Node.{StandsForNode}
use Rattle.gd_following.specs.Follows.{Follows}

-- where the content is told, it stands for these batches
abbrev pub Loads : Option (List ℕ) → List Batch → Type 0
Loads told loaded = ForSome told (λ file. StandsFor file loaded)

-- all that a stop leaves stands for a node: for its list, with all or none of the group in doubt
abbrev pub Leaves : (List ℕ → Type 0) → Node → Type 0
Leaves images node = (file : List ℕ) → images file → StandsForNode node file

-- all that a stop leaves stands for these batches, and for further ones behind them
abbrev pub HasBatches : (List ℕ → Type 0) → List Batch → Type 0
HasBatches images bs = (file : List ℕ) → images file → (more : List Batch) × StandsFor file (bs ++ more)

-- Lines came to this output: on a node that has a list with which the run may begin, and no doubt, they print it and make a node, which is left, and the count of faults rose by the lines that tell one.
pub record Accounts (loads : List Batch → Type 0) (leaves : Node → Type 0) (rises : ℕ → Type 0) (given : List Numbered) (output : List ℕ) : Type 0 where
  pub loaded : List Batch
  pub node : Node
  pub begun : loads loaded
  pub follows : Follows (certain loaded) 0 given output node
  pub left : leaves node
  pub counted : rises (faults_told output)

-- the sink gained what all lines of the input came to
pub record FollowsAll (loads : List Batch → Type 0) (leaves : Node → Type 0) (rises : ℕ → Type 0) (old new : Option (List ℕ)) (input : List ℕ) : Type 0 where
  pub output : List ℕ
  pub accounts : Accounts loads leaves rises (lines_of input) output
  pub gained : Appends old new output

-- the sink gained what the first so many lines of the input came to
pub record FollowsTaken (loads : List Batch → Type 0) (leaves : Node → Type 0) (rises : ℕ → Type 0) (old new : Option (List ℕ)) (input : List ℕ) : Type 0 where
  pub taken : ℕ
  pub output : List ℕ
  pub accounts : Accounts loads leaves rises (take taken (lines_of input)) output
  pub gained : Appends old new output

-- the sink gained a front of what the first so many lines of the input came to
pub record FollowsFront (loads : List Batch → Type 0) (leaves : Node → Type 0) (rises : ℕ → Type 0) (old new : Option (List ℕ)) (input : List ℕ) : Type 0 where
  pub taken : ℕ
  pub output : List ℕ
  pub rest : List ℕ
  pub accounts : Accounts loads leaves rises (take taken (lines_of input)) (output ++ rest)
  pub gained : Appends old new output
