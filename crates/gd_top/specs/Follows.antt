-- What a run of a node prints for its input, for each status, and what it leaves.
use Rattle.std.specs.Prelude.{◌≡◌, ◌⊎◌, ℕ, List, true, Option, None, Some, IfSome}
use Rattle.std.specs.Option.{ForSome}
use Rattle.gd_prim.specs.declared.Batch.{Batch}
use Rattle.gd_follow_laws.specs.World.{Node}
use Rattle.gd_following.specs.Runs.{Leaves as LeavesAll, FollowsAll, FollowsTaken, FollowsFront}
use Rattle.gd_top.specs.declared.status.Status.{Status}
use Rattle.gd_top.specs.declared.status.Status.TheVariants as status
use Rattle.gd_top.specs.Ends.{is_refused}

-- where the content was told, all that a stop leaves stands for a node: for its list, with all or none of the group in doubt
abbrev pub LeavesNode : Option (List ℕ) → (List ℕ → Type 0) → Node → Type 0
LeavesNode told images node = ForSome told (λ _. LeavesAll images node)

-- the same of the file that the words name
abbrev pub LeavesNodeAt : (List ℕ → Option (List ℕ)) → (List ℕ → List ℕ → Type 0) → Option (List ℕ) → Node → Type 0
LeavesNodeAt content images None node = Unit {0}
LeavesNodeAt content images (Some path) node = LeavesNode (content path) (images path) node

-- A run of a node with this status printed what the definitions answer to all lines of the input, one after another, from a list with which it may begin; or to those before which it stopped; or a front of that where the sink failed. The node that these lines make is left, and the count of faults rose by the lines that tell one. Without memory it may also not have begun, and where its store was not opened it did not begin.
pub record PrintsNode (s : Status) (begins : List Batch → Type 0) (leaves : Node → Type 0) (rises : ℕ → Type 0) (unbegun : Type 0) (left held_old held_new : Option (List ℕ)) : Type 0 where
  pub done : s ≡ status.Done → IfSome left (FollowsAll begins leaves rises held_old held_new)
  pub between : (s ≡ status.ReadFault) ⊎ (s ≡ status.TooMuch) → IfSome left (FollowsTaken begins leaves rises held_old held_new)
  pub within : s ≡ status.SinkFault → IfSome left (FollowsFront begins leaves rises held_old held_new)
  pub memory : s ≡ status.Memory → unbegun ⊎ IfSome left (FollowsTaken begins leaves rises held_old held_new)
  pub nothing : is_refused s ≡ true → unbegun
