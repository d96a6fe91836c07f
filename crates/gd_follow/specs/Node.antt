-- What contracts see of a node, and what it answers.
use Rattle.std.specs.Prelude.{◌≡◌, ◌⊎◌, ℕ, List, ◌++◌, length, true, Option, Some, None, IsSome, Result, Ok, Err}
use Rattle.std.specs.List.{AllByRecursion}
use Rattle.gd_prim.specs.declared.Batch.{Batch}
use Rattle.gd_prim.specs.History.{prims_of}
use Rattle.gd_prim.specs.WellFormed.{all_follow}
use Rattle.gd_base.specs.Counts.{Rose}
use Rattle.gd_journal.specs.State.{Journaled}
use Rattle.gd_bytes.specs.Disk.{LeavesOnly}
use Rattle.gd_bytes.specs.File.{MayStandFor}
use Rattle.gd_log.specs.Stored.{IsEarly, MayAppend, Holds, groups_in_doubt}
use Rattle.gd_follow_laws.specs.Given as outcome
use Rattle.gd_follow_laws.specs.World as world
use Rattle.gd_follow.specs.declared.answer.Given.{Given}
use Rattle.gd_follow.specs.declared.answer.Given.TheVariants as given
use Rattle.gd_follow.specs.declared.answer.GiveFault.{GiveFault}
use Rattle.gd_follow.specs.declared.answer.GiveFault.TheVariants as fault

-- What contracts see: the log, the batches, and the group in doubt.
pub record NodeValue (D : Type 0) : Type 0 where
  pub log : Journaled D
  pub list : List Batch
  pub doubt : Option (List Batch)

-- the same, without its disk
abbrev pub node_of : {D : Type 0} → NodeValue D → world.Node
node_of n = record { list = n.list; doubt = n.doubt }

-- The log is in doubt just where a group is, which may be appended to the list.
abbrev pub IsDoubted : Option ℕ → List Batch → Option (List Batch) → Type 0
IsDoubted next list None = next ≡ None
IsDoubted next list (Some more) = IsSome next × MayAppend list more

-- What appending batches behind the list comes to: the first that may not follow is told; else they are appended, or are in doubt.
abbrev pub Appended : List Batch → List Batch → Result Given GiveFault → world.Node → Type 0
Appended list past (Ok given.Taken) after = (all_follow (prims_of list) (length list) past ≡ true) × (after ≡ world.certain (list ++ past))
Appended list past (Err (fault.Unfit entry)) after = outcome.IsUnfitAt list past entry × (after ≡ world.certain list)
Appended list past (Err fault.DiskMaybe) after = (all_follow (prims_of list) (length list) past ≡ true) × (after ≡ record { list = list; doubt = Some past })
Appended list past (Err fault.Memory) after = after ≡ world.certain list
Appended list past _ after = ⊥

-- What a node without a doubt answers to a group, and what it is then.
abbrev pub Answered : List Batch → world.Run → Result Given GiveFault → world.Node → Type 0
Answered list run (Ok given.Gap) after = outcome.Comes list run.from run.group outcome.gap × (after ≡ world.certain list)
Answered list run (Ok given.Known) after = outcome.Comes list run.from run.group outcome.known × (after ≡ world.certain list)
Answered list run (Ok given.Taken) after = outcome.Comes list run.from run.group outcome.taken × (after ≡ world.certain (list ++ outcome.past list run.from run.group))
Answered list run (Err (fault.Fork at)) after = outcome.Comes list run.from run.group (outcome.fork at) × (after ≡ world.certain list)
Answered list run (Err (fault.Unfit entry)) after = outcome.Comes list run.from run.group (outcome.unfit entry) × (after ≡ world.certain list)
Answered list run (Err fault.DiskMaybe) after = outcome.Comes list run.from run.group outcome.taken × (after ≡ record { list = list; doubt = Some (outcome.past list run.from run.group) })
Answered list run (Err fault.Memory) after = after ≡ world.certain list
Answered list run (Err fault.DiskNo) after = ⊥

-- What a node answers: its doubt could not be ended, and it is as it was; or the doubt is ended, and it answers so.
abbrev pub Gave : world.Node → world.Run → Result Given GiveFault → world.Node → Type 0
Gave node run (Err fault.DiskNo) after = IsSome node.doubt × (after ≡ node)
Gave node run (Err fault.Memory) after = (after ≡ node) ⊎ ((list : List Batch) × world.Settled node list × (after ≡ world.certain list))
Gave node run result after = (list : List Batch) × world.Settled node list × Answered list run result after

-- the log is in doubt just where a group is, and each batch is of a moment of a clock
pub record IsSound (next : Option ℕ) (list : List Batch) (doubt : Option (List Batch)) : Type 0 where
  pub doubted : IsDoubted next list doubt
  pub early : AllByRecursion IsEarly list

-- What ending a doubt comes to: it is ended, or the node is as it was.
abbrev pub Ends : world.Node → Result (Unit {0}) GiveFault → world.Node → Type 0
Ends node (Ok _) after = (list : List Batch) × world.Settled node list × (after ≡ world.certain list)
Ends node (Err fault.DiskNo) after = IsSome node.doubt × (after ≡ node)
Ends node (Err fault.Memory) after = after ≡ node
Ends node (Err _) after = ⊥

-- why a group is refused: the disk failed and its count rose; of the others nothing is said here
abbrev pub HasReason : ℕ → ℕ → GiveFault → Type 0
HasReason before now fault.DiskNo = Rose before now
HasReason before now fault.DiskMaybe = Rose before now
HasReason before now _ = Unit {0}

-- the file stands for the node's batches, followed by all or none of the group in doubt
abbrev pub StandsForNode : world.Node → List ℕ → Type 0
StandsForNode node file = MayStandFor node.list (groups_in_doubt node.doubt) file

-- the disk holds the node's batches, and is unsure of the group in doubt
abbrev pub HoldsNode : {D : Type 0} → (D → Option (List ℕ)) → (D → List ℕ → Type 0) → NodeValue D → Type 0
HoldsNode content images n = Holds (content n.log.disk) (images n.log.disk) n.log.gate n.log.doubt n.list n.doubt

-- at every moment from one node to the other a stop leaves what stands for the first, with all or none of its group in doubt, or so for the second
abbrev pub LeavesNodes : {D : Type 0} → (D → ℕ) → (D → List ℕ → Type 0) → (D → ℕ → List ℕ → Type 0) → NodeValue D → NodeValue D → Type 0
LeavesNodes moment images images_since old new = LeavesOnly moment images images_since old.log.disk new.log.disk (λ file. StandsForNode (node_of old) file ⊎ StandsForNode (node_of new) file)
