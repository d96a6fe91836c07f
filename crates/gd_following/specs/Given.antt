-- What comes of a group, as a line.
use Rattle.std.specs.Prelude.{◌≡◌, ◌≢◌, ◌⊎◌, ◌≤◌, ℕ, List, Option, Result, Ok, Err, codes}
use Rattle.std.specs.Option.{is_some}
use Rattle.gd_prim.specs.declared.Batch.{Batch}
use Rattle.gd_fault.specs.declared.fault.LineFault.{LineFault}
use Rattle.gd_fault.specs.declared.fault.LineFault.TheVariants as line_fault
use Rattle.gd_mql.specs.Line.{fault_view}
use Rattle.gd_runs.specs.Input.{input_fault_line}
use Rattle.gd_runs.specs.Explained.{memory_line, disk_line}
use Rattle.gd_replay_laws.specs.Faults.{IsCounted}
use Rattle.gd_follow_laws.specs.Given as outcome
use Rattle.gd_follow_laws.specs.World.{Node}
use Rattle.gd_follow.specs.declared.answer.Given.{Given}
use Rattle.gd_follow.specs.declared.answer.Given.TheVariants as given
use Rattle.gd_follow.specs.declared.answer.GiveFault.{GiveFault}
use Rattle.gd_follow.specs.declared.answer.GiveFault.TheVariants as fault
use Rattle.gd_follow.specs.Node.{NodeValue, node_of, HoldsNode}
use Rattle.gd_following.specs.Lines.{FollowLine}
use Rattle.gd_following.specs.Replies.{AskReply, outcome_line}
use Rattle.gd_following.specs.Follows.{Answers, FollowReply}

-- a line for which there was memory, or the one that there was none
abbrev pub MayBeLine : ℕ → List ℕ → List ℕ → Type 0
MayBeLine k line reply = (reply ≡ line) ⊎ (reply ≡ memory_line k)

-- the line of what a node answers, at so many entries: of what was taken, or where the disk failed, it is certain; else there may be no memory for it
abbrev pub GivenLine : ℕ → ℕ → Result Given GiveFault → List ℕ → Type 0
GivenLine entries k (Ok given.Taken) reply = reply ≡ outcome_line k entries outcome.taken
GivenLine entries k (Ok given.Known) reply = MayBeLine k (outcome_line k entries outcome.known) reply
GivenLine entries k (Ok given.Gap) reply = MayBeLine k (outcome_line k entries outcome.gap) reply
GivenLine entries k (Err (fault.Fork at)) reply = MayBeLine k (outcome_line k entries (outcome.fork at)) reply
GivenLine entries k (Err (fault.Unfit entry)) reply = MayBeLine k (outcome_line k entries (outcome.unfit entry)) reply
GivenLine entries k (Err fault.DiskNo) reply = reply ≡ disk_line k (codes "no")
GivenLine entries k (Err fault.DiskMaybe) reply = reply ≡ disk_line k (codes "maybe")
GivenLine entries k (Err fault.Memory) reply = reply ≡ memory_line k

-- line k is refused for this fault, or there was no memory for that
abbrev pub TellsFault : ℕ → LineFault → List ℕ → Type 0
TellsFault k f reply = ((f ≢ line_fault.Memory) × (reply ≡ input_fault_line k (fault_view f))) ⊎ (reply ≡ memory_line k)

-- an ask is answered so, or there was no memory for that
abbrev pub TellsAsk : List Batch → ℕ → (from most : ℕ) → List ℕ → Type 0
TellsAsk list k from most reply = AskReply list k from most reply ⊎ (reply ≡ memory_line k)

-- line k, which asks this of a node, is answered so, or there was no memory for that and the node is as it was
abbrev pub MayAnswer : Node → ℕ → FollowLine → List ℕ → Node → Type 0
MayAnswer node k l reply after = Answers node k l reply after ⊎ ((reply ≡ memory_line k) × (after ≡ node))

-- The disk's count does not fall, it goes on to tell its content or not, and goes on to hold the node's list.
pub record GoesOn {D : Type 0} (content : D → Option (List ℕ)) (images : D → List ℕ → Type 0) (faults : D → ℕ) (old new : NodeValue D) : Type 0 where
  pub later : faults old.log.disk ≤ faults new.log.disk
  pub told : is_some (content new.log.disk) ≡ is_some (content old.log.disk)
  pub holds : HoldsNode content images old → HoldsNode content images new

-- Line k is answered so by a node over a disk, and a failure of the disk that the reply tells was counted.
pub record LineReply {D : Type 0} (content : D → Option (List ℕ)) (images : D → List ℕ → Type 0) (faults : D → ℕ) (before : NodeValue D) (k : ℕ) (bytes reply : List ℕ) (after : NodeValue D) : Type 0 where
  pub replies : FollowReply (node_of before) k bytes reply (node_of after)
  pub counted : IsCounted k reply (faults before.log.disk) (faults after.log.disk)
  pub on : GoesOn content images faults before after
