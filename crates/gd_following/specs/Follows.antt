-- What a node prints for its lines, one after another.
use Rattle.std.specs.Prelude.{◌≡◌, ◌⊎◌, ℕ, List, length, Ok, Err}
use Rattle.gd_runs.specs.Request.{reply_of}
use Rattle.gd_runs.specs.Input.{InputFault, input_fault_line}
use Rattle.gd_runs.specs.Explained.{Numbered, memory_line}
use Rattle.gd_answering.specs.Answering.{Replies}
use Rattle.gd_follow_laws.specs.World.{Node}
use Rattle.gd_following.specs.Lines.{FollowLine, ask, give, read, follow_from}
use Rattle.gd_following.specs.Replies.{AskReply, GiveReply}

-- Line k, which asks this of a node, is answered so, and the node is so afterwards: asks and reads are answered over its list, without a group in doubt, and leave it as it was.
abbrev pub Answers : Node → ℕ → FollowLine → List ℕ → Node → Type 0
Answers node k (ask from most) reply after = AskReply node.list k from most reply × (after ≡ node)
Answers node k (give from group) reply after = GiveReply node k from group reply after
Answers node k (read session r) reply after = (reply ≡ reply_of node.list (length node.list) k r) × (after ≡ node)

-- Line k has these bytes: they are no line, which is told; or a line that is answered; or there was no memory, and the node is as it was.
abbrev pub FollowReply : Node → ℕ → List ℕ → List ℕ → Node → Type 0
FollowReply node k bytes reply after =
    ((f : InputFault) × (follow_from bytes ≡ Err f) × (reply ≡ input_fault_line k f) × (after ≡ node))
    ⊎ (((l : FollowLine) × (follow_from bytes ≡ Ok l) × Answers node k l reply after)
    ⊎ ((reply ≡ memory_line k) × (after ≡ node)))

-- lines, the first of them line k, print an output and make a node
abbrev pub Follows : Node → ℕ → List Numbered → List ℕ → Node → Type 0
Follows node k lines output after = Replies FollowReply node k lines output after
