-- The list of a node keeps what it has, whatever lines it is given.
use Rattle.std.proofs.Common.{◌≡◌, ◌∙◌, inl, inr, ⊎_elim, ℕ, ◌+◌, List, [], ◌∷◌, ◌++◌, sym, ap, append_assoc}
use Rattle.std.proofs.lemmas.List.{append-nil}
use Rattle.gd_prim.specs.declared.Batch.{Batch}
use Rattle.gd_runs.specs.Explained.{Numbered}
use Rattle.gd_follow_laws.specs.Given as outcome
use Rattle.gd_follow_laws.specs.Given.{Outcome, past}
use Rattle.gd_follow_laws.specs.World.{Node, Run, Settled}
use Rattle.gd_following.specs.Lines.{FollowLine, ask, give, read}
use Rattle.gd_following.specs.Replies.{GiveReply, GroupReply, list_after}
use Rattle.gd_following.specs.Follows.{Answers, FollowReply, Follows}

-- the second list is the first with more behind it
abbrev pub IsLonger : List Batch → List Batch → Type 0
IsLonger old new = (more : List Batch) × (new ≡ old ++ more)

same_longer : (old new : List Batch) → new ≡ old → IsLonger old new
same_longer old new is = ([], is ∙ sym (append-nil old))

longer_then : (a b c : List Batch) → IsLonger a b → IsLonger b c → IsLonger a c
longer_then a b c (more, b_is) (further, c_is) = (more ++ further, c_is ∙ ap (λ l. l ++ further) b_is ∙ append_assoc a more further)

settled_longer : (node : Node) (list : List Batch) → Settled node list → IsLonger node.list list
settled_longer node list (inl is) = same_longer node.list list is
settled_longer node list (inr (more, doubt, is)) = (more, is)

same_node : (node after : Node) → after ≡ node → IsLonger node.list after.list
same_node node after is = same_longer node.list after.list (ap (λ (n : Node). n.list) is)

outcome_longer : (list : List Batch) (run : Run) (o : Outcome) → IsLonger list (list_after list run o)
outcome_longer list run outcome.gap = same_longer list list (λ i. list)
outcome_longer list run outcome.known = same_longer list list (λ i. list)
outcome_longer list run (outcome.fork at) = same_longer list list (λ i. list)
outcome_longer list run (outcome.unfit at) = same_longer list list (λ i. list)
outcome_longer list run outcome.taken = (past list run.from run.group, λ i. list ++ past list run.from run.group)

-- the node has this list then
now_longer : (node after : Node) (list now : List Batch) → Settled node list → IsLonger list now → after.list ≡ now → IsLonger node.list after.list
now_longer node after list now settled longer is =
    longer_then node.list now after.list (longer_then node.list list now (settled_longer node list settled) longer) (same_longer now after.list is)

group_longer : (node : Node) (run : Run) (k : ℕ) (reply : List ℕ) (after : Node) → GroupReply node run k reply after → IsLonger node.list after.list
group_longer node run k reply after (inl (some, same, is)) = same_node node after same
group_longer node run k reply after (inr (list, settled, inl (o, comes, same, is))) = now_longer node after list (list_after list run o) settled (outcome_longer list run o) (ap (λ (n : Node). n.list) same)
group_longer node run k reply after (inr (list, settled, inr (comes, same, is))) = now_longer node after list list settled (same_longer list list (λ i. list)) (ap (λ (n : Node). n.list) same)

give_longer : (node : Node) (k from : ℕ) (bytes reply : List ℕ) (after : Node) → GiveReply node k from bytes reply after → IsLonger node.list after.list
give_longer node k from bytes reply after (inl (offset, bad, is, same)) = same_node node after same
give_longer node k from bytes reply after (inr (inl (group, is, told))) = group_longer node (record { from = from; group = group }) k reply after told
give_longer node k from bytes reply after (inr (inr (is, lacks))) = ⊎_elim
    (λ same. same_node node after same)
    (λ (list, settled, same). now_longer node after list list settled (same_longer list list (λ i. list)) (ap (λ (n : Node). n.list) same))
    lacks

answer_longer : (node : Node) (k : ℕ) (l : FollowLine) (reply : List ℕ) (after : Node) → Answers node k l reply after → IsLonger node.list after.list
answer_longer node k (ask from most) reply after (told, same) = same_node node after same
answer_longer node k (give from group) reply after told = give_longer node k from group reply after told
answer_longer node k (read session r) reply after (is, same) = same_node node after same

pub reply_longer : (node : Node) (k : ℕ) (bytes reply : List ℕ) (after : Node) → FollowReply node k bytes reply after → IsLonger node.list after.list
reply_longer node k bytes reply after (inl (f, asked, is, same)) = same_node node after same
reply_longer node k bytes reply after (inr (inl (l, asked, told))) = answer_longer node k l reply after told
reply_longer node k bytes reply after (inr (inr (is, same))) = same_node node after same

-- The list after lines begins with the list before them.
pub follows_longer : (node : Node) (k : ℕ) (lines : List Numbered) (output : List ℕ) (after : Node) → Follows node k lines output after → IsLonger node.list after.list
follows_longer node k [] output after (none, same) = same_node node after same
follows_longer node k (l ∷ ls) output after (reply, next, rest, told, prints, others) =
    longer_then node.list next.list after.list (reply_longer node k l.bytes reply next told) (follows_longer next (k + 1) ls rest after others)
