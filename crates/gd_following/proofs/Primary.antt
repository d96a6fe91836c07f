-- A node whose lines give it what a primary answered follows that primary: a run is made of steps of the world in which it does.
use Rattle.std.proofs.Common.{◌≡◌, inl, inr, refl, ℕ, suc, ◌+◌, List, [], ◌∷◌, Some, Ok, slice_get, sym, subst}
use Rattle.gd_bytes.specs.Group.{IsGroup}
use Rattle.gd_prim.specs.declared.Batch.{Batch}
use Rattle.gd_runs.specs.Explained.{Numbered}
use Rattle.gd_follow_laws.specs.Given as outcome
use Rattle.gd_follow_laws.specs.Given.{Outcome, Comes}
use Rattle.gd_follow_laws.specs.World.{Node, Run, World, Settled, certain, After, Gives, Reached}
use Rattle.gd_follow_laws.proofs.Follows.{IsFront, follows, never}
use Rattle.gd_following.specs.Lines.{FollowLine, ask, give, read, follow_from}
use Rattle.gd_following.specs.Replies.{list_after, GroupReply, GiveReply, LacksMemory}
use Rattle.gd_following.specs.Follows.{Answers, FollowReply, Follows}
use Rattle.gd_following.specs.Primary.{GivesAnswer, GiveAnswers, with_node}

-- ---- a group that is answered is a step of the node

after_of : (list : List Batch) (run : Run) (o : Outcome) (after : Node) → after ≡ certain (list_after list run o) → After list run o after
after_of list run outcome.gap after is = is
after_of list run (outcome.fork at) after is = is
after_of list run outcome.known after is = is
after_of list run (outcome.unfit at) after is = is
after_of list run outcome.taken after is = inl is

group_gives : (node : Node) (run : Run) (k : ℕ) (reply : List ℕ) (after : Node) → GroupReply node run k reply after → Gives node run after
group_gives node run k reply after (inl (some, same, is)) = inl same
group_gives node run k reply after (inr (list, settled, inl (o, comes, same, is))) = inr (inr (o, (list, settled, comes, after_of list run o after same)))
group_gives node run k reply after (inr (list, settled, inr (comes, same, is))) = inr (inr (outcome.taken, (list, settled, comes, inr (inl same))))

-- ---- lines

-- a world that was reached with this node
abbrev IsReached : World → Node → Type 0
IsReached w node = (m : ℕ) × Reached m (with_node w node)

stays : (w : World) (node after : Node) → after ≡ node → IsReached w node → IsReached w after
stays w node after same reached = subst (IsReached w) (sym same) reached

gives : (w : World) (node after : Node) (number : ℕ) (run : Run) → slice_get w.answers number ≡ Some run → Gives node run after → IsReached w node → IsReached w after
gives w node after number run there step (m, reached) = (suc m, (with_node w node, reached, inr (inr (inl (number, run, there, (after, step, refl))))))

-- No memory was found for a group: the doubt was ended or not, as a node that stops and opens again has it.
lacks : (w : World) (node after : Node) (k : ℕ) (reply : List ℕ) → LacksMemory node k reply after → IsReached w node → IsReached w after
lacks w node after k reply (is, inl same) reached = stays w node after same reached
lacks w node after k reply (is, inr (list, settled, same)) (m, reached) = stays w (certain list) after same (suc m, (with_node w node, reached, inr (inr (inr (list, settled, refl)))))

give_reached : (w : World) (node : Node) (k from : ℕ) (bytes reply : List ℕ) (after : Node) → ((group : List Batch) → IsGroup bytes group → (number : ℕ) × (slice_get w.answers number ≡ Some (record { from = from; group = group }))) → GiveReply node k from bytes reply after → IsReached w node → IsReached w after
give_reached w node k from bytes reply after answer (inl (offset, bad, is, same)) reached = stays w node after same reached
give_reached w node k from bytes reply after answer (inr (inl (group, is, told))) reached =
    let (number, there) = answer group is in
    gives w node after number (record { from = from; group = group }) there (group_gives node (record { from = from; group = group }) k reply after told) reached
give_reached w node k from bytes reply after answer (inr (inr none)) reached = lacks w node after k reply none reached

answer_reached : (w : World) (node : Node) (k : ℕ) (line : List ℕ) (l : FollowLine) (reply : List ℕ) (after : Node) → GivesAnswer w.answers line → follow_from line ≡ Ok l → Answers node k l reply after → IsReached w node → IsReached w after
answer_reached w node k line (ask from most) reply after answer asked (told, same) reached = stays w node after same reached
answer_reached w node k line (give from bytes) reply after answer asked told reached = give_reached w node k from bytes reply after (λ group is. answer from bytes group asked is) told reached
answer_reached w node k line (read session r) reply after answer asked (is, same) reached = stays w node after same reached

reply_reached : (w : World) (node : Node) (k : ℕ) (line reply : List ℕ) (after : Node) → GivesAnswer w.answers line → FollowReply node k line reply after → IsReached w node → IsReached w after
reply_reached w node k line reply after answer (inl (f, asked, is, same)) reached = stays w node after same reached
reply_reached w node k line reply after answer (inr (inl (l, asked, told))) reached = answer_reached w node k line l reply after answer asked told reached
reply_reached w node k line reply after answer (inr (inr (is, same))) reached = stays w node after same reached

lines_reached : (w : World) (node : Node) (k : ℕ) (lines : List Numbered) (output : List ℕ) (after : Node) → GiveAnswers w.answers lines → Follows node k lines output after → IsReached w node → IsReached w after
lines_reached w node k [] output after answers (none, same) reached = stays w node after same reached
lines_reached w node k (l ∷ ls) output after (answer, answers) (reply, next, rest, told, prints, others) reached =
    lines_reached w next (k + 1) ls rest after answers others (reply_reached w node k l.bytes reply next answer told reached)

-- LAW: Lines that give a node answers of a primary are steps of the world in which it follows that primary, so all laws of such worlds hold of it.
pub run_reached : (n : ℕ) (w : World) (k : ℕ) (lines : List Numbered) (output : List ℕ) (after : Node) → Reached n w → GiveAnswers w.answers lines → Follows w.node k lines output after → (m : ℕ) × Reached m (with_node w after)
run_reached n w k lines output after reached answers follow = lines_reached w w.node k lines output after answers follow (n, reached)

-- LAW: The node's list then begins the primary's.
pub run_follows : (n : ℕ) (w : World) (k : ℕ) (lines : List Numbered) (output : List ℕ) (after : Node) → Reached n w → GiveAnswers w.answers lines → Follows w.node k lines output after → IsFront after.list w.primary
run_follows n w k lines output after reached answers follow =
    let (m, there) = run_reached n w k lines output after reached answers follow in
    follows m (with_node w after) there

-- LAW: And a group that it gives comes to no fork and to no unfit batch, whatever the node's doubt comes to.
pub run_never : (n : ℕ) (w : World) (k : ℕ) (lines : List Numbered) (output : List ℕ) (after : Node) → Reached n w → GiveAnswers w.answers lines → Follows w.node k lines output after
    → (number : ℕ) (run : Run) (list : List Batch) (at : ℕ) → slice_get w.answers number ≡ Some run → Settled after list → (Comes list run.from run.group (outcome.fork at) → ⊥) × (Comes list run.from run.group (outcome.unfit at) → ⊥)
run_never n w k lines output after reached answers follow number run list at there settled =
    let (m, now) = run_reached n w k lines output after reached answers follow in
    let (forks, unfits) = never m (with_node w after) number run (certain list) at now there in
    (λ comes. forks (list, settled, comes, refl), λ comes. unfits (list, settled, comes, refl))
