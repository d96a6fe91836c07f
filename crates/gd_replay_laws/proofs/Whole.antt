-- Runs of events over a file that is told, or without opening the store again, are runs of the definitions.
use Rattle.std.proofs.Common.{◌≡◌, ℕ, ◌+◌, List, [], ◌∷◌, length, Bool, IsTrue, Ok, inl, inr, ⊎_elim, refl, ap, ◌∙◌}
use Rattle.gd_runs.specs.Owed.{MembersOf}
use Rattle.gd_runs.specs.Explained.{Numbered}
use Rattle.gd_runs.specs.Core as core
use Rattle.gd_runs.specs.Core.{Event, State, Step}
use Rattle.gd_runs.specs.Replay.{event_from, LineStep, Replies}
use Rattle.gd_runs.specs.Pace.{DueOf, Left, PacedReplies}
use Rattle.gd_replay_laws.specs.Steps.{StepOver}
use Rattle.gd_replay_laws.specs.Runs.{LineOver, RepliesOver, MayReopen}
use Rattle.gd_replay_laws.specs.Paced.{PacedRun}

step_is : (told : Bool) (members : MembersOf) (may : ℕ → Bool) (s : State) (k bytes : ℕ) (e : Event) (line : List ℕ) (t : State) → (e ≡ core.reopen → IsTrue told) → StepOver told members may s k bytes e line t → Step members may s k bytes e line t
step_is told members may s k bytes (core.begin i r) line t reopens step = step
step_is told members may s k bytes (core.slice i n) line t reopens step = step
step_is told members may s k bytes (core.write i w) line t reopens step = step
step_is told members may s k bytes (core.learn i m) line t reopens step = step
step_is told members may s k bytes (core.freeze i) line t reopens step = step
step_is told members may s k bytes (core.thaw i r frozen) line t reopens step = step
step_is told members may s k bytes core.reopen line t reopens step = step.0 (reopens refl)

line_is : (told : Bool) (members : MembersOf) (may : ℕ → Bool) (s : State) (k : ℕ) (bytes reply : List ℕ) (t : State) → (event_from bytes ≡ Ok core.reopen → IsTrue told) → LineOver told members may s k bytes reply t → LineStep members may s k bytes reply t
line_is told members may s k bytes reply t reopens step = ⊎_elim
    (λ no_event. inl no_event)
    (λ some. ⊎_elim (λ (e, event, taken). inr (inl (e, event, step_is told members may s k (length bytes) e reply t (λ same. reopens (event ∙ ap Ok same)) taken))) (λ without. inr (inr without)) some)
    step

pub replies_are : (told : Bool) (members : MembersOf) (may : ℕ → Bool) (s : State) (k : ℕ) (ls : List Numbered) (output : List ℕ) (t : State) → MayReopen told ls → RepliesOver told members may s k ls output t → Replies members may s k ls output t
replies_are told members may s k [] output t reopens run = run
replies_are told members may s k (l ∷ ls) output t reopens (reply, mid, rest, first, prints, more) =
    (reply, mid, rest, line_is told members may s k l.bytes reply mid reopens.0 first, prints, replies_are told members may mid (k + 1) ls rest t reopens.1 more)

pub paced_are : (told : Bool) (members : MembersOf) (d : DueOf) (may : ℕ → Bool) (s : State) (a : Left) (k : ℕ) (ls : List Numbered) (output : List ℕ) (t : State) (z : Left) → MayReopen told ls → PacedRun told members d may s a k ls output t z
    → PacedReplies members d may s a k ls output t
paced_are told members d may s a k [] output t z reopens (none, same, count) = (none, same)
paced_are told members d may s a k (l ∷ ls) output t z reopens (reply, mid, b, rest, first, pace, prints, more) =
    (reply, mid, b, rest, line_is told members may s k l.bytes reply mid reopens.0 first, pace, prints, paced_are told members d may mid b (k + 1) ls rest t z reopens.1 more)
