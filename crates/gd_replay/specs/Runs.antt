-- What lines and pieces of the input come to, on the way to the end of a run of events, over a disk that tells its content or not (`told`).
use Rattle.std.specs.Prelude.{◌≡◌, ℕ, ◌+◌, List, [], ◌∷◌, ◌++◌, length, Bool, Option, Result, Ok, Err, OnOk}
use Rattle.std.specs.Io.KnownBytes.{Appends, Keeps}
use Rattle.gd_base.specs.Counts.{RoseBy}
use Rattle.gd_base.specs.declared.memory.Memory.{Memory}
use Rattle.gd_prim.specs.declared.Batch.{Batch}
use Rattle.gd_sessions.specs.PassedOn.{one_member}
use Rattle.gd_runs.specs.Explained.{Numbered, pieces, numbered, lines_of, faults_told}
use Rattle.gd_runs.specs.Core.{State, opened}
use Rattle.gd_replay_laws.specs.Runs.{LineOver, RepliesOver, PieceRuns, lines_at}
use Rattle.gd_runs.specs.Pace.{DueOf, Left}
use Rattle.gd_replay_laws.specs.Paced.{AreWithin, LinePaces, PacedRun}
use Rattle.gd_replay_laws.specs.Faults.{IsCounted, faults_from}
use Rattle.gd_outside.specs.Gains.{GainsFront}
use Rattle.gd_reply.specs.Replies.{reply_text}
use Rattle.gd_reply.specs.declared.reply.Reply.{Reply}
use Rattle.gd_replay.specs.declared.stop.Stop.{Stop}
use Rattle.gd_replay.specs.declared.stop.Stop.TheVariants as stop
use Rattle.gd_replay.specs.Stops.{end_faults}

-- ---- a line

-- a reply that is due: the one that was made, or any where there was no memory for it
abbrev pub IsDue : Result Reply Memory → List ℕ → Type 0
IsDue (Ok made) line = line ≡ reply_text made
IsDue (Err none) line = Unit {0}

-- there was no memory for a reply, and nothing was printed
pub record IsUnmade (reply : Result Reply Memory) (old new : Option (List ℕ)) : Type 0 where
  pub none : OnOk reply ⊥
  pub kept : Keeps old new

-- line k came to a state, the sink gained its reply, and a failure of the disk that it tells was counted
pub record LinePrints (told : Bool) (may : ℕ → Bool) (s : State) (k : ℕ) (bytes : List ℕ) (t : State) (old new : Option (List ℕ)) (before after : ℕ) (now next : Left) : Type 0 where
  pub reply : List ℕ
  pub line : LineOver told one_member may s k bytes reply t
  pub counted : IsCounted k reply before after
  pub paced : (d : DueOf) → LinePaces one_member d s k bytes reply t now next
  pub gained : Appends old new (reply ++ 10 ∷ [])

-- line k came to a state, which is left, the sink gained a front of its reply, and a failure of the disk that it tells was counted
pub record LineFront (told : Bool) (may : ℕ → Bool) (s : State) (k : ℕ) (bytes : List ℕ) (leaves : State → Type 0) (old new : Option (List ℕ)) (before after : ℕ) (now : Left) : Type 0 where
  pub reply : List ℕ
  pub state : State
  pub line : LineOver told one_member may s k bytes reply state
  pub counted : IsCounted k reply before after
  pub next : Left
  pub paced : (d : DueOf) → LinePaces one_member d s k bytes reply state now next
  pub left : leaves state
  pub front : GainsFront old new (reply ++ 10 ∷ [])

-- nothing of a line was printed, the state before it is left, and the count of faults rose by so many
pub record LineLost (s : State) (leaves : State → Type 0) (old new : Option (List ℕ)) (before after n : ℕ) : Type 0 where
  pub left : leaves s
  pub kept : Keeps old new
  pub rose : RoseBy before after n

-- a line stopped a run so
abbrev pub LineStops : Bool → (ℕ → Bool) → State → ℕ → List ℕ → (State → Type 0) → Stop → (old new : Option (List ℕ)) → (before after : ℕ) → Left → Type 0
LineStops told may s k bytes leaves (stop.Lost f) old new before after now = LineLost s leaves old new before after (end_faults (Err (stop.Lost f)))
LineStops told may s k bytes leaves stop.ReadFault old new before after now = ⊥
LineStops told may s k bytes leaves stop.TooMuch old new before after now = ⊥
LineStops told may s k bytes leaves (stop.Unopened f) old new before after now = ⊥
LineStops told may s k bytes leaves stop.SinkFault old new before after now = LineFront told may s k bytes leaves old new before after now
LineStops told may s k bytes leaves stop.Memory old new before after now = LineLost s leaves old new before after (end_faults (Err stop.Memory))

-- ---- a piece of the input

-- a piece of the input keeps the pace: from each count that what was left is within to one that what is left now is within
abbrev pub PiecePaces : Bool → (ℕ → Bool) → State → ℕ → List ℕ → List ℕ → State → (now next : Left) → Type 0
PiecePaces told may s k piece output t now next = (d : DueOf) (a : Left) → AreWithin now a → (z : Left) × ((round : ℕ) → PacedRun told one_member d may s a k (lines_at round piece) output t z) × AreWithin next z

-- so do all lines of a run that has begun, where nothing was left
abbrev pub RunPaces : Bool → (ℕ → Bool) → List Batch → List Numbered → List ℕ → State → Left → Type 0
RunPaces told may loaded given output s now = (d : DueOf) → (z : Left) × PacedRun told one_member d may (opened loaded) (λ i. 0) 0 given output s z × AreWithin now z

-- A piece of the input, where the next line is line k, came to a state and the next line to line n, the sink gained what it printed, and the faults that it tells were counted.
pub record PiecePrints (told : Bool) (may : ℕ → Bool) (s : State) (k : ℕ) (piece : List ℕ) (t : State) (n : ℕ) (old new : Option (List ℕ)) (before after : ℕ) (now next : Left) : Type 0 where
  pub output : List ℕ
  pub runs : PieceRuns told one_member may s k piece output t
  pub paced : PiecePaces told may s k piece output t now next
  pub many : n ≡ k + length (lines_at 0 piece)
  pub gained : Appends old new output
  pub rose : RoseBy before after (faults_from k output)

-- a piece of the input came to a state, which is left, the sink gained a front of what it prints, and the faults that this tells were counted
pub record PieceFront (told : Bool) (may : ℕ → Bool) (s : State) (k : ℕ) (piece : List ℕ) (leaves : State → Type 0) (old new : Option (List ℕ)) (before after : ℕ) (now : Left) : Type 0 where
  pub output : List ℕ
  pub rest : List ℕ
  pub state : State
  pub runs : PieceRuns told one_member may s k piece (output ++ rest) state
  pub next : Left
  pub paced : PiecePaces told may s k piece (output ++ rest) state now next
  pub left : leaves state
  pub gained : Appends old new output
  pub rose : RoseBy before after (faults_from k (output ++ rest))

-- a piece of the input stopped a run so
abbrev pub PieceStops : Bool → (ℕ → Bool) → State → ℕ → List ℕ → (State → Type 0) → Stop → (old new : Option (List ℕ)) → (before after : ℕ) → Left → Type 0
PieceStops told may s k piece leaves (stop.Lost f) old new before after now = LineLost s leaves old new before after (end_faults (Err (stop.Lost f)))
PieceStops told may s k piece leaves stop.ReadFault old new before after now = ⊥
PieceStops told may s k piece leaves stop.TooMuch old new before after now = ⊥
PieceStops told may s k piece leaves (stop.Unopened f) old new before after now = ⊥
PieceStops told may s k piece leaves stop.SinkFault old new before after now = PieceFront told may s k piece leaves old new before after now
PieceStops told may s k piece leaves stop.Memory old new before after now = LineLost s leaves old new before after (end_faults (Err stop.Memory))

-- ---- on the way

-- Before what is left of the input stand lines that were taken: they print what the sink gained, and make a state, and the faults that they tell were counted.
pub record RunUpto (told : Bool) (may : ℕ → Bool) (loaded : List Batch) (old new : Option (List ℕ)) (before after : ℕ) (k : ℕ) (s : State) (now : Left) (input left : List ℕ) : Type 0 where
  pub round : ℕ
  pub in_round : ℕ
  pub given : List Numbered
  pub output : List ℕ
  pub lines : lines_of input ≡ given ++ numbered round in_round (pieces [] left)
  pub replies : RepliesOver told one_member may (opened loaded) 0 given output s
  pub paced : RunPaces told may loaded given output s now
  pub many : k ≡ length given
  pub gained : Appends old new output
  pub rose : RoseBy before after (faults_told output)
