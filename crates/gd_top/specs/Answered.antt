-- What was printed for lines so far, on the way to the end of an input.
use Rattle.std.specs.Prelude.{◌≡◌, ℕ, ◌+◌, List, [], ◌++◌, length, Bool, false, Option}
use Rattle.std.specs.Io.KnownBytes.{Appends}
use Rattle.gd_base.specs.Counts.{RoseBy}
use Rattle.gd_prim.specs.declared.Batch.{Batch}
use Rattle.gd_runs.specs.Explained.{Numbered, pieces, numbered, lines_of, fault_count}
use Rattle.gd_runs.specs.Core.{State}
use Rattle.gd_input.specs.Rounds.{in_round}
use Rattle.gd_input.specs.Taken.{whole_rounds}
use Rattle.gd_outside.specs.Gains.{GainsFront}
use Rattle.gd_round_laws.specs.Rounds.{ServesRound, RoundsStand}
use Rattle.gd_threads.specs.PassedOn.{KeepingValue, CountsLines, printed}
use Rattle.gd_round_lines.specs.Works.{texts_of}

-- Lines of a round, the first of them line k, were answered with these replies: they were served behind whatever was served before, the faults that they tell were counted, and the answers to reads in what sessions keep.
pub record Answered (may : ℕ → Bool) (s : State) (k : ℕ) (t : State) (texts replies : List (List ℕ)) (before after : ℕ) (had has : KeepingValue) : Type 0 where
  pub many : length replies ≡ length texts
  pub goes : (round : ℕ) → ServesRound may s k round (in_round round texts) (printed replies) t
  pub rose : RoseBy before after (fault_count k replies)
  pub counted : CountsLines k texts replies had has

-- These lines of a round, the first of them line k, were answered, the next line is line n, and the sink gained what is printed for them.
pub record Answers (may : ℕ → Bool) (s : State) (k : ℕ) (t : State) (n : ℕ) (texts : List (List ℕ)) (old new : Option (List ℕ)) (before after : ℕ) (had has : KeepingValue) : Type 0 where
  pub replies : List (List ℕ)
  pub answered : Answered may s k t texts replies before after had has
  pub next : n ≡ k + length replies
  pub gained : Appends old new (printed replies)

-- These lines of a round were answered, and the sink gained a front of what is printed for them.
pub record AnswersFront (may : ℕ → Bool) (s : State) (k : ℕ) (t : State) (texts : List (List ℕ)) (old new : Option (List ℕ)) (before after : ℕ) (had has : KeepingValue) : Type 0 where
  pub replies : List (List ℕ)
  pub answered : Answered may s k t texts replies before after had has
  pub front : GainsFront old new (printed replies)

-- Before what is left of the input stand whole rounds: their lines were served, the next of which is line k, the sink gained what was printed for them, the faults that it tells were counted, and the answers to reads in what sessions keep. Where the input is not over, these are the rounds that lie wholly in what was taken, whatever follows.
pub record ServedUpto (over : Bool) (loaded : List Batch) (may : ℕ → Bool) (old new : Option (List ℕ)) (before after : ℕ) (had has : KeepingValue) (s : State) (k : ℕ) (input left : List ℕ) : Type 0 where
  pub round : ℕ
  pub given : List Numbered
  pub replies : List (List ℕ)
  pub lines : lines_of input ≡ given ++ numbered round 0 (pieces [] left)
  pub taken : List ℕ
  pub parts : input ≡ taken ++ left
  pub whole : over ≡ false → (more : List ℕ) → whole_rounds (taken ++ more) ≡ round + whole_rounds more
  pub stand : RoundsStand loaded may s round given (printed replies)
  pub many : k ≡ length replies
  pub each : length replies ≡ length given
  pub gained : Appends old new (printed replies)
  pub rose : RoseBy before after (fault_count 0 replies)
  pub counted : CountsLines 0 (texts_of given) replies had has
