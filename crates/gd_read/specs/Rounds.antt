-- What a round of a reading comes to.
use Rattle.std.specs.Prelude.{ℕ, ◌+◌, ◌≤◌, List, Result, IfOk}
use Rattle.gd_prim.specs.declared.Batch.{Batch}
use Rattle.gd_base.specs.Counts.{Rose}
use Rattle.gd_base.specs.declared.memory.Memory.{Memory}
use Rattle.gd_window.specs.Kept.{Kept}
use Rattle.gd_reply.specs.Answers.{Tells}
use Rattle.gd_read.specs.Subject.{answer_of}
use Rattle.gd_read.specs.Stages.{StageOwes}
use Rattle.gd_read.specs.Left.{IsPastIds, round_left}
use Rattle.gd_read.specs.Marked.{mark_of}
use Rattle.gd_read.specs.declared.subject.Subject.{Subject}
use Rattle.gd_read.specs.declared.stage.Round.{Round}
use Rattle.gd_read.specs.declared.stage.Round.TheVariants as round

-- a round gives the answer, or goes on where it owes the same
abbrev pub RoundGives : List Batch → Subject → Kept → Round → Type 0
RoundGives batches s w (round.Answer a) = Tells (answer_of batches s) a
RoundGives batches s w (round.Going stage) = StageOwes batches s stage w

-- a round that goes on has taken a step
abbrev pub RoundCounts : ℕ → ℕ → Round → Type 0
RoundCounts before now (round.Answer a) = Unit {0}
RoundCounts before now (round.Going stage) = Rose before now

-- behind a stage a round gives the answer or goes on where it owes the same, and counts; so much is left then at most, and it takes one step at most
pub record RoundBehind (batches : List Batch) (s : Subject) (next : ℕ → ℕ) (w : Kept) (before after : ℕ) (result : Result Round Memory) : Type 0 where
  pub gives : IfOk result (λ round. RoundGives batches s w round)
  pub counted : IfOk result (λ round. RoundCounts before after round)
  pub left : (n : ℕ) → IfOk result (λ round. round_left n batches (mark_of s.after) round ≤ next n)
  pub work : after ≤ before + 1
  pub later : before ≤ after

-- a round gives the answer or goes on where it owes the same, and counts; it lowers what was left by its steps, whatever it comes to, and takes few
pub record RoundGoes (batches : List Batch) (s : Subject) (left : ℕ → ℕ) (w : Kept) (before after most : ℕ) (result : Result Round Memory) : Type 0 where
  pub gives : IfOk result (λ round. RoundGives batches s w round)
  pub counted : IfOk result (λ round. RoundCounts before after round)
  pub less : (n : ℕ) → IsPastIds n → IfOk result (λ round. after + round_left n batches (mark_of s.after) round ≤ before + left n)
  pub covered : (n : ℕ) → IsPastIds n → after ≤ before + left n
  pub work : after ≤ before + most
  pub later : before ≤ after
