-- What a round of a reading comes to.
use Rattle.std.specs.Prelude.{ℕ, ◌+◌, ◌≤◌, List, Result, IfOk}
use Rattle.gd_prim.specs.declared.Batch.{Batch}
use Rattle.gd_base.specs.Counts.{Rose}
use Rattle.gd_base.specs.declared.memory.Memory.{Memory}
use Rattle.gd_defs.specs.Reply.{Answer}
use Rattle.gd_window.specs.Kept.{Kept}
use Rattle.gd_reply.specs.Answers.{Tells}
use Rattle.gd_thawed.specs.Stages.{StageOwes}
use Rattle.gd_thawed.specs.declared.subject.Subject.{Subject}
use Rattle.gd_thawed.specs.declared.stage.Round.{Round}
use Rattle.gd_thawed.specs.declared.stage.Round.TheVariants as round

-- a round gives the answer that is owed, or goes on where it owes the same
abbrev pub RoundGives : List Batch → Answer → Subject → Kept → Round → Type 0
RoundGives batches owed s w (round.Answer a) = Tells owed a
RoundGives batches owed s w (round.Going stage) = StageOwes batches owed s stage w

-- a round that goes on has taken a step
abbrev pub RoundCounts : ℕ → ℕ → Round → Type 0
RoundCounts before now (round.Answer a) = Unit {0}
RoundCounts before now (round.Going stage) = Rose before now

-- a round gives the answer or goes on where it owes the same, and counts; it takes few steps
pub record RoundGoes (batches : List Batch) (owed : Answer) (s : Subject) (w : Kept) (before after most : ℕ) (result : Result Round Memory) : Type 0 where
  pub gives : IfOk result (λ round. RoundGives batches owed s w round)
  pub counted : IfOk result (λ round. RoundCounts before after round)
  pub work : after ≤ before + most
  pub later : before ≤ after

-- a round gives this answer
abbrev pub IsAnswer : Answer → Round → Type 0
IsAnswer expected (round.Answer a) = Tells expected a
IsAnswer expected (round.Going stage) = ⊥
