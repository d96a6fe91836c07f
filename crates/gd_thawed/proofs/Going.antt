-- Rounds of a reading.
use Rattle.std.proofs.Common.{◌≡◌, ℕ, ◌+◌, ◌-◌, ◌^◌, ◌<◌, ◌≤◌, List, Result, Ok, Err, subst, arith, true}
use Rattle.std.specs.Prelude.{IfOk, min}
use Rattle.std.specs.List.{list_any}
use Rattle.gd_base.specs.Counts.{Rose}
use Rattle.gd_base.specs.declared.memory.Memory.{Memory}
use Rattle.gd_prim.specs.declared.Batch.{Batch}
use Rattle.gd_defs.specs.Lines.{too_wide}
use Rattle.gd_defs.specs.Reply.{Answer as TheAnswer}
use Rattle.gd_runs.specs.Owed.{Candidate, weighs_too_much}
use Rattle.gd_window.specs.Kept.{Kept}
use Rattle.gd_reply.specs.Answers.{Tells}
use Rattle.gd_reply.specs.declared.answer.Answer.{Answer as Told}
use Rattle.gd_thawed.specs.Stages.{StageOwes}
use Rattle.gd_thawed.specs.Rounds.{RoundGives, RoundCounts, RoundGoes, IsAnswer}
use Rattle.gd_thawed.specs.declared.subject.Subject.{Subject}
use Rattle.gd_thawed.specs.declared.stage.Stage.{Stage}
use Rattle.gd_thawed.specs.declared.stage.Round.{Round}
use Rattle.gd_thawed.specs.declared.stage.Round.TheVariants.{Answer, Going}

-- LAW: where a budget was reached, the count rose
pub rose_some : (before budget after : ℕ) → 0 < budget → min (before + budget) (2 ^ 64 - 1) ≤ after → Rose before after
rose_some before budget after some reached = omega (arith, some, reached)

-- LAW: a count that rose from a later value rose from this one
pub rose_before : (before middle after : ℕ) → before ≤ middle → Rose middle after → Rose before after
rose_before before middle after earlier rose = omega (arith, earlier, rose)

-- LAW: a round that goes on with this
pub goes_with : {batches : List Batch} {owed : TheAnswer} {s : Subject} {w : Kept} {before after most : ℕ} (st : Stage) → StageOwes batches owed s st w → Rose before after → after ≤ before + most → before ≤ after
    → RoundGoes batches owed s w before after most (Ok (Going st))
goes_with st owes rose work later = record { gives = owes; counted = rose; work = work; later = later }

-- LAW: a round that gives the answer
pub goes_answer : {batches : List Batch} {owed : TheAnswer} {s : Subject} {w : Kept} {before after most : ℕ} {a : Told} → Tells owed a → after ≤ before + most → before ≤ after
    → RoundGoes batches owed s w before after most (Ok (Answer a))
goes_answer is work later = record { gives = is; counted = tt; work = work; later = later }

-- LAW: a round that finds no memory
pub goes_none : {batches : List Batch} {owed : TheAnswer} {s : Subject} {w : Kept} {before after most : ℕ} {e : Memory} → after ≤ before + most → before ≤ after → RoundGoes batches owed s w before after most (Err e)
goes_none work later = record { gives = tt; counted = tt; work = work; later = later }

-- LAW: a round behind other steps
pub goes_behind : {batches : List Batch} {owed : TheAnswer} {s : Subject} {w : Kept} {before middle after few most : ℕ} {result : Result Round Memory} → RoundGoes batches owed s w middle after few result
    → before ≤ middle → after ≤ before + most → RoundGoes batches owed s w before after most result
goes_behind {batches} {owed} {s} {w} {before} {middle} {after} {few} {most} {result} goes earlier work = record {
  gives = goes.gives;
  counted = counts result goes.counted;
  work = work;
  later = all goes.later;
}
  where
    all : middle ≤ after → before ≤ after
    all later = omega (arith, earlier, later)

    counts : (r : Result Round Memory) → IfOk r (λ round. RoundCounts middle after round) → IfOk r (λ round. RoundCounts before after round)
    counts (Err e) counted = tt
    counts (Ok (Answer a)) counted = tt
    counts (Ok (Going st)) counted = rose_before before middle after earlier counted

-- LAW: what a round gives that goes on from a page, and counts
pub goes_from : {batches : List Batch} {owed : TheAnswer} {s : Subject} {w : Kept} {before after most : ℕ} {result : Result Round Memory} → IfOk result (λ round. RoundGives batches owed s w round) → Rose before after
    → after ≤ before + most → before ≤ after → RoundGoes batches owed s w before after most result
goes_from {batches} {owed} {s} {w} {before} {after} {most} {result} gives rose work later = record { gives = gives; counted = counts result; work = work; later = later }
  where
    counts : (r : Result Round Memory) → IfOk r (λ round. RoundCounts before after round)
    counts (Err e) = tt
    counts (Ok (Answer a)) = tt
    counts (Ok (Going st)) = rose

-- LAW: what a round comes to where the matcher gave a fault
pub goes_heavy : {batches : List Batch} {owed : TheAnswer} {s : Subject} {w : Kept} {before after most : ℕ} {result : Result Round Memory} (left : List Candidate) → (list_any weighs_too_much left ≡ true → Err (too_wide 65_537) ≡ owed)
    → IfOk result (λ round. IsAnswer (Err (too_wide 65_537)) round × (list_any weighs_too_much left ≡ true)) → after ≤ before + most → before ≤ after → RoundGoes batches owed s w before after most result
goes_heavy {batches} {owed} {s} {w} {before} {after} {most} {result} left heavy gives work later = by result gives
  where
    by : (r : Result Round Memory) → IfOk r (λ round. IsAnswer (Err (too_wide 65_537)) round × (list_any weighs_too_much left ≡ true)) → RoundGoes batches owed s w before after most r
    by (Err e) given = goes_none work later
    by (Ok (Answer a)) given = goes_answer (subst (λ e. Tells e a) (heavy given.1) given.0) work later
    by (Ok (Going st)) given = absurd given.0

-- LAW: what a stage comes to, by what it does
pub stage_goes : {batches : List Batch} {owed : TheAnswer} {s : Subject} {w : Kept} {before after most : ℕ} {result : Result Round Memory} (few : ℕ) → few ≤ most → RoundGoes batches owed s w before after few result
    → RoundGoes batches owed s w before after most result
stage_goes {batches} {owed} {s} {w} {before} {after} {most} {result} few within goes = record { gives = goes.gives; counted = goes.counted; work = taken goes.work; later = goes.later }
  where
    taken : after ≤ before + few → after ≤ before + most
    taken work = omega (arith, within, work)
