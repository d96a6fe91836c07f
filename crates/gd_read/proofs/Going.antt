-- What is left of a reading falls, round by round.
use Rattle.std.proofs.Common.{◌≡◌, ℕ, ◌+◌, ◌-◌, ◌^◌, ◌<◌, ◌≤◌, List, Result, Ok, Err, sym, subst, arith}
use Rattle.std.specs.Prelude.{IfOk, min}
use Rattle.gd_base.specs.Counts.{Rose}
use Rattle.gd_base.specs.declared.memory.Memory.{Memory}
use Rattle.gd_prim.specs.declared.Batch.{Batch}
use Rattle.gd_window.specs.Kept.{Kept}
use Rattle.gd_reply.specs.Answers.{Tells}
use Rattle.gd_read.specs.Marked.{mark_of}
use Rattle.gd_read.specs.Subject.{answer_of}
use Rattle.gd_read.specs.Stages.{StageOwes}
use Rattle.gd_read.specs.Left.{IsPastIds, stage_left, round_left}
use Rattle.gd_read.specs.Rounds.{RoundGives, RoundCounts, RoundBehind, RoundGoes}
use Rattle.gd_reply.specs.declared.answer.Answer.{Answer as Told}
use Rattle.gd_read.specs.declared.subject.Subject.{Subject}
use Rattle.gd_read.specs.declared.stage.Stage.{Stage}
use Rattle.gd_read.specs.declared.stage.Round.{Round}
use Rattle.gd_read.specs.declared.stage.Round.TheVariants.{Answer, Going}
use Rattle.gd_read.proofs.Left.{same_most, round_less}

-- ---- counting

-- LAW: a count that rose from a later value rose from this one
pub rose_before : (before middle after : ℕ) → before ≤ middle → Rose middle after → Rose before after
rose_before before middle after earlier rose = omega (arith, earlier, rose)

-- LAW: a count that rose before a later value rose up to that one
pub rose_behind : (before middle after : ℕ) → Rose before middle → middle ≤ after → Rose before after
rose_behind before middle after rose later = omega (arith, rose, later)

-- LAW: where a budget was reached, the count rose
pub rose_some : (before budget after : ℕ) → 0 < budget → min (before + budget) (2 ^ 64 - 1) ≤ after → Rose before after
rose_some before budget after some reached = omega (arith, some, reached)

-- LAW: where the count rose, a round has counted
pub counts_rose : (before after : ℕ) (r : Result Round Memory) → Rose before after → IfOk r (λ round. RoundCounts before after round)
counts_rose before after (Err e) rose = tt
counts_rose before after (Ok (Answer a)) rose = tt
counts_rose before after (Ok (Going st)) rose = rose

-- LAW: a round that has counted, from an earlier count on
pub counts_before : (before middle after : ℕ) (r : Result Round Memory) → before ≤ middle → IfOk r (λ round. RoundCounts middle after round) → IfOk r (λ round. RoundCounts before after round)
counts_before before middle after (Err e) earlier counted = tt
counts_before before middle after (Ok (Answer a)) earlier counted = tt
counts_before before middle after (Ok (Going st)) earlier counted = rose_before before middle after earlier counted

-- ---- a round

-- LAW: a round behind which so much is left at most
pub round_goes : {batches : List Batch} {s : Subject} {left : ℕ → ℕ} {w : Kept} {before after most : ℕ} {result : Result Round Memory} (next : ℕ → ℕ)
    → IfOk result (λ round. RoundGives batches s w round) → IfOk result (λ round. RoundCounts before after round) → ((n : ℕ) → IfOk result (λ round. round_left n batches (mark_of s.after) round ≤ next n))
    → ((n : ℕ) → IsPastIds n → after + next n ≤ before + left n) → after ≤ before + most → before ≤ after → RoundGoes batches s left w before after most result
round_goes {batches} {s} {left} {w} {before} {after} {most} {result} next gives counted few less work later = record {
  gives = gives;
  counted = counted;
  less = λ n high. round_less n batches (mark_of s.after) result after (next n) (before + left n) (few n) (less n high);
  covered = λ n high. within (next n) (before + left n) (less n high);
  work = work;
  later = later;
}
  where
    within : (a b : ℕ) → after + a ≤ b → after ≤ b
    within a b few = omega (arith, few)

-- LAW: a round behind a stage, and the steps before it
pub goes_over : {batches : List Batch} {s : Subject} {left next : ℕ → ℕ} {w : Kept} {before middle after most : ℕ} {result : Result Round Memory}
    → RoundBehind batches s next w middle after result → before ≤ middle → ((n : ℕ) → IsPastIds n → after + next n ≤ before + left n) → after ≤ before + most → RoundGoes batches s left w before after most result
goes_over {batches} {s} {left} {next} {w} {before} {middle} {after} {most} {result} behind earlier less work =
    round_goes next behind.gives (counts_before before middle after result earlier behind.counted) behind.left less work (all behind.later)
  where
    all : middle ≤ after → before ≤ after
    all later = omega (arith, earlier, later)

-- LAW: a round that goes on with this
pub goes_with : {batches : List Batch} {s : Subject} {left : ℕ → ℕ} {w : Kept} {before after most : ℕ} (st : Stage)
    → StageOwes batches s st w → Rose before after → ((n : ℕ) → IsPastIds n → after + stage_left n batches (mark_of s.after) st ≤ before + left n) → after ≤ before + most → before ≤ after
    → RoundGoes batches s left w before after most (Ok (Going st))
goes_with {batches} {s} st owes rose less work later = round_goes (λ n. stage_left n batches (mark_of s.after) st) owes rose (λ n. same_most (stage_left n batches (mark_of s.after) st)) less work later

-- LAW: a round that gives the answer
pub goes_answer : {batches : List Batch} {s : Subject} {left : ℕ → ℕ} {w : Kept} {before after most : ℕ} {a : Told} (next : ℕ → ℕ)
    → Tells (answer_of batches s) a → ((n : ℕ) → IsPastIds n → after + next n ≤ before + left n) → after ≤ before + most → before ≤ after
    → RoundGoes batches s left w before after most (Ok (Answer a))
goes_answer next is less work later = round_goes next is tt (λ n. omega arith) less work later

-- LAW: what a stage comes to, by what it does
pub stage_goes : {batches : List Batch} {s : Subject} {v : Kept} {before after most : ℕ} {result : Result Round Memory} (one other : Stage) (few : ℕ)
    → one ≡ other → few ≤ most → RoundGoes batches s (λ n. stage_left n batches (mark_of s.after) other) v before after few result → RoundGoes batches s (λ n. stage_left n batches (mark_of s.after) one) v before after most result
stage_goes {batches} {s} {v} {before} {after} {most} {result} one other few same within goes = subst (λ x. RoundGoes batches s (λ n. stage_left n batches (mark_of s.after) x) v before after most result) (sym same) (record {
  gives = goes.gives;
  counted = goes.counted;
  less = goes.less;
  covered = goes.covered;
  work = taken goes.work;
  later = goes.later;
})
  where
    taken : after ≤ before + few → after ≤ before + most
    taken work = omega (arith, within, work)
