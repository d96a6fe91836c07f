-- What is left of a reading falls by the steps that are taken.
use Rattle.std.proofs.Common.{◌≡◌, ℕ, zero, suc, ◌+◌, ◌<◌, ◌≤◌, List, Option, Result, Ok, Err, refl, arith}
use Rattle.std.specs.Prelude.{IfOk}
use Rattle.gd_prim.specs.declared.Batch.{Batch}
use Rattle.gd_defs.specs.Reply.{Mark}
use Rattle.gd_read.specs.Left.{round_left}
use Rattle.gd_read.specs.declared.stage.Round.{Round}

-- ---- places, one after the other

-- LAW: where the budget is spent, one was looked at
pub passed_some : (r b s g x y : ℕ) → 0 < b → r + b ≤ s → (g ≡ 0 → s ≤ r) → s + g + x ≤ y → s + 1 + x ≤ y
passed_some r b s zero x y some spent first less = absurd (let none = first refl in omega (arith, some, spent, none))
passed_some r b s (suc g) x y some spent first less = omega (arith, less)

-- ---- a round

pub same_most : (m : ℕ) → m ≤ m
same_most m = omega arith

-- LAW: what is left behind a round, and the steps before it
pub round_less : {E : Type 0} (n : ℕ) (batches : List Batch) (after : Option Mark) (r : Result Round E) (s m a : ℕ) → IfOk r (λ round. round_left n batches after round ≤ m) → s + m ≤ a → IfOk r (λ round. s + round_left n batches after round ≤ a)
round_less n batches after (Err e) s m a left less = tt
round_less n batches after (Ok round) s m a left less = by (round_left n batches after round) left
  where
    by : (x : ℕ) → x ≤ m → s + x ≤ a
    by x few = omega (arith, few, less)
