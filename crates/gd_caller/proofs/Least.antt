-- The least number of what is shown and of later writes.
use Rattle.std.proofs.Common.{ℕ, ◌≤◌, List, [], ◌∷◌, arith}
use Rattle.gd_runs.specs.Side.{Told, WriteLine}
use Rattle.gd_core_laws.specs.Bounds.{least_later}

pub least_shown : (ls : List WriteLine) (outs : List Told) (k s shown : ℕ) → least_later ls outs k s shown ≤ shown
least_shown [] outs k s shown = omega arith
least_shown (a ∷ ls) outs k s shown = let below = least_shown ls outs k s shown in omega (arith, below)
