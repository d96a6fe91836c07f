use Rattle.std.proofs.Common.{◌≡◌, ◌≤◌, ◌<◌, ◌+◌, ◌-◌, ℕ, Some, slice_get}
use Rattle.gd_prim.specs.declared.Batch.{Batch}
use Rattle.gd_follow.proofs.compare.fork_at.Given as goal

abbrev pub invariant-loop-place : goal.invariant-loop-place
invariant-loop-place l = (at : ℕ) (b c : Batch) → l.from ≤ at → at < l.from + l.place → slice_get l.store at ≡ Some b → slice_get l.group (at - l.from) ≡ Some c → b ≡ c
