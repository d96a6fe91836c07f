use Rattle.std.proofs.Common.{◌≡◌, ℕ, vec_len, reverse}
use Rattle.gd_disk.specs.Images.{after_steps, dropped_of, filled_of}
use Rattle.gd_disk.proofs.undoing.Undoing.undo_unsynced.Given as goal

abbrev pub invariant-loop-call : goal.invariant-loop-call
invariant-loop-call l = (dropped_of l.initial.self (reverse l.initial.calls.items) ≡ dropped_of l.self (reverse l.calls.items))
    × ((x : ℕ) → filled_of x l.initial.self (reverse l.initial.calls.items) ≡ after_steps x l.steps.items (filled_of x l.self (reverse l.calls.items)))

abbrev pub decreases-loop-call : goal.decreases-loop-call
decreases-loop-call l = vec_len l.calls
