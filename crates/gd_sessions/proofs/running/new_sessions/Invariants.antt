use Rattle.std.proofs.Common.{◌≡◌, length}
use Rattle.std.specs.List.{AllByRecursion}
use Rattle.gd_sessions.specs.Opened.{IsNew}
use Rattle.gd_sessions.proofs.running.new_sessions.Given as goal

abbrev pub invariant-loop-session : goal.invariant-loop-session
invariant-loop-session l = record { many : length l.held.items ≡ l._session; new : AllByRecursion IsNew l.held.items }
