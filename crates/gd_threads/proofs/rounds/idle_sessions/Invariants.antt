use Rattle.std.proofs.Common.{◌≡◌, ◌≤◌, ◌+◌, List, length, vec_len, vec_capacity}
use Rattle.std.specs.List.{All}
use Rattle.logbook.specs.Pages.{Book}
use Rattle.gd_prim.specs.declared.Batch.{Batch}
use Rattle.gd_shared.specs.Shared.{IsNewSeat}
use Rattle.gd_crew.specs.Ready.{IsIdle}
use Rattle.gd_threads.proofs.rounds.idle_sessions.Given as goal

abbrev pub invariant-loop-seat : goal.invariant-loop-seat
invariant-loop-seat l = record {
  new : (table : Book) (shown : List Batch) → All (IsNewSeat table shown) l.initial.seats.items → All (IsNewSeat table shown) l.seats.items;
  idle : (table : Book) (shown : List Batch) → All (IsNewSeat table shown) l.initial.seats.items → All (IsIdle table) l.sessions.items;
  count : length l.sessions.items + vec_len l.seats ≡ vec_len l.initial.seats;
  room : vec_len l.initial.seats ≤ vec_capacity l.sessions;
  capacity : vec_capacity l.sessions ≡ vec_capacity l.initial.sessions;
}

abbrev pub decreases-loop-seat : goal.decreases-loop-seat
decreases-loop-seat l = vec_len l.seats
