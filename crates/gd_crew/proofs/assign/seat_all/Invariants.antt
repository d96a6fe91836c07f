use Rattle.std.proofs.Common.{◌≡◌, ◌≤◌, ◌+◌, length, vec_capacity}
use Rattle.std.specs.List.{All}
use Rattle.gd_crew.specs.Ready.{IsIdle, IsManned, lent}
use Rattle.gd_crew.proofs.assign.seat_all.Given as goal

abbrev pub invariant-loop-sid : goal.invariant-loop-sid
invariant-loop-sid g l = record {
  idle : All (IsIdle l.side.table) l.seats.items;
  manned : All (IsManned l.side.table l.works) l.hired.items;
  count : length l.seats.items + lent l.hired.items ≡ length l.initial.seats.items + lent l.initial.hired.items;
  enough : length l.sessions ≤ length l.seats.items + l.sid-index;
  capacity : vec_capacity l.seats ≡ vec_capacity l.initial.seats;
}
