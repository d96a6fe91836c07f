use Rattle.std.proofs.Common.{◌≡◌, ◌+◌, List, length, vec_len, vec_capacity}
use Rattle.std.specs.List.{All}
use Rattle.gd_round_lines.specs.declared.work.ReadLine.{ReadLine}
use Rattle.gd_crew.specs.Ready.{IsIdle}
use Rattle.gd_crew.specs.Joined.{HasRead}
use Rattle.gd_crew.specs.Collected.{IsOfTable, TakesSessions}
use Rattle.gd_crew.proofs.collect.dismiss_sessions.Given as goal

abbrev pub invariant-loop-one : goal.invariant-loop-one
invariant-loop-one l = record {
  table : All (IsOfTable l.shown.history) l.seated.items;
  idle : All (IsIdle l.shown.history) l.seats.items;
  count : length l.seats.items + length l.seated.items ≡ length l.initial.seats.items + length l.initial.seated.items;
  capacity : vec_capacity l.seats ≡ vec_capacity l.initial.seats;
  takes : TakesSessions l.first l.shown.history l.shown.list l.initial.seated.items l.initial.worked.items l.worked.items;
  left : (reads : List ReadLine) → All (HasRead l.shown.history reads) l.initial.seated.items → All (HasRead l.shown.history reads) l.seated.items;
}

abbrev pub decreases-loop-one : goal.decreases-loop-one
decreases-loop-one l = vec_len l.seated
