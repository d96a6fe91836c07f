use Rattle.std.proofs.Common.{◌≡◌, ◌+◌, List, length, vec_len, vec_capacity}
use Rattle.std.specs.List.{All}
use Rattle.gd_round_lines.specs.declared.work.ReadLine.{ReadLine}
use Rattle.gd_crew.specs.declared.worker.Worker.{Worker}
use Rattle.gd_crew.specs.Ready.{IsIdle, lent}
use Rattle.gd_crew.specs.Joined.{HasWorked}
use Rattle.gd_crew.specs.Collected.{IsOfTable, TakesWorkers}
use Rattle.gd_crew.proofs.collect.dismiss.Given as goal

abbrev pub invariant-loop-worker : goal.invariant-loop-worker
invariant-loop-worker l = record {
  table : All (λ (w : Worker). All (IsOfTable l.shown.history) w.seated.items) l.workers.items;
  idle : All (IsIdle l.shown.history) l.seats.items;
  count : length l.seats.items + lent l.workers.items ≡ length l.initial.seats.items + lent l.initial.workers.items;
  capacity : vec_capacity l.seats ≡ vec_capacity l.initial.seats;
  takes : TakesWorkers l.first l.shown.history l.shown.list l.initial.workers.items l.initial.worked.items l.worked.items;
  left : (reads : List ReadLine) → All (HasWorked l.shown.history reads) l.initial.workers.items → All (HasWorked l.shown.history reads) l.workers.items;
}

abbrev pub decreases-loop-worker : goal.decreases-loop-worker
decreases-loop-worker l = vec_len l.workers
