use Rattle.std.proofs.Common.{All}
use Rattle.gd_crew.specs.Round.{begun}
use Rattle.gd_crew.specs.Seated.{IsStarted, AllGo}
use Rattle.gd_crew.proofs.worker.run_all.Given as goal

abbrev pub invariant-loop : goal.invariant-loop
invariant-loop g l =
    (goal.iterator-loop g).can_next l.iterator' × (goal.iterator-loop g).is_finite l.iterator'
    × All (IsStarted (begun g.L.Round.named) g.L.Round.named.table) l.seated × AllGo (begun g.L.Round.named) g.L.Round.named.table l.fn.seated l.seated
