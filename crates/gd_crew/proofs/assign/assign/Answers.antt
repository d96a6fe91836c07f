use Rattle.std.proofs.Common.{sym, subst}
use Rattle.std.specs.List.{All}
use Rattle.gd_shared.specs.History.{FrontValue}
use Rattle.gd_crew.specs.declared.worker.Worker.{Worker}
use Rattle.gd_crew.specs.Collected.{IsOfTable}
use Rattle.gd_crew.proofs.Taken.{manned_of_table}
use Rattle.gd_crew.proofs.assign.assign.Goals as goal

pub dismiss-requires-clause-table : goal.dismiss-requires-clause-table
dismiss-requires-clause-table g c =
    subst (λ (f : FrontValue). All (λ (w : Worker). All (IsOfTable f.history) w.seated.items) c.seat_all.new.hired.items) (sym c.tell.ensures)
    (manned_of_table c.args.side.now.table c.args.works.now c.seat_all.new.hired.items c.in-Err.ensures.manned)
