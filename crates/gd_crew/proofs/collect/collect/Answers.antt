use Rattle.std.proofs.Common.{subst, length}
use Rattle.gd_shared.specs.History.{FrontValue}
use Rattle.gd_runs.specs.Legal.{batches}
use Rattle.gd_crew.specs.Collected.{TakesWorkers}
use Rattle.gd_crew.proofs.Taken.{none_worked}
use Rattle.gd_crew.proofs.collect.collect.Goals as goal

pub returns-clause-worked : goal.returns-clause-worked
returns-clause-worked g c =
    let side = c.args.side.now in
    let reads = c.args.works.now.reads.items in
    let takes = subst (λ (f : FrontValue). TakesWorkers c.args.first f.history f.list c.args.workers.items c.places-worked.result.items c.dismiss-2.new.worked.items) c.tell.ensures c.dismiss-2.ensures.worked in
    takes reads (batches side.history) c.stored-stored.ensures.keeps.shows c.requires.workers (none_worked c.args.first reads (batches side.history) (length side.shown) c.places-worked.result.items c.places-worked.ensures)
