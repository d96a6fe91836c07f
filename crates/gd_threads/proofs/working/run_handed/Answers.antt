use Rattle.std.proofs.Common.{◌≡◌, ◌++◌, length, take, drop, sym, subst, rules, arith, vec_len}
use Rattle.std.proofs.lemmas.Grind.{common_steps}
use Rattle.std.specs.List.{All}
use Rattle.gd_crew.specs.Joined.{HasWorked}
use Rattle.gd_threads.proofs.working.run_handed.Goals as goal

pub returns-clause-worked : goal.returns-clause-worked
returns-clause-worked g c =
    let new = c.run_round-side.new.workers in
    let items = c.args.handed.workers.items in
    let long : length new ≡ length items = search rules in
    let same : take (vec_len c.args.handed.workers) (new ++ drop (length new) items) ≡ new = first_of (search rules, grind (arith, common_steps)) in
    subst (All (HasWorked c.args.side.table c.args.handed.works.now.reads.items)) (sym same) c.run_round-side.ensures.workers
