use Rattle.std.proofs.Common.{◌++◌, length, take, rules}
use Rattle.std.proofs.lemmas.Iterator.Adapters.{YieldsList-from_vec}
use Rattle.std.proofs.lemmas.Iterator.Consumers.{YieldsList-turn}
use Rattle.gd_restore.proofs.Gathers.{next_begins}
use Rattle.gd_restore.proofs.gathering.Gathering.gather_all.Goals as goal

pub returns-in-Err-clause-stops : goal.returns-in-Err-clause-stops
returns-in-Err-clause-stops g c list before text gathers begins =
    let items = c.args.batches.items in
    let had = c.loop-batch.yielded in
    let b = c.in-Some.batch in
    let turn = YieldsList-turn (YieldsList-from_vec {s = c.into_iter-batch-iterator.result} items (search rules) (search rules)) had c.loop-batch.batch-iterator c.loop-batch.yielded_by c.next.result c.next.new.self b c.in-Some.is c.next.ensures.steps in
    c.in-Err.ensures.stops list (before ++ take (length had) items) text (c.loop-batch.invariant.gathers list before gathers)
    (next_begins list text before items (length had) b turn.0 turn.1 begins)
