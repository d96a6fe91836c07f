use Rattle.std.proofs.Common.{length, take, ◌∙◌, ap, arith, length-append, length-take}
use Rattle.gd_prim.specs.History.{prims_of}
use Rattle.gd_log.specs.Writable.{may_parts}
use Rattle.gd_log.proofs.Absorbs.{next_may, rest_may, more_taken, all_taken, taken_back}
use Rattle.gd_log.proofs.stored.absorb_group.Goals as goal

pub absorb-requires-clause-well_formed : goal.absorb-requires-clause-well_formed
absorb-requires-clause-well_formed c =
    let l = c.loop-batch in
    (may_parts (prims_of l.store) (length l.store) c.batch-item.result (next_may l.store c.args.batches.now l.batch-index c.batch-item.result c.loop-batch-test.true c.batch-item.is l.invariant.follow)).0

pub absorb-requires-clause-fits : goal.absorb-requires-clause-fits
absorb-requires-clause-fits c =
    let l = c.loop-batch in
    (may_parts (prims_of l.store) (length l.store) c.batch-item.result (next_may l.store c.args.batches.now l.batch-index c.batch-item.result c.loop-batch-test.true c.batch-item.is l.invariant.follow)).1

pub withdraw-requires : goal.withdraw-requires
withdraw-requires c =
    let l = c.loop-batch in
    let xs = c.args.batches.now in
    omega (arith, l.invariant.count, ap length (c.in-Err.ensures.err ∙ l.invariant.is), length-append c.args.store.now (take l.batch-index xs), length-take l.batch-index xs, c.loop-batch-test.true)

pub returns-in-Err-clause-refused : goal.returns-in-Err-clause-refused
returns-in-Err-clause-refused c =
    let l = c.loop-batch in
    let xs = c.args.batches.now in
    taken_back c.args.store.now c.absorb.new.self c.withdraw.new.store (take l.batch-index xs) l.taken (omega (arith, l.invariant.count, length-take l.batch-index xs, c.loop-batch-test.true)) (c.in-Err.ensures.err ∙ l.invariant.is) c.withdraw.ensures

pub loop-batch-preserved : goal.loop-batch-preserved
loop-batch-preserved c =
    let l = c.loop-batch in
    let xs = c.args.batches.now in
    record {
      count = omega (arith, l.invariant.count);
      follow = rest_may l.store c.absorb.new.self xs l.batch-index c.batch-item.result c.loop-batch-test.true c.batch-item.is c.in-Ok.ensures.ok l.invariant.follow;
      is = more_taken c.args.store.now l.store c.absorb.new.self xs l.batch-index c.batch-item.result c.loop-batch-test.true c.batch-item.is c.in-Ok.ensures.ok l.invariant.is;
    }

pub returns-clause-taken : goal.returns-clause-taken
returns-clause-taken c =
    let l = c.loop-batch in
    all_taken c.args.store.now l.store c.args.batches.now l.batch-index c.loop-batch-test.false l.invariant.is
