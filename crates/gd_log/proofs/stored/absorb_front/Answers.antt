use Rattle.std.proofs.Common.{◌∙◌, sym, arith}
use Rattle.std.proofs.lemmas.Bool.{OnTrue_at}
use Rattle.gd_log.proofs.Absorbs.{more_taken}
use Rattle.gd_log.proofs.Fronts.{front_more, none_there}
use Rattle.gd_log.proofs.stored.absorb_front.Goals as goal

pub loop-batch-preserved : goal.loop-batch-preserved
loop-batch-preserved c =
    let l = c.loop-batch in
    let xs = c.args.batches.now in
    let ok = c.in-Ok-true in
    record {
      count = omega (arith, l.invariant.count);
      follow = front_more c.args.store.now l.store xs l.batch-index c.batch-item.result c.loop-batch-test.true c.batch-item.is l.invariant.is l.invariant.follow (sym ok.ensures.taken ∙ ok.field-0-test);
      is = more_taken c.args.store.now l.store c.absorb_batch.new.store xs l.batch-index c.batch-item.result c.loop-batch-test.true c.batch-item.is (OnTrue_at ok.field-0-test ok.ensures.more) l.invariant.is;
    }

pub returns-clause-next : goal.returns-clause-next
returns-clause-next c same b is =
    let l = c.loop-batch in
    absurd (none_there c.args.batches.now l.taken b (omega (arith, l.invariant.count, c.loop-batch-test.false)) is)
