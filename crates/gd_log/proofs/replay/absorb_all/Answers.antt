use Rattle.gd_log.proofs.Replays.{batch_follow, batch_more}
use Rattle.gd_log.proofs.replay.absorb_all.Goals as goal

pub loop-batch-preserved : goal.loop-batch-preserved
loop-batch-preserved c =
    let l = c.loop-batch in
    let ok = c.in_ok-absorb_batch in
    record {
      follow = batch_follow c.args.store.now l.store c.absorb_batch.new.store c.args.batches.now l.batch-index c.batch-item.result ok.field-0 c.loop-batch-test.true c.batch-item.is c.if-not-branch.false ok.ensures.taken ok.ensures.more l.invariant.follow;
      more = batch_more c.args.store.now l.store c.absorb_batch.new.store c.args.batches.now l.batch-index c.batch-item.result ok.field-0 c.loop-batch-test.true c.batch-item.is c.if-not-branch.false ok.ensures.more l.invariant.more;
    }
