use Rattle.gd_gen.proofs.LineSteps.{with_read, all_reads}
use Rattle.gd_gen.proofs.lines.push_reads.Goals as goal

pub loop-session-preserved : goal.loop-session-preserved
loop-session-preserved c = with_read _ _ _ _ 10 _ c.loop-session-test.true c.in_ok-push_count.ensures c.loop-session.invariant

pub returns : goal.returns
returns c = all_reads _ _ _ 10 _ c.loop-session-test.false c.loop-session.invariant
