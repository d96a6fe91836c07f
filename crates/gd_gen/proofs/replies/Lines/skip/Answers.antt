use Rattle.gd_gen.proofs.Parted.{passed}
use Rattle.gd_gen.proofs.replies.Lines.skip.Goals as goal

pub loop-place-preserved : goal.loop-place-preserved
loop-place-preserved c = passed _ _ _ _ _ c.loop-place-test.true c.next-line.ensures.later c.loop-place.invariant
