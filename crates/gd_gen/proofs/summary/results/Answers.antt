use Rattle.gd_gen.proofs.Parted.{passed}
use Rattle.gd_gen.proofs.Results.{found_more}
use Rattle.gd_gen.proofs.summary.results.Goals as goal

pub loop-place-preserved : goal.loop-place-preserved
loop-place-preserved c = record {
  found = found_more _ _ _ _ _ _ _ _ _ c.loop-place-test.true c.in-Some.ensures.line c.in_ok-result_of.ensures c.in_ok-push.ensures.items c.loop-place.invariant.found;
  later = passed _ _ _ _ _ c.loop-place-test.true c.next.ensures.later c.loop-place.invariant.later;
}
