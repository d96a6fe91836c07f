use Rattle.std.proofs.Common.{rules}
use Rattle.gd_postings.proofs.Split.{halved}
use Rattle.gd_postings.proofs.postings.search.Goals as goal

pub loop-round-preserved : goal.loop-round-preserved
loop-round-preserved g c =
    let (split, width, later, work, counted) = c.loop-round.invariant in
    (c.halve-part.ensures.split, halved _ _ _ (search rules) width c.halve-part.ensures.half, search rules, search rules, search rules)
