use Rattle.std.proofs.Common.{take}
use Rattle.gd_caller.proofs.Counting.{shown_long}
use Rattle.gd_caller.proofs.reads.settle_worked.Goals as goal

pub returns-clause-kept : goal.returns-clause-kept
returns-clause-kept c =
    let s = c.args.standing.now in
    c.settle.ensures.right (take s.shown s.store.now) c.args.at (shown_long s.store.now s.shown c.args.at c.requires.there c.requires.shown) c.ranges.at.fits c.requires.answers c.requires.kept
