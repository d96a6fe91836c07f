use Rattle.std.proofs.Common.{◌∙◌, sym, arith}
use Rattle.gd_journal.proofs.Windows.{part_inside, part_long, part_left}
use Rattle.gd_journal.proofs.window.reach.Goals as goal

pub returns-then-covers-clause-there : goal.returns-then-covers-clause-there
returns-then-covers-clause-there g c = λ file is.
    let s = c.requires.shows file is in
    let has = c.covers.ensures c.if-covers.true in
    part_inside file c.args.window.now.bytes c.args.window.now.at s.0 c.args.at c.args.len s.1 has.0 (omega (arith, has.1, part_long file c.args.window.now.bytes c.args.window.now.at s.0 s.1))

pub returns-clause-there : goal.returns-clause-there
returns-clause-there g c = λ file is.
    part_left file c.in_ok-bytes.bytes c.args.window.now.len c.args.at c.min-size.result c.args.len (c.requires.shows file is).2 (c.in_ok-bytes.ensures.bytes file is) (omega (arith, c.left.ensures, c.max.ensures, c.from.ensures, c.min-size.ensures))

pub returns-clause-shows : goal.returns-clause-shows
returns-clause-shows g c = λ file is.
    let was = sym c.read_block.ensures.untouched.same ∙ is in
    (_, c.in_ok-bytes.ensures.bytes file was, (c.requires.shows file was).2)
