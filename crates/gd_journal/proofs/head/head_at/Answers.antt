use Rattle.std.proofs.Common.{drop, ◌∙◌, arith, length-drop}
use Rattle.gd_journal.proofs.head.head_at.Goals as goal

pub returns-clause-head : goal.returns-clause-head
returns-clause-head g c = λ file is. c.head_of.ensures.head (drop c.args.at file) (c.part_at-bytes.ensures ∙ c.in_ok-reach.ensures.there file is) (omega (arith, (c.requires.shows file is).2, c.in_ok-reach.ensures.len, c.left.ensures, length-drop c.args.at file))
