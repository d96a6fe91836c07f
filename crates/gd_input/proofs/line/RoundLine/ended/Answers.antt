use Rattle.gd_input.proofs.Returns.{too_long}
use Rattle.gd_input.proofs.line.RoundLine.ended.Goals as goal

pub returns-in-TooLong-clause-kept : goal.returns-in-TooLong-clause-kept
returns-in-TooLong-clause-kept c = λ begun long. too_long c.args.most c.args.by_newline begun (rw c.in-TooLong.is at long)
