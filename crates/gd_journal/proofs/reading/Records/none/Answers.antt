use Rattle.std.proofs.Common.{arith}
use Rattle.gd_journal.proofs.reading.Records.none.Goals as goal

pub returns-clause-ready : goal.returns-clause-ready
returns-clause-ready c = λ content whole. record { shows = c.none.ensures.shows content whole; size = c.none.ensures.len; within = λ long. omega arith; near = omega arith }
