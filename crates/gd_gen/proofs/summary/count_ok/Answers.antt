use Rattle.std.proofs.Common.{arith}
use Rattle.gd_gen.proofs.Parted.{few_lines}
use Rattle.gd_gen.proofs.summary.count_ok.Goals as goal

pub overflow_add-count : goal.overflow_add-count
overflow_add-count c = omega (arith, few_lines c.args.output.now)

pub returns-clause-fits : goal.returns-clause-fits
returns-clause-fits c = omega (arith, few_lines c.args.output.now)
