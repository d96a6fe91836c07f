use Rattle.std.proofs.Common.{subst}
use Rattle.gd_tplang.specs.Stop.{Stopped}
use Rattle.gd_tplang.specs.Survey.{surveyed}
use Rattle.gd_tplang.proofs.Faults.{faulted}
use Rattle.gd_tplang.proofs.template.seen_in.Goals as goal

pub overflow_sub-result : goal.overflow_sub-result
overflow_sub-result c = (faulted c.in-Err-Bad.left c.args.bytes.now (subst (λ e. Stopped e (surveyed c.args.bytes.now)) c.in-Err-Bad.field-0-is c.in-Err-Bad.ensures)).within
