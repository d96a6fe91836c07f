use Rattle.std.proofs.Common.{ap, Err}
use Rattle.std.proofs.lemmas.Result.{IfOk-weaker}
use Rattle.gd_read.specs.Begun.{fault_at}
use Rattle.gd_read.proofs.fault.ReadFault.text.Goals as goal

pub returns-in-Some-clause-refused : goal.returns-in-Some-clause-refused
returns-in-Some-clause-refused c = IfOk-weaker c.text.result _ _ (λ text is. is (Err (fault_at c.args.dateline c.args.self).1) (ap Err c.in-Some.ensures.refusal)) c.text.ensures
