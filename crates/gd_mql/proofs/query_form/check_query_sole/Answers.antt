use Rattle.std.proofs.Common.{sym, subst}
use Rattle.gd_mql.specs.FormFault.{Checks}
use Rattle.gd_mql.proofs.Walked.{sole-query_of}
use Rattle.gd_mql.proofs.query_form.check_query_sole.Goals as goal

pub returns-in-Object : goal.returns-in-Object
returns-in-Object c =
    subst (λ e. Checks e c.check_clause.result) (sym (sole-query_of c.in-Object.members c.args.sole.now c.in-Object.is)) (rw c.deref.ensures.value at c.check_clause.ensures)
