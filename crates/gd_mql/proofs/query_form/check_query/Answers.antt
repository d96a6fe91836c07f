use Rattle.std.proofs.Common.{sym, subst}
use Rattle.gd_mql.specs.FormFault.{Checks}
use Rattle.gd_mql.proofs.Walked.{object-query_of, list-query_of}
use Rattle.gd_mql.proofs.query_form.check_query.Goals as goal

pub returns-in-Object : goal.returns-in-Object
returns-in-Object c =
    subst (λ e. Checks e c.check_clause.result) (sym (object-query_of c.in-Object.members c.args.query.now c.in-Object.is)) (rw c.deref.ensures.value at c.check_clause.ensures)

pub returns-in-List : goal.returns-in-List
returns-in-List c =
    subst (λ e. Checks e c.check_query_list.result) (sym (list-query_of c.in-List.items c.args.query.now c.in-List.is)) (rw c.deref-in-List.ensures.value at c.check_query_list.ensures)
