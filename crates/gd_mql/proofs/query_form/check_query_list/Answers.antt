use Rattle.std.proofs.Common.{◌∙◌, ap, sym, subst}
use Rattle.gd_tree.specs.Json.{list}
use Rattle.gd_form_laws.specs.Faults.{query_fault}
use Rattle.gd_form_laws.proofs.Queries.{more-query, empty-query}
use Rattle.gd_mql.specs.FormFault.{Refuses}
use Rattle.gd_mql.proofs.Walked.{none_view, more_view}
use Rattle.gd_mql.proofs.query_form.check_query_list.Goals as goal

pub returns-in-empty : goal.returns-in-empty
returns-in-empty c = subst (λ e. Refuses e c.root_fault.result) (sym (ap (λ js. query_fault (list js)) (none_view c.args.items.now c.in-empty.len_below) ∙ empty-query)) c.root_fault.ensures

pub returns-in_default : goal.returns-in_default
returns-in_default c = let more = more_view c.args.items.now c.in_default.len_at_least in
    subst (λ e. Refuses e c.root_fault-in_default.result) (sym (ap (λ js. query_fault (list js)) more.is ∙ more-query more.one more.two more.others)) c.root_fault-in_default.ensures
