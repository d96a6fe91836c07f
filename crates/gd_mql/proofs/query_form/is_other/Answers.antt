use Rattle.std.proofs.Common.{◌∙◌, ap, sym}
use Rattle.gd_tree.specs.Json.{list}
use Rattle.gd_defs.specs.Query.{is_other_list}
use Rattle.gd_form_laws.proofs.Queries.{is_other-more}
use Rattle.gd_mql.proofs.Walked.{more_view}
use Rattle.gd_mql.proofs.query_form.is_other.Goals as goal

pub returns-in_default : goal.returns-in_default
returns-in_default c = let more = more_view c.args.items.now c.in_default.len_at_least in
    sym (ap (λ js. is_other_list (list js)) more.is ∙ is_other-more more.one more.two more.others)
