use Rattle.std.proofs.Common.{◌∙◌, ap, sym}
use Rattle.gd_tree.specs.Json.{list}
use Rattle.gd_runs.specs.Request.{has_pages}
use Rattle.gd_mql.proofs.Envelopes.{more_pages}
use Rattle.gd_mql.proofs.Walked.{more_view}
use Rattle.gd_mql.proofs.envelope.list_has_pages.Goals as goal

pub returns-in_default : goal.returns-in_default
returns-in_default c = let more = more_view c.args.items.now c.in_default.len_at_least in
    sym (ap (λ js. has_pages (list js)) more.is ∙ more_pages more.one more.two more.others)
