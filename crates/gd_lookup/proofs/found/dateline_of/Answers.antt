use Rattle.std.proofs.Common.{ℕ, subst}
use Rattle.gd_mql.specs.Requests.{read_set_view}
use Rattle.gd_read.specs.Begun.{Begins, read_dateline}
use Rattle.gd_lookup.proofs.Datelines.{refused_none}
use Rattle.gd_lookup.proofs.found.dateline_of.Goals as goal

pub returns-in_ok-refused-in-Err : goal.returns-in_ok-refused-in-Err
returns-in_ok-refused-in-Err c =
    let n = c.args.at in
    let q = read_set_view c.args.request.now in
    refused_none (λ (m : ℕ). m) n q c.in-Err.fault (subst (λ r. Begins n (λ (m : ℕ). m) (read_dateline n q) r) c.in-Err.is c.dateline_asked.ensures.given) c.in_ok-refused-in-Err.ensures
