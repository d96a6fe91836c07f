use Rattle.std.proofs.Common.{map, sym, subst}
use Rattle.std.specs.Result.{result_err}
use Rattle.std.proofs.lemmas.Result.{err_from_is_err_and}
use Rattle.gd_json.specs.View.{view, items_view}
use Rattle.gd_mql.specs.FormFault.{Refuses}
use Rattle.gd_mql.specs.Requests.{read_view}
use Rattle.gd_mql.proofs.Envelopes.{several-none, several-refused, several-told}
use Rattle.gd_mql.proofs.envelope.several_reads.Goals as goal

pub returns-in_err-requests-in-Some : goal.returns-in_err-requests-in-Some
returns-in_err-requests-in-Some c =
    let p = err_from_is_err_and c.from_residual.result c.from_residual.ensures.1 in
    rw (p.1, p.2) (several-refused (view c.args.envelope) (items_view c.in-Some.items.items) c.in_err-requests-in-Some.field-0.0 c.requires.several c.in-Some.ensures.items c.in_err-requests-in-Some.ensures.spelled)

pub returns-in_ok-requests-in-Some : goal.returns-in_ok-requests-in-Some
returns-in_ok-requests-in-Some c =
    rw c.new.ensures
    (several-told (view c.args.envelope) (items_view c.in-Some.items.items) (map read_view c.in_ok-requests-in-Some.requests.items) c.requires.several c.in-Some.ensures.items c.in_ok-requests-in-Some.ensures.spelled)

pub returns-in-None : goal.returns-in-None
returns-in-None c = subst (λ r. Refuses (result_err r) c.root_fault.result) (sym (several-none (view c.args.envelope) c.requires.several c.in-None.ensures.items)) c.root_fault.ensures
