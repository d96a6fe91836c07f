use Rattle.std.proofs.Common.{◌≤◌, ◌+◌, sym, subst, arith, codes}
use Rattle.std.specs.Result.{result_err}
use Rattle.std.proofs.lemmas.Result.{err_from_is_err_and}
use Rattle.gd_tree.specs.Bounds.{json_depth}
use Rattle.gd_json.specs.View.{view}
use Rattle.gd_mql.specs.FormFault.{Refuses, Spells}
use Rattle.gd_mql.specs.Requests.{cursor_view, read_view}
use Rattle.gd_mql.proofs.Envelopes.{request-other, request-uncursored, request-unasked, request-paged, member_depth}
use Rattle.gd_mql.proofs.envelope.request_of.Goals as goal

pub returns-then-not-has_only : goal.returns-then-not-has_only
returns-then-not-has_only c = subst (λ r. Refuses (result_err r) c.root_fault.result) (sym (request-other c.args.among (view c.args.envelope) (sym c.if-not-has_only.ensures))) c.root_fault.ensures

pub returns-in_err-cursor : goal.returns-in_err-cursor
returns-in_err-cursor c =
    let p = err_from_is_err_and c.from_residual.result c.from_residual.ensures.1 in
    rw (p.1, p.2) (request-uncursored c.args.among (view c.args.envelope) _ c.in_err-cursor.field-0.0 (sym c.if-not-has_only.ensures) c.member.ensures c.in_err-cursor.ensures)

pub paged-requires : goal.paged-requires
paged-requires c =
    let deep : json_depth (view c.args.envelope) ≤ 15 = c.requires in
    let below : 1 + json_depth (view c.in-Some.query) ≤ json_depth (view c.args.envelope) = member_depth (codes "query") (view c.args.envelope) (view c.in-Some.query) c.in-Some.ensures in
    omega arith

pub returns-in-Some : goal.returns-in-Some
returns-in-Some c =
    subst (λ r. Spells read_view r c.paged.result)
    (sym (request-paged c.args.among (view c.args.envelope) (view c.in-Some.query) _ (cursor_view c.in_ok-cursor.cursor) (sym c.if-not-has_only.ensures) c.member.ensures c.in_ok-cursor.ensures c.in-Some.ensures)) c.paged.ensures

pub returns-in-None : goal.returns-in-None
returns-in-None c =
    subst (λ r. Refuses (result_err r) c.root_fault-in-None.result)
    (sym (request-unasked c.args.among (view c.args.envelope) _ (cursor_view c.in_ok-cursor.cursor) (sym c.if-not-has_only.ensures) c.member.ensures c.in_ok-cursor.ensures c.in-None.ensures)) c.root_fault-in-None.ensures
