use Rattle.std.proofs.Common.{◌≡◌, ◌∙◌, ap, subst, map, List, Ok, Err, length, drop}
use Rattle.std.proofs.lemmas.List.{append-nil}
use Rattle.std.proofs.lemmas.Result.{err_from_is_err_and}
use Rattle.gd_prim.specs.declared.Batch.{Batch}
use Rattle.gd_prim.specs.History.{prims_of}
use Rattle.gd_json.specs.View.{view}
use Rattle.gd_defs.specs.Write as write
use Rattle.gd_defs.specs.Write.Links.{Stamp}
use Rattle.gd_mql.specs.Requests.{write_set_view}
use Rattle.gd_growing.specs.State.{State, so_far}
use Rattle.gd_intent.specs.declared.intent.ResolvedChange.{ResolvedChange}
use Rattle.gd_intent.specs.Seen.{intent_view, resolved_view}
use Rattle.gd_carry.specs.declared.print.Printed.{Printed}
use Rattle.gd_carry.specs.Outcome.{fault_of}
use Rattle.gd_carry.specs.Printed.{many_view}
use Rattle.gd_carry.proofs.Whole.{carried_done, carried_refused}
use Rattle.gd_carry.proofs.exec.carry_out.Goals as goal

pub returns : goal.returns
returns c =
    let prims = prims_of c.args.view.now in
    let asks = write_set_view c.args.asks.now in
    let start = so_far c.before-growing.result in
    let now = so_far c.carried_all.new.growing in
    let stamp : Stamp = record { scope = c.args.intent.now.scope; moment = c.args.moment } in
    let started : start ≡ prims = ap so_far c.before-growing.ensures ∙ append-nil prims in
    let is = subst (λ (cs : List ResolvedChange). write.carried_all stamp start (map resolved_view cs) ≡ Ok (now, λ final. many_view final c.in_ok-parts.parts.items))
    c.deref.ensures.value c.in_ok-parts.ensures.all in
    let batch = c.batch_of.ensures
    ∙ ap (λ (bs : List Batch). let b : Batch = record { moment = c.args.moment; prims = drop (length (prims_of bs)) now } in b)
    (c.in_ok-parts.ensures.below ∙ ap (λ (s : State). s.batches) c.before-growing.ensures) in
    let printed = c.in_ok-outcome.ensures ∙ ap (λ (ps : List Printed). write.result_of asks (many_view now ps)) c.deref-2.ensures.value in
    carried_done prims start now asks (intent_view c.args.intent.now) c.args.moment c.in_ok-parts.parts.items c.batch_of.result (view c.in_ok-outcome.outcome) started is batch printed

pub returns-in_err-parts : goal.returns-in_err-parts
returns-in_err-parts c =
    let p = err_from_is_err_and c.from_residual.result c.from_residual.ensures.1 in
    let prims = prims_of c.args.view.now in
    let start = so_far c.before-growing.result in
    let stamp : Stamp = record { scope = c.args.intent.now.scope; moment = c.args.moment } in
    let started : start ≡ prims = ap so_far c.before-growing.ensures ∙ append-nil prims in
    let f = fault_of c.in_err-parts.field-0.0 in
    rw (p.1, p.2) (λ known. carried_refused prims start (write_set_view c.args.asks.now) (intent_view c.args.intent.now) c.args.moment f started
    (subst (λ (cs : List ResolvedChange). write.carried_all stamp start (map resolved_view cs) ≡ Err f) c.deref.ensures.value (c.in_err-parts.ensures.all known)))
