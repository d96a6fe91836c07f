use Rattle.std.proofs.Common.{◌∙◌, refl, ap}
use Rattle.gd_prim.specs.History.{prims_of}
use Rattle.gd_plan.specs.Asked.{asked_view}
use Rattle.gd_thawed.specs.declared.subject.Subject.{Subject}
use Rattle.gd_thawed.proofs.FromText.{keeps_text, rows_fail, body_fails, text_numbers, text_thaws, rows_told_of}
use Rattle.gd_thawed.proofs.query.ThawedQuery.thaw.Goals as goal

pub returns-then-not-rows_fit-clause-thaws : goal.returns-then-not-rows_fit-clause-thaws
returns-then-not-rows_fit-clause-thaws g c =
    rows_fail c.args.view.now (asked_view c.args.plan) c.args.with_cursor c.args.frozen
    (rows_told_of (prims_of c.args.view.now) c.primitives.result.now c.args.plan c.asked.result.now c.args.frozen.rows.items c.as_slice.result.now c.primitives.ensures.prims c.asked.ensures c.as_slice.ensures.value c.rows_fit.result c.rows_fit.ensures
    ∙ c.if-not-rows_fit.true)

pub returns-in-Some-clause-thaws : goal.returns-in-Some-clause-thaws
returns-in-Some-clause-thaws g c =
    let s : Subject = record { asked = c.of.result; dateline = c.args.frozen.dateline; with_cursor = c.args.with_cursor; after = c.args.frozen.after } in
    let thaws = rw c.in-Some.is at c.in_ok-stage.ensures.thaws in
    text_thaws c.args.view.now (asked_view c.args.plan) c.args.with_cursor c.args.frozen s (record { asked = ap asked_view (c.of.ensures ∙ c.asked-4.ensures); cursor = refl; dateline = refl; after = refl }) refl c.offer_marks.new.window c.in-Some.stage
    (rows_told_of (prims_of c.args.view.now) c.primitives.result.now c.args.plan c.asked.result.now c.args.frozen.rows.items c.as_slice.result.now c.primitives.ensures.prims c.asked.ensures c.as_slice.ensures.value c.rows_fit.result c.rows_fit.ensures
    ∙ c.if-not-rows_fit.false)
    thaws

pub returns-in-None-clause-thaws : goal.returns-in-None-clause-thaws
returns-in-None-clause-thaws g c =
    let s : Subject = record { asked = c.of.result; dateline = c.args.frozen.dateline; with_cursor = c.args.with_cursor; after = c.args.frozen.after } in
    let thaws = rw c.in-None.is at c.in_ok-stage.ensures.thaws in
    body_fails c.args.view.now (asked_view c.args.plan) c.args.with_cursor c.args.frozen s c.offer_marks.new.window
    (rows_told_of (prims_of c.args.view.now) c.primitives.result.now c.args.plan c.asked.result.now c.args.frozen.rows.items c.as_slice.result.now c.primitives.ensures.prims c.asked.ensures c.as_slice.ensures.value c.rows_fit.result c.rows_fit.ensures
    ∙ c.if-not-rows_fit.false)
    thaws

pub stage_of-requires-clause-kept : goal.stage_of-requires-clause-kept
stage_of-requires-clause-kept g c =
    keeps_text (prims_of c.args.view.now) c.args.plan c.asked-2.result.now c.asked-3.result.now
    (record { asked = c.of.result; dateline = c.args.frozen.dateline; with_cursor = c.args.with_cursor; after = c.args.frozen.after })
    c.args.frozen.rows.items c.as_slice-2.result.now c.args.frozen.rows.items c.in_ok-window.window c.offer_marks.new.window c.asked-2.ensures c.asked-3.ensures
    c.as_slice-2.ensures.value refl
    c.in_ok-window.ensures.made c.offer_marks.ensures.stays c.in_ok-offer_marks.ensures.seen
    (rows_told_of (prims_of c.args.view.now) c.primitives.result.now c.args.plan c.asked.result.now c.args.frozen.rows.items c.as_slice.result.now c.primitives.ensures.prims c.asked.ensures c.as_slice.ensures.value c.rows_fit.result c.rows_fit.ensures
    ∙ c.if-not-rows_fit.false)

pub stage_of-requires-clause-numbers : goal.stage_of-requires-clause-numbers
stage_of-requires-clause-numbers g c = text_numbers c.args.frozen c.requires.bounds
