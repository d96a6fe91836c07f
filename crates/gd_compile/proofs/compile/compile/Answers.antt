use Rattle.std.proofs.Common.{◌≡◌, ◌≤◌, ◌+◌, ◌*◌, ◌∙◌, ap, sym, subst, Ok}
use Rattle.gd_prim.specs.History.{prims_of}
use Rattle.gd_defs.specs.Query.{Query}
use Rattle.gd_defs.specs.Asked as defs
use Rattle.gd_mql.specs.Requests.{query_view, read_view}
use Rattle.gd_plan.specs.Asked.{asked_view}
use Rattle.gd_json.specs.View.{members_view}
use Rattle.gd_defs.specs.Cost.{resolving}
use Rattle.gd_compile.proofs.Right.{spelled_right}
use Rattle.gd_compile.proofs.Rooms.{query_paid, looked, plan_room}
use Rattle.gd_compile.proofs.Plans.{plan_means, template_flat}
use Rattle.gd_compile.proofs.compile.compile.Goals as goal

pub plan_of-requires : goal.plan_of-requires
plan_of-requires g c =
    let prims = prims_of c.args.view.now in
    let written = (read_view c.args.request.now).query in
    let found : defs.asked_query prims written ≡ Ok (asked_view c.in_ok-asked.asked) = ap (λ (q : Query). defs.asked_query prims q) (sym c.query.ensures.shown) ∙ c.in_ok-asked.ensures.asked in
    template_flat prims written (asked_view c.in_ok-asked.asked) c.query.ensures.depth found

pub returns-clause-means : goal.returns-clause-means
returns-clause-means g c =
    let prims = prims_of c.args.view.now in
    let written = query_view c.query.result in
    plan_means prims written c.in_ok-asked.asked c.plan_of.result c.end-end.ensures.held c.in_ok-asked.ensures.asked c.plan_of.ensures

pub returns-clause-work : goal.returns-clause-work
returns-clause-work g c =
    let prims = prims_of c.args.view.now in
    let written = query_view c.query.result in
    let paid = query_paid prims written (spelled_right c.query.result.root.root (members_view c.query.result.root.members.now)) in
    subst (λ (q : Query). c.asked_query.new.steps ≤ c.args.steps.now + 64 * resolving prims q) c.query.ensures.shown (looked _ _ _ _ c.asked_query.ensures.looks paid)

pub returns-in_err-asked-clause-work : goal.returns-in_err-asked-clause-work
returns-in_err-asked-clause-work g c =
    let prims = prims_of c.args.view.now in
    let written = query_view c.query.result in
    let paid = query_paid prims written (spelled_right c.query.result.root.root (members_view c.query.result.root.members.now)) in
    subst (λ (q : Query). c.asked_query.new.steps ≤ c.args.steps.now + 64 * resolving prims q) c.query.ensures.shown (looked _ _ _ _ c.asked_query.ensures.looks paid)

pub returns-clause-room : goal.returns-clause-room
returns-clause-room g c =
    let prims = prims_of c.args.view.now in
    let written = query_view c.query.result in
    plan_room prims written c.in_ok-asked.asked c.plan_of.result c.args.steps.now c.asked_query.new.steps (read_view c.args.request.now).query (spelled_right c.query.result.root.root (members_view c.query.result.root.members.now)) c.query.ensures.shown
    c.in_ok-asked.ensures.asked c.asked_query.ensures.looks c.plan_of.ensures
