use Rattle.std.proofs.Common.{◌≡◌, ◌+◌, List, Some, Bool, drop, filter, sym, ap, ◌∙◌, subst}
use Rattle.std.specs.Prelude.{slice_get, ◌||◌}
use Rattle.std.specs.List.{list_any}
use Rattle.gd_prim.specs.declared.Batch.{Batch}
use Rattle.gd_prim.specs.declared.End.{End}
use Rattle.gd_prim.specs.End.{places_with}
use Rattle.gd_prim.specs.History.{prims_of}
use Rattle.gd_defs.specs.Plan as plan
use Rattle.gd_defs.specs.Write.Parts as parts
use Rattle.gd_growing.specs.State.{so_far}
use Rattle.gd_growing.specs.Scan.{is_answer_at}
use Rattle.gd_growing.specs.Seen.{target_view}
use Rattle.gd_growing.proofs.Targets.{left_decides}
use Rattle.gd_growing.proofs.target.some_below.Goals as goal

pub returns-then-leads_at : goal.returns-then-leads_at
returns-then-leads_at c =
    let state = c.args.growing.now in
    let property = c.args.property.now in
    let k = c.loop-k.k in
    let place = c.list_at-place.result in
    let by_end = subst (λ (e : End). slice_get (places_with e c.args.object (prims_of c.below-below.result.now)) k ≡ Some place) c.asked_end-end.ensures c.list_at-place.ensures.place in
    let at = subst (λ (b : List Batch). slice_get (places_with (plan.asked_end property) c.args.object (prims_of b)) k ≡ Some place) c.below-below.ensures by_end in
    let test = is_answer_at (so_far state) property c.args.object in
    let leads = parts.is_target (so_far state) property (target_view c.args.target.now) in
    let links = places_with (plan.asked_end property) c.args.object (prims_of state.batches) in
    sym (c.loop-k.invariant ∙ left_decides test leads links k place c.leads_at.result at c.leads_at.ensures
    ∙ ap (λ (b : Bool). b || list_any leads (filter test (drop (k + 1) links))) c.if-leads_at.true)

pub loop-k-preserved : goal.loop-k-preserved
loop-k-preserved c =
    let state = c.args.growing.now in
    let property = c.args.property.now in
    let k = c.loop-k.k in
    let place = c.list_at-place.result in
    let by_end = subst (λ (e : End). slice_get (places_with e c.args.object (prims_of c.below-below.result.now)) k ≡ Some place) c.asked_end-end.ensures c.list_at-place.ensures.place in
    let at = subst (λ (b : List Batch). slice_get (places_with (plan.asked_end property) c.args.object (prims_of b)) k ≡ Some place) c.below-below.ensures by_end in
    let test = is_answer_at (so_far state) property c.args.object in
    let leads = parts.is_target (so_far state) property (target_view c.args.target.now) in
    let links = places_with (plan.asked_end property) c.args.object (prims_of state.batches) in
    c.loop-k.invariant ∙ left_decides test leads links k place c.leads_at.result at c.leads_at.ensures
    ∙ ap (λ (b : Bool). b || list_any leads (filter test (drop (k + 1) links))) c.if-leads_at.false
