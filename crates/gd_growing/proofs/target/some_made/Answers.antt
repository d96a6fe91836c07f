use Rattle.std.proofs.Common.{◌+◌, ◌-◌, ◌<◌, ℕ, Bool, length, filter, sym, ap, ◌∙◌, subst}
use Rattle.std.specs.Prelude.{◌||◌}
use Rattle.std.specs.List.{list_any, range_with_len}
use Rattle.gd_defs.specs.Write.Parts as parts
use Rattle.gd_growing.specs.State.{so_far}
use Rattle.gd_growing.specs.Scan.{is_answer_at}
use Rattle.gd_growing.specs.Seen.{target_view}
use Rattle.gd_growing.proofs.Targets.{range_decides}
use Rattle.gd_growing.proofs.target.some_made.Goals as goal

pub returns-then-leads_at : goal.returns-then-leads_at
returns-then-leads_at c =
    let prims = so_far c.args.growing.now in
    let k = c.loop-place.place in
    let below = subst (λ (e : ℕ). k < e) c.place-place-end.ensures c.loop-place-test.true in
    let within = subst (λ (e : ℕ). k < e) c.end.ensures below in
    let test = is_answer_at prims c.args.property.now c.args.object in
    let leads = parts.is_target prims c.args.property.now (target_view c.args.target.now) in
    sym (c.loop-place.invariant ∙ range_decides test leads k (length prims) c.leads_at.result within c.leads_at.ensures
    ∙ ap (λ (b : Bool). b || list_any leads (filter test (range_with_len (k + 1) (length prims - (k + 1))))) c.if-leads_at.true)

pub loop-place-preserved : goal.loop-place-preserved
loop-place-preserved c =
    let prims = so_far c.args.growing.now in
    let k = c.loop-place.place in
    let below = subst (λ (e : ℕ). k < e) c.place-place-end.ensures c.loop-place-test.true in
    let within = subst (λ (e : ℕ). k < e) c.end.ensures below in
    let test = is_answer_at prims c.args.property.now c.args.object in
    let leads = parts.is_target prims c.args.property.now (target_view c.args.target.now) in
    c.loop-place.invariant ∙ range_decides test leads k (length prims) c.leads_at.result within c.leads_at.ensures
    ∙ ap (λ (b : Bool). b || list_any leads (filter test (range_with_len (k + 1) (length prims - (k + 1))))) c.if-leads_at.false
