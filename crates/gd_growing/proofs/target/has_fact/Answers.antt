use Rattle.std.proofs.Common.{Bool, length, filter, sym, ap, ◌∙◌}
use Rattle.std.specs.Prelude.{◌||◌}
use Rattle.std.specs.List.{list_any, range_with_len}
use Rattle.gd_prim.specs.History.{prims_of}
use Rattle.gd_defs.specs.Write.Parts as parts
use Rattle.gd_growing.specs.State.{so_far}
use Rattle.gd_growing.specs.Scan.{is_answer_at}
use Rattle.gd_growing.specs.Seen.{target_view}
use Rattle.gd_growing.proofs.Targets.{holds_in_parts}
use Rattle.gd_growing.proofs.target.has_fact.Goals as goal

pub returns-then-some_below : goal.returns-then-some_below
returns-then-some_below c =
    let state = c.args.growing.now in
    let property = c.args.property.now in
    let target = target_view c.args.target.now in
    let made = list_any (parts.is_target (so_far state) property target) (filter (is_answer_at (so_far state) property c.args.object) (range_with_len (length (prims_of state.batches)) (length state.made))) in
    c.if-some_below.true
    ∙ sym (holds_in_parts (prims_of state.batches) state.made property c.args.object target ∙ ap (λ (b : Bool). b || made) (sym c.some_below.ensures ∙ c.if-some_below.true))

pub returns-else-some_below : goal.returns-else-some_below
returns-else-some_below c =
    let state = c.args.growing.now in
    let property = c.args.property.now in
    let target = target_view c.args.target.now in
    let made = list_any (parts.is_target (so_far state) property target) (filter (is_answer_at (so_far state) property c.args.object) (range_with_len (length (prims_of state.batches)) (length state.made))) in
    c.some_made.ensures
    ∙ sym (holds_in_parts (prims_of state.batches) state.made property c.args.object target ∙ ap (λ (b : Bool). b || made) (sym c.some_below.ensures ∙ c.if-some_below.false))
