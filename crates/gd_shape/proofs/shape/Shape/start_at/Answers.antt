use Rattle.std.proofs.Common.{◌≤◌, ◌+◌, ◌-◌, subst, sym, ap, map, ◌∙◌}
use Rattle.gd_plan.specs.Asked.{asked_view}
use Rattle.gd_trees.specs.View.{view}
use Rattle.gd_shape.specs.Shaping.{shape_due, body_due, body_places}
use Rattle.gd_shape.specs.declared.shape.PageBody.{PageBody}
use Rattle.gd_shape.proofs.Due.{trees_counted, none_counted, trees_left, none_left}
use Rattle.gd_shape.proofs.shape.Shape.start_at.Goals as goal

pub returns-in-Trees-clause-of : goal.returns-in-Trees-clause-of
returns-in-Trees-clause-of c = c.begun.ensures.of
    (trees_counted c.in-Trees.trees c.count.result c.min-most.result c.args.printed c.saturating_sub-places.result c.count.ensures c.min-most.ensures (c.saturating_sub-places.ensures ∙ ap (λ n. c.min-most.result - n) c.from.ensures)
    (subst (λ (b : PageBody). c.args.printed ≤ body_places b) c.in-Trees.is c.requires.printed))

pub returns-in-Count-clause-of : goal.returns-in-Count-clause-of
returns-in-Count-clause-of c = c.begun-in-Count.ensures.of
    (none_counted _ c.args.printed (ap (map view) c.new-no_trees.ensures.items) (subst (λ (b : PageBody). c.args.printed ≤ body_places b) c.in-Count.is c.requires.printed))

pub returns-in-Trees-clause-counted : goal.returns-in-Trees-clause-counted
returns-in-Trees-clause-counted c = λ prims.
    subst (λ (b : PageBody). shape_due prims c.begun.result + c.args.printed ≤ body_due prims (asked_view c.args.asked) b) (sym c.in-Trees.is)
    (trees_left prims (asked_view c.args.asked) c.in-Trees.trees c.count.result c.min-most.result c.args.printed c.saturating_sub-places.result (shape_due prims c.begun.result) c.count.ensures c.min-most.ensures
    (c.saturating_sub-places.ensures ∙ ap (λ n. c.min-most.result - n) c.from.ensures) (subst (λ (b : PageBody). c.args.printed ≤ body_places b) c.in-Trees.is c.requires.printed) (c.begun.ensures.due prims))

pub returns-in-Count-clause-counted : goal.returns-in-Count-clause-counted
returns-in-Count-clause-counted c = λ prims.
    subst (λ (b : PageBody). shape_due prims c.begun-in-Count.result + c.args.printed ≤ body_due prims (asked_view c.args.asked) b) (sym c.in-Count.is)
    (none_left prims (asked_view c.args.asked) _ c.args.printed (shape_due prims c.begun-in-Count.result) (ap (map view) c.new-no_trees.ensures.items)
    (subst (λ (b : PageBody). c.args.printed ≤ body_places b) c.in-Count.is c.requires.printed) (c.begun-in-Count.ensures.due prims))
