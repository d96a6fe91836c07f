use Rattle.std.proofs.Common.{◌∙◌, ap, arith}
use Rattle.std.specs.Prelude.{if◌then◌else◌}
use Rattle.gd_prim.specs.History.{prims_of}
use Rattle.gd_frozen.specs.Pieces.{trees_in}
use Rattle.gd_plan.specs.Asked.{asked_view}
use Rattle.gd_plan.specs.declared.asked.Asked.{Asked as Found}
use Rattle.gd_template.specs.Built.{view}
use Rattle.gd_thawed.proofs.FromText.{trees_stand, trees_past}
use Rattle.gd_thawed.proofs.thawing.built_trees.Goals as goal

pub returns-then-count_of-most-clause-thaws : goal.returns-then-count_of-most-clause-thaws
returns-then-count_of-most-clause-thaws g c =
    let fits = rw c.in-Some.is at c.in_ok-trees.ensures.fits in
    let over = c.if-count_of-most.true in
    let many = c.count_of.ensures in
    trees_past (prims_of c.args.view.now) (asked_view c.args.plan.now) c.args.rows c.most_trees-most.result (trees_in c.args.trees.now) c.in-Some.trees
    (c.most_trees-most.ensures ∙ ap (λ (a : Found). if (asked_view a).count then 0 else c.args.rows) c.asked.ensures) fits.0 (omega (arith, over, many))

pub returns-else-count_of-most-clause-thaws : goal.returns-else-count_of-most-clause-thaws
returns-else-count_of-most-clause-thaws g c =
    let fits = rw c.in-Some.is at c.in_ok-trees.ensures.fits in
    let within = c.if-count_of-most.false in
    let many = c.count_of.ensures in
    trees_stand (prims_of c.args.view.now) (asked_view c.args.plan.now) c.args.rows c.most_trees-most.result (trees_in c.args.trees.now) c.in-Some.trees (view c.template.result.now) c.template.ensures
    (c.most_trees-most.ensures ∙ ap (λ (a : Found). if (asked_view a).count then 0 else c.args.rows) c.asked.ensures) fits (omega (arith, within, many))
