use Rattle.std.proofs.Common.{◌∙◌, sym, ap, arith}
use Rattle.gd_plan.specs.declared.asked.Asked.{Asked as Found}
use Rattle.gd_thawed.specs.Subject.{marks_in}
use Rattle.gd_thawed.proofs.FromText.{count_thaws, building_thaws}
use Rattle.gd_thawed.proofs.thawing.build_from.Goals as goal

pub returns-then-asked : goal.returns-then-asked
returns-then-asked c = λ batches s text ts asked has same stood fits.
    c.count_stage.ensures batches _ s (count_thaws batches s c.args.plan c.args.window.now (marks_in c.args.rows.items) c.args.weight ts text asked has (sym (ap (λ (a : Found). a.count) c.asked.ensures) ∙ c.if-asked.true))

pub returns : goal.returns
returns c = λ batches s text ts asked has same stood fits.
    let low = c.ranges.weight.fits in
    building_thaws batches s c.args.plan c.args.matcher c.args.trees c.args.rows c.args.weight c.args.window.now text ts (omega (arith, low)) asked has same stood fits (sym (ap (λ (a : Found). a.count) c.asked.ensures) ∙ c.if-asked.false)
    c.building_of.result c.building_of.ensures.plan c.building_of.ensures.matcher c.building_of.ensures.rows c.building_of.ensures.trees c.building_of.ensures.weight
