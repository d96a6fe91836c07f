use Rattle.std.proofs.Common.{◌∙◌, sym, ap, map}
use Rattle.gd_frozen.specs.Meaning.{walk_of}
use Rattle.gd_frozen.specs.Pieces.{trees_in}
use Rattle.gd_plan.specs.declared.asked.Asked.{Asked as Found}
use Rattle.gd_thawed.specs.Subject.{marks_in}
use Rattle.gd_thawed.proofs.FromText.{count_prints}
use Rattle.gd_thawed.proofs.thawing.print_from.Goals as goal

pub returns-then-asked : goal.returns-then-asked
returns-then-asked c = λ batches s asked has same fit.
    c.count_stage.ensures batches _ s
    (count_prints batches s c.args.plan c.args.window.now (marks_in c.args.rows.items) c.args.printed (trees_in c.args.told) (map walk_of c.args.walks.items) asked has (sym (ap (λ (a : Found). a.count) c.asked.ensures) ∙ c.if-asked.true))

pub returns : goal.returns
returns c = λ batches s asked has same fit. c.stage_at.ensures batches s c.args.window.now asked has same fit
