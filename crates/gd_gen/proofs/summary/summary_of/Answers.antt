use Rattle.std.proofs.Common.{◌∙◌, sym}
use Rattle.gd_gen.proofs.Results.{enough, too_few, not_ok}
use Rattle.gd_gen.proofs.summary.summary_of.Goals as goal

pub returns-in_default : goal.returns-in_default
returns-in_default c = not_ok _ (sym c.in_default.is ∙ c.in_ok-count.ensures.count)

pub returns-then-count-lt-READS : goal.returns-then-count-lt-READS
returns-then-count-lt-READS c = too_few _ _ (sym c.in-Some.is ∙ c.in_ok-count.ensures.count) c.if-count-lt-READS.true

pub returns : goal.returns
returns c = enough _ _ _ (sym c.in-Some.is ∙ c.in_ok-count.ensures.count) c.if-count-lt-READS.false c.in_ok-line.ensures
