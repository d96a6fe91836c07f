use Rattle.std.proofs.Common.{◌^◌, ap, arith}
use Rattle.gd_read.specs.Left.{reading_left}
use Rattle.gd_read.specs.Reading.{is_unfinished}
use Rattle.gd_read_at.proofs.Slices.{falls}
use Rattle.gd_read_at.proofs.whole.slice_of.Goals as goal

pub returns-in-Unfinished-clause-less : goal.returns-in-Unfinished-clause-less
returns-in-Unfinished-clause-less g c = λ none.
    falls c.new-taken.result c.args.budget c.slice.new.steps (reading_left (2 ^ 32) c.args.view.now c.args.reading.now) (reading_left (2 ^ 32) c.args.view.now c.slice.new.self)
    c.new-taken.ensures c.requires.budget (c.in_ok-bytes.ensures.reached (ap is_unfinished c.in-Unfinished.is)) (c.slice.ensures.less (2 ^ 32) (omega arith))
