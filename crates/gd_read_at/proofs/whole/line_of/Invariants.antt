use Rattle.std.proofs.Common.{◌≡◌, ◌^◌}
use Rattle.gd_read.specs.Left.{reading_left}
use Rattle.gd_read.specs.Reading.{IsGoing, reading_view}
use Rattle.gd_read_at.proofs.whole.line_of.Given as goal

abbrev pub invariant-loop-bytes : goal.invariant-loop-bytes
invariant-loop-bytes g l = record {
  going : IsGoing l.view l.reading;
  same : reading_view l.reading ≡ reading_view l.initial.reading;
}

abbrev pub decreases-loop-bytes : goal.decreases-loop-bytes
decreases-loop-bytes g l = reading_left (2 ^ 32) l.view l.reading
