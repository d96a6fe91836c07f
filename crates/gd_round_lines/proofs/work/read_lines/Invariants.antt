use Rattle.std.proofs.Common.{◌+◌, List, length, take}
use Rattle.gd_runs.specs.Explained.{Numbered}
use Rattle.gd_input.specs.Rounds.{AreKept}
use Rattle.gd_round_lines.specs.Works.{AreRead, AreWithin, texts_of}
use Rattle.gd_round_lines.proofs.work.read_lines.Given as goal

abbrev pub invariant-loop-asked : goal.invariant-loop-asked
invariant-loop-asked g l = record {
  read : (given : List Numbered) → AreKept l.lines (texts_of given) → AreRead l.first (take (length l.yielded) given) l.works;
  within : AreWithin l.first (l.first + length l.yielded) l.works;
}
