use Rattle.std.proofs.Common.{◌≡◌, ◌++◌, map, drop}
use Rattle.gd_frozen.specs.Meaning.{frame_of}
use Rattle.gd_thawed.proofs.again.frames_again.Given as goal

abbrev pub invariant-loop-frame : goal.invariant-loop-frame
invariant-loop-frame l = map frame_of l.again.items ++ map frame_of (drop l.frame-index l.frames) ≡ map frame_of l.frames
