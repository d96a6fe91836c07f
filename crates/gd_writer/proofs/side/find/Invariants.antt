use Rattle.std.proofs.Common.{◌≡◌, map, drop}
use Rattle.gd_core_laws.specs.Bounds.{kept_of}
use Rattle.gd_writer.specs.Outcomes.{told_view}
use Rattle.gd_writer.proofs.side.find.Given as goal

abbrev pub invariant-loop-told : goal.invariant-loop-told
invariant-loop-told l = kept_of (map told_view l.outcomes) l.line ≡ kept_of (map told_view (drop l.told-index l.outcomes)) l.line
