use Rattle.std.proofs.Common.{◌≡◌, ◌≤◌, [], drop, length}
use Rattle.std.specs.Prelude.{string_bytes}
use Rattle.gd_runs.specs.Shape.{links_text}
use Rattle.gd_shape.proofs.spelt.links_spelt.Given as goal

abbrev pub invariant-loop-left : goal.invariant-loop-left
invariant-loop-left l = record {
  within : l.left ≤ length l.links;
  spelt : string_bytes l.text ≡ links_text l.sight (drop l.left l.links) [];
}

abbrev pub decreases-loop-left : goal.decreases-loop-left
decreases-loop-left l = l.left
