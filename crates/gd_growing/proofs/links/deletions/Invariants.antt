use Rattle.std.proofs.Common.{◌≡◌, ◌++◌, drop, map}
use Rattle.gd_defs.specs.Write.Links.{deletion}
use Rattle.gd_growing.specs.State.{so_far}
use Rattle.gd_growing.proofs.links.deletions.Given as goal

abbrev pub invariant-loop-link : goal.invariant-loop-link
invariant-loop-link l = l.made.items ++ map (deletion l.stamp (so_far l.growing)) (drop l.link-index l.links) ≡ map (deletion l.stamp (so_far l.growing)) l.links
