use Rattle.std.proofs.Common.{◌≡◌, ◌+◌, drop}
use Rattle.gd_prim.specs.Live as live
use Rattle.gd_growing.specs.Scan.{first_place}
use Rattle.gd_growing.proofs.made.first_previous.Given as goal

abbrev pub invariant-loop-i : goal.invariant-loop-i
invariant-loop-i l = first_place (λ p. live.refers p.previous l.place) l.from l.made ≡ first_place (λ p. live.refers p.previous l.place) (l.from + l.i) (drop l.i l.made)
