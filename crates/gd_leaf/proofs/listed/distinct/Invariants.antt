use Rattle.std.proofs.Common.{drop}
use Rattle.gd_leaf.proofs.Distinct.{Taken}
use Rattle.gd_leaf.proofs.listed.distinct.Given as goal

abbrev pub invariant-loop-place : goal.invariant-loop-place
invariant-loop-place l = Taken l.list.ids (drop l.place-index l.places) l.places l.next
