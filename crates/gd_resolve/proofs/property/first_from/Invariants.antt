use Rattle.std.proofs.Common.{◌≡◌, ◌+◌, ◌*◌, ◌≤◌, drop}
use Rattle.std.specs.Prelude.{find}
use Rattle.gd_prim.specs.History.{prims_of}
use Rattle.gd_prim.specs.declared.End.TheVariants.{Left}
use Rattle.gd_prim.specs.End.{places_with}
use Rattle.gd_resolve.specs.Found.{is_found, is_wanted}
use Rattle.gd_resolve.proofs.property.first_from.Given as goal

abbrev pub invariant-loop-k : goal.invariant-loop-k
invariant-loop-k g l = record {
  left : find (is_found (is_wanted l.wanted) (prims_of l.view)) (places_with Left l.object (prims_of l.view))
      ≡ find (is_found (is_wanted l.wanted) (prims_of l.view)) (drop l.k (places_with Left l.object (prims_of l.view)));
  work : l.steps ≤ l.initial.steps + 4 * l.k;
  later : l.initial.steps ≤ l.steps;
}
