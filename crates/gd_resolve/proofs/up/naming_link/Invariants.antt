use Rattle.std.proofs.Common.{◌≡◌, ◌≤◌, ◌<◌, ◌+◌, ◌*◌, ◌&&◌, is_some, drop, take}
use Rattle.std.specs.Prelude.{find}
use Rattle.gd_base.specs.Counts.{Rose}
use Rattle.gd_prim.specs.History.{prims_of}
use Rattle.gd_prim.specs.Live as live
use Rattle.gd_defs.specs.Ids as defined
use Rattle.gd_store.specs.Keys.{is_key_of}
use Rattle.gd_resolve.proofs.up.naming_link.Given as goal

abbrev pub invariant-loop-k : goal.invariant-loop-k
invariant-loop-k g l = record {
  left : defined.naming_link (prims_of l.view) l.object
      ≡ find (λ k. live.is_live (prims_of l.view) k && is_some (live.end_at (λ p. p.right) (prims_of l.view) k)) (drop l.k (take 8 (live.places_where (is_key_of l.object) (prims_of l.view))));
  work : l.steps ≤ l.initial.steps + 6 * l.k;
  later : l.initial.steps ≤ l.steps;
  counted : 0 < l.k → Rose l.initial.steps l.steps;
}
