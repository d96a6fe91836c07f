use Rattle.std.proofs.Common.{◌≡◌, ◌≤◌, ◌-◌, ◌++◌, drop, take, length}
use Rattle.std.specs.Prelude.{find}
use Rattle.gd_prim.specs.History.{prims_of}
use Rattle.gd_prim.specs.Keys.{is_key_of}
use Rattle.gd_prim.specs.Live.{places_where}
use Rattle.gd_store.specs.Scan.{places_from}
use Rattle.gd_defs.specs.Ids as defined
use Rattle.gd_growing.specs.State.{so_far}
use Rattle.gd_growing.specs.Scan.{names}
use Rattle.gd_growing.proofs.up.naming_link.Given as goal

abbrev pub invariant-loop-k : goal.invariant-loop-k
invariant-loop-k l = record {
  left : defined.naming_link (so_far l.growing) l.object
      ≡ find (names (so_far l.growing)) (take (8 - l.k) (drop l.k (places_where (is_key_of l.object) (prims_of l.growing.batches)
      ++ places_from (is_key_of l.object) (length (prims_of l.growing.batches)) l.growing.made)));
  there : l.k ≤ length (places_where (is_key_of l.object) (prims_of l.growing.batches));
}
