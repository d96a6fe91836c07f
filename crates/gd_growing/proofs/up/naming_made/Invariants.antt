use Rattle.std.proofs.Common.{◌≡◌, ◌+◌, drop, take, length}
use Rattle.std.specs.Prelude.{find}
use Rattle.gd_prim.specs.History.{prims_of}
use Rattle.gd_prim.specs.Keys.{is_key_of}
use Rattle.gd_store.specs.Scan.{places_from}
use Rattle.gd_growing.specs.State.{so_far}
use Rattle.gd_growing.specs.Scan.{names}
use Rattle.gd_growing.proofs.up.naming_made.Given as goal

abbrev pub invariant-loop-i : goal.invariant-loop-i
invariant-loop-i l = find (names (so_far l.growing)) (take l.links (places_from (is_key_of l.object) (length (prims_of l.growing.batches)) l.growing.made))
    ≡ find (names (so_far l.growing)) (take l.left (places_from (is_key_of l.object) (length (prims_of l.growing.batches) + l.i) (drop l.i l.growing.made)))
