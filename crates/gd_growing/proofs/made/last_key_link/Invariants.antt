use Rattle.std.proofs.Common.{◌≡◌, ◌+◌, drop}
use Rattle.std.specs.List.{last_or}
use Rattle.gd_prim.specs.Keys.{is_key_link}
use Rattle.gd_store.specs.Scan.{places_from}
use Rattle.gd_growing.proofs.made.last_key_link.Given as goal

abbrev pub invariant-loop-i : goal.invariant-loop-i
invariant-loop-i l = last_or l.fn.before (places_from (is_key_link l.namespace l.key) l.from l.made) ≡ last_or l.last (places_from (is_key_link l.namespace l.key) (l.from + l.i) (drop l.i l.made))
