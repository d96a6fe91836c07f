use Rattle.std.proofs.Common.{◌≡◌, ◌++◌, length, map, drop}
use Rattle.gd_defs.specs.Reply.{fitted}
use Rattle.gd_plan.specs.Seen.{sort_key_view}
use Rattle.gd_window.specs.Laws.{keys_at}
use Rattle.gd_thawed.proofs.keys.mark_keys.Given as goal

abbrev pub invariant-loop-count : goal.invariant-loop-count
invariant-loop-count l = record {
  keys : l.keys.items ++ keys_at l.prims (map sort_key_view (drop l.count l.sort)) (fitted (length l.prims) (map sort_key_view (drop l.count l.sort)) (drop l.count l.places))
      ≡ keys_at l.prims (map sort_key_view l.sort) (fitted (length l.prims) (map sort_key_view l.sort) l.places);
  count : length l.keys.items ≡ l.count;
}
