use Rattle.std.proofs.Common.{◌≡◌, length, map, take}
use Rattle.gd_plan.specs.Seen.{sort_key_view}
use Rattle.gd_window.specs.Laws.{directions}
use Rattle.gd_thawed.proofs.keys.order_of.Given as goal

abbrev pub invariant-loop-key : goal.invariant-loop-key
invariant-loop-key l = record {
  order : l.order ≡ directions (map sort_key_view (take l.key-index l.sort));
  count : length l.order ≡ l.key-index;
}
