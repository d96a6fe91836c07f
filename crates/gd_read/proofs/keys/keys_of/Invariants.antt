use Rattle.std.proofs.Common.{◌≡◌, ◌≤◌, ◌+◌, length, map, max, take}
use Rattle.gd_prim.specs.History.{prims_of}
use Rattle.gd_plan.specs.Seen.{sort_key_view}
use Rattle.gd_read.specs.KeysAt.{own_key}
use Rattle.gd_read.proofs.keys.keys_of.Given as goal

abbrev pub invariant-loop-key : goal.invariant-loop-key
invariant-loop-key g l = record {
  keys : l.keys.items ≡ map (own_key (prims_of l.view) l.object) (map sort_key_view (take l.key-index l.sort));
  count : length l.keys.items ≡ l.key-index;
  within : l.steps ≤ max l.initial.steps (l.whole.before + l.whole.size + 22);
  later : l.initial.steps ≤ l.steps;
}
