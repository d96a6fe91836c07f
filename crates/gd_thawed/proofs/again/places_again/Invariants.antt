use Rattle.std.proofs.Common.{◌≡◌, length, take}
use Rattle.gd_thawed.proofs.again.places_again.Given as goal

abbrev pub invariant-loop-key : goal.invariant-loop-key
invariant-loop-key l = record {
  places : l.places ≡ take l.key-index l.keys;
  count : length l.places ≡ l.key-index;
}
