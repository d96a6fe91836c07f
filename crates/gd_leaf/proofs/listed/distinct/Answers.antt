use Rattle.std.proofs.Common.{◌<◌, ◌≤◌, length, get_or, refl, rules}
use Rattle.gd_leaf.proofs.Distinct.{rest_is, beyond}
use Rattle.gd_leaf.proofs.listed.distinct.Goals as goal

pub loop-place-preserved-then-place-ge-PLACES : goal.loop-place-preserved-then-place-ge-PLACES
loop-place-preserved-then-place-ge-PLACES c =
    let there : c.loop-place.place-index < length c.args.places.now = search rules in
    let high : 2_097_151 ≤ get_or c.args.places.now c.loop-place.place-index 0 = search rules in
    beyond _ _ _ _ (get_or c.args.places.now c.loop-place.place-index 0) _ (rest_is c.args.places.now c.loop-place.place-index _ there refl) high c.loop-place.invariant
