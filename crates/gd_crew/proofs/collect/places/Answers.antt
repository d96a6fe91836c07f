use Rattle.std.proofs.Common.{arith}
use Rattle.gd_crew.proofs.Taken.{none_yet, none_more}
use Rattle.gd_crew.proofs.collect.places.Goals as goal

pub loop-place-init : goal.loop-place-init
loop-place-init c = record { long = c.in-Ok.ensures.len; room = c.in-Ok.ensures.capacity; none = none_yet c.in-Ok.worked.items c.in-Ok.ensures.items }

pub push_reserved-requires : goal.push_reserved-requires
push_reserved-requires c = let long = c.loop-place.invariant.long in let room = c.loop-place.invariant.room in let more = c.loop-place-test.true in omega (arith, long, room, more)

pub loop-place-preserved : goal.loop-place-preserved
loop-place-preserved c =
    let inv = c.loop-place.invariant in
    let long = inv.long in
    let len = c.push_reserved.ensures.len in
    let room = inv.room in
    let same = c.push_reserved.ensures.capacity in
    record { long = omega (arith, long, len); room = omega (arith, room, same); none = none_more c.loop-place.worked.items c.push_reserved.new.self.items inv.none c.push_reserved.ensures.items }

pub returns : goal.returns
returns c = c.loop-place.invariant.none
