use Rattle.std.proofs.Common.{◌≡◌, ◌<◌, ◌∷◌, arith, ap, map, length, List, ℕ}
use Rattle.gd_frozen.specs.FrozenAt.{one_or_more_at}
use Rattle.gd_frozen.specs.Meaning.{walk_of}
use Rattle.gd_bytes.specs.FrozenRead.{walk_at}
use Rattle.gd_frozen.proofs.Loops.{all_step, map_more}
use Rattle.gd_frozen.proofs.Shorter.{walk_short, walks_enough}
use Rattle.gd_frozen.proofs.walk.some_walks.Goals as goal

pub loop-behind-smaller : goal.loop-behind-smaller
loop-behind-smaller c =
    let less = walk_short c.in-Some.behind.now (walk_of c.in_ok-next.next) c.in_ok-next.after.now c.in_ok-next.ensures in
    let longer = ap length c.in-Some.ensures in
    omega (arith, less, longer)

pub loop-behind-preserved : goal.loop-behind-preserved
loop-behind-preserved c =
    let l = c.loop-behind in
    let less = walk_short c.in-Some.behind.now (walk_of c.in_ok-next.next) c.in_ok-next.after.now c.in_ok-next.ensures in
    all_step 59 walk_at (map walk_of l.walks.items) (map walk_of c.push-in-Some.new.self.items) (walk_of c.in_ok-next.next) l.rest.now c.in-Some.behind.now c.in_ok-next.after.now (one_or_more_at 59 walk_at c.args.bytes.now) walks_enough less
    c.in-Some.ensures c.in_ok-next.ensures (map_more walk_of l.walks.items c.push-in-Some.new.self.items c.in_ok-next.next c.in_ok-push-2.ensures.items) l.invariant
