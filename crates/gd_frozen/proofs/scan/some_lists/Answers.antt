use Rattle.std.proofs.Common.{◌≡◌, ◌<◌, ◌∷◌, arith, ap, map, length, List, ℕ}
use Rattle.gd_frozen.specs.FrozenAt.{one_or_more_at}
use Rattle.gd_frozen.specs.Pieces.{trees_at, trees_in}
use Rattle.gd_frozen.proofs.Loops.{all_step, map_more}
use Rattle.gd_frozen.proofs.Shorter.{trees_short, trees_enough}
use Rattle.gd_frozen.proofs.scan.some_lists.Goals as goal

pub loop-behind-smaller : goal.loop-behind-smaller
loop-behind-smaller c =
    let less = trees_short c.in-Some.behind.now (trees_in c.in_ok-next.next) c.in_ok-next.after.now c.in_ok-next.ensures in
    let longer = ap length c.in-Some.ensures in
    omega (arith, less, longer)

pub loop-behind-preserved : goal.loop-behind-preserved
loop-behind-preserved c =
    let l = c.loop-behind in
    let less = trees_short c.in-Some.behind.now (trees_in c.in_ok-next.next) c.in_ok-next.after.now c.in_ok-next.ensures in
    all_step 44 trees_at (map trees_in l.lists.items) (map trees_in c.push-in-Some.new.self.items) (trees_in c.in_ok-next.next) l.rest.now c.in-Some.behind.now c.in_ok-next.after.now (one_or_more_at 44 trees_at c.args.bytes.now) trees_enough less
    c.in-Some.ensures c.in_ok-next.ensures (map_more trees_in l.lists.items c.push-in-Some.new.self.items c.in_ok-next.next c.in_ok-push-2.ensures.items) l.invariant
