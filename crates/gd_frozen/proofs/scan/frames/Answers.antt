use Rattle.std.proofs.Common.{◌≡◌, ◌<◌, ◌∷◌, arith, ap, map, length, List, ℕ}
use Rattle.gd_frozen.specs.FrozenAt.{all_at, frame_at}
use Rattle.gd_frozen.specs.Meaning.{frame_of}
use Rattle.gd_frozen.proofs.Loops.{all_step, map_more}
use Rattle.gd_frozen.proofs.Shorter.{frame_short, frames_enough}
use Rattle.gd_frozen.proofs.scan.frames.Goals as goal

pub loop-behind-smaller : goal.loop-behind-smaller
loop-behind-smaller c =
    let less = frame_short c.in-Some.behind.now (frame_of c.in_ok-next.next) c.in_ok-next.after.now c.in_ok-next.ensures in
    let longer = ap length c.in-Some.ensures in
    omega (arith, less, longer)

pub loop-behind-preserved : goal.loop-behind-preserved
loop-behind-preserved c =
    let l = c.loop-behind in
    let less = frame_short c.in-Some.behind.now (frame_of c.in_ok-next.next) c.in_ok-next.after.now c.in_ok-next.ensures in
    all_step 59 frame_at (map frame_of l.frames.items) (map frame_of c.push.new.self.items) (frame_of c.in_ok-next.next) l.rest.now c.in-Some.behind.now c.in_ok-next.after.now (all_at 59 frame_at c.args.bytes.now) frames_enough less
    c.in-Some.ensures c.in_ok-next.ensures (map_more frame_of l.frames.items c.push.new.self.items c.in_ok-next.next c.in_ok-push.ensures.items) l.invariant
