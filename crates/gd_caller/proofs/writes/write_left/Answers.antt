use Rattle.std.proofs.Common.{◌∷◌, [], List, map, take, subst}
use Rattle.gd_runs.specs.Side as side
use Rattle.gd_round_lines.specs.Works.{write_of, MayBeWritten}
use Rattle.gd_caller.specs.Writes.{WritesLeft}
use Rattle.gd_caller.proofs.Left.{left_none, left_then, left_fresh, written_more, written_all, written_at}
use Rattle.gd_round_lines.proofs.Sets.{item_there}
use Rattle.gd_round_lines.proofs.Read.{all_at}
use Rattle.gd_caller.proofs.writes.write_left.Goals as goal

pub loop-write-init : goal.loop-write-init
loop-write-init g c =
    let d = g.D.Disk in
    left_none d.content d.moment d.images d.images_since d.faults g.C.Clock.may g.met.D.Disk.only_now c.args.side.now [] c.stored-stored.ensures.keeps

pub write_one-requires-clause-may : goal.write_one-requires-clause-may
write_one-requires-clause-may g c =
    all_at MayBeWritten c.args.writes.now c.loop-write.write-index c.write-item.result c.requires.may (item_there c.args.writes.now c.loop-write.write-index c.write-item.result c.loop-write-test.true c.write-item.is)

pub write_one-requires-clause-fresh : goal.write_one-requires-clause-fresh
write_one-requires-clause-fresh g c =
    let d = g.D.Disk in
    left_fresh d.content d.moment d.images d.images_since d.faults g.C.Clock.may c.args.side.now c.loop-write.side (map write_of c.args.writes.now) (map write_of (take c.loop-write.write-index c.args.writes.now)) c.loop-write.invariant c.requires.fresh
    c.loop-write.write-index (write_of c.write-item.result) (written_at c.args.writes.now c.loop-write.write-index c.write-item.result (item_there c.args.writes.now c.loop-write.write-index c.write-item.result c.loop-write-test.true c.write-item.is))

pub loop-write-preserved : goal.loop-write-preserved
loop-write-preserved g c =
    let d = g.D.Disk in
    let i = c.loop-write.write-index in
    let ws = c.args.writes.now in
    let w = c.write-item.result in
    subst (λ (ls : List side.WriteLine). WritesLeft d.content d.moment d.images d.images_since d.faults g.C.Clock.may c.args.side.now c.write_one.new.side ls) (written_more ws i w (item_there ws i w c.loop-write-test.true c.write-item.is))
    (left_then d.content d.moment d.images d.images_since d.faults g.C.Clock.may c.args.side.now c.loop-write.side c.write_one.new.side (map write_of (take i ws)) (write_of w ∷ []) c.loop-write.invariant c.write_one.ensures)

pub returns : goal.returns
returns g c =
    let d = g.D.Disk in
    subst (λ (ls : List side.WriteLine). WritesLeft d.content d.moment d.images d.images_since d.faults g.C.Clock.may c.args.side.now c.loop-write.side ls) (written_all c.args.writes.now c.loop-write.write-index c.loop-write-test.false) c.loop-write.invariant
