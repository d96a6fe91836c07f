use Rattle.std.proofs.Common.{◌∷◌, []}
use Rattle.gd_round_lines.specs.Works.{write_of}
use Rattle.gd_caller.proofs.Left.{left_none, left_tried, not_kept}
use Rattle.gd_caller.proofs.writes.write_one.Goals as goal

pub returns-then-is_kept : goal.returns-then-is_kept
returns-then-is_kept g c =
    let d = g.D.Disk in
    left_none d.content d.moment d.images d.images_since d.faults g.C.Clock.may g.met.D.Disk.only_now c.args.side.now (write_of c.args.write.now ∷ []) c.stored-stored.ensures.keeps

pub write-written-requires-clause-left : goal.write-written-requires-clause-left
write-written-requires-clause-left g c = not_kept c.args.side.now.outcomes c.args.write.now.line c.is_kept.result c.is_kept.ensures c.if-is_kept.false

pub write-written-requires-clause-fresh : goal.write-written-requires-clause-fresh
write-written-requires-clause-fresh g c = c.requires.fresh (not_kept c.args.side.now.outcomes c.args.write.now.line c.is_kept.result c.is_kept.ensures c.if-is_kept.false)

pub returns : goal.returns
returns g c =
    let d = g.D.Disk in
    left_tried d.content d.moment d.images d.images_since d.faults g.C.Clock.may g.met.D.Disk.only_now c.args.side.now c.write-written.new.self (write_of c.args.write.now) c.write-written.result c.stored-stored.ensures.keeps
    (not_kept c.args.side.now.outcomes c.args.write.now.line c.is_kept.result c.is_kept.ensures c.if-is_kept.false)
    c.write-written.ensures.ok c.write-written.ensures.err c.write-written.ensures.goes
