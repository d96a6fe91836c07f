use Rattle.std.proofs.Common.{◌∙◌, arith}
use Rattle.gd_disk.specs.Runs.{leaves_start, leaves_stays}
use Rattle.gd_journal.specs.Shape.{IsClosed}
use Rattle.gd_journal.proofs.Told.{content_of}
use Rattle.gd_journal.proofs.Gates.{staged}
use Rattle.gd_journal.proofs.Runs.{closed_write}
use Rattle.gd_journal.proofs.record.stage.Goals as goal

pub returns-in_err-write_at-clause-closed : goal.returns-in_err-write_at-clause-closed
returns-in_err-write_at-clause-closed g c = λ v ps s.
    let d = g.D.Disk in
    let was = c.args.disk.now in
    let near = let f = content_of (d.content was) s.told in c.requires.near f.0 f.1 in
    let begun = leaves_start d.moment d.images d.images_since was (IsClosed v ps) (g.met.D.Disk.only_now was) s.left in
    closed_write was was c.write_at.new.self v ps _ _ begun (omega (arith, near, s.place)) c.write_at.ensures.images c.write_at.ensures.time

pub returns-in_err-sync-clause-closed : goal.returns-in_err-sync-clause-closed
returns-in_err-sync-clause-closed g c = λ v ps s.
    let d = g.D.Disk in
    let was = c.args.disk.now in
    let near = let f = content_of (d.content was) s.told in c.requires.near f.0 f.1 in
    let begun = leaves_start d.moment d.images d.images_since was (IsClosed v ps) (g.met.D.Disk.only_now was) s.left in
    let one = closed_write was was c.write_at.new.self v ps _ _ begun (omega (arith, near, s.place)) c.write_at.ensures.images c.write_at.ensures.time in
    leaves_stays was c.write_at.new.self c.sync.new.self (IsClosed v ps) one c.sync.ensures.stays c.sync.ensures.time

pub returns-clause-closed : goal.returns-clause-closed
returns-clause-closed g c = λ v ps s.
    let d = g.D.Disk in
    let was = c.args.disk.now in
    let near = let f = content_of (d.content was) s.told in c.requires.near f.0 f.1 in
    let begun = leaves_start d.moment d.images d.images_since was (IsClosed v ps) (g.met.D.Disk.only_now was) s.left in
    let one = closed_write was was c.write_at.new.self v ps _ _ begun (omega (arith, near, s.place)) c.write_at.ensures.images c.write_at.ensures.time in
    leaves_stays was c.write_at.new.self c.sync.new.self (IsClosed v ps) one c.sync.ensures.stays c.sync.ensures.time

pub returns-clause-staged : goal.returns-clause-staged
returns-clause-staged g c = λ v ps p spells s f now.
    let d = g.D.Disk in
    let was = c.args.disk.now in
    let b0 = content_of (d.content was) s.told in
    let near = c.requires.near b0.0 b0.1 in
    let b1 = c.in_ok-write_at.ensures.content.forth b0.0 b0.1 in
    let last = c.in_ok-sync.ensures.durable b1.0 (c.sync.ensures.stays.content ∙ b1.1) f now in
    staged v ps c.args.gate c.saturating_add.result c.args.bytes.now p b0.0 f s.place (omega (arith, near)) spells (s.left b0.0 (g.met.D.Disk.reads_one was b0.0 b0.1)) (last ∙ b1.2)
