use Rattle.std.proofs.Common.{◌∙◌, arith}
use Rattle.gd_disk.specs.Runs.{leaves_start, leaves_stays}
use Rattle.gd_journal.specs.Shape.{IsClosed}
use Rattle.gd_journal.proofs.Told.{content_of}
use Rattle.gd_journal.proofs.Gates.{cut_rests}
use Rattle.gd_journal.proofs.Runs.{closed_short}
use Rattle.gd_journal.proofs.record.clear.Goals as goal

pub returns-in_err-cut-clause-closed : goal.returns-in_err-cut-clause-closed
returns-in_err-cut-clause-closed g c = λ v ps s.
    let d = g.D.Disk in
    let was = c.args.disk.now in
    let near = let f = content_of (d.content was) s.told in c.requires.near f.0 f.1 in
    let begun = leaves_start d.moment d.images d.images_since was (IsClosed v ps) (g.met.D.Disk.only_now was) s.left in
    closed_short was was c.cut.new.self v ps _ begun (omega (arith, near, s.place)) c.cut.ensures.images c.cut.ensures.time

pub returns-in_err-sync-clause-closed : goal.returns-in_err-sync-clause-closed
returns-in_err-sync-clause-closed g c = λ v ps s.
    let d = g.D.Disk in
    let was = c.args.disk.now in
    let near = let f = content_of (d.content was) s.told in c.requires.near f.0 f.1 in
    let begun = leaves_start d.moment d.images d.images_since was (IsClosed v ps) (g.met.D.Disk.only_now was) s.left in
    let one = closed_short was was c.cut.new.self v ps _ begun (omega (arith, near, s.place)) c.cut.ensures.images c.cut.ensures.time in
    leaves_stays was c.cut.new.self c.sync.new.self (IsClosed v ps) one c.sync.ensures.stays c.sync.ensures.time

pub returns-clause-closed : goal.returns-clause-closed
returns-clause-closed g c = λ v ps s.
    let d = g.D.Disk in
    let was = c.args.disk.now in
    let near = let f = content_of (d.content was) s.told in c.requires.near f.0 f.1 in
    let begun = leaves_start d.moment d.images d.images_since was (IsClosed v ps) (g.met.D.Disk.only_now was) s.left in
    let one = closed_short was was c.cut.new.self v ps _ begun (omega (arith, near, s.place)) c.cut.ensures.images c.cut.ensures.time in
    leaves_stays was c.cut.new.self c.sync.new.self (IsClosed v ps) one c.sync.ensures.stays c.sync.ensures.time

pub returns-clause-rests : goal.returns-clause-rests
returns-clause-rests g c = λ v ps s f now.
    let was = c.args.disk.now in
    let b0 = content_of (g.D.Disk.content was) s.told in
    let near = c.requires.near b0.0 b0.1 in
    let b1 = c.in_ok-cut.ensures.content.forth b0.0 b0.1 in
    let last = c.in_ok-sync.ensures.durable b1.0 (c.sync.ensures.stays.content ∙ b1.1) f now in
    cut_rests v ps b0.0 f _ (omega (arith, near, s.place)) (s.left b0.0 (g.met.D.Disk.reads_one was b0.0 b0.1)) (last ∙ b1.2)
