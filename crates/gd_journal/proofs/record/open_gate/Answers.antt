use Rattle.std.proofs.Common.{◌∙◌}
use Rattle.gd_disk.specs.Runs.{leaves_start, leaves_stays}
use Rattle.gd_journal.specs.Shape.{IsDoubtful}
use Rattle.gd_journal.proofs.Told.{content_of}
use Rattle.gd_journal.proofs.Gates.{staged_doubtful, opened}
use Rattle.gd_journal.proofs.Runs.{doubtful_write}
use Rattle.gd_journal.proofs.record.open_gate.Goals as goal

pub returns-in_err-write_at-clause-doubtful : goal.returns-in_err-write_at-clause-doubtful
returns-in_err-write_at-clause-doubtful g c = λ v ps p s.
    let d = g.D.Disk in
    let was = c.args.disk.now in
    let begun = leaves_start d.moment d.images d.images_since was (IsDoubtful v ps p) (g.met.D.Disk.only_now was) (λ f now. staged_doubtful v ps p f (s.left f now)) in
    doubtful_write was was c.write_at.new.self v ps p c.args.gate begun s.left s.place c.write_at.ensures.images c.write_at.ensures.time

pub returns-in_err-sync-clause-doubtful : goal.returns-in_err-sync-clause-doubtful
returns-in_err-sync-clause-doubtful g c = λ v ps p s.
    let d = g.D.Disk in
    let was = c.args.disk.now in
    let begun = leaves_start d.moment d.images d.images_since was (IsDoubtful v ps p) (g.met.D.Disk.only_now was) (λ f now. staged_doubtful v ps p f (s.left f now)) in
    let one = doubtful_write was was c.write_at.new.self v ps p c.args.gate begun s.left s.place c.write_at.ensures.images c.write_at.ensures.time in
    leaves_stays was c.write_at.new.self c.sync.new.self (IsDoubtful v ps p) one c.sync.ensures.stays c.sync.ensures.time

pub returns-clause-doubtful : goal.returns-clause-doubtful
returns-clause-doubtful g c = λ v ps p s.
    let d = g.D.Disk in
    let was = c.args.disk.now in
    let begun = leaves_start d.moment d.images d.images_since was (IsDoubtful v ps p) (g.met.D.Disk.only_now was) (λ f now. staged_doubtful v ps p f (s.left f now)) in
    let one = doubtful_write was was c.write_at.new.self v ps p c.args.gate begun s.left s.place c.write_at.ensures.images c.write_at.ensures.time in
    leaves_stays was c.write_at.new.self c.sync.new.self (IsDoubtful v ps p) one c.sync.ensures.stays c.sync.ensures.time

pub returns-clause-opened : goal.returns-clause-opened
returns-clause-opened g c = λ v ps p s f now.
    let was = c.args.disk.now in
    let b0 = content_of (g.D.Disk.content was) s.told in
    let b1 = c.in_ok-write_at.ensures.content.forth b0.0 b0.1 in
    let last = c.in_ok-sync.ensures.durable b1.0 (c.sync.ensures.stays.content ∙ b1.1) f now in
    opened v ps p b0.0 f c.args.gate s.place (s.left b0.0 (g.met.D.Disk.reads_one was b0.0 b0.1)) (last ∙ b1.2)
