use Rattle.std.proofs.Common.{refl, ap}
use Rattle.gd_mql.specs.Requests.{write_view}
use Rattle.gd_writer.specs.Parts.{LedgerValue, CopiesValue}
use Rattle.gd_writer.proofs.Backed.{backs_nothing}
use Rattle.gd_writer.proofs.Changed.{backs_room, carries_nothing, carries_roomy}
use Rattle.gd_writer.proofs.desk.Desk.write.Goals as goal

pub returns-then-is_err-clause-carries : goal.returns-then-is_err-clause-carries
returns-then-is_err-clause-carries g c =
    let d = g.D.Disk in
    let old = c.args.self.now in
    let l = c.make_room.ensures.ledger in
    let s = c.make_room.ensures.copies in
    carries_nothing d.content d.moment d.images d.images_since d.faults g.C.Clock.may old.ledger old.copies old.clock c.args.asked.line c.args.asked.bytes (write_view c.args.asked.request.now)
    c.make_room.new.ledger c.make_room.new.copies old.clock (ap (λ (x : LedgerValue _). x.history) l) (ap (λ (x : LedgerValue _). x.doubt) l) (ap (λ (x : CopiesValue). x.shown) s) (ap (λ (x : CopiesValue). x.table) s) refl
    (backs_room d.content d.moment d.images d.images_since d.faults old.ledger c.make_room.new.ledger l
    (backs_nothing d.content d.moment d.images d.images_since d.faults g.met.D.Disk.only_now old.ledger c.requests-stored.ensures.holds))

pub returns-clause-carries : goal.returns-clause-carries
returns-clause-carries g c =
    let d = g.D.Disk in
    let old = c.args.self.now in
    let new = c.write_in_room.new.self in
    carries_roomy d.content d.moment d.images d.images_since d.faults g.C.Clock.may old.ledger c.make_room.new.ledger old.copies c.make_room.new.copies old.clock c.args.asked.line c.args.asked.bytes (write_view c.args.asked.request.now)
    new.ledger new.copies new.clock c.write_in_room.result c.make_room.ensures.ledger c.make_room.ensures.copies c.write_in_room.ensures.carries
