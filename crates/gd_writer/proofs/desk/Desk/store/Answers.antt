use Rattle.std.proofs.Common.{sym, subst}
use Rattle.gd_mql.specs.Requests.{write_view}
use Rattle.gd_writer.specs.declared.outcome.Outcome.{Outcome}
use Rattle.gd_writer.specs.Carried.{Changes}
use Rattle.gd_writer.proofs.Changed.{changes_stored, changes_late, changes_failed}
use Rattle.gd_writer.proofs.desk.Desk.store.Goals as goal

pub returns-in-Ok-show_with-clause-changes : goal.returns-in-Ok-show_with-clause-changes
returns-in-Ok-show_with-clause-changes g c =
    let d = g.D.Disk in
    let old = c.args.self.now in
    changes_stored d.content d.moment d.images d.images_since d.faults g.C.Clock.may old.ledger old.copies old.clock c.args.asked.line c.args.asked.bytes (write_view c.args.asked.request.now) c.requires.none
    c.args.moment c.args.next c.requires.storable c.requires.moment c.requests-at.result c.requests-at.ensures.count c.append.new.self c.append.ensures.backs
    c.in-Ok.batch c.show_with.new.self c.in-Ok.ensures.appends c.requires.aligned c.in-Ok-show_with.ensures.shown c.show_with.ensures.table

pub returns-in-Err-show_with-clause-changes : goal.returns-in-Err-show_with-clause-changes
returns-in-Err-show_with-clause-changes g c =
    let d = g.D.Disk in
    let old = c.args.self.now in
    changes_late d.content d.moment d.images d.images_since d.faults g.C.Clock.may old.ledger old.copies old.clock c.args.asked.line c.args.asked.bytes (write_view c.args.asked.request.now) c.requires.none
    c.args.moment c.args.next c.requires.storable c.requires.moment c.requests-at.result c.requests-at.ensures.count c.append.new.self c.append.ensures.backs
    c.in-Ok.batch c.show_with.new.self c.in-Ok.ensures.appends c.in-Err-show_with.ensures.shown c.show_with.ensures.table

pub returns-in-Err-clause-changes : goal.returns-in-Err-clause-changes
returns-in-Err-clause-changes g c =
    let d = g.D.Disk in
    let old = c.args.self.now in
    let new = c.append.new.self in
    subst (λ (o : Outcome). Changes d.content d.moment d.images d.images_since d.faults g.C.Clock.may old.ledger old.copies old.clock c.args.asked.line c.args.asked.bytes (write_view c.args.asked.request.now) new old.copies old.clock o) (sym c.failed.ensures)
    (changes_failed d.content d.moment d.images d.images_since d.faults g.C.Clock.may old.ledger old.copies old.clock c.args.asked.line c.args.asked.bytes (write_view c.args.asked.request.now) c.requires.none
    c.args.moment c.args.next c.requires.storable c.requires.moment c.requests-at.result c.requests-at.ensures.count new c.append.ensures.backs c.in-Err.fault c.in-Err.ensures.appends c.in-Err.ensures.cause)
