use Rattle.std.proofs.Common.{ℕ, Bool, sym, subst}
use Rattle.gd_mql.specs.Requests.{write_view}
use Rattle.gd_runs.specs.Explained.{MayBe}
use Rattle.gd_writer.proofs.Changed.{changes_ticked, changes_refused, changes_untouched}
use Rattle.gd_writer.proofs.desk.Desk.change.Goals as goal

pub returns-in-Ok-Refused-clause-changes : goal.returns-in-Ok-Refused-clause-changes
returns-in-Ok-Refused-clause-changes g c =
    let d = g.D.Disk in
    let old = c.args.self.now in
    let judged = rw c.in-Ok-Refused.field-0-is at c.in-Ok-Refused.ensures in
    changes_refused d.content d.moment d.images d.images_since d.faults g.C.Clock.may old.ledger old.copies old.clock c.args.asked.line c.args.asked.bytes (write_view c.args.asked.request.now) c.requires.none
    g.met.D.Disk.only_now c.requests-at.ensures.holds c.moment-moment.new.clock c.moment-moment.ensures.same c.requests-at.result c.requests-at.ensures.count c.moment-moment.result c.moment-moment.ensures.given
    c.in-Ok-Refused.fault c.in-Ok-Refused.reply judged.0 judged.1

pub store-requires-clause-moment : goal.store-requires-clause-moment
store-requires-clause-moment g c = subst (λ (m : ℕ → Bool). MayBe m c.moment-moment.result) (sym c.moment-moment.ensures.same) c.moment-moment.ensures.given

pub store-requires-clause-storable : goal.store-requires-clause-storable
store-requires-clause-storable g c = rw c.in-Ok-Storable.field-0-is at c.in-Ok-Storable.ensures

pub returns-in-Ok-Storable-clause-changes : goal.returns-in-Ok-Storable-clause-changes
returns-in-Ok-Storable-clause-changes g c =
    let d = g.D.Disk in
    let old = c.args.self.now in
    let new = c.store.new.self in
    changes_ticked d.content d.moment d.images d.images_since d.faults g.C.Clock.may old.ledger old.copies c.moment-moment.new.clock c.args.asked.line c.args.asked.bytes (write_view c.args.asked.request.now)
    old.clock new.ledger new.copies new.clock c.store.result c.moment-moment.ensures.same c.store.ensures.changes

pub returns-in-Err-clause-changes : goal.returns-in-Err-clause-changes
returns-in-Err-clause-changes g c =
    let d = g.D.Disk in
    let old = c.args.self.now in
    changes_untouched d.content d.moment d.images d.images_since d.faults g.C.Clock.may old.ledger old.copies old.clock c.args.asked.line c.args.asked.bytes (write_view c.args.asked.request.now) c.requires.none
    g.met.D.Disk.only_now c.requests-at.ensures.holds c.moment-moment.new.clock c.moment-moment.ensures.same
