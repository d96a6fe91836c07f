use Rattle.std.proofs.Common.{sym, ap, ◌∙◌}
use Rattle.gd_mql.specs.Requests.{write_view}
use Rattle.gd_runs.specs.Legal.{batches}
use Rattle.gd_writer.specs.Parts.{LedgerValue, CopiesValue}
use Rattle.gd_writer.proofs.Changed.{carries_then, carries_unsettled, carries_nothing}
use Rattle.gd_writer.proofs.desk.Desk.write_in_room.Goals as goal

pub returns-in-Ok-clause-carries : goal.returns-in-Ok-clause-carries
returns-in-Ok-clause-carries g c =
    let d = g.D.Disk in
    let old = c.args.self.now in
    let mid = c.end_doubt.new.self in
    let new = c.change.new.self in
    carries_then d.content d.moment d.images d.images_since d.faults g.C.Clock.may old.ledger old.copies old.clock c.args.asked.line c.args.asked.bytes (write_view c.args.asked.request.now)
    mid.ledger mid.copies mid.clock new.ledger new.copies new.clock c.change.result
    c.in-Ok.ensures.settles c.end_doubt.ensures.backs c.end_doubt.ensures.table c.end_doubt.ensures.clock c.change.ensures.changes

pub returns-in-Err-DiskFault-clause-carries : goal.returns-in-Err-DiskFault-clause-carries
returns-in-Err-DiskFault-clause-carries g c =
    let d = g.D.Disk in
    let old = c.args.self.now in
    let new = c.end_doubt.new.self in
    let rose = rw c.in-Err-DiskFault.field-0-is at c.in-Err-DiskFault.ensures.cause in
    carries_unsettled d.content d.moment d.images d.images_since d.faults g.C.Clock.may old.ledger old.copies old.clock c.args.asked.line c.args.asked.bytes (write_view c.args.asked.request.now)
    new.ledger new.copies new.clock c.in-Err-DiskFault.ensures.some c.in-Err-DiskFault.ensures.err.0 c.in-Err-DiskFault.ensures.err.1 c.end_doubt.ensures.clock c.end_doubt.ensures.backs rose

pub returns-in-Err : goal.returns-in-Err
returns-in-Err g c =
    let d = g.D.Disk in
    let old = c.args.self.now in
    let new = c.end_doubt.new.self in
    let kept = c.in-Err.ensures.err in
    record {
      aligned = ap (λ (x : CopiesValue). x.all) kept.1 ∙ c.requires.aligned ∙ sym (ap (λ (l : LedgerValue _). batches l.history) kept.0);
      carries = carries_nothing d.content d.moment d.images d.images_since d.faults g.C.Clock.may old.ledger old.copies old.clock c.args.asked.line c.args.asked.bytes (write_view c.args.asked.request.now)
          new.ledger new.copies new.clock (ap (λ (l : LedgerValue _). l.history) kept.0) (ap (λ (l : LedgerValue _). l.doubt) kept.0) (ap (λ (x : CopiesValue). x.shown) kept.1) (ap (λ (x : CopiesValue). x.table) kept.1)
          c.end_doubt.ensures.clock c.end_doubt.ensures.backs;
    }
