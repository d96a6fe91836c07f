use Rattle.std.proofs.Common.{ap}
use Rattle.gd_writer.specs.Parts.{LedgerValue, CopiesValue}
use Rattle.gd_writer.proofs.Started.{side_begins}
use Rattle.gd_writer.proofs.side.WriteSide.over.Goals as goal

pub invariant_of-result : goal.invariant_of-result
invariant_of-result g c =
    side_begins g.C.Clock.may c.new-ledger.result c.in-Ok.copies c.args.clock c.new-outcomes.result.items c.args.store
    (ap (λ (l : LedgerValue _). l.history) c.new-ledger.ensures) (ap (λ (l : LedgerValue _). l.doubt) c.new-ledger.ensures)
    (ap (λ (x : CopiesValue). x.shown) c.in-Ok.ensures.copies) (ap (λ (x : CopiesValue). x.all) c.in-Ok.ensures.copies)
    (ap (λ r. r.items) c.new-outcomes.ensures) c.requests-requests.ensures.history
