use Rattle.std.proofs.Common.{sym, ap, ◌∙◌}
use Rattle.gd_runs.specs.Legal.{batches}
use Rattle.gd_writer.specs.Parts.{LedgerValue}
use Rattle.gd_writer.proofs.Histories.{batches_is}
use Rattle.gd_writer.proofs.ledger.Ledger.store.Goals as goal

pub returns : goal.returns
returns g c =
    let s = c.self.inside in
    c.store.ensures ∙ sym (batches_is s.loaded s.entries.items s.held.batches c.self.invariant.count) ∙ ap (λ (l : LedgerValue _). batches l.history) c.self.view_is
