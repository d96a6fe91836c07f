use Rattle.std.proofs.Common.{sym, subst, ap, refl, ◌∙◌, List, Option, option_map, length, IsTrue}
use Rattle.gd_prim.specs.declared.Batch.{Batch}
use Rattle.gd_prim.specs.History.{is_history}
use Rattle.gd_runs.specs.Legal.{Entry, batches, size}
use Rattle.gd_writer.specs.declared.made.Made.{Made}
use Rattle.gd_writer.specs.Entries.{entry_view, history_of}
use Rattle.gd_writer.specs.Parts.{LedgerValue, StandsForLedger, Tells, group_of}
use Rattle.gd_writer.proofs.Histories.{batches_is, size_is}
use Rattle.gd_writer.proofs.Backed.{ledger_stands}
use Rattle.gd_writer.proofs.ledger.Ledger.requests.Goals as goal

pub returns-clause-count : goal.returns-clause-count
returns-clause-count g c =
    let s = c.self.inside in
    c.requests.ensures.count ∙ ap length c.store.ensures ∙ sym (size_is s.loaded s.entries.items s.held.batches c.self.invariant.count) ∙ ap (λ (l : LedgerValue _). size l.history) c.self.view_is

pub returns-clause-history : goal.returns-clause-history
returns-clause-history g c =
    let s = c.self.inside in
    subst (λ (bs : List Batch). IsTrue (is_history bs))
    (c.store.ensures ∙ sym (batches_is s.loaded s.entries.items s.held.batches c.self.invariant.count) ∙ ap (λ (l : LedgerValue _). batches l.history) c.self.view_is)
    c.requests.ensures.history

pub returns-clause-holds : goal.returns-clause-holds
returns-clause-holds g c =
    let d = g.D.Disk in
    let s = c.self.inside in
    let doubt : Option Entry = option_map (λ (x : Made). entry_view x.entry x.batch) s.doubt in
    let ledger : LedgerValue _ = record { history = history_of s.loaded s.entries.items s.held.batches; doubt = doubt; log = s.held.log; spare = s.entries.spare } in
    subst (λ (l : LedgerValue _). Tells (d.content l.log.disk) → (file : List _) → d.images l.log.disk file → StandsForLedger l file) c.self.view_is
    (λ tells file now. ledger_stands d.content d.moment d.images d.images_since d.faults ledger s.held.batches (group_of doubt) (batches_is s.loaded s.entries.items s.held.batches c.self.invariant.count) refl (c.self.invariant.holds tells) file now)
