use Rattle.std.proofs.Common.{◌≡◌, ◌+◌, ◌++◌, ◌∷◌, [], ℕ, List, Option, None, Some, option_map, sym, ap, subst, ◌∙◌, length, arith, Err, length-append}
use Rattle.gd_prim.specs.declared.Batch.{Batch}
use Rattle.gd_log.specs.Stored.{Holds, MayAppend, doubt_after}
use Rattle.gd_runs.specs.Legal.{Entry, batches, history_bytes}
use Rattle.gd_writer.specs.declared.made.Made.{Made}
use Rattle.gd_writer.specs.declared.entry.Entry.{Entry as Kept}
use Rattle.gd_writer.specs.Entries.{entry_view}
use Rattle.gd_writer.specs.Parts.{LedgerValue, RoomyValue, IsLedger, Backs, group_of}
use Rattle.gd_writer.proofs.Histories.{batches_is}
use Rattle.gd_writer.proofs.Kept.{ledger_value, ledger_more, ledger_same, ledger_backs, ledger_grown, holds_group, doubted, not_doubted, done_undoubted, ready_some}
use Rattle.gd_writer.proofs.ledger.Ledger.append.Goals as goal

abbrev doubt_of : Option Made → Option Entry
doubt_of o = option_map (λ (x : Made). entry_view x.entry x.batch) o

pub append-requires-clause-may : goal.append-requires-clause-may
append-requires-clause-may g c =
    let s = c.self.inside in
    subst (λ (bs : List Batch). MayAppend bs c.from_ref.result.now) (sym (ap (λ (l : LedgerValue _). batches l.history) c.self.view_is) ∙ batches_is s.loaded s.entries.items s.held.batches c.self.invariant.count)
    (subst (MayAppend (batches c.args.self.now.history)) (sym c.from_ref.ensures.value) c.requires.may)

pub invariant_of-self : goal.invariant_of-self
invariant_of-self g c =
    let d = g.D.Disk in
    let s = c.self.inside in
    let made = c.args.made in
    let now = c.append.new.self in
    let none : doubt_of s.doubt ≡ None = ap (λ (l : LedgerValue _). l.doubt) c.self.view_is ∙ c.requires.no_doubt in
    let bytes = c.self.invariant.bytes in
    let same_bytes = ap (λ (l : LedgerValue _). history_bytes l.history) c.self.view_is in
    let fits = c.requires.bytes in
    subst (λ (o : Option Entry). IsLedger d.content d.images now s.loaded c.enter.new.entries.items c.enter.new.kept o) (sym none)
    (subst (λ (k : ℕ). IsLedger d.content d.images now s.loaded c.enter.new.entries.items k None) (sym c.enter.ensures.kept)
    (subst (λ (es : List Kept). IsLedger d.content d.images now s.loaded es (s.kept + made.kept) None) (sym (ap (λ (r : RoomyValue Kept). r.items) c.enter.ensures.entries))
    (ledger_more d.content d.images s.held now s.loaded s.entries.items s.kept made.kept (doubt_of s.doubt) made.entry made.batch c.self.invariant
    (omega (arith, bytes, same_bytes, fits)) made.counted (c.in-Ok.ensures.batches ∙ ap (λ (bs : List Batch). s.held.batches ++ bs) c.from_ref.ensures.value)
    (done_undoubted now.log.doubt c.in-Ok.ensures.doubt)
    (λ tells. c.in-Ok.ensures.holds (holds_group d.content d.images s.held s.loaded s.entries.items s.kept (doubt_of s.doubt) None c.self.invariant (ap group_of none) (sym c.append.ensures.told ∙ tells))))))

pub returns-in-Ok-clause-appends : goal.returns-in-Ok-clause-appends
returns-in-Ok-clause-appends g c =
    let s = c.self.inside in
    let made = c.args.made in
    let now = c.append.new.self in
    let none : doubt_of s.doubt ≡ None = ap (λ (l : LedgerValue _). l.doubt) c.self.view_is ∙ c.requires.no_doubt in (
      c.enter.ensures.batch,
      ledger_grown s.held now s.loaded s.entries.items c.enter.new.entries.items s.entries.spare c.enter.new.entries.spare (doubt_of s.doubt) (doubt_of s.doubt) made.entry made.batch c.args.self.now c.self.view_is
          c.self.invariant.count (ap (λ (r : RoomyValue Kept). r.items) c.enter.ensures.entries) (c.in-Ok.ensures.batches ∙ ap (λ (bs : List Batch). s.held.batches ++ bs) c.from_ref.ensures.value)
          (ap (λ (r : RoomyValue Kept). r.spare) c.enter.ensures.entries) none,
    )

pub returns-in-Ok-clause-backs : goal.returns-in-Ok-clause-backs
returns-in-Ok-clause-backs g c =
    let d = g.D.Disk in
    let s = c.self.inside in
    let made = c.args.made in
    let now = c.append.new.self in
    let none : doubt_of s.doubt ≡ None = ap (λ (l : LedgerValue _). l.doubt) c.self.view_is ∙ c.requires.no_doubt in
    let count = c.self.invariant.count in
    let one = length-append s.entries.items (made.entry ∷ []) in
    let fs = ap (λ (r : RoomyValue Kept). length r.items) c.enter.ensures.entries in
    let two = length-append s.held.batches (made.batch ∷ []) in
    let grown = ap length (c.in-Ok.ensures.batches ∙ ap (λ (bs : List Batch). s.held.batches ++ bs) c.from_ref.ensures.value) in
    subst (λ (l : LedgerValue _). Backs d.content d.moment d.images d.images_since d.faults l (ledger_value now s.loaded c.enter.new.entries.items c.enter.new.entries.spare (doubt_of s.doubt))) c.self.view_is
    (ledger_backs d.content d.moment d.images d.images_since d.faults s.held now s.loaded s.entries.items c.enter.new.entries.items s.entries.spare c.enter.new.entries.spare (doubt_of s.doubt) (doubt_of s.doubt) None None
    count (omega (arith, count, one, fs, two, grown)) (ap group_of none) (ap group_of none)
    (holds_group d.content d.images s.held s.loaded s.entries.items s.kept (doubt_of s.doubt) None c.self.invariant (ap group_of none))
    c.in-Ok.ensures.moments c.append.ensures.told c.append.ensures.later)

pub invariant_of-self-then-in_doubt : goal.invariant_of-self-then-in_doubt
invariant_of-self-then-in_doubt g c =
    let d = g.D.Disk in
    let s = c.self.inside in
    let made = c.args.made in
    let now = c.append.new.self in
    let e : Entry = entry_view made.entry made.batch in
    let more = c.from_ref.result.now in
    let none : doubt_of s.doubt ≡ None = ap (λ (l : LedgerValue _). l.doubt) c.self.view_is ∙ c.requires.no_doubt in
    let bytes = c.self.invariant.bytes in
    let same_bytes = ap (λ (l : LedgerValue _). history_bytes l.history) c.self.view_is in
    let fits = c.requires.bytes in
    let counted = made.counted in
    ledger_same d.content d.images s.held now s.loaded s.entries.items s.kept (doubt_of s.doubt) (Some e) c.self.invariant c.in-Err.ensures.batches
    (ready_some s.held.batches s.kept now.log.doubt e (sym c.in_doubt.ensures ∙ c.if-in_doubt.true) (record {
      may = subst (λ (bs : List Batch). MayAppend bs (made.batch ∷ [])) (sym (ap (λ (l : LedgerValue _). batches l.history) c.self.view_is) ∙ batches_is s.loaded s.entries.items s.held.batches c.self.invariant.count) c.requires.may;
      room = omega (arith, bytes, same_bytes, fits, counted);
    }))
    (λ tells. subst (Holds (d.content now.log.disk) (d.images now.log.disk) now.log.gate now.log.doubt now.batches)
    (doubted now.log.doubt c.in_doubt.result c.in-Err.fault more c.if-in_doubt.true c.in_doubt.ensures c.in-Err.ensures.doubt ∙ ap (λ (l : List Batch). Some l) c.from_ref.ensures.value)
    (c.in-Err.ensures.holds (holds_group d.content d.images s.held s.loaded s.entries.items s.kept (doubt_of s.doubt) None c.self.invariant (ap group_of none) (sym c.append.ensures.told ∙ tells))))

pub returns-then-in_doubt-clause-backs : goal.returns-then-in_doubt-clause-backs
returns-then-in_doubt-clause-backs g c =
    let d = g.D.Disk in
    let s = c.self.inside in
    let made = c.args.made in
    let now = c.append.new.self in
    let e : Entry = entry_view made.entry made.batch in
    let more = c.from_ref.result.now in
    let none : doubt_of s.doubt ≡ None = ap (λ (l : LedgerValue _). l.doubt) c.self.view_is ∙ c.requires.no_doubt in
    subst (λ (l : LedgerValue _). Backs d.content d.moment d.images d.images_since d.faults l (ledger_value now s.loaded s.entries.items s.entries.spare (Some e))) c.self.view_is
    (ledger_backs d.content d.moment d.images d.images_since d.faults s.held now s.loaded s.entries.items s.entries.items s.entries.spare s.entries.spare (doubt_of s.doubt) (Some e) None (doubt_after (Err c.in-Err.fault) more)
    c.self.invariant.count (c.self.invariant.count ∙ sym (ap length c.in-Err.ensures.batches)) (ap group_of none)
    (sym (doubted now.log.doubt c.in_doubt.result c.in-Err.fault more c.if-in_doubt.true c.in_doubt.ensures c.in-Err.ensures.doubt ∙ ap (λ (l : List Batch). Some l) c.from_ref.ensures.value))
    (holds_group d.content d.images s.held s.loaded s.entries.items s.kept (doubt_of s.doubt) None c.self.invariant (ap group_of none))
    c.in-Err.ensures.moments c.append.ensures.told c.append.ensures.later)

pub returns-else-in_doubt-clause-backs : goal.returns-else-in_doubt-clause-backs
returns-else-in_doubt-clause-backs g c =
    let d = g.D.Disk in
    let s = c.self.inside in
    let now = c.append.new.self in
    let more = c.from_ref.result.now in
    let none : doubt_of s.doubt ≡ None = ap (λ (l : LedgerValue _). l.doubt) c.self.view_is ∙ c.requires.no_doubt in
    subst (λ (l : LedgerValue _). Backs d.content d.moment d.images d.images_since d.faults l (ledger_value now s.loaded s.entries.items s.entries.spare (doubt_of s.doubt))) c.self.view_is
    (ledger_backs d.content d.moment d.images d.images_since d.faults s.held now s.loaded s.entries.items s.entries.items s.entries.spare s.entries.spare (doubt_of s.doubt) (doubt_of s.doubt) None (doubt_after (Err c.in-Err.fault) more)
    c.self.invariant.count (c.self.invariant.count ∙ sym (ap length c.in-Err.ensures.batches)) (ap group_of none)
    (ap group_of none ∙ sym (not_doubted now.log.doubt c.in_doubt.result c.in-Err.fault more c.if-in_doubt.false c.in_doubt.ensures c.in-Err.ensures.doubt))
    (holds_group d.content d.images s.held s.loaded s.entries.items s.kept (doubt_of s.doubt) None c.self.invariant (ap group_of none))
    c.in-Err.ensures.moments c.append.ensures.told c.append.ensures.later)
