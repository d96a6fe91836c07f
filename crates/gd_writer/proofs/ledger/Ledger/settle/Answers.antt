use Rattle.std.proofs.Common.{◌≡◌, ◌∷◌, ◌++◌, [], List, Some, refl, sym, ap, subst, ◌∙◌}
use Rattle.gd_runs.proofs.Rounds.{some_same}
use Rattle.gd_writer.specs.declared.made.Made.{Made}
use Rattle.gd_writer.specs.declared.entry.Entry.{Entry}
use Rattle.gd_writer.specs.Parts.{LedgerValue, RoomyValue, Tells, StandsForLedger, group_of}
use Rattle.gd_writer.proofs.Histories.{batches_is}
use Rattle.gd_writer.proofs.Backed.{backs_nothing, ledger_stands}
use Rattle.gd_writer.proofs.Kept.{ledger_value}
use Rattle.gd_writer.proofs.Settled.{doubt_of, chosen, not_chosen, ledger_counted, ends_counted, backs_as_before, backs_counted}
use Rattle.gd_writer.proofs.ledger.Ledger.settle.Goals as goal

pub returns-in_default-clause-backs : goal.returns-in_default-clause-backs
returns-in_default-clause-backs g c =
    let d = g.D.Disk in
    let s = c.self.inside in
    let l : LedgerValue _ = ledger_value s.held s.loaded s.entries.items s.entries.spare (doubt_of s.doubt) in
    backs_nothing d.content d.moment d.images d.images_since d.faults g.met.D.Disk.only_now c.args.self.now
    (subst (λ (x : LedgerValue _). Tells (d.content x.log.disk) → (file : List _) → d.images x.log.disk file → StandsForLedger x file) c.self.view_is
    (λ tells file now. ledger_stands d.content d.moment d.images d.images_since d.faults l s.held.batches (group_of (doubt_of s.doubt)) (batches_is s.loaded s.entries.items s.held.batches c.self.invariant.count) refl (c.self.invariant.holds tells) file now))

pub returns-in_err-counts-clause-backs : goal.returns-in_err-counts-clause-backs
returns-in_err-counts-clause-backs g c =
    let d = g.D.Disk in
    let s = c.self.inside in
    backs_as_before d.content d.moment d.images d.images_since d.faults s.held c.settle.new.self s.loaded s.entries.items s.kept s.doubt c.in-Some.made c.in-Some.is c.self.invariant
    c.from_ref.result.now c.from_ref.ensures.value c.settle.ensures.moments c.settle.ensures.told c.settle.ensures.later s.entries.spare s.entries.spare c.args.self.now c.self.view_is
    (doubt_of s.doubt) c.in_err-counts.ensures.batches

pub returns-then-not-counts-clause-backs : goal.returns-then-not-counts-clause-backs
returns-then-not-counts-clause-backs g c =
    let d = g.D.Disk in
    let s = c.self.inside in
    let now = c.settle.new.self in
    let group = c.from_ref.result.now in
    backs_as_before d.content d.moment d.images d.images_since d.faults s.held now s.loaded s.entries.items s.kept s.doubt c.in-Some.made c.in-Some.is c.self.invariant
    group c.from_ref.ensures.value c.settle.ensures.moments c.settle.ensures.told c.settle.ensures.later s.entries.spare s.entries.spare c.args.self.now c.self.view_is
    (doubt_of c.take-ended.new.self) (not_chosen c.in_ok-counts.counts (s.held.batches ++ group) s.held.batches now.batches c.if-not-counts.true c.in_ok-counts.ensures.batches)

pub invariant_of-self-in-Some-ended : goal.invariant_of-self-in-Some-ended
invariant_of-self-in-Some-ended g c =
    let d = g.D.Disk in
    let s = c.self.inside in
    let now = c.settle.new.self in
    let group = c.from_ref.result.now in
    let made = c.in-Some-ended.made in
    let some : s.doubt ≡ Some made = sym c.take-ended.ensures.value ∙ c.in-Some-ended.is in
    let same : c.in-Some.made ≡ made = some_same (sym c.in-Some.is ∙ some) in
    ledger_counted d.content d.images s.held now s.loaded s.entries.items s.kept s.doubt made some c.self.invariant group c.enter.new.entries.items c.enter.new.kept (doubt_of c.take-ended.new.self)
    (c.from_ref.ensures.value ∙ ap (λ (m : Made). m.batch ∷ []) same) (chosen c.in_ok-counts.counts (s.held.batches ++ group) s.held.batches now.batches c.if-not-counts.false c.in_ok-counts.ensures.batches)
    c.in_ok-counts.ensures.ended (ap (λ (r : RoomyValue Entry). r.items) c.enter.ensures.entries) c.enter.ensures.kept (ap doubt_of c.take-ended.ensures.after) c.settle.ensures.told c.in_ok-counts.ensures.holds

pub returns-clause-ends : goal.returns-clause-ends
returns-clause-ends g c =
    let s = c.self.inside in
    let now = c.settle.new.self in
    let group = c.from_ref.result.now in
    let made = c.in-Some-ended.made in
    let some : s.doubt ≡ Some made = sym c.take-ended.ensures.value ∙ c.in-Some-ended.is in
    let same : c.in-Some.made ≡ made = some_same (sym c.in-Some.is ∙ some) in
    ends_counted s.held now s.loaded s.entries.items c.enter.new.entries.items s.entries.spare c.enter.new.entries.spare s.doubt made (doubt_of c.take-ended.new.self) group c.enter.result c.args.self.now c.self.view_is some
    c.self.invariant.count (c.from_ref.ensures.value ∙ ap (λ (m : Made). m.batch ∷ []) same)
    (chosen c.in_ok-counts.counts (s.held.batches ++ group) s.held.batches now.batches c.if-not-counts.false c.in_ok-counts.ensures.batches)
    (ap (λ (r : RoomyValue Entry). r.items) c.enter.ensures.entries) (ap (λ (r : RoomyValue Entry). r.spare) c.enter.ensures.entries) (ap doubt_of c.take-ended.ensures.after) c.enter.ensures.batch

pub returns-clause-backs : goal.returns-clause-backs
returns-clause-backs g c =
    let d = g.D.Disk in
    let s = c.self.inside in
    let now = c.settle.new.self in
    let group = c.from_ref.result.now in
    let made = c.in-Some-ended.made in
    let some : s.doubt ≡ Some made = sym c.take-ended.ensures.value ∙ c.in-Some-ended.is in
    let same : c.in-Some.made ≡ made = some_same (sym c.in-Some.is ∙ some) in
    backs_counted d.content d.moment d.images d.images_since d.faults s.held now s.loaded s.entries.items s.kept s.doubt made some c.self.invariant
    group (c.from_ref.ensures.value ∙ ap (λ (m : Made). m.batch ∷ []) same) c.settle.ensures.moments c.settle.ensures.told c.settle.ensures.later s.entries.spare c.enter.new.entries.spare c.args.self.now c.self.view_is
    c.enter.new.entries.items (doubt_of c.take-ended.new.self)
    (chosen c.in_ok-counts.counts (s.held.batches ++ group) s.held.batches now.batches c.if-not-counts.false c.in_ok-counts.ensures.batches)
    (ap (λ (r : RoomyValue Entry). r.items) c.enter.ensures.entries)
