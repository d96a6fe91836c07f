-- What a step of a ledger leaves of its disk.
use Rattle.std.proofs.Common.{◌≡◌, ◌≤◌, ◌⊎◌, ℕ, List, [], ◌∷◌, Option, Some, None, refl, sym, ap, subst, ◌∙◌, inl, inr, ⊎_elim, arith}
use Rattle.std.specs.Option.{is_some}
use Rattle.gd_prim.specs.declared.Batch.{Batch}
use Rattle.gd_bytes.specs.Disk.{LeavesOnly}
use Rattle.gd_bytes.specs.File.{StandsFor, MayStandFor}
use Rattle.gd_disk.specs.Runs.{leaves_start, leaves_join, leaves_weaken}
use Rattle.gd_journal.specs.State.{Journaled}
use Rattle.gd_log.specs.Stored.{Holds, groups_in_doubt}
use Rattle.gd_runs.specs.Legal.{Entry, batches, with_entry}
use Rattle.gd_runs.specs.Side.{doubt_groups}
use Rattle.gd_runs.proofs.Rounds.{batches_more}
use Rattle.gd_writer.specs.Parts.{LedgerValue, StandsForLedger, Tells, Backs, EndsAs, group_of}

-- what a stop leaves of the disk of a log stands for its batches
stands : (content : Option (List ℕ)) (images : List ℕ → Type 0) (gate : ℕ) (next : Option ℕ) (bs : List Batch) (p : Option (List Batch)) → Holds content images gate next bs p → (c : List ℕ) → images c → MayStandFor bs (groups_in_doubt p) c
stands content images gate None bs None held c now = held.means c now
stands content images gate (Some next) bs (Some more) held c now = held.means c now
stands content images gate None bs (Some more) held c now = absurd held
stands content images gate (Some next) bs None held c now = absurd held

-- the groups in doubt are that of the entry
groups_same : (o : Option Entry) → groups_in_doubt (group_of o) ≡ doubt_groups o
groups_same None = refl
groups_same (Some e) = refl

-- bytes that stand for these batches and groups stand for a ledger of them
stands_for : {D : Type 0} (l : LedgerValue D) (bs : List Batch) (p : Option (List Batch)) → batches l.history ≡ bs → group_of l.doubt ≡ p → (c : List ℕ) → MayStandFor bs (groups_in_doubt p) c → StandsForLedger l c
stands_for l bs p is group c now =
    subst (λ (gs : List (List Batch)). MayStandFor (batches l.history) gs c) (ap groups_in_doubt (sym group) ∙ groups_same l.doubt)
    (subst (λ (xs : List Batch). MayStandFor xs (groups_in_doubt p) c) (sym is) now)

-- where a doubt ended, what stands for what is there then stood for what was there
pub settled_stands : {D : Type 0} (old new : LedgerValue D) (gave : Option Batch) → EndsAs old new gave → (c : List ℕ) → StandsForLedger new c → StandsForLedger old c
settled_stands old new None ends c now = by old.doubt (subst (λ l. StandsForLedger l c) ends now)
  where
    by : (d : Option Entry) → StandsFor c (batches old.history) → MayStandFor (batches old.history) (doubt_groups d) c
    by None at = at
    by (Some e) at = inl at
settled_stands old new (Some batch) (e, some, same, is) c now =
    let at : StandsFor c (batches (with_entry old.history e)) = subst (λ l. StandsForLedger l c) is now in
    subst (λ (d : Option Entry). MayStandFor (batches old.history) (doubt_groups d) c) (sym some) (inr (subst (StandsFor c) (batches_more old.history (e ∷ [])) at))

module _ {D : Type 0} (content : D → Option (List ℕ)) (moment : D → ℕ) (images : D → List ℕ → Type 0) (images_since : D → ℕ → List ℕ → Type 0) (faults : D → ℕ) where
  abbrev HoldsLog : Journaled D → List Batch → Option (List Batch) → Type 0
  HoldsLog log bs p = Holds (content log.disk) (images log.disk) log.gate log.doubt bs p

  -- what a disk holds stands for the ledger
  pub ledger_stands : (l : LedgerValue D) (bs : List Batch) (p : Option (List Batch)) → batches l.history ≡ bs → group_of l.doubt ≡ p → HoldsLog l.log bs p → (c : List ℕ) → images l.log.disk c → StandsForLedger l c
  ledger_stands l bs p is group held c now = stands_for l bs p is group c (stands (content l.log.disk) (images l.log.disk) l.log.gate l.log.doubt bs p held c now)

  -- a step that changes nothing
  pub backs_nothing : ((disk : D) (c : List ℕ) → images_since disk (moment disk) c → images disk c) → (l : LedgerValue D) → (Tells (content l.log.disk) → (c : List ℕ) → images l.log.disk c → StandsForLedger l c)
      → Backs content moment images images_since faults l l
  backs_nothing only l stand = record {
    told = refl;
    moments = λ tells. leaves_start moment images images_since l.log.disk (λ c. StandsForLedger l c ⊎ StandsForLedger l c) (only l.log.disk) (λ c now. inl (stand tells c now));
    later = omega arith;
  }

  -- a step of the log and the store, by its parts
  pub backs_by : (old new : LedgerValue D) (bs cs : List Batch) (p n : Option (List Batch)) → batches old.history ≡ bs → batches new.history ≡ cs → group_of old.doubt ≡ p → group_of new.doubt ≡ n
      → (Tells (content old.log.disk) → HoldsLog old.log bs p)
      → (HoldsLog old.log bs p → LeavesOnly moment images images_since old.log.disk new.log.disk (λ file. MayStandFor bs (groups_in_doubt p) file ⊎ MayStandFor cs (groups_in_doubt n) file))
      → is_some (content new.log.disk) ≡ is_some (content old.log.disk) → faults old.log.disk ≤ faults new.log.disk
      → Backs content moment images images_since faults old new
  backs_by old new bs cs p n was is group more holds moments told later = record {
    told = told;
    moments = λ tells. leaves_weaken old.log.disk new.log.disk (λ file. MayStandFor bs (groups_in_doubt p) file ⊎ MayStandFor cs (groups_in_doubt n) file) (λ file. StandsForLedger old file ⊎ StandsForLedger new file)
        (λ c. ⊎_elim (λ a. inl (stands_for old bs p was group c a)) (λ b. inr (stands_for new cs n is more c b))) (moments (holds tells));
    later = later;
  }

  -- two steps, of which the first ends a doubt
  pub backs_then : (a b c : LedgerValue D) → ((file : List ℕ) → StandsForLedger b file → StandsForLedger a file) → Backs content moment images images_since faults a b → Backs content moment images images_since faults b c
      → Backs content moment images images_since faults a c
  backs_then a b c to first second = record {
    told = second.told ∙ first.told;
    moments = λ tells. leaves_join a.log.disk b.log.disk c.log.disk (λ file. StandsForLedger a file ⊎ StandsForLedger c file)
        (leaves_weaken a.log.disk b.log.disk (λ file. StandsForLedger a file ⊎ StandsForLedger b file) (λ file. StandsForLedger a file ⊎ StandsForLedger c file) (λ file. ⊎_elim (λ x. inl x) (λ y. inl (to file y))) (first.moments tells))
        (leaves_weaken b.log.disk c.log.disk (λ file. StandsForLedger b file ⊎ StandsForLedger c file) (λ file. StandsForLedger a file ⊎ StandsForLedger c file) (λ file. ⊎_elim (λ y. inl (to file y)) (λ z. inr z)) (second.moments (first.told ∙ tells)));
    later = omega (arith, first.later, second.later);
  }
