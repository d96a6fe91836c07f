-- What a write line comes to, with what goes on beside it.
use Rattle.std.proofs.Common.{◌≡◌, refl, ℕ, ◌+◌, ◌≤◌, ◌⊎◌, Bool, true, false, List, [], ◌∷◌, ◌++◌, length, Option, None, Some, Ok, Err, sym, subst, ap, ◌∙◌, arith}
use Rattle.std.specs.Option.{is_some}
use Rattle.std.specs.Global.{Vec}
use Rattle.core.specs.declared.snapshot.Snapshot.{Snapshot}
use Rattle.gd_base.specs.Counts.{Rose}
use Rattle.gd_prim.specs.declared.Batch.{Batch}
use Rattle.gd_json.specs.View.{view}
use Rattle.gd_defs.specs.Lines.{ok_line, err_line}
use Rattle.gd_defs.specs.Write.{WriteRequest}
use Rattle.gd_bytes.specs.Disk.{LeavesOnly}
use Rattle.gd_journal.specs.Causes.{HasReason}
use Rattle.gd_journal.specs.declared.fault.JournalFault.{JournalFault}
use Rattle.gd_journal.specs.declared.fault.JournalFault.TheVariants.{DiskFault, NotStore, Damaged, Memory}
use Rattle.gd_change.specs.Fault.{fault_of}
use Rattle.gd_change.specs.PassedOn.{ChangeFault}
use Rattle.gd_runs.specs.Request.{change_refusal}
use Rattle.gd_runs.specs.Legal.{Entry, size, exec_line}
use Rattle.gd_runs.specs.Core.{State, Session, Settles}
use Rattle.gd_runs.specs.Explained.{MayBe}
use Rattle.gd_runs.specs.Side.{WriteKeeps, is_fault, leaves_doubt, lacks_memory}
use Rattle.gd_writer.specs.declared.judge.Next.{Next}
use Rattle.gd_writer.specs.declared.outcome.Outcome.{Outcome}
use Rattle.gd_writer.specs.declared.outcome.Outcome.TheVariants as outcome
use Rattle.gd_writer.specs.Entries.{entry_view}
use Rattle.gd_writer.specs.Outcomes.{kept_view, IsTold, IsRefusedNow}
use Rattle.gd_writer.specs.Judged.{IsStorable}
use Rattle.gd_writer.specs.Parts.{LedgerValue, CopiesValue, Backs, AppendsAs, StandsForLedger, Tells}
use Rattle.gd_writer.specs.Carried.{IsAligned, desk_state, GoesAlong, Carries, Changes, failed_as}
use Rattle.gd_writer.proofs.Backed.{backs_nothing, backs_then}
use Rattle.gd_writer.proofs.Carried.{step_refused, step_memory, step_stored, step_late, step_doubt}
use Rattle.gd_writer.proofs.Ended.{grown_size, settles_stand}
use Rattle.gd_writer.proofs.Steps.{states}
use Rattle.gd_writer.proofs.Told.{no_sessions}

-- what there is
some_of : (o : Option Entry) → is_some o ≡ true → (e : Entry) × (o ≡ Some e)
some_of None some = cc
some_of (Some e) some = (e, refl)

module _ {D C : Type 0} (content : D → Option (List ℕ)) (moment : D → ℕ) (images : D → List ℕ → Type 0) (images_since : D → ℕ → List ℕ → Type 0) (faults : D → ℕ) (may : C → ℕ → Bool) where
  abbrev Along : LedgerValue D → CopiesValue → C → ℕ → LedgerValue D → CopiesValue → C → Outcome → Type 0
  Along ledger copies clock line after shows ticks outcome = GoesAlong content moment images images_since faults may ledger copies clock line after shows ticks outcome

  abbrev BacksNow : LedgerValue D → LedgerValue D → Type 0
  BacksNow old new = Backs content moment images images_since faults old new

  abbrev Stand : LedgerValue D → Type 0
  Stand l = Tells (content l.log.disk) → (file : List ℕ) → images l.log.disk file → StandsForLedger l file

  -- a step that tells no failure
  pub along_quiet : (ledger : LedgerValue D) (copies : CopiesValue) (clock : C) (line : ℕ) (after : LedgerValue D) (shows : CopiesValue) (ticks : C) (o : Outcome) → IsTold line o → is_fault (kept_view o) ≡ false → shows.table ≡ copies.table
      → may ticks ≡ may clock → BacksNow ledger after → Along ledger copies clock line after shows ticks o
  along_quiet ledger copies clock line after shows ticks o told quiet table ticking backs = record { told = told; fault = λ is. let no : false ≡ true = sym quiet ∙ is in cc; table = table; ticking = ticking; backs = backs }

  -- one of which only what it was asked over was read
  along_nothing : ((disk : D) (c : List ℕ) → images_since disk (moment disk) c → images disk c) → (ledger : LedgerValue D) (copies : CopiesValue) (clock ticks : C) (line : ℕ) (o : Outcome) → Stand ledger → IsTold line o → is_fault (kept_view o) ≡ false
      → may ticks ≡ may clock → Along ledger copies clock line ledger copies ticks o
  along_nothing only ledger copies clock ticks line o stand told quiet ticking =
      along_quiet ledger copies clock line ledger copies ticks o told quiet refl ticking (backs_nothing content moment images images_since faults only ledger stand)

  module _ (ledger : LedgerValue D) (copies : CopiesValue) (clock : C) (line bytes : ℕ) (w : WriteRequest) where
    abbrev ChangesTo : LedgerValue D → CopiesValue → C → Outcome → Type 0
    ChangesTo after shows ticks o = Changes content moment images images_since faults may ledger copies clock line bytes w after shows ticks o

    -- the clock went on before
    pub changes_ticked : (was : C) (after : LedgerValue D) (shows : CopiesValue) (ticks : C) (o : Outcome) → may clock ≡ may was → ChangesTo after shows ticks o
        → Changes content moment images images_since faults may ledger copies was line bytes w after shows ticks o
    changes_ticked was after shows ticks o same changes = record {
      step = λ s ends. subst (λ (m : ℕ → Bool). WriteKeeps m s line bytes w (kept_view o) (desk_state after shows s.sessions)) same (changes.step s ends);
      refusal = subst (λ (m : ℕ → Bool). IsRefusedNow m after.history bytes w (kept_view o)) same changes.refusal;
      along = record { told = changes.along.told; fault = changes.along.fault; table = changes.along.table; ticking = changes.along.ticking ∙ same; backs = changes.along.backs };
    }

    module _ (none : ledger.doubt ≡ None) where
      -- it is refused
      pub changes_refused : ((disk : D) (c : List ℕ) → images_since disk (moment disk) c → images disk c) → Stand ledger → (ticks : C) → may ticks ≡ may clock → (at : ℕ) → at ≡ size ledger.history → (m : ℕ) → MayBe (may clock) m → (f : Snapshot ChangeFault) (reply : Vec ℕ)
          → exec_line ledger.history w m bytes ≡ Err (fault_of f.value) → reply.items ≡ err_line (size ledger.history) line (change_refusal (fault_of f.value)) → ChangesTo ledger copies ticks (outcome.Refused f at reply)
      changes_refused only stand ticks ticking at is m given f reply does says = record {
        step = step_refused (may clock) ledger.history (length copies.shown) ledger.doubt none line bytes w m (fault_of f.value) at does is;
        refusal = (m, given, does);
        along = along_nothing only ledger copies clock ticks line (outcome.Refused f at reply) stand (says ∙ ap (λ (k : ℕ). err_line k line (change_refusal (fault_of f.value))) (sym is)) refl ticking;
      }

      -- no memory was found for it
      pub changes_memory : (ticks : C) (after : LedgerValue D) → may ticks ≡ may clock → after.history ≡ ledger.history → after.doubt ≡ ledger.doubt → BacksNow ledger after → ChangesTo after copies ticks outcome.Memory
      changes_memory ticks after ticking history doubt backs = record {
        step = step_memory (may clock) ledger.history (length copies.shown) ledger.doubt none line bytes w after.history (length copies.shown) after.doubt history refl doubt;
        refusal = tt;
        along = along_quiet ledger copies clock line after copies ticks outcome.Memory tt refl refl ticking backs;
      }

      -- the same, where nothing was changed
      pub changes_untouched : ((disk : D) (c : List ℕ) → images_since disk (moment disk) c → images disk c) → Stand ledger → (ticks : C) → may ticks ≡ may clock → ChangesTo ledger copies ticks outcome.Memory
      changes_untouched only stand ticks ticking = changes_memory ticks ledger ticking refl refl (backs_nothing content moment images images_since faults only ledger stand)

      module _ (m : ℕ) (next : Next) (can : IsStorable ledger.history line bytes w m next) (given : MayBe (may clock) m) (at : ℕ) (is : at ≡ size ledger.history) (after : LedgerValue D) (backs : BacksNow ledger after) where
        -- it is stored, and shown with all others
        pub changes_stored : (batch : Batch) (shows : CopiesValue) → AppendsAs (Ok batch) ledger (entry_view next.made.entry next.made.batch) after → IsAligned ledger copies → shows.shown ≡ copies.all ++ batch ∷ [] → shows.table ≡ copies.table
            → ChangesTo after shows clock (outcome.Stored at next.answer next.reply)
        changes_stored batch shows (same, is_after) aligned shown table = record {
          step = step_stored (may clock) ledger.history (length copies.shown) ledger.doubt none line bytes w m next can given at is after.history (length shows.shown) after.doubt
              (ap (λ (l : LedgerValue D). l.history) is_after) (grown_size copies.all shows.shown ledger.history batch aligned shown) (ap (λ (l : LedgerValue D). l.doubt) is_after);
          refusal = tt;
          along = along_quiet ledger copies clock line after shows clock (outcome.Stored at next.answer next.reply) (can.reply_is ∙ ap (λ (k : ℕ). ok_line (k + 1) line (view next.answer.value)) (sym is)) refl table refl backs;
        }

        -- it is stored, and not shown yet
        pub changes_late : (batch : Batch) (shows : CopiesValue) → AppendsAs (Ok batch) ledger (entry_view next.made.entry next.made.batch) after → shows.shown ≡ copies.shown → shows.table ≡ copies.table
            → ChangesTo after shows clock (outcome.Late at)
        changes_late batch shows (same, is_after) shown table = record {
          step = step_late (may clock) ledger.history (length copies.shown) ledger.doubt none line bytes w m next can given at is after.history (length shows.shown) after.doubt
              (ap (λ (l : LedgerValue D). l.history) is_after) (ap length shown) (ap (λ (l : LedgerValue D). l.doubt) is_after);
          refusal = tt;
          along = along_quiet ledger copies clock line after shows clock (outcome.Late at) tt refl table refl backs;
        }

        -- it is in doubt
        pub changes_doubt : AppendsAs (Err DiskFault) ledger (entry_view next.made.entry next.made.batch) after → Rose (faults ledger.log.disk) (faults after.log.disk) → ChangesTo after copies clock (outcome.Doubt at)
        changes_doubt is_after rose = record {
          step = step_doubt (may clock) ledger.history (length copies.shown) ledger.doubt none line bytes w m next can given at is after.history (length copies.shown) after.doubt
              (ap (λ (l : LedgerValue D). l.history) is_after) refl (ap (λ (l : LedgerValue D). l.doubt) is_after);
          refusal = tt;
          along = record { told = tt; fault = λ tells. rose; table = refl; ticking = refl; backs = backs };
        }

        -- the append failed
        pub changes_failed : (f : JournalFault) → AppendsAs (Err f) ledger (entry_view next.made.entry next.made.batch) after → HasReason (faults ledger.log.disk) (faults after.log.disk) f → ChangesTo after copies clock (failed_as f at)
        changes_failed DiskFault is_after cause = changes_doubt is_after cause
        changes_failed NotStore is_after cause = absurd cause
        changes_failed (Damaged offset) is_after cause = absurd cause
        changes_failed Memory is_after cause = changes_memory clock after refl (ap (λ (l : LedgerValue D). l.history) is_after) (ap (λ (l : LedgerValue D). l.doubt) is_after) backs

    -- ---- after an earlier doubt

    abbrev CarriesTo : LedgerValue D → CopiesValue → C → Outcome → Type 0
    CarriesTo after shows ticks o = Carries content moment images images_since faults may ledger copies clock line bytes w after shows ticks o

    -- the doubt ended, and the write was carried out
    pub carries_then : (mid : LedgerValue D) (between : CopiesValue) (began : C) (after : LedgerValue D) (shows : CopiesValue) (ticks : C) (o : Outcome)
        → ((sessions : ℕ → Session) → Settles (desk_state ledger copies sessions) (desk_state mid between sessions)) → BacksNow ledger mid → between.table ≡ copies.table → began ≡ clock
        → Changes content moment images images_since faults may mid between began line bytes w after shows ticks o → CarriesTo after shows ticks o
    carries_then mid between began after shows ticks o settles backs table same changes = record {
      step = λ sessions. subst (λ (m : ℕ → Bool). WriteKeeps m (desk_state ledger copies sessions) line bytes w (kept_view o) (desk_state after shows sessions)) (ap may same)
          (changes.step (desk_state ledger copies sessions) (settles sessions));
      refusal = subst (λ (m : ℕ → Bool). IsRefusedNow m after.history bytes w (kept_view o)) (ap may same) changes.refusal;
      along = record {
        told = changes.along.told;
        fault = λ tells. let rose = changes.along.fault tells in let later = backs.later in omega (arith, rose, later);
        table = changes.along.table ∙ table;
        ticking = changes.along.ticking ∙ ap may same;
        backs = backs_then content moment images images_since faults ledger mid after (settles_stand ledger mid (length copies.shown) (length between.shown) no_sessions (settles no_sessions)) backs changes.along.backs;
      };
    }

    -- the disk failed, and the doubt stays
    pub carries_unsettled : (after : LedgerValue D) (shows : CopiesValue) (ticks : C) → is_some ledger.doubt ≡ true → after ≡ record ledger { log = after.log } → shows ≡ copies → ticks ≡ clock → BacksNow ledger after
        → Rose (faults ledger.log.disk) (faults after.log.disk) → CarriesTo after shows ticks outcome.Unsettled
    carries_unsettled after shows ticks some is same ticking backs rose = record {
      step = λ sessions. subst (WriteKeeps (may clock) (desk_state ledger copies sessions) line bytes w (kept_view outcome.Unsettled)) (unchanged sessions) (let (e, at) = some_of ledger.doubt some in leaves_doubt e at);
      refusal = tt;
      along = record { told = tt; fault = λ tells. rose; table = ap (λ (c : CopiesValue). c.table) same; ticking = ap may ticking; backs = backs };
    }
      where
        unchanged : (sessions : ℕ → Session) → desk_state ledger copies sessions ≡ desk_state after shows sessions
        unchanged sessions = states ledger.history after.history (length copies.shown) (length shows.shown) ledger.doubt after.doubt sessions
            (sym (ap (λ (l : LedgerValue D). l.history) is)) (sym (ap (λ (c : CopiesValue). length c.shown) same)) (sym (ap (λ (l : LedgerValue D). l.doubt) is))

    -- no memory was found, and nothing was carried out
    pub carries_nothing : (after : LedgerValue D) (shows : CopiesValue) (ticks : C) → after.history ≡ ledger.history → after.doubt ≡ ledger.doubt → shows.shown ≡ copies.shown → shows.table ≡ copies.table → ticks ≡ clock → BacksNow ledger after
        → CarriesTo after shows ticks outcome.Memory
    carries_nothing after shows ticks history doubt shown table ticking backs = record {
      step = λ sessions. subst (WriteKeeps (may clock) (desk_state ledger copies sessions) line bytes w (kept_view outcome.Memory))
          (states ledger.history after.history (length copies.shown) (length shows.shown) ledger.doubt after.doubt sessions (sym history) (sym (ap length shown)) (sym doubt)) lacks_memory;
      refusal = tt;
      along = along_quiet ledger copies clock line after shows ticks outcome.Memory tt refl table (ap may ticking) backs;
    }

-- what a step leaves of the disk of a ledger in which room was made before
pub backs_roomy : {D : Type 0} (content : D → Option (List ℕ)) (moment : D → ℕ) (images : D → List ℕ → Type 0) (images_since : D → ℕ → List ℕ → Type 0) (faults : D → ℕ) (old roomy new : LedgerValue D)
    → roomy ≡ record old { spare = roomy.spare } → Backs content moment images images_since faults roomy new → Backs content moment images images_since faults old new
backs_roomy content moment images images_since faults old roomy new is backs = record {
  told = subst (λ (l : LedgerValue _). is_some (content new.log.disk) ≡ is_some (content l.log.disk)) is backs.told;
  moments = subst (λ (l : LedgerValue _). Tells (content l.log.disk) → LeavesOnly moment images images_since l.log.disk new.log.disk (λ file. StandsForLedger l file ⊎ StandsForLedger new file)) is backs.moments;
  later = subst (λ (l : LedgerValue _). faults l.log.disk ≤ faults new.log.disk) is backs.later;
}

-- room alone changes nothing
pub backs_room : {D : Type 0} (content : D → Option (List ℕ)) (moment : D → ℕ) (images : D → List ℕ → Type 0) (images_since : D → ℕ → List ℕ → Type 0) (faults : D → ℕ) (old roomy : LedgerValue D)
    → roomy ≡ record old { spare = roomy.spare } → Backs content moment images images_since faults old old → Backs content moment images images_since faults old roomy
backs_room content moment images images_since faults old roomy is backs =
    subst (λ (l : LedgerValue _). Backs content moment images images_since faults old l) (sym is) (record { told = backs.told; moments = backs.moments; later = backs.later })

-- what a write line came to where room was made before
pub carries_roomy : {D C : Type 0} (content : D → Option (List ℕ)) (moment : D → ℕ) (images : D → List ℕ → Type 0) (images_since : D → ℕ → List ℕ → Type 0) (faults : D → ℕ) (may : C → ℕ → Bool)
    (ledger roomy : LedgerValue D) (copies more : CopiesValue) (clock : C) (line bytes : ℕ) (w : WriteRequest) (after : LedgerValue D) (shows : CopiesValue) (ticks : C) (o : Outcome)
    → roomy ≡ record ledger { spare = roomy.spare } → more ≡ record copies { spare = more.spare }
    → Carries content moment images images_since faults may roomy more clock line bytes w after shows ticks o → Carries content moment images images_since faults may ledger copies clock line bytes w after shows ticks o
carries_roomy content moment images images_since faults may ledger roomy copies more clock line bytes w after shows ticks o is same carries = record {
  step = λ sessions. subst (λ (s : State). WriteKeeps (may clock) s line bytes w (kept_view o) (desk_state after shows sessions))
      (states roomy.history ledger.history (length more.shown) (length copies.shown) roomy.doubt ledger.doubt sessions
      (ap (λ (l : LedgerValue _). l.history) is) (ap (λ (c : CopiesValue). length c.shown) same) (ap (λ (l : LedgerValue _). l.doubt) is))
      (carries.step sessions);
  refusal = carries.refusal;
  along = record {
    told = carries.along.told;
    fault = λ tells. subst (λ (l : LedgerValue _). Rose (faults l.log.disk) (faults after.log.disk)) is (carries.along.fault tells);
    table = carries.along.table ∙ ap (λ (c : CopiesValue). c.table) same;
    ticking = carries.along.ticking;
    backs = backs_roomy content moment images images_since faults ledger roomy after is carries.along.backs;
  };
}
