-- What a ledger keeps of its fields.
use Rattle.std.proofs.Common.{◌↔◌, ◌-◌, Bool, true, false, Result, Ok, Err, ◌≡◌, ◌⊎◌, inl, refl, ℕ, ◌+◌, ◌≤◌, List, [], ◌∷◌, ◌++◌, length, Option, None, Some, sym, subst, ap, ◌∙◌, arith, length-append}
use Rattle.gd_prim.specs.declared.Batch.{Batch}
use Rattle.gd_json.specs.View.{view}
use Rattle.std.specs.Option.{is_some}
use Rattle.std.specs.Prelude.{IsSome, IsErrOf}
use Rattle.gd_journal.specs.declared.fault.JournalFault.{JournalFault}
use Rattle.gd_journal.specs.declared.fault.JournalFault.TheVariants.{DiskFault, NotStore, Damaged, Memory}
use Rattle.gd_bytes.specs.Disk.{LeavesOnly}
use Rattle.gd_bytes.specs.File.{MayStandFor}
use Rattle.gd_disk.specs.Runs.{leaves_weaken}
use Rattle.gd_log.specs.Stored.{Stored, Holds, groups_in_doubt, doubt_after}
use Rattle.gd_runs.specs.Legal as legal
use Rattle.gd_runs.specs.Legal.{batches, size, history_bytes, kept_bytes, max_history}
use Rattle.gd_writer.specs.declared.entry.Entry.{Entry}
use Rattle.gd_writer.specs.Entries.{entry_view, history_of}
use Rattle.gd_writer.specs.Parts.{LedgerValue, Backs, IsLedger, AreReady, IsReadyDoubt, Tells, group_of}
use Rattle.gd_writer.proofs.Backed.{backs_by}
use Rattle.gd_writer.proofs.Histories.{history_more, bytes_more, batches_is}

-- a write in doubt just where the log is
pub ready_of : (bs : List Batch) (kept : ℕ) (next : Option ℕ) (e : legal.Entry) → AreReady bs kept next (Some e) → IsReadyDoubt bs kept e
ready_of bs kept None e are = absurd are
ready_of bs kept (Some n) e are = are

module _ {D : Type 0} (content : D → Option (List ℕ)) (images : D → List ℕ → Type 0) where
  abbrev HoldsNow : Stored D → Option legal.Entry → Type 0
  HoldsNow held doubt = Tells (content held.log.disk) → Holds (content held.log.disk) (images held.log.disk) held.log.gate held.log.doubt held.batches (group_of doubt)

  -- the same batches, with a write in doubt or none
  pub ledger_same : (held next : Stored D) (loaded : ℕ) (es : List Entry) (kept : ℕ) (was doubt : Option legal.Entry) → IsLedger content images held loaded es kept was → next.batches ≡ held.batches
      → AreReady held.batches kept next.log.doubt doubt → HoldsNow next doubt → IsLedger content images next loaded es kept doubt
  ledger_same held next loaded es kept was doubt inv same ready holds = record {
    count = inv.count ∙ ap length (sym same);
    bytes = inv.bytes ∙ ap (λ (bs : List Batch). history_bytes (history_of loaded es bs)) (sym same);
    room = inv.room;
    doubted = subst (λ (bs : List Batch). AreReady bs kept next.log.doubt doubt) (sym same) ready;
    holds = holds;
  }

  -- a batch and an entry more, and nothing in doubt
  pub ledger_more : (held next : Stored D) (loaded : ℕ) (es : List Entry) (kept more : ℕ) (was : Option legal.Entry) (x : Entry) (b : Batch) → IsLedger content images held loaded es kept was
      → kept + more ≤ max_history → more ≡ kept_bytes x.bytes (view x.answer.value) → next.batches ≡ held.batches ++ b ∷ [] → next.log.doubt ≡ None → HoldsNow next None
      → IsLedger content images next loaded (es ++ x ∷ []) (kept + more) None
  ledger_more held next loaded es kept more was x b inv room counted grown none holds = record {
    count = let old = inv.count in let one = length-append es (x ∷ []) in let two = length-append held.batches (b ∷ []) in let now = ap length grown in omega (arith, old, one, two, now);
    bytes =
        let old = inv.bytes in
        let all = bytes_more (history_of loaded es held.batches) (entry_view x b) in
        let same : history_bytes (history_of loaded (es ++ x ∷ []) next.batches) ≡ history_bytes (legal.with_entry (history_of loaded es held.batches) (entry_view x b)) =
        ap (λ (bs : List Batch). history_bytes (history_of loaded (es ++ x ∷ []) bs)) grown ∙ ap history_bytes (history_more loaded es held.batches x b inv.count) in
        omega (arith, old, all, same, counted);
    room = room;
    doubted = subst (λ (o : Option ℕ). AreReady next.batches (kept + more) o None) (sym none) tt;
    holds = holds;
  }

-- a ledger, by its fields
abbrev pub ledger_value : {D : Type 0} → Stored D → ℕ → List Entry → ℕ → Option legal.Entry → LedgerValue D
ledger_value held loaded es spare doubt = record { history = history_of loaded es held.batches; doubt = doubt; log = held.log; spare = spare }

module _ {D : Type 0} (content : D → Option (List ℕ)) (moment : D → ℕ) (images : D → List ℕ → Type 0) (images_since : D → ℕ → List ℕ → Type 0) (faults : D → ℕ) where
  -- what a step of the log and the store leaves of the disk
  pub ledger_backs : (held next : Stored D) (loaded : ℕ) (es fs : List Entry) (spare more : ℕ) (doubt after : Option legal.Entry) (p n : Option (List Batch)) → loaded + length es ≡ length held.batches → loaded + length fs ≡ length next.batches
      → group_of doubt ≡ p → group_of after ≡ n
      → (Tells (content held.log.disk) → Holds (content held.log.disk) (images held.log.disk) held.log.gate held.log.doubt held.batches p)
      → (Holds (content held.log.disk) (images held.log.disk) held.log.gate held.log.doubt held.batches p
      → LeavesOnly moment images images_since held.log.disk next.log.disk (λ file. MayStandFor held.batches (groups_in_doubt p) file ⊎ MayStandFor next.batches (groups_in_doubt n) file))
      → is_some (content next.log.disk) ≡ is_some (content held.log.disk) → faults held.log.disk ≤ faults next.log.disk
      → Backs content moment images images_since faults (ledger_value held loaded es spare doubt) (ledger_value next loaded fs more after)
  ledger_backs held next loaded es fs spare more doubt after p n was is group now holds moments told later =
      backs_by content moment images images_since faults (ledger_value held loaded es spare doubt) (ledger_value next loaded fs more after) held.batches next.batches p n
      (batches_is loaded es held.batches was) (batches_is loaded fs next.batches is) group now holds moments told later

  -- where the moments leave what stood before
  pub ledger_backs_left : (held next : Stored D) (loaded : ℕ) (es fs : List Entry) (spare more : ℕ) (doubt after : Option legal.Entry) (p : Option (List Batch)) → loaded + length es ≡ length held.batches → loaded + length fs ≡ length next.batches
      → group_of doubt ≡ p
      → (Tells (content held.log.disk) → Holds (content held.log.disk) (images held.log.disk) held.log.gate held.log.doubt held.batches p)
      → (Holds (content held.log.disk) (images held.log.disk) held.log.gate held.log.doubt held.batches p
      → LeavesOnly moment images images_since held.log.disk next.log.disk (MayStandFor held.batches (groups_in_doubt p)))
      → is_some (content next.log.disk) ≡ is_some (content held.log.disk) → faults held.log.disk ≤ faults next.log.disk
      → Backs content moment images images_since faults (ledger_value held loaded es spare doubt) (ledger_value next loaded fs more after)
  ledger_backs_left held next loaded es fs spare more doubt after p was is group holds moments told later =
      ledger_backs held next loaded es fs spare more doubt after p (group_of after) was is group refl holds
      (λ held_now. leaves_weaken held.log.disk next.log.disk (MayStandFor held.batches (groups_in_doubt p)) (λ file. MayStandFor held.batches (groups_in_doubt p) file ⊎ MayStandFor next.batches (groups_in_doubt (group_of after)) file)
      (λ c x. inl x) (moments held_now))
      told later

-- the fields of a ledger hold its batches, with the group in doubt
pub holds_group : {D : Type 0} (content : D → Option (List ℕ)) (images : D → List ℕ → Type 0) (held : Stored D) (loaded : ℕ) (es : List Entry) (kept : ℕ) (doubt : Option legal.Entry) (p : Option (List Batch))
    → IsLedger content images held loaded es kept doubt → group_of doubt ≡ p → Tells (content held.log.disk)
    → Holds (content held.log.disk) (images held.log.disk) held.log.gate held.log.doubt held.batches p
holds_group content images held loaded es kept doubt p inv group tells = subst (Holds (content held.log.disk) (images held.log.disk) held.log.gate held.log.doubt held.batches) group (inv.holds tells)

-- ---- a doubt of the log

-- an append leaves a doubt just where the disk failed
pub doubted : (o : Option ℕ) (b : Bool) (fault : JournalFault) (more : List Batch) → b ≡ true → b ≡ is_some o → (IsSome o ↔ IsErrOf {T = Unit {0}} (Err fault) DiskFault) → doubt_after (Err fault) more ≡ Some more
doubted o b fault more was told just =
    let failed : Result (Unit {0}) JournalFault = Err fault in
    let is : failed ≡ Err DiskFault = just.0 (sym told ∙ was) in
    let same : fault ≡ DiskFault = cc in
    ap (λ (f : JournalFault). doubt_after (Err f) more) same

pub not_doubted : (o : Option ℕ) (b : Bool) (fault : JournalFault) (more : List Batch) → b ≡ false → b ≡ is_some o → (IsSome o ↔ IsErrOf {T = Unit {0}} (Err fault) DiskFault) → doubt_after (Err fault) more ≡ None
not_doubted o b DiskFault more was told just = let some = just.1 refl in cc
not_doubted o b NotStore more was told just = refl
not_doubted o b (Damaged offset) more was told just = refl
not_doubted o b Memory more was told just = refl

-- none is left where the append succeeded
pub done_undoubted : (o : Option ℕ) → (IsSome o ↔ IsErrOf {T = Unit {0}} (Ok tt) DiskFault) → o ≡ None
done_undoubted None just = refl
done_undoubted (Some n) just = let failed : (let done : Result (Unit {0}) JournalFault = Ok tt in done) ≡ Err DiskFault = just.0 refl in cc

-- a write in doubt where the log is
pub ready_some : (bs : List Batch) (kept : ℕ) (o : Option ℕ) (e : legal.Entry) → is_some o ≡ true → IsReadyDoubt bs kept e → AreReady bs kept o (Some e)
ready_some bs kept None e is ready = cc
ready_some bs kept (Some n) e is ready = ready

-- a ledger with an entry more
pub ledger_grown : {D : Type 0} (held next : Stored D) (loaded : ℕ) (es fs : List Entry) (spare more : ℕ) (doubt after : Option legal.Entry) (x : Entry) (b : Batch) (old : LedgerValue D) → ledger_value held loaded es spare doubt ≡ old
    → loaded + length es ≡ length held.batches → fs ≡ es ++ x ∷ [] → next.batches ≡ held.batches ++ b ∷ [] → more ≡ spare - 1 → after ≡ None
    → ledger_value next loaded fs more after ≡ record { history = legal.with_entry old.history (entry_view x b); doubt = None; log = next.log; spare = old.spare - 1 }
ledger_grown {D = D} held next loaded es fs spare more doubt after x b old view count grown batch room none =
    subst (λ (l : LedgerValue D). ledger_value next loaded fs more after ≡ record { history = legal.with_entry l.history (entry_view x b); doubt = None; log = next.log; spare = l.spare - 1 }) view
    (ap (λ (o : Option legal.Entry). let l : LedgerValue D = record { history = history_of loaded fs next.batches; doubt = o; log = next.log; spare = more } in l) none
    ∙ ap (λ (n : ℕ). let l : LedgerValue D = record { history = history_of loaded fs next.batches; doubt = None; log = next.log; spare = n } in l) room
    ∙ ap (λ (h : legal.History). let l : LedgerValue D = record { history = h; doubt = None; log = next.log; spare = spare - 1 } in l)
    (ap (λ (gs : List Entry). history_of loaded gs next.batches) grown ∙ ap (λ (bs : List Batch). history_of loaded (es ++ x ∷ []) bs) batch ∙ history_more loaded es held.batches x b count))
