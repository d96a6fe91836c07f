-- What a ledger keeps where a doubt of its log ended.
use Rattle.std.proofs.Common.{◌≡◌, ℕ, ◌+◌, ◌-◌, ◌≤◌, Bool, true, false, List, [], ◌∷◌, ◌++◌, length, Option, None, Some, option_map, if◌then◌else◌, sym, subst, ap, ◌∙◌, arith, length-append}
use Rattle.std.specs.Option.{is_some}
use Rattle.gd_prim.specs.declared.Batch.{Batch}
use Rattle.gd_bytes.specs.Disk.{LeavesOnly}
use Rattle.gd_bytes.specs.File.{MayStandFor}
use Rattle.gd_log.specs.Stored.{Stored, Holds, groups_in_doubt}
use Rattle.gd_runs.specs.Legal as legal
use Rattle.gd_writer.specs.declared.entry.Entry.{Entry}
use Rattle.gd_writer.specs.declared.made.Made.{Made}
use Rattle.gd_writer.specs.Entries.{entry_view}
use Rattle.gd_writer.specs.Parts.{LedgerValue, Backs, EndsAs, AreReady, IsLedger, IsReadyDoubt, group_of}
use Rattle.gd_writer.proofs.Kept.{ledger_value, ledger_more, ledger_backs_left, ledger_grown, holds_group, ready_of}

-- the entry in doubt
abbrev pub doubt_of : Option Made → Option legal.Entry
doubt_of o = option_map (λ (x : Made). entry_view x.entry x.batch) o

-- a choice that was made
pub chosen : {X : Type 0} (b : Bool) (x y z : X) → b ≡ true → z ≡ (if b then x else y) → z ≡ x
chosen true x y z is same = same
chosen false x y z is same = cc

pub not_chosen : {X : Type 0} (b : Bool) (x y z : X) → b ≡ false → z ≡ (if b then x else y) → z ≡ y
not_chosen true x y z is same = cc
not_chosen false x y z is same = same

-- the group in doubt, of a write in doubt
pub group_some : (o : Option Made) (made : Made) (group : List Batch) → o ≡ Some made → group ≡ made.batch ∷ [] → group_of (doubt_of o) ≡ Some group
group_some o made group some is = ap (λ (d : Option Made). group_of (doubt_of d)) some ∙ ap (λ (bs : List Batch). Some bs) (sym is)

module _ {D : Type 0} (content : D → Option (List ℕ)) (images : D → List ℕ → Type 0) (held next : Stored D) (loaded : ℕ) (es : List Entry) (kept : ℕ) (o : Option Made) (made : Made) (some : o ≡ Some made) (inv : IsLedger content images held loaded es kept (doubt_of o)) where
  -- the write in doubt may still be stored
  ready : IsReadyDoubt held.batches kept (entry_view made.entry made.batch)
  ready = ready_of held.batches kept held.log.doubt (entry_view made.entry made.batch) (subst (λ (d : Option legal.Entry). AreReady held.batches kept held.log.doubt d) (ap doubt_of some) inv.doubted)

  -- a ledger in which it counts
  pub ledger_counted : (group : List Batch) (fs : List Entry) (more : ℕ) (after : Option legal.Entry) → group ≡ made.batch ∷ [] → next.batches ≡ held.batches ++ group → next.log.doubt ≡ None
      → fs ≡ es ++ made.entry ∷ [] → more ≡ kept + made.kept → after ≡ None
      → is_some (content next.log.disk) ≡ is_some (content held.log.disk)
      → (Holds (content held.log.disk) (images held.log.disk) held.log.gate held.log.doubt held.batches (Some group) → Holds (content next.log.disk) (images next.log.disk) next.log.gate next.log.doubt next.batches None)
      → IsLedger content images next loaded fs more after
  ledger_counted group fs more after is grown none entries count ended told holds =
      let room = ready.room in
      let counted = made.counted in
      subst (λ (d : Option legal.Entry). IsLedger content images next loaded fs more d) (sym ended)
      (subst (λ (k : ℕ). IsLedger content images next loaded fs k None) (sym count)
      (subst (λ (gs : List Entry). IsLedger content images next loaded gs (kept + made.kept) None) (sym entries)
      (ledger_more content images held next loaded es kept made.kept (doubt_of o) made.entry made.batch inv
      (omega (arith, room, counted)) counted (grown ∙ ap (λ (bs : List Batch). held.batches ++ bs) is) none
      (λ tells. holds (holds_group content images held loaded es kept (doubt_of o) (Some group) inv (group_some o made group some is) (sym told ∙ tells))))))

-- and its value
pub ends_counted : {D : Type 0} (held next : Stored D) (loaded : ℕ) (es fs : List Entry) (spare more : ℕ) (o : Option Made) (made : Made) (after : Option legal.Entry) (group : List Batch) (gave : Batch) (old : LedgerValue D)
    → ledger_value held loaded es spare (doubt_of o) ≡ old → o ≡ Some made → loaded + length es ≡ length held.batches → group ≡ made.batch ∷ [] → next.batches ≡ held.batches ++ group
    → fs ≡ es ++ made.entry ∷ [] → more ≡ spare - 1 → after ≡ None → gave ≡ made.batch
    → EndsAs old (ledger_value next loaded fs more after) (Some gave)
ends_counted held next loaded es fs spare more o made after group gave old view some count is grown entries room ended same = (
  entry_view made.entry made.batch,
  sym (ap (λ (l : LedgerValue _). l.doubt) view) ∙ ap doubt_of some,
  same,
  ledger_grown held next loaded es fs spare more (doubt_of o) after made.entry made.batch old view count entries (grown ∙ ap (λ (bs : List Batch). held.batches ++ bs) is) room ended,
)

module _ {D : Type 0} (content : D → Option (List ℕ)) (moment : D → ℕ) (images : D → List ℕ → Type 0) (images_since : D → ℕ → List ℕ → Type 0) (faults : D → ℕ) (held next : Stored D) (loaded : ℕ) (es : List Entry) (kept : ℕ) (o : Option Made)
    (made : Made) (some : o ≡ Some made) (inv : IsLedger content images held loaded es kept (doubt_of o)) (group : List Batch) (is : group ≡ made.batch ∷ [])
    (moments : Holds (content held.log.disk) (images held.log.disk) held.log.gate held.log.doubt held.batches (Some group) → LeavesOnly moment images images_since held.log.disk next.log.disk (MayStandFor held.batches (groups_in_doubt (Some group))))
    (told : is_some (content next.log.disk) ≡ is_some (content held.log.disk)) (later : faults held.log.disk ≤ faults next.log.disk) (spare more : ℕ) (old : LedgerValue D) (view : ledger_value held loaded es spare (doubt_of o) ≡ old) where
  -- what the call leaves of the disk, whichever it came to
  pub backs_settled : (fs : List Entry) (after : Option legal.Entry) → loaded + length fs ≡ length next.batches → Backs content moment images images_since faults old (ledger_value next loaded fs more after)
  backs_settled fs after count =
      subst (λ (l : LedgerValue D). Backs content moment images images_since faults l (ledger_value next loaded fs more after)) view
      (ledger_backs_left content moment images images_since faults held next loaded es fs spare more (doubt_of o) after (Some group) inv.count count (group_some o made group some is)
      (holds_group content images held loaded es kept (doubt_of o) (Some group) inv (group_some o made group some is)) moments told later)

  -- where it does not count, or the doubt stays
  pub backs_as_before : (after : Option legal.Entry) → next.batches ≡ held.batches → Backs content moment images images_since faults old (ledger_value next loaded es more after)
  backs_as_before after same = backs_settled es after (inv.count ∙ sym (ap length same))

  -- where it counts
  pub backs_counted : (fs : List Entry) (after : Option legal.Entry) → next.batches ≡ held.batches ++ group → fs ≡ es ++ made.entry ∷ [] → Backs content moment images images_since faults old (ledger_value next loaded fs more after)
  backs_counted fs after grown entries =
      let count = inv.count in
      let one = length-append es (made.entry ∷ []) in
      let long = ap length entries in
      let two = length-append held.batches group in
      let all = ap length grown in
      let alone = ap length is in
      backs_settled fs after (omega (arith, count, one, long, two, all, alone))
