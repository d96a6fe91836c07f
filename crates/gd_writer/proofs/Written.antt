-- A write of a side, by what carrying it out came to.
use Rattle.std.proofs.Common.{◌≡◌, ℕ, Bool, List, [], ◌∷◌, ◌++◌, Option, map, sym, subst, ap, ◌∙◌}
use Rattle.std.proofs.lemmas.List.{map-append}
use Rattle.gd_defs.specs.Write.{WriteRequest}
use Rattle.gd_runs.specs.Side.{Told, IsLeft, IsFresh}
use Rattle.gd_writer.specs.declared.outcome.WriteOf.{WriteOf}
use Rattle.gd_writer.specs.Outcomes.{kept_view, told_view}
use Rattle.gd_writer.specs.Parts.{LedgerValue, CopiesValue}
use Rattle.gd_writer.specs.Carried.{Carries, IsAligned}
use Rattle.gd_writer.specs.Side.{SideValue, side_of, IsSide, Writes, GoesOn}
use Rattle.gd_writer.proofs.Told.{side_more, no_sessions}

module _ {D C : Type 0} (content : D → Option (List ℕ)) (moment : D → ℕ) (images : D → List ℕ → Type 0) (images_since : D → ℕ → List ℕ → Type 0) (faults : D → ℕ) (may : C → ℕ → Bool)
    (ledger : LedgerValue D) (copies : CopiesValue) (clock : C) (outcomes : List WriteOf) (line bytes : ℕ) (w : WriteRequest) (after : LedgerValue D) (shows : CopiesValue) (ticks : C) (o : WriteOf) (all : List WriteOf)
    (is : all ≡ outcomes ++ o ∷ []) (line_is : o.line ≡ line) (carries : Carries content moment images images_since faults may ledger copies clock line bytes w after shows ticks o.outcome)
    (old : SideValue D C) (view : side_of ledger copies clock (map told_view outcomes) ≡ old) where
  -- it keeps one outcome more
  pub writes_by : Writes (may old.clock) faults old line bytes w (side_of after shows ticks (map told_view all))
  writes_by = subst (λ (s : SideValue D C). Writes (may s.clock) faults s line bytes w (side_of after shows ticks (map told_view all))) view (record {
    kept = kept_view o.outcome;
    outcomes = ap (map told_view) is ∙ map-append told_view outcomes (o ∷ []) ∙ ap (λ (n : ℕ). map told_view outcomes ++ record { line = n; kept = kept_view o.outcome } ∷ []) line_is;
    step = carries.step;
    refusal = carries.refusal;
    fault = carries.along.fault;
  })

  -- the rest stays or goes on
  pub goes_by : GoesOn content moment images images_since faults may old (side_of after shows ticks (map told_view all))
  goes_by = subst (λ (s : SideValue D C). GoesOn content moment images images_since faults may s (side_of after shows ticks (map told_view all))) view (record {
    table = carries.along.table;
    clock = carries.along.ticking;
    told = carries.along.backs.told;
    moments = carries.along.backs.moments;
    later = carries.along.backs.later;
  })

  -- and what a side keeps of its parts it keeps
  pub keeps_by : IsSide may ledger copies clock outcomes → IsLeft old.outcomes line → IsFresh old.history old.doubt line → IsAligned after shows → IsSide may after shows ticks all
  keeps_by inv left fresh aligned = subst (IsSide may after shows ticks) (sym is)
      (side_more may ledger copies clock outcomes inv line bytes w after shows ticks o line_is
      (subst (λ (s : SideValue D C). IsLeft s.outcomes line) (sym view) left) (subst (λ (s : SideValue D C). IsFresh s.history s.doubt line) (sym view) fresh)
      aligned (carries.step no_sessions) carries.along.ticking carries.along.told)

-- a call that changed nothing but the room for outcomes
pub goes_still : {D C : Type 0} (content : D → Option (List ℕ)) (moment : D → ℕ) (images : D → List ℕ → Type 0) (images_since : D → ℕ → List ℕ → Type 0) (faults : D → ℕ) (may : C → ℕ → Bool)
    (ledger : LedgerValue D) (copies : CopiesValue) (clock : C) (ts us : List Told) (old : SideValue D C) → side_of ledger copies clock ts ≡ old → GoesOn content moment images images_since faults may old old
    → GoesOn content moment images images_since faults may old (side_of ledger copies clock us)
goes_still content moment images images_since faults may ledger copies clock ts us old view =
    subst (λ (s : SideValue _ _). GoesOn content moment images images_since faults may s s → GoesOn content moment images images_since faults may s (side_of ledger copies clock us)) view
    (λ still. record { table = still.table; clock = still.clock; told = still.told; moments = still.moments; later = still.later })
