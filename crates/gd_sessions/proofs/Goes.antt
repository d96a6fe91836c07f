-- What a write leaves once its session was told.
use Rattle.std.proofs.Common.{◌≡◌, ℕ, List, [], ◌∷◌, ◌++◌, Bool, Option, sym, ap, subst, ◌∙◌}
use Rattle.gd_writer.specs.Side.{SideValue, KeepsAll, GoesOn}
use Rattle.gd_writer.proofs.Going.{goes_nothing}
use Rattle.gd_runs.specs.Side.{Kept, Told, told_of}

-- what is kept is forgotten
pub goes_told : {D C : Type 0} (content : D → Option (List ℕ)) (moment : D → ℕ) (images : D → List ℕ → Type 0) (images_since : D → ℕ → List ℕ → Type 0) (faults : D → ℕ) (may : C → ℕ → Bool) (old new : SideValue D C)
    → GoesOn content moment images images_since faults may old new → GoesOn content moment images images_since faults may old (record new { outcomes = [] })
goes_told content moment images images_since faults may old new goes = record { table = goes.table; clock = goes.clock; told = goes.told; moments = goes.moments; later = goes.later }

-- of no line anything was kept, now of this one
pub one_kept : (was now : List Told) (k : ℕ) (kept : Kept) → was ≡ [] → now ≡ was ++ told_of k kept ∷ [] → now ≡ told_of k kept ∷ []
one_kept was now k kept none is = is ∙ ap (λ (ts : List Told). ts ++ told_of k kept ∷ []) none

-- a call that leaves the side as it is
pub goes_same : {D C : Type 0} (content : D → Option (List ℕ)) (moment : D → ℕ) (images : D → List ℕ → Type 0) (images_since : D → ℕ → List ℕ → Type 0) (faults : D → ℕ) (may : C → ℕ → Bool)
    → ((disk : D) (c : List ℕ) → images_since disk (moment disk) c → images disk c) → (old new : SideValue D C) → KeepsAll content images may old → new ≡ old → GoesOn content moment images images_since faults may old new
goes_same content moment images images_since faults may only old new keeps same =
    subst (λ (s : SideValue _ _). GoesOn content moment images images_since faults may old s) (sym same) (goes_nothing content moment images images_since faults may only old keeps)
