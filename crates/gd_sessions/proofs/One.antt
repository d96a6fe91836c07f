-- What is kept of one write line.
use Rattle.std.proofs.Common.{◌≡◌, ℕ, List, [], ◌∷◌, ◌++◌, length, map, slice_get, refl, ap, subst}
use Rattle.std.specs.List.{AllByRecursion}
use Rattle.gd_runs.specs.Side.{Kept, kept_stored, kept_late, kept_refused, kept_doubt, kept_unsettled, kept_memory, Told, told_of}
use Rattle.gd_writer.specs.declared.outcome.WriteOf.{WriteOf}
use Rattle.gd_writer.specs.Outcomes.{kept_view, told_view, IsTold}
use Rattle.gd_writer.specs.Side.{SideValue, ShowsStored}
use Rattle.gd_sessions.specs.Writes.{IsShown}

abbrev told_well : WriteOf → Type 0
told_well w = IsTold w.line w.outcome

heads : (a b : Told) (more : List Told) → a ∷ more ≡ b ∷ [] → a ≡ b
heads a b more is = cc

-- the last of one is that one
pub told_last : (xs : List WriteOf) (w : WriteOf) (t : Told) → map told_view (xs ++ w ∷ []) ≡ t ∷ [] → told_view w ≡ t
told_last [] w t is = heads (told_view w) t [] is
told_last (x ∷ []) w t is = absurd (cc)
told_last (x ∷ y ∷ ys) w t is = absurd (cc)

well_last : (xs : List WriteOf) (w : WriteOf) → AllByRecursion told_well (xs ++ w ∷ []) → told_well w
well_last [] w all = all.0
well_last (x ∷ xs) w all = well_last xs w all.1

pub kept_last : (xs : List WriteOf) (w : WriteOf) (line : ℕ) (kept : Kept) → map told_view (xs ++ w ∷ []) ≡ told_of line kept ∷ [] → kept_view w.outcome ≡ kept
kept_last xs w line kept is = ap (λ (t : Told). t.kept) (told_last xs w (told_of line kept) is)

pub well_told : (xs : List WriteOf) (w : WriteOf) (line : ℕ) (kept : Kept) → map told_view (xs ++ w ∷ []) ≡ told_of line kept ∷ [] → AllByRecursion told_well (xs ++ w ∷ []) → IsTold line w.outcome
well_told xs w line kept is all = subst (λ (n : ℕ). IsTold n w.outcome) (ap (λ (t : Told). t.line) (told_last xs w (told_of line kept) is)) (well_last xs w all)

pub none_last : (t : Told) → map told_view [] ≡ t ∷ [] → ⊥
none_last t is = cc

-- a line that is kept as stored is shown
pub kept_shown : {D C : Type 0} (side : SideValue D C) (line : ℕ) (kept : Kept) → ShowsStored side → side.outcomes ≡ told_of line kept ∷ [] → IsShown (length side.shown) kept
kept_shown side line (kept_stored e r) shows is = shows 0 e r (told_of line (kept_stored e r)) (ap (λ (ts : List Told). slice_get ts 0) is) refl
kept_shown side line (kept_late e) shows is = tt
kept_shown side line (kept_refused f n) shows is = tt
kept_shown side line (kept_doubt n) shows is = tt
kept_shown side line kept_unsettled shows is = tt
kept_shown side line kept_memory shows is = tt
