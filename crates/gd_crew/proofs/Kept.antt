-- What is kept of a line, found or not.
use Rattle.std.proofs.Common.{◌≡◌, refl, ℕ, zero, suc, ◌==◌, Bool, true, false, List, [], ◌∷◌, Option, Some, None, option_map, is_some, if◌then◌else◌, slice_get, sym, ap, ◌∙◌}
use Rattle.gd_runs.specs.Side.{Kept, Told, IsLeft}
use Rattle.gd_runs.proofs.Rounds.{no_some, some_same}
use Rattle.gd_core_laws.specs.Bounds.{kept_of}
use Rattle.gd_core_laws.specs.Lock.{HasOutcome}
use Rattle.gd_core_laws.proofs.Lock.{same_numbers}
use Rattle.gd_core_laws.proofs.Reading.{same_number}

apart : true ≡ false → ⊥
apart q = cc

-- where none is kept of a line, the line is left
pub is_left : (outcomes : List Told) (k : ℕ) → kept_of outcomes k ≡ None → IsLeft outcomes k
is_left [] k none i t at line = no_some at
is_left (u ∷ us) k none i t at line = by (u.line == k) refl none i at (λ none' j there. is_left us k none' j t there line)
  where
    by : (b : Bool) → (u.line == k) ≡ b → (if b then Some u.kept else kept_of us k) ≡ None → (j : ℕ) → slice_get (u ∷ us) j ≡ Some t → (kept_of us k ≡ None → (j : ℕ) → slice_get us j ≡ Some t → ⊥) → ⊥
    by true same found j there rest = no_some (sym found)
    by false other found zero there rest = apart (sym (same_number k) ∙ ap (λ (n : ℕ). n == k) (sym line ∙ ap (λ (v : Told). v.line) (sym (some_same there))) ∙ other)
    by false other found (suc j) there rest = rest found j there

-- where something is kept of a line, the line has an outcome
pub has_kept : (outcomes : List Told) (k : ℕ) (kept : Kept) → kept_of outcomes k ≡ Some kept → HasOutcome outcomes k
has_kept [] k kept is = no_some is
has_kept (u ∷ us) k kept is = by (u.line == k) refl is (has_kept us k kept)
  where
    by : (b : Bool) → (u.line == k) ≡ b → (if b then Some u.kept else kept_of us k) ≡ Some kept → (kept_of us k ≡ Some kept → HasOutcome us k) → HasOutcome (u ∷ us) k
    by true same e rest = (0, u, refl, same_numbers u.line k same)
    by false other e rest = let (i, t, at, line) = rest e in (suc i, t, at, line)

-- what was looked up is there, or is not
pub found_none : {X : Type 0} (view : X → Kept) (found : Option X) (outcomes : List Told) (k : ℕ) → option_map view found ≡ kept_of outcomes k → is_some found ≡ false → IsLeft outcomes k
found_none view None outcomes k is missing = is_left outcomes k (sym is)
found_none view (Some x) outcomes k is missing = absurd (apart missing)

pub found_some : {X : Type 0} (view : X → Kept) (found : Option X) (outcomes : List Told) (k : ℕ) → option_map view found ≡ kept_of outcomes k → is_some found ≡ true → HasOutcome outcomes k
found_some view (Some x) outcomes k is there = has_kept outcomes k (view x) (sym is)
found_some view None outcomes k is there = absurd (apart (sym there))
