-- Where the core finds no memory for a read, nothing but sessions differs.
use Rattle.std.proofs.Common.{◌≡◌, refl, ℕ, ◌==◌, ◌⊎◌, inl, ⊎_elim, Bool, true, false, List, Some, None, if◌then◌else◌, ap, sym, subst}
use Rattle.gd_runs.specs.Request.{ReadSet}
use Rattle.gd_runs.specs.Core.{begin, slice, State, Session, BeginStep}
use Rattle.gd_runs.specs.Replay.{dropped, LacksMemory}
use Rattle.gd_core_laws.specs.Serve.{EntersOnly}
use Rattle.gd_core_laws.proofs.Lines.{stays}
use Rattle.gd_core_laws.proofs.Reading.{begin_cases, enters}
use Rattle.gd_core_laws.proofs.Lock.{same_numbers}

-- a session that has dropped its reading
pub drops : (s : State) (i : ℕ) → EntersOnly s (dropped s i)
drops s i = record { history = refl; shown = refl; doubt = refl; seen = λ j. by j (j == i) refl }
  where
    of_this : Session
    of_this = record { seen = (s.sessions i).seen; reading = None }

    by : (j : ℕ) (b : Bool) → (j == i) ≡ b → ((if b then of_this else s.sessions j).seen ≡ (s.sessions j).seen) ⊎ ((if b then of_this else s.sessions j).seen ≡ s.shown)
    by j true is = inl (ap (λ (n : ℕ). (s.sessions n).seen) (sym (same_numbers j i is)))
    by j false is = inl refl

-- a read that was to begin
pub begin_lacks : (s t : State) (i : ℕ) (r : ReadSet) → LacksMemory s (begin i r) t → EntersOnly s t
begin_lacks s t i r lacks = ⊎_elim
    (λ same. subst (EntersOnly s) (sym same) (stays s))
    (λ other. ⊎_elim (λ drop. subst (EntersOnly s) (sym drop) (drops s i)) (λ enter. subst (EntersOnly s) (sym enter) (enters s i None)) other)
    lacks

-- a reading that was to be sliced
pub slice_lacks : (s t : State) (i budget : ℕ) → LacksMemory s (slice i budget) t → EntersOnly s t
slice_lacks s t i budget lacks = ⊎_elim (λ same. subst (EntersOnly s) (sym same) (stays s)) (λ enter. subst (EntersOnly s) (sym enter) (enters s i None)) lacks

-- a read that has begun
pub begun_enters : (s t : State) (k i : ℕ) (r : ReadSet) (line : List ℕ) → BeginStep s k i r line t → EntersOnly s t
begun_enters s t k i r line step = ⊎_elim
    (λ (f, is, prints, left). subst (EntersOnly s) (sym left) (enters s i None))
    (λ (reading, is, left). subst (EntersOnly s) (sym left) (enters s i (Some reading)))
    (begin_cases s k i r line t step)
