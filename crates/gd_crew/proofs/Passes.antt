-- A turn of each session of a worker, and turns until all are over.
use Rattle.std.proofs.Common.{◌≡◌, ◌≢◌, refl, ℕ, zero, suc, ◌+◌, ◌<◌, Bool, false, List, [], ◌∷◌, length, length-set, set, slice_index_or, All, ap, subst, ◌∙◌, arith}
use Rattle.std.proofs.lemmas.List.{get_or_default}
use Rattle.logbook.specs.Pages.{Book}
use Rattle.gd_runs.specs.Side.{Begun}
use Rattle.gd_crew.specs.declared.seated.Seated.{Seated}
use Rattle.gd_crew.specs.Runs.{Share, RunsPart, IsOver}
use Rattle.gd_crew.specs.Seated.{share_of, Begins, IsStarted, AllGo, AreOver, AllRun}
use Rattle.gd_crew.proofs.Turns.{share_begins, none_held}

-- what holds of each element after one was written
pub set_cases : {A : Type 0} (Q : ℕ → A → Type 0) (xs : List A) (k : ℕ) (y : A) (i : ℕ) (d : A) → i < length xs → (i ≢ k → Q i (slice_index_or xs i d)) → (i ≡ k → Q i y) → Q i (slice_index_or (set xs k y) i d)
set_cases Q [] k y i d lt f g = absurd (omega arith)
set_cases Q (x ∷ xs) zero y zero d lt f g = g refl
set_cases Q (x ∷ xs) zero y (suc i) d lt f g = f (λ e. omega arith)
set_cases Q (x ∷ xs) (suc k) y zero d lt f g = f (λ e. omega arith)
set_cases Q (x ∷ xs) (suc k) y (suc i) d lt f g = set_cases (λ n. Q (suc n)) xs k y i d (omega arith) (λ ne. f (λ e. ne (omega arith))) (λ e. g (ap suc e))

pub pass_kept : (l : Begun) (table : Book) (old xs : List Seated) (k : ℕ) (d₀ y : Seated) (going after result : Bool) → length xs ≡ length old → k < length xs
    → All (IsStarted l table) xs × AllGo l table old xs × (going ≡ false → (i : ℕ) (d : Seated) → i < k → IsOver (share_of (slice_index_or xs i d)))
    → ((v : Share) → RunsPart l table v (share_of (slice_index_or xs k d₀)) → RunsPart l table v (share_of y)) → (result ≡ false → IsOver (share_of y)) → (after ≡ false → (going ≡ false) × (result ≡ false))
    → All (IsStarted l table) (set xs k y) × AllGo l table old (set xs k y) × (after ≡ false → (i : ℕ) (d : Seated) → i < k + 1 → IsOver (share_of (slice_index_or (set xs k y) i d)))
pass_kept l table old xs k d₀ y going after result len lt h runs over both =
    let same_len = length-set xs k y in (
      (λ i d less. set_cases (λ n s. IsStarted l table s) xs k y i d (omega (arith, less, same_len)) (λ _. h.0 i d (omega (arith, less, same_len))) (λ _. let s = h.0 k d₀ lt in (s.0, runs s.0 s.1))),
      (λ i d v less r. set_cases (λ n s. RunsPart l table v (share_of s)) xs k y i d (omega (arith, less, len)) (λ _. h.1 i d v less r)
          (λ e. runs v (subst (λ (s : Seated). RunsPart l table v (share_of s)) (ap (λ n. slice_index_or xs n d) e ∙ get_or_default xs k d d₀ lt) (h.1 i d v less r)))),
      (λ no i d less. set_cases (λ n s. IsOver (share_of s)) xs k y i d (omega (arith, less, lt)) (λ ne. h.2 (both no).0 i d (omega (arith, less, ne))) (λ _. over (both no).1)),
    )

pub go_on : (l : Begun) (table : Book) (us vs ws : List Seated) → length vs ≡ length us → AllGo l table us vs → AllGo l table vs ws → AllGo l table us ws
go_on l table us vs ws len a b k d v less r = b k d v (omega (arith, len, less)) (a k d v less r)

pub all_start : (l : Begun) (table : Book) (vs : List Seated) → All (Begins l table) vs → All (IsStarted l table) vs
all_start l table vs f k d less = (share_of (slice_index_or vs k d), share_begins l table (share_of (slice_index_or vs k d)) (f k d less))

pub all_run : (l : Begun) (table : Book) (vs ws : List Seated) → length ws ≡ length vs → All (Begins l table) vs → AllGo l table vs ws → AreOver ws → AllRun l table vs ws
all_run l table vs ws len f go over = (
  len,
  λ k d less.
      let part = go k d (share_of (slice_index_or vs k d)) less (share_begins l table (share_of (slice_index_or vs k d)) (f k d less)) in let end = over k d (omega (arith, len, less)) in
      record { part = part; over = end; ended = none_held l table (share_of (slice_index_or vs k d)) (share_of (slice_index_or ws k d)) part end },
)
