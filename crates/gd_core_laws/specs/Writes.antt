-- A write behind the lock: the outcome that it keeps, and the state that it makes.
use Rattle.std.specs.Prelude.{◌≡◌, ℕ, ◌+◌, ◌<◌, ◌≤◌, ◌⊎◌, List, [], ◌∷◌, ◌++◌, Bool, Some, slice_get}
use Rattle.gd_runs.specs.Legal.{Entry, size}
use Rattle.gd_runs.specs.Explained.{entry_at}
use Rattle.gd_runs.specs.Core.{State, learnt}
use Rattle.gd_runs.specs.Side.{Kept, kept_stored, Told, WriteLine, Begun, IsOldDoubt, IsLeft, KeepsHistory, WriteKeeps, told_of}
use Rattle.gd_core_laws.specs.Round.{KeepsWrites}

-- no line of a round is that of an entry, or of the group in doubt, that stood when it began
pub record AreNew (l : Begun) : Type 0 where
  pub entries : (i e : ℕ) (a : WriteLine) (x : Entry) → slice_get l.lines i ≡ Some a → entry_at l.history e ≡ Some x → a.line ≡ x.line → ⊥
  pub doubted : (i : ℕ) (a : WriteLine) (x : Entry) → slice_get l.lines i ≡ Some a → IsOldDoubt l x → a.line ≡ x.line → ⊥

-- What the caller's walk over the write lines of a round keeps: of a line from number p on, of which nothing is kept, the outcomes of its session are of earlier lines.
pub record KeepsSide (may : ℕ → Bool) (l : Begun) (p : ℕ) (s : State) (outcomes : List Told) (new : List Entry) : Type 0 where
  pub history : KeepsHistory may s.history s.doubt outcomes
  pub writes : KeepsWrites l s.history s.shown s.doubt outcomes new
  pub most : s.shown ≤ size s.history
  pub front : (i x y : ℕ) (t : Told) (a b : WriteLine) → slice_get outcomes i ≡ Some t → slice_get l.lines x ≡ Some a → a.line ≡ t.line → slice_get l.lines y ≡ Some b → a.session ≡ b.session
      → p ≤ b.line → IsLeft outcomes b.line → t.line < b.line

-- the caller walks write lines: it passes over one, or writes one of which nothing is kept
abbrev pub CallerWrites : (ℕ → Bool) → State → List Told → List WriteLine → State → List Told → Type 0
CallerWrites may s outcomes [] t outs = (t ≡ s) × (outs ≡ outcomes)
CallerWrites may s outcomes (a ∷ ls) t outs = CallerWrites may s outcomes ls t outs
    ⊎ (IsLeft outcomes a.line × ((kept : Kept) × (m : State) × WriteKeeps may s a.line a.bytes a.request kept m × CallerWrites may m (outcomes ++ told_of a.line kept ∷ []) ls t outs))

-- what a function gives of the elements rises
abbrev pub RisesBy : {X : Type 0} → (X → ℕ) → List X → Type 0
RisesBy {X = X} f xs = (i j : ℕ) (a b : X) → i < j → slice_get xs i ≡ Some a → slice_get xs j ≡ Some b → f a < f b

-- lines that are among the write lines of the round, rise, and do not come before p
pub record AreAhead (l : Begun) (p : ℕ) (ls : List WriteLine) : Type 0 where
  pub among : (i : ℕ) (a : WriteLine) → slice_get ls i ≡ Some a → (x : ℕ) × (slice_get l.lines x ≡ Some a)
  pub rise : RisesBy (λ (a : WriteLine). a.line) ls
  pub ahead : (i : ℕ) (a : WriteLine) → slice_get ls i ≡ Some a → p ≤ a.line

-- the state once session i has learnt what its write stored and showed
abbrev pub after_kept : ℕ → Kept → State → State
after_kept i (kept_stored e r) t = learnt t i (e + 1)
after_kept i _ t = t
