-- One round more, or a part of one, after lines and a history that explains them.
use Rattle.std.specs.Prelude.{◌≡◌, ℕ, ◌+◌, ◌<◌, ◌≤◌, ◌⊎◌, List, [], ◌∷◌, ◌++◌, length, map, flat_map, Bool, Some, slice_get}
use Rattle.gd_runs.specs.Legal.{Entry, History, size, with_entries, AreEntriesAfter}
use Rattle.gd_runs.specs.Explained.Lines.{Numbered}
use Rattle.gd_runs.specs.Explained.Outcomes.{in_doubt, DoesLine, MayBeEntry, entry_at, Prints, HasNumber}
use Rattle.gd_runs.specs.Explained.Runs.{Run, SameSession, TakesIn, MayBe}

-- an entry, number e, is of one of the lines of a round, which begins at line k
abbrev pub IsOfRound : ℕ → List Run → ℕ → Entry → Type 0
IsOfRound k more e entry = (j : ℕ) × (r : Run) × (entry.line ≡ k + j) × (slice_get more j ≡ Some r) × DoesLine r.line.bytes entry × MayBeEntry r.outcome e

-- The first entry of a round may be of the line that the rounds before left in doubt: no entry is of a later round, nor of this line or a later one of its session.
pub record IsOldDoubt (h : History) (runs : List Run) (entry : Entry) (r : Run) : Type 0 where
  pub there : slice_get runs entry.line ≡ Some r
  pub does : DoesLine r.line.bytes entry
  pub doubt : r.outcome ≡ in_doubt
  pub last : (e : ℕ) (x : Entry) (q : Run) → entry_at h e ≡ Some x → slice_get runs x.line ≡ Some q
      → (q.line.round ≤ r.line.round) × (SameSession r q → x.line < entry.line) × (x.line ≡ entry.line → ⊥)

-- A round, or a part of one: after the lines before it and the history that explains them, its lines, what they came to, and the entries that the history gained.
pub record IsRoundAfter (may : ℕ → Bool) (h : History) (runs : List Run) (round : ℕ) (given : List Numbered) (output : List ℕ) (new : List Entry) (more : List Run) : Type 0 where
  pub earlier : (k : ℕ) (r : Run) → slice_get runs k ≡ Some r → r.line.round ≤ round
  pub this : (j : ℕ) (r : Run) → slice_get more j ≡ Some r → r.line.round ≡ round
  pub lines : map (λ r. r.line) more ≡ given
  pub replies : output ≡ flat_map (λ r. r.reply ++ 10 ∷ []) more
  pub legal : AreEntriesAfter h new
  pub each : (j : ℕ) (r : Run) → slice_get more j ≡ Some r → Prints (with_entries h new) (length runs + j) r.line.bytes r.outcome r.reply
  pub entries : (i : ℕ) (entry : Entry) → slice_get new i ≡ Some entry → IsOfRound (length runs) more (size h + i) entry ⊎ ((i ≡ 0) × ((r : Run) × IsOldDoubt h runs entry r))
  pub bounds : (j : ℕ) (r : Run) (n : ℕ) → slice_get more j ≡ Some r → HasNumber (with_entries h new) (length runs + j) r.outcome n
      → TakesIn (length h.loaded) (runs ++ more) (length runs + j) r n × (n ≤ size (with_entries h new))
  -- two entries are of two lines, in order where they are of one session
  pub order : (i j : ℕ) (x y : Entry) → slice_get new i ≡ Some x → slice_get new j ≡ Some y → i < j
      → (x.line ≡ y.line → ⊥) × ((q r : Run) → slice_get (runs ++ more) x.line ≡ Some q → slice_get (runs ++ more) y.line ≡ Some r → SameSession q r → x.line < y.line)
  pub moments : (i : ℕ) (entry : Entry) → slice_get new i ≡ Some entry → MayBe may entry.moment
