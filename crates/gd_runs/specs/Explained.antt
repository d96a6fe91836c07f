-- When one legal history explains every line that a run printed.
pub mod Lines
pub mod Outcomes
pub mod Runs
pub mod Rounds
pub use Rattle.gd_runs.specs.Explained.Lines.{Numbered, without_return, pieces, max_round, numbered, lines_of}
pub use Rattle.gd_runs.specs.Explained.Outcomes.{Outcome, no_request, no_memory, stored, refused, late, in_doubt, not_tried, answered, memory_line, late_line, disk_line, entry_at, IsOfLine, IsWithin, IsWrite, Prints, HasNumber, MayBeEntry, DoesLine, session_of, cursor_dateline, ask_dateline, read_dateline, line_dateline, printed_dateline, stored_dateline, told_dateline}
pub use Rattle.gd_runs.specs.Explained.Runs.{Run, SameSession, is_upto, stands_upto, TakesIn, IsBounded, MayBe, IsOfRun}
pub use Rattle.gd_runs.specs.Explained.Rounds.{IsOfRound, IsOldDoubt, IsRoundAfter}
use Rattle.std.specs.Prelude.{◌||◌, bytes_eq, ◌≡◌, ℕ, ◌+◌, ◌<◌, ◌⊎◌, List, [], ◌∷◌, ◌++◌, map, filter, flat_map, Bool, nat_lt, Option, None, Some, slice_get, if◌then◌else◌, codes}
use Rattle.gd_prim.specs.declared.Batch.{Batch}
use Rattle.gd_bytes.specs.File.{StandsFor}
use Rattle.gd_runs.specs.Legal.{Entry, History, batches, with_entry, IsLegal}

-- A history explains lines and their output: it begins with the loaded batches and is legal, each line came to something and printed it by the history, and the entries are of these lines, in an order that sessions and rounds keep.
pub record IsExplainedBy (loaded : List Batch) (may : ℕ → Bool) (given : List Numbered) (output : List ℕ) (h : History) (runs : List Run) : Type 0 where
  pub begins : h.loaded ≡ loaded
  pub legal : IsLegal h
  pub lines : map (λ r. r.line) runs ≡ given
  pub replies : output ≡ flat_map (λ r. r.reply ++ 10 ∷ []) runs
  pub each : (k : ℕ) (r : Run) → slice_get runs k ≡ Some r → Prints h k r.line.bytes r.outcome r.reply
  -- no entry is of another line; since line numbers differ, no line has two
  pub entries : (e : ℕ) (entry : Entry) → entry_at h e ≡ Some entry → IsOfRun runs e entry
  pub bounds : (k : ℕ) (r : Run) (n : ℕ) → slice_get runs k ≡ Some r → HasNumber h k r.outcome n → IsBounded h runs k r n
  -- entries of one session stand in the order of their lines, those of an earlier round before those of a later one
  pub order : (d e : ℕ) (x y : Entry) (q r : Run) → entry_at h d ≡ Some x → entry_at h e ≡ Some y → slice_get runs x.line ≡ Some q → slice_get runs y.line ≡ Some r
      → ((x.line < y.line) × SameSession q r) ⊎ (q.line.round < r.line.round) → d < e
  pub moments : (e : ℕ) (entry : Entry) → entry_at h e ≡ Some entry → MayBe may entry.moment

-- the history explains the output for an input, on a store that was opened with these batches and with a clock that may give these moments
abbrev pub Explains : List Batch → (ℕ → Bool) → List ℕ → List ℕ → History → Type 0
Explains loaded may input output h = (runs : List Run) × IsExplainedBy loaded may (lines_of input) output h runs

-- the history explains an output that begins with this one
abbrev pub ExplainsFront : List Batch → (ℕ → Bool) → List ℕ → List ℕ → History → Type 0
ExplainsFront loaded may input output h = (rest : List ℕ) × Explains loaded may input (output ++ rest) h

-- the lines of the first so many rounds of an input
abbrev pub lines_within : ℕ → List ℕ → List Numbered
lines_within rounds input = filter (λ l. nat_lt l.round rounds) (lines_of input)

-- the history explains the output for the first so many rounds of an input
abbrev pub ExplainsRounds : ℕ → List Batch → (ℕ → Bool) → List ℕ → List ℕ → History → Type 0
ExplainsRounds rounds loaded may input output h = (runs : List Run) × IsExplainedBy loaded may (lines_within rounds input) output h runs

-- The write of one line that was left in doubt: the history may have it as its next entry, at a moment that the clock may give.
pub record IsLeftInDoubt (may : ℕ → Bool) (h : History) (runs : List Run) (entry : Entry) : Type 0 where
  pub run : Run
  pub doubt : IsOldDoubt h runs entry run
  pub legal : IsLegal (with_entry h entry)
  pub moment : MayBe may entry.moment

-- no write was left in doubt, or this one
abbrev pub MayBeLeft : (ℕ → Bool) → History → List Run → Option Entry → Type 0
MayBeLeft may h runs None = Unit {0}
MayBeLeft may h runs (Some entry) = IsLeftInDoubt may h runs entry

-- the bytes of a file stand for a history, or for it with the one entry that is in doubt
abbrev pub StandsWith : History → Option Entry → List ℕ → Type 0
StandsWith h None file = StandsFor file (batches h)
StandsWith h (Some entry) file = StandsFor file (batches h) ⊎ StandsFor file (batches (with_entry h entry))

-- At most one write was left in doubt, and all these files stand for the history, with or without it.
pub record Holds (may : ℕ → Bool) (h : History) (runs : List Run) (files : List ℕ → Type 0) : Type 0 where
  pub left : Option Entry
  pub may_be : MayBeLeft may h runs left
  pub each : (file : List ℕ) → files file → StandsWith h left file

-- the reply to line k tells a failure of the disk
abbrev pub tells_fault : ℕ → List ℕ → Bool
tells_fault k reply = bytes_eq reply (disk_line k (codes "maybe")) || bytes_eq reply (disk_line k (codes "no"))

-- how many replies tell a failure of the disk, where the first is that to line k
abbrev pub fault_count : ℕ → List (List ℕ) → ℕ
fault_count k [] = 0
fault_count k (reply ∷ replies) = (if tells_fault k reply then 1 else 0) + fault_count (k + 1) replies

-- how many lines of an output tell a failure of the disk
abbrev pub faults_told : List ℕ → ℕ
faults_told output = fault_count 0 (pieces [] output)
