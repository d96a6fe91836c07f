-- What stands after a round on threads, in terms of what each part kept: the side, the workers' replies, and the caller's reads.
use Rattle.std.specs.Prelude.{◌≡◌, ℕ, ◌+◌, ◌<◌, ◌≤◌, ◌⊎◌, List, [], ◌∷◌, ◌++◌, length, take, map, flat_map, Bool, Option, Some, Result, Ok, Err, slice_get, codes}
use Rattle.gd_prim.specs.declared.Batch.{Batch}
use Rattle.gd_tree.specs.Json.{Json}
use Rattle.gd_defs.specs.Lines.{ok_line, err_line}
use Rattle.gd_defs.specs.Write.{WriteRequest}
use Rattle.gd_runs.specs.Request.{Line, read, write, ReadSet, reply_of, change_refusal}
use Rattle.gd_runs.specs.Input.{InputFault, line_from, input_fault_line}
use Rattle.gd_runs.specs.Legal.{Entry, History, batches, size, with_entries}
use Rattle.gd_runs.specs.Explained.{Numbered, Run, Outcome, no_request, no_memory, stored, refused, late, in_doubt, not_tried, answered, memory_line, late_line, disk_line, TakesIn, IsExplainedBy, told_dateline}
use Rattle.gd_runs.specs.Side.{Kept, kept_stored, kept_late, kept_refused, kept_doubt, kept_unsettled, kept_memory, number_of, Told, WriteLine, Begun, IsOldDoubt, IsOfBegun, IsRefusalOf, IsLeft}
use Rattle.gd_core_laws.specs.Served.{IsDoubted}

-- the write line that a line is, if it is one
abbrev pub one_write : ℕ → ℕ → Result Line InputFault → List WriteLine
one_write k bytes (Ok (write s w)) = record { line = k; session = s; request = w; bytes = bytes } ∷ []
one_write k bytes _ = []

-- the write lines among lines, the first of them line k
abbrev pub write_lines : ℕ → List Numbered → List WriteLine
write_lines k [] = []
write_lines k (l ∷ ls) = one_write k (length l.bytes) (line_from l.bytes) ++ write_lines (k + 1) ls

-- what stands between two rounds: the history explains the lines so far, what is shown takes in all that was told, and a group in doubt is of one of these lines
pub record StandsAt (loaded : List Batch) (may : ℕ → Bool) (given : List Numbered) (output : List ℕ) (h : History) (shown : ℕ) (doubt : Option Entry) (runs : List Run) : Type 0 where
  pub explained : IsExplainedBy loaded may given output h runs
  pub least : length h.loaded ≤ shown
  pub most : shown ≤ size h
  pub told : (k : ℕ) (r : Run) (d : ℕ) → slice_get runs k ≡ Some r → told_dateline r.line.bytes r.outcome ≡ Some d → d ≤ shown
  pub doubted : IsDoubted may h runs doubt

-- What the side keeps of the writes of a round once the caller has run those that were left: as in the round, but that a write for which the caller found no memory may be passed over, so that the outcomes of a session are only in the order of its lines.
pub record KeepsWrites (l : Begun) (h : History) (shown : ℕ) (doubt : Option Entry) (outcomes : List Told) (new : List Entry) : Type 0 where
  pub grown : h ≡ with_entries l.history new
  pub entries : (i : ℕ) (x : Entry) → slice_get new i ≡ Some x → ((i ≡ 0) × IsOldDoubt l x) ⊎ IsOfBegun l outcomes x
  pub in_doubt : (x : Entry) → doubt ≡ Some x → IsOldDoubt l x ⊎ IsOfBegun l outcomes x
  pub outcomes_of : (j : ℕ) (t : Told) → slice_get outcomes j ≡ Some t → (i : ℕ) × (a : WriteLine) × (slice_get l.lines i ≡ Some a) × (a.line ≡ t.line) × IsRefusalOf h a t.kept
  pub least : (j n : ℕ) (t : Told) → slice_get outcomes j ≡ Some t → number_of t.kept ≡ Some n → size l.history ≤ n
  pub waits : (x : Entry) → IsOldDoubt l x → doubt ≡ Some x → new ≡ []
  pub shows : l.shown ≤ shown
  pub shows_stored : (j e : ℕ) (r : Json) (t : Told) → slice_get outcomes j ≡ Some t → t.kept ≡ kept_stored e r → e < shown
  pub sorted : (i j x y : ℕ) (t u : Told) (a b : WriteLine) → slice_get outcomes i ≡ Some t → slice_get outcomes j ≡ Some u → i < j → slice_get l.lines x ≡ Some a → slice_get l.lines y ≡ Some b
      → a.line ≡ t.line → b.line ≡ u.line → a.session ≡ b.session → t.line < u.line

-- what a line came to of whose write this is kept
abbrev pub kept_outcome : Kept → Outcome
kept_outcome (kept_stored e r) = stored e
kept_outcome (kept_late e) = late e
kept_outcome (kept_refused f n) = refused n
kept_outcome (kept_doubt n) = in_doubt
kept_outcome kept_unsettled = not_tried
kept_outcome kept_memory = no_memory

-- the reply to line k, of whose write this is kept
abbrev pub kept_reply : ℕ → Kept → List ℕ
kept_reply k (kept_stored e r) = ok_line (e + 1) k r
kept_reply k (kept_late e) = late_line k e
kept_reply k (kept_refused f n) = err_line n k (change_refusal f)
kept_reply k (kept_doubt n) = disk_line k (codes "maybe")
kept_reply k kept_unsettled = disk_line k (codes "no")
kept_reply k kept_memory = memory_line k

-- a number is not above the number of any later write line of a session
abbrev pub IsBelowLater : List WriteLine → List Told → ℕ → ℕ → ℕ → Type 0
IsBelowLater lines outcomes k session m = (i x n : ℕ) (t : Told) (a : WriteLine) → slice_get outcomes i ≡ Some t → slice_get lines x ≡ Some a → a.line ≡ t.line → a.session ≡ session → k < t.line → number_of t.kept ≡ Some n → m ≤ n

-- What line k of a round came to and printed: no line, a write of which an outcome is kept, no memory, a read that a worker answered and whose number was found to fit, or a read that the caller answered at the greatest number that fits.
pub data LineCame (least : ℕ) (runs : List Run) (h : History) (shown : ℕ) (lines : List WriteLine) (outcomes : List Told) (k : ℕ) (r : Run) : Type 0 where
  faulty : (f : InputFault) → line_from r.line.bytes ≡ Err f → r.outcome ≡ no_request → r.reply ≡ input_fault_line k f → LineCame least runs h shown lines outcomes k r
  wrote : (s : ℕ) (w : WriteRequest) (i : ℕ) (t : Told) → line_from r.line.bytes ≡ Ok (write s w) → slice_get outcomes i ≡ Some t → t.line ≡ k → r.outcome ≡ kept_outcome t.kept → r.reply ≡ kept_reply k t.kept
      → LineCame least runs h shown lines outcomes k r
  lacks_memory : ((s : ℕ) (w : WriteRequest) → line_from r.line.bytes ≡ Ok (write s w) → IsLeft outcomes k) → r.outcome ≡ no_memory → r.reply ≡ memory_line k → LineCame least runs h shown lines outcomes k r
  -- over the list that its session entered last, which begins what is shown
  worked : (s : ℕ) (q : ReadSet) (m : ℕ) (entered : List Batch) → line_from r.line.bytes ≡ Ok (read s q) → m ≤ length entered → length entered ≤ shown → entered ≡ take (length entered) (batches h)
      → r.outcome ≡ answered m → r.reply ≡ reply_of entered m k q → TakesIn least runs k r m → IsBelowLater lines outcomes k s m → LineCame least runs h shown lines outcomes k r
  -- over the working list
  read_again : (s : ℕ) (q : ReadSet) (m : ℕ) → line_from r.line.bytes ≡ Ok (read s q) → r.outcome ≡ answered m → r.reply ≡ reply_of (batches h) m k q
      → m ≤ shown → IsBelowLater lines outcomes k s m → ((d : ℕ) → d ≤ shown → IsBelowLater lines outcomes k s d → d ≤ m) → LineCame least runs h shown lines outcomes k r

-- what stood when a round began
abbrev pub begun_at : History → ℕ → Option Entry → ℕ → ℕ → List Numbered → Begun
begun_at h shown doubt faults k given = record { history = h; shown = shown; doubt = doubt; faults = faults; lines = write_lines k given }

-- The facts of a round: what the side keeps of the writes, and what each line came to and printed.
pub record RoundFacts (h : History) (shown : ℕ) (doubt : Option Entry) (faults : ℕ) (runs : List Run) (given : List Numbered) (output : List ℕ) (g : History) (shows : ℕ) (doubts : Option Entry) (outcomes : List Told) (new : List Entry) (more : List Run) : Type 0 where
  pub writes : KeepsWrites (begun_at h shown doubt faults (length runs) given) g shows doubts outcomes new
  pub most : shows ≤ size g
  pub lines : map (λ r. r.line) more ≡ given
  pub replies : output ≡ flat_map (λ r. r.reply ++ 10 ∷ []) more
  pub came : (j : ℕ) (r : Run) → slice_get more j ≡ Some r → LineCame (length h.loaded) (runs ++ more) g shows (write_lines (length runs) given) outcomes (length runs + j) r
