-- What the writing side keeps: its outcomes agree with the history, and the disk holds it.
use Rattle.std.specs.Prelude.{◌≡◌, ℕ, ◌+◌, ◌<◌, ◌≤◌, ◌==◌, ◌⊎◌, List, [], ◌∷◌, length, take, map, filter, count_by, Bool, true, false, IsTrue, Option, Some, None, Err, slice_get}
use Rattle.std.specs.List.{list_any}
use Rattle.gd_prim.specs.declared.Batch.{Batch}
use Rattle.gd_tree.specs.Json.{Json}
use Rattle.gd_defs.specs.Write.{WriteRequest, ChangeFault}
use Rattle.gd_bytes.specs.File.{MayStandFor}
use Rattle.gd_runs.specs.Legal.{Entry, History, batches, size, with_entry, with_entries, upto, exec_line, IsLegal}
use Rattle.gd_runs.specs.Explained.{IsOfLine, MayBe, entry_at}
use Rattle.gd_runs.specs.Core.{State, Settles, Writable, after_entry}

-- what is kept of a write line: the number of its entry and its result, of an entry that is not shown yet, why it was refused over so many batches, over how many it is in doubt, that it was not tried, or that no memory was found
pub data Kept : Type 0 where
  kept_stored : ℕ → Json → Kept
  kept_late : ℕ → Kept
  kept_refused : ChangeFault → ℕ → Kept
  kept_doubt : ℕ → Kept
  kept_unsettled kept_memory : Kept

-- the number of what is kept: of an entry, or of the batches over which it was refused or is in doubt
abbrev pub number_of : Kept → Option ℕ
number_of (kept_stored e r) = Some e
number_of (kept_late e) = Some e
number_of (kept_refused f n) = Some n
number_of (kept_doubt n) = Some n
number_of _ = None

-- the entry that is kept, if it is one
abbrev pub entry_of : Kept → Option ℕ
entry_of (kept_stored e r) = Some e
entry_of (kept_late e) = Some e
entry_of _ = None

-- a group in doubt, if it is of this line, would become this entry
abbrev pub DoubtStandsAt : Option Entry → ℕ → ℕ → ℕ → Type 0
DoubtStandsAt None line next n = Unit {0}
DoubtStandsAt (Some entry) line next n = entry.line ≡ line → n ≡ next

-- what is kept of a line agrees with a history and the group in doubt
abbrev pub Agrees : History → Option Entry → ℕ → Kept → Type 0
Agrees h doubt line (kept_stored e r) = (entry : Entry) × IsOfLine h line e entry × (entry.result ≡ r)
Agrees h doubt line (kept_late e) = (entry : Entry) × IsOfLine h line e entry
Agrees h doubt line (kept_doubt n) = ((e : ℕ) (entry : Entry) → IsOfLine h line e entry → n ≡ e) × DoubtStandsAt doubt line (size h) n
Agrees h doubt line _ = Unit {0}

-- a line with what is kept of it
pub record Told : Type 0 where
  pub line : ℕ
  pub kept : Kept

-- what is kept stands in the order of the writes: the lines differ, the numbers do not fall, and behind an entry they are above it
pub record AreInOrder (outcomes : List Told) : Type 0 where
  pub lines : (i j : ℕ) (a b : Told) → slice_get outcomes i ≡ Some a → slice_get outcomes j ≡ Some b → i < j → a.line ≡ b.line → ⊥
  pub rise : (i j m n : ℕ) (a b : Told) → slice_get outcomes i ≡ Some a → slice_get outcomes j ≡ Some b → i < j → number_of a.kept ≡ Some m → number_of b.kept ≡ Some n → m ≤ n
  pub above : (i j e n : ℕ) (a b : Told) → slice_get outcomes i ≡ Some a → slice_get outcomes j ≡ Some b → i < j → entry_of a.kept ≡ Some e → number_of b.kept ≡ Some n → e < n

-- the groups in doubt, one or none
abbrev pub doubt_groups : Option Entry → List (List Batch)
doubt_groups None = []
doubt_groups (Some e) = (e.batch ∷ []) ∷ []

-- a group in doubt, if there is one, may become the next entry
abbrev pub MayFollow : (ℕ → Bool) → History → Option Entry → Type 0
MayFollow may h None = Unit {0}
MayFollow may h (Some e) = IsLegal (with_entry h e) × MayBe may e.moment

-- What the side keeps of its history and of what is kept of lines: the history is legal, a group in doubt may be its next entry, its moments are those of the clock, and what is kept agrees with it, in the order of the writes and with no number above its size.
pub record KeepsHistory (may : ℕ → Bool) (h : History) (doubt : Option Entry) (outcomes : List Told) : Type 0 where
  pub legal : IsLegal h
  pub next : MayFollow may h doubt
  pub moments : (e : ℕ) (entry : Entry) → entry_at h e ≡ Some entry → MayBe may entry.moment
  pub agree : (i : ℕ) (t : Told) → slice_get outcomes i ≡ Some t → Agrees h doubt t.line t.kept
  pub order : AreInOrder outcomes
  pub within : (i n : ℕ) (t : Told) → slice_get outcomes i ≡ Some t → number_of t.kept ≡ Some n → n ≤ size h

-- What stands behind the lock of writes: the working list, the published list with its number, the images of the disk, the outcomes.
pub record Keeps (may : ℕ → Bool) (h : History) (shown : ℕ) (doubt : Option Entry) (working published : List Batch) (images : List ℕ → Type 0) (outcomes : List Told) : Type 0 where
  pub history : KeepsHistory may h doubt outcomes
  pub works : working ≡ batches h
  pub shows : published ≡ take shown working
  pub count : length published ≡ shown
  pub holds : (file : List ℕ) → images file → MayStandFor (batches h) (doubt_groups doubt) file

-- ---- a write

-- a line with what is kept of it
abbrev pub told_of : ℕ → Kept → Told
told_of k kept = record { line = k; kept = kept }

-- nothing is kept of line k
abbrev pub IsLeft : List Told → ℕ → Type 0
IsLeft outcomes k = (i : ℕ) (t : Told) → slice_get outcomes i ≡ Some t → t.line ≡ k → ⊥

-- no entry and no group in doubt is of line k
pub record IsFresh (h : History) (doubt : Option Entry) (k : ℕ) : Type 0 where
  pub entries : (e : ℕ) (x : Entry) → entry_at h e ≡ Some x → x.line ≡ k → ⊥
  pub doubted : (x : Entry) → doubt ≡ Some x → x.line ≡ k → ⊥

-- a write of line k, of so many bytes, keeps this and makes a state: as a step of the core, without a session
pub data WriteKeeps (may : ℕ → Bool) (s : State) (k bytes : ℕ) (w : WriteRequest) : Kept → State → Type 0 where
  stores : (t : State) (e : Entry) → Writable may s k bytes w t e → WriteKeeps may s k bytes w (kept_stored (size t.history) e.result) (record (after_entry t e) { shown = size t.history + 1 })
  stores_late : (t : State) (e : Entry) → Writable may s k bytes w t e → WriteKeeps may s k bytes w (kept_late (size t.history)) (after_entry t e)
  refuses : (t : State) (moment : ℕ) (f : ChangeFault) → Settles s t → exec_line t.history w moment bytes ≡ Err f → WriteKeeps may s k bytes w (kept_refused f (size t.history)) t
  doubts : (t : State) (e : Entry) → Writable may s k bytes w t e → WriteKeeps may s k bytes w (kept_doubt (size t.history)) (record t { doubt = Some e })
  leaves_doubt : (e : Entry) → s.doubt ≡ Some e → WriteKeeps may s k bytes w kept_unsettled s
  lacks_memory : WriteKeeps may s k bytes w kept_memory s
  lacks_memory_settled : (t : State) → Settles s t → WriteKeeps may s k bytes w kept_memory t

-- ---- in a round

-- a write line of a round: its number, its session, its request and its length
pub record WriteLine : Type 0 where
  pub line : ℕ
  pub session : ℕ
  pub request : WriteRequest
  pub bytes : ℕ

-- what stood when the round began: the history, the number shown, the group in doubt, the disk's count, and the round's write lines in order
pub record Begun : Type 0 where
  pub history : History
  pub shown : ℕ
  pub doubt : Option Entry
  pub faults : ℕ
  pub lines : List WriteLine

-- an entry is the group that was in doubt when the round began
abbrev pub IsOldDoubt : Begun → Entry → Type 0
IsOldDoubt l entry = l.doubt ≡ Some entry

-- what is kept may be an entry
abbrev pub is_stored_or_doubt : Kept → Bool
is_stored_or_doubt (kept_stored e r) = true
is_stored_or_doubt (kept_late e) = true
is_stored_or_doubt (kept_doubt n) = true
is_stored_or_doubt _ = false

-- an entry is of a line of the round, of which something is kept that may be it
abbrev pub IsOfBegun : Begun → List Told → Entry → Type 0
IsOfBegun l outcomes entry = (i : ℕ) × (a : WriteLine) × (slice_get l.lines i ≡ Some a) × (a.line ≡ entry.line) × (a.request ≡ entry.request) × (a.bytes ≡ entry.bytes)
    × ((j : ℕ) × (t : Told) × (slice_get outcomes j ≡ Some t) × (t.line ≡ entry.line) × IsTrue (is_stored_or_doubt t.kept))

-- where a refusal is kept of a line, it is that of its write over so many batches of the history
abbrev pub IsRefusalOf : History → WriteLine → Kept → Type 0
IsRefusalOf h a (kept_refused f n) = (n ≤ size h) × ((moment : ℕ) × (exec_line (upto n h) a.request moment a.bytes ≡ Err f))
IsRefusalOf h a k = Unit {0}

-- the lines of a session, in order
abbrev pub session_lines : Begun → ℕ → List ℕ
session_lines l s = map (λ a. a.line) (filter (λ a. a.session == s) l.lines)

-- the lines of a session of which something is kept, in the order of what is kept
abbrev pub session_outcomes : Begun → ℕ → List Told → List ℕ
session_outcomes l s outcomes = filter (λ n. list_any (λ m. m == n) (session_lines l s)) (map (λ t. t.line) outcomes)

-- what is kept tells a failure of the disk, in the write or in the settling before it
abbrev pub is_fault : Kept → Bool
is_fault (kept_doubt n) = true
is_fault kept_unsettled = true
is_fault _ = false

-- What stands behind the lock in a round, beside `Keeps`: most is where a count of faults stays.
pub record KeepsRound (l : Begun) (h : History) (shown : ℕ) (doubt : Option Entry) (faults most : ℕ) (outcomes : List Told) (new : List Entry) : Type 0 where
  pub grown : h ≡ with_entries l.history new
  -- no line of the round is that of an old entry or of the old doubt
  pub fresh : (i e : ℕ) (a : WriteLine) (x : Entry) → slice_get l.lines i ≡ Some a → entry_at l.history e ≡ Some x → a.line ≡ x.line → ⊥
  pub fresh_doubt : (i : ℕ) (a : WriteLine) (x : Entry) → slice_get l.lines i ≡ Some a → IsOldDoubt l x → a.line ≡ x.line → ⊥
  -- a new entry, and a group that is in doubt now, is the old doubt or of a line of the round
  pub entries : (i : ℕ) (x : Entry) → slice_get new i ≡ Some x → ((i ≡ 0) × IsOldDoubt l x) ⊎ IsOfBegun l outcomes x
  pub in_doubt : (x : Entry) → doubt ≡ Some x → IsOldDoubt l x ⊎ IsOfBegun l outcomes x
  -- each outcome is of a line of the round
  pub outcomes_of : (j : ℕ) (t : Told) → slice_get outcomes j ≡ Some t → (i : ℕ) × (a : WriteLine) × (slice_get l.lines i ≡ Some a) × (a.line ≡ t.line) × IsRefusalOf h a t.kept
  pub least : (j n : ℕ) (t : Told) → slice_get outcomes j ≡ Some t → number_of t.kept ≡ Some n → size l.history ≤ n
  -- while the old doubt is in doubt, no entry is new
  pub waits : (x : Entry) → IsOldDoubt l x → doubt ≡ Some x → new ≡ []
  pub shows : l.shown ≤ shown
  pub shows_stored : (j e : ℕ) (r : Json) (t : Told) → slice_get outcomes j ≡ Some t → t.kept ≡ kept_stored e r → e < shown
  -- the outcomes of a session are those of its first write lines
  pub firsts : (s : ℕ) → (n : ℕ) × (session_outcomes l s outcomes ≡ take n (session_lines l s))
  pub failed : (l.faults + count_by (λ t. is_fault t.kept) outcomes ≤ faults) ⊎ (faults ≡ most)
