-- The laws of the core: a legal history explains what lines print that are served through it, on one thread and in rounds on threads.
use Rattle.std.specs.Prelude.{◌≡◌, ℕ, ◌+◌, ◌≤◌, List, [], ◌∷◌, ◌++◌, length, take, flat_map, Bool, Option, Ok, IsTrue, Some, slice_get}
use Rattle.gd_prim.specs.declared.Batch.{Batch}
use Rattle.gd_prim.specs.Builtin.{builtin}
use Rattle.gd_prim.specs.WellFormed.{all_follow}
use Rattle.gd_bytes.specs.File.{MayStandFor}
use Rattle.gd_defs.specs.Write.{WriteRequest}
use Rattle.gd_runs.specs.Owed.{MembersOf}
use Rattle.gd_runs.specs.Request.{read, ReadSet, reply_of}
use Rattle.gd_runs.specs.Input.{line_from}
use Rattle.gd_runs.specs.Legal.{Entry, History, batches, size, with_entries}
use Rattle.gd_runs.specs.Explained.{Numbered, Run, Explains, ExplainsRounds, ExplainsFront, IsExplainedBy, IsRoundAfter, MayBeLeft, StandsWith, answered, lines_of, lines_within}
use Rattle.gd_runs.specs.Core.{State, opened, WriteStep, begin, slice}
use Rattle.gd_runs.specs.Replay.{LacksMemory}
use Rattle.gd_runs.specs.Side.{Kept, Told, WriteLine, Begun, AreInOrder, doubt_groups, KeepsHistory, KeepsRound, IsLeft, IsFresh, WriteKeeps, told_of, session_lines}
use Rattle.gd_core_laws.specs.Serve.{EntersOnly, LinesServed, Serves}
use Rattle.gd_core_laws.specs.Served.{IsDoubted}
use Rattle.gd_core_laws.specs.Round.{StandsAt, RoundFacts, LineCame, begun_at, write_lines, kept_reply}
use Rattle.gd_core_laws.specs.Writes.{AreNew, AreAhead, KeepsSide, CallerWrites, after_kept}
use Rattle.gd_core_laws.specs.Threads.{RoundsServed}
use Rattle.gd_core_laws.specs.Lock.{FaultsMore, HasOutcome, LockKeeps, LockRun}
use Rattle.gd_core_laws.specs.Bounds.{told_most, least_later}

-- ---- one thread

-- Lines that are served one after another through the core print what its history explains.
abbrev pub LinesAreExplained : Type 0
LinesAreExplained = (members : MembersOf) (may : ℕ → Bool) (loaded : List Batch) (input output : List ℕ) (t : State) → IsTrue (all_follow builtin 0 loaded) → Serves members may loaded input output t
    → Explains loaded may input output t.history

-- So do those of the first n rounds of an input.
abbrev pub SomeLinesAreExplained : Type 0
SomeLinesAreExplained = (members : MembersOf) (may : ℕ → Bool) (loaded : List Batch) (n : ℕ) (input output : List ℕ) (t : State) → IsTrue (all_follow builtin 0 loaded)
    → LinesServed members may (opened loaded) 0 (lines_within n input) output t → ExplainsRounds n loaded may input output t.history

-- Where the first n lines were served, and not all that is due was printed, what was printed is the front of an output that is explained.
abbrev pub FrontsAreExplained : Type 0
FrontsAreExplained = (members : MembersOf) (may : ℕ → Bool) (loaded : List Batch) (n : ℕ) (input output due : List ℕ) (t : State) → IsTrue (all_follow builtin 0 loaded)
    → LinesServed members may (opened loaded) 0 (take n (lines_of input)) (output ++ due) t → ExplainsFront loaded may input output t.history

-- A read for which no memory was found changes nothing but sessions, and each has seen what it had seen or what is shown.
abbrev pub ReadsWithoutMemoryEnter : Type 0
ReadsWithoutMemoryEnter = (s t : State) (i budget : ℕ) (r : ReadSet) → (LacksMemory s (begin i r) t → EntersOnly s t) × (LacksMemory s (slice i budget) t → EntersOnly s t)

-- ---- writes

-- A write keeps what the side keeps of its history.
abbrev pub WritesKeepHistory : Type 0
WritesKeepHistory = (may : ℕ → Bool) (s : State) (outcomes : List Told) (k bytes : ℕ) (w : WriteRequest) (kept : Kept) (t : State) → KeepsHistory may s.history s.doubt outcomes → IsLeft outcomes k → IsFresh s.history s.doubt k
    → WriteKeeps may s k bytes w kept t → KeepsHistory may t.history t.doubt (outcomes ++ told_of k kept ∷ [])

-- What a write keeps is a step of the core: its session learns what was stored and shown, and the reply tells it.
abbrev pub KeptWritesAreSteps : Type 0
KeptWritesAreSteps = (may : ℕ → Bool) (s : State) (k bytes i : ℕ) (w : WriteRequest) (kept : Kept) (t : State) → WriteKeeps may s k bytes w kept t
    → WriteStep may s k bytes i w (kept_reply k kept) (after_kept i kept t)

-- What is in doubt when lines were served was left in doubt by one of them, and a file that may have it stands for the history, with or without it.
abbrev pub FilesHold : Type 0
FilesHold = (loaded : List Batch) (may : ℕ → Bool) (given : List Numbered) (output : List ℕ) (h : History) (runs : List Run) (doubt : Option Entry) → IsExplainedBy loaded may given output h runs → IsDoubted may h runs doubt
    → MayBeLeft may h runs doubt × ((file : List ℕ) → MayStandFor (batches h) (doubt_groups doubt) file → StandsWith h doubt file)

-- ---- rounds on threads

-- A write under the lock of a round keeps what the lock keeps, where the write line of its session before it was written.
abbrev pub LockedWritesKeep : Type 0
LockedWritesKeep = (may : ℕ → Bool) (l : Begun) (first : ℕ) (given : List Numbered) (s : State) (faults most : ℕ) (outcomes : List Told) (new : List Entry) (x : ℕ) (a : WriteLine) (kept : Kept) (t : State) (more : ℕ)
    → l.lines ≡ write_lines first given → KeepsHistory may s.history s.doubt outcomes → KeepsRound l s.history s.shown s.doubt faults most outcomes new → s.shown ≤ size s.history
    → slice_get l.lines x ≡ Some a → IsLeft outcomes a.line
    → ((q m : ℕ) → slice_get (session_lines l a.session) (q + 1) ≡ Some a.line → slice_get (session_lines l a.session) q ≡ Some m → HasOutcome outcomes m)
    → WriteKeeps may s a.line a.bytes a.request kept t → FaultsMore kept faults more most → LockKeeps may l most t more (outcomes ++ told_of a.line kept ∷ [])

-- The side that is taken out of the lock of a round keeps what the lock kept.
abbrev pub LocksKeep : Type 0
LocksKeep = (loaded : List Batch) (may : ℕ → Bool) (before : List Numbered) (printed : List ℕ) (s : State) (runs : List Run) (faults most : ℕ) (given : List Numbered) (t : State) (end : ℕ) (outs : List Told)
    → StandsAt loaded may before printed s.history s.shown s.doubt runs → LockRun may (begun_at s.history s.shown s.doubt faults (length runs) given) most s faults [] t end outs
    → LockKeeps may (begun_at s.history s.shown s.doubt faults (length runs) given) most t end outs

-- The writes that are left to the caller keep what is left of it.
abbrev pub CallersKeep : Type 0
CallersKeep = (may : ℕ → Bool) (l : Begun) (ls : List WriteLine) (s : State) (outcomes : List Told) (new : List Entry) (p : ℕ) (t : State) (outs : List Told) → AreNew l → KeepsSide may l p s outcomes new → AreAhead l p ls
    → CallerWrites may s outcomes ls t outs → (q : ℕ) × (more : List Entry) × KeepsSide may l q t outs more

-- A read that a worker answered came to what is asked of it, where its number lies between what its session was told and its later writes.
abbrev pub WorkedReadsFit : Type 0
WorkedReadsFit = (loaded : List Batch) (may : ℕ → Bool) (before : List Numbered) (printed : List ℕ) (h : History) (shown : ℕ) (doubt : Option Entry) (runs more : List Run) (round : ℕ) (g : History) (shows : ℕ)
    (lines : List WriteLine) (outcomes : List Told) (j : ℕ) (r : Run) (s : ℕ) (q : ReadSet) (m : ℕ) (entered : List Batch)
    → StandsAt loaded may before printed h shown doubt runs → ((i : ℕ) (x : Run) → slice_get more i ≡ Some x → x.line.round ≡ round) → AreInOrder outcomes
    → slice_get more j ≡ Some r → line_from r.line.bytes ≡ Ok (read s q)
    → m ≤ length entered → length entered ≤ shows → entered ≡ take (length entered) (batches g) → r.outcome ≡ answered m → r.reply ≡ reply_of entered m (length runs + j) q
    → shown ≤ m → told_most s (take j more) ≤ m → m ≤ least_later lines outcomes (length runs + j) s shows
    → LineCame (length h.loaded) (runs ++ more) g shows lines outcomes (length runs + j) r

-- A read that the caller answers at the least number of what is shown and its session's later writes came to what is asked of it.
abbrev pub ReadsAgainFit : Type 0
ReadsAgainFit = (least : ℕ) (runs : List Run) (g : History) (shows : ℕ) (lines : List WriteLine) (outcomes : List Told) (k : ℕ) (r : Run) (s : ℕ) (q : ReadSet) → AreInOrder outcomes → line_from r.line.bytes ≡ Ok (read s q)
    → r.outcome ≡ answered (least_later lines outcomes k s shows) → r.reply ≡ reply_of (batches g) (least_later lines outcomes k s shows) k q → LineCame least runs g shows lines outcomes k r

-- What stood before a round stands after it, and the round follows, where its facts hold.
abbrev pub RoundsFollow : Type 0
RoundsFollow = (loaded : List Batch) (may : ℕ → Bool) (before : List Numbered) (printed : List ℕ) (h : History) (shown : ℕ) (doubt : Option Entry) (runs : List Run) (round : ℕ) (given : List Numbered) (faults : ℕ) (output : List ℕ) (shows : ℕ)
    (doubts : Option Entry) (outcomes : List Told) (new : List Entry) (more : List Run)
    → StandsAt loaded may before printed h shown doubt runs → ((k : ℕ) (r : Run) → slice_get runs k ≡ Some r → r.line.round ≤ round) → ((j : ℕ) (l : Numbered) → slice_get given j ≡ Some l → l.round ≡ round)
    → KeepsHistory may (with_entries h new) doubts outcomes → RoundFacts h shown doubt faults runs given output (with_entries h new) shows doubts outcomes new more
    → IsRoundAfter may h runs round given output new more × StandsAt loaded may (before ++ given) (printed ++ output) (with_entries h new) shows doubts (runs ++ more)

-- The rounds of an input print what the history of the side explains.
abbrev pub RoundsAreExplained : Type 0
RoundsAreExplained = (loaded : List Batch) (may : ℕ → Bool) (rounds : List (List Numbered)) (input output : List ℕ) (t : State) → IsTrue (all_follow builtin 0 loaded) → flat_map (λ ls. ls) rounds ≡ lines_of input
    → RoundsServed may (opened loaded) [] 0 rounds output t → Explains loaded may input output t.history

-- So do the first n of them.
abbrev pub SomeRoundsAreExplained : Type 0
SomeRoundsAreExplained = (loaded : List Batch) (may : ℕ → Bool) (rounds : List (List Numbered)) (n : ℕ) (input output : List ℕ) (t : State) → IsTrue (all_follow builtin 0 loaded) → flat_map (λ ls. ls) rounds ≡ lines_within n input
    → RoundsServed may (opened loaded) [] 0 rounds output t → ExplainsRounds n loaded may input output t.history

-- Where some rounds were run, and not all that is due was printed, what was printed is the front of an output that is explained.
abbrev pub RoundFrontsAreExplained : Type 0
RoundFrontsAreExplained = (loaded : List Batch) (may : ℕ → Bool) (rounds : List (List Numbered)) (rest : List Numbered) (input output due : List ℕ) (t : State) → IsTrue (all_follow builtin 0 loaded)
    → flat_map (λ ls. ls) rounds ++ rest ≡ lines_of input → RoundsServed may (opened loaded) [] 0 rounds (output ++ due) t → ExplainsFront loaded may input output t.history
