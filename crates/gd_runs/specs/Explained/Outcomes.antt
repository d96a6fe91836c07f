-- What a line came to, and what it prints then by a history.
use Rattle.std.specs.Option.{option_flatten}
use Rattle.std.specs.Prelude.{◌≡◌, ℕ, ◌+◌, ◌≤◌, List, [], ◌∷◌, ◌++◌, length, map, nat_le, Option, Some, None, slice_get, Result, Ok, Err, if◌then◌else◌, codes}
use Rattle.gd_tree.specs.Json.{text}
use Rattle.gd_bytes.specs.Cursor.{Cursor, cursor_of}
use Rattle.gd_defs.specs.Lines.{refusal, ok_line, err_line, err_line_plain, count_json}
use Rattle.gd_defs.specs.Write.{WriteRequest, ChangeFault}
use Rattle.gd_runs.specs.Request.{Line, read, write, ReadSet, one_query, queries, CursorAsk, page_after, reply_of, change_refusal}
use Rattle.gd_runs.specs.Input.{line_from, InputFault, input_fault_line}
use Rattle.gd_runs.specs.Legal.{Entry, History, batches, size, upto, exec_line}

-- what a line came to: no request, or no memory for it; a write that was stored as an entry, was refused over the first n batches, is an entry that is not shown yet, is in doubt, or was not tried; a read that was answered at a snapshot
pub data Outcome : Type 0 where
  no_request no_memory : Outcome
  stored refused late : ℕ → Outcome
  in_doubt not_tried : Outcome
  answered : ℕ → Outcome

-- the reply line where no memory was found
abbrev pub memory_line : ℕ → List ℕ
memory_line k = err_line_plain k (refusal (codes "Memory") [])

-- the reply line to a write that is entry e and not shown yet
abbrev pub late_line : ℕ → ℕ → List ℕ
late_line k e = err_line_plain k (refusal (codes "MemoryLate") ((codes "entry", count_json e) ∷ []))

-- the reply line to a write at which the disk failed, with a word that says whether the write is stored
abbrev pub disk_line : ℕ → List ℕ → List ℕ
disk_line k stored_text = err_line_plain k (refusal (codes "DiskFault") ((codes "stored", text stored_text) ∷ []))

-- the entries of a history at their places, and none at the places of the loaded batches
abbrev pub places_of : History → List (Option Entry)
places_of h = map (λ b. None) h.loaded ++ map (λ e. Some e) h.entries

-- entry e of a history, counted with the loaded batches
abbrev pub entry_at : History → ℕ → Option Entry
entry_at h e = option_flatten (slice_get (places_of h) e)

-- an entry is number e of a history, and of line k
abbrev pub IsOfLine : History → ℕ → ℕ → Entry → Type 0
IsOfLine h k e entry = (entry_at h e ≡ Some entry) × (entry.line ≡ k)

-- a number of batches lies between the loaded ones and all of a history
pub record IsWithin (h : History) (n : ℕ) : Type 0 where
  pub loaded : length h.loaded ≤ n
  pub size : n ≤ size h

-- the bytes are a write
abbrev pub IsWrite : List ℕ → Type 0
IsWrite bytes = (s : ℕ) × (w : WriteRequest) × (line_from bytes ≡ Ok (write s w))

-- line k, where it came to this, prints this reply by the history
abbrev pub Prints : History → ℕ → List ℕ → Outcome → List ℕ → Type 0
Prints h k bytes no_request reply = (f : InputFault) × (line_from bytes ≡ Err f) × (reply ≡ input_fault_line k f)
Prints h k bytes no_memory reply = reply ≡ memory_line k
Prints h k bytes (stored e) reply = (entry : Entry) × (s : ℕ) × IsOfLine h k e entry × (line_from bytes ≡ Ok (write s entry.request)) × (reply ≡ ok_line (e + 1) k entry.result)
Prints h k bytes (late e) reply = (entry : Entry) × IsOfLine h k e entry × (reply ≡ late_line k e)
Prints h k bytes in_doubt reply = IsWrite bytes × (reply ≡ disk_line k (codes "maybe"))
Prints h k bytes not_tried reply = IsWrite bytes × (reply ≡ disk_line k (codes "no"))
Prints h k bytes (refused n) reply = (s : ℕ) × (w : WriteRequest) × (moment : ℕ) × (f : ChangeFault) × (line_from bytes ≡ Ok (write s w))
    × IsWithin h n × (exec_line (upto n h) w moment (length bytes) ≡ Err f) × (reply ≡ err_line n k (change_refusal f))
Prints h k bytes (answered m) reply = (s : ℕ) × (r : ReadSet) × (line_from bytes ≡ Ok (read s r)) × (m ≤ size h) × (reply ≡ reply_of (batches h) m k r)

-- the number of line k, where it came to this: of an entry its place, of a refusal or a read the number of batches over which it was made
abbrev pub HasNumber : History → ℕ → Outcome → ℕ → Type 0
HasNumber h k (stored e) n = n ≡ e
HasNumber h k (refused m) n = n ≡ m
HasNumber h k (late e) n = n ≡ e
HasNumber h k in_doubt n = (entry : Entry) × IsOfLine h k n entry
HasNumber h k (answered m) n = n ≡ m
HasNumber h k _ n = ⊥

-- a line that came to this may be entry e
abbrev pub MayBeEntry : Outcome → ℕ → Type 0
MayBeEntry (stored n) e = n ≡ e
MayBeEntry (late n) e = n ≡ e
MayBeEntry in_doubt e = Unit {0}
MayBeEntry _ e = ⊥

-- an entry does what the bytes of a line ask
abbrev pub DoesLine : List ℕ → Entry → Type 0
DoesLine bytes entry = (s : ℕ) × (line_from bytes ≡ Ok (write s entry.request)) × (entry.bytes ≡ length bytes)

-- the session of a line, none where it is no request
abbrev pub session_of : List ℕ → Option ℕ
session_of bytes = by (line_from bytes)
  where
    by : Result Line InputFault → Option ℕ
    by (Ok (read s r)) = Some s
    by (Ok (write s w)) = Some s
    by (Err f) = None

-- the dateline that a reply prints by its cursor: that of the cursor where it is not ahead of the snapshot, else the snapshot
abbrev pub cursor_dateline : ℕ → Result Cursor ℕ → ℕ
cursor_dateline m (Ok c) = if nat_le c.dateline m then c.dateline else m
cursor_dateline m (Err offset) = m

-- the dateline that a reply prints by the page that is asked for
abbrev pub ask_dateline : ℕ → CursorAsk → ℕ
ask_dateline m (page_after t) = cursor_dateline m (cursor_of t)
ask_dateline m _ = m

-- the dateline that a reply prints by its read: of several queries the snapshot
abbrev pub read_dateline : ℕ → ReadSet → ℕ
read_dateline m (one_query r) = ask_dateline m r.cursor
read_dateline m (queries rs) = m

-- the dateline that a reply prints by its line
abbrev pub line_dateline : ℕ → Result Line InputFault → ℕ
line_dateline m (Ok (read s r)) = read_dateline m r
line_dateline m _ = m

-- the dateline that the reply to a read at a snapshot prints
abbrev pub printed_dateline : List ℕ → ℕ → ℕ
printed_dateline bytes m = line_dateline m (line_from bytes)

-- the dateline that a write printed as stored
abbrev pub stored_dateline : Outcome → Option ℕ
stored_dateline (stored e) = Some (e + 1)
stored_dateline _ = None

-- the dateline that a line told its session: that of a write that was stored, or of a read
abbrev pub told_dateline : List ℕ → Outcome → Option ℕ
told_dateline bytes (stored e) = Some (e + 1)
told_dateline bytes (answered m) = Some (printed_dateline bytes m)
told_dateline bytes _ = None
