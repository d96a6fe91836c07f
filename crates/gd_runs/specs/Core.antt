-- The core on one thread: a machine that takes events and gives reply lines.
use Rattle.std.specs.Prelude.{◌≡◌, ℕ, ◌+◌, max, min, List, [], ◌∷◌, ◌++◌, length, Bool, false, ◌==◌, nat_lt, ◌⊎◌, Option, Some, None, Result, Ok, Err, if◌then◌else◌, codes, IsTrue, pos}
use Rattle.std.specs.Bool.{MatchBool}
use Rattle.gd_prim.specs.declared.Batch.{Batch}
use Rattle.gd_tree.specs.Json.{text, number, object, Members as JsonMembers}
use Rattle.gd_defs.specs.History.{prims_at}
use Rattle.gd_bytes.specs.Cursor.{Cursor, cursor_of}
use Rattle.gd_defs.specs.Asked.{Asked, Unknown, asked_query}
use Rattle.gd_defs.specs.Reply.{Mark, reply, unknown_refusal, within_reply}
use Rattle.gd_runs.specs.Owed.{MembersOf}
use Rattle.gd_runs.specs.Thawed.{thawed_reply}
use Rattle.gd_runs.specs.Fitting.{fits}
use Rattle.gd_defs.specs.Lines.{Refusal, refusal, ok_line, err_line, err_line_plain, bad_cursor, cursor_ahead}
use Rattle.gd_defs.specs.Write.{WriteRequest, ChangeFault}
use Rattle.gd_runs.specs.Request.{ReadRequest, ReadSet, one_query, queries, queries_reply, CursorAsk, page_after, asks_page, change_refusal}
use Rattle.gd_runs.specs.Legal.{Entry, History, batches, size, with_entry, exec_line}
use Rattle.gd_runs.specs.Explained.{memory_line, late_line, disk_line, MayBe}
use Rattle.gd_bytes.specs.Frozen.{Frozen, spelling, Fits, IsFrozenText, IsBadFrozenAt}

-- an event of the core: beginning, slicing, freezing and thawing a read of a session, a write, a dateline to be learnt, and opening the store again; the moment of a write is what the clock gives
pub data Event : Type 0 where
  begin : ℕ → ReadSet → Event
  slice : ℕ → ℕ → Event
  write : ℕ → WriteRequest → Event
  learn : ℕ → ℕ → Event
  freeze : ℕ → Event
  thaw : ℕ → ReadSet → List ℕ → Event
  reopen : Event

-- a suspended read: its request and dateline, and of one query the row after which its page begins, and the text that it goes on from, if it was thawed
pub record Reading : Type 0 where
  pub request : ReadSet
  pub dateline : ℕ
  pub after : Option Mark
  pub thawed : Option Frozen

-- a session: how much it has seen, and the reading that it holds
pub record Session : Type 0 where
  pub seen : ℕ
  pub reading : Option Reading

-- the state of the core: the history, how much of it is shown, a group of which the disk has not told whether it counts, and the sessions
pub record State : Type 0 where
  pub history : History
  pub shown : ℕ
  pub doubt : Option Entry
  pub sessions : ℕ → Session

-- a state with one session anew
abbrev pub with_session : State → ℕ → Session → State
with_session s i session = record s { sessions = λ j. if j == i then session else s.sessions j }

-- the state after a session has entered: it has seen what is shown, and holds this reading
abbrev pub entered : State → ℕ → Option Reading → State
entered s i r = with_session s i (record { seen = s.shown; reading = r })

-- the state after a session has learnt a dateline: it has seen at least that, and at most what is shown
abbrev pub learnt : State → ℕ → ℕ → State
learnt s i m = with_session s i (record { seen = min s.shown (max m (s.sessions i).seen); reading = (s.sessions i).reading })

-- the state of a store that has been opened with these batches: all is shown, and nobody holds or has seen anything
abbrev pub opened : List Batch → State
opened loaded = record { history = record { loaded = loaded; entries = [] }; shown = length loaded; doubt = None; sessions = λ i. record { seen = 0; reading = None } }

-- a state settles as another, where a doubt is ended: the group is dropped or is an entry, which is shown with all others or for want of memory not yet
abbrev pub Settles : State → State → Type 0
Settles s t = by s.doubt
  where
    appended : Entry → State
    appended e = record s { history = with_entry s.history e; shown = size s.history + 1; doubt = None }

    unshown : Entry → State
    unshown e = record s { history = with_entry s.history e; doubt = None }

    by : Option Entry → Type 0
    by None = t ≡ s
    by (Some e) = (t ≡ record s { doubt = None }) ⊎ ((t ≡ appended e) ⊎ (t ≡ unshown e))

-- a write of line k can be stored: in this settled state, as this entry
pub record Writable (may : ℕ → Bool) (s : State) (k bytes : ℕ) (w : WriteRequest) (t : State) (e : Entry) : Type 0 where
  pub settled : Settles s t
  pub moment : MayBe may e.moment
  pub result : exec_line t.history w e.moment bytes ≡ Ok (e.batch, e.result)
  pub line : e.line ≡ k
  pub len : e.bytes ≡ bytes
  pub request : e.request ≡ w

-- the state with an entry that is not shown yet
abbrev pub after_entry : State → Entry → State
after_entry t e = record t { history = with_entry t.history e }

-- a write of line k, of so many bytes and in session i, prints a line and makes a state: it is stored and shown, stored and not shown, refused, in doubt, not tried, or without memory
pub data WriteStep (may : ℕ → Bool) (s : State) (k bytes i : ℕ) (w : WriteRequest) : List ℕ → State → Type 0 where
  stores : (t : State) (e : Entry) → Writable may s k bytes w t e →
      WriteStep may s k bytes i w (ok_line (size t.history + 1) k e.result) (learnt (record (after_entry t e) { shown = size t.history + 1 }) i (size t.history + 1))
  stores_late : (t : State) (e : Entry) → Writable may s k bytes w t e → WriteStep may s k bytes i w (late_line k (size t.history)) (after_entry t e)
  refuses : (t : State) (moment : ℕ) (f : ChangeFault) → Settles s t → exec_line t.history w moment bytes ≡ Err f →
      WriteStep may s k bytes i w (err_line (size t.history) k (change_refusal f)) t
  doubts : (t : State) (e : Entry) → Writable may s k bytes w t e → WriteStep may s k bytes i w (disk_line k (codes "maybe")) (record t { doubt = Some e })
  leaves_doubt : (e : Entry) → s.doubt ≡ Some e → WriteStep may s k bytes i w (disk_line k (codes "no")) s
  lacks_memory : WriteStep may s k bytes i w (memory_line k) s
  lacks_memory_settled : (t : State) → Settles s t → WriteStep may s k bytes i w (memory_line k) t

-- ---- readings

-- the reading of a request at a dateline, or where its query has no meaning the refusal with its dateline
abbrev pub with_meaning : List Batch → ReadRequest → ℕ → Option Mark → Result Asked Unknown → Result Reading (ℕ × Refusal)
with_meaning batches r dateline after (Err u) = Err (dateline, unknown_refusal u)
with_meaning batches r dateline after (Ok q) = Ok (record { request = one_query r; dateline = dateline; after = after; thawed = None })

-- the reading of one query that begins at a snapshot, or the refusal of its cursor or its query with the dateline
abbrev pub query_reading : List Batch → ℕ → ReadRequest → Result Reading (ℕ × Refusal)
query_reading batches snapshot r = by r.cursor
  where
    at : ℕ → Option Mark → Result Reading (ℕ × Refusal)
    at n after = with_meaning batches r n after (asked_query (prims_at batches n) r.query)

    page : Result Cursor ℕ → Result Reading (ℕ × Refusal)
    page (Err offset) = Err (snapshot, bad_cursor offset)
    page (Ok c) = if nat_lt snapshot c.dateline then Err (snapshot, cursor_ahead c.dateline snapshot) else at c.dateline (Some c.after)

    by : CursorAsk → Result Reading (ℕ × Refusal)
    by (page_after t) = page (cursor_of t)
    by _ = at snapshot None

-- the reading that begins at a snapshot; one of several queries has begun whatever they ask, since each is answered or refused by itself
abbrev pub reading_of : List Batch → ℕ → ReadSet → Result Reading (ℕ × Refusal)
reading_of batches snapshot (one_query r) = query_reading batches snapshot r
reading_of batches snapshot (queries rs) = Ok (record { request = queries rs; dateline = snapshot; after = None; thawed = None })

-- the reply line of line k that a reading owes which has begun
abbrev pub owed_reply : List Batch → ℕ → Reading → List ℕ
owed_reply batches k r = by r.request
  where
    by : ReadSet → List ℕ
    by (one_query q) = reply (prims_at batches r.dateline) r.dateline k (asks_page q.cursor) r.after q.query
    by (queries qs) = queries_reply batches r.dateline k qs

-- the reply line of line k that a reading owes
abbrev pub owed_line : List Batch → ℕ → Reading → List ℕ
owed_line batches k r = by r.thawed r.request
  where
    by : Option Frozen → ReadSet → List ℕ
    by (Some f) (one_query q) = thawed_reply batches k q f
    by _ _ = owed_reply batches k r

-- a frozen reading fits a request at its dateline, if the query has a meaning there
abbrev pub frozen_fits : MembersOf → List Batch → ReadRequest → Frozen → Bool
frozen_fits members batches r f = by (asked_query (prims_at batches f.dateline) r.query)
  where
    by : Result Asked Unknown → Bool
    by (Err u) = false
    by (Ok q) = fits (prims_at batches f.dateline) members q f

-- a reading of one query may be frozen as this one: of its dateline and mark, it has a text and fits, and it owes the same reply
pub record FreezesAs (members : MembersOf) (batches : List Batch) (q : ReadRequest) (r : Reading) (f : Frozen) : Type 0 where
  pub spelled : Fits f
  pub dateline : f.dateline ≡ r.dateline
  pub after : f.after ≡ r.after
  pub fitting : IsTrue (frozen_fits members batches q f)
  pub same : (k : ℕ) → thawed_reply batches k q f ≡ owed_line batches k r

-- the reply line of line k where no reading is held
abbrev pub no_reading_line : ℕ → List ℕ
no_reading_line k = err_line_plain k (refusal (codes "NoReading") [])

-- the reply line of line k where several queries cannot be frozen or thawed
abbrev pub many_queries_line : ℕ → List ℕ
many_queries_line k = err_line_plain k (refusal (codes "ManyQueries") [])

-- the reply line of line k with one word as its result
abbrev pub said : ℕ → ℕ → List ℕ → List ℕ
said dateline k what = ok_line dateline k (text what)

-- beginning: session i holds the reading, or is told its refusal and holds none
abbrev pub BeginStep : State → ℕ → ℕ → ReadSet → List ℕ → State → Type 0
BeginStep s k i r line t = by (reading_of (batches s.history) s.shown r)
  where
    by : Result Reading (ℕ × Refusal) → Type 0
    by (Ok reading) = (line ≡ said reading.dateline k (codes "begun")) × (t ≡ entered s i (Some reading))
    by (Err f) = (line ≡ err_line f.0 k f.1) × (t ≡ entered s i None)

-- slicing: session i is told that its reading is unfinished and holds it as it was, or has its reply and holds none
abbrev pub SliceStep : MembersOf → State → ℕ → ℕ → List ℕ → State → Type 0
SliceStep members s k i line t = by (s.sessions i).reading
  where
    by : Option Reading → Type 0
    by None = (line ≡ no_reading_line k) × (t ≡ s)
    by (Some r) = ((line ≡ said r.dateline k (codes "unfinished")) × (t ≡ entered s i (Some r)))
        ⊎ ((line ≡ owed_line (batches s.history) k r) × (t ≡ entered s i None))

-- learning: session i has seen the dateline, unless it is above what is shown
abbrev pub LearnStep : State → ℕ → ℕ → ℕ → List ℕ → State → Type 0
LearnStep s k i m line t = MatchBool (nat_lt s.shown m)
    ((line ≡ err_line s.shown k (cursor_ahead m s.shown)) × (t ≡ s))
    ((line ≡ said m k (codes "learnt")) × (t ≡ learnt s i m))

-- the reply line of line k with the text of a frozen reading, or the refusal of one that is too long
abbrev pub frozen_line : ℕ → Reading → Frozen → List ℕ
frozen_line k r f = within_reply r.dateline k (ok_line r.dateline k (object (JsonMembers.member (codes "frozen") (text (spelling f)) JsonMembers.no_members)))

-- freezing: session i is told a text of its reading, if that is of one query, and holds it as it was
abbrev pub FreezeStep : MembersOf → State → ℕ → ℕ → List ℕ → State → Type 0
FreezeStep members s k i line t = by (s.sessions i).reading
  where
    by : Option Reading → Type 0
    by None = (line ≡ no_reading_line k) × (t ≡ s)
    by (Some r) = (t ≡ s) × of r r.request
      where
        of : Reading → ReadSet → Type 0
        of r (one_query q) = (f : Frozen) × FreezesAs members (batches s.history) q r f × (line ≡ frozen_line k r f)
        of r (queries qs) = line ≡ many_queries_line k

-- the refusal of a text that goes so far as that of a frozen reading, and no further
abbrev pub bad_frozen : ℕ → Refusal
bad_frozen offset = refusal (codes "BadFrozen") ((codes "offset", number (pos offset)) ∷ [])

-- the state after a thaw that was refused: the session has entered, and holds what it held
abbrev pub refused_thaw : State → ℕ → State
refused_thaw s i = with_session s i (record { seen = s.shown; reading = (s.sessions i).reading })

-- thawing a frozen reading: it is ahead of what is shown, its query has no meaning there, it does not fit, or session i holds it
abbrev pub ThawsAs : MembersOf → State → ℕ → ℕ → ReadRequest → List ℕ → Frozen → List ℕ → State → Type 0
ThawsAs members s k i r bytes f line t =
    MatchBool (nat_lt s.shown f.dateline) ((line ≡ err_line s.shown k (cursor_ahead f.dateline s.shown)) × (t ≡ refused_thaw s i))
    (by (asked_query (prims_at (batches s.history) f.dateline) r.query))
  where
    by : Result Asked Unknown → Type 0
    by (Err u) = (line ≡ err_line f.dateline k (unknown_refusal u)) × (t ≡ refused_thaw s i)
    by (Ok q) = (IsTrue (frozen_fits members (batches s.history) r f) × (line ≡ said f.dateline k (codes "thawed"))
        × (t ≡ entered s i (Some (record { request = one_query r; dateline = f.dateline; after = f.after; thawed = Some f }))))
        ⊎ ((IsTrue (frozen_fits members (batches s.history) r f) → ⊥) × (line ≡ err_line s.shown k (bad_frozen (length bytes))) × (t ≡ refused_thaw s i))

-- thawing: the bytes are the text of a frozen reading of one query, which is thawed, or so many of them go with the grammar
abbrev pub ThawStep : MembersOf → State → ℕ → ℕ → ReadSet → List ℕ → List ℕ → State → Type 0
ThawStep members s k i (one_query r) bytes line t =
    ((f : Frozen) × IsFrozenText f bytes × ThawsAs members s k i r bytes f line t)
    ⊎ ((n : ℕ) × IsBadFrozenAt bytes n × (line ≡ err_line s.shown k (bad_frozen n)) × (t ≡ refused_thaw s i))
ThawStep members s k i (queries rs) bytes line t = (line ≡ many_queries_line k) × (t ≡ s)

-- opening again: the store has the batches of the history, with the group in doubt or without it
abbrev pub ReopenStep : State → ℕ → List ℕ → State → Type 0
ReopenStep s k line t = (line ≡ said (size t.history) k (codes "reopened"))
    × ((t ≡ opened (batches s.history)) ⊎ ((e : Entry) × (s.doubt ≡ Some e) × (t ≡ opened (batches s.history ++ e.batch ∷ []))))

-- an event of line k, of so many bytes, prints a line and makes a state
abbrev pub Step : MembersOf → (ℕ → Bool) → State → ℕ → ℕ → Event → List ℕ → State → Type 0
Step members may s k bytes (begin i r) line t = BeginStep s k i r line t
Step members may s k bytes (slice i budget) line t = SliceStep members s k i line t
Step members may s k bytes (write i w) line t = WriteStep may s k bytes i w line t
Step members may s k bytes (learn i m) line t = LearnStep s k i m line t
Step members may s k bytes (freeze i) line t = FreezeStep members s k i line t
Step members may s k bytes (thaw i r frozen) line t = ThawStep members s k i r frozen line t
Step members may s k bytes reopen line t = ReopenStep s k line t
