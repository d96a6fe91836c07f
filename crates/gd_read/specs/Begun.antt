-- Why a reading does not begin, as the definitions have it.
use Rattle.std.specs.Prelude.{◌≡◌, ◌≢◌, ℕ, ◌<◌, ◌^◌, [], nat_lt, Option, None, Some, Result, Ok, Err, MatchResult, if◌then◌else◌, codes}
use Rattle.gd_defs.specs.Asked as defs
use Rattle.gd_defs.specs.Lines.{Refusal, refusal, bad_cursor, cursor_ahead}
use Rattle.gd_defs.specs.Reply.{unknown_refusal}
use Rattle.gd_bytes.specs.Cursor.{Cursor, cursor_of}
use Rattle.gd_runs.specs.Request.{CursorAsk, page_after, ReadSet, one_query, queries}
use Rattle.gd_fault.specs.Fault.{code_view}
use Rattle.gd_read.specs.declared.fault.ReadFault.{ReadFault}
use Rattle.gd_read.specs.declared.fault.ReadFault.TheVariants as fault

-- the refusal that a fault is, with its dateline, where the latest one is this; want of memory is none, and what it is here tells nothing
abbrev pub fault_at : ℕ → ReadFault → ℕ × Refusal
fault_at latest (fault.BadCursor offset) = (latest, bad_cursor offset)
fault_at latest (fault.CursorAhead asked have) = (latest, cursor_ahead asked have)
fault_at latest (fault.BadQuery dateline code path) = (dateline, unknown_refusal (defs.bad_query (code_view code) path))
fault_at latest (fault.NoSuchId dateline path) = (dateline, unknown_refusal (defs.no_such_id path))
fault_at latest (fault.NoSuchProperty dateline path) = (dateline, unknown_refusal (defs.no_such_property path))
fault_at latest fault.Memory = (latest, refusal (codes "Memory") [])

-- an offset that it tells is one of a text
abbrev pub HasOffset : ReadFault → Type 0
HasOffset (fault.BadCursor offset) = offset < 2 ^ 63
HasOffset _ = Unit {0}

-- ---- where a reading begins

-- the cursor from which a read asks, where the latest dateline is this, or the refusal of it
abbrev pub asked_from : ℕ → CursorAsk → Result (Option Cursor) (ℕ × Refusal)
asked_from latest (page_after t) = by (cursor_of t)
  where
    by : Result Cursor ℕ → Result (Option Cursor) (ℕ × Refusal)
    by (Err offset) = Err (latest, bad_cursor offset)
    by (Ok c) = if nat_lt latest c.dateline then Err (latest, cursor_ahead c.dateline latest) else Ok (Some c)
asked_from latest _ = Ok None

-- the dateline of a cursor, or else the latest one
abbrev pub dateline_from : ℕ → Option Cursor → ℕ
dateline_from latest None = latest
dateline_from latest (Some c) = c.dateline

-- the dateline of a page, where the latest one is this, or the refusal of its cursor
abbrev pub page_dateline : ℕ → CursorAsk → Result ℕ (ℕ × Refusal)
page_dateline latest ask = by (asked_from latest ask)
  where
    by : Result (Option Cursor) (ℕ × Refusal) → Result ℕ (ℕ × Refusal)
    by (Ok after) = Ok (dateline_from latest after)
    by (Err f) = Err f

-- the dateline of a read, where the latest one is this, or the refusal of its cursor; of several queries it is that one
abbrev pub read_dateline : ℕ → ReadSet → Result ℕ (ℕ × Refusal)
read_dateline latest (one_query r) = page_dateline latest r.cursor
read_dateline latest (queries rs) = Ok latest

-- the call gives what is expected, or a refusal, in whose place want of memory may come
abbrev pub Begins : {A B : Type 0} → ℕ → (A → B) → Result B (ℕ × Refusal) → Result A ReadFault → Type 0
Begins latest view expected result = MatchResult result (λ a. expected ≡ Ok (view a)) (λ f. f ≢ fault.Memory → expected ≡ Err (fault_at latest f))

-- a query has no meaning at a dateline, and this is the refusal of it
abbrev pub IsMeaningless : {A : Type 0} → ℕ → Result A defs.Unknown → ℕ × Refusal → Type 0
IsMeaningless dateline (Ok a) refused = ⊥
IsMeaningless dateline (Err u) refused = refused ≡ (dateline, unknown_refusal u)
