-- What an event does to its session, over so many batches that are shown.
use Rattle.std.specs.Prelude.{◌≡◌, ℕ, max, min, List, Bool, false, nat_lt, ◌⊎◌, Option, Some, None, is_some, Result, Ok, Err, codes}
use Rattle.std.specs.Bool.{MatchBool}
use Rattle.gd_prim.specs.declared.Batch.{Batch}
use Rattle.gd_defs.specs.Lines.{Refusal, err_line, cursor_ahead}
use Rattle.gd_runs.specs.Request.{ReadSet, one_query, queries}
use Rattle.gd_bytes.specs.Frozen.{Frozen}
use Rattle.gd_runs.specs.Core as core
use Rattle.gd_runs.specs.Core.{Reading, Session, reading_of, owed_line, said, no_reading_line, many_queries_line, frozen_line}
use Rattle.gd_held.specs.PassedOn.{one_member}
use Rattle.gd_held.specs.Thawing.{ThawComes}

-- a session that has seen nothing, and holds nothing
abbrev pub new_session : Session
new_session = record { seen = 0; reading = None }

-- a session that has entered where so much is shown, and holds this
abbrev pub in_session : ℕ → Option Reading → Session
in_session shown r = record { seen = shown; reading = r }

-- a session that has learnt a dateline where so much is shown
abbrev pub learnt_session : ℕ → ℕ → Session → Session
learnt_session shown m old = record { seen = min shown (max m old.seen); reading = old.reading }

-- a reading that was thawed is held
abbrev pub holds_thawed : Option Reading → Bool
holds_thawed None = false
holds_thawed (Some r) = is_some r.thawed

-- beginning a read prints a line and makes a session
abbrev pub BeginsAs : List Batch → ℕ → ℕ → ReadSet → List ℕ → Session → Type 0
BeginsAs batches shown k r line session = by (reading_of batches shown r)
  where
    by : Result Reading (ℕ × Refusal) → Type 0
    by (Ok reading) = (line ≡ said reading.dateline k (codes "begun")) × (session ≡ in_session shown (Some reading))
    by (Err f) = (line ≡ err_line f.0 k f.1) × (session ≡ in_session shown None)

-- a slice prints a line and makes a session of an old one
abbrev pub SlicesAs : List Batch → ℕ → ℕ → Session → List ℕ → Session → Type 0
SlicesAs batches shown k old line session = by old.reading
  where
    by : Option Reading → Type 0
    by None = (line ≡ no_reading_line k) × (session ≡ old)
    by (Some r) = ((line ≡ said r.dateline k (codes "unfinished")) × (session ≡ in_session shown (Some r)))
        ⊎ ((line ≡ owed_line batches k r) × (session ≡ in_session shown None))

-- learning prints a line and makes a session of an old one
abbrev pub LearnsAs : ℕ → ℕ → ℕ → Session → List ℕ → Session → Type 0
LearnsAs shown k m old line session = MatchBool (nat_lt shown m)
    ((line ≡ err_line shown k (cursor_ahead m shown)) × (session ≡ old))
    ((line ≡ said m k (codes "learnt")) × (session ≡ learnt_session shown m old))

-- freezing prints a line: that no reading is held, or a text of the one that is, or that it is of several queries
abbrev pub FreezesAs : List Batch → ℕ → Option Reading → List ℕ → Type 0
FreezesAs batches k None line = line ≡ no_reading_line k
FreezesAs batches k (Some r) line = by r.request
  where
    by : ReadSet → Type 0
    by (one_query q) = (f : Frozen) × core.FreezesAs one_member batches q r f × (line ≡ frozen_line k r f)
    by (queries qs) = line ≡ many_queries_line k

-- what thawing comes to is told, and makes a session of an old one: it holds the reading that goes on, or what it held
abbrev pub TellsThawed : ℕ → ℕ → Session → Result Reading (ℕ × Refusal) → List ℕ → Session → Type 0
TellsThawed shown k old (Ok reading) line session = (line ≡ said reading.dateline k (codes "thawed")) × (session ≡ in_session shown (Some reading))
TellsThawed shown k old (Err f) line session = (line ≡ err_line f.0 k f.1) × (session ≡ in_session shown old.reading)

-- thawing prints a line and makes a session of an old one
abbrev pub ThawsAs : List Batch → ℕ → ℕ → ReadSet → List ℕ → Session → List ℕ → Session → Type 0
ThawsAs batches shown k (one_query r) bytes old line session = (outcome : Result Reading (ℕ × Refusal)) × ThawComes batches shown r bytes outcome × TellsThawed shown k old outcome line session
ThawsAs batches shown k (queries rs) bytes old line session = (line ≡ many_queries_line k) × (session ≡ old)
