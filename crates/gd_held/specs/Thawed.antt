-- A reading that goes on from a frozen text, and what thawing one comes to.
use Rattle.std.specs.Prelude.{◌≡◌, ◌≢◌, ℕ, ◌≤◌, List, take, true, false, Option, None, Some, Result, Ok, Err}
use Rattle.gd_prim.specs.declared.Batch.{Batch}
use Rattle.gd_prim.specs.History.{prims_of}
use Rattle.gd_defs.specs.Asked.{Asked, asked_query}
use Rattle.gd_defs.specs.Reply.{Answer}
use Rattle.gd_bytes.specs.Frozen.{Frozen}
use Rattle.gd_runs.specs.Core.{Reading}
use Rattle.gd_runs.specs.Fitting.{fits}
use Rattle.gd_runs.specs.Request.{ReadRequest, one_query, asks_page}
use Rattle.gd_mql.specs.Requests.{cursor_view, read_view}
use Rattle.gd_frozen.specs.Meaning.{reading_of}
use Rattle.gd_thawed.specs.PassedOn.{one_member}
use Rattle.gd_thawed.specs.Query.{IsGoing, owed_by_text}
use Rattle.gd_thawed.specs.Subject.{after_of}
use Rattle.gd_thawed.specs.Thaw.{IsSubjectOf}
use Rattle.gd_held.specs.Fault.{fault_at, HasOffset}
use Rattle.gd_held.specs.Thawing.{going_on, ThawComes}
use Rattle.gd_held.specs.declared.fault.ThawFault.{ThawFault}
use Rattle.gd_held.specs.declared.fault.ThawFault.TheVariants as fault
use Rattle.gd_held.specs.declared.thawed.ThawedReading.{ThawedReading}

-- the frozen reading from which it goes on
abbrev pub frozen_of : ThawedReading → Frozen
frozen_of t = reading_of t.from.value

-- the reading of the core that reads the same
abbrev pub thawed_view : ThawedReading → Reading
thawed_view t = record {
  request = one_query (read_view t.request);
  dateline = t.query.subject.dateline;
  after = after_of t.query.subject.after;
  thawed = Some (frozen_of t);
}

-- what its text owes over the batches below its dateline, where its query asks this
abbrev pub text_owes : List Batch → ThawedReading → Asked → Answer
text_owes batches t q = owed_by_text batches q (asks_page (cursor_view t.request.cursor)) (frozen_of t)

-- it goes on over the batches below its dateline, where its query has a meaning, and owes what its text owes there
pub record ThawedGoes (batches : List Batch) (t : ThawedReading) : Type 0 where
  pub query : Asked
  pub asked : asked_query (prims_of batches) (read_view t.request).query ≡ Ok query
  pub subject : IsSubjectOf query (asks_page (cursor_view t.request.cursor)) (frozen_of t) t.query.subject
  pub going : IsGoing batches (text_owes batches t query) t.query

-- it goes on over the batches below its dateline, of these, and that many are shown
abbrev pub ThawedGoesOn : List Batch → ℕ → ThawedReading → Type 0
ThawedGoesOn batches shown t = ((thawed_view t).dateline ≤ shown) × ThawedGoes (take (thawed_view t).dateline batches) t

-- ---- calls

-- a query that asks this goes on from a frozen reading, over the batches below its dateline; it does not exactly where that does not fit it
abbrev pub PlanThaws : List Batch → ReadRequest → Asked → Frozen → Option ThawedReading → Type 0
PlanThaws batches r q f None = fits (prims_of batches) one_member q f ≡ false
PlanThaws batches r q f (Some t) = (fits (prims_of batches) one_member q f ≡ true) × ((thawed_view t ≡ going_on r f) × ThawedGoes batches t)

-- thawing bytes comes to a reading, which goes on over the batches below its dateline, and that is shown
pub record Goes (batches : List Batch) (shown : ℕ) (request : ReadRequest) (bytes : List ℕ) (t : ThawedReading) : Type 0 where
  pub of : ThawComes batches shown request bytes (Ok (thawed_view t))
  pub going : ThawedGoesOn batches shown t

-- bytes are refused as the definitions say, or there was no memory
pub record IsUnthawed (batches : List Batch) (shown : ℕ) (request : ReadRequest) (bytes : List ℕ) (f : ThawFault) : Type 0 where
  pub of : f ≢ fault.Memory → ThawComes batches shown request bytes (Err (fault_at shown f))
  pub offset : HasOffset f

-- thawing gives a reading that goes on, or why there is none
abbrev pub Thaws : List Batch → ℕ → ReadRequest → List ℕ → Result ThawedReading ThawFault → Type 0
Thaws batches shown request bytes (Ok t) = Goes batches shown request bytes t
Thaws batches shown request bytes (Err f) = IsUnthawed batches shown request bytes f
