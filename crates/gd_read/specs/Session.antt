-- What a session holds of its reading, and what beginning a reading and going on with it come to.
use Rattle.std.specs.Prelude.{◌≡◌, ◌≢◌, ℕ, ◌≤◌, List, take, Bool, false, Option, None, Some, option_map, IfSome, Result, Ok, Err}
use Rattle.gd_base.specs.declared.memory.Memory.{Memory}
use Rattle.gd_prim.specs.declared.Batch.{Batch}
use Rattle.gd_runs.specs.Core as core
use Rattle.gd_runs.specs.Request.{ReadSet}
use Rattle.gd_read.specs.Several.{asks_several}
use Rattle.gd_read.specs.Begun.{fault_at, HasOffset}
use Rattle.gd_read.specs.Left.{reading_left}
use Rattle.gd_read.specs.Reading.{reading_view, IsGoing}
use Rattle.gd_read.specs.declared.fault.ReadFault.{ReadFault}
use Rattle.gd_read.specs.declared.fault.ReadFault.TheVariants as read_fault
use Rattle.gd_read.specs.declared.reading.Reading.{Reading}
use Rattle.gd_read.specs.declared.reading.Progress.{Progress}
use Rattle.gd_read.specs.declared.reading.Progress.TheVariants.{Reply, Unfinished}
use Rattle.gd_read.specs.declared.session.SessionState.{SessionState}

-- what it reads, as the definitions have it
abbrev pub reads : SessionState → Option core.Reading
reads state = option_map reading_view state.reading

-- a reading of several queries is held
abbrev pub holds_several : Option core.Reading → Bool
holds_several None = false
holds_several (Some r) = asks_several r.request

-- a reading goes on over the batches below its dateline, so many of which are shown
abbrev pub GoesOn : List Batch → ℕ → Reading → Type 0
GoesOn batches shown r = ((reading_view r).dateline ≤ shown) × IsGoing (take (reading_view r).dateline batches) r

-- the reading that is held, if one is, goes on
abbrev pub HoldsGoing : List Batch → ℕ → SessionState → Type 0
HoldsGoing batches shown state = by state.reading
  where
    by : Option Reading → Type 0
    by None = Unit {0}
    by (Some r) = GoesOn batches shown r

-- how much is left of a reading over batches, at most; `n` is a number that no id reaches
abbrev pub left_of : ℕ → List Batch → Reading → ℕ
left_of n batches r = reading_left n (take (reading_view r).dateline batches) r

-- how much is left of what is held: nothing, where no reading is
abbrev pub session_left : ℕ → List Batch → SessionState → ℕ
session_left n batches state = by state.reading
  where
    by : Option Reading → ℕ
    by None = 0
    by (Some r) = left_of n batches r

-- ---- calls

-- a state holds the reading that the definitions give for a request over so many batches that are shown, at a dateline that is shown
pub record HasBegun (batches : List Batch) (shown : ℕ) (request : ReadSet) (state : SessionState) : Type 0 where
  pub begun : core.Reading
  pub of : core.reading_of batches shown request ≡ Ok begun
  pub held : reads state ≡ Some begun
  pub below : begun.dateline ≤ shown

-- a request is refused as the definitions say there, or there was no memory
pub record IsRefused (batches : List Batch) (shown : ℕ) (request : ReadSet) (f : ReadFault) : Type 0 where
  pub of : f ≢ read_fault.Memory → core.reading_of batches shown request ≡ Err (fault_at shown f)
  pub offset : HasOffset f

-- beginning a reading gives a state that holds it, or why it does not begin
abbrev pub BeginsAs : List Batch → ℕ → ReadSet → Result SessionState ReadFault → Type 0
BeginsAs batches shown request (Ok state) = HasBegun batches shown request state
BeginsAs batches shown request (Err f) = IsRefused batches shown request f

-- a slice gives the reply line of line k that the reading owes, and nothing is held then; or the same is held; or there was no memory, and nothing is held
abbrev pub SlicesAs : List Batch → ℕ → SessionState → Result Progress Memory → SessionState → Type 0
SlicesAs batches k old (Ok (Reply bytes)) new = IfSome (reads old) (λ r. bytes.items ≡ core.owed_line batches k r) × (new ≡ record { reading = None })
SlicesAs batches k old (Ok Unfinished) new = reads new ≡ reads old
SlicesAs batches k old (Err e) new = new ≡ record { reading = None }
