-- What a session holds of its reading, and what beginning, thawing and going on with it come to.
use Rattle.std.specs.Prelude.{◌≡◌, ℕ, ◌≤◌, List, Option, None, Some, IfSome, Result, Ok, Err}
use Rattle.gd_base.specs.declared.memory.Memory.{Memory}
use Rattle.gd_prim.specs.declared.Batch.{Batch}
use Rattle.gd_runs.specs.Core as core
use Rattle.gd_runs.specs.Request.{ReadRequest, ReadSet}
use Rattle.gd_read.specs.Session as session
use Rattle.gd_read.specs.declared.fault.ReadFault.{ReadFault}
use Rattle.gd_read.specs.declared.reading.Progress.{Progress}
use Rattle.gd_read.specs.declared.reading.Progress.TheVariants.{Reply, Unfinished}
use Rattle.gd_held.specs.Thawing.{ThawComes}
use Rattle.gd_held.specs.Thawed.{thawed_view, ThawedGoesOn, IsUnthawed}
use Rattle.gd_held.specs.declared.fault.ThawFault.{ThawFault}
use Rattle.gd_held.specs.declared.held.HeldReading.{HeldReading}
use Rattle.gd_held.specs.declared.held.HeldReading.TheVariants as held

-- nothing is held
abbrev pub nothing : HeldReading
nothing = held.Begun (record { reading = None })

-- what it reads, as the definitions have it
abbrev pub reads : HeldReading → Option core.Reading
reads (held.Begun state) = session.reads state
reads (held.Thawed t) = Some (thawed_view t)

-- the reading that is held, if one is, goes on over the batches below its dateline, and that many are shown
abbrev pub HoldsGoing : List Batch → ℕ → HeldReading → Type 0
HoldsGoing batches shown (held.Begun state) = session.HoldsGoing batches shown state
HoldsGoing batches shown (held.Thawed t) = ThawedGoesOn batches shown t

-- how much is left of a reading that began, at most; of one that was thawed no steps are counted. `n` is a number that no id reaches
abbrev pub held_left : ℕ → List Batch → HeldReading → ℕ
held_left n batches (held.Begun state) = session.session_left n batches state
held_left n batches (held.Thawed t) = 0

-- ---- calls

-- it holds the reading that the definitions give for a request over so many batches that are shown, at a dateline that is shown; it was not thawed
pub record HasBegun (batches : List Batch) (shown : ℕ) (request : ReadSet) (state : HeldReading) : Type 0 where
  pub begun : core.Reading
  pub of : core.reading_of batches shown request ≡ Ok begun
  pub held : reads state ≡ Some begun
  pub below : begun.dateline ≤ shown
  pub anew : begun.thawed ≡ None

-- beginning a reading gives what is then held, or why it does not begin
abbrev pub BeginsAs : List Batch → ℕ → ReadSet → Result HeldReading ReadFault → Type 0
BeginsAs batches shown request (Ok state) = HasBegun batches shown request state
BeginsAs batches shown request (Err f) = session.IsRefused batches shown request f

-- it holds the reading to which thawing bytes comes, at a dateline that is shown
pub record HasThawed (batches : List Batch) (shown : ℕ) (request : ReadRequest) (bytes : List ℕ) (state : HeldReading) : Type 0 where
  pub thawed : core.Reading
  pub of : ThawComes batches shown request bytes (Ok thawed)
  pub held : reads state ≡ Some thawed
  pub below : thawed.dateline ≤ shown

-- thawing gives what is then held, or why nothing is
abbrev pub ThawsTo : List Batch → ℕ → ReadRequest → List ℕ → Result HeldReading ThawFault → Type 0
ThawsTo batches shown request bytes (Ok state) = HasThawed batches shown request bytes state
ThawsTo batches shown request bytes (Err f) = IsUnthawed batches shown request bytes f

-- a slice gives the reply line of line k that the reading owes, and nothing is held then; or the same is held; or there was no memory, and nothing is held
abbrev pub SlicesAs : List Batch → ℕ → HeldReading → Result Progress Memory → HeldReading → Type 0
SlicesAs batches k old (Ok (Reply bytes)) new = IfSome (reads old) (λ r. bytes.items ≡ core.owed_line batches k r) × (new ≡ nothing)
SlicesAs batches k old (Ok Unfinished) new = reads new ≡ reads old
SlicesAs batches k old (Err e) new = new ≡ nothing
