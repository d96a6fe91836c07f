-- What the code makes of lines, beside what the definitions make of them.
use Rattle.std.specs.Prelude.{◌≡◌, ℕ, ◌<◌, List, [], ◌∷◌, ◌++◌, length, Option, Some, None, Result, Ok, Err}
use Rattle.std.specs.Borrow.{Bor}
use Rattle.gd_prim.specs.declared.Batch.{Batch}
use Rattle.gd_grammar.specs.Grammar.{Reads}
use Rattle.gd_dump_laws.specs.Progress as defined
use Rattle.gd_dump.specs.Stop.{Stopped}
use Rattle.gd_dump.specs.declared.stop.Stop.{Stop}
use Rattle.gd_dump.specs.declared.stop.Stop.TheVariants as stop
use Rattle.gd_dump.specs.declared.progress.Stage.{Stage}
use Rattle.gd_dump.specs.declared.progress.Stage.TheVariants as stage
use Rattle.gd_dump.specs.declared.progress.Progress.{Progress}

-- where reading stands, with the batches that are whole
abbrev pub placed : Stage → Progress → List Batch → defined.Progress
placed stage.Opening p batches = defined.opening
placed (stage.Between first) p batches = defined.between first batches
placed (stage.Within first moment count) p batches = defined.within first batches moment count p.prims
placed (stage.Closed first) p batches = defined.closed first batches

abbrev pub place_of : Progress → List Batch → defined.Progress
place_of p batches = placed p.stage p batches

-- how many batches are whole
abbrev pub counted : Stage → ℕ → ℕ
counted stage.Opening count = 0
counted _ count = count

-- the first number, where it was read
abbrev pub first_at : Stage → Option ℕ
first_at stage.Opening = None
first_at (stage.Between first) = Some first
first_at (stage.Within first moment count) = Some first
first_at (stage.Closed first) = Some first

-- the batch that a line ends, if it ends one
abbrev pub ended : Option Batch → List Batch
ended None = []
ended (Some b) = b ∷ []

-- A line was read: the reader reads it so, with whatever batches are whole.
abbrev pub IsLine : (List Batch → List ℕ → Reads defined.Progress) → Progress → Progress → List ℕ → Option Batch → List ℕ → Type 0
IsLine read old new bytes batch rest = (batches : List Batch) → counted old.stage old.count ≡ length batches → (read batches bytes ≡ Ok (place_of new (batches ++ ended batch), rest)) × (counted new.stage new.count ≡ length (batches ++ ended batch))

-- No line goes on, and nothing was changed.
abbrev pub IsNoLine : (List Batch → List ℕ → Reads defined.Progress) → Progress → Progress → List ℕ → Stop → Type 0
IsNoLine read old new bytes (stop.Bad left) = (new ≡ old) × ((batches : List Batch) → counted old.stage old.count ≡ length batches → Stopped (stop.Bad left) (read batches bytes))
IsNoLine read old new bytes stop.Memory = Unit {0}

-- what reading a line comes to, by a reader
abbrev pub IsStepBy : (List Batch → List ℕ → Reads defined.Progress) → Progress → Progress → List ℕ → Result (Option Batch × Bor (List ℕ)) Stop → Type 0
IsStepBy read old new bytes (Ok x) = IsLine read old new bytes x.0 x.1.now
IsStepBy read old new bytes (Err e) = IsNoLine read old new bytes e

-- the reader of the next line
abbrev pub next_line : Progress → List Batch → List ℕ → Reads defined.Progress
next_line old batches = defined.step_at (place_of old batches)

-- what reading the next line comes to
abbrev pub IsStep : Progress → Progress → List ℕ → Result (Option Batch × Bor (List ℕ)) Stop → Type 0
IsStep old = IsStepBy (next_line old) old

-- and where the bytes may end before it does
abbrev pub IsNext : Progress → Progress → List ℕ → Result (Option (Option Batch × Bor (List ℕ))) Stop → Type 0
IsNext old new bytes (Ok (Some x)) = IsLine (next_line old) old new bytes x.0 x.1.now
IsNext old new bytes (Ok None) = (new ≡ old) × ((batches : List Batch) → counted old.stage old.count ≡ length batches → next_line old batches bytes ≡ Err [])
IsNext old new bytes (Err (stop.Bad left)) = (0 < left) × IsNoLine (next_line old) old new bytes (stop.Bad left)
IsNext old new bytes (Err stop.Memory) = Unit {0}

-- Lines were read: what was read goes on by them, and the rest is behind them.
pub record RunsTo (old : Progress) (batches : List Batch) (new : Progress) (bytes rest : List ℕ) (more : List Batch) : Type 0 where
  pub count : counted new.stage new.count ≡ length (batches ++ more)
  pub read : defined.Read (place_of new (batches ++ more))
  pub text : defined.consumed (place_of new (batches ++ more)) ++ rest ≡ defined.consumed (place_of old batches) ++ bytes

-- whatever batches were whole
abbrev pub Runs : Progress → Progress → List ℕ → List ℕ → List Batch → Type 0
Runs old new bytes rest more = (batches : List Batch) → counted old.stage old.count ≡ length batches → defined.Read (place_of old batches) → RunsTo old batches new bytes rest more

-- all lines were read, and the bytes behind them begin a line
abbrev pub IsRun : Progress → Progress → List ℕ → List Batch → List Batch → Result (Bor (List ℕ)) Stop → Type 0
IsRun old new bytes given now (Ok rest) = (more : List Batch) × (now ≡ given ++ more) × Runs old new bytes rest.now more × ((batches : List Batch) → counted new.stage new.count ≡ length batches → next_line new batches rest.now ≡ Err [])
IsRun old new bytes given now (Err (stop.Bad left)) = (0 < left) × ((more : List Batch) × (now ≡ given ++ more) × ((rest : List ℕ) × Runs old new bytes rest more × ((batches : List Batch) → counted new.stage new.count ≡ length batches → Stopped (stop.Bad left) (next_line new batches rest))))
IsRun old new bytes given now (Err stop.Memory) = Unit {0}
