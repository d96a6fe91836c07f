-- What a reader of dumps holds of the text that it was given so far, whatever the pieces.
use Rattle.std.specs.Prelude.{◌≡◌, ◌⊎◌, ℕ, ◌+◌, ◌^◌, ◌<◌, List, [], ◌++◌, length, Option, Some, None, Result, Ok, Err, MatchResult}
use Rattle.gd_prim.specs.declared.Batch.{Batch}
use Rattle.gd_dump_laws.specs.Dump.{IsDump, IsBadDumpAt, BeginsDump, Whole}
use Rattle.gd_dump_laws.specs.Restoring.{BeginsWith}
use Rattle.gd_dump_laws.specs.Progress as defined
use Rattle.gd_dump.specs.Progress.{counted, place_of, first_at, next_line}
use Rattle.gd_dump.specs.declared.progress.Progress.{Progress}
use Rattle.gd_dump.specs.declared.stop.RestoreFault.{RestoreFault}
use Rattle.gd_dump.specs.declared.stop.RestoreFault.TheVariants as fault

-- What contracts see of a reader: how far it came, the bytes that it holds behind that, how many bytes stand before them, and the fault that it answers from now on.
pub record Reader : Type 0 where
  pub progress : Progress
  pub held : List ℕ
  pub read : ℕ
  pub fault : Option RestoreFault

-- no batch, or the text begins with these, behind its first line
abbrev pub Gives : List ℕ → List Batch → Type 0
Gives text batches = (batches ≡ []) ⊎ ((first : ℕ) × BeginsWith text first batches)

-- The text was read as far as it goes, and these batches are whole in it.
pub record IsReading (r : Reader) (text : List ℕ) (batches : List Batch) : Type 0 where
  pub count : counted r.progress.stage r.progress.count ≡ length batches
  pub lines : defined.Read (place_of r.progress batches)
  pub split : text ≡ defined.consumed (place_of r.progress batches) ++ r.held
  pub before : r.read ≡ length (defined.consumed (place_of r.progress batches))
  pub waits : next_line r.progress batches r.held ≡ Err []
  pub small : r.read + length r.held < 2 ^ 64

-- The text is no dump, and so many of its bytes, but not all, go with some dump; this is its first number, and just these batches are whole in it.
pub record IsStuck (first : Option ℕ) (text : List ℕ) (batches : List Batch) (n : ℕ) : Type 0 where
  pub bad : IsBadDumpAt text n
  pub early : n < length text
  pub whole : Whole text first batches

-- what holds of a reader with this fault, or without one
abbrev pub ByFault : Option RestoreFault → Reader → List ℕ → List Batch → Type 0
ByFault None r text batches = IsReading r text batches
ByFault (Some (fault.BadDump n)) r text batches = IsStuck (first_at r.progress.stage) text batches n
ByFault (Some fault.Memory) r text batches = Gives text batches

-- The reader was given this text, and gave these batches of it.
abbrev pub HasRead : Reader → List ℕ → List Batch → Type 0
HasRead r = ByFault r.fault r

-- why a text is refused: it is no dump, with its longest front that begins some dump; of memory nothing is said
abbrev pub IsCause : List ℕ → RestoreFault → Type 0
IsCause text (fault.BadDump n) = IsBadDumpAt text n
IsCause text fault.Memory = Unit {0}

-- What a piece brings: the batches that it ends, in front of a text that began some dump; where it ends none, the whole text does.
pub record Brings (old new : Reader) (text piece : List ℕ) (batches more : List Batch) : Type 0 where
  pub read : HasRead new (text ++ piece) (batches ++ more)
  pub began : BeginsDump text
  pub begins : more ≡ [] → BeginsDump (text ++ piece)

-- what a piece comes to for a reader without a fault
abbrev pub Takes : Reader → Reader → List ℕ → Result (List Batch) RestoreFault → Type 0
Takes old new piece (Ok more) = (text : List ℕ) (batches : List Batch) → IsReading old text batches → HasRead new (text ++ piece) (batches ++ more) × (more ≡ [] → BeginsDump (text ++ piece))
Takes old new piece (Err (fault.BadDump n)) = (text : List ℕ) (batches : List Batch) → IsReading old text batches → IsStuck (first_at new.progress.stage) (text ++ piece) batches n
Takes old new piece (Err fault.Memory) = Unit {0}

-- what a piece comes to, behind a text of which these batches were given
abbrev pub Fed : Reader → Reader → List ℕ → Result (List Batch) RestoreFault → Type 0
Fed old new piece (Ok more) = (text : List ℕ) (batches : List Batch) → HasRead old text batches → Brings old new text piece batches more
Fed old new piece (Err e) = (text : List ℕ) (batches : List Batch) → HasRead old text batches → HasRead new (text ++ piece) batches × IsCause (text ++ piece) e

-- what the end of a text comes to
abbrev pub Finished : Reader → Result (Unit {0}) RestoreFault → Type 0
Finished r (Ok _) = (text : List ℕ) (batches : List Batch) → HasRead r text batches → (first : ℕ) × IsDump text first batches
Finished r (Err e) = (text : List ℕ) (batches : List Batch) → HasRead r text batches → IsCause text e

-- A text that is a dump ends so, but for want of memory, and its batches were given.
abbrev pub Finds : Reader → Result (Unit {0}) RestoreFault → Type 0
Finds r result = (text : List ℕ) (batches : List Batch) → HasRead r text batches → (first : ℕ) (others : List Batch) → IsDump text first others → MatchResult result (λ u. batches ≡ others) (λ e. e ≡ fault.Memory)
