-- What a file means, and what an answer of opening it says.
use Rattle.std.specs.Prelude.{◌≡◌, ◌⊎◌, ℕ, List, [], ◌++◌, map, Bool, true, false, not, ◌&&◌, bytes_eq, Option, Some, None, IsSome, ⊤}
use Rattle.std.specs.Option.{ForSome}
use Rattle.gd_bytes.specs.Disk.{IsUntouched}
use Rattle.gd_prim.specs.declared.Batch.{Batch}
use Rattle.gd_bytes.specs.File.{Meaning, Version, is_marked, mark, record_batches, not_store, damaged, meaning, StandsFor}
use Rattle.gd_journal.specs.declared.fault.JournalFault.{JournalFault}
use Rattle.gd_journal.specs.declared.fault.JournalFault.TheVariants.{DiskFault, NotStore, Damaged, Memory}
use Rattle.gd_journal.specs.Meaning.{held_by, HasVersion}
use Rattle.gd_log.specs.Groups.{IsNext, AreGroups}

-- A file means what some image of before means.
abbrev pub MeansOneOf : (List ℕ → Type 0) → List ℕ → Type 0
MeansOneOf images file = (before : List ℕ) × images before × (meaning file ≡ meaning before)

-- What a refusal says of the meaning of the file: it is no store, or damaged there; a failure of the disk or want of memory says nothing of it.
abbrev pub Refuses : JournalFault → Meaning → Type 0
Refuses DiskFault m = ⊤
Refuses NotStore m = m ≡ not_store
Refuses (Damaged offset) m = m ≡ damaged offset
Refuses Memory m = ⊤

-- The bytes of payloads.
abbrev pub bytes_of : List (ℕ × List ℕ) → List (List ℕ)
bytes_of read = map (λ r. r.1) read

-- A group was taken in behind these batches.
abbrev pub AddsGroup : Bool → List Batch → List ℕ → List Batch → Type 0
AddsGroup marked before p now = (more : List Batch) × IsNext marked before p more × (now ≡ before ++ more)

-- A payload was taken in behind these batches: the mark, where texts may have no languages yet, or a group.
abbrev pub IsTaken : Bool → List Batch → List ℕ → Bool → List Batch → Type 0
IsTaken marked before p last now = ((marked ≡ false) × (p ≡ mark) × (last ≡ true) × (now ≡ before)) ⊎ ((last ≡ marked) × AddsGroup marked before p now)

-- A payload is neither a mark that may stand there, nor a group of batches that may follow these.
abbrev pub IsRefused : Bool → List Batch → List ℕ → Type 0
IsRefused marked before p = ((not marked && bytes_eq p mark) ≡ false) × (record_batches marked before p ≡ None)

-- All that a file of this version holds are payloads that are groups of these batches, and maybe the mark.
abbrev pub Loads : Version → List ℕ → List Batch → Type 0
Loads v file bs = (last : Bool) × (read : List (ℕ × List ℕ)) × HasVersion v file × (held_by file ≡ Some (record { list = read; damaged = None })) × AreGroups (is_marked v) [] (bytes_of read) last bs

-- The same bytes, or both stand for the same batches.
abbrev pub IsReadSame : List ℕ → List ℕ → Type 0
IsReadSame before after = (after ≡ before) ⊎ ((bs : List Batch) × StandsFor before bs × StandsFor after bs)

-- What opening leaves of a file: a read gives the same bytes, or what stands for the same batches, and so does what a stop leaves. What stood for no batches is left alone.
pub record IsKept {D : Type 0} (content : D → Option (List ℕ)) (moment : D → ℕ) (images : D → List ℕ → Type 0) (images_since : D → ℕ → List ℕ → Type 0) (file : List ℕ) (old new : D) : Type 0 where
  pub told : IsSome (content new)
  pub read : ForSome (content new) (λ later. IsReadSame file later)
  pub stops : (c : List ℕ) → images new c → (d : List ℕ) × images old d × IsReadSame d c
  pub left : ((bs : List Batch) → StandsFor file bs → ⊥) → IsUntouched content moment images images_since old new
