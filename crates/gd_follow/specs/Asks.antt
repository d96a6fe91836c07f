-- What an ask is answered.
use Rattle.std.specs.Prelude.{◌≡◌, ◌⊎◌, ℕ, ◌+◌, ◌≤◌, ◌<◌, List, [], ◌∷◌, length, take, drop, Some, Result, Ok, Err, slice_get}
use Rattle.gd_prim.specs.declared.Batch.{Batch}
use Rattle.gd_bytes.specs.Group.{spelling}
use Rattle.gd_codec.specs.Writable.{MayWrite}
use Rattle.gd_follow_laws.specs.World.{IsRun}
use Rattle.gd_follow.specs.declared.answer.Asked.{Asked}
use Rattle.gd_follow.specs.declared.answer.Asked.TheVariants as asked
use Rattle.gd_follow.specs.declared.answer.AskFault.{AskFault}
use Rattle.gd_follow.specs.declared.answer.AskFault.TheVariants as fault

-- the batches from a number on, so many
abbrev pub run_of : List Batch → ℕ → ℕ → List Batch
run_of list from count = take count (drop from list)

-- So many batches from a number on, at most `most`, have a group of at most 500,000 bytes, and are the most that do.
pub record IsLongest (list : List Batch) (from most count : ℕ) : Type 0 where
  pub few : count ≤ most
  pub within : from + count ≤ length list
  pub small : length (spelling (run_of list from count)) ≤ 500_000
  pub longest : (count ≡ most) ⊎ ((from + count ≡ length list) ⊎ (500_000 < length (spelling (run_of list from (count + 1)))))

-- What an ask for batches from a number on, at most `most`, is answered: the longest run; nothing yet; or that the number lies behind the list, or its batch alone is too large.
abbrev pub Asks : List Batch → ℕ → ℕ → Result Asked AskFault → Type 0
Asks list from most (Ok (asked.Part group)) = (from < length list) × ((count : ℕ) × (0 < count) × (group ≡ run_of list from count) × IsLongest list from most count)
Asks list from most (Ok asked.Nothing) = from ≡ length list
Asks list from most (Err (fault.CursorAhead number have)) = (length list < from) × (number ≡ from) × (have ≡ length list)
Asks list from most (Err (fault.BatchTooLarge bytes entry)) = (b : Batch) × (slice_get list from ≡ Some b) × (entry ≡ from) × (bytes ≡ length (spelling (b ∷ []))) × (500_000 < bytes)
Asks list from most (Err fault.Memory) = Unit {0}

-- a group that is answered may be written
abbrev pub MayBeWritten : Result Asked AskFault → Type 0
MayBeWritten (Ok (asked.Part group)) = MayWrite group
MayBeWritten _ = Unit {0}

-- a group that is answered is one that a primary with this list may answer
abbrev pub IsOfList : List Batch → ℕ → Result Asked AskFault → Type 0
IsOfList list from (Ok (asked.Part group)) = IsRun list (record { from = from; group = group })
IsOfList list from _ = Unit {0}

-- a refusal tells no number of bytes beyond that of the largest batch
abbrev pub IsWithin : AskFault → Type 0
IsWithin (fault.BatchTooLarge bytes entry) = bytes ≤ 33_677_324
IsWithin _ = Unit {0}
