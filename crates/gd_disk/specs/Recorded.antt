-- A disk in memory: what its list of calls makes of its file, and what a stop may leave.
use Rattle.std.specs.List.{range_with_len}
use Rattle.std.specs.Prelude.{◌≡◌, ◌⊎◌, ◌↔◌, ℕ, ◌+◌, ◌-◌, ◌^◌, ◌≤◌, min, List, [], ◌∷◌, length, take, drop, Contains, Option, Some, None, Result, IsErr, OnErr, is_ok, if◌then◌else◌}
use Rattle.gd_bytes.specs.Disk.{written, Torn, Cut}

-- a call that did not fail: bytes at an offset, a cut to a length, a sync
pub data Made : Type 0 where
  wrote : ℕ → List ℕ → Made
  cut_to : ℕ → Made
  synced : Made

-- what a read gives, from the first content and the calls since, the newest first
abbrev pub held : List ℕ → List Made → List ℕ
held first [] = first
held first (wrote at bytes ∷ made) = written at bytes (held first made)
held first (cut_to n ∷ made) = take n (held first made)
held first (synced ∷ made) = held first made

-- what a stop may leave: what a read gives, and since the last sync what was left before, torn or cut in part
abbrev pub left : List ℕ → List Made → List ℕ → Type 0
left first [] c = c ≡ first
left first (wrote at bytes ∷ made) c = (c ≡ written at bytes (held first made)) ⊎ ((d : List ℕ) × left first made d × Torn at (length bytes) d c)
left first (cut_to n ∷ made) c = (c ≡ take n (held first made)) ⊎ ((d : List ℕ) × left first made d × Cut n d c)
left first (synced ∷ made) c = c ≡ held first made

-- what a stop might have left when t of the calls were made, or more
abbrev pub left_since : List ℕ → List Made → ℕ → List ℕ → Type 0
left_since first made t c = (later : ℕ) × (t + later ≤ length made) × left first (drop later made) c

-- the numbers of all calls from one on, as they are counted; none where there is no such number
abbrev pub from_on : Option ℕ → List ℕ
from_on None = []
from_on (Some after) = range_with_len after (2 ^ 64 - after)

-- What contracts see of a file in memory that tells its calls: what it held at first, the writes, cuts and syncs, the newest first, and the room for more.
pub record Told : Type 0 where
  pub first : List ℕ
  pub made : List Made
  pub calls_left : ℕ
  pub bytes_left : ℕ

-- What contracts see of a disk in memory.
pub record Recorded : Type 0 where
  -- what it held at first
  pub first : List ℕ
  -- the writes, cuts and syncs that did not fail, the newest first
  pub made : List Made
  -- the numbers of the calls that are to fail
  pub failing : List ℕ
  -- how many calls were made, and how many of them failed
  pub calls : ℕ
  pub faults : ℕ
  -- the room
  pub calls_left : ℕ
  pub bytes_left : ℕ

-- the members of the trait of disks
abbrev pub content_of : Recorded → Option (List ℕ)
content_of disk = Some (held disk.first disk.made)

abbrev pub images_of : Recorded → List ℕ → Type 0
images_of disk = left disk.first disk.made

abbrev pub images_since_of : Recorded → ℕ → List ℕ → Type 0
images_since_of disk = left_since disk.first disk.made

-- One call more was made. It failed exactly where its number is among those that are to fail, was counted if so, and then did nothing.
pub record IsNumbered {T E : Type 0} (old new : Recorded) (result : Result T E) : Type 0 where
  pub calls : new.calls ≡ min (old.calls + 1) (2 ^ 64 - 1)
  pub fails : IsErr result ↔ Contains old.failing old.calls
  pub faults : new.faults ≡ (if is_ok result then old.faults else min (old.faults + 1) (2 ^ 64 - 1))
  pub nothing : OnErr result (new.made ≡ old.made)
  pub first : new.first ≡ old.first
  pub failing : new.failing ≡ old.failing
