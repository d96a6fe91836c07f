-- How a file in memory keeps its calls: as the file is now, and what undoes each call, so that all of them follow backwards.
use Rattle.std.specs.Prelude.{ℕ, ◌+◌, ◌-◌, ◌<◌, ◌≤◌, List, [], ◌∷◌, ◌++◌, length, take, drop, slice_index, reverse}
use Rattle.gd_bytes.specs.Disk.{part}
use Rattle.gd_disk.specs.Recorded.{Made, wrote, cut_to, synced}
use Rattle.gd_disk.specs.declared.kept_file.Call.{Call}
use Rattle.gd_disk.specs.declared.kept_file.Call.TheVariants.{Append, Within, Past, Cut, Sync}

pub record Kept : Type 0 where
  -- the file, and behind its end what cuts left there
  pub bytes : List ℕ
  pub stop : ℕ
  -- what the writes replaced, the newest last
  pub replaced : List ℕ
  -- the numbers of the calls, the newest first
  pub numbers : List ℕ

-- from what is kept in the order of the calls
abbrev pub kept : List ℕ → ℕ → List ℕ → List ℕ → Kept
kept bytes stop replaced numbers = record { bytes = bytes; stop = stop; replaced = replaced; numbers = reverse numbers }

-- the numbers of a call, in order: the offset of a write, how many bytes it replaced, where the file ended before
abbrev pub numbers_of : Call → ℕ → ℕ → ℕ → List ℕ
numbers_of Append at over stop = at ∷ []
numbers_of Within at over stop = at ∷ over ∷ []
numbers_of Past at over stop = at ∷ over ∷ stop ∷ []
numbers_of Cut at over stop = stop ∷ []
numbers_of Sync at over stop = []

-- which write it is, of so many bytes at an offset, where the file ends, and so many bytes are kept: one behind all of them, one within the file, or one past its end
abbrev pub IsWrite : Call → ℕ → ℕ → ℕ → ℕ → Type 0
IsWrite Append at len stop all = all ≤ at
IsWrite Within at len stop all = at + len ≤ stop
IsWrite Past at len stop all = stop < at + len
IsWrite Cut at len stop all = ⊥
IsWrite Sync at len stop all = ⊥

-- the newest call
abbrev pub newest : Call → Kept → Made
newest Append k = wrote (slice_index k.numbers 0) (drop (slice_index k.numbers 0) k.bytes)
newest Within k = wrote (slice_index k.numbers 1) (part (slice_index k.numbers 1) (slice_index k.numbers 0) k.bytes)
newest Past k = wrote (slice_index k.numbers 2) (part (slice_index k.numbers 2) (k.stop - slice_index k.numbers 2) k.bytes)
newest Cut k = cut_to k.stop
newest Sync k = synced

-- the bytes before a write that replaced so many from an offset on, where those from another one on stayed
abbrev pub restored : Kept → ℕ → ℕ → ℕ → List ℕ
restored k at over behind = take at k.bytes ++ (drop (length k.replaced - over) k.replaced ++ drop behind k.bytes)

-- what was kept before the newest call
abbrev pub undone : Call → Kept → Kept
undone Append k = record k { bytes = take (slice_index k.numbers 0) k.bytes; stop = slice_index k.numbers 0; numbers = drop 1 k.numbers }
undone Within k = record k {
  bytes = restored k (slice_index k.numbers 1) (slice_index k.numbers 0) (slice_index k.numbers 1 + slice_index k.numbers 0);
  replaced = take (length k.replaced - slice_index k.numbers 0) k.replaced;
  numbers = drop 2 k.numbers;
}
undone Past k = record {
  bytes = restored k (slice_index k.numbers 2) (slice_index k.numbers 1) k.stop;
  stop = slice_index k.numbers 0;
  replaced = take (length k.replaced - slice_index k.numbers 1) k.replaced;
  numbers = drop 3 k.numbers;
}
undone Cut k = record k { stop = slice_index k.numbers 0; numbers = drop 1 k.numbers }
undone Sync k = k

-- the calls, the newest first
abbrev pub made_of : Kept → List Call → List Made
made_of k [] = []
made_of k (call ∷ calls) = newest call k ∷ made_of (undone call k) calls

-- the file before them
abbrev pub first_of : Kept → List Call → List ℕ
first_of k [] = take k.stop k.bytes
first_of k (call ∷ calls) = first_of (undone call k) calls
