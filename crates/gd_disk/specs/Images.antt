-- What a stop may leave of a disk in memory, as those who try stops choose it.
use Rattle.std.specs.Prelude.{◌≡◌, ℕ, ◌≤◌, List, [], ◌∷◌, length, take, replicate, Option, Some, None}
use Rattle.gd_bytes.specs.Disk.{written}
use Rattle.gd_disk.specs.Recorded.{Made, wrote, cut_to, synced, held}
use Rattle.gd_disk.specs.Calls.{Kept, newest, undone, made_of, first_of}
use Rattle.gd_disk.specs.declared.kept_file.Call.{Call}
use Rattle.gd_disk.specs.declared.kept_file.Call.TheVariants.{Append, Within, Past, Cut, Sync}
use Rattle.gd_disk.specs.declared.memory_disk.Fill.{Fill}
use Rattle.gd_disk.specs.declared.memory_disk.Fill.TheVariants as fill
use Rattle.gd_disk.specs.declared.undoing.Step.{Step}
use Rattle.gd_disk.specs.declared.undoing.Step.TheVariants as step

-- The content at the last sync.
abbrev pub dropped : List ℕ → List Made → List ℕ
dropped first [] = first
dropped first (wrote at bytes ∷ made) = dropped first made
dropped first (cut_to n ∷ made) = dropped first made
dropped first (synced ∷ made) = held first made

-- What a read gives, but each byte that was written since the last sync is x.
abbrev pub filled : ℕ → List ℕ → List Made → List ℕ
filled x first [] = first
filled x first (wrote at bytes ∷ made) = written at (replicate (length bytes) x) (filled x first made)
filled x first (cut_to n ∷ made) = take n (filled x first made)
filled x first (synced ∷ made) = held first made

-- The image that is chosen.
abbrev pub image_of : Fill → List ℕ → List Made → List ℕ
image_of fill.Kept first made = held first made
image_of fill.Dropped first made = dropped first made
image_of fill.Ones first made = filled 1 first made
image_of fill.Twos first made = filled 2 first made

-- ---- the same, of what a file in memory keeps

-- The file after a call, where each byte that the call wrote is x.
abbrev pub after_made : ℕ → Made → List ℕ → List ℕ
after_made x (wrote at bytes) file = written at (replicate (length bytes) x) file
after_made x (cut_to n) file = take n file
after_made x synced file = file

abbrev pub after_step : ℕ → Step → List ℕ → List ℕ
after_step x (step.Wrote at len) file = written at (replicate len x) file
after_step x (step.Cut n) file = take n file

-- several calls, the newest first
abbrev pub after_steps : ℕ → List Step → List ℕ → List ℕ
after_steps x [] file = file
after_steps x (s ∷ steps) file = after_step x s (after_steps x steps file)

-- what `dropped` and `filled` are, of what is kept and its calls, the newest first
abbrev pub dropped_of : Kept → List Call → List ℕ
dropped_of k [] = take k.stop k.bytes
dropped_of k (Append ∷ calls) = dropped_of (undone Append k) calls
dropped_of k (Within ∷ calls) = dropped_of (undone Within k) calls
dropped_of k (Past ∷ calls) = dropped_of (undone Past k) calls
dropped_of k (Cut ∷ calls) = dropped_of (undone Cut k) calls
dropped_of k (Sync ∷ calls) = take k.stop k.bytes

abbrev pub filled_of : ℕ → Kept → List Call → List ℕ
filled_of x k [] = take k.stop k.bytes
filled_of x k (Append ∷ calls) = after_made x (newest Append k) (filled_of x (undone Append k) calls)
filled_of x k (Within ∷ calls) = after_made x (newest Within k) (filled_of x (undone Within k) calls)
filled_of x k (Past ∷ calls) = after_made x (newest Past k) (filled_of x (undone Past k) calls)
filled_of x k (Cut ∷ calls) = after_made x (newest Cut k) (filled_of x (undone Cut k) calls)
filled_of x k (Sync ∷ calls) = take k.stop k.bytes

-- What going one call back leaves and tells: the call, none where it is a sync.
abbrev pub WentBack : Option Step → Call → Kept → Kept → Type 0
WentBack None call old new = (calls : List Call) → (dropped_of old (call ∷ calls) ≡ take new.stop new.bytes) × ((x : ℕ) → filled_of x old (call ∷ calls) ≡ take new.stop new.bytes)
WentBack (Some s) call old new = (calls : List Call) → (dropped_of old (call ∷ calls) ≡ dropped_of new calls) × ((x : ℕ) → filled_of x old (call ∷ calls) ≡ after_step x s (filled_of x new calls))

-- A call is within a file of so many bytes.
abbrev pub IsInside : Made → ℕ → Type 0
IsInside (wrote at bytes) n = at ≤ n
IsInside (cut_to m) n = m ≤ n
IsInside synced n = Unit {0}

-- Before each call the file was what the calls before it make, and the call was within it.
abbrev pub WasHeld : Kept → List Call → Type 0
WasHeld k [] = Unit {0}
WasHeld k (call ∷ calls) = ((undone call k).stop ≤ length (undone call k).bytes) × (take (undone call k).stop (undone call k).bytes ≡ held (first_of (undone call k) calls) (made_of (undone call k) calls)) × IsInside (newest call k) (undone call k).stop × WasHeld (undone call k) calls
