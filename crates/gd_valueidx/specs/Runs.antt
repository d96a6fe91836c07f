-- An order of numbers in runs, and which numbers stand before a value.
use Rattle.std.specs.Prelude.{◌≡◌, ◌+◌, ◌<◌, ◌≤◌, ℕ, List, [], Bool, true, false, Option, not, length, take, slice_get, slice_index_or}
use Rattle.std.specs.List.{flat_map, AllByRecursion}
use Rattle.std.specs.List.Sorted.{IsPartitionPoint}
use Rattle.std.specs.Option.{option_map_or}
use Rattle.std.specs.Ordering.{match_ordering}
use Rattle.std.specs.Map.{values_of}
use Rattle.gd_base.specs.declared.datum.Datum.{Datum}
use Rattle.gd_base.specs.Order.{datum_cmp}
use Rattle.gd_valueidx.specs.Ranked.{ranked}

-- the numbers of all runs
abbrev pub flat : List (List ℕ) → List ℕ
flat runs = flat_map (λ run. run) runs

-- how many numbers stand before a place in a run
abbrev pub rank : List (List ℕ) → ℕ → ℕ → ℕ
rank runs run index = length (flat (take run runs)) + index

-- each run has a number
abbrev pub AreRuns : List (List ℕ) → Type 0
AreRuns runs = AllByRecursion (λ run. 0 < length run) runs

-- a place in a run, or the one place where there are no runs
abbrev pub IsPlace : List (List ℕ) → ℕ → ℕ → Type 0
IsPlace runs run index = (0 < length runs → run < length runs) × (index ≤ length (slice_index_or runs run []))

-- the key stands before the value, or is the value where that counts too
abbrev pub is_before : Datum → Bool → Datum → Bool
is_before value with key = match_ordering (datum_cmp key value) true with false

-- so does the value with a number
abbrev pub stands : List Datum → Datum → Bool → ℕ → Bool
stands values value with number = option_map_or (is_before value with) (slice_get values number) false

-- the numbers that stand before are those before a place
abbrev pub IsSplit : (ℕ → Bool) → List ℕ → ℕ → Type 0
IsSplit p numbers k = (k ≤ length numbers) × IsPartitionPoint (λ n. p n ≡ true) (λ n. p n ≡ false) numbers k

-- the number stands from the least on, or does not stand behind the greatest, where these are given
abbrev pub is_from : List Datum → Option Datum → ℕ → Bool
is_from values lo number = option_map_or (λ least. not (stands values least false number)) lo true

abbrev pub is_to : List Datum → Option Datum → ℕ → Bool
is_to values hi number = option_map_or (λ greatest. stands values greatest true number) hi true

-- the numbers of all runs are those of these values, in the order of the values
abbrev pub AreOrdered : List (List ℕ) → List Datum → Type 0
AreOrdered runs values = flat runs ≡ values_of (ranked values)
