-- The successors of places, by a slot for each place.
use Rattle.std.specs.Prelude.{ℕ, ◌-◌, List, ◌++◌, length, replicate, slice_get, Option, None, option_and_then}

-- the successor of a place, if it has one: a place past the last slot has none
abbrev pub successor_of : List (Option ℕ) → ℕ → Option ℕ
successor_of slots place = option_and_then (λ slot. slot) (slice_get slots place)

-- the slots, and vacant ones behind them up to a number of places
abbrev pub with_places : ℕ → List (Option ℕ) → List (Option ℕ)
with_places places slots = slots ++ replicate (places - length slots) None
