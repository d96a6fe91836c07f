-- Slices of a reading.
use Rattle.std.proofs.Common.{◌≡◌, ◌+◌, ◌-◌, ◌^◌, ◌<◌, ◌≤◌, ℕ, min, arith}

-- what is left falls where a slice that took its budget was counted from nothing
pub falls : (start budget taken was now : ℕ) → start ≡ 0 → 0 < budget → min (start + budget) (2 ^ 64 - 1) ≤ taken → taken + now ≤ start + was → now < was
falls start budget taken was now none some spent left = omega (arith, none, some, spent, left)
