-- A digit that a number goes on with.
use Rattle.std.proofs.Common.{◌≡◌, ℕ, ◌+◌, ◌-◌, ◌*◌, ◌/◌, not, ◌&&◌, ◌==◌, nat_le, arith}
use Rattle.std.specs.Char.{is_ascii_digit}
use Rattle.std.proofs.lemmas.Bool.Decides.{nat_tests}

-- what is within a tenth of the bound need not be tested apart
pub goes_on_is : (n c bound : ℕ) → (is_ascii_digit c && not (n == 0) && nat_le n (bound / 10) && nat_le (10 * n + (c - 48)) bound) ≡ (is_ascii_digit c && not (n == 0) && nat_le (10 * n + (c - 48)) bound)
goes_on_is n c bound = grind (arith, nat_tests)
