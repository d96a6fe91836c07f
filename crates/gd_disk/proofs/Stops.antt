-- Calls that fail: those from a number on.
use Rattle.std.proofs.Common.{◌≡◌, ◌↔◌, inl, inr, ℕ, ◌+◌, ◌-◌, ◌^◌, ◌<◌, ◌≤◌, List, ◌++◌, sym, ◌∙◌, arith, Contains, Some, Bool, false}
use Rattle.std.specs.List.{range_with_len}
use Rattle.std.proofs.Math.Dec.{leb}
use Rattle.std.specs.Bool.{Decides}
use Rattle.std.proofs.lemmas.Bool.{leb-true, le-leb, false≢true}
use Rattle.std.proofs.lemmas.List.Elements.{Contains-append_right, Contains-append_cases}
use Rattle.std.proofs.lemmas.List.FromFn.{length-range_with_len, get_or-range_with_len}
use Rattle.gd_disk.specs.Recorded.{from_on}

in_range : (a m n : ℕ) → a ≤ n → n < a + m → Contains (range_with_len a m) n
in_range a m n le less =
    (n - a, omega (arith, length-range_with_len a m, le, less), get_or-range_with_len a m (n - a) n (omega (arith, le, less)) ∙ omega (arith, le))

range_from : (a m n : ℕ) → Contains (range_with_len a m) n → a ≤ n
range_from a m n has = omega (arith, get_or-range_with_len a m has.0 n (omega (arith, length-range_with_len a m, has.1)), has.2)

pub from_on_has : (after n : ℕ) → n < 2 ^ 64 → (Contains (from_on (Some after)) n ↔ after ≤ n)
from_on_has after n less = (λ has. range_from after (2 ^ 64 - after) n has, λ le. in_range after (2 ^ 64 - after) n le (omega (arith, le, less)))

pub from_on_decides : (after n : ℕ) → n < 2 ^ 64 → Decides (leb after n) (Contains (from_on (Some after)) n)
from_on_decides after n less = (λ is. (from_on_has after n less).1 (leb-true after n is), λ has. le-leb after n ((from_on_has after n less).0 has))

-- what is not in the one list is in both where it is in the other
pub in_other : (front behind : List ℕ) (n : ℕ) (b d : Bool) → b ≡ false → Decides b (Contains front n) → Decides d (Contains behind n) → Decides d (Contains (front ++ behind) n)
in_other front behind n b d apart first second = (
  λ is. Contains-append_right front behind n (second.0 is),
  λ has. elim (Contains-append_cases front behind n has) [
    | inl there ↦ absurd (false≢true (sym apart ∙ first.1 there))
    | inr there ↦ second.1 there
  ],
)
