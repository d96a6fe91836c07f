-- Readers of bytes: numbers in ranges, and items one after another. Each gives a value and the bytes after it, or the bytes at which no text of its grammar goes on.
use Rattle.std.specs.Prelude.{ℕ, zero, suc, ◌+◌, ◌*◌, ◌/◌, ◌^◌, List, [], ◌∷◌, Bool, ◌&&◌, nat_le, nat_lt, if◌then◌else◌, Ok, Err}
use Rattle.std.specs.List.{list_any}
use Rattle.gd_grammar.specs.Chain.{◌>>=◌}
use Rattle.gd_grammar.specs.Grammar.{Reads}

-- reads a byte that passes a test
abbrev pub byte_if : (ℕ → Bool) → List ℕ → Reads ℕ
byte_if test [] = Err []
byte_if test (b ∷ bytes) = if test b then Ok (b, bytes) else Err (b ∷ bytes)

-- the byte lies in the range
abbrev pub between : ℕ → ℕ → ℕ → Bool
between least most b = nat_le least b && nat_le b most

-- ---- numbers

-- the least and the greatest number of a range
abbrev pub Range : Type 0
Range = ℕ × ℕ

-- the number that begins with n and has so many bytes more can lie in the range
abbrev pub may_reach : ℕ → ℕ → Range → Bool
may_reach k n range = nat_le (range.0 / 256 ^ k) n && nat_le n (range.1 / 256 ^ k)

-- the number that begins with n and has so many bytes more can lie in one of the ranges
abbrev pub begins_number : List Range → ℕ → ℕ → Bool
begins_number ranges k n = list_any (may_reach k n) ranges

-- the byte may come behind n in a number of one of the ranges, before so many bytes more
abbrev pub number_goes_on : List Range → ℕ → ℕ → ℕ → Bool
number_goes_on ranges k n b = nat_lt b 256 && begins_number ranges k (256 * n + b)

-- reads the last so many bytes, the high ones first, of a number of one of the ranges that begins with n
abbrev pub number_from : List Range → ℕ → ℕ → List ℕ → Reads ℕ
number_from ranges zero n bytes = Ok (n, bytes)
number_from ranges (suc k) n bytes = byte_if (number_goes_on ranges k n) bytes >>= λ b. number_from ranges k (256 * n + b.0) b.1

-- reads a number of one of the ranges in so many bytes
unfoldable pub number_at : List Range → ℕ → List ℕ → Reads ℕ
number_at ranges size bytes = number_from ranges size 0 bytes

-- ---- items

-- reads so many items, one after another
abbrev pub items_at : {A : Type 0} → (List ℕ → Reads A) → ℕ → List ℕ → Reads (List A)
items_at one zero bytes = Ok ([], bytes)
items_at one (suc n) bytes = one bytes >>= λ x. items_at one n x.1 >>= λ xs. Ok (x.0 ∷ xs.0, xs.1)
