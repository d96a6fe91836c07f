-- The rows of the source's tables, as the definitions have them.
use Rattle.std.specs.Prelude.{ℕ, List, Bool, nat_le, length}
use Rattle.std.specs.Borrow.{Bor}

-- object, key, namespace
abbrev pub key_row : ℕ × Bor (List ℕ) × ℕ → ℕ × List ℕ × ℕ
key_row row = (row.0, row.1.now, row.2)

-- object, name
abbrev pub name_row : ℕ × Bor (List ℕ) → ℕ × List ℕ
name_row row = (row.0, row.1.now)

-- the key fits in a text
abbrev pub short_key : ℕ × Bor (List ℕ) × ℕ → Bool
short_key row = nat_le (length row.1.now) 4096

-- the name fits in a text
abbrev pub short_name : ℕ × Bor (List ℕ) → Bool
short_name row = nat_le (length row.1.now) 4096
