-- Readers of bytes that tell no offset: each gives a value and the bytes after it, or nothing.
use Rattle.std.specs.Prelude.{ℕ, zero, suc, List, [], ◌∷◌, length, take, drop, nat_le, Option, Some, None, if◌then◌else◌}
use Rattle.std.specs.Int.{w16, w32, w64, from_be_bytes}
use Rattle.gd_grammar.specs.Maybe.{◌>>=◌}

-- what a reader gives: the value and the bytes after it, where the bytes begin with one
abbrev pub Reads : Type 0 → Type 0
Reads A = Option (A × List ℕ)

-- reads so many bytes
abbrev pub bytes_at : ℕ → List ℕ → Reads (List ℕ)
bytes_at n bytes = if nat_le n (length bytes) then Some (take n bytes, drop n bytes) else None

-- reads one byte
abbrev pub u8_at : List ℕ → Reads ℕ
u8_at [] = None
u8_at (b ∷ bytes) = Some (b, bytes)

-- reads a number of two bytes
abbrev pub u16_at : List ℕ → Reads ℕ
u16_at bytes = bytes_at 2 bytes >>= λ b. Some (from_be_bytes w16 b.0, b.1)

-- reads a number of four bytes
abbrev pub u32_at : List ℕ → Reads ℕ
u32_at bytes = bytes_at 4 bytes >>= λ b. Some (from_be_bytes w32 b.0, b.1)

-- reads a number of eight bytes
abbrev pub u64_at : List ℕ → Reads ℕ
u64_at bytes = bytes_at 8 bytes >>= λ b. Some (from_be_bytes w64 b.0, b.1)

-- reads so many values, one after another
abbrev pub many_at : {A : Type 0} → (List ℕ → Reads A) → ℕ → List ℕ → Reads (List A)
many_at one zero bytes = Some ([], bytes)
many_at one (suc n) bytes = one bytes >>= λ x. many_at one n x.1 >>= λ xs. Some (x.0 ∷ xs.0, xs.1)
