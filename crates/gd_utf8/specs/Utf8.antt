-- UTF-8 as an automaton over bytes: what is due in a character, which byte may come next, and what is due behind it.
use Rattle.std.specs.Prelude.{ℕ, zero, suc, ◌-◌, List, [], ◌∷◌, length, Bool, ◌&&◌, ◌==◌, nat_le, nat_lt, if◌then◌else◌, Ok}
use Rattle.gd_grammar.specs.Chain.{◌>>=◌}
use Rattle.gd_grammar.specs.Grammar.{Reads}
use Rattle.gd_grammar.specs.Reading.{between, byte_if}

-- how many bytes are due in a character, and the least and the greatest that may come next
pub record Due : Type 0 where
  pub due : ℕ
  pub least : ℕ
  pub most : ℕ

-- between two characters
abbrev pub start : Due
start = record { due = 0; least = 128; most = 191 }

-- how many bytes follow the first byte of a character, or 4 where it begins none
abbrev pub follow : ℕ → ℕ
follow b = if nat_lt b 128 then 0 else (if between 194 223 b then 1 else (if between 224 239 b then 2 else (if between 240 244 b then 3 else 4)))

-- the least byte that may follow the first byte of a character: no character is spelled longer than it need be
abbrev pub least_after : ℕ → ℕ
least_after b = if b == 224 then 160 else (if b == 240 then 144 else 128)

-- the greatest byte that may follow the first byte of a character: no surrogates, and nothing past the last character
abbrev pub most_after : ℕ → ℕ
most_after b = if b == 237 then 159 else (if b == 244 then 143 else 191)

-- the byte may come next, before so many bytes more of the text
unfoldable pub may_come : ℕ → Due → ℕ → Bool
may_come n s b = if s.due == 0 then (nat_le (follow b) n && nat_lt (follow b) 4) else between s.least s.most b

-- what is due after the byte
unfoldable pub after : Due → ℕ → Due
after s b = if s.due == 0 then record { due = follow b; least = least_after b; most = most_after b } else record { due = s.due - 1; least = 128; most = 191 }

-- the bytes may come one after another, and end between two characters
abbrev pub accepts : Due → List ℕ → Bool
accepts s [] = s.due == 0
accepts s (b ∷ bytes) = may_come (length bytes) s b && accepts (after s b) bytes

-- reads so many bytes of UTF-8 from inside or between characters
abbrev pub utf8_from : ℕ → Due → List ℕ → Reads (List ℕ)
utf8_from zero s bytes = Ok ([], bytes)
utf8_from (suc n) s bytes = byte_if (may_come n s) bytes >>= λ b. utf8_from n (after s b.0) b.1 >>= λ t. Ok (b.0 ∷ t.0, t.1)

-- reads so many bytes of UTF-8
abbrev pub utf8_at : ℕ → List ℕ → Reads (List ℕ)
utf8_at n bytes = utf8_from n start bytes
