-- Grammars of texts: which texts are in one, and how far other bytes go with it.
use Rattle.gd_grammar.specs.Chain.{◌>>=◌}
use Rattle.std.specs.Prelude.{◌≡◌, ℕ, zero, suc, ◌+◌, ◌-◌, ◌*◌, ◌<◌, ◌≤◌, List, [], ◌∷◌, ◌++◌, length, take, not, ◌&&◌, ◌==◌, nat_le, Result, Ok, Err, if◌then◌else◌}
use Rattle.std.specs.Char.{is_ascii_digit}

-- A grammar is a spelling of values and a condition on them: the bytes spell this value, and it fits.
abbrev pub IsText : {V : Type 0} → (V → List ℕ) → (V → Type 0) → V → List ℕ → Type 0
IsText spelling Fits v bytes = Fits v × (bytes ≡ spelling v)

-- the bytes spell some value that fits
abbrev pub Spells : {V : Type 0} → (V → List ℕ) → (V → Type 0) → List ℕ → Type 0
Spells {V} spelling Fits bytes = (v : V) × IsText spelling Fits v bytes

-- the bytes begin some text of the grammar
abbrev pub BeginsSome : {V : Type 0} → (V → List ℕ) → (V → Type 0) → List ℕ → Type 0
BeginsSome {V} spelling Fits bytes = (v : V) × (rest : List ℕ) × Fits v × (spelling v ≡ bytes ++ rest)

-- the bytes are no text of the grammar, and n is the length of their longest prefix that begins some text of it
pub record IsFaultAt {V : Type 0} (spelling : V → List ℕ) (Fits : V → Type 0) (bytes : List ℕ) (n : ℕ) : Type 0 where
  pub none : Spells spelling Fits bytes → ⊥
  pub within : n ≤ length bytes
  pub begins : BeginsSome spelling Fits (take n bytes)
  pub longest : (m : ℕ) → n < m → m ≤ length bytes → BeginsSome spelling Fits (take m bytes) → ⊥

-- ---- reading from the left: what was read and the bytes after it, or the bytes where no text goes on

-- what a reader gives: a value and the bytes after it, or the bytes at which no text of its grammar goes on
abbrev pub Reads : Type 0 → Type 0
Reads A = Result (A × List ℕ) (List ℕ)

-- reads these very bytes
abbrev pub text_at : List ℕ → List ℕ → Reads (Unit {0})
text_at [] bytes = Ok (tt, bytes)
text_at (c ∷ cs) [] = Err []
text_at (c ∷ cs) (d ∷ ds) = if c == d then text_at cs ds else Err (d ∷ ds)

-- the number that n becomes by the digits that follow, as long as it is not 0 and stays within the bound
abbrev pub digits_at : ℕ → ℕ → List ℕ → ℕ × List ℕ
digits_at bound n [] = (n, [])
digits_at bound n (c ∷ cs) = if is_ascii_digit c && not (n == 0) && nat_le (10 * n + (c - 48)) bound then digits_at bound (10 * n + (c - 48)) cs else (n, c ∷ cs)

-- reads a decimal number without a leading zero, as far as it stays within the bound
abbrev pub number_at : ℕ → List ℕ → Reads ℕ
number_at bound [] = Err []
number_at bound (c ∷ cs) = if is_ascii_digit c && nat_le (c - 48) bound then Ok (digits_at bound (c - 48) cs) else Err (c ∷ cs)

-- reads at most so many items, each behind a separating byte
abbrev pub more_at : {A : Type 0} → ℕ → ℕ → (List ℕ → Reads A) → List ℕ → Reads (List A)
more_at zero separator one bytes = Ok ([], bytes)
more_at (suc n) separator one [] = Ok ([], [])
more_at (suc n) separator one (c ∷ cs) = if c == separator then (one cs >>= λ x. more_at n separator one x.1 >>= λ xs. Ok (x.0 ∷ xs.0, xs.1)) else Ok ([], c ∷ cs)

-- the value that was read, if no byte follows
abbrev pub ended : {A : Type 0} → A × List ℕ → Result A (List ℕ)
ended (a, []) = Ok a
ended (a, c ∷ cs) = Err (c ∷ cs)

-- the value that was read, or how many of the bytes lie before the place at which no text goes on
abbrev pub with_offset : {A : Type 0} → List ℕ → Result A (List ℕ) → Result A ℕ
with_offset bytes (Ok a) = Ok a
with_offset bytes (Err rest) = Err (length bytes - length rest)

-- the value that all of the bytes spell, or how many of them go with the grammar
abbrev pub whole : {A : Type 0} → (List ℕ → Reads A) → List ℕ → Result A ℕ
whole read bytes = with_offset bytes (read bytes >>= ended)
