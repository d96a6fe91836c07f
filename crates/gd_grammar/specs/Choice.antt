-- Readers that decide by the next byte, and words in front of what is read.
use Rattle.std.specs.Prelude.{ℕ, List, [], ◌∷◌, ◌++◌, Bool, false, ◌==◌, if◌then◌else◌, Ok}
use Rattle.gd_grammar.specs.Chain.{◌>>=◌}
use Rattle.gd_grammar.specs.Grammar.{Reads, text_at, more_at}

-- it is this byte
abbrev pub is_byte : ℕ → ℕ → Bool
is_byte b c = c == b

-- the next byte passes the test
abbrev pub begins : (ℕ → Bool) → List ℕ → Bool
begins test [] = false
begins test (c ∷ cs) = test c

-- the next byte is this one
abbrev pub is_next : ℕ → List ℕ → Bool
is_next mark bytes = begins (is_byte mark) bytes

-- reads by the one where the next byte passes the test, else by the other
abbrev pub either_at : {A : Type 0} → (ℕ → Bool) → (List ℕ → Reads A) → (List ℕ → Reads A) → List ℕ → Reads A
either_at test one other bytes = if begins test bytes then one bytes else other bytes

-- the value that is read, seen through a function
abbrev pub seen_at : {A B : Type 0} → (A → B) → (List ℕ → Reads A) → List ℕ → Reads B
seen_at f read bytes = read bytes >>= λ x. Ok (f x.0, x.1)

-- reads these very bytes, which stand for a value
abbrev pub word_at : {A : Type 0} → List ℕ → A → List ℕ → Reads A
word_at word a bytes = text_at word bytes >>= λ u. Ok (a, u.1)

-- reads these very bytes and then a value, seen through a function
abbrev pub behind_at : {A B : Type 0} → List ℕ → (A → B) → (List ℕ → Reads A) → List ℕ → Reads B
behind_at word f read bytes = text_at word bytes >>= λ u. seen_at f read u.1

-- reads at least one item and at most so many more, each behind a separating byte
abbrev pub list_at : {A : Type 0} → ℕ → ℕ → (List ℕ → Reads A) → List ℕ → Reads (List A)
list_at n separator one bytes = one bytes >>= λ x. more_at n separator one x.1 >>= λ xs. Ok (x.0 ∷ xs.0, xs.1)

-- what is read, behind what was read before
abbrev pub with_front : {A : Type 0} → List A → Reads (List A) → Reads (List A)
with_front front r = r >>= λ x. Ok (front ++ x.0, x.1)
