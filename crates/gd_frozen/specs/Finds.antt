-- What a reader of the code returns, beside what reading on lists gives.
use Rattle.std.specs.Prelude.{◌≡◌, ℕ, List, [], ◌∷◌, ◌==◌, length, Result, Ok, Err, Option, Bool, false}
use Rattle.gd_grammar.specs.Chain.{◌>>=◌}
use Rattle.gd_grammar.specs.Grammar.{Reads, text_at, number_at, more_at, ended}
use Rattle.gd_bytes.specs.Cursor.{Cursor, place_at}
use Rattle.gd_prim.specs.Limits.{max_prims, max_requests}
use Rattle.gd_frozen.specs.declared.stop.Stop.{Stop}

-- no text of the grammar goes on before the last so many bytes
abbrev pub Stopped : {B : Type 0} → Stop → Result B (List ℕ) → Type 0
Stopped stop (Ok x) = ⊥
Stopped stop (Err rest) = stop.left ≡ length rest

-- the reader found what reading on lists gives, or stopped where that stops
abbrev pub Finds : {A B : Type 0} → (A → B) → Result B (List ℕ) → Result A Stop → Type 0
Finds view read (Ok a) = read ≡ Ok (view a)
Finds view read (Err stop) = Stopped stop read

-- reads a colon and the place of a key behind it
unfoldable pub next_at : List ℕ → Reads (Option ℕ)
next_at bytes = text_at (58 ∷ []) bytes >>= λ u. place_at u.1

-- reads what stands in front of the dateline, byte by byte
unfoldable pub head_at : List ℕ → Reads (Unit {0})
head_at bytes = text_at (99 ∷ []) bytes >>= λ a. text_at (49 ∷ []) a.1 >>= λ b. text_at (58 ∷ []) b.1

-- reads the rest of a cursor
unfoldable pub rest_at : List ℕ → Reads Cursor
rest_at bytes = number_at max_requests bytes >>= λ d. text_at (58 ∷ []) d.1 >>= λ u. number_at max_prims u.1 >>= λ o. more_at 4 58 place_at o.1 >>= λ ks. Ok (record { dateline = d.0; after = record { object = o.0; keys = ks.0 } }, ks.1)

-- reads a cursor
unfoldable pub read_at : List ℕ → Reads Cursor
read_at bytes = head_at bytes >>= λ t. rest_at t.1

-- reads a cursor, behind which no byte may follow
abbrev pub whole_cursor_at : List ℕ → Result Cursor (List ℕ)
whole_cursor_at bytes = read_at bytes >>= ended
