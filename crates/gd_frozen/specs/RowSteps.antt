-- Rows in the steps of the code.
use Rattle.std.specs.Prelude.{ℕ, List, [], ◌∷◌, Ok}
use Rattle.gd_grammar.specs.Chain.{◌>>=◌}
use Rattle.gd_grammar.specs.Grammar.{Reads, text_at}
use Rattle.gd_grammar.specs.Mark.{Mark}
use Rattle.gd_bytes.specs.FrozenRead.{row_at, some_at, unless_closed}

-- reads a row between parentheses
unfoldable pub given_row_at : List ℕ → Reads Mark
given_row_at bytes = text_at (40 ∷ []) bytes >>= λ o. row_at o.1 >>= λ r. text_at (41 ∷ []) r.1 >>= λ c. Ok (r.0, c.1)

-- reads rows behind a bracket that is not closed at once
unfoldable pub some_rows_at : List ℕ → Reads (List Mark)
some_rows_at bytes = some_at 1000 59 row_at bytes >>= λ xs. text_at (93 ∷ []) xs.1 >>= λ c. Ok (xs.0, c.1)

-- reads rows behind a bracket
unfoldable pub rows_behind_at : List ℕ → Reads (List Mark)
rows_behind_at bytes = unless_closed 93 (some_at 1000 59 row_at) bytes >>= λ xs. text_at (93 ∷ []) xs.1 >>= λ c. Ok (xs.0, c.1)
