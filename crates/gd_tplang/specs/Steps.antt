-- Steps of the code's readers.
use Rattle.std.specs.Prelude.{ℕ, List, [], ◌∷◌, codes}
use Rattle.gd_grammar.specs.Chain.{◌>>=◌}
use Rattle.gd_grammar.specs.Grammar.{Reads, text_at}
use Rattle.gd_grammar.specs.Choice.{behind_at}
use Rattle.gd_tplang.specs.Written.{Item, clause, Items, head_at}

-- reads a mark and an item behind it
unfoldable pub next_at : {A : Type 0} → ℕ → (List ℕ → Reads A) → List ℕ → Reads A
next_at mark one bytes = text_at (mark ∷ []) bytes >>= λ u. one u.1

-- reads a clause, its template by this reader
abbrev pub clause_at : (List ℕ → Reads Items) → List ℕ → Reads Item
clause_at inner bytes = head_at bytes >>= λ h. behind_at (codes " ") (clause h.0.0 h.0.1) inner h.1
