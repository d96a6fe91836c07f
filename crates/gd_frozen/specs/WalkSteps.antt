-- Walks in the steps of the code.
use Rattle.std.specs.Prelude.{ℕ, List, [], ◌∷◌, ◌==◌, if◌then◌else◌, Ok, Err}
use Rattle.gd_grammar.specs.Chain.{◌>>=◌}
use Rattle.gd_grammar.specs.Grammar.{Reads, text_at, number_at}
use Rattle.gd_prim.specs.Limits.{max_prims}
use Rattle.gd_bytes.specs.Frozen.{Walk, is_root, by_links}
use Rattle.gd_bytes.specs.FrozenRead.{some_at, unless_closed, walk_at}
use Rattle.gd_frozen.specs.FrozenAt.{one_or_more_at}

-- reads a walk of links
unfoldable pub linked_at : List ℕ → Reads Walk
linked_at bytes = some_at 15 44 (number_at max_prims) bytes >>= λ ks. Ok (by_links ks.0, ks.1)

-- reads a walk that is no guid
abbrev pub rooted_at : List ℕ → Reads Walk
rooted_at [] = linked_at []
rooted_at (c ∷ cs) = if c == 47 then Ok (is_root, cs) else linked_at (c ∷ cs)

-- reads walks behind a bracket that is not closed at once
unfoldable pub some_walks_at : List ℕ → Reads (List Walk)
some_walks_at bytes = one_or_more_at 59 walk_at bytes >>= λ xs. text_at (93 ∷ []) xs.1 >>= λ c. Ok (xs.0, c.1)

-- reads walks behind a bracket
unfoldable pub walks_behind_at : List ℕ → Reads (List Walk)
walks_behind_at bytes = unless_closed 93 (one_or_more_at 59 walk_at) bytes >>= λ xs. text_at (93 ∷ []) xs.1 >>= λ c. Ok (xs.0, c.1)
