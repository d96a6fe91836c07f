-- What a reading does, and all of it, in the steps of the code.
use Rattle.std.specs.Prelude.{ℕ, List, [], ◌∷◌, ◌==◌, if◌then◌else◌, Result, Ok, Err}
use Rattle.gd_grammar.specs.Chain.{◌>>=◌}
use Rattle.gd_grammar.specs.Grammar.{Reads, text_at, number_at, ended}
use Rattle.gd_prim.specs.Limits.{max_requests}
use Rattle.gd_bytes.specs.Frozen.{Body, scanning, Frozen}
use Rattle.gd_bytes.specs.FrozenRead.{bracketed_at, row_at, after_at}
use Rattle.gd_frozen.specs.FrozenAt.{scan_at, building_at, printing_at, body_at}

-- reads what a reading that scans does, behind its letter
unfoldable pub scanning_at : List ℕ → Reads Body
scanning_at bytes = scan_at bytes >>= λ s. Ok (scanning s.0, s.1)

-- reads what a reading does that neither scans nor builds trees
unfoldable pub lettered_at : List ℕ → Reads Body
lettered_at bytes = text_at (112 ∷ []) bytes >>= λ u. printing_at u.1

-- reads what a reading does that does not scan
abbrev pub further_body_at : List ℕ → Reads Body
further_body_at [] = lettered_at []
further_body_at (c ∷ cs) = if c == 98 then building_at cs else lettered_at (c ∷ cs)

-- reads what stands in front of the dateline, byte by byte
unfoldable pub head_at : List ℕ → Reads (Unit {0})
head_at bytes = text_at (102 ∷ []) bytes >>= λ a. text_at (49 ∷ []) a.1 >>= λ b. text_at (58 ∷ []) b.1

-- reads the rest of a frozen reading
unfoldable pub behind_at : List ℕ → Reads Frozen
behind_at bytes = number_at max_requests bytes >>= λ d. text_at (58 ∷ []) d.1 >>= λ x. after_at x.1 >>= λ a. text_at (58 ∷ []) a.1 >>= λ y. bracketed_at 1000 row_at y.1 >>= λ rs. text_at (58 ∷ []) rs.1 >>= λ z. body_at z.1 >>= λ b.
    Ok (record { dateline = d.0; after = a.0; rows = rs.0; body = b.0 }, b.1)

-- reads a frozen reading
unfoldable pub read_at : List ℕ → Reads Frozen
read_at bytes = head_at bytes >>= λ t. behind_at t.1

-- reads a frozen reading, behind which no byte may follow
abbrev pub whole_frozen_at : List ℕ → Result Frozen (List ℕ)
whole_frozen_at bytes = read_at bytes >>= ended
