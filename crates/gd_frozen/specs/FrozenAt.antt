-- Reading the text of a frozen reading from the left, where trees are read byte by byte.
use Rattle.std.specs.Prelude.{ℕ, List, [], ◌∷◌, length, ◌==◌, Option, Some, None, Result, Ok, Err, if◌then◌else◌, codes}
use Rattle.gd_grammar.specs.Grammar.{Reads, text_at, number_at, more_at, whole}
use Rattle.gd_grammar.specs.Chain.{◌>>=◌}
use Rattle.gd_grammar.specs.Mark.{Mark}
use Rattle.gd_tree.specs.Trees.{Trees, TreeLists, tree_lists_of}
use Rattle.gd_prim.specs.Limits.{max_prims, max_requests}
use Rattle.gd_bytes.specs.Frozen.{IterAt, Frame, Scan, Walk, by_guid, is_root, by_links, Body, scanning, building, printing, Frozen, max_number}
use Rattle.gd_bytes.specs.FrozenRead.{some_at, unless_closed, bracketed_at, row_at, after_at, iter_at, walk_at}
use Rattle.gd_frozen.specs.Pieces.{trees_at}

-- reads items as long as a separating byte comes next
abbrev pub all_at : {A : Type 0} → ℕ → (List ℕ → Reads A) → List ℕ → Reads (List A)
all_at separator one bytes = more_at (length bytes) separator one bytes

-- reads one item and all further ones, each behind a separating byte
abbrev pub one_or_more_at : {A : Type 0} → ℕ → (List ℕ → Reads A) → List ℕ → Reads (List A)
one_or_more_at separator one bytes = one bytes >>= λ x. all_at separator one x.1 >>= λ xs. Ok (x.0 ∷ xs.0, xs.1)

-- reads lists of trees between parentheses with commas between them
abbrev pub lists_at : List ℕ → Reads TreeLists
lists_at bytes = text_at (codes "(") bytes >>= λ o. one_or_more_at 44 trees_at o.1 >>= λ ls. text_at (codes ")") ls.1 >>= λ c. Ok (tree_lists_of ls.0, c.1)

-- reads a frame
abbrev pub frame_at : List ℕ → Reads Frame
frame_at bytes = number_at max_prims bytes >>= λ p. text_at (codes ",") p.1 >>= λ c. iter_at c.1 >>= λ i. text_at (codes ",") i.1 >>= λ d. lists_at d.1 >>= λ ls.
    Ok (record { place = p.0; iter = i.0; lists = ls.0 }, ls.1)

-- reads a scan
abbrev pub scan_at : List ℕ → Reads Scan
scan_at bytes = text_at (codes "[") bytes >>= λ o. iter_at o.1 >>= λ i. text_at (codes ",") i.1 >>= λ c. number_at max_number c.1 >>= λ w. all_at 59 frame_at w.1 >>= λ fs. text_at (codes "]") fs.1 >>= λ d.
    Ok (record { iter = i.0; weight = w.0; frames = fs.0 }, d.1)

-- reads walks between brackets
abbrev pub walks_at : List ℕ → Reads (List Walk)
walks_at bytes = text_at (codes "[") bytes >>= λ o. unless_closed 93 (one_or_more_at 59 walk_at) o.1 >>= λ ws. text_at (codes "]") ws.1 >>= λ c. Ok (ws.0, c.1)

-- reads what a reading that builds trees does, behind its letter
abbrev pub building_at : List ℕ → Reads Body
building_at bytes = number_at max_number bytes >>= λ w. text_at (codes ":") w.1 >>= λ x. trees_at x.1 >>= λ ts. text_at (codes ":") ts.1 >>= λ y. scan_at y.1 >>= λ s. Ok (building w.0 ts.0 s.0, s.1)

-- reads what a reading that prints does, behind its letter
abbrev pub printing_at : List ℕ → Reads Body
printing_at bytes = number_at max_number bytes >>= λ n. text_at (codes ":") n.1 >>= λ x. trees_at x.1 >>= λ ts. text_at (codes ":") ts.1 >>= λ y. walks_at y.1 >>= λ ws. Ok (printing n.0 ts.0 ws.0, ws.1)

-- reads what a reading does, by its first letter
abbrev pub body_at : List ℕ → Reads Body
body_at [] = Err []
body_at (c ∷ cs) = if c == 115 then (scan_at cs >>= λ s. Ok (scanning s.0, s.1)) else if c == 98 then building_at cs else if c == 112 then printing_at cs else Err (c ∷ cs)

-- reads a frozen reading
abbrev pub frozen_at : List ℕ → Reads Frozen
frozen_at bytes = text_at (codes "f1:") bytes >>= λ o. number_at max_requests o.1 >>= λ d. text_at (codes ":") d.1 >>= λ x. after_at x.1 >>= λ a. text_at (codes ":") a.1 >>= λ y. bracketed_at 1000 row_at y.1 >>= λ rs. text_at (codes ":") rs.1 >>= λ z. body_at z.1 >>= λ b.
    Ok (record { dateline = d.0; after = a.0; rows = rs.0; body = b.0 }, b.1)

-- the frozen reading that a text spells, or how many of its bytes go with the grammar
abbrev pub frozen_of : List ℕ → Result Frozen ℕ
frozen_of bytes = whole frozen_at bytes
