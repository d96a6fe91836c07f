-- Reading the text of a frozen reading from the left.
use Rattle.std.specs.Prelude.{ℕ, zero, suc, List, [], ◌∷◌, length, ◌==◌, Option, Some, None, Result, Ok, Err, if◌then◌else◌, codes}
use Rattle.gd_grammar.specs.Grammar.{Reads, text_at, number_at, more_at, whole}
use Rattle.gd_grammar.specs.Chain.{◌>>=◌}
use Rattle.gd_grammar.specs.Mark.{Mark}
use Rattle.gd_tree.specs.Trees.{Tree, tree, Trees, TreeLists, no_lists, trees_of, tree_lists_of}
use Rattle.gd_prim.specs.Limits.{max_prims, max_requests}
use Rattle.gd_bytes.specs.Cursor.{place_at}
use Rattle.gd_bytes.specs.Frozen.{IterAt, Frame, Scan, Walk, by_guid, is_root, by_links, Body, scanning, building, printing, Frozen, max_number}

-- reads one item and at most so many further ones, each behind a separating byte
abbrev pub some_at : {A : Type 0} → ℕ → ℕ → (List ℕ → Reads A) → List ℕ → Reads (List A)
some_at n separator one bytes = one bytes >>= λ x. more_at n separator one x.1 >>= λ xs. Ok (x.0 ∷ xs.0, xs.1)

-- reads items, none where the closing byte stands here
abbrev pub unless_closed : {A : Type 0} → ℕ → (List ℕ → Reads (List A)) → List ℕ → Reads (List A)
unless_closed close items [] = items []
unless_closed close items (c ∷ cs) = if c == close then Ok ([], c ∷ cs) else items (c ∷ cs)

-- reads items between brackets with semicolons between them, at most so many behind the first
abbrev pub bracketed_at : {A : Type 0} → ℕ → (List ℕ → Reads A) → List ℕ → Reads (List A)
bracketed_at n one bytes = text_at (codes "[") bytes >>= λ o. unless_closed 93 (some_at n 59 one) o.1 >>= λ xs. text_at (codes "]") xs.1 >>= λ c. Ok (xs.0, c.1)

-- reads a row: a number and at most four places behind commas
abbrev pub row_at : List ℕ → Reads Mark
row_at bytes = number_at max_prims bytes >>= λ o. more_at 4 44 place_at o.1 >>= λ ks. Ok (record { object = o.0; keys = ks.0 }, ks.1)

-- reads the row after which a page begins: a row between parentheses, or `-`
abbrev pub after_at : List ℕ → Reads (Option Mark)
after_at [] = Err []
after_at (c ∷ cs) = if c == 45 then Ok (None, cs) else (text_at (codes "(") (c ∷ cs) >>= λ o. row_at o.1 >>= λ r. text_at (codes ")") r.1 >>= λ x. Ok (Some r.0, x.1))

-- reads a number behind a question mark, if one stands here
abbrev pub mark_at : List ℕ → Reads (Option ℕ)
mark_at [] = Ok (None, [])
mark_at (c ∷ cs) = if c == 63 then (number_at max_number cs >>= λ m. Ok (Some m.0, m.1)) else Ok (None, c ∷ cs)

-- reads the position of an iterator
abbrev pub iter_at : List ℕ → Reads IterAt
iter_at bytes = number_at max_prims bytes >>= λ p. mark_at p.1 >>= λ m. Ok (record { place = p.0; accepted = m.0 }, m.1)

-- what was read as a list of trees, as trees
abbrev pub as_trees : Reads (List Tree) → Reads Trees
as_trees r = r >>= λ ts. Ok (trees_of ts.0, ts.1)

-- reads lists of trees between parentheses with commas between them
abbrev pub lists_at : ℕ → (List ℕ → Reads Trees) → List ℕ → Reads TreeLists
lists_at n trees bytes = text_at (codes "(") bytes >>= λ o. some_at n 44 trees o.1 >>= λ ls. text_at (codes ")") ls.1 >>= λ c. Ok (tree_lists_of ls.0, c.1)

-- reads lists of trees where a parenthesis opens, else none
abbrev pub lists_if_open : (List ℕ → Reads TreeLists) → List ℕ → Reads TreeLists
lists_if_open lists [] = Ok (no_lists, [])
lists_if_open lists (c ∷ cs) = if c == 40 then lists (c ∷ cs) else Ok (no_lists, c ∷ cs)

-- reads a tree that is at most so deep; the first number bounds the length of its lists
abbrev pub tree_at : ℕ → ℕ → List ℕ → Reads Tree
tree_at n zero bytes = Err bytes
tree_at n (suc depth) bytes = number_at max_prims bytes >>= λ p.
    lists_if_open (lists_at n (λ b. as_trees (bracketed_at n (tree_at n depth) b))) p.1 >>= λ ls. Ok (tree p.0 ls.0, ls.1)

-- reads trees between brackets; the number bounds their depth and the length of their lists
abbrev pub trees_at : ℕ → List ℕ → Reads Trees
trees_at n bytes = as_trees (bracketed_at n (tree_at n n) bytes)

-- reads a frame
abbrev pub frame_at : ℕ → List ℕ → Reads Frame
frame_at n bytes = number_at max_prims bytes >>= λ p. text_at (codes ",") p.1 >>= λ c. iter_at c.1 >>= λ i. text_at (codes ",") i.1 >>= λ d.
    lists_at n (trees_at n) d.1 >>= λ ls.
    Ok (record { place = p.0; iter = i.0; lists = ls.0 }, ls.1)

-- reads a scan
abbrev pub scan_at : ℕ → List ℕ → Reads Scan
scan_at n bytes = text_at (codes "[") bytes >>= λ o. iter_at o.1 >>= λ i. text_at (codes ",") i.1 >>= λ c. number_at max_number c.1 >>= λ w.
    more_at n 59 (frame_at n) w.1 >>= λ fs. text_at (codes "]") fs.1 >>= λ d.
    Ok (record { iter = i.0; weight = w.0; frames = fs.0 }, d.1)

-- reads a walk
abbrev pub walk_at : List ℕ → Reads Walk
walk_at [] = Err []
walk_at (c ∷ cs) = if c == 103 then Ok (by_guid, cs) else if c == 47 then Ok (is_root, cs)
    else (some_at 15 44 (number_at max_prims) (c ∷ cs) >>= λ ks. Ok (by_links ks.0, ks.1))

-- reads what a reading does, by its first letter
abbrev pub body_at : ℕ → List ℕ → Reads Body
body_at n [] = Err []
body_at n (c ∷ cs) = if c == 115 then (scan_at n cs >>= λ s. Ok (scanning s.0, s.1))
    else if c == 98 then (number_at max_number cs >>= λ w. text_at (codes ":") w.1 >>= λ x. trees_at n x.1 >>= λ ts. text_at (codes ":") ts.1 >>= λ y.
    scan_at n y.1 >>= λ s. Ok (building w.0 ts.0 s.0, s.1))
    else if c == 112 then (number_at max_number cs >>= λ m. text_at (codes ":") m.1 >>= λ x. trees_at n x.1 >>= λ ts. text_at (codes ":") ts.1 >>= λ y.
    bracketed_at n walk_at y.1 >>= λ ws. Ok (printing m.0 ts.0 ws.0, ws.1))
    else Err (c ∷ cs)

-- reads a frozen reading; the number bounds the depth and the length of what is nested
abbrev pub frozen_at : ℕ → List ℕ → Reads Frozen
frozen_at n bytes = text_at (codes "f1:") bytes >>= λ o. number_at max_requests o.1 >>= λ d. text_at (codes ":") d.1 >>= λ x. after_at x.1 >>= λ a.
    text_at (codes ":") a.1 >>= λ y. bracketed_at 1000 row_at y.1 >>= λ rs. text_at (codes ":") rs.1 >>= λ z. body_at n z.1 >>= λ b.
    Ok (record { dateline = d.0; after = a.0; rows = rs.0; body = b.0 }, b.1)

-- the frozen reading that a text spells, or how many of its bytes go with the grammar
abbrev pub frozen_of : List ℕ → Result Frozen ℕ
frozen_of bytes = whole (frozen_at (length bytes)) bytes
