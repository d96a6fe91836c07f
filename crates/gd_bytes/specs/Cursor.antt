-- Texts of cursors: which there are, and how they are read.
use Rattle.std.specs.Prelude.{ℕ, ◌≤◌, List, [], ◌∷◌, length, ◌==◌, Result, Ok, Err, Option, Some, None, if◌then◌else◌, codes}
use Rattle.std.specs.List.{AllByRecursion}
use Rattle.gd_grammar.specs.Chain.{◌>>=◌}
use Rattle.gd_grammar.specs.Grammar.{Reads, text_at, number_at, more_at, whole, IsFaultAt, IsText}
use Rattle.gd_grammar.specs.Mark.{Mark, cursor_text}
use Rattle.gd_prim.specs.Limits.{max_prims, max_requests}

-- a cursor: a dateline, and the row after which its page begins
pub record Cursor : Type 0 where
  pub dateline : ℕ
  pub after : Mark

-- the text of a cursor
abbrev pub spelling : Cursor → List ℕ
spelling c = cursor_text c.dateline c.after

-- a key place that is there lies within the greatest number of primitives
abbrev pub PlaceFits : Option ℕ → Type 0
PlaceFits None = Unit {0}
PlaceFits (Some place) = place ≤ max_prims

-- the bounds of a cursor: of its dateline and its places, which are an object and at most four keys
pub record Fits (c : Cursor) : Type 0 where
  pub dateline : c.dateline ≤ max_requests
  pub object : c.after.object ≤ max_prims
  pub keys : AllByRecursion PlaceFits c.after.keys
  pub few : length c.after.keys ≤ 4

-- the bytes are the text of this cursor
abbrev pub IsCursorText : Cursor → List ℕ → Type 0
IsCursorText c bytes = IsText spelling Fits c bytes

-- the bytes are the text of no cursor, and n of them go with the grammar
abbrev pub IsBadCursorAt : List ℕ → ℕ → Type 0
IsBadCursorAt bytes n = IsFaultAt spelling Fits bytes n

-- ---- reading

-- reads a key place
abbrev pub place_at : List ℕ → Reads (Option ℕ)
place_at [] = Err []
place_at (c ∷ cs) = if c == 45 then Ok (None, cs) else (number_at max_prims (c ∷ cs) >>= λ n. Ok (Some n.0, n.1))

-- reads a cursor
abbrev pub cursor_at : List ℕ → Reads Cursor
cursor_at bytes = text_at (codes "c1:") bytes >>= λ t. number_at max_requests t.1 >>= λ d. text_at (codes ":") d.1 >>= λ u. number_at max_prims u.1 >>= λ o.
    more_at 4 58 place_at o.1 >>= λ ks. Ok (record { dateline = d.0; after = record { object = o.0; keys = ks.0 } }, ks.1)

-- the cursor that a text spells, or how many of its bytes go with the grammar
abbrev pub cursor_of : List ℕ → Result Cursor ℕ
cursor_of bytes = whole cursor_at bytes
