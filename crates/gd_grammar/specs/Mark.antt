-- Marks in the order of a query's rows, and the texts of cursors, which spell them.
use Rattle.std.specs.Prelude.{ℕ, List, ◌++◌, flat_map, Option, Some, None, codes, decimal}

-- an object with the places at which its sort keys stand: a row, after which a page may begin
pub record Mark : Type 0 where
  pub object : ℕ
  pub keys : List (Option ℕ)

-- a place in decimal digits, or `-` where it is missing
abbrev pub place_text : Option ℕ → List ℕ
place_text None = codes "-"
place_text (Some place) = decimal place

-- the text of a cursor: `c1`, a dateline, an object and the places of its keys, with colons between them
abbrev pub cursor_text : ℕ → Mark → List ℕ
cursor_text dateline m = codes "c1:" ++ decimal dateline ++ codes ":" ++ decimal m.object ++ flat_map (λ key. codes ":" ++ place_text key) m.keys
