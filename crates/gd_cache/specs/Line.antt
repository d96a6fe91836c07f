-- What is kept of a reply, as the reply line that it is.
use Rattle.std.specs.Prelude.{ℕ, List, [], ◌++◌, Option, Some, None, codes, decimal}
use Rattle.gd_cache.specs.declared.key.Kept.{Kept}

-- the member of the cursor, where there is one
abbrev pub cursor_part : Option (List ℕ) → List ℕ
cursor_part None = []
cursor_part (Some cursor) = codes ",\"cursor\":" ++ cursor

-- the reply line of line k at a dateline
abbrev pub kept_text : ℕ → ℕ → Kept → List ℕ
kept_text dateline k kept =
    codes "{\"code\":\"/api/status/ok\"" ++ cursor_part kept.cursor ++ (codes ",\"dateline\":" ++ decimal dateline) ++ (codes ",\"line\":" ++ decimal k) ++ (codes ",\"result\":" ++ kept.outcome) ++ codes "}"

-- what stands between the cursor and the result
abbrev pub middle_text : ℕ → ℕ → List ℕ
middle_text dateline k = (codes ",\"dateline\":" ++ decimal dateline) ++ (codes ",\"line\":" ++ decimal k) ++ codes ",\"result\":"
