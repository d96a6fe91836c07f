-- The laws of pages that were read one after another.
use Rattle.std.specs.Prelude.{◌≡◌, ℕ, List, ◌∷◌, Bool, Ok, true, false}
use Rattle.gd_prim.specs.declared.Batch.{Batch}
use Rattle.gd_tree.specs.Json.{Json, boolean}
use Rattle.gd_defs.specs.Query.{Query, query_of}
use Rattle.gd_runs.specs.Legal.{History}
use Rattle.gd_runs.specs.Explained.{Numbered, Run, IsExplainedBy}
use Rattle.gd_paging_laws.specs.Paged.{Page, Follow, OfOneStore, AreWithin, AreWhole}
use Rattle.gd_paging_laws.specs.Explained.{Shown, AreShown, AreAllShown}

-- Pages from the cursor `true` up to the cursor `false`, joined, are all rows of the query at the dateline of the first page, each once, however the store has grown in between.
abbrev pub PagesAreWhole : Type 0
PagesAreWhole = (j : Json) (q : Query) (p : Page) (ps : List Page) → query_of j ≡ Ok q → AreWithin p.batches → OfOneStore (p ∷ ps)
    → Follow q (boolean true) (p ∷ ps) (boolean false) → AreWhole q (p ∷ ps)

-- Of an output that a history explains: pages that it shows from the cursor `true` up to the cursor `false`, joined, are all rows of the query, each once, at the dateline that the first page prints; the lines may stand in any order and be of any sessions, and anything may be written in between.
abbrev pub ShownPagesAreWhole : Type 0
ShownPagesAreWhole = (loaded : List Batch) (may : ℕ → Bool) (given : List Numbered) (output : List ℕ) (h : History) (runs : List Run) (q : Query) (s : Shown) (ss : List Shown)
    → IsExplainedBy loaded may given output h runs → AreShown runs q (boolean true) (s ∷ ss) (boolean false) → AreAllShown h runs q s ss
