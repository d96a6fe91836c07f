-- Pages as an output shows them, which a history explains, and what it means that they are all rows of their query.
use Rattle.std.specs.Prelude.{◌≡◌, ℕ, ◌≤◌, List, [], ◌∷◌, Some, Ok, slice_get}
use Rattle.gd_prim.specs.History.{prims_at}
use Rattle.gd_tree.specs.Json.{Json, list, Items, no_items}
use Rattle.gd_defs.specs.Query.{Query}
use Rattle.gd_defs.specs.Lines.{ok_cursor_line}
use Rattle.gd_runs.specs.Request.{CursorAsk, cursor_ask, one_query, read}
use Rattle.gd_runs.specs.Input.{line_from}
use Rattle.gd_runs.specs.Legal.{History, batches, size}
use Rattle.gd_runs.specs.Explained.{Run, answered}
use Rattle.gd_paging_laws.specs.Paged.{append, AreAllRows}

-- a page that an output shows: the number of the line that asked for it, and what the reply line tells, which is a cursor and the items of a list
pub record Shown : Type 0 where
  pub line : ℕ
  pub cursor : Json
  pub items : Items

-- a line of these runs asks for a page of this one query with this cursor, and its reply is the line of this page
pub record IsShown (runs : List Run) (q : Query) (from : Json) (s : Shown) : Type 0 where
  pub run : Run
  pub there : slice_get runs s.line ≡ Some run
  pub session : ℕ
  pub ask : CursorAsk
  pub asked : cursor_ask (Some from) ≡ Some ask
  pub reads : line_from run.line.bytes ≡ Ok (read session (one_query (record { cursor = ask; query = q })))
  pub dateline : ℕ
  pub tells : run.reply ≡ ok_cursor_line dateline s.line s.cursor (list s.items)

-- pages that are shown one after another, from one cursor up to another: each is asked for with the cursor that the one before told
abbrev pub AreShown : List Run → Query → Json → List Shown → Json → Type 0
AreShown runs q from [] to = from ≡ to
AreShown runs q from (s ∷ ss) to = IsShown runs q from s × AreShown runs q s.cursor ss to

-- the items of pages that are shown, joined
abbrev pub shown_items : List Shown → Items
shown_items [] = no_items
shown_items (s ∷ ss) = append s.items (shown_items ss)

-- the items of these pages, joined, are all rows of the query, each once, at the dateline that the first page prints: it was answered over so many batches of the history
pub record AreAllShown (h : History) (runs : List Run) (q : Query) (first : Shown) (more : List Shown) : Type 0 where
  pub run : Run
  pub there : slice_get runs first.line ≡ Some run
  pub dateline : ℕ
  pub within : dateline ≤ size h
  pub answers : run.outcome ≡ answered dateline
  pub prints : run.reply ≡ ok_cursor_line dateline first.line first.cursor (list first.items)
  pub all : AreAllRows (prims_at (batches h) dateline) q (shown_items (first ∷ more))
