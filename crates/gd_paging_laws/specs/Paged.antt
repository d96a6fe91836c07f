-- Pages of a query that were read one after another, and what it means that they are all of its rows.
use Rattle.std.specs.Prelude.{◌≡◌, ℕ, ◌≤◌, List, [], ◌∷◌, ◌++◌, length, Some, Ok}
use Rattle.gd_prim.specs.declared.Primitive.{Primitive}
use Rattle.gd_prim.specs.declared.Batch.{Batch}
use Rattle.gd_prim.specs.History.{prims_of, prims_at}
use Rattle.gd_prim.specs.Limits.{max_prims, max_requests}
use Rattle.gd_tree.specs.Json.{Json, list, Items, no_items, item, compact}
use Rattle.gd_defs.specs.Query.{Query}
use Rattle.gd_defs.specs.Asked.{Asked, asked_query}
use Rattle.gd_defs.specs.Rows.{rows}
use Rattle.gd_defs.specs.Reply.{result_json}
use Rattle.gd_defs.specs.Lines.{ok_cursor_line}
use Rattle.gd_runs.specs.Request.{CursorAsk, cursor_ask, query_reply}
use Rattle.gd_order_laws.specs.Window.{Each}
use Rattle.gd_order_laws.specs.Laws.{StandOnce}

-- a page that was read: the batches of the store that was asked, the number of the line, and what the reply line tells, which is a cursor and the items of a list
pub record Page : Type 0 where
  pub batches : List Batch
  pub line : ℕ
  pub cursor : Json
  pub items : Items

-- the reply line of a page
pub record IsLineOf (p : Page) (bytes : List ℕ) : Type 0 where
  pub dateline : ℕ
  pub is : bytes ≡ ok_cursor_line dateline p.line p.cursor (list p.items)

-- the reply line to a query that is asked with this cursor is that of the page
pub record IsPageOf (q : Query) (from : Json) (p : Page) : Type 0 where
  pub ask : CursorAsk
  pub asked : cursor_ask (Some from) ≡ Some ask
  pub tells : IsLineOf p (query_reply p.batches (length p.batches) p.line (record { cursor = ask; query = q }))

-- pages one after another, from one cursor up to another: each is asked for with the cursor that the one before told
abbrev pub Follow : Query → Json → List Page → Json → Type 0
Follow q from [] to = from ≡ to
Follow q from (p ∷ ps) to = IsPageOf q from p × Follow q p.cursor ps to

-- a store has grown from one to another: its batches are still there, and further ones may have come behind them
abbrev pub Grown : List Batch → List Batch → Type 0
Grown old new = (more : List Batch) × (new ≡ old ++ more)

-- each page was asked of the store of the first one, grown or not
abbrev pub OfOneStore : List Page → Type 0
OfOneStore [] = Unit {0}
OfOneStore (p ∷ ps) = Each (λ r. Grown p.batches r.batches) ps

-- the batches and their primitives are no more than a store takes
pub record AreWithin (batches : List Batch) : Type 0 where
  pub requests : length batches ≤ max_requests
  pub prims : length (prims_of batches) ≤ max_prims

-- some items and then others
abbrev pub append : Items → Items → Items
append no_items js = js
append (item i is) js = item i (append is js)

-- the items of pages, joined
abbrev pub joined : List Page → Items
joined [] = no_items
joined (p ∷ ps) = append p.items (joined ps)

-- items are what a query prints of all of its rows as one page, without a limit; the rows stand for the objects that meet it, each once
pub record AreAllRows (prims : List Primitive) (q : Query) (js : Items) : Type 0 where
  pub asked : Asked
  pub means : asked_query prims q ≡ Ok asked
  pub all : Items
  pub prints : result_json prims asked (rows prims asked) (rows prims asked) ≡ Ok (list all)
  pub same : compact (list js) ≡ compact (list all)
  pub once : StandOnce prims asked

-- the pages joined are all rows of the query at the dateline of the first page
abbrev pub AreWhole : Query → List Page → Type 0
AreWhole q [] = ⊥
AreWhole q (p ∷ ps) = AreAllRows (prims_at p.batches (length p.batches)) q (joined (p ∷ ps))
