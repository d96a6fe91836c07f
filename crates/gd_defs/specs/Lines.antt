-- The bytes of reply lines.
use Rattle.std.specs.Prelude.{ℕ, pos, List, [], ◌∷◌, codes}
use Rattle.gd_tree.specs.Json.{Json, number, text, list, object, Items, no_items, item, Members, no_members, member, compact}

-- a number that is not negative, as JSON
abbrev pub count_json : ℕ → Json
count_json n = number (pos n)

-- the members of an object from a list, in which they stand in byte order of names
abbrev pub object_of : List (List ℕ × Json) → Members
object_of [] = no_members
object_of (m ∷ ms) = member m.0 m.1 (object_of ms)

-- the items of a list that are these values
abbrev pub items_of : List Json → Items
items_of [] = no_items
items_of (j ∷ js) = item j (items_of js)

-- the items of a list that are these texts
abbrev pub texts : List (List ℕ) → Items
texts [] = no_items
texts (t ∷ ts) = item (text t) (texts ts)

-- the compact text of an object of these members
abbrev pub line_text : List (List ℕ × Json) → List ℕ
line_text ms = compact (object (object_of ms))

-- the member that begins the reply line of an answer
abbrev pub ok_code : List ℕ × Json
ok_code = (codes "code", text (codes "/api/status/ok"))

-- the reply line of an answer: its dateline, the number of its line, its result
abbrev pub ok_line : ℕ → ℕ → Json → List ℕ
ok_line dateline line result = line_text (ok_code ∷ (codes "dateline", count_json dateline) ∷ (codes "line", count_json line) ∷ (codes "result", result) ∷ [])

-- the reply line of an answer with a cursor
abbrev pub ok_cursor_line : ℕ → ℕ → Json → Json → List ℕ
ok_cursor_line dateline line cursor result =
    line_text (ok_code ∷ (codes "cursor", cursor) ∷ (codes "dateline", count_json dateline) ∷ (codes "line", count_json line) ∷ (codes "result", result) ∷ [])

-- a refusal: the name of its error, and what it tells beside
pub record Refusal : Type 0 where
  pub error : List ℕ
  pub info : Members

-- the member that begins the reply line of a refusal
abbrev pub err_code : List ℕ × Json
err_code = (codes "code", text (codes "/api/status/error"))

-- the reply line of a refusal at a dateline
abbrev pub err_line : ℕ → ℕ → Refusal → List ℕ
err_line dateline line r =
    line_text (err_code ∷ (codes "dateline", count_json dateline) ∷ (codes "error", text r.error) ∷ (codes "info", object r.info) ∷ (codes "line", count_json line) ∷ [])

-- the reply line of a refusal that has no dateline
abbrev pub err_line_plain : ℕ → Refusal → List ℕ
err_line_plain line r = line_text (err_code ∷ (codes "error", text r.error) ∷ (codes "info", object r.info) ∷ (codes "line", count_json line) ∷ [])

-- the refusal of this error with these members
abbrev pub refusal : List ℕ → List (List ℕ × Json) → Refusal
refusal error info = record { error = error; info = object_of info }

-- the refusal of this error at the member of a path
abbrev pub refused_at : List ℕ → List (List ℕ) → Refusal
refused_at error path = refusal error ((codes "path", list (texts path)) ∷ [])

-- the refusal of a candidate or a page that weighs too much
abbrev pub too_wide : ℕ → Refusal
too_wide weight = refusal (codes "TooWideAnswer") ((codes "weight", count_json weight) ∷ [])

-- the refusal of a reply that would have so many bytes
abbrev pub too_large : ℕ → Refusal
too_large bytes = refusal (codes "ReplyTooLarge") ((codes "bytes", count_json bytes) ∷ [])

-- the refusal of a text that goes so far with the grammar of cursors, and no further
abbrev pub bad_cursor : ℕ → Refusal
bad_cursor offset = refusal (codes "BadCursor") ((codes "offset", count_json offset) ∷ [])

-- the refusal of a dateline that is not there yet
abbrev pub cursor_ahead : ℕ → ℕ → Refusal
cursor_ahead asked have = refusal (codes "CursorAhead") ((codes "asked", count_json asked) ∷ (codes "have", count_json have) ∷ [])
