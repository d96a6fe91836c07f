-- The reply to a read: its page as JSON, or the first refusal.
use Rattle.std.specs.Prelude.{◌+◌, ◌||◌, ℕ, List, [], ◌∷◌, Bool, true, false, not, ◌&&◌, nat_lt, Option, Some, None, unwrap_or, if◌then◌else◌, filter, take, length, sum_by, codes, Result, Ok, Err}
use Rattle.std.specs.List.{list_any, last_or}
use Rattle.std.specs.Option.{option_map_or}
use Rattle.std.specs.Ordering.{is_lt}
use Rattle.gd_base.specs.declared.datum.Datum.{Datum}
use Rattle.gd_base.specs.declared.datum.Datum.TheVariants as datum
use Rattle.gd_prim.specs.declared.Primitive.{Primitive}
use Rattle.gd_prim.specs.Live.{value_at}
use Rattle.gd_defs.specs.Ids.{id_text}
use Rattle.gd_tree.specs.Json.{Json, null, boolean, text, list, object, Items, no_items, item, Members as JsonMembers, no_members as no_json_members, member as json_member}
use Rattle.gd_defs.specs.Data.{datum_json}
pub use Rattle.gd_grammar.specs.Mark.{Mark}
use Rattle.gd_grammar.specs.Mark.{cursor_text}
use Rattle.gd_grammar.specs.Chain.{◌>>=◌, map_err}
use Rattle.gd_defs.specs.Query.{Code, Query}
use Rattle.gd_defs.specs.Query as query
use Rattle.gd_defs.specs.Property.{answers, answer_datum, first}
use Rattle.gd_defs.specs.Asked.{Own, its_id, its_namespace, its_lang, Style, as_operand, as_value, as_id, as_clause, SortKey, Asking, Members, no_members, own, asks, Asked, asked_query, Unknown, no_such_id, no_such_property, bad_query, name_property}
use Rattle.gd_defs.specs.Rows.{Row, row_cmp, own_datum, met, printed, rows, candidates, row_weight}
use Rattle.gd_defs.specs.Lines.{Refusal, object_of, refusal, refused_at, too_wide, too_large, ok_line, ok_cursor_line, err_line, count_json, texts}

-- ---- codes as they print

-- a code as it prints
abbrev pub code_text : Code → List ℕ
code_text query.envelope = codes "envelope"
code_text query.list_form = codes "list_form"
code_text query.bad_word = codes "bad_word"
code_text query.left_out = codes "left_out"
code_text query.bad_directive = codes "bad_directive"
code_text query.bad_operand = codes "bad_operand"
code_text query.bad_write = codes "bad_write"
code_text query.bad_create = codes "bad_create"
code_text query.bad_connect = codes "bad_connect"
code_text query.bad_value = codes "bad_value"
code_text query.bad_operator = codes "bad_operator"
code_text query.value_reversed = codes "value_reversed"
code_text query.object_form = codes "object_form"
code_text query.bad_sort = codes "bad_sort"
code_text query.not_met = codes "not_met"
code_text query.bad_previous = codes "bad_previous"
code_text query.bad_lang = codes "bad_lang"

-- the refusal that a code at a path is
abbrev pub bad_query_refusal : Code → List (List ℕ) → Refusal
bad_query_refusal code path = refusal (codes "BadQuery") ((codes "code", text (code_text code)) ∷ (codes "path", list (texts path)) ∷ [])

-- the refusal of a query that has no meaning
abbrev pub unknown_refusal : Unknown → Refusal
unknown_refusal (no_such_id t) = refusal (codes "NoSuchId") ((codes "path", text t) ∷ [])
unknown_refusal (no_such_property path) = refused_at (codes "NoSuchProperty") path
unknown_refusal (bad_query code path) = bad_query_refusal code path

-- ---- how things print

-- a datum as it prints, an object as its id
abbrev pub id_json : List Primitive → Datum → Json
id_json prims (datum.Object o) = text (id_text prims o)
id_json prims d = datum_json d

-- the first English name of an object, or null
abbrev pub first_name : List Primitive → ℕ → Json
first_name prims o = option_map_or (λ k. datum_json (value_at prims k)) (first (answers prims name_property o)) null

-- what a computed member prints of an object and the link that led to it
abbrev pub own_json : List Primitive → Own → ℕ → ℕ → Json
own_json prims its_id link o = id_json prims (own_datum prims its_id link o)
own_json prims its_namespace link o = id_json prims (own_datum prims its_namespace link o)
own_json prims its_lang link o = id_json prims (own_datum prims its_lang link o)
own_json prims w link o = datum_json (own_datum prims w link o)

-- what an answer prints that no clause of its own prints
abbrev pub answer_json : List Primitive → Asking → Row → Json
answer_json prims a r = by a.style
  where
    by : Style → Json
    by (as_operand j) = j
    by as_value = datum_json (answer_datum prims a.property r.link)
    by as_id = id_json prims (answer_datum prims a.property r.link)
    by _ = first_name prims r.object

-- answers print the members of their clause
abbrev pub is_clause : Style → Bool
is_clause as_clause = true
is_clause _ = false

-- the names that lead to a member with two answers where one is asked
abbrev pub Path : Type 0
Path = List (List ℕ)

-- each row as it prints, in order, or the first path of two answers
abbrev pub each_row : (Row → Result Json Path) → List Row → Result Items Path
each_row f [] = Ok no_items
each_row f (r ∷ rs) = f r >>= λ j. each_row f rs >>= λ js. Ok (item j js)

-- the first item of a list, or null where it is empty
abbrev pub first_item : Items → Json
first_item no_items = null
first_item (item j js) = j

-- a list, or its first item, or null where it is empty
abbrev pub as_list : Bool → Result Items Path → Result Json Path
as_list true js = js >>= λ items. Ok (list items)
as_list false js = js >>= λ items. Ok (first_item items)

-- the outcome below a member, whose name begins the path of two answers
abbrev pub under : {A : Type 0} → List ℕ → Result A Path → Result A Path
under name r = map_err (λ path. name ∷ path) r

-- more than one was found where one is asked
abbrev pub is_ambiguous : Bool → ℕ → Bool
is_ambiguous single found = single && nat_lt 1 found

-- the operand that a literal or an operator prints in place of its answers
abbrev pub operand_of : Style → Option Json
operand_of (as_operand j) = Some j
operand_of _ = None

-- what a member prints: its operand, or the answers that are cut from those found, each by a function
abbrev pub answers_json : Asking → (Row → Result Json Path) → ℕ → List Row → Result Json Path
answers_json a f found cut = by (operand_of a.style)
  where
    by : Option Json → Result Json Path
    by (Some j) = Ok j
    by None = if is_ambiguous a.single found then Err [] else as_list a.listed (each_row f cut)

-- what a clause prints of an object that a link led to, members in order
abbrev pub object_json : List Primitive → Members → ℕ → ℕ → Result JsonMembers Path
object_json prims no_members link o = Ok no_json_members
object_json prims (own name w t operand ms) link o = object_json prims ms link o >>= λ rest. Ok (json_member name (unwrap_or operand (own_json prims w link o)) rest)
object_json prims (asks name a clause ms) link o =
    under name (answers_json a (λ r. if is_clause a.style then (object_json prims clause r.link r.object >>= λ m. Ok (object m)) else Ok (answer_json prims a r))
    (length (met prims a clause o)) (printed prims a clause o))
    >>= λ j. object_json prims ms link o >>= λ rest. Ok (json_member name j rest)

-- ---- pages

-- the key places of a mark, one for each sort key: a place past the end counts as missing, and so do those that lack, and those beyond are ignored
abbrev pub fitted : ℕ → List SortKey → List (Option ℕ) → List (Option ℕ)
fitted end [] ks = []
fitted end (s ∷ ss) [] = None ∷ fitted end ss []
fitted end (s ∷ ss) (k ∷ ks) = below k ∷ fitted end ss ks
  where
    below : Option ℕ → Option ℕ
    below None = None
    below (Some p) = if nat_lt p end then Some p else None

-- a mark as a row among those of a query
abbrev pub mark_row : List Primitive → List SortKey → Mark → Row
mark_row prims sort m = record { object = m.object; link = 0; keys = fitted (length prims) sort m.keys }

-- the rows of a query that come strictly after a mark
abbrev pub rows_after : List Primitive → Asked → Option Mark → List Row
rows_after prims q None = rows prims q
rows_after prims q (Some m) = filter (λ r. is_lt (row_cmp prims q.sort (mark_row prims q.sort m) r)) (rows prims q)

-- the page after a mark: the first rows up to the limit
abbrev pub page : List Primitive → Asked → Option Mark → List Row
page prims q after = take q.limit (rows_after prims q after)

-- more rows follow the page after a mark
abbrev pub has_more : List Primitive → Asked → Option Mark → Bool
has_more prims q after = nat_lt q.limit (length (rows_after prims q after))

-- the mark at a row
abbrev pub row_mark : Row → Mark
row_mark r = record { object = r.object; keys = r.keys }

-- the cursor of a page: it marks the last row, and is false where no row follows
abbrev pub page_cursor : ℕ → List Row → Bool → Json
page_cursor dateline page more = by (if more then last_or None page else None)
  where
    by : Option Row → Json
    by None = boolean false
    by (Some r) = text (cursor_text dateline (row_mark r))

-- ---- the reply

-- what the root prints, of the rows behind the mark and of those of the page: a count, a list, an object or null
abbrev pub result_json : List Primitive → Asked → List Row → List Row → Result Json Path
result_json prims q behind page =
    if is_ambiguous q.single (length behind) then Err []
    else if q.count then Ok (count_json (length page))
    else as_list q.listed (each_row (λ r. object_json prims q.members 0 r.object >>= λ m. Ok (object m)) page)

-- the greatest weight of a candidate
abbrev pub max_candidate_weight : ℕ
max_candidate_weight = 65_536

-- the greatest weight of the rows of a page together
abbrev pub max_page_weight : ℕ
max_page_weight = 262_144

-- the greatest number of bytes of a reply line
abbrev pub max_reply : ℕ
max_reply = 1_048_576

-- a reply line, or the refusal of one that is too long
abbrev pub within_reply : ℕ → ℕ → List ℕ → List ℕ
within_reply dateline line bytes = if nat_lt max_reply (length bytes) then err_line dateline line (too_large (length bytes)) else bytes

-- what a query comes to: its result, with the cursor where one is asked, or its refusal
abbrev pub Answer : Type 0
Answer = Result (Option Json × Json) Refusal

-- what a page comes to, with its cursor where one is asked, or the refusal of two answers
abbrev pub page_answer : Option Json → Result Json Path → Answer
page_answer cursor (Err path) = Err (refused_at (codes "NotUnique") path)
page_answer cursor (Ok j) = Ok (cursor, j)

-- the reply line of an answer
abbrev pub answer_line : ℕ → ℕ → Answer → List ℕ
answer_line dateline line (Err r) = err_line dateline line r
answer_line dateline line (Ok (None, j)) = within_reply dateline line (ok_line dateline line j)
answer_line dateline line (Ok (Some c, j)) = within_reply dateline line (ok_cursor_line dateline line c j)

-- an answer as it prints among others
abbrev pub answer_item : Answer → Json
answer_item (Err r) = object (object_of ((codes "error", text r.error) ∷ (codes "info", object r.info) ∷ []))
answer_item (Ok (None, j)) = object (object_of ((codes "result", j) ∷ []))
answer_item (Ok (Some c, j)) = object (object_of ((codes "cursor", c) ∷ (codes "result", j) ∷ []))

-- the reply line of a page, with its cursor where one is asked, or the refusal of two answers
abbrev pub result_line : ℕ → ℕ → Option Json → Result Json Path → List ℕ
result_line dateline line cursor r = answer_line dateline line (page_answer cursor r)

-- a candidate of the query weighs too much
abbrev pub has_heavy_candidate : List Primitive → Asked → Bool
has_heavy_candidate prims q = list_any (λ o. nat_lt max_candidate_weight (row_weight prims q o)) (candidates prims q)

-- the rows of the page together weigh too much; a count builds no page
abbrev pub is_heavy_page : List Primitive → Asked → Option Mark → Bool
is_heavy_page prims q after = not q.count && nat_lt max_page_weight (sum_by (λ r. row_weight prims q r.object) (page prims q after))

-- a candidate or the page weighs too much
abbrev pub is_too_wide : List Primitive → Asked → Option Mark → Bool
is_too_wide prims q after = has_heavy_candidate prims q || is_heavy_page prims q after

-- what a query with its words looked up comes to, for the page after a mark
abbrev pub asked_answer : List Primitive → ℕ → Bool → Option Mark → Asked → Answer
asked_answer prims dateline with_cursor after q =
    if has_heavy_candidate prims q then Err (too_wide (max_candidate_weight + 1))
    else if is_heavy_page prims q after then Err (too_wide (max_page_weight + 1))
    else page_answer (if with_cursor then Some (page_cursor dateline (page prims q after) (has_more prims q after)) else None)
    (result_json prims q (rows_after prims q after) (page prims q after))

-- what a query that may have no meaning at the dateline comes to
abbrev pub meant_answer : List Primitive → ℕ → Bool → Option Mark → Result Asked Unknown → Answer
meant_answer prims dateline with_cursor after (Err u) = Err (unknown_refusal u)
meant_answer prims dateline with_cursor after (Ok q) = asked_answer prims dateline with_cursor after q

-- what a query comes to at a dateline, for the page after a mark; it has a cursor where one is asked
abbrev pub answer : List Primitive → ℕ → Bool → Option Mark → Query → Answer
answer prims dateline with_cursor after q = meant_answer prims dateline with_cursor after (asked_query prims q)

-- the reply line to a query with its words looked up, for the page after a mark
abbrev pub asked_line : List Primitive → ℕ → ℕ → Bool → Option Mark → Asked → List ℕ
asked_line prims dateline line with_cursor after q = answer_line dateline line (asked_answer prims dateline with_cursor after q)

-- the reply line to a query that may have no meaning at the dateline
abbrev pub meant_line : List Primitive → ℕ → ℕ → Bool → Option Mark → Result Asked Unknown → List ℕ
meant_line prims dateline line with_cursor after r = answer_line dateline line (meant_answer prims dateline with_cursor after r)

-- the reply line to a query at a dateline, for the page after a mark
abbrev pub reply : List Primitive → ℕ → ℕ → Bool → Option Mark → Query → List ℕ
reply prims dateline line with_cursor after q = answer_line dateline line (answer prims dateline with_cursor after q)
