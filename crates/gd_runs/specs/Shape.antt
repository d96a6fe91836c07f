-- What a page prints from the trees of its rows.
pub mod Answers
pub mod Ids
use Rattle.std.specs.Prelude.{ℕ, List, [], ◌∷◌, ◌++◌, length, Bool, true, false, Option, Some, None, unwrap_or, Result, Ok, Err, if◌then◌else◌, codes}
use Rattle.gd_base.specs.declared.datum.Datum.{Datum}
use Rattle.gd_base.specs.declared.datum.Datum.TheVariants as datum
use Rattle.gd_prim.specs.declared.Primitive.{Primitive}
use Rattle.gd_prim.specs.Live.{value_at, text_of}
use Rattle.gd_grammar.specs.Chain.{◌>>=◌}
use Rattle.gd_tree.specs.Json.{Json, null, text, list, object, Items, no_items, item, Members as JsonMembers, no_members as no_json_members, member as json_member}
use Rattle.gd_tree.specs.Trees.{Tree, tree, TreeLists, place_of, first_list, rest_lists}
use Rattle.gd_defs.specs.Ids.{id_text, guid}
use Rattle.gd_defs.specs.Data.{datum_json}
use Rattle.gd_defs.specs.Property.{answer_datum, first}
use Rattle.gd_defs.specs.Asked.{Own, its_id, its_namespace, its_lang, Style, as_operand, as_value, as_id, Asking, Members, no_members, own, asks, Asked}
use Rattle.gd_defs.specs.Rows.{own_datum}
use Rattle.gd_defs.specs.Reply.{Path, under, is_ambiguous, operand_of, is_clause, first_item}
use Rattle.gd_bytes.specs.Frozen as frozen
use Rattle.gd_bytes.specs.Frozen.{Walk, by_links, is_root}
use Rattle.gd_runs.specs.Shape.Answers.{Ranked, cut}

-- ---- ids: the k-th printed id is spelled by the k-th walk, and ids without a walk are found

-- the id that key links spell, from an object up, in front of a text
abbrev pub links_text : List Primitive → List ℕ → List ℕ → List ℕ
links_text prims [] below = below
links_text prims (k ∷ ks) below = links_text prims ks (codes "/" ++ unwrap_or (text_of (value_at prims k)) [] ++ below)

-- the id of an object that a walk spells
abbrev pub walk_text : List Primitive → ℕ → Walk → List ℕ
walk_text prims o frozen.by_guid = guid o
walk_text prims o is_root = codes "/"
walk_text prims o (by_links ks) = links_text prims ks []

-- what was printed and the walks that are left, or the path of two answers where one is asked
abbrev pub Printed : Type 0 → Type 0
Printed A = Result (A × List Walk) Path

-- a datum as it prints, an object as its id by the next walk, if there is one
abbrev pub id_json : List Primitive → Datum → List Walk → Json × List Walk
id_json prims (datum.Object o) [] = (text (id_text prims o), [])
id_json prims (datum.Object o) (w ∷ ws) = (text (walk_text prims o w), ws)
id_json prims d ws = (datum_json d, ws)

-- ---- printing, in order, with the walks that are left

-- what a computed member prints: its operand, or what it tells
abbrev pub own_shape : List Primitive → Own → Option Json → ℕ → ℕ → List Walk → Json × List Walk
own_shape prims w (Some j) link o ws = (j, ws)
own_shape prims its_id None link o ws = id_json prims (own_datum prims its_id link o) ws
own_shape prims its_namespace None link o ws = id_json prims (own_datum prims its_namespace link o) ws
own_shape prims its_lang None link o ws = id_json prims (own_datum prims its_lang link o) ws
own_shape prims w None link o ws = (datum_json (own_datum prims w link o), ws)

-- the first name that the lists of an object have, or null
abbrev pub name_shape : List Primitive → TreeLists → Json
name_shape prims ls = by (first (first_list ls))
  where
    by : Option Tree → Json
    by None = null
    by (Some t) = datum_json (value_at prims (place_of t))

-- what an answer prints that no clause of its own prints
abbrev pub plain_shape : List Primitive → Asking → Ranked → List Walk → Json × List Walk
plain_shape prims a r ws = by a.style
  where
    by : Style → Json × List Walk
    by (as_operand j) = (j, ws)
    by as_value = (datum_json (answer_datum prims a.property r.0.link), ws)
    by as_id = id_json prims (answer_datum prims a.property r.0.link) ws
    by _ = (name_shape prims r.1, ws)

-- answers as they print, one after another
abbrev pub each_shape : (Ranked → List Walk → Printed Json) → List Ranked → List Walk → Printed Items
each_shape f [] ws = Ok (no_items, ws)
each_shape f (r ∷ rs) ws = f r ws >>= λ j. each_shape f rs j.1 >>= λ js. Ok (item j.0 js.0, js.1)

-- a list, or its first item, or null where it is empty
abbrev pub list_shape : Bool → Printed Items → Printed Json
list_shape true r = r >>= λ js. Ok (list js.0, js.1)
list_shape false r = r >>= λ js. Ok (first_item js.0, js.1)

-- what a member prints: its operand, or the answers that are cut from those found, each by a function
abbrev pub answers_shape : Asking → (Ranked → List Walk → Printed Json) → ℕ → List Ranked → List Walk → Printed Json
answers_shape a f found cut ws = by (operand_of a.style)
  where
    by : Option Json → Printed Json
    by (Some j) = Ok (j, ws)
    by None = if is_ambiguous a.single found then Err [] else list_shape a.listed (each_shape f cut ws)

-- what a clause prints of an object from the lists of its clauses, members in order
abbrev pub object_shape : List Primitive → Members → ℕ → ℕ → TreeLists → List Walk → Printed JsonMembers
object_shape prims no_members link o ls ws = Ok (no_json_members, ws)
object_shape prims (own name w t operand ms) link o ls ws = (let j : Json × List Walk = own_shape prims w operand link o ws in
    object_shape prims ms link o ls j.1 >>= λ rest. Ok (json_member name j.0 rest.0, rest.1))
object_shape prims (asks name a c ms) link o ls ws =
    under name (answers_shape a (λ r vs. if is_clause a.style then (object_shape prims c r.0.link r.0.object r.1 vs >>= λ m. Ok (object m.0, m.1)) else Ok (plain_shape prims a r vs))
    (length (first_list ls)) (cut prims a c ls) ws)
    >>= λ j. object_shape prims ms link o (rest_lists ls) j.1 >>= λ rest. Ok (json_member name j.0 rest.0, rest.1)

-- the rows of a page as they print, from their trees
abbrev pub rows_shape : List Primitive → Members → List Tree → List Walk → Printed Items
rows_shape prims ms [] ws = Ok (no_items, ws)
rows_shape prims ms (tree o ls ∷ ts) ws = object_shape prims ms 0 o ls ws >>= λ m. rows_shape prims ms ts m.1 >>= λ js. Ok (item (object m.0) js.0, js.1)

-- what the root prints, from the trees of the page's rows
abbrev pub page_shape : List Primitive → Asked → List Tree → List Walk → Result Json Path
page_shape prims q ts ws = list_shape q.listed (rows_shape prims q.members ts ws) >>= λ j. Ok j.0
