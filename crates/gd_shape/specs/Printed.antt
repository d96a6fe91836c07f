-- What is printed from trees with the walks that are left: the definitions of a page, one member or answer at a time.
use Rattle.std.specs.Prelude.{ℕ, List, [], ◌∷◌, length, map, take, Bool, Option, Some, None, Ok, Err, if◌then◌else◌}
use Rattle.gd_prim.specs.declared.Primitive.{Primitive}
use Rattle.gd_grammar.specs.Chain.{◌>>=◌}
use Rattle.gd_tree.specs.Json.{Json, object, Items, no_items, item, Members as JsonMembers, member as json_member}
use Rattle.gd_tree.specs.Trees.{Tree, TreeLists, place_of, lists_of, first_list, rest_lists}
use Rattle.gd_bytes.specs.Frozen.{Walk}
use Rattle.gd_defs.specs.Data.{datum_json}
use Rattle.gd_defs.specs.Property.{Property, answer_datum}
use Rattle.gd_defs.specs.Asked.{Style, as_operand, as_value, as_name, as_id, as_clause, Asking, Members, no_members, own, asks}
use Rattle.gd_defs.specs.Reply.{under, is_ambiguous, operand_of, is_clause}
use Rattle.gd_runs.specs.Shape.{Printed, id_json, own_shape, name_shape, each_shape, list_shape, object_shape}
use Rattle.gd_runs.specs.Shape.Answers.{Ranked, ranked, answer_of, in_rank}

-- what an answer of a style prints that no clause of its own prints, from its link and the lists of the object there
abbrev pub style_print : List Primitive → Property → ℕ → TreeLists → Style → List Walk → Json × List Walk
style_print prims p link ls (as_operand j) ws = (j, ws)
style_print prims p link ls as_value ws = (datum_json (answer_datum prims p link), ws)
style_print prims p link ls as_id ws = id_json prims (answer_datum prims p link) ws
style_print prims p link ls as_name ws = (name_shape prims ls, ws)
style_print prims p link ls as_clause ws = (name_shape prims ls, ws)

-- the operand, if there is one, else the answers
abbrev pub given_or : Option Json → List Walk → Printed Json → Printed Json
given_or (Some j) ws r = Ok (j, ws)
given_or None ws r = r

-- two answers are one too many, else they print as a list or as the first one
abbrev pub found_print : Bool → Bool → ℕ → Printed Items → Printed Json
found_print single listed found printed = if is_ambiguous single found then Err [] else list_shape listed printed

-- the answers of a member from their trees, in its order and up to its limit
abbrev pub cut_of : List Primitive → Asking → Members → List Tree → List Ranked
cut_of prims a c ts = take a.limit (in_rank prims a.sort (map (λ t. ranked a c (answer_of a t)) ts))

-- an object of printed members
abbrev pub as_object : Printed JsonMembers → Printed Json
as_object r = r >>= λ m. Ok (object m.0, m.1)

-- a member in front of those that are printed behind it
abbrev pub in_front : List ℕ → Printed Json → (List Walk → Printed JsonMembers) → Printed JsonMembers
in_front name here rest = here >>= λ j. rest j.1 >>= λ ms. Ok (json_member name j.0 ms.0, ms.1)

-- what each answer of a member prints
abbrev pub answer_print : List Primitive → Asking → Members → Ranked → List Walk → Printed Json
answer_print prims a c r ws = if is_clause a.style then as_object (object_shape prims c r.0.link r.0.object r.1 ws) else Ok (style_print prims a.property r.0.link r.1 a.style ws)

-- what a member that asks a property prints of the trees of its links
abbrev pub asks_print : List Primitive → Asking → Members → List Tree → List Walk → Printed Json
asks_print prims a c ts ws = given_or (operand_of a.style) ws (found_print a.single a.listed (length ts) (each_shape (answer_print prims a c) (cut_of prims a c ts) ws))

-- the rows of a page as they print, from their trees
abbrev pub rows_print : List Primitive → Members → List Tree → List Walk → Printed Items
rows_print prims ms [] ws = Ok (no_items, ws)
rows_print prims ms (t ∷ ts) ws = as_object (object_shape prims ms 0 (place_of t) (lists_of t) ws) >>= λ j. rows_print prims ms ts j.1 >>= λ js. Ok (item j.0 js.0, js.1)

-- ---- members whose first is looked at

-- what the first member prints
abbrev pub first_print : List Primitive → Members → ℕ → ℕ → TreeLists → List Walk → Printed Json
first_print prims no_members link o ls ws = Err []
first_print prims (own name w t operand ms) link o ls ws = Ok (own_shape prims w operand link o ws)
first_print prims (asks name a c ms) link o ls ws = under name (asks_print prims a c (first_list ls) ws)

-- its name
abbrev pub first_name : Members → List ℕ
first_name no_members = []
first_name (own name w t operand ms) = name
first_name (asks name a c ms) = name

-- the lists behind that of the first member, if it has one
abbrev pub behind_first : Members → TreeLists → TreeLists
behind_first no_members ls = ls
behind_first (own name w t operand ms) ls = ls
behind_first (asks name a c ms) ls = rest_lists ls
