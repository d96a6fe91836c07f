-- The tree that a JSON value is.
use Rattle.std.specs.Prelude.{ℕ, List, [], ◌∷◌, map}
use Rattle.gd_tree.specs.Json as tree
use Rattle.gd_tree.specs.Json.{Items, no_items, item, Members, no_members, member}
use Rattle.gd_json.specs.declared.value.Json.{Json, fold-Json}
use Rattle.gd_json.specs.declared.value.Json.TheOpen.{Json-F}

-- the items of a list, in order
abbrev pub items_of : List tree.Json → Items
items_of [] = no_items
items_of (j ∷ js) = item j (items_of js)

-- the members of an object, in order
abbrev pub members_of : List (List ℕ × tree.Json) → Members
members_of [] = no_members
members_of (m ∷ ms) = member m.0 m.1 (members_of ms)

-- one level, with each value inside already seen as its tree
abbrev pub view_step : Json-F tree.Json → tree.Json
view_step Json-F.Null = tree.null
view_step (Json-F.Bool b) = tree.boolean b
view_step (Json-F.Int n) = tree.number n
view_step (Json-F.Text t) = tree.text t
view_step (Json-F.List v) = tree.list (items_of v.items)
view_step (Json-F.Object v) = tree.object (members_of v.items)

abbrev pub view : Json → tree.Json
view = fold-Json tree.Json view_step

abbrev pub items_view : List Json → Items
items_view js = items_of (map view js)

abbrev pub member_view : List ℕ × Json → List ℕ × tree.Json
member_view m = (m.0, view m.1)

abbrev pub members_view : List (List ℕ × Json) → Members
members_view ms = members_of (map member_view ms)
