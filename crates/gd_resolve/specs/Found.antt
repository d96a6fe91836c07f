-- Live links, and the first of them, over a plain list of primitives.
use Rattle.std.specs.Prelude.{ℕ, List, length, Bool, ◌&&◌, Option, is_some, find}
use Rattle.std.specs.List.{range_with_len}
use Rattle.gd_prim.specs.declared.Primitive.{Primitive}
use Rattle.gd_prim.specs.Builtin.{lang_place, type_link_place, key_place, unique_place}
use Rattle.gd_prim.specs.Live.{refers, passes_at, is_live}
use Rattle.gd_defs.specs.Property.{boolean_of}
use Rattle.gd_resolve.specs.declared.property.Wanted.{Wanted}
use Rattle.gd_resolve.specs.declared.property.Wanted.TheVariants as wanted

-- a link of a typ from an object
abbrev pub is_link : ℕ → ℕ → Primitive → Bool
is_link typ o p = refers p.typ typ && refers p.left o

-- a link that gives an object a type
abbrev pub gives_type : ℕ → ℕ → Primitive → Bool
gives_type o type p = is_link type_link_place o p && refers p.right type

-- a mark of a property that has a truth value
abbrev pub is_mark : ℕ → Primitive → Bool
is_mark property p = is_link unique_place property p && is_some (boolean_of p.value)

-- a link that gives an object a key among languages
abbrev pub gives_language : ℕ → Primitive → Bool
gives_language o p = is_link key_place o p && refers p.right lang_place

-- what is wanted
abbrev pub is_wanted : Wanted → Primitive → Bool
is_wanted (wanted.Link typ o) p = is_link typ o p
is_wanted (wanted.TypeLink o type) p = gives_type o type p
is_wanted (wanted.Mark property) p = is_mark property p
is_wanted (wanted.Language o) p = gives_language o p

-- the object that what is wanted leads from
abbrev pub left_of : Wanted → ℕ
left_of (wanted.Link typ o) = o
left_of (wanted.TypeLink o type) = o
left_of (wanted.Mark property) = property
left_of (wanted.Language o) = o

-- a live primitive stands at the place, and passes the test
abbrev pub is_found : (Primitive → Bool) → List Primitive → ℕ → Bool
is_found test prims place = passes_at test prims place && is_live prims place

-- the first such place
abbrev pub first_found : (Primitive → Bool) → List Primitive → Option ℕ
first_found test prims = find (is_found test prims) (range_with_len 0 (length prims))
