-- The built-in primitives, with which every store begins.
use Rattle.std.specs.Prelude.{ℕ, List, [], ◌∷◌, ◌++◌, map, replicate, true, Option, Some, None, codes}
use Rattle.gd_base.specs.declared.datum.Datum.{Datum}
use Rattle.gd_base.specs.declared.datum.Datum.TheVariants as datum
use Rattle.gd_prim.specs.declared.Primitive.{Primitive}

-- the places of the built-in objects that rules speak of
abbrev pub root_place : ℕ
root_place = 0

abbrev pub lang_place : ℕ
lang_place = 2

abbrev pub english_place : ℕ
english_place = 3

abbrev pub property_place : ℕ
property_place = 6

abbrev pub text_place : ℕ
text_place = 7

abbrev pub int_place : ℕ
int_place = 8

abbrev pub boolean_place : ℕ
boolean_place = 9

abbrev pub datetime_place : ℕ
datetime_place = 10

abbrev pub key_type_place : ℕ
key_type_place = 11

abbrev pub name_place : ℕ
name_place = 13

abbrev pub type_link_place : ℕ
type_link_place = 14

abbrev pub key_place : ℕ
key_place = 15

abbrev pub expected_place : ℕ
expected_place = 16

abbrev pub unique_place : ℕ
unique_place = 17

abbrev pub master_place : ℕ
master_place = 18

-- places below this one are built in
abbrev pub builtin_end : ℕ
builtin_end = 70

-- a live primitive of moment 0 without scope, name, previous and language
abbrev pub primitive : Option ℕ → Option ℕ → Option ℕ → Datum → Primitive
primitive left right typ value = record { left = left; right = right; typ = typ; scope = None; value = value; name = None; previous = None; live = true; moment = 0; lang = None }

-- an object
abbrev pub object : Primitive
object = primitive None None None datum.Empty

-- object, key, namespace
abbrev pub key_link : ℕ × List ℕ × ℕ → Primitive
key_link k = primitive (Some k.0) (Some k.2) (Some key_place) (datum.Text k.1)

-- a link of this type from left to right
abbrev pub link : ℕ → ℕ × ℕ → Primitive
link typ ends = primitive (Some ends.0) (Some ends.1) (Some typ) datum.Empty

-- a mark that a property is unique
abbrev pub unique_mark : ℕ → Primitive
unique_mark property = primitive (Some property) None (Some unique_place) (datum.Bool true)

-- object, name
abbrev pub name_link : ℕ × List ℕ → Primitive
name_link n = primitive (Some n.0) None (Some name_place) (datum.Text n.1)

-- the objects, places 0 to 18
abbrev pub objects : List Primitive
objects = replicate 19 object

-- each object with its key and the namespace of that
abbrev pub keys : List (ℕ × List ℕ × ℕ)
keys = (1, codes "type", 0) ∷ (2, codes "lang", 0) ∷ (3, codes "en", 2) ∷ (4, codes "object", 1) ∷ (5, codes "type", 1)
    ∷ (6, codes "property", 1) ∷ (7, codes "text", 1) ∷ (8, codes "int", 1) ∷ (9, codes "boolean", 1)
    ∷ (10, codes "datetime", 1) ∷ (11, codes "key", 1) ∷ (12, codes "namespace", 1) ∷ (13, codes "name", 4)
    ∷ (14, codes "type", 4) ∷ (15, codes "key", 4) ∷ (16, codes "expected_type", 6) ∷ (17, codes "unique", 6)
    ∷ (18, codes "master_property", 6) ∷ []

-- each object with its type
abbrev pub types : List (ℕ × ℕ)
types = (0, 12) ∷ (1, 12) ∷ (2, 12) ∷ (4, 5) ∷ (5, 5) ∷ (6, 5) ∷ (7, 5) ∷ (8, 5) ∷ (9, 5) ∷ (10, 5) ∷ (11, 5) ∷ (12, 5)
    ∷ (13, 6) ∷ (14, 6) ∷ (15, 6) ∷ (16, 6) ∷ (17, 6) ∷ (18, 6) ∷ []

-- each property with its expected type
abbrev pub expected_types : List (ℕ × ℕ)
expected_types = (13, 7) ∷ (14, 5) ∷ (15, 11) ∷ (16, 5) ∷ (17, 9) ∷ (18, 6) ∷ []

-- the properties that are unique
abbrev pub unique_properties : List ℕ
unique_properties = 13 ∷ 16 ∷ 17 ∷ 18 ∷ []

-- each object with its name
abbrev pub names : List (ℕ × List ℕ)
names = (3, codes "English") ∷ (0, codes "Root") ∷ (1, codes "Type") ∷ (5, codes "Type") ∷ (6, codes "Property") ∷ []

-- objects, their keys, their types, expected types, marks of uniqueness, names
abbrev pub builtin : List Primitive
builtin = objects ++ map key_link keys ++ map (link type_link_place) types ++ map (link expected_place) expected_types
    ++ map unique_mark unique_properties ++ map name_link names
