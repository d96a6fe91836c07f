-- Links, properties and tests of the built-in list.
use Rattle.std.proofs.Common.{◌≡◌, refl, [], ◌∷◌, ◌++◌, codes, true, false, not, ◌&&◌, replicate, Err, Some, None}
use Rattle.gd_tree.specs.Json.{text}
use Rattle.gd_base.specs.declared.datum.Datum.TheVariants as datum
use Rattle.gd_prim.specs.declared.Primitive.{Primitive}
use Rattle.gd_prim.specs.Builtin.{builtin}
use Rattle.gd_defs.specs.Data.{of_text}
use Rattle.gd_defs.specs.Query.{bad_value, words}
use Rattle.gd_defs.specs.Property.{a_value, has_link, property_object}
use Rattle.gd_defs.specs.Asked.{test_of, bad_query}

-- a pattern is a text of at most 4,096 bytes
pub long_pattern : test_of [] (a_value of_text) [] words (text (replicate 4097 97)) ≡ Err (bad_query bad_value [])
long_pattern = refl

-- links to an object, and to a text in its language
pub links : (has_link builtin 1 14 (datum.Object 12) 3 && has_link builtin 3 13 (datum.Text (codes "English")) 3 && not (has_link builtin 3 13 (datum.Text (codes "Deutsch")) 3)
    && not (has_link builtin 3 13 (datum.Text (codes "English")) 2)) ≡ true
links = refl

-- a property has to be an object: here the name's own primitive has a successor
abbrev dead : Primitive
dead = record { left = None; right = None; typ = None; scope = None; value = datum.Empty; name = None; previous = Some 13; live = false; moment = 0; lang = None }

pub no_object : property_object (builtin ++ dead ∷ []) None (codes "name") ≡ None
no_object = refl
