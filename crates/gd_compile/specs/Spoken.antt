-- How much is looked at for the language that an operand names.
use Rattle.std.specs.Prelude.{ℕ, ◌+◌, ◌*◌, List, Option, None}
use Rattle.gd_prim.specs.declared.Primitive.{Primitive}
use Rattle.gd_tree.specs.Json.{Json, text}
use Rattle.gd_defs.specs.Ids.{object_of}
use Rattle.gd_defs.specs.Asked.{Own, its_lang}
use Rattle.gd_defs.specs.Cost.{said_of}

-- the object that a text names, if it names one
abbrev pub object_named : List Primitive → Json → Option ℕ
object_named prims (text t) = object_of prims t
object_named prims _ = None

-- what a computed word looks at for an object: `lang` at what is said of it, the others at nothing
abbrev pub language_steps : List Primitive → Own → Option ℕ → ℕ
language_steps prims its_lang o = 22 + 4 * said_of prims o
language_steps prims w o = 0
