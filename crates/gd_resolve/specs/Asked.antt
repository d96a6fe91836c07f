-- What is answered where an id or a word is asked for.
use Rattle.std.specs.Prelude.{ℕ, ◌+◌, ◌*◌, List, [], ◌∷◌, Bool, Option, Some, None, Result, Ok, Err, if◌then◌else◌}
use Rattle.gd_grammar.specs.Maybe.{◌>>=◌}
use Rattle.gd_prim.specs.declared.Primitive.{Primitive}
use Rattle.gd_prim.specs.Live.{is_live, end_at}
use Rattle.gd_defs.specs.Cost.{said_of, key_count}
use Rattle.gd_defs.specs.Ids.{object_of, object_at, path_keys}
use Rattle.gd_defs.specs.Query.{is_path}
use Rattle.gd_defs.specs.Property.{Property, word_object, property_object, property}
use Rattle.gd_resolve.specs.declared.fault.ResolveFault.{ResolveFault}
use Rattle.gd_resolve.specs.declared.fault.ResolveFault.TheVariants as fault

-- what is there, or else the fault
abbrev pub or_fault : {A : Type 0} → ResolveFault → Option A → Result A ResolveFault
or_fault f (Some a) = Ok a
or_fault f None = Err f

-- the object that an id names, or that there is none
abbrev pub id_asked : List Primitive → List ℕ → Result ℕ ResolveFault
id_asked prims path = or_fault (fault.NoSuchId path) (object_of prims path)

-- the property that a word asks for, or that there is none
abbrev pub property_asked : List Primitive → Option ℕ → Bool → List ℕ → Result Property ResolveFault
property_asked prims context reversed word = or_fault (fault.NoSuchProperty (word ∷ [])) (property prims context reversed word)

-- the left end of a link, if the link is live and an object stands there
abbrev pub link_leads : List Primitive → ℕ → Option ℕ
link_leads prims k = if is_live prims k then (end_at (λ p. p.left) prims k >>= object_at prims) else None

-- how many keys a word has: those of a path, or one
abbrev pub word_keys : List ℕ → ℕ
word_keys word = if is_path word then key_count (path_keys word) else 1

-- how many steps it takes at most to tell what an object states, where there is one
abbrev pub stated_steps : List Primitive → Option ℕ → ℕ
stated_steps prims None = 0
stated_steps prims (Some o) = 25 + 12 * said_of prims (Some o)

-- how many steps looking up the property takes at most that a word asks for
abbrev pub property_steps : List Primitive → Option ℕ → List ℕ → ℕ
property_steps prims context word = 28 + 30 * word_keys word + 4 * said_of prims (word_object prims context word) + stated_steps prims (property_object prims context word)
