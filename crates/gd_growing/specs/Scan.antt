-- What is looked for over a list of primitives.
use Rattle.std.specs.Prelude.{ℕ, List, [], ◌∷◌, Bool, ◌&&◌, ◌==◌, Option, Some, None, is_some, option_map, option_and_then, find, if◌then◌else◌}
use Rattle.std.specs.List.{enumerate_from}
use Rattle.std.specs.Option.{option_eq}
use Rattle.gd_base.specs.declared.datum.Datum.{Datum}
use Rattle.gd_base.specs.declared.datum.Datum.TheVariants as datum
use Rattle.gd_prim.specs.declared.Primitive.{Primitive}
use Rattle.gd_prim.specs.declared.End.{End}
use Rattle.gd_prim.specs.declared.End.TheVariants.{Left, Right}
use Rattle.gd_prim.specs.Live.{refers, is_live, passes_at, end_at, language_of}
use Rattle.gd_defs.specs.Property.{Property, is_of, expects_of, holds_expected, leads_to_object, near_of}
use Rattle.gd_defs.specs.Write.Parts.{Target, to_object, to_value, to_key, is_target}

-- the first place whose primitive passes the test, where the list begins at this place
abbrev pub first_place : (Primitive → Bool) → ℕ → List Primitive → Option ℕ
first_place test place prims = option_map (λ e. e.0) (find (λ e. test e.1) (enumerate_from place prims))

-- the links that answer a property on an object, dead ones among them
abbrev pub is_answer : List Primitive → Property → ℕ → Primitive → Bool
is_answer prims p o k = if p.reversed then is_of p k && refers k.right o && leads_to_object prims k.left
    else is_of p k && refers k.left o && holds_expected prims (expects_of p.expected) k

-- an answer stands at the place
abbrev pub is_answer_at : List Primitive → Property → ℕ → ℕ → Bool
is_answer_at prims p o k = passes_at (is_answer prims p o) prims k && is_live prims k

-- an answer stands at the place, and leads to the target, if one is given
abbrev pub is_wanted_at : List Primitive → Property → ℕ → Option Target → ℕ → Bool
is_wanted_at prims p o None = is_answer_at prims p o
is_wanted_at prims p o (Some t) = λ k. is_target prims p t k && is_answer_at prims p o k

-- the object of which the link at a place states the fact, if it is an answer there that leads to the target
abbrev pub holder_at : List Primitive → Property → Target → ℕ → Option ℕ
holder_at prims p t k = option_and_then (λ o. if is_wanted_at prims p o (Some t) k then Some o else None) (end_at (near_of p) prims k)

-- the end of a link at which the answer stands, where that is an object
abbrev pub far_side : Property → End
far_side p = if p.reversed then Left else Right

-- the value by which a link leads to the target, where the answers are values or keys
abbrev pub datum_of : Target → Datum
datum_of (to_object o) = datum.Object o
datum_of (to_value d) = d
datum_of (to_key namespace key) = datum.Text key

-- a live key link with a namespace stands at the place
abbrev pub names : List Primitive → ℕ → Bool
names prims k = is_live prims k && is_some (end_at (λ p. p.right) prims k)

-- the place alone, where the test passes it
abbrev pub kept : (ℕ → Bool) → ℕ → List ℕ
kept test k = if test k then k ∷ [] else []

-- marked live, in the language, and a link of the property with the object at the end by which it is asked
abbrev pub is_link : Property → ℕ → Option ℕ → Primitive → Bool
is_link p o language q = q.live && refers q.typ p.stored && refers (near_of p q) o && option_eq ◌==◌ (language_of q) language
