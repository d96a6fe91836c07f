-- Which primitives of a list are current, live, objects and links.
use Rattle.std.specs.Prelude.{ℕ, List, Bool, false, not, ◌&&◌, ◌==◌, Option, Some, None, is_none, option_map, unwrap_or, option_and_then, slice_get, filter_map, find, if◌then◌else◌, bytes_eq}
use Rattle.std.specs.Option.{option_map_or}
use Rattle.std.specs.List.{list_any, enumerate_from}
use Rattle.gd_base.specs.declared.datum.Datum.{Datum}
use Rattle.gd_base.specs.declared.datum.Datum.TheVariants as datum
use Rattle.gd_prim.specs.declared.Primitive.{Primitive}
use Rattle.gd_prim.specs.Builtin.{english_place}

-- the reference is there and names this place
abbrev pub refers : Option ℕ → ℕ → Bool
refers None place = false
refers (Some p) place = p == place

-- some primitive of the list has this place as its previous one
abbrev pub has_successor : List Primitive → ℕ → Bool
has_successor prims place = list_any (λ p. refers p.previous place) prims

-- none has
abbrev pub is_current : List Primitive → ℕ → Bool
is_current prims place = not (has_successor prims place)

-- there is a primitive at the place, and it passes the test
abbrev pub passes_at : (Primitive → Bool) → List Primitive → ℕ → Bool
passes_at test prims place = option_map_or test (slice_get prims place) false

-- current and marked live
abbrev pub is_live : List Primitive → ℕ → Bool
is_live prims place = passes_at (λ p. p.live) prims place && is_current prims place

-- a live primitive without typ
abbrev pub is_object : List Primitive → ℕ → Bool
is_object prims place = passes_at (λ p. p.live && is_none p.typ) prims place && is_current prims place

-- the primitive that has this one as its previous, if there is one
abbrev pub successor : List Primitive → ℕ → Option ℕ
successor prims place = option_map (λ e. e.0) (find (λ e. refers e.1.previous place) (enumerate_from 0 prims))

-- the places whose primitive passes the test, in rising order
abbrev pub places_where : (Primitive → Bool) → List Primitive → List ℕ
places_where test prims = filter_map (λ e. if test e.1 then Some e.0 else None) (enumerate_from 0 prims)

-- the live ones among them
abbrev pub live_where : (Primitive → Bool) → List Primitive → List ℕ
live_where test prims = filter_map (λ e. if test e.1 && is_live prims e.0 then Some e.0 else None) (enumerate_from 0 prims)

-- the objects, in rising order
abbrev pub objects : List Primitive → List ℕ
objects prims = live_where (λ p. is_none p.typ) prims

-- the value at a place, Empty past the end
abbrev pub value_at : List Primitive → ℕ → Datum
value_at prims place = option_map_or (λ p. p.value) (slice_get prims place) datum.Empty

-- an end of the primitive at a place, if it has one
abbrev pub end_at : (Primitive → Option ℕ) → List Primitive → ℕ → Option ℕ
end_at end prims place = option_and_then end (slice_get prims place)

-- the object as a datum, Empty where there is none
abbrev pub object_datum : Option ℕ → Datum
object_datum None = datum.Empty
object_datum (Some o) = datum.Object o

-- the value is this text
abbrev pub is_text : List ℕ → Datum → Bool
is_text text (datum.Text t) = bytes_eq text t
is_text text _ = false

-- the text that a value is
abbrev pub text_of : Datum → Option (List ℕ)
text_of (datum.Text t) = Some t
text_of _ = None

-- the language of a primitive: of a text the one that it names, or English; what is no text has none
abbrev pub language_of : Primitive → Option ℕ
language_of p = option_map (λ t. unwrap_or p.lang english_place) (text_of p.value)

-- the language of the primitive at a place, if it has one
abbrev pub language_at : List Primitive → ℕ → Option ℕ
language_at prims place = option_and_then language_of (slice_get prims place)
