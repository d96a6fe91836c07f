-- The values of primitives by number, and the places of each.
use Rattle.std.specs.Prelude.{◌≡◌, ℕ, List, [], Bool, Option, fold, position, slice_get}
use Rattle.std.specs.Option.{option_map_or}
use Rattle.gd_base.specs.declared.datum.Datum.{Datum}
use Rattle.gd_base.specs.Order.{datum_eq}
use Rattle.gd_prim.specs.declared.Primitive.{Primitive}
use Rattle.gd_prim.specs.Live.{places_where}
use Rattle.gd_postings.specs.Postings.{Places}
use Rattle.gd_valueidx.specs.Values.{value_list, values_in, with_value}

-- the primitive has this value
abbrev pub has_value : Datum → Primitive → Bool
has_value value p = datum_eq value p.value

-- the values of primitives, each once, in the order in which they first come
abbrev pub values_of : List Primitive → List Datum
values_of prims = fold (λ values p. with_value p.value values) [] prims

-- the number of a value: its place among the values, if it is one
abbrev pub number_in : Datum → List Primitive → Option ℕ
number_in value prims = position (datum_eq value) (values_of prims)

-- the places of the value with a number, in rising order; none where the number was not given
abbrev pub places_of_number : ℕ → List Primitive → List ℕ
places_of_number number prims = option_map_or (λ value. places_where (has_value value) prims) (slice_get (values_of prims) number) []

-- the index has the values and the places of each
pub record AreValues (values : List (Datum × Places)) (prims : List Primitive) : Type 0 where
  pub numbers : values_in values ≡ values_of prims
  pub lists : (value : Datum) → (value_list value values).ids ≡ places_where (has_value value) prims
