-- Values in the order of their first entry, each with the list of its places.
use Rattle.std.specs.Prelude.{◌≡◌, ℕ, ◌-◌, Option, cond, List, [], ◌∷◌, ◌++◌, Bool, length, take, unwrap_or, slice_get, if◌then◌else◌}
use Rattle.std.specs.List.{list_any}
use Rattle.std.specs.Map.{lookup, keys_of}
use Rattle.std.specs.Option.{option_map_or}
use Rattle.gd_base.specs.declared.datum.Datum.{Datum}
use Rattle.gd_base.specs.Order.{datum_eq}
use Rattle.gd_postings.specs.Postings.{Places}
use Rattle.gd_lists.specs.Lists.{nothing}

-- the list of a value, empty where nothing was entered
abbrev pub value_list : Datum → List (Datum × Places) → Places
value_list value lists = unwrap_or (lookup (datum_eq value) lists) nothing

-- the values in the order of their numbers
abbrev pub values_in : List (Datum × Places) → List Datum
values_in lists = keys_of lists

-- the list of the value with a number, empty where the number was not given
abbrev pub number_list : ℕ → List (Datum × Places) → Places
number_list number lists = option_map_or (λ value. value_list value lists) (slice_get (values_in lists) number) nothing

-- the values, where this one has a number too: its own, or the next one
abbrev pub with_value : Datum → List Datum → List Datum
with_value value values = if list_any (datum_eq value) values then values else values ++ value ∷ []

-- the values without the last one, where the test holds
abbrev pub without_value : Bool → List Datum → List Datum
without_value test values = if test then take (length values - 1) values else values

-- the new entries have this at the value, and at every other value what the old ones have
abbrev pub Sets : List (Datum × Places) → List (Datum × Places) → Datum → Option Places → Type 0
Sets old new key w = (q : Datum) → lookup (datum_eq q) new ≡ cond (datum_eq key q) w (lookup (datum_eq q) old)
