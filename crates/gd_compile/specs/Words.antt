-- Sort keys of properties.
use Rattle.std.specs.Prelude.{ℕ, List, Bool, true, false, ◌&&◌, not, Result, Ok, if◌then◌else◌}
use Rattle.gd_defs.specs.Query.{bad_sort}
use Rattle.gd_defs.specs.Property.{Property, Expects, a_value, expects_of}
use Rattle.gd_defs.specs.Asked as defs

-- the answers are values of a kind
abbrev pub is_value : Expects → Bool
is_value (a_value k) = true
is_value _ = false

-- the sort key of a property: its links are its own and hold values of a kind
abbrev pub value_key : Bool → List (List ℕ) → Property → Result defs.SortKey defs.Unknown
value_key descending path p = if is_value (expects_of p.expected) && not p.reversed then Ok (record { key = defs.by_property p; descending = descending }) else defs.bad bad_sort path
