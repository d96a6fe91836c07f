-- Data: their kinds, their JSON, and tests of them.
use Rattle.std.specs.Prelude.{ℕ, List, length, Bool, true, false, not, ◌&&◌, ◌||◌, ◌==◌, nat_le, Option, Some, None, option_map, if◌then◌else◌}
use Rattle.std.specs.List.{list_any}
use Rattle.std.specs.Ordering.{is_lt, is_gt}
use Rattle.gd_base.specs.declared.datum.Datum.{Datum}
use Rattle.gd_base.specs.declared.datum.Datum.TheVariants as datum
use Rattle.gd_prim.specs.WellFormed.{is_number}
use Rattle.gd_base.specs.Order.{variant, datum_cmp, datum_eq}
use Rattle.gd_tree.specs.Json.{Json, null, boolean, number, text}
use Rattle.gd_defs.specs.Moment.{moment_of, moment_text}
use Rattle.gd_defs.specs.Pattern.{Pattern, matches}
use Rattle.gd_defs.specs.Ids.{guid, is_key}

-- the kinds of values that a property may hold
pub data Kind : Type 0 where
  of_text of_int of_boolean of_datetime : Kind

-- a datum is of this kind
abbrev pub has_kind : Kind → Datum → Bool
has_kind of_text (datum.Text t) = true
has_kind of_int (datum.Int n) = true
has_kind of_boolean (datum.Bool b) = true
has_kind of_datetime (datum.Moment ms precision) = true
has_kind _ _ = false

-- the datum of this kind that a JSON value spells
abbrev pub datum_from : Kind → Json → Option Datum
datum_from of_text (text t) = if nat_le (length t) 4096 then Some (datum.Text t) else None
datum_from of_int (number n) = if is_number n then Some (datum.Int n) else None
datum_from of_boolean (boolean b) = Some (datum.Bool b)
datum_from of_datetime (text t) = option_map (λ m. datum.Moment m.0 m.1) (moment_of t)
datum_from _ _ = None

-- the key that a JSON value spells
abbrev pub key_from : Json → Option (List ℕ)
key_from (text t) = if is_key t then Some t else None
key_from _ = None

-- a datum as it prints, an object as its guid
abbrev pub datum_json : Datum → Json
datum_json (datum.Bool b) = boolean b
datum_json (datum.Int n) = number n
datum_json (datum.Moment ms precision) = text (moment_text ms precision)
datum_json (datum.Text t) = text t
datum_json (datum.Object o) = text (guid o)
datum_json datum.Empty = null

-- what may be asked of a datum: nothing, that it equals another, differs from it, is one of some, lies below or above another, or has words
pub data Test : Type 0 where
  anything : Test
  equals : Datum → Test
  differs : Datum → Test
  is_one_of : List Datum → Test
  -- true: it may be equal too
  is_below : Datum → Bool → Test
  is_above : Datum → Bool → Test
  matches_words : Pattern → Test

-- a datum passes a test; below and above ask for the same kind
abbrev pub passes : Test → Datum → Bool
passes anything d = true
passes (equals v) d = datum_eq d v
passes (differs v) d = not (datum_eq d v)
passes (is_one_of vs) d = list_any (datum_eq d) vs
passes (is_below v or_equal) d = variant d == variant v && (is_lt (datum_cmp d v) || (or_equal && datum_eq d v))
passes (is_above v or_equal) d = variant d == variant v && (is_gt (datum_cmp d v) || (or_equal && datum_eq d v))
passes (matches_words p) (datum.Text t) = matches p t
passes (matches_words p) _ = false
