-- The JSON that bytes are, or why they are refused.
use Rattle.std.specs.Prelude.{ℕ, ◌+◌, ℤ, List, nat_lt, Result, Ok, Err, Option, Some, None, if◌then◌else◌}
use Rattle.std.specs.Str.{is_utf8}
use Rattle.serde_json.specs.Data as data_of
use Rattle.serde_json.specs.Data.{Data}
use Rattle.serde_json.specs.Events.{items_len, members_len}
use Rattle.serde_json.specs.Find.{as_i64}
use Rattle.serde_json.specs.Read.{read}
use Rattle.gd_grammar.specs.Chain.{◌>>=◌}
use Rattle.gd_tree.specs.Json.{Json, null, boolean, number, text, list, object, Items, no_items, item, Members, no_members, member}
use Rattle.gd_json.specs.declared.from.JsonFault.{JsonFault}
use Rattle.gd_json.specs.declared.from.JsonFault.TheVariants.{BadJson, TooDeep, TooWide, FloatValue}

-- a value at level 17 is too deep, the whole value being at level 1, and one of more than 64 parts is too wide
abbrev pub within : ℕ → ℕ → Result Json JsonFault → Result Json JsonFault
within level parts r = if nat_lt 16 level then Err TooDeep else if nat_lt 64 parts then Err TooWide else r

-- a number of 64 bits with a sign
abbrev pub whole : Option ℤ → Result Json JsonFault
whole None = Err FloatValue
whole (Some n) = Ok (number n)

-- the list of these items
abbrev pub list_of : Result Items JsonFault → Result Json JsonFault
list_of r = r >>= λ js. Ok (list js)

-- the object of these members
abbrev pub object_of : Result Members JsonFault → Result Json JsonFault
object_of r = r >>= λ ms. Ok (object ms)

-- each value before its parts, members in byte order of names; the first fault decides
abbrev mutual
  pub value_at : ℕ → Data → Result Json JsonFault
  value_at level data_of.null = within level 0 (Ok null)
  value_at level (data_of.boolean b) = within level 0 (Ok (boolean b))
  value_at level (data_of.number n) = within level 0 (whole (as_i64 n))
  value_at level (data_of.string s) = within level 0 (Ok (text s))
  value_at level (data_of.array ds) = within level (items_len ds) (list_of (items_at (level + 1) ds))
  value_at level (data_of.object ms) = within level (members_len ms) (object_of (members_at (level + 1) ms))

  pub items_at : ℕ → data_of.Items → Result Items JsonFault
  items_at level data_of.no_items = Ok no_items
  items_at level (data_of.item d ds) = value_at level d >>= λ j. items_at level ds >>= λ js. Ok (item j js)

  pub members_at : ℕ → data_of.Members → Result Members JsonFault
  members_at level data_of.no_members = Ok no_members
  members_at level (data_of.member k d ms) = value_at level d >>= λ j. members_at level ms >>= λ js. Ok (member k j js)

-- the JSON that bytes are, by the grammar of the crate serde_json; they are UTF-8
abbrev pub json_from : List ℕ → Result Json JsonFault
json_from bytes = if is_utf8 bytes then by (read bytes) else Err BadJson
  where
    by : Option Data → Result Json JsonFault
    by None = Err BadJson
    by (Some d) = value_at 1 d
