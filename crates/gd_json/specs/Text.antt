-- The data that a text's tree is, as the crate serde_json reads it.
use Rattle.std.specs.Prelude.{ℕ, ◌&&◌, List, [], ◌∷◌, Bool, true, false, Option, Some, None, Result, Err, is_some, option_and_then, unwrap_or}
use Rattle.std.specs.Borrow.{Bor}
use Rattle.std.specs.Float.{binary64}
use Rattle.std.specs.Ordering.{nat_cmp, is_lt}
use Rattle.std.specs.Cmp.Lexicographic.{slice_cmp}
use Rattle.fast_float.specs.Text.{scan, nearest}
use Rattle.json.specs.Lex.{tokens}
use Rattle.json.specs.Json as json
use Rattle.json.specs.Value.{value_view}
use Rattle.json.specs.declared.value.Value.{Value}
use Rattle.serde_json.specs.Data as data_of
use Rattle.serde_json.specs.Data.{Data, Num, put}
use Rattle.serde_json.specs.Events.{members_len}
use Rattle.serde_json.specs.Read.{number_of, of_json, max_depth}
use Rattle.gd_tree.specs.Json.{Json}
use Rattle.gd_json.specs.Reading.{within, object_of, value_at, members_at}
use Rattle.gd_json.specs.declared.from.JsonFault.{JsonFault}
use Rattle.gd_json.specs.declared.from.JsonFault.TheVariants.{BadJson}

-- the tree of a text, if it is JSON
abbrev pub tree_of : List ℕ → Option json.Json
tree_of text = option_and_then (λ p. json.if_last p.0 p.1) (json.value max_depth (tokens text))

-- a number; one that is out of range is a float
abbrev pub number_data : List ℕ → Num
number_data s = unwrap_or (number_of s) (data_of.float (nearest binary64 false (scan s)))

-- the data of a tree; of two members of one name the last stays, and they stand in byte order of names
abbrev mutual
  pub as_data : json.Json → Data
  as_data json.null = data_of.null
  as_data (json.boolean b) = data_of.boolean b
  as_data (json.number s) = data_of.number (number_data s)
  as_data (json.string s) = data_of.string s
  as_data (json.array js) = data_of.array (items_data js)
  as_data (json.object ms) = data_of.object (members_data ms data_of.no_members)

  pub items_data : json.Items → data_of.Items
  items_data json.no_items = data_of.no_items
  items_data (json.item j js) = data_of.item (as_data j) (items_data js)

  pub members_data : json.Members → data_of.Members → data_of.Members
  members_data json.no_members found = found
  members_data (json.member k j ms) found = members_data ms (put k (as_data j) found)

-- members as they stand
abbrev pub plain_members : json.Members → data_of.Members
plain_members json.no_members = data_of.no_members
plain_members (json.member k j ms) = data_of.member k (as_data j) (plain_members ms)

-- the names rise in byte order, from one on
abbrev pub rises_behind : List ℕ → json.Members → Bool
rises_behind k json.no_members = true
rises_behind k (json.member l j ms) = is_lt (slice_cmp nat_cmp k l) && rises_behind l ms

abbrev pub rises : json.Members → Bool
rises json.no_members = true
rises (json.member k j ms) = rises_behind k ms

-- the members that a map from names to values has
abbrev pub entries_data : {A : Type 0} → List (Bor (List ℕ) × Bor (Value A)) → data_of.Members
entries_data [] = data_of.no_members
entries_data (e ∷ es) = data_of.member e.0.now (as_data (value_view e.1.now)) (entries_data es)

-- the object of members whose values stand at a level
abbrev pub object_at : ℕ → data_of.Members → Result Json JsonFault
object_at level ms = within 1 (members_len ms) (object_of (members_at level ms))

-- each item has a reading
abbrev pub items_read : json.Items → Bool
items_read json.no_items = true
items_read (json.item j js) = is_some (of_json j) && items_read js

-- the value of each member has one
abbrev pub members_read : json.Members → Bool
members_read json.no_members = true
members_read (json.member k j ms) = is_some (of_json j) && members_read ms

-- the value of what was read of a text, if anything
abbrev pub reading_of : Option Data → Result Json JsonFault
reading_of None = Err BadJson
reading_of (Some d) = value_at 1 d

-- the value that a text in UTF-8 is, by the grammar of the crate serde_json
abbrev pub text_reading : List ℕ → Result Json JsonFault
text_reading text = reading_of (option_and_then of_json (tree_of text))
