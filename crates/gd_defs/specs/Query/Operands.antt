-- The form of a member's literal or operand, by its word and operator.
use Rattle.std.specs.Prelude.{Bool, true, false, ◌&&◌, is_some, if◌then◌else◌, codes}
use Rattle.std.specs.Int.{is_in_range}
use Rattle.gd_tree.specs.Json.{Json, boolean, number, text, list, Items, no_items, item}
use Rattle.gd_tree.specs.Look.{items_len}
use Rattle.gd_defs.specs.Ids.{is_id}
use Rattle.gd_defs.specs.Moment.{moment_of}
use Rattle.gd_defs.specs.Pattern.{pattern_of}
use Rattle.gd_defs.specs.Query.Names.{Operator, no_operator, one_of, differs, words, Name, is_word, is_identity, is_link}

-- the value is a literal: a text, a number or a truth value
abbrev pub is_literal : Json → Bool
is_literal (text t) = true
is_literal (number n) = true
is_literal (boolean b) = true
is_literal _ = false

-- the value is the text of an id
abbrev pub is_id_text : Json → Bool
is_id_text (text t) = is_id t
is_id_text _ = false

-- the value is the text of a moment
abbrev pub is_moment_text : Json → Bool
is_moment_text (text t) = is_some (moment_of t)
is_moment_text _ = false

-- the value is the text of a pattern
abbrev pub is_pattern : Json → Bool
is_pattern (text t) = is_some (pattern_of t)
is_pattern _ = false

-- the value is a text or a number, as comparisons take them
abbrev pub is_text_or_number : Json → Bool
is_text_or_number (text t) = true
is_text_or_number (number n) = true
is_text_or_number _ = false

-- each item passes a test
abbrev pub all_items : (Json → Bool) → Items → Bool
all_items test no_items = true
all_items test (item j js) = test j && all_items test js

-- the value is a list of 1 to 64 items that pass a test
abbrev pub list_of : (Json → Bool) → Json → Bool
list_of test (list js) = is_in_range 1 64 (items_len js) && all_items test js
list_of test _ = false

-- the form that an operator asks of its operand on a property; without an operator a literal
abbrev pub property_fits : Operator → Json → Bool
property_fits no_operator j = is_literal j
property_fits one_of j = list_of is_literal j
property_fits differs j = is_literal j
property_fits words j = is_pattern j
property_fits _ j = is_text_or_number j

-- the form that an operator asks of its operand on `id` and `guid`, where texts are ids
abbrev pub identity_fits : Operator → Json → Bool
identity_fits no_operator j = is_id_text j
identity_fits one_of j = list_of is_id_text j
identity_fits differs j = is_id_text j
identity_fits operator j = property_fits operator j

-- the form that an operator asks of its operand on `timestamp`, which is compared with moments; without an operator none fits
abbrev pub timestamp_fits : Operator → Json → Bool
timestamp_fits no_operator j = false
timestamp_fits one_of j = list_of is_literal j
timestamp_fits differs j = is_literal j
timestamp_fits words j = is_pattern j
timestamp_fits _ j = is_moment_text j

-- the form that an operator asks of its operand on `link`; without an operator none fits
abbrev pub link_fits : Operator → Json → Bool
link_fits no_operator j = false
link_fits operator j = property_fits operator j

-- the operand has the form that the word and the operator of its name ask, whether or not the word takes the operator
abbrev pub operand_fits : Name → Json → Bool
operand_fits n j = if is_identity n.word then identity_fits n.operator j else if is_word (codes "timestamp") n.word then timestamp_fits n.operator j
    else if is_link n.word then link_fits n.operator j else property_fits n.operator j
