-- The first faults of form of the parts of a write, as words of their own.
use Rattle.std.specs.Prelude.{ℕ, List, Bool, true, false, not, ◌||◌, ◌&&◌, Option, Some, None, if◌then◌else◌}
use Rattle.std.specs.Result.{result_err}
use Rattle.gd_tree.specs.Json.{Json, Items, no_items, item, Members, no_members, member}
use Rattle.gd_defs.specs.Query.{Fault, Code, bad_write, list_form, Name, has_operator, is_link, is_computed, is_identity, is_literal, all_items}
use Rattle.gd_defs.specs.Change.{Setting, CreateWord, unless_exists, unconditional, members_of, item_of, items_of, by_name, target_in, change_of, is_form}

-- the first fault of the members of a clause
unfoldable pub entries_fault : Setting → Members → Option Fault
entries_fault s ms = result_err (members_of s ms)

-- the first fault of a member of this name and value alone
unfoldable pub entry_fault : Setting → List ℕ → Json → Option Fault
entry_fault s k j = result_err (members_of s (member k j no_members))

-- the first fault of what a member has, by its name
unfoldable pub named_item_fault : Setting → Name → Json → Option Fault
named_item_fault s n j = result_err (by_name s n j (item_of s n j))

-- the first fault of what a value spells at a member
unfoldable pub item_fault : Setting → Name → Json → Option Fault
item_fault s n j = result_err (item_of s n j)

-- the first fault of what the items of a list spell at a member
unfoldable pub items_fault : Setting → Name → Items → Option Fault
items_fault s n js = result_err (items_of s n js)

-- the first fault of the target of a form below a member
unfoldable pub target_fault : List ℕ → Members → Option Fault
target_fault name ms = result_err (target_in name ms)

-- the first fault of a value as a change
unfoldable pub change_fault : Json → Option Fault
change_fault j = result_err (change_of j)

-- the word of a create may stand in a clause: unless_exists needs a fact of the clause's own
abbrev pub create_fits : Setting → Option CreateWord → Bool
create_fits s None = false
create_fits s (Some unless_exists) = s.has_fact
create_fits s (Some unconditional) = true

-- a name may be that of a member of a write
abbrev pub is_written : Name → Bool
is_written n = not (has_operator n || is_link n.word || (is_computed n.word && not (is_identity n.word)))

-- the code of a list as such: it has to have forms alone, or in a create literals alone
abbrev pub list_code : Setting → Items → Option Code
list_code s no_items = Some bad_write
list_code s (item j js) = if all_items is_form (item j js) || (s.creates && all_items is_literal (item j js)) then None else if all_items is_literal (item j js) then Some bad_write else Some list_form
