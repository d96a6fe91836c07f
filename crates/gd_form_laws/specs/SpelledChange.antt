-- What the members of a write spell that have no fault of form, and how deep its forms nest.
use Rattle.std.specs.Prelude.{ℕ, ◌+◌, max, [], Result, Ok, Err}
use Rattle.gd_tree.specs.Json.{Json, Items, Members as JsonMembers}
use Rattle.gd_defs.specs.Query.{Fault, Name}
use Rattle.gd_defs.specs.Change.{Setting, Item, blank, plain, fact, connect, nested, several, ManyItems, no_more, and_then, Members, no_members, member, created, Change, existing_object, members_of, items_of, change_of}

-- the members, or none where there is a fault
abbrev pub entries_or : Result Members Fault → Members
entries_or (Ok ms) = ms
entries_or (Err f) = no_members

-- the items, or none where there is a fault
abbrev pub items_or : Result ManyItems Fault → ManyItems
items_or (Ok is) = is
items_or (Err f) = no_more

-- the change, or one of no members where there is a fault
abbrev pub change_or : Result Change Fault → Change
change_or (Ok c) = c
change_or (Err f) = record { root = existing_object []; members = no_members }

-- the members of a clause that members spell
unfoldable pub spelled_entries : Setting → JsonMembers → Members
spelled_entries s ms = entries_or (members_of s ms)

-- the items that the items of a list spell at a member of this name
unfoldable pub spelled_items : Setting → Name → Items → ManyItems
spelled_items s n js = items_or (items_of s n js)

-- the change that a value spells
unfoldable pub spelled_change : Json → Change
spelled_change j = change_or (change_of j)

abbrev mutual
  -- so many forms {..} and lists lie one within the other in what a member has
  pub item_depth : Item → ℕ
  item_depth blank = 0
  item_depth (plain j) = 0
  item_depth (fact t ms) = 1
  item_depth (connect w t previous ms) = 1
  item_depth (nested w ms) = 1 + entries_depth ms
  item_depth (several is) = 1 + many_depth is

  -- so many forms {..} and lists lie one within the other among the items of a list
  pub many_depth : ManyItems → ℕ
  many_depth no_more = 0
  many_depth (and_then i is) = max (item_depth i) (many_depth is)

  -- so many forms {..} and lists lie one within the other among members
  pub entries_depth : Members → ℕ
  entries_depth no_members = 0
  entries_depth (member n i ms) = max (item_depth i) (entries_depth ms)
  entries_depth (created w ms) = entries_depth ms

-- so many items there are
abbrev pub many_len : ManyItems → ℕ
many_len no_more = 0
many_len (and_then i is) = 1 + many_len is

-- so many members there are, `create` among them
abbrev pub entries_len : Members → ℕ
entries_len no_members = 0
entries_len (member n i ms) = 1 + entries_len ms
entries_len (created w ms) = 1 + entries_len ms
