-- How deep the members of a write lie one within another.
use Rattle.std.specs.Prelude.{ℕ, ◌+◌, max}
use Rattle.gd_defs.specs.Write.Parts.{Item, nested, several, ManyItems, no_more, and_then, Members, no_members, member, created}
use Rattle.gd_intent.specs.Seen.{item_view}
use Rattle.gd_intent.specs.declared.intent.Entry.{Entry}
use Rattle.gd_intent.specs.declared.intent.Entry.TheVariants as entry
use Rattle.gd_intent.specs.declared.intent.Item.{Item as Done}

abbrev mutual
  -- so many nested creates and lists lie one within another in a member
  pub item_depth : Item → ℕ
  item_depth (nested p w ms) = 1 + members_depth ms
  item_depth (several is) = 1 + many_depth is
  item_depth _ = 0

  -- in the items of a list
  pub many_depth : ManyItems → ℕ
  many_depth no_more = 0
  many_depth (and_then i is) = max (item_depth i) (many_depth is)

  -- in the members of a clause
  pub members_depth : Members → ℕ
  members_depth no_members = 0
  members_depth (member name i ms) = max (item_depth i) (members_depth ms)
  members_depth (created ms) = members_depth ms

-- in an entry of a clause
abbrev pub entry_depth : Entry Done → ℕ
entry_depth (entry.Member name i) = item_depth (item_view i)
entry_depth entry.Created = 0
