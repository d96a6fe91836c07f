-- The change of a write as the definitions have it.
use Rattle.gd_json.specs.View.{view, items_view, members_view}
use Rattle.gd_defs.specs.Change as change
use Rattle.gd_form_laws.specs.SpelledChange.{spelled_entries, spelled_items}
use Rattle.gd_mql.specs.Names.{name_view}
use Rattle.gd_mql.specs.Changes.{setting_view, target_view, create_view, connect_view}
use Rattle.gd_mql.specs.declared.change.Change.{Change}
use Rattle.gd_mql.specs.declared.change.Root.{Root}
use Rattle.gd_mql.specs.declared.change.Root.TheVariants as root
use Rattle.gd_mql.specs.declared.change.Members.{Members}
use Rattle.gd_mql.specs.declared.change.Items.{Items}
use Rattle.gd_mql.specs.declared.change.Item.{Item}
use Rattle.gd_mql.specs.declared.change.Item.TheVariants as item
use Rattle.gd_mql.specs.declared.change.Entry.{Entry}
use Rattle.gd_mql.specs.declared.change.Entry.TheVariants as entry

-- the members that are left
abbrev pub entries_left : Members → change.Members
entries_left m = spelled_entries (setting_view m.setting) (members_view m.members.now)

-- the items that are left
abbrev pub items_left : Items → change.ManyItems
items_left i = spelled_items (setting_view i.setting) (name_view i.name) (items_view i.items.now)

-- what a member has
abbrev pub item_view : Item → change.Item
item_view item.Blank = change.blank
item_view (item.Plain j) = change.plain (view j.now)
item_view (item.Fact t ms) = change.fact (target_view t) (members_view ms.now)
item_view (item.Connect c) = change.connect (connect_view c.word) (target_view c.target) c.previous (members_view c.members.now)
item_view (item.Nested w ms) = change.nested (create_view w) (entries_left ms)
item_view (item.Several is) = change.several (items_left is)

-- an entry in front of other members
abbrev pub with_entry : Entry → change.Members → change.Members
with_entry (entry.Member n i) ms = change.member (name_view n) (item_view i) ms
with_entry (entry.Created w) ms = change.created (create_view w) ms

-- what the change is carried out on
abbrev pub root_view : Root → change.Root
root_view (root.Create w) = change.to_create (create_view w)
root_view (root.Existing t) = change.existing_object t.now

-- the change that this is
abbrev pub change_view : Change → change.Change
change_view c = record { root = root_view c.root; members = entries_left c.members }
