-- What a write does, as the definitions have it.
use Rattle.std.specs.Prelude.{ℕ, List, [], ◌∷◌, Option, map}
use Rattle.gd_tree.specs.Json as tree
use Rattle.gd_json.specs.View.{view as json_view, members_view as json_members}
use Rattle.gd_defs.specs.Write as write
use Rattle.gd_defs.specs.Write.Parts as parts
use Rattle.gd_mql.specs.Changes.{connect_view, create_view}
use Rattle.gd_mql.specs.Entries.{root_view}
use Rattle.gd_growing.specs.Seen.{target_view}
use Rattle.gd_intent.specs.declared.intent.Spelled.{Spelled}
use Rattle.gd_intent.specs.declared.intent.Spelled.TheVariants as spelled
use Rattle.gd_intent.specs.declared.intent.Entry.{Entry}
use Rattle.gd_intent.specs.declared.intent.Entry.TheVariants as entry
use Rattle.gd_intent.specs.declared.intent.Item.{Item, fold-Item}
use Rattle.gd_intent.specs.declared.intent.Item.TheOpen.{Item-F}
use Rattle.gd_intent.specs.declared.intent.ResolvedChange.{ResolvedChange}
use Rattle.gd_intent.specs.declared.intent.Intent.{Intent}

-- a value as it was spelled
abbrev pub spelled_view : Spelled → tree.Json
spelled_view spelled.Null = tree.null
spelled_view (spelled.Value j) = json_view j.now
spelled_view (spelled.Form ms) = tree.object (json_members ms.now)

-- an entry in front of others, where what it does is already seen
abbrev pub with_entry : Entry parts.Item → parts.Members → parts.Members
with_entry (entry.Member name i) ms = parts.member name.now i ms
with_entry entry.Created ms = parts.created ms

-- entries in front of others, where what they do is already seen
abbrev pub in_front : List (Entry parts.Item) → parts.Members → parts.Members
in_front [] rest = rest
in_front (e ∷ es) rest = with_entry e (in_front es rest)

-- items of a list in front of others, where what they do is already seen
abbrev pub many_in_front : List parts.Item → parts.ManyItems → parts.ManyItems
many_in_front [] rest = rest
many_in_front (i ∷ is) rest = parts.and_then i (many_in_front is rest)

-- what a member does, where those inside are already seen
abbrev pub item_step : Item-F parts.Item → parts.Item
item_step (Item-F.Spelled s) = parts.as_spelled (spelled_view s)
item_step Item-F.Id = parts.its_id
item_step Item-F.Guid = parts.its_guid
item_step (Item-F.Fact p t s) = parts.fact p (target_view t) (spelled_view s)
item_step (Item-F.Connect c) = parts.connect c.property (connect_view c.word) (target_view c.target) c.previous (json_members c.members.now)
item_step (Item-F.Nested p w ms) = parts.nested p (create_view w) (in_front ms.items parts.no_members)
item_step (Item-F.Several is) = parts.several (many_in_front is.items parts.no_more)

-- what a member does
abbrev pub item_view : Item → parts.Item
item_view = fold-Item parts.Item item_step

-- an entry with what it does seen
abbrev pub entry_view : Entry Item → Entry parts.Item
entry_view (entry.Member name i) = entry.Member name (item_view i)
entry_view entry.Created = entry.Created

-- entries in front of others
abbrev pub before : List (Entry Item) → parts.Members → parts.Members
before es rest = in_front (map entry_view es) rest

-- items of a list in front of others
abbrev pub many_before : List Item → parts.ManyItems → parts.ManyItems
many_before is rest = many_in_front (map item_view is) rest

-- the members of a clause, in order
abbrev pub members_view : List (Entry Item) → parts.Members
members_view es = before es parts.no_members

-- the items of a list, in order
abbrev pub many_view : List Item → parts.ManyItems
many_view is = many_before is parts.no_more

-- a change with its words looked up
abbrev pub resolved_view : ResolvedChange → write.Resolved
resolved_view c = record { path = map (λ name. name.now) c.path.items; root = root_view c.root; on = c.on; members = members_view c.members.items }

-- a write: its scope, and its changes in order
abbrev pub intent_view : Intent → Option ℕ × List write.Resolved
intent_view i = (i.scope, map resolved_view i.changes.items)
