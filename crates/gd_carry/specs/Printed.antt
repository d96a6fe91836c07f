-- What parts of a write print once the state at its end is known.
use Rattle.std.specs.Prelude.{ℕ, List, [], ◌∷◌, map}
use Rattle.std.specs.Borrow.{Bor}
use Rattle.gd_prim.specs.declared.Primitive.{Primitive}
use Rattle.gd_tree.specs.Json as tree
use Rattle.gd_json.specs.View.{members_view as json_members}
use Rattle.gd_defs.specs.Ids.{id_text, guid}
use Rattle.gd_defs.specs.Write.Carried.{answered, created_text}
use Rattle.gd_growing.specs.Seen.{answer_word}
use Rattle.gd_intent.specs.Seen.{spelled_view}
use Rattle.gd_carry.specs.declared.print.Printed.{Printed, fold-Printed}
use Rattle.gd_carry.specs.declared.print.Printed.TheOpen.{Printed-F}

-- a member of a printed object
abbrev pub Field : Type 0 → Type 0
Field A = Bor (List ℕ) × A

-- members in front of others, where what they print is already seen
abbrev pub in_front : List (Field tree.Json) → tree.Members → tree.Members
in_front [] rest = rest
in_front (f ∷ fs) rest = tree.member f.0.now f.1 (in_front fs rest)

-- items of a list in front of others, where what they print is already seen
abbrev pub many_in_front : List tree.Json → tree.Items → tree.Items
many_in_front [] rest = rest
many_in_front (j ∷ js) rest = tree.item j (many_in_front js rest)

-- members by their names, in front of others
abbrev pub pairs_before : List (List ℕ × tree.Json) → tree.Members → tree.Members
pairs_before [] rest = rest
pairs_before (m ∷ ms) rest = tree.member m.0 m.1 (pairs_before ms rest)

-- what a part prints, where those inside are already seen
abbrev pub printed_step : List Primitive → Printed-F tree.Json → tree.Json
printed_step final (Printed-F.Spelled s) = spelled_view s
printed_step final (Printed-F.Id o) = tree.text (id_text final o)
printed_step final (Printed-F.Guid o) = tree.text (guid o)
printed_step final (Printed-F.Created existed) = created_text existed
printed_step final (Printed-F.Connected a ms) = tree.object (answered (answer_word a) (json_members ms.now))
printed_step final (Printed-F.Form fs) = tree.object (in_front fs.items tree.no_members)
printed_step final (Printed-F.Several ps) = tree.list (many_in_front ps.items tree.no_items)

-- what a part prints at a state at the end
abbrev pub printed_view : List Primitive → Printed → tree.Json
printed_view final = fold-Printed tree.Json (printed_step final)

-- a member with what it prints seen
abbrev pub field_view : List Primitive → Field Printed → Field tree.Json
field_view final f = (f.0, printed_view final f.1)

-- a member by its name, with what it prints
abbrev pub pair_view : List Primitive → Field Printed → List ℕ × tree.Json
pair_view final f = (f.0.now, printed_view final f.1)

-- members in front of others
abbrev pub before : List Primitive → List (Field Printed) → tree.Members → tree.Members
before final fs rest = in_front (map (field_view final) fs) rest

-- items of a list in front of others
abbrev pub many_before : List Primitive → List Printed → tree.Items → tree.Items
many_before final ps rest = many_in_front (map (printed_view final) ps) rest

-- the members of an object, in order
abbrev pub fields_view : List Primitive → List (Field Printed) → tree.Members
fields_view final fs = before final fs tree.no_members

-- the items of a list, in order
abbrev pub many_view : List Primitive → List Printed → tree.Items
many_view final ps = many_before final ps tree.no_items
