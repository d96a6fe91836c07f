-- The laws of what the clause of a write without a fault of form spells.
use Rattle.std.specs.Prelude.{◌≡◌, ℕ, ◌+◌, ◌≤◌, List, true, false, Some, None, Ok, if◌then◌else◌, codes, bytes_eq}
use Rattle.std.specs.Option.{option_or}
use Rattle.std.specs.Result.{result_err}
use Rattle.gd_tree.specs.Json.{Json, list, object, Items, item, Members as JsonMembers, member as json_member}
use Rattle.gd_tree.specs.Look.{is_null, get}
use Rattle.gd_tree.specs.Bounds.{json_depth}
use Rattle.gd_defs.specs.Query.{Name}
use Rattle.gd_defs.specs.Change.{Setting, CreateWord, ConnectWord, Target, Item, blank, plain, fact, connect, nested, several, and_then, member, created, to_create, existing_object, create_word, connect_word, write_name, identity_item, by_name, item_of, target_of, setting_of, guid_member, text_member}
use Rattle.gd_form_laws.specs.WriteFaults.{entries_fault, entry_fault, item_fault, items_fault, change_fault}
use Rattle.gd_form_laws.specs.SpelledChange.{spelled_entries, spelled_items, spelled_change, entries_depth}

-- A clause without a fault has none in its first member.
abbrev pub FirstEntriesAreRight : Type 0
FirstEntriesAreRight = (s : Setting) (k : List ℕ) (j : Json) (ms : JsonMembers) → entries_fault s (json_member k j ms) ≡ None → entry_fault s k j ≡ None

-- Nor has it one in the others.
abbrev pub OtherEntriesAreRight : Type 0
OtherEntriesAreRight = (s : Setting) (k : List ℕ) (j : Json) (ms : JsonMembers) → entries_fault s (json_member k j ms) ≡ None → entries_fault s ms ≡ None

-- `create` spells its word, in front of what the others spell.
abbrev pub CreatesLead : Type 0
CreatesLead = (s : Setting) (j : Json) (ms : JsonMembers) (w : CreateWord) → entries_fault s (json_member (codes "create") j ms) ≡ None → create_word j ≡ Some w
    → spelled_entries s (json_member (codes "create") j ms) ≡ created w (spelled_entries s ms)

-- Another member spells its name with what it has, in front of what the others spell.
abbrev pub NamesLead : Type 0
NamesLead = (s : Setting) (k : List ℕ) (j : Json) (ms : JsonMembers) (n : Name) (i : Item) → entries_fault s ms ≡ None → bytes_eq k (codes "create") ≡ false → write_name s.at_root k ≡ Ok n → by_name s n j (item_of s n j) ≡ Ok i
    → spelled_entries s (json_member k j ms) ≡ member n i (spelled_entries s ms)

-- `id` and `guid` have null or the text itself.
abbrev pub IdentitiesAreSpelled : Type 0
IdentitiesAreSpelled = (s : Setting) (n : Name) (j : Json) → result_err (identity_item s n j) ≡ None → identity_item s n j ≡ Ok (if is_null j then blank else plain j)

-- A form with `connect` is a connect form with its word, its target and its members.
abbrev pub ConnectsAreSpelled : Type 0
ConnectsAreSpelled = (s : Setting) (n : Name) (ms : JsonMembers) (j : Json) (t : Target) (w : ConnectWord) → get (codes "connect") ms ≡ Some j → item_fault s n (object ms) ≡ None → target_of ms ≡ Some t → connect_word j ≡ Some w
    → item_of s n (object ms) ≡ Ok (connect w t (guid_member (codes "previous") ms) ms)

-- Another form with `create` is a nested create with its word and what its members spell.
abbrev pub NestedAreSpelled : Type 0
NestedAreSpelled = (s : Setting) (n : Name) (ms : JsonMembers) (j : Json) (w : CreateWord) → get (codes "connect") ms ≡ None → get (codes "create") ms ≡ Some j → item_fault s n (object ms) ≡ None → create_word j ≡ Some w
    → item_of s n (object ms) ≡ Ok (nested w (spelled_entries (setting_of false ms) ms))

-- Another form is a fact with its target and its members.
abbrev pub FactsAreSpelled : Type 0
FactsAreSpelled = (s : Setting) (n : Name) (ms : JsonMembers) (t : Target) → get (codes "connect") ms ≡ None → get (codes "create") ms ≡ None → item_fault s n (object ms) ≡ None → target_of ms ≡ Some t
    → item_of s n (object ms) ≡ Ok (fact t ms)

-- A list has what its items spell.
abbrev pub ListsAreSpelled : Type 0
ListsAreSpelled = (s : Setting) (n : Name) (js : Items) → item_fault s n (list js) ≡ None → item_of s n (list js) ≡ Ok (several (spelled_items s n js))

-- An item stands in front of what the others spell.
abbrev pub ItemsLead : Type 0
ItemsLead = (s : Setting) (n : Name) (j : Json) (js : Items) (i : Item) → items_fault s n js ≡ None → item_of s n j ≡ Ok i → spelled_items s n (item j js) ≡ and_then i (spelled_items s n js)

-- A write with `create` creates by its word.
abbrev pub RootsCreate : Type 0
RootsCreate = (ms : JsonMembers) (j : Json) (w : CreateWord) → get (codes "create") ms ≡ Some j → create_word j ≡ Some w → change_fault (object ms) ≡ None
    → spelled_change (object ms) ≡ record { root = to_create w; members = spelled_entries (setting_of true ms) ms }

-- Another write is about the object that the text of `id` names, or else that of `guid`.
abbrev pub RootsName : Type 0
RootsName = (ms : JsonMembers) (t : List ℕ) → get (codes "create") ms ≡ None → option_or (text_member (codes "id") ms) (text_member (codes "guid") ms) ≡ Some t → change_fault (object ms) ≡ None
    → spelled_change (object ms) ≡ record { root = existing_object t; members = spelled_entries (setting_of true ms) ms }

-- Forms and lists of a write nest no deeper than the JSON that spells it, the clause itself among them.
abbrev pub ChangesAreShallow : Type 0
ChangesAreShallow = (j : Json) → 1 + entries_depth (spelled_change j).members ≤ json_depth j
