-- Looking into a tree.
use Rattle.std.specs.Prelude.{ℕ, zero, suc, ℤ, List, Bool, true, false, ◌&&◌, Option, Some, None, bytes_eq, if◌then◌else◌}
use Rattle.std.specs.List.{list_any}
use Rattle.gd_tree.specs.Json.{Json, null, boolean, number, text, list, object, Items, no_items, item, Members, no_members, member}

-- the value of a member by name
abbrev pub get : List ℕ → Members → Option Json
get k no_members = None
get k (member l j ms) = if bytes_eq k l then Some j else get k ms

-- no other names than these
abbrev pub only : List (List ℕ) → Members → Bool
only ks no_members = true
only ks (member l j ms) = list_any (bytes_eq l) ks && only ks ms

-- the item at a place, the first being at 0
abbrev pub at : ℕ → Items → Option Json
at n no_items = None
at zero (item j js) = Some j
at (suc n) (item j js) = at n js

-- the member at a place, the first being at 0, with its name
abbrev pub member_at : ℕ → Members → Option (List ℕ × Json)
member_at n no_members = None
member_at zero (member k j ms) = Some (k, j)
member_at (suc n) (member k j ms) = member_at n ms

-- how many items a list has
abbrev pub items_len : Items → ℕ
items_len no_items = 0
items_len (item j js) = suc (items_len js)

-- how many members an object has
abbrev pub members_len : Members → ℕ
members_len no_members = 0
members_len (member k j ms) = suc (members_len ms)

-- ---- the same of a value, which may be of another kind

-- the value of an object's member by name
abbrev pub member_of : List ℕ → Json → Option Json
member_of k (object ms) = get k ms
member_of k _ = None

-- the member at a place of an object, with its name
abbrev pub nth_member_of : ℕ → Json → Option (List ℕ × Json)
nth_member_of n (object ms) = member_at n ms
nth_member_of n _ = None

-- the items of a list
abbrev pub items_in : Json → Option Items
items_in (list js) = Some js
items_in _ = None

-- the members of an object
abbrev pub members_in : Json → Option Members
members_in (object ms) = Some ms
members_in _ = None

-- the item at a place of a list
abbrev pub item_of : ℕ → Json → Option Json
item_of n (list js) = at n js
item_of n _ = None

-- how many items, where it is a list
abbrev pub item_count : Json → ℕ
item_count (list js) = items_len js
item_count _ = 0

-- how many members, where it is an object
abbrev pub member_count : Json → ℕ
member_count (object ms) = members_len ms
member_count _ = 0

-- the bytes of a text
abbrev pub text_of : Json → Option (List ℕ)
text_of (text t) = Some t
text_of _ = None

-- a number
abbrev pub int_of : Json → Option ℤ
int_of (number n) = Some n
int_of _ = None

-- a truth value
abbrev pub bool_of : Json → Option Bool
bool_of (boolean b) = Some b
bool_of _ = None

-- the value is null
abbrev pub is_null : Json → Bool
is_null null = true
is_null _ = false
