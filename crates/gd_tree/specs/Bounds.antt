-- Bounds of JSON values: how deep they are, and what their numbers and texts keep.
use Rattle.std.specs.Prelude.{◌≡◌, ℕ, ◌+◌, max, FitsSigned, List, Bool, true}
use Rattle.std.specs.Int.{w64}
use Rattle.gd_tree.specs.Json.{Json, null, boolean, number, text, list, object, Items, no_items, item, Members, no_members, member}

abbrev mutual
  -- so many values lie one within the other, the value itself among them
  pub json_depth : Json → ℕ
  json_depth null = 1
  json_depth (boolean b) = 1
  json_depth (number n) = 1
  json_depth (text t) = 1
  json_depth (list js) = 1 + items_depth js
  json_depth (object ms) = 1 + members_depth ms

  -- so many values lie one within the other among the items of a list
  pub items_depth : Items → ℕ
  items_depth no_items = 0
  items_depth (item j js) = max (json_depth j) (items_depth js)

  -- so many values lie one within the other among the members of an object
  pub members_depth : Members → ℕ
  members_depth no_members = 0
  members_depth (member k j ms) = max (json_depth j) (members_depth ms)

abbrev mutual
  -- the whole numbers of a value have 64 bits, and its texts, but for names, pass a test
  pub IsPlain : (List ℕ → Bool) → Json → Type 0
  IsPlain T null = Unit {0}
  IsPlain T (boolean b) = Unit {0}
  IsPlain T (number n) = FitsSigned w64 n
  IsPlain T (text t) = T t ≡ true
  IsPlain T (list js) = ArePlain T js
  IsPlain T (object ms) = MembersPlain T ms

  -- the whole numbers within the items of a list have 64 bits, and the texts there, but for names, pass a test
  pub ArePlain : (List ℕ → Bool) → Items → Type 0
  ArePlain T no_items = Unit {0}
  ArePlain T (item j js) = IsPlain T j × ArePlain T js

  -- the whole numbers within the members of an object have 64 bits, and the texts there, but for names, pass a test
  pub MembersPlain : (List ℕ → Bool) → Members → Type 0
  MembersPlain T no_members = Unit {0}
  MembersPlain T (member k j ms) = IsPlain T j × MembersPlain T ms
