-- What every value keeps that bytes are as JSON.
use Rattle.std.specs.Prelude.{◌≡◌, ℕ, ◌≤◌, List, [], ◌∷◌, Bool, true}
use Rattle.std.specs.Ordering.{nat_cmp}
use Rattle.std.specs.Cmp.Lexicographic.{slice_cmp}
use Rattle.std.specs.declared.cmp.Ordering.TheVariants.{Less}
use Rattle.std.specs.List.{AllByRecursion}
use Rattle.std.specs.Str.{is_utf8}
use Rattle.gd_tree.specs.Json.{Json, null, boolean, number, text, list, object, Items, no_items, item, Members, no_members, member}
use Rattle.gd_tree.specs.Look.{items_len, members_len}
use Rattle.gd_tree.specs.Bounds.{json_depth, IsPlain}

-- the names of members, in their order
abbrev pub names_of : Members → List (List ℕ)
names_of no_members = []
names_of (member k j ms) = k ∷ names_of ms

-- texts rise in byte order, so each stands once
abbrev pub AreRising : List (List ℕ) → Type 0
AreRising [] = Unit {0}
AreRising (k ∷ ks) = AllByRecursion (λ l. slice_cmp nat_cmp k l ≡ Less) ks × AreRising ks

-- texts pass a test
abbrev pub AllPass : (List ℕ → Bool) → List (List ℕ) → Type 0
AllPass T ks = AllByRecursion (λ k. T k ≡ true) ks

abbrev mutual
  -- a list or an object has at most 64 parts, and the names of members rise and pass a test
  pub IsShaped : (List ℕ → Bool) → Json → Type 0
  IsShaped T null = Unit {0}
  IsShaped T (boolean b) = Unit {0}
  IsShaped T (number n) = Unit {0}
  IsShaped T (text t) = Unit {0}
  IsShaped T (list js) = (items_len js ≤ 64) × AreShaped T js
  IsShaped T (object ms) = (members_len ms ≤ 64) × AreRising (names_of ms) × AllPass T (names_of ms) × MembersShaped T ms

  -- so it is of each item of a list
  pub AreShaped : (List ℕ → Bool) → Items → Type 0
  AreShaped T no_items = Unit {0}
  AreShaped T (item j js) = IsShaped T j × AreShaped T js

  -- so it is of the value of each member
  pub MembersShaped : (List ℕ → Bool) → Members → Type 0
  MembersShaped T no_members = Unit {0}
  MembersShaped T (member k j ms) = IsShaped T j × MembersShaped T ms

-- at most 16 values lie one within the other; whole numbers have 64 bits, texts and names are UTF-8; at most 64 parts each, names rise
pub record IsBounded (j : Json) : Type 0 where
  pub depth : json_depth j ≤ 16
  pub plain : IsPlain is_utf8 j
  pub shaped : IsShaped is_utf8 j
