-- Sort keys at their places, and the links that are answers of a property.
use Rattle.std.specs.Prelude.{◌≡◌, ℕ, List, drop, filter, Bool, ◌&&◌, nat_lt, Option, None, Some, option_map, if◌then◌else◌}
use Rattle.gd_prim.specs.declared.Primitive.{Primitive}
use Rattle.gd_prim.specs.End.{places_with}
use Rattle.gd_prim.specs.Live.{passes_at, is_live}
use Rattle.gd_defs.specs.Plan.{asked_end}
use Rattle.gd_defs.specs.Property.{Property, is_of, answers, first, leads_to_object, holds_expected, expects_of}
use Rattle.gd_defs.specs.Asked.{SortKey}
use Rattle.gd_defs.specs.Rows.{key_place, key_value}
use Rattle.gd_window.specs.declared.keys.Key.{Key}

-- a link holds what a property expects in its direction
abbrev pub holds : List Primitive → Property → Primitive → Bool
holds prims p k = if p.reversed then leads_to_object prims k.left else holds_expected prims (expects_of p.expected) k

-- a live link of the property stands at the place, and holds what that expects
abbrev pub is_answer_at : List Primitive → Property → ℕ → Bool
is_answer_at prims p x = passes_at (λ k. is_of p k && holds prims p k) prims x && is_live prims x

-- of the links that have an object at the end by which a property is asked, none of the first ones is its first answer
abbrev pub HasLooked : List Primitive → Property → ℕ → ℕ → Type 0
HasLooked prims p o next = first (answers prims p o) ≡ first (filter (is_answer_at prims p) (drop next (places_with (asked_end p) o prims)))

-- a sort key at its place, with the value there
abbrev pub key_at : List Primitive → SortKey → Option ℕ → Key
key_at prims s place = record { value = option_map (key_value prims s) place; place = place }

-- the sort key of an object
abbrev pub own_key : List Primitive → ℕ → SortKey → Key
own_key prims o s = key_at prims s (key_place prims o s)

-- a place that lies below an end
abbrev pub below : ℕ → Option ℕ → Option ℕ
below end None = None
below end (Some p) = if nat_lt p end then Some p else None
