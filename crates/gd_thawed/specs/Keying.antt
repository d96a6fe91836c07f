-- Sort keys of an object that are looked for.
use Rattle.std.specs.Prelude.{◌≡◌, ◌≤◌, ℕ, List, map, take, length, slice_get, IfSome}
use Rattle.gd_prim.specs.declared.Primitive.{Primitive}
use Rattle.gd_defs.specs.Asked.{Key, by_guid, by_timestamp, by_property}
use Rattle.gd_plan.specs.declared.asked.SortKey.{SortKey}
use Rattle.gd_plan.specs.Seen.{sort_key_view}
use Rattle.gd_thawed.specs.KeysAt.{HasLooked, own_key}
use Rattle.gd_thawed.specs.declared.keying.Keying.{Keying}

-- none of the first links by which an object is asked for a key is its first answer
abbrev pub HasLookedBy : List Primitive → ℕ → ℕ → Key → Type 0
HasLookedBy prims o next by_guid = Unit {0}
HasLookedBy prims o next by_timestamp = Unit {0}
HasLookedBy prims o next (by_property p) = HasLooked prims p o next

-- so it is for a sort key
abbrev pub HasLookedFor : List Primitive → SortKey → ℕ → ℕ → Type 0
HasLookedFor prims s o next = HasLookedBy prims o next (sort_key_view s).key

-- the first keys of its object were found, and so many links were looked at for the next one
pub record HasKeys (prims : List Primitive) (sort : List SortKey) (k : Keying) : Type 0 where
  pub keys : k.keys.items ≡ map (own_key prims k.object) (map sort_key_view (take (length k.keys.items) sort))
  pub few : length k.keys.items ≤ length sort
  pub looked : IfSome (slice_get sort (length k.keys.items)) (λ s. HasLookedFor prims s k.object k.next)
