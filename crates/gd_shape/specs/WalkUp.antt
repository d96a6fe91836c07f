-- How the id of an object is found: by the key links from it up to the root.
use Rattle.std.specs.Prelude.{◌≡◌, ℕ, List, Option, Some, None, if◌then◌else◌, ◌==◌}
use Rattle.gd_prim.specs.declared.Primitive.{Primitive}
use Rattle.gd_prim.specs.Builtin.{root_place}
use Rattle.gd_bytes.specs.Frozen.{Walk, by_guid, is_root, by_links}
use Rattle.gd_defs.specs.Ids.{id_text}
use Rattle.gd_plan.specs.PassedOn.{links_up}
use Rattle.gd_runs.specs.Shape.{walk_text}

-- a walk of links, if there are any, else of a guid
abbrev pub by_links_or : Option (List ℕ) → Walk
by_links_or None = by_guid
by_links_or (Some ks) = by_links ks

-- the walk of an object: that of the root, of at most 16 links, or of a guid
abbrev pub walk_up : List Primitive → ℕ → Walk
walk_up prims o = if o == root_place then is_root else by_links_or (links_up prims 16 o)

-- The walk of an object spells its id.
abbrev pub WalksUpSpell : Type 0
WalksUpSpell = (prims : List Primitive) (o : ℕ) → walk_text prims o (walk_up prims o) ≡ id_text prims o
