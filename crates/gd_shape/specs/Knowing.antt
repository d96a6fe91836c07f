-- Ids of objects of a list of primitives, known by the walks that tell them.
use Rattle.std.specs.Prelude.{◌≡◌, ◌≤◌, ℕ, List, [], ◌∷◌, length, true, Option, Some, None, is_some}
use Rattle.std.specs.Option.{ForSome}
use Rattle.std.specs.Ordering.{nat_cmp}
use Rattle.std.specs.Map.{lookup}
use Rattle.std.specs.BTreeMap.{is_at}
use Rattle.gd_prim.specs.declared.Primitive.{Primitive}
use Rattle.gd_prim.specs.Limits.{max_prims}
use Rattle.gd_bytes.specs.Frozen.{Walk, walk_in_bounds}
use Rattle.gd_defs.specs.Ids.{id_text}
use Rattle.gd_frozen.specs.Meaning.{walk_of}
use Rattle.gd_frozen.specs.declared.frozen.Walk.{Walk as WalkAt}
use Rattle.gd_left_laws.specs.Left.{ids_left}
use Rattle.gd_runs.specs.Fitting.{walk_fits}
use Rattle.gd_runs.specs.Shape.{walk_text}

-- a walk tells the id of an object: it spells it, fits, and lies within the bounds of texts
pub record TellsId (prims : List Primitive) (object : ℕ) (w : Walk) : Type 0 where
  pub spells : walk_text prims object w ≡ id_text prims object
  pub fits : walk_fits prims w ≡ true
  pub bounds : length prims ≤ max_prims → walk_in_bounds w ≡ true

-- the walk of an object, if it is known
abbrev pub known_at : List (ℕ × WalkAt) → ℕ → Option WalkAt
known_at ids object = lookup (is_at (nat_cmp object)) ids

-- what is known tells the ids of the objects
abbrev pub IsKnownOf : List Primitive → List (ℕ × WalkAt) → Type 0
IsKnownOf prims ids = (object : ℕ) → ForSome (known_at ids object) (λ walk. TellsId prims object (walk_of walk))

-- how many of objects have no id among these, each as often as it stands there
abbrev pub unknown_of : List (ℕ × WalkAt) → List ℕ → ℕ
unknown_of ids os = ids_left (λ o. is_some (known_at ids o)) os

-- a walk that is known in front of others, or none at all
abbrev pub front_found : Option WalkAt → List Walk → List Walk
front_found None ws = []
front_found (Some walk) ws = walk_of walk ∷ ws

-- the walks of objects, one after another, up to the first that is not known
abbrev pub walks_found : List (ℕ × WalkAt) → List ℕ → List Walk
walks_found ids [] = []
walks_found ids (o ∷ os) = front_found (known_at ids o) (walks_found ids os)
