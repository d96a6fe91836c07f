-- The left ends of primitives at rising places, and whether they rise.
use Rattle.std.specs.Prelude.{ℕ, ◌<◌, ◌≤◌, List, [], ◌∷◌, filter_map, slice_index_or, Bool, true, ◌&&◌, nat_le, Option, Some, if◌then◌else◌, IsTrue}
use Rattle.gd_prim.specs.declared.Primitive.{Primitive}
use Rattle.gd_prim.specs.declared.End.TheVariants.{Left, Right, Typ}
use Rattle.gd_prim.specs.End.{end_of, places_with}
use Rattle.gd_prim.specs.Live.{end_at}
use Rattle.gd_store.specs.Valued.{places_of_number}
use Rattle.gd_store.specs.declared.lefts.Lefts.{Lefts}

-- the left ends of the primitives at places, of those that have one
abbrev pub lefts_at : List Primitive → List ℕ → List ℕ
lefts_at prims places = filter_map (end_at (end_of Left) prims) places

-- none is less than the one before it, nor the first than this
abbrev pub rises_from : ℕ → List ℕ → Bool
rises_from least [] = true
rises_from least (x ∷ xs) = nat_le least x && rises_from x xs

-- the left ends at places rise
abbrev pub LeftsRise : List Primitive → List ℕ → Type 0
LeftsRise prims places = IsTrue (rises_from 0 (lefts_at prims places))

-- ---- what the index keeps of them

-- the last of them, or else this
abbrev pub last_from : ℕ → List ℕ → ℕ
last_from least [] = least
last_from least (x ∷ xs) = last_from x xs

-- they rise, and none is above the front
pub record RisesTo (front : ℕ) (lefts : List ℕ) : Type 0 where
  pub rises : IsTrue (rises_from 0 lefts)
  pub last : last_from 0 lefts ≤ front

-- the front where none is known
abbrev pub no_front : ℕ
no_front = 4_294_967_295

-- the front with a number, 0 behind the table
abbrev pub front_of : List ℕ → ℕ → ℕ
front_of fronts n = slice_index_or fronts n 0

-- the front behind one left end more: that one, unless it is less
abbrev pub front_behind : ℕ → ℕ → ℕ
front_behind front left = if nat_le front left then left else no_front

-- so where the test holds, and a left end is there
abbrev pub front_with : Bool → Option ℕ → ℕ → ℕ
front_with true (Some left) front = front_behind front left
front_with _ _ front = front

-- of numbered lists of places: where the front of a list is known, the left ends at its places rise to it
abbrev pub AreFronts : (ℕ → List Primitive → List ℕ) → List ℕ → List Primitive → Type 0
AreFronts places fronts prims = (n : ℕ) → front_of fronts n < no_front → RisesTo (front_of fronts n) (lefts_at prims (places n prims))

-- these are the fronts of the places with each node at the right end, with each typ, and with each value
pub record AreLefts (lefts : Lefts) (prims : List Primitive) : Type 0 where
  pub right : AreFronts (places_with Right) lefts.right prims
  pub typ : AreFronts (places_with Typ) lefts.typ prims
  pub value : AreFronts places_of_number lefts.value prims
