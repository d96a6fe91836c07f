-- What an iterator walks, what it owes, and what its calls give of that.
use Rattle.std.specs.Prelude.{◌≡◌, ℕ, ◌+◌, ◌-◌, ◌^◌, ◌<◌, ◌≤◌, List, [], ◌∷◌, ◌++◌, Bool, true, false, ◌==◌, nat_le, nat_lt, Option, Some, None, filter, if◌then◌else◌}
use Rattle.std.specs.List.{list_any}
use Rattle.std.specs.Option.{option_map_or}
use Rattle.gd_iter_core.specs.declared.turn.Turn.{Turn}
use Rattle.gd_iter_core.specs.declared.turn.Turn.TheVariants as turn
use Rattle.gd_iter_core.specs.declared.turn.Checked.{Checked}
use Rattle.gd_iter_core.specs.declared.turn.Checked.TheVariants as checked
use Rattle.gd_iter_core.specs.declared.turn.FrozenIter.{FrozenIter}

-- what an iterator walks in each world: its set as a rising list, a bound on how many these are, and whether its members
-- from this number on have a place; only an intersection has members. A leaf is an iterator that is made of no others
pub record Walk (W : Type 0) : Type 0 where
  pub set : W → List ℕ
  pub bound : W → ℕ
  pub accepts : W → ℕ → ℕ → Bool
  pub members : ℕ
  pub leaves : ℕ

-- the list rises, and all of it is at least `from`
abbrev pub RisesFrom : ℕ → List ℕ → Type 0
RisesFrom from [] = Unit {0}
RisesFrom from (id ∷ ids) = (from ≤ id) × RisesFrom (id + 1) ids

-- the places of a list that are at least `from`
abbrev pub ids_from : ℕ → List ℕ → List ℕ
ids_from from ids = filter (λ id. nat_le from id) ids

-- the list has this place
abbrev pub has_id : List ℕ → ℕ → Bool
has_id ids id = list_any (λ x. x == id) ids

-- the place, if the test holds
abbrev pub id_if : Bool → ℕ → List ℕ
id_if holds id = if holds then id ∷ [] else []

-- ---- what the calls give

-- `next` gives the first owed member, which is then no longer owed. Done: none is owed. Unfinished: the same are owed
abbrev pub NextGives : List ℕ → Turn → List ℕ → Type 0
NextGives old (turn.Found id) new = old ≡ id ∷ new
NextGives old turn.Done new = (old ≡ []) × (new ≡ [])
NextGives old turn.Unfinished new = new ≡ old

-- `find` gives the first owed member that is at least `from`, and what is below is no longer owed. Done: there is none,
-- and nothing is owed. Unfinished: only members below some place up to `from` are no longer owed
abbrev pub FindGives : ℕ → List ℕ → Turn → List ℕ → Type 0
FindGives from old (turn.Found id) new = ids_from from old ≡ id ∷ new
FindGives from old turn.Done new = (ids_from from old ≡ []) × (new ≡ [])
FindGives from old turn.Unfinished new = (p : ℕ) × ((p ≤ from) × (new ≡ ids_from p old))

-- `check` says whether the set has the place
abbrev pub CheckGives : List ℕ → ℕ → Checked → Type 0
CheckGives set id checked.Yes = has_id set id ≡ true
CheckGives set id checked.No = has_id set id ≡ false
CheckGives set id checked.Unfinished = Unit {0}

-- behind what is found there is a further place
abbrev pub IsLow : Turn → Type 0
IsLow (turn.Found id) = id < 2 ^ 32 - 1
IsLow turn.Done = Unit {0}
IsLow turn.Unfinished = Unit {0}

-- ---- steps

-- unfinished only where the steps of the call reach its budget
abbrev pub Reaches : ℕ → ℕ → Turn → ℕ → Type 0
Reaches before budget turn.Unfinished now = before + budget ≤ now
Reaches before budget (turn.Found id) now = Unit {0}
Reaches before budget turn.Done now = Unit {0}

abbrev pub CheckReaches : ℕ → ℕ → Checked → ℕ → Type 0
CheckReaches before budget checked.Unfinished now = before + budget ≤ now
CheckReaches before budget checked.Yes now = Unit {0}
CheckReaches before budget checked.No now = Unit {0}

-- ---- positions

-- a number of members that accept a place is below the number of members
abbrev pub is_position : ℕ → FrozenIter → Bool
is_position members at = option_map_or (λ m. nat_lt m members) at.accepted true

-- what is owed at a position: the members from the place on; where a number of members accept the place, it counts if the
-- others have it
abbrev pub owed_from : {W : Type 0} → Walk W → W → ℕ → Option ℕ → List ℕ
owed_from walk world place None = ids_from place (walk.set world)
owed_from walk world place (Some m) = id_if (walk.accepts world m place) place ++ ids_from (place + 1) (walk.set world)

abbrev pub owed_at : {W : Type 0} → Walk W → W → FrozenIter → List ℕ
owed_at walk world at = owed_from walk world at.place at.accepted

-- what is owed is what the position says
abbrev pub IsAt : {W : Type 0} → Walk W → W → FrozenIter → List ℕ → Type 0
IsAt walk world at owed = owed ≡ owed_at walk world at
