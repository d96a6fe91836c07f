-- What a difference walks and owes, by what its two sides walk and what the first one owes.
use Rattle.std.specs.Prelude.{ℕ, ◌+◌, List, length, Bool, false, not, Some, None, filter, if◌then◌else◌}
use Rattle.gd_iter_core.specs.Owed.{Walk, has_id}
use Rattle.gd_iter_core.specs.Sieved.{sieved}

-- the set lacks the place
abbrev pub lacks : {W : Type 0} → Walk W → W → ℕ → Bool
lacks less world id = not (has_id (less.set world) id)

-- the places of the first set that the other lacks; the other one is a leaf
abbrev pub without_walk : {W : Type 0} → Walk W → Walk W → Walk W
without_walk from less = record {
  set = λ world. filter (lacks less world) (from.set world);
  bound = from.bound;
  accepts = λ world m id. false;
  members = 0;
  leaves = from.leaves + 1;
}

-- where a place is produced it is owed if the other lacks it; behind it, what the first one owes and the other lacks
abbrev pub without_owed : {W : Type 0} → Walk W → W → List ℕ → ℕ → Bool → List ℕ
without_owed less world owed place produced = sieved (lacks less world) owed place (if produced then Some (lacks less world place) else None)

-- how many places may still be judged
abbrev pub left_of : List ℕ → Bool → ℕ
left_of owed produced = length owed + (if produced then 1 else 0)
