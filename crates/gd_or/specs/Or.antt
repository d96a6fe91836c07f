-- What a union walks and owes, by what its members walk and owe.
use Rattle.std.specs.Prelude.{◌≡◌, ℕ, ◌+◌, ◌-◌, ◌^◌, List, [], ◌∷◌, ◌++◌, length, map, sum_by, Bool, true, false, ◌||◌, nat_lt, nat_le, ◌==◌, min, Option, Some, None, if◌then◌else◌}
use Rattle.gd_iter_core.specs.declared.turn.Checked.{Checked}
use Rattle.gd_iter_core.specs.declared.turn.Checked.TheVariants as checked
use Rattle.gd_iter_core.specs.Owed.{Walk, ids_from, has_id}
use Rattle.gd_or.specs.declared.branch.Head.{Head}
use Rattle.gd_or.specs.declared.branch.Head.TheVariants as head

-- a place entered into a rising list, once
abbrev pub insert_id : ℕ → List ℕ → List ℕ
insert_id x [] = x ∷ []
insert_id x (y ∷ ys) = if nat_lt x y then x ∷ y ∷ ys else (if x == y then y ∷ ys else y ∷ insert_id x ys)

-- the places of a list as a rising list, each once
abbrev pub sorted_set : List ℕ → List ℕ
sorted_set [] = []
sorted_set (x ∷ xs) = insert_id x (sorted_set xs)

-- the lists, one after another
abbrev pub joined : List (List ℕ) → List ℕ
joined [] = []
joined (ids ∷ lists) = ids ++ joined lists

-- the union of lists
abbrev pub union : List (List ℕ) → List ℕ
union lists = sorted_set (joined lists)

-- some list has the place
abbrev pub any_has : ℕ → List (List ℕ) → Bool
any_has id [] = false
any_has id (ids ∷ lists) = has_id ids id || any_has id lists

-- the union of the members' sets; each member is a leaf
abbrev pub or_walk : {W : Type 0} → List (Walk W) → Walk W
or_walk walks = record {
  set = λ world. union (map (λ walk. walk.set world) walks);
  bound = λ world. min (sum_by (λ walk. walk.bound world) walks) (2 ^ 32 - 1);
  accepts = λ world m id. false;
  members = 0;
  leaves = length walks;
}

-- what a branch owes from a place on: the place that its iterator gave, if it is not below, and what is owed behind it
abbrev pub part : ℕ → List ℕ → Head → List ℕ
part place owed head.Unknown = ids_from place owed
part place owed (head.At id) = if nat_le place id then id ∷ ids_from (id + 1) owed else ids_from place owed
part place owed head.Ended = []

-- the head says what a branch owes first from the place on
abbrev pub is_known : ℕ → Head → Bool
is_known place head.Unknown = false
is_known place (head.At id) = nat_le place id
is_known place head.Ended = true

-- the place that a head says, from a place on
abbrev pub head_from : ℕ → Head → Option ℕ
head_from place head.Unknown = None
head_from place (head.At id) = if nat_le place id then Some id else None
head_from place head.Ended = None

-- the lesser of two, where they are there
abbrev pub lesser : Option ℕ → Option ℕ → Option ℕ
lesser None b = b
lesser (Some a) None = Some a
lesser (Some a) (Some b) = Some (min a b)

-- the least of the heads
abbrev pub least : ℕ → List Head → Option ℕ
least place [] = None
least place (h ∷ hs) = lesser (head_from place h) (least place hs)

-- what asking the members gives
abbrev pub AnyGives : List (List ℕ) → ℕ → Checked → Type 0
AnyGives sets id checked.Yes = any_has id sets ≡ true
AnyGives sets id checked.No = any_has id sets ≡ false
AnyGives sets id checked.Unfinished = Unit {0}
