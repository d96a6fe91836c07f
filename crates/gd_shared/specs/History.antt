-- The history of batches, in groups, and what contracts see of a front of it.
use Rattle.std.specs.Prelude.{ℕ, ◌≡◌, ◌==◌, true, List, [], ◌∷◌, ◌++◌, length, MatchBool}
use Rattle.gd_prim.specs.declared.Batch.{Batch}
use Rattle.logbook.specs.Pages.{Cell, Step, View, Book, Named}

-- a front of a history: which history, and the list with which that begins
pub record FrontValue : Type 0 where
  pub history : Book
  pub list : List Batch

-- the batches of groups, in order
abbrev pub batches_of : List (List Batch) → List Batch
batches_of [] = []
batches_of (group ∷ groups) = group ++ batches_of groups

-- of the two words of a history the first counts its groups, and the second is 0
abbrev pub CountsGroups : List Cell → List (List Batch) → Type 0
CountsGroups cells groups = cells ≡ (length groups, true) ∷ (0, true) ∷ []

-- the word that counts the groups of a history
abbrev pub counter_of : Book → Named
counter_of history = record { tracked = true; key = 0; book = history }

-- where the counter was as expected, the group stands behind all groups that were seen
abbrev pub Adds : Step (List Batch) → View (List Batch) ℕ → ℕ → View (List Batch) ℕ → Type 0
Adds step before found after = MatchBool (found == step.old) (after.0 ≡ before.0 ++ step.ask ∷ []) (Unit {0})
