-- Lists in a table by node: the table has the number of each node's list, and no list is of two nodes.
use Rattle.std.specs.Prelude.{◌≡◌, ◌<◌, ◌≤◌, ℕ, List, ◌∷◌, map, slice_index_or}
use Rattle.gd_postings.specs.Postings.{Places}
use Rattle.gd_lists.specs.Lists.{nothing}

-- the list with a number, counted from 1; none has the number 0
abbrev pub list_numbered : List Places → ℕ → Places
list_numbered lists number = slice_index_or (nothing ∷ lists) number nothing

-- the lists by node
abbrev pub by_node : List Places → List ℕ → List Places
by_node lists numbers = map (list_numbered lists) numbers

-- the number at a node, 0 behind the table
abbrev pub number_at : List ℕ → ℕ → ℕ
number_at numbers node = slice_index_or numbers node 0

-- each number is 0 or one of so many lists, and two nodes have no list in common
pub record IsTable (numbers : List ℕ) (count : ℕ) : Type 0 where
  pub within : (i : ℕ) → number_at numbers i ≤ count
  pub apart : (i j : ℕ) → 0 < number_at numbers i → number_at numbers i ≡ number_at numbers j → i ≡ j
