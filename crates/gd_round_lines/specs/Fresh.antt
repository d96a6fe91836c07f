-- Lines of which a history says nothing yet.
use Rattle.std.specs.Prelude.{ℕ, ◌≤◌, Option}
use Rattle.gd_runs.specs.Legal.{Entry, History}
use Rattle.gd_runs.specs.Side.{IsFresh}

-- no entry and no group in doubt is of line n or a later one
abbrev pub IsFreshFrom : ℕ → History → Option Entry → Type 0
IsFreshFrom n h doubt = (k : ℕ) → n ≤ k → IsFresh h doubt k
