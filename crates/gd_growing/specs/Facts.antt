-- Where the objects of a fact are found.
use Rattle.std.specs.Prelude.{◌≡◌, ℕ, List, length, filter_map}
use Rattle.std.specs.List.{range_with_len}
use Rattle.gd_prim.specs.History.{prims_of}
use Rattle.gd_defs.specs.Property.{Property}
use Rattle.gd_defs.specs.Write.Parts.{Target}
use Rattle.gd_growing.specs.State.{State, so_far}
use Rattle.gd_growing.specs.Scan.{holder_at}

-- the links at these places give the same objects of the fact as all places below the dateline
abbrev pub Holds : State → Property → Target → List ℕ → Type 0
Holds s p t links = filter_map (holder_at (so_far s) p t) links ≡ filter_map (holder_at (so_far s) p t) (range_with_len 0 (length (prims_of s.batches)))
