-- Frozen readings that fit have a text.
use Rattle.std.specs.Prelude.{◌≡◌, ◌≤◌, List, length, true}
use Rattle.std.specs.List.{list_all}
use Rattle.gd_prim.specs.Limits.{max_prims, max_requests}
use Rattle.gd_prim.specs.declared.Primitive.{Primitive}
use Rattle.gd_defs.specs.Asked.{Asked}
use Rattle.gd_bytes.specs.Frozen.{Body, scanning, building, printing, Frozen, Fits, max_number, after_in_bounds, walk_in_bounds}
use Rattle.gd_runs.specs.Owed.{MembersOf}
use Rattle.gd_runs.specs.Fitting.{fits}

-- each iterator has one member
abbrev pub one_member : MembersOf
one_member prims hop t = 1

-- the weights of a body, the places that it printed and its walks lie within the bounds of texts
abbrev pub NumbersFit : Body → Type 0
NumbersFit (scanning s) = s.weight ≤ max_number
NumbersFit (building w ts s) = (w ≤ max_number) × (s.weight ≤ max_number)
NumbersFit (printing n ts ws) = (n ≤ max_number) × (list_all walk_in_bounds ws ≡ true)

-- ---- laws

-- A frozen reading that fits, of few sort keys and a limit within its bounds, lies within the bounds of texts.
abbrev pub FittingAreSpelled : Type 0
FittingAreSpelled = (prims : List Primitive) (q : Asked) (f : Frozen) → length prims ≤ max_prims → length q.sort ≤ 4 → q.limit ≤ 1000 → f.dateline ≤ max_requests → after_in_bounds f.after ≡ true → NumbersFit f.body
    → fits prims one_member q f ≡ true → Fits f
