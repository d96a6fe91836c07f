-- The places that a scan of a list finds.
use Rattle.std.specs.Prelude.{ℕ, List, Bool, Some, None, if◌then◌else◌, filter_map}
use Rattle.std.specs.List.{enumerate_from}
use Rattle.gd_prim.specs.declared.Primitive.{Primitive}

-- the places whose primitive passes the test, where the list begins at this place
abbrev pub places_from : (Primitive → Bool) → ℕ → List Primitive → List ℕ
places_from test place prims = filter_map (λ e. if test e.1 then Some e.0 else None) (enumerate_from place prims)
