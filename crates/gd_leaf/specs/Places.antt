-- The places of a list whose primitives pass a test rise, and are no more than the primitives.
use Rattle.std.proofs.Common.{◌+◌, ◌≤◌, ℕ, suc, Bool, true, false, List, [], ◌∷◌, length, arith}
use Rattle.std.specs.Prelude.{Option, Some, None, filter_map, if◌then◌else◌}
use Rattle.std.specs.List.{enumerate_from, cons_option}
use Rattle.gd_prim.specs.declared.Primitive.{Primitive}
use Rattle.gd_prim.specs.Live.{places_where}
use Rattle.gd_iter_core.specs.Owed.{RisesFrom}
use Rattle.gd_iter_core.specs.Rising.{rises_weaker}

-- these places, where the list begins at one
abbrev places_from : (Primitive → Bool) → ℕ → List Primitive → List ℕ
places_from test place prims = filter_map (λ e. if test e.1 then Some e.0 else None) (enumerate_from place prims)

-- the place, where the test passed
abbrev found : Bool → ℕ → Option ℕ
found passes place = if passes then Some place else None

found_rises : (b : Bool) (k : ℕ) (ids : List ℕ) → RisesFrom (k + 1) ids → RisesFrom k (cons_option (found b k) ids)
found_rises true k ids r = (omega arith, r)
found_rises false k ids r = rises_weaker k (k + 1) ids (omega arith) r

rises_from_place : (t : Primitive → Bool) (k : ℕ) (prims : List Primitive) → RisesFrom k (places_from t k prims)
rises_from_place t k [] = tt
rises_from_place t k (q ∷ qs) = found_rises (t q) k (places_from t (k + 1) qs) (rises_from_place t (k + 1) qs)

pub places_rise : (t : Primitive → Bool) (prims : List Primitive) → RisesFrom 0 (places_where t prims)
places_rise t prims = rises_from_place t 0 prims

found_short : (b : Bool) (k n : ℕ) (ids : List ℕ) → length ids ≤ n → length (cons_option (found b k) ids) ≤ suc n
found_short true k n ids h = omega (arith, h)
found_short false k n ids h = omega (arith, h)

short_from : (t : Primitive → Bool) (k : ℕ) (prims : List Primitive) → length (places_from t k prims) ≤ length prims
short_from t k [] = omega arith
short_from t k (q ∷ qs) = found_short (t q) k (length qs) (places_from t (k + 1) qs) (short_from t (k + 1) qs)

pub length-places_where : (t : Primitive → Bool) (prims : List Primitive) → length (places_where t prims) ≤ length prims
length-places_where t prims = short_from t 0 prims
