-- The places that a test finds are below the end of the list.
use Rattle.std.proofs.Common.{◌≡◌, ℕ, zero, suc, ◌+◌, ◌<◌, ◌≤◌, Bool, true, false, List, [], ◌∷◌, length, take, refl, ◌∙◌, sym, subst, arith}
use Rattle.std.specs.Prelude.{Option, None, Some, slice_get, IfSome, if◌then◌else◌}
use Rattle.std.specs.List.{last_or}
use Rattle.gd_prim.specs.declared.Batch.{Batch}
use Rattle.gd_prim.specs.declared.End.{End}
use Rattle.gd_prim.specs.declared.Primitive.{Primitive}
use Rattle.gd_prim.specs.End.{end_of, places_with}
use Rattle.gd_prim.specs.History.{prims_of}
use Rattle.gd_prim.specs.Live.{refers, places_where, successor}
use Rattle.gd_postings.specs.Postings.{IsAbove}
use Rattle.std.specs.List.{cons_option, list_any}
use Rattle.gd_store.specs.Scan.{places_from}
use Rattle.gd_store.proofs.Entered.{above_where, below_where}
use Rattle.gd_store.proofs.History.{front_of_all}
use Rattle.gd_store.proofs.Rising.{fewer_below}
use Rattle.gd_store.proofs.Places.{first_within}
use Rattle.gd_store.proofs.Short.{none_in_front}

-- one of a list is less than what is above the list
get_less : (ids : List ℕ) (m k x : ℕ) → IsAbove ids m → slice_get ids k ≡ Some x → x < m
get_less [] m k x above is = cc
get_less (y ∷ ys) m zero x above is =
    let same : y ≡ x = cc in
    let less : y < m = above 0 (omega arith) in
    omega (arith, less, same)
get_less (y ∷ ys) m (suc k) x above is = get_less ys m k x (λ i there. above (suc i) (omega (arith, there))) is

-- so is the last
last_less : (o : Option ℕ) (ids : List ℕ) (m x : ℕ) → (o ≡ Some x → x < m) → IsAbove ids m → last_or o ids ≡ Some x → x < m
last_less o [] m x first above is = first is
last_less o (y ∷ ys) m x first above is = last_less (Some y) ys m x here (λ i there. above (suc i) (omega (arith, there))) is
  where
    here : Some y ≡ Some x → x < m
    here found =
        let same : y ≡ x = cc in
        let less : y < m = above 0 (omega arith) in
        omega (arith, less, same)

no_first : (x m : ℕ) → None ≡ Some x → x < m
no_first x m is = cc

-- where there is one it is less
if_some : (o : Option ℕ) (m : ℕ) → ((x : ℕ) → o ≡ Some x → x < m) → IfSome o (λ id. id < m)
if_some None m all = tt
if_some (Some x) m all = all x refl

-- the k-th place that passes
pub place_within : (t : Primitive → Bool) (prims : List Primitive) (k x : ℕ) → slice_get (places_where t prims) k ≡ Some x → x < length prims
place_within t prims k x is = get_less (places_where t prims) (length prims) k x (above_where t prims (places_where t prims) (length prims) refl refl) is

pub kth_within : (t : Primitive → Bool) (prims : List Primitive) (k : ℕ) (o : Option ℕ) → o ≡ slice_get (places_where t prims) k → IfSome o (λ id. id < length prims)
kth_within t prims k o is = if_some o (length prims) (λ x some. place_within t prims k x (sym is ∙ some))

-- the last
pub last_within : (t : Primitive → Bool) (prims : List Primitive) (o : Option ℕ) → o ≡ last_or None (places_where t prims) → IfSome o (λ id. id < length prims)
last_within t prims o is =
    if_some o (length prims) (λ x some. last_less None (places_where t prims) (length prims) x (no_first x (length prims)) (above_where t prims (places_where t prims) (length prims) refl refl) (sym is ∙ some))

-- the successor of a place
pub successor_within : (prims : List Primitive) (place : ℕ) (o : Option ℕ) → o ≡ successor prims place → IfSome o (λ id. id < length prims)
successor_within prims place o is = if_some o (length prims) less
  where
    less : (x : ℕ) → o ≡ Some x → x < length prims
    less x some =
        let within : x < 0 + length prims = first_within (λ p. refers p.previous place) 0 prims x (sym is ∙ some) in
        omega (arith, within)

-- ---- a front of the list

-- no more pass there
front_fewer : (t : Primitive → Bool) (n : ℕ) (prims : List Primitive) → length (places_where t (take n prims)) ≤ length (places_where t prims)
front_fewer t n prims = subst (λ ids. length ids ≤ length (places_where t prims)) (below_where t n prims (places_where t prims) refl) (fewer_below (places_where t prims) n)

kth_of : (b : Bool) (place k x : ℕ) (front all : List ℕ) → ((j : ℕ) → j < length front → slice_get all j ≡ Some x → slice_get front j ≡ Some x)
    → k < length (cons_option (if b then Some place else None) front) → slice_get (cons_option (if b then Some place else None) all) k ≡ Some x
    → slice_get (cons_option (if b then Some place else None) front) k ≡ Some x
kth_of true place zero x front all rest within is = is
kth_of true place (suc k) x front all rest within is = rest k (omega (arith, within)) is
kth_of false place k x front all rest within is = rest k within is

kth_from : (t : Primitive → Bool) (place n : ℕ) (prims : List Primitive) (x k : ℕ) → k < length (places_from t place (take n prims)) → slice_get (places_from t place prims) k ≡ Some x
    → slice_get (places_from t place (take n prims)) k ≡ Some x
kth_from t place zero prims x k within is = absurd (omega (arith, within))
kth_from t place (suc n) [] x k within is = is
kth_from t place (suc n) (p ∷ prims) x k within is =
    kth_of (t p) place k x (places_from t (place + 1) (take n prims)) (places_from t (place + 1) prims) (kth_from t (place + 1) n prims x) within is

-- what has a place in a front has one in the list
pub within_all : (t : Primitive → Bool) (n : ℕ) (prims front : List Primitive) (k : ℕ) → take n prims ≡ front → k < length (places_where t front) → k < length (places_where t prims)
within_all t n prims front k is within =
    let fewer : length (places_where t front) ≤ length (places_where t prims) = subst (λ xs. length (places_where t xs) ≤ length (places_where t prims)) is (front_fewer t n prims) in
    omega (arith, fewer, within)

-- and the first ones of all are those there
pub front_kth : (t : Primitive → Bool) (n : ℕ) (prims front : List Primitive) (k x : ℕ) → take n prims ≡ front → k < length (places_where t front) → slice_get (places_where t prims) k ≡ Some x
    → slice_get (places_where t front) k ≡ Some x
front_kth t n prims front k x is within found =
    subst (λ xs. slice_get (places_where t xs) k ≡ Some x) is (kth_from t 0 n prims x k (subst (λ xs. k < length (places_where t xs)) (sym is) within) found)

-- a node is at an end of no more primitives below a dateline than of all
pub links_fewer : (end : End) (node n : ℕ) (bs : List Batch) → length (places_with end node (prims_of (take n bs))) ≤ length (places_with end node (prims_of bs))
links_fewer end node n bs =
    subst (λ (prims : List Primitive). length (places_with end node prims) ≤ length (places_with end node (prims_of bs)))
    (front_of_all bs n)
    (front_fewer (λ p. refers (end_of end p) node) (length (prims_of (take n bs))) (prims_of bs))

-- what no primitive of all has, none below a dateline has
pub none_below : (test : Primitive → Bool) (n : ℕ) (bs : List Batch) → list_any test (prims_of bs) ≡ false → list_any test (prims_of (take n bs)) ≡ false
none_below test n bs none =
    subst (λ (prims : List Primitive). list_any test prims ≡ false) (front_of_all bs n) (none_in_front test (length (prims_of (take n bs))) (prims_of bs) none)
