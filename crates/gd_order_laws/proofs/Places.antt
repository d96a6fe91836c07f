-- The places whose primitive passes a test rise, and are places of the list.
use Rattle.std.proofs.Common.{◌≡◌, inl, inr, ℕ, ◌+◌, ◌<◌, ◌≤◌, List, [], ◌∷◌, Bool, true, false, cond, None, Some, length, ap, arith}
use Rattle.std.specs.Prelude.{filter_map, if◌then◌else◌, ◌==◌, ◌&&◌}
use Rattle.std.specs.List.{enumerate_from, cons_option}
use Rattle.std.specs.Ordering.{nat_cmp}
use Rattle.std.specs.declared.cmp.Ordering.TheVariants.{Less, Equal, Greater}
use Rattle.std.proofs.lemmas.Bool.{lt-ltb}
use Rattle.gd_prim.specs.declared.Primitive.{Primitive}
use Rattle.gd_prim.specs.Live.{live_where, places_where, is_live}
use Rattle.gd_order_laws.specs.Window.{In, Rising}
use Rattle.gd_order_laws.proofs.Sorted.{Each-from_members}

pub nat_less : (m n : ℕ) → m < n → nat_cmp m n ≡ Less
nat_less m n less = ap (λ b. cond b Less (cond (m == n) Equal Greater)) (lt-ltb m n less)

module _ {X : Type 0} (test : ℕ × X → Bool) where
  abbrev places : ℕ → List X → List ℕ
  places n xs = filter_map (λ e. if test e then Some e.0 else None) (enumerate_from n xs)

  pub In-places : (n : ℕ) (xs : List X) (p : ℕ) → In p (places n xs) → (n ≤ p) × (p < n + length xs)
  In-places n [] p here = absurd here
  In-places n (x ∷ xs) p here = by (test (n, x)) here (In-places (n + 1) xs p)
    where
      by : (b : Bool) → In p (cons_option (if b then Some n else None) (places (n + 1) xs)) → (In p (places (n + 1) xs) → (n + 1 ≤ p) × (p < n + 1 + length xs)) → (n ≤ p) × (p < n + length (x ∷ xs))
      by true (inl same) rest = omega (arith, same)
      by true (inr there) rest = let both = rest there in omega (arith, both)
      by false there rest = let both = rest there in omega (arith, both)

  pub Rising-places : (n : ℕ) (xs : List X) → Rising nat_cmp (places n xs)
  Rising-places n [] = tt
  Rising-places n (x ∷ xs) = by (test (n, x)) (Rising-places (n + 1) xs)
    where
      by : (b : Bool) → Rising nat_cmp (places (n + 1) xs) → Rising nat_cmp (cons_option (if b then Some n else None) (places (n + 1) xs))
      by true rest = (Each-from_members (λ p. nat_cmp n p ≡ Less) (places (n + 1) xs) (λ p there. let both = In-places (n + 1) xs p there in nat_less n p (omega (arith, both))), rest)
      by false rest = rest

-- live places are places of the list
pub live_inside : (test : Primitive → Bool) (prims : List Primitive) (p : ℕ) → In p (live_where test prims) → p < length prims
live_inside test prims p here = let both = In-places (λ e. test e.1 && is_live prims e.0) 0 prims p here in omega (arith, both)

pub live_rise : (test : Primitive → Bool) (prims : List Primitive) → Rising nat_cmp (live_where test prims)
live_rise test prims = Rising-places (λ e. test e.1 && is_live prims e.0) 0 prims

pub places_inside : (test : Primitive → Bool) (prims : List Primitive) (p : ℕ) → In p (places_where test prims) → p < length prims
places_inside test prims p here = let both = In-places (λ e. test e.1) 0 prims p here in omega (arith, both)

pub places_rise : (test : Primitive → Bool) (prims : List Primitive) → Rising nat_cmp (places_where test prims)
places_rise test prims = Rising-places (λ e. test e.1) 0 prims
