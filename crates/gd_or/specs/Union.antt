-- Unions rise.
use Rattle.std.proofs.Common.{◌≡◌, ◌+◌, ◌<◌, ◌≤◌, ℕ, List, [], ◌∷◌, refl, sym, subst, arith, ◌⊎◌, ⊎_elim}
use Rattle.std.proofs.lemmas.Bool.{cases_order, lt-ltb, le-ltb, eq-eqb, ne_eqb}
use Rattle.gd_iter_core.specs.Owed.{RisesFrom}
use Rattle.gd_or.specs.Or.{insert_id, sorted_set, joined, union}

pub insert_less : (x y : ℕ) (ys : List ℕ) → x < y → insert_id x (y ∷ ys) ≡ x ∷ y ∷ ys
insert_less x y ys h = rw (lt-ltb x y h) refl

pub insert_same : (x y : ℕ) (ys : List ℕ) → x ≡ y → insert_id x (y ∷ ys) ≡ y ∷ ys
insert_same x y ys h = rw (le-ltb x y (omega (arith, h)), eq-eqb x y h) refl

pub insert_more : (x y : ℕ) (ys : List ℕ) → y < x → insert_id x (y ∷ ys) ≡ y ∷ insert_id x ys
insert_more x y ys h = rw (le-ltb x y (omega (arith, h)), ne_eqb x y (λ e. omega (arith, e, h))) refl

-- entering keeps a list rising
pub insert_rises : (f x : ℕ) (ys : List ℕ) → f ≤ x → RisesFrom f ys → RisesFrom f (insert_id x ys)
insert_rises f x [] h r = (h, tt)
insert_rises f x (y ∷ ys) h r =
    let low : f ≤ y = r.0 in
    ⊎_elim
    (λ (same : x ≡ y). subst (RisesFrom f) (sym (insert_same x y ys same)) r)
    (λ (apart : (x < y) ⊎ (y < x)). ⊎_elim
    (λ (less : x < y). let next : x + 1 ≤ y = omega (arith, less) in subst (RisesFrom f) (sym (insert_less x y ys less)) (h, (next, r.1)))
    (λ (more : y < x). subst (RisesFrom f) (sym (insert_more x y ys more)) (low, insert_rises (y + 1) x ys (omega (arith, more)) r.1))
    apart)
    (cases_order x y)

sorted_rises : (xs : List ℕ) → RisesFrom 0 (sorted_set xs)
sorted_rises [] = tt
sorted_rises (x ∷ xs) = insert_rises 0 x (sorted_set xs) (omega arith) (sorted_rises xs)

pub union_rises : (ls : List (List ℕ)) → RisesFrom 0 (union ls)
union_rises ls = sorted_rises (joined ls)
