-- The laws of rising lists.
use Rattle.std.proofs.Common.{◌≡◌, ◌∙◌, ◌+◌, ◌<◌, ◌≤◌, ℕ, Bool, true, false, List, [], ◌∷◌, ◌++◌, length, refl, sym, ap, subst, arith, ◌⊎◌, ⊎_elim}
use Rattle.std.specs.Prelude.{nat_le, filter, ◌&&◌, ◌==◌, max}
use Rattle.std.proofs.lemmas.Bool.{le-leb, lt-leb, cases_lt, cases_order, cases_Bool, eqb-true, eq-eqb, ne_eqb, or_parts, false≢true}
use Rattle.std.proofs.Math.Bool.{and-false}
use Rattle.gd_iter_core.specs.Owed.{RisesFrom, ids_from, has_id, id_if}

pub filter_yes : (t : ℕ → Bool) (x : ℕ) (xs : List ℕ) → t x ≡ true → filter t (x ∷ xs) ≡ x ∷ filter t xs
filter_yes t x xs h = rw h refl

pub filter_no : (t : ℕ → Bool) (x : ℕ) (xs : List ℕ) → t x ≡ false → filter t (x ∷ xs) ≡ filter t xs
filter_no t x xs h = rw h refl

pub from_yes : (p x : ℕ) (xs : List ℕ) → p ≤ x → ids_from p (x ∷ xs) ≡ x ∷ ids_from p xs
from_yes p x xs h = filter_yes (λ id. nat_le p id) x xs (le-leb p x h)

pub from_no : (p x : ℕ) (xs : List ℕ) → x < p → ids_from p (x ∷ xs) ≡ ids_from p xs
from_no p x xs h = filter_no (λ id. nat_le p id) x xs (lt-leb p x h)

-- from a place on, and of these from a later one on
pub from_from : (p q : ℕ) (ids : List ℕ) → p ≤ q → ids_from q (ids_from p ids) ≡ ids_from q ids
from_from p q [] h = refl
from_from p q (x ∷ xs) h =
    let rest = from_from p q xs h in
    ⊎_elim
    (λ (below : x < p). ap (ids_from q) (from_no p x xs below) ∙ (rest ∙ sym (from_no q x xs (omega arith))))
    (λ (above : p ≤ x). ap (ids_from q) (from_yes p x xs above) ∙ ⊎_elim
    (λ (less : x < q). from_no q x (ids_from p xs) less ∙ (rest ∙ sym (from_no q x xs less)))
    (λ (more : q ≤ x). from_yes q x (ids_from p xs) more ∙ (ap (λ l. x ∷ l) rest ∙ sym (from_yes q x xs more)))
    (cases_lt x q))
    (cases_lt x p)

-- a filter does not mind from where on it goes
pub from_filter : (p : ℕ) (t : ℕ → Bool) (ids : List ℕ) → ids_from p (filter t ids) ≡ filter t (ids_from p ids)
from_filter p t [] = refl
from_filter p t (x ∷ xs) =
    let rest = from_filter p t xs in
    ⊎_elim
    (λ (yes : t x ≡ true). ap (ids_from p) (filter_yes t x xs yes) ∙ ⊎_elim
    (λ (less : x < p). from_no p x (filter t xs) less ∙ (rest ∙ ap (filter t) (sym (from_no p x xs less))))
    (λ (more : p ≤ x). from_yes p x (filter t xs) more ∙ (ap (λ l. x ∷ l) rest ∙ (sym (filter_yes t x (ids_from p xs) yes) ∙ ap (filter t) (sym (from_yes p x xs more)))))
    (cases_lt x p))
    (λ (no : t x ≡ false). ap (ids_from p) (filter_no t x xs no) ∙ (rest ∙ ⊎_elim
    (λ (less : x < p). ap (filter t) (sym (from_no p x xs less)))
    (λ (more : p ≤ x). sym (filter_no t x (ids_from p xs) no) ∙ ap (filter t) (sym (from_yes p x xs more)))
    (cases_lt x p)))
    (cases_Bool (t x))

-- a list that rises from a later place rises from an earlier one
pub rises_weaker : (f g : ℕ) (ids : List ℕ) → f ≤ g → RisesFrom g ids → RisesFrom f ids
rises_weaker f g [] h r = tt
rises_weaker f g (x ∷ xs) h r = let low = r.0 in (omega (arith, low, h), r.1)

-- what is kept of a rising list rises
pub rises_filter : (f : ℕ) (t : ℕ → Bool) (ids : List ℕ) → RisesFrom f ids → RisesFrom f (filter t ids)
rises_filter f t [] r = tt
rises_filter f t (x ∷ xs) r =
    let rest = rises_filter (x + 1) t xs r.1 in
    let low : f ≤ x = r.0 in
    ⊎_elim
    (λ (yes : t x ≡ true). subst (RisesFrom f) (sym (filter_yes t x xs yes)) (low, rest))
    (λ (no : t x ≡ false). subst (RisesFrom f) (sym (filter_no t x xs no)) (rises_weaker f (x + 1) (filter t xs) (omega (arith, low)) rest))
    (cases_Bool (t x))

-- all of a list that rises from a place is from there on
pub from_all : (p f : ℕ) (ids : List ℕ) → p ≤ f → RisesFrom f ids → ids_from p ids ≡ ids
from_all p f [] h r = refl
from_all p f (x ∷ xs) h r =
    let low : f ≤ x = r.0 in
    from_yes p x xs (omega (arith, low, h)) ∙ ap (λ l. x ∷ l) (from_all p (x + 1) xs (omega (arith, low, h)) r.1)

-- the part from a place on rises from there
pub rises_from : (p f : ℕ) (ids : List ℕ) → RisesFrom f ids → RisesFrom p (ids_from p ids)
rises_from p f [] r = tt
rises_from p f (x ∷ xs) r =
    ⊎_elim
    (λ (less : x < p). subst (RisesFrom p) (sym (from_no p x xs less)) (rises_from p (x + 1) xs r.1))
    (λ (more : p ≤ x).
    subst (RisesFrom p) (sym (from_yes p x xs more ∙ ap (λ l. x ∷ l) (from_all p (x + 1) xs (omega (arith, more)) r.1))) (more, r.1))
    (cases_lt x p)

-- the first of the part from a place on is there or behind it
pub first_from : (p x : ℕ) (ids xs : List ℕ) → ids_from p ids ≡ x ∷ xs → p ≤ x
first_from p x [] xs e = absurd (cc e)
first_from p x (y ∷ ys) xs e =
    ⊎_elim
    (λ (less : y < p). first_from p x ys xs (sym (from_no p y ys less) ∙ e))
    (λ (more : p ≤ y). let same : y ∷ ids_from p ys ≡ x ∷ xs = sym (from_yes p y ys more) ∙ e in let is : y ≡ x = cc same in omega (arith, more, is))
    (cases_lt y p)

-- the part is no longer than the whole
pub length-ids_from : (p : ℕ) (ids : List ℕ) → length (ids_from p ids) ≤ length ids
length-ids_from p [] = omega arith
length-ids_from p (x ∷ xs) =
    let rest = length-ids_from p xs in
    ⊎_elim
    (λ (less : x < p). omega (arith, rest, ap length (from_no p x xs less)))
    (λ (more : p ≤ x). omega (arith, rest, ap length (from_yes p x xs more)))
    (cases_lt x p)

-- what passes a test and is in the list
pub has-filter : (t : ℕ → Bool) (ids : List ℕ) (id : ℕ) → has_id (filter t ids) id ≡ (has_id ids id && t id)
has-filter t [] id = refl
has-filter t (y ∷ ys) id =
    let rest = has-filter t ys id in
    ⊎_elim
    (λ (yes : t y ≡ true). ap (λ l. has_id l id) (filter_yes t y ys yes) ∙ kept yes rest)
    (λ (no : t y ≡ false). ap (λ l. has_id l id) (filter_no t y ys no) ∙ (rest ∙ left no))
    (cases_Bool (t y))
  where
    same : (y == id) ≡ true → t id ≡ t y
    same h = ap t (sym (eqb-true y id h))

    kept : t y ≡ true → has_id (filter t ys) id ≡ (has_id ys id && t id) → has_id (y ∷ filter t ys) id ≡ (has_id (y ∷ ys) id && t id)
    kept passes rest = ⊎_elim
        (λ (here : (y == id) ≡ true). rw (here, same here, passes) refl)
        (λ (other : (y == id) ≡ false). rw other rest)
        (cases_Bool (y == id))

    left : t y ≡ false → (has_id ys id && t id) ≡ (has_id (y ∷ ys) id && t id)
    left fails = ⊎_elim
        (λ (here : (y == id) ≡ true). rw (here, same here, fails) (and-false (has_id ys id)))
        (λ (other : (y == id) ≡ false). rw other refl)
        (cases_Bool (y == id))

-- what is kept of a list is no longer than it
pub length-filter : (t : ℕ → Bool) (ids : List ℕ) → length (filter t ids) ≤ length ids
length-filter t [] = omega arith
length-filter t (x ∷ xs) =
    let rest = length-filter t xs in
    ⊎_elim
    (λ (passes : t x ≡ true). omega (arith, rest, ap length (filter_yes t x xs passes)))
    (λ (fails : t x ≡ false). omega (arith, rest, ap length (filter_no t x xs fails)))
    (cases_Bool (t x))

eq_refl : (p : ℕ) → (p == p) ≡ true
eq_refl p = eq-eqb p p refl

-- a list that rises from behind a place has it not
pub has_above : (p f : ℕ) (ids : List ℕ) → p < f → RisesFrom f ids → has_id ids p ≡ false
has_above p f [] h r = refl
has_above p f (x ∷ xs) h r =
    let low : f ≤ x = r.0 in
    let other : (x == p) ≡ false = ne_eqb x p (λ e. omega (arith, e, low, h)) in
    rw other (has_above p (x + 1) xs (omega (arith, low, h)) r.1)

-- the part of a rising list from a place on is that place, if it has it, and the part behind it
pub front_split : (p f : ℕ) (ids : List ℕ) → RisesFrom f ids → ids_from p ids ≡ id_if (has_id ids p) p ++ ids_from (p + 1) ids
front_split p f [] r = refl
front_split p f (x ∷ xs) r = ⊎_elim
    (λ (here : x ≡ p).
    let test : (x == p) ≡ true = eq-eqb x p here in
    from_yes p x xs (omega (arith, here)) ∙ (ap (λ l. x ∷ l) (from_all p (x + 1) xs (omega (arith, here)) r.1)
    ∙ rw test (ap (λ y. y ∷ xs) here ∙ ap (λ l. p ∷ l)
    (sym (from_all (p + 1) (x + 1) xs (omega (arith, here)) r.1) ∙ sym (from_no (p + 1) x xs (omega (arith, here)))))))
    (λ (apart : (x < p) ⊎ (p < x)). ⊎_elim
    (λ (less : x < p).
    let test : (x == p) ≡ false = ne_eqb x p (λ e. omega (arith, e, less)) in
    from_no p x xs less ∙ (front_split p (x + 1) xs r.1 ∙ rw test (ap (λ l. id_if (has_id xs p) p ++ l) (sym (from_no (p + 1) x xs (omega (arith, less)))))))
    (λ (more : p < x).
    let test : (x == p) ≡ false = ne_eqb x p (λ e. omega (arith, e, more)) in
    let none : has_id xs p ≡ false = has_above p (x + 1) xs (omega (arith, more)) r.1 in
    from_yes p x xs (omega (arith, more)) ∙ (ap (λ l. x ∷ l) (from_all p (x + 1) xs (omega (arith, more)) r.1)
    ∙ rw (test, none) (sym (from_yes (p + 1) x xs (omega (arith, more)) ∙ ap (λ l. x ∷ l) (from_all (p + 1) (x + 1) xs (omega (arith, more)) r.1)))))
    apart)
    (cases_order x p)

-- the first of the part from a place on says whether the list has that place
pub has_first : (p x f : ℕ) (ids xs : List ℕ) → RisesFrom f ids → ids_from p ids ≡ x ∷ xs → has_id ids p ≡ (x == p)
has_first p x f ids xs r e = ⊎_elim
    (λ (has : has_id ids p ≡ true).
    let split : id_if (has_id ids p) p ++ ids_from (p + 1) ids ≡ x ∷ xs = sym (front_split p f ids r) ∙ e in
    let same : p ∷ ids_from (p + 1) ids ≡ x ∷ xs = rw has at split in
    let is : x ≡ p = cc same in
    has ∙ sym (eq-eqb x p is))
    (λ (no : has_id ids p ≡ false).
    let split : id_if (has_id ids p) p ++ ids_from (p + 1) ids ≡ x ∷ xs = sym (front_split p f ids r) ∙ e in
    let rest : ids_from (p + 1) ids ≡ x ∷ xs = rw no at split in
    let low = first_from (p + 1) x ids xs rest in
    no ∙ sym (ne_eqb x p (λ is. omega (arith, is, low))))
    (cases_Bool (has_id ids p))

-- nothing from a place on
pub has_none : (p f : ℕ) (ids : List ℕ) → RisesFrom f ids → ids_from p ids ≡ [] → has_id ids p ≡ false
has_none p f ids r e = ⊎_elim
    (λ (has : has_id ids p ≡ true).
    let split : id_if (has_id ids p) p ++ ids_from (p + 1) ids ≡ [] = sym (front_split p f ids r) ∙ e in
    let same : p ∷ ids_from (p + 1) ids ≡ [] = rw has at split in
    absurd (cc same))
    (λ (no : has_id ids p ≡ false). no)
    (cases_Bool (has_id ids p))

-- from a place on, and of these from an earlier one on
pub from_low : (p q : ℕ) (ids : List ℕ) → q ≤ p → ids_from q (ids_from p ids) ≡ ids_from p ids
from_low p q [] h = refl
from_low p q (x ∷ xs) h = ⊎_elim
    (λ (less : x < p). ap (ids_from q) (from_no p x xs less) ∙ (from_low p q xs h ∙ sym (from_no p x xs less)))
    (λ (more : p ≤ x). ap (ids_from q) (from_yes p x xs more) ∙ (from_yes q x (ids_from p xs) (omega (arith, h, more)) ∙ (ap (λ l. x ∷ l) (from_low p q xs h) ∙ sym (from_yes p x xs more))))
    (cases_lt x p)

-- from the greater of two places on
pub from_max : (p q : ℕ) (ids : List ℕ) → ids_from (max p q) ids ≡ ids_from q (ids_from p ids)
from_max p q ids = ⊎_elim
    (λ (low : p < q). let top : max p q ≡ q = omega (arith, low) in rw top (sym (from_from p q ids (omega (arith, low)))))
    (λ (high : q ≤ p). let top : max p q ≡ p = omega (arith, high) in rw top (sym (from_low p q ids high)))
    (cases_lt p q)
