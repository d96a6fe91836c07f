-- The first place of a rising list from one on.
use Rattle.std.proofs.Common.{◌≡◌, ◌∙◌, ◌+◌, ◌<◌, ◌≤◌, ℕ, zero, suc, false, List, [], ◌∷◌, refl, sym, ap, arith, ⊎_elim}
use Rattle.std.specs.Prelude.{Some, None, nat_lt, ◌==◌}
use Rattle.std.specs.List.{range_with_len}
use Rattle.std.proofs.lemmas.Bool.{cases_lt, lt-ltb, le-ltb}
use Rattle.gd_postings.specs.Postings.{ids_below, first_from}
use Rattle.gd_iter_core.specs.Owed.{RisesFrom, ids_from, has_id}
use Rattle.gd_iter_core.specs.Rising.{from_yes, from_no, from_all, filter_yes, filter_no, has_first, has_none}

first_low : (p y : ℕ) (ys : List ℕ) → y < p → first_from p (y ∷ ys) ≡ first_from p ys
first_low p y ys less = rw (lt-ltb y p less) refl

first_high : (p y : ℕ) (ys : List ℕ) → p ≤ y → first_from p (y ∷ ys) ≡ Some y
first_high p y ys more = rw (le-ltb y p more) refl

-- it begins the part from there on, which goes on behind it
pub first_is : (p f x : ℕ) (ids : List ℕ) → RisesFrom f ids → Some x ≡ first_from p ids → (p ≤ x) × (ids_from p ids ≡ x ∷ ids_from (x + 1) ids)
first_is p f x [] r e = absurd (cc e)
first_is p f x (y ∷ ys) r e = ⊎_elim
    (λ (less : y < p).
    let rest = first_is p (y + 1) x ys r.1 (e ∙ first_low p y ys less) in
    let low = rest.0 in
    (low, from_no p y ys less ∙ (rest.1 ∙ ap (λ l. x ∷ l) (sym (from_no (x + 1) y ys (omega (arith, less, low)))))))
    (λ (more : p ≤ y).
    let same : Some x ≡ Some y = e ∙ first_high p y ys more in
    let is : x ≡ y = cc same in (
      omega (arith, is, more),
      from_yes p y ys more ∙ (ap (λ l. y ∷ l) (from_all p (y + 1) ys (omega (arith, more)) r.1)
          ∙ (ap (λ z. z ∷ ys) (sym is) ∙ ap (λ l. x ∷ l) (sym (from_no (x + 1) y ys (omega (arith, is)) ∙ from_all (x + 1) (y + 1) ys (omega (arith, is)) r.1)))),
    ))
    (cases_lt y p)

-- where there is none, the part is empty
pub none_is : (p : ℕ) (ids : List ℕ) → None ≡ first_from p ids → ids_from p ids ≡ []
none_is p [] e = refl
none_is p (y ∷ ys) e = ⊎_elim
    (λ (less : y < p). from_no p y ys less ∙ none_is p ys (e ∙ first_low p y ys less))
    (λ (more : p ≤ y). let same : None ≡ Some y = e ∙ first_high p y ys more in absurd (cc same))
    (cases_lt y p)

-- of all places below an end it is the one itself
pub first_all : (a n from : ℕ) → a ≤ from → from < a + n → first_from from (range_with_len a n) ≡ Some from
first_all a zero from low less = absurd (omega (arith, low, less))
first_all a (suc n) from low less = ⊎_elim
    (λ (before : a < from). first_low from a (range_with_len (a + 1) n) before ∙ first_all (a + 1) n from (omega (arith, before)) (omega (arith, less)))
    (λ (here : from ≤ a). first_high from a (range_with_len (a + 1) n) here ∙ ap Some (let same : a ≡ from = omega (arith, low, here) in same))
    (cases_lt a from)

pub none_all : (a n from : ℕ) → a + n ≤ from → first_from from (range_with_len a n) ≡ None
none_all a zero from past = refl
none_all a (suc n) from past = first_low from a (range_with_len (a + 1) n) (omega (arith, past)) ∙ none_all (a + 1) n from (omega (arith, past))

-- those behind a place that is not below an end are none of those below it
none_below : (p end f : ℕ) (ids : List ℕ) → end ≤ f → RisesFrom f ids → first_from p (ids_below end ids) ≡ None
none_below p end f [] h r = refl
none_below p end f (x ∷ xs) h r =
    let low : f ≤ x = r.0 in
    ap (first_from p) (filter_no (λ id. nat_lt id end) x xs (le-ltb x end (omega (arith, low, h)))) ∙ none_below p end (x + 1) xs (omega (arith, low, h)) r.1

-- of the places below an end it is the first of all, if that is below the end
pub first_below : (p end f x : ℕ) (ids : List ℕ) → RisesFrom f ids → Some x ≡ first_from p ids → x < end → first_from p (ids_below end ids) ≡ Some x
first_below p end f x [] r e less = absurd (cc e)
first_below p end f x (y ∷ ys) r e less = ⊎_elim
    (λ (under : y < p).
    let rest = first_below p end (y + 1) x ys r.1 (e ∙ first_low p y ys under) less in
    ⊎_elim
    (λ (in_ : y < end). ap (first_from p) (filter_yes (λ id. nat_lt id end) y ys (lt-ltb y end in_)) ∙ (first_low p y (ids_below end ys) under ∙ rest))
    (λ (out : end ≤ y). ap (first_from p) (filter_no (λ id. nat_lt id end) y ys (le-ltb y end out)) ∙ rest)
    (cases_lt y end))
    (λ (more : p ≤ y).
    let same : Some x ≡ Some y = e ∙ first_high p y ys more in
    let is : x ≡ y = cc same in
    ap (first_from p) (filter_yes (λ id. nat_lt id end) y ys (lt-ltb y end (omega (arith, is, less)))) ∙ (first_high p y (ids_below end ys) more ∙ sym same))
    (cases_lt y p)

pub past_below : (p end f x : ℕ) (ids : List ℕ) → RisesFrom f ids → Some x ≡ first_from p ids → end ≤ x → first_from p (ids_below end ids) ≡ None
past_below p end f x [] r e up = absurd (cc e)
past_below p end f x (y ∷ ys) r e up = ⊎_elim
    (λ (under : y < p).
    let rest = past_below p end (y + 1) x ys r.1 (e ∙ first_low p y ys under) up in
    ⊎_elim
    (λ (in_ : y < end). ap (first_from p) (filter_yes (λ id. nat_lt id end) y ys (lt-ltb y end in_)) ∙ (first_low p y (ids_below end ys) under ∙ rest))
    (λ (out : end ≤ y). ap (first_from p) (filter_no (λ id. nat_lt id end) y ys (le-ltb y end out)) ∙ rest)
    (cases_lt y end))
    (λ (more : p ≤ y).
    let same : Some x ≡ Some y = e ∙ first_high p y ys more in
    let is : x ≡ y = cc same in
    none_below p end y (y ∷ ys) (omega (arith, is, up)) (omega arith, r.1))
    (cases_lt y p)

pub no_first_below : (p end : ℕ) (ids : List ℕ) → None ≡ first_from p ids → first_from p (ids_below end ids) ≡ None
no_first_below p end [] e = refl
no_first_below p end (y ∷ ys) e = ⊎_elim
    (λ (under : y < p).
    let rest = no_first_below p end ys (e ∙ first_low p y ys under) in
    ⊎_elim
    (λ (in_ : y < end). ap (first_from p) (filter_yes (λ id. nat_lt id end) y ys (lt-ltb y end in_)) ∙ (first_low p y (ids_below end ys) under ∙ rest))
    (λ (out : end ≤ y). ap (first_from p) (filter_no (λ id. nat_lt id end) y ys (le-ltb y end out)) ∙ rest)
    (cases_lt y end))
    (λ (more : p ≤ y). let same : None ≡ Some y = e ∙ first_high p y ys more in absurd (cc same))
    (cases_lt y p)

-- the place is found where the list has it
pub found_here : (id x : ℕ) (ids : List ℕ) → RisesFrom 0 ids → Some x ≡ first_from id ids → (x == id) ≡ has_id ids id
found_here id x ids r e = let first = first_is id 0 x ids r e in sym (has_first id x 0 ids (ids_from (x + 1) ids) r first.1)

pub found_none : (id : ℕ) (ids : List ℕ) → RisesFrom 0 ids → None ≡ first_from id ids → false ≡ has_id ids id
found_none id ids r e = sym (has_none id 0 ids r (none_is id ids e))
