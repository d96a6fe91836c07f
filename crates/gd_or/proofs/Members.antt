-- Members that are gone over one after another.
use Rattle.std.proofs.Common.{◌≡◌, ◌∙◌, ◌+◌, ◌<◌, ◌≤◌, ℕ, zero, suc, Bool, true, false, List, [], ◌∷◌, length, refl, sym, ap, arith, map, take, drop, get_or, add-one}
use Rattle.std.specs.Prelude.{◌||◌, slice_set}
use Rattle.std.specs.List.{list_all}
use Rattle.std.proofs.lemmas.Bool.{and_parts, and_from}
use Rattle.gd_iter_core.specs.Owed.{has_id, ids_from}
use Rattle.gd_iter_core.specs.Rising.{from_from}
use Rattle.gd_or.specs.declared.branch.Head.{Head}
use Rattle.gd_or.specs.declared.branch.Head.TheVariants as head
use Rattle.gd_or.specs.Or.{part, any_has}

-- a member that is seen as before leaves what all of them are seen as
pub map-set : {A B : Type 0} (f : A → B) (xs : List A) (k : ℕ) (d y : A) → k < length xs → f y ≡ f (get_or xs k d) → map f (slice_set xs k y) ≡ map f xs
map-set f [] k d y there e = absurd (omega (arith, there))
map-set f (a ∷ xs) zero d y there e = ap (λ b. b ∷ map f xs) e
map-set f (a ∷ xs) (suc k) d y there e = ap (λ bs. f a ∷ bs) (map-set f xs k d y (omega (arith, there)) e)

known_suc : {A : Type 0} (f : A → Bool) (xs : List A) (k : ℕ) (y : A) → k < length xs → list_all f (take k xs) ≡ true → f y ≡ true → list_all f (take (suc k) (slice_set xs k y)) ≡ true
known_suc f [] k y there all here = absurd (omega (arith, there))
known_suc f (a ∷ xs) zero y there all here = rw here refl
known_suc f (a ∷ xs) (suc k) y there all here =
    let parts = and_parts (f a) (list_all f (take k xs)) all in
    and_from (f a) (list_all f (take (suc k) (slice_set xs k y))) parts.0 (known_suc f xs k y (omega (arith, there)) parts.1 here)

-- a member that passes joins those that do
pub known-set : {A : Type 0} (f : A → Bool) (xs : List A) (k : ℕ) (y : A) → k < length xs → list_all f (take k xs) ≡ true → f y ≡ true → list_all f (take (k + 1) (slice_set xs k y)) ≡ true
known-set f xs k y there all here = rw add-one (known_suc f xs k y there all here)

-- asking from a number on asks that one and then those from the next one on
any_suc : {A : Type 0} (f : A → List ℕ) (xs : List A) (k : ℕ) (x : A) (id : ℕ) → k < length xs → x ≡ get_or xs k x
    → any_has id (drop k (map f xs)) ≡ (has_id (f x) id || any_has id (drop (suc k) (map f xs)))
any_suc f [] k x id there is = absurd (omega (arith, there))
any_suc {A = A} f (a ∷ xs) zero x id there is = ap (λ (b : A). has_id (f b) id || any_has id (map f xs)) (sym is)
any_suc f (a ∷ xs) (suc k) x id there is = any_suc f xs k x id (omega (arith, there)) is

any_from : {A : Type 0} (f : A → List ℕ) (xs : List A) (k : ℕ) (x : A) (id : ℕ) → k < length xs → x ≡ get_or xs k x
    → any_has id (drop k (map f xs)) ≡ (has_id (f x) id || any_has id (drop (k + 1) (map f xs)))
any_from f xs k x id there is = rw add-one (any_suc f xs k x id there is)

-- this one has it
pub any_yes : {A : Type 0} (f : A → List ℕ) (xs : List A) (k : ℕ) (x : A) (id : ℕ) → k < length xs → x ≡ get_or xs k x
    → has_id (f x) id ≡ true → any_has id (drop k (map f xs)) ≡ true
any_yes f xs k x id there is has = any_from f xs k x id there is ∙ ap (λ b. b || any_has id (drop (k + 1) (map f xs))) has

-- it has it not
pub any_no : {A : Type 0} (f : A → List ℕ) (xs : List A) (k : ℕ) (x : A) (id : ℕ) → k < length xs → x ≡ get_or xs k x
    → has_id (f x) id ≡ false → any_has id (drop k (map f xs)) ≡ any_has id (drop (k + 1) (map f xs))
any_no f xs k x id there is has = any_from f xs k x id there is ∙ ap (λ b. b || any_has id (drop (k + 1) (map f xs))) has

-- members that are seen alike up to one more
pub front-set : {A B : Type 0} (f g : A → B) (xs : List A) (k : ℕ) (y : A) → k < length xs → f y ≡ g y → take k (map f xs) ≡ take k (map g xs)
    → take (k + 1) (map f (slice_set xs k y)) ≡ take (k + 1) (map g (slice_set xs k y))
front-set f g xs k y there here front = rw add-one (suc_front f g xs k y there here front)
  where
    suc_front : {A B : Type 0} (f g : A → B) (xs : List A) (k : ℕ) (y : A) → k < length xs → f y ≡ g y → take k (map f xs) ≡ take k (map g xs)
        → take (suc k) (map f (slice_set xs k y)) ≡ take (suc k) (map g (slice_set xs k y))
    suc_front f g [] k y there here front = absurd (omega (arith, there))
    suc_front f g (a ∷ xs) zero y there here front = ap (λ b. b ∷ []) here
    suc_front f g (a ∷ xs) (suc k) y there here front =
        let head : f a ≡ g a = cc front in
        let tail : take k (map f xs) ≡ take k (map g xs) = cc front in
        ap (λ b. b ∷ take (suc k) (map f (slice_set xs k y))) head ∙ ap (λ bs. g a ∷ bs) (suc_front f g xs k y (omega (arith, there)) here tail)

pub take_all : {A B : Type 0} (f : A → B) (xs : List A) (n : ℕ) → length xs ≤ n → take n (map f xs) ≡ map f xs
take_all f [] zero h = refl
take_all f [] (suc n) h = refl
take_all f (a ∷ xs) zero h = absurd (omega (arith, h))
take_all f (a ∷ xs) (suc n) h = ap (λ bs. f a ∷ bs) (take_all f xs n (omega (arith, h)))

-- a branch that was restarted
pub part_restarted : (at : ℕ) (owed set : List ℕ) (h : Head) → h ≡ head.Unknown → owed ≡ ids_from at set → part at owed h ≡ ids_from at set
part_restarted at owed set h eh e = rw (eh, e) (from_from at at set (omega arith))
