-- The places that a test finds: behind one primitive more, and in a front of the list.
use Rattle.std.proofs.Common.{◌≡◌, ℕ, zero, suc, ◌+◌, ◌<◌, ◌≤◌, Bool, true, false, cond, List, [], ◌∷◌, ◌++◌, length, take, refl, sym, ap, ◌∙◌, subst, arith}
use Rattle.std.specs.Prelude.{Option, None, Some, option_map, is_some, nat_lt, find, if◌then◌else◌, ◌||◌}
use Rattle.std.specs.Option.{option_or}
use Rattle.std.specs.List.{cons_option, enumerate_from, list_any}
use Rattle.std.proofs.lemmas.Bool.{lt-ltb, le-ltb}
use Rattle.gd_prim.specs.declared.Primitive.{Primitive}
use Rattle.gd_postings.specs.Postings.{IsAbove, ids_below}
use Rattle.gd_keys.specs.Keys.{with_entry}
use Rattle.gd_store.specs.Scan.{places_from}
use Rattle.gd_store.specs.Indexed.{below_end}

-- the place, where the test passed
abbrev found : Bool → ℕ → Option ℕ
found b place = if b then Some place else None

-- ---- one primitive more

only_one : (b : Bool) (place : ℕ) → cons_option (found b place) [] ≡ with_entry b place []
only_one true place = refl
only_one false place = refl

entry_behind : (o : Option ℕ) (b : Bool) (place : ℕ) (ids : List ℕ) → cons_option o (with_entry b place ids) ≡ with_entry b place (cons_option o ids)
entry_behind None true place ids = refl
entry_behind None false place ids = refl
entry_behind (Some x) true place ids = refl
entry_behind (Some x) false place ids = refl

-- its place is the last, if the test passes it
pub places_more : (t : Primitive → Bool) (k : ℕ) (xs : List Primitive) (y : Primitive) → places_from t k (xs ++ y ∷ []) ≡ with_entry (t y) (k + length xs) (places_from t k xs)
places_more t k [] y =
    let same : k ≡ k + 0 = omega arith in
    only_one (t y) k ∙ ap (λ n. with_entry (t y) n []) same
places_more t k (x ∷ xs) y =
    let same : k + 1 + length xs ≡ k + suc (length xs) = omega arith in
    ap (cons_option (found (t x) k)) (places_more t (k + 1) xs y)
    ∙ entry_behind (found (t x) k) (t y) (k + 1 + length xs) (places_from t (k + 1) xs)
    ∙ ap (λ n. with_entry (t y) n (places_from t k (x ∷ xs))) same

above_more : (b : Bool) (k m : ℕ) (ids : List ℕ) → k < m → IsAbove ids m → IsAbove (cons_option (found b k) ids) m
above_more true k m ids less above zero there = less
above_more true k m ids less above (suc i) there = above i (omega (arith, there))
above_more false k m ids less above i there = above i there

-- and above all others
pub places_above : (t : Primitive → Bool) (k : ℕ) (xs : List Primitive) → IsAbove (places_from t k xs) (k + length xs)
places_above t k [] = λ i there. absurd (omega (arith, there))
places_above t k (x ∷ xs) =
    let same : k + 1 + length xs ≡ k + suc (length xs) = omega arith in
    above_more (t x) k (k + suc (length xs)) (places_from t (k + 1) xs) (omega arith) (subst (IsAbove (places_from t (k + 1) xs)) same (places_above t (k + 1) xs))

-- ---- a front of the list

kept : (b : Bool) (k end : ℕ) (ids : List ℕ) → nat_lt k end ≡ true → ids_below end (cons_option (found b k) ids) ≡ cons_option (found b k) (ids_below end ids)
kept true k end ids less = ap (λ c. cond c (k ∷ ids_below end ids) (ids_below end ids)) less
kept false k end ids less = refl

left_out : (b : Bool) (k end : ℕ) (ids : List ℕ) → nat_lt k end ≡ false → ids_below end (cons_option (found b k) ids) ≡ ids_below end ids
left_out true k end ids more = ap (λ c. cond c (k ∷ ids_below end ids) (ids_below end ids)) more
left_out false k end ids more = refl

none_below : (t : Primitive → Bool) (k end : ℕ) (xs : List Primitive) → end ≤ k → ids_below end (places_from t k xs) ≡ []
none_below t k end [] up = refl
none_below t k end (x ∷ xs) up = left_out (t x) k end (places_from t (k + 1) xs) (le-ltb k end up) ∙ none_below t (k + 1) end xs (omega arith)

-- has the places that are less than its end
pub places_front : (t : Primitive → Bool) (k n : ℕ) (xs : List Primitive) → ids_below (k + n) (places_from t k xs) ≡ places_from t k (take n xs)
places_front t k zero xs = none_below t k (k + 0) xs (omega arith)
places_front t k (suc n) [] = refl
places_front t k (suc n) (x ∷ xs) =
    let same : k + suc n ≡ k + 1 + n = omega arith in
    kept (t x) k (k + suc n) (places_from t (k + 1) xs) (lt-ltb k (k + suc n) (omega arith))
    ∙ ap (λ m. cons_option (found (t x) k) (ids_below m (places_from t (k + 1) xs))) same
    ∙ ap (cons_option (found (t x) k)) (places_front t (k + 1) n xs)

-- ---- the first place

-- the first place that passes, where the list begins at this place
abbrev pub first_place : (Primitive → Bool) → ℕ → List Primitive → Option ℕ
first_place t k xs = option_map (λ e. e.0) (find (λ e. t e.1) (enumerate_from k xs))

mapped : (b : Bool) (k : ℕ) (x : Primitive) (o : Option (ℕ × Primitive)) → option_map (λ e. e.0) (cond b (Some (k, x)) o) ≡ cond b (Some k) (option_map (λ e. e.0) o)
mapped true k x o = refl
mapped false k x o = refl

first_cons : (t : Primitive → Bool) (k : ℕ) (x : Primitive) (xs : List Primitive) → first_place t k (x ∷ xs) ≡ cond (t x) (Some k) (first_place t (k + 1) xs)
first_cons t k x xs = mapped (t x) k x (find (λ e. t e.1) (enumerate_from (k + 1) xs))

or_cond : (b : Bool) (k : ℕ) (o p : Option ℕ) → cond b (Some k) (option_or o p) ≡ option_or (cond b (Some k) o) p
or_cond true k o p = refl
or_cond false k o p = refl

-- behind one primitive more it is the same, or the new one
pub first_more : (t : Primitive → Bool) (k : ℕ) (xs : List Primitive) (y : Primitive) → first_place t k (xs ++ y ∷ []) ≡ option_or (first_place t k xs) (found (t y) (k + length xs))
first_more t k [] y =
    let same : k ≡ k + 0 = omega arith in
    first_cons t k y [] ∙ ap (found (t y)) same
first_more t k (x ∷ xs) y =
    let same : k + 1 + length xs ≡ k + suc (length xs) = omega arith in
    first_cons t k x (xs ++ y ∷ [])
    ∙ ap (cond (t x) (Some k)) (first_more t (k + 1) xs y)
    ∙ or_cond (t x) k (first_place t (k + 1) xs) (found (t y) (k + 1 + length xs))
    ∙ ap (λ o. option_or o (found (t y) (k + 1 + length xs))) (sym (first_cons t k x xs))
    ∙ ap (λ n. option_or (first_place t k (x ∷ xs)) (found (t y) n)) same

cut_less : (b : Bool) (k end : ℕ) (o : Option ℕ) → nat_lt k end ≡ true → below_end end (cond b (Some k) o) ≡ cond b (Some k) (below_end end o)
cut_less true k end o less = ap (λ c. cond c (Some k) None) less
cut_less false k end o less = refl

cut_more : (b : Bool) (k end : ℕ) (o : Option ℕ) → nat_lt k end ≡ false → below_end end o ≡ None → below_end end (cond b (Some k) o) ≡ None
cut_more true k end o more rest = ap (λ c. cond c (Some k) None) more
cut_more false k end o more rest = rest

first_above : (t : Primitive → Bool) (k end : ℕ) (xs : List Primitive) → end ≤ k → below_end end (first_place t k xs) ≡ None
first_above t k end [] up = refl
first_above t k end (x ∷ xs) up =
    ap (below_end end) (first_cons t k x xs)
    ∙ cut_more (t x) k end (first_place t (k + 1) xs) (le-ltb k end up) (first_above t (k + 1) end xs (omega arith))

-- the first place in a front of the list is that in the list, where it is less than the front's end
pub first_cut : (t : Primitive → Bool) (k n : ℕ) (xs : List Primitive) → below_end (k + n) (first_place t k xs) ≡ first_place t k (take n xs)
first_cut t k zero xs = first_above t k (k + 0) xs (omega arith)
first_cut t k (suc n) [] = refl
first_cut t k (suc n) (x ∷ xs) =
    let same : k + suc n ≡ k + 1 + n = omega arith in
    ap (below_end (k + suc n)) (first_cons t k x xs)
    ∙ cut_less (t x) k (k + suc n) (first_place t (k + 1) xs) (lt-ltb k (k + suc n) (omega arith))
    ∙ ap (λ m. cond (t x) (Some k) (below_end m (first_place t (k + 1) xs))) same
    ∙ ap (cond (t x) (Some k)) (first_cut t (k + 1) n xs)
    ∙ sym (first_cons t k x (take n xs))

some_cond : (b : Bool) (k : ℕ) (o : Option ℕ) → is_some (cond b (Some k) o) ≡ (b || is_some o)
some_cond true k o = refl
some_cond false k o = refl

-- there is one exactly where some primitive passes
pub first_some : (t : Primitive → Bool) (k : ℕ) (xs : List Primitive) → is_some (first_place t k xs) ≡ list_any t xs
first_some t k [] = refl
first_some t k (x ∷ xs) =
    ap is_some (first_cons t k x xs) ∙ some_cond (t x) k (first_place t (k + 1) xs) ∙ ap (λ b. t x || b) (first_some t (k + 1) xs)

first_of_two : (b : Bool) (k m x : ℕ) (o : Option ℕ) → cond b (Some k) o ≡ Some x → k < m → (o ≡ Some x → x < m) → x < m
first_of_two true k m x o is less rest =
    let same : k ≡ x = cc in
    omega (arith, less, same)
first_of_two false k m x o is less rest = rest is

-- it is less than the end of the list
pub first_within : (t : Primitive → Bool) (k : ℕ) (xs : List Primitive) (x : ℕ) → first_place t k xs ≡ Some x → x < k + length xs
first_within t k [] x is = cc
first_within t k (y ∷ ys) x is =
    first_of_two (t y) k (k + suc (length ys)) x (first_place t (k + 1) ys) (sym (first_cons t k y ys) ∙ is) (omega arith)
    (λ found. let rest : x < k + 1 + length ys = first_within t (k + 1) ys x found in omega (arith, rest))

none_first : (b : Bool) (k : ℕ) (o : Option ℕ) (r : Bool) → (b || r) ≡ false → (r ≡ false → o ≡ None) → cond b (Some k) o ≡ None
none_first true k o r h rest = cc
none_first false k o r h rest = rest h

-- where none passes there is no first
pub first_none : (t : Primitive → Bool) (k : ℕ) (xs : List Primitive) → list_any t xs ≡ false → first_place t k xs ≡ None
first_none t k [] none = refl
first_none t k (x ∷ xs) none = first_cons t k x xs ∙ none_first (t x) k (first_place t (k + 1) xs) (list_any t xs) none (first_none t (k + 1) xs)
