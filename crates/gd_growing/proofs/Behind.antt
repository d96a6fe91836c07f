-- Two lists one behind the other: what stands at a place, and what a scan finds.
use Rattle.std.proofs.Common.{◌≡◌, ℕ, zero, suc, ◌+◌, ◌<◌, Bool, true, false, cond, not, List, [], ◌∷◌, ◌++◌, length, get_or, drop, refl, sym, ap, ◌∙◌, arith, add-one, drop-cons}
use Rattle.std.specs.Prelude.{Option, None, Some, option_map, is_some, is_none, find, slice_get, if◌then◌else◌, ◌||◌}
use Rattle.std.specs.Option.{option_or}
use Rattle.std.specs.List.{cons_option, enumerate_from, filter_map, list_any, last_or}
use Rattle.std.proofs.lemmas.List.Folds.{find-append}
use Rattle.std.proofs.lemmas.List.Elements.{filter_map-append}
use Rattle.gd_prim.specs.declared.Primitive.{Primitive}
use Rattle.gd_prim.specs.Live.{refers, is_current, successor, places_where}
use Rattle.gd_store.specs.Scan.{places_from}
use Rattle.gd_growing.specs.Scan.{first_place}

-- ---- places

-- what stands at a place of the front
pub at_front : {A : Type 0} (xs ys : List A) (i : ℕ) → i < length xs → slice_get (xs ++ ys) i ≡ slice_get xs i
at_front [] ys i within = absurd (omega (arith, within))
at_front (x ∷ xs) ys zero within = refl
at_front (x ∷ xs) ys (suc i) within = at_front xs ys i (omega (arith, within))

-- what is left behind a front is the rest
pub rest_behind : {A : Type 0} (xs ys : List A) → drop (length xs) (xs ++ ys) ≡ ys
rest_behind [] ys = refl
rest_behind (x ∷ xs) ys = rest_behind xs ys

-- what is left at an index begins with what stands there
left_at : (xs : List Primitive) (i : ℕ) (x : Primitive) → i < length xs → x ≡ get_or xs i x → drop i xs ≡ x ∷ drop (i + 1) xs
left_at xs i x within is = rw (add-one, drop-cons xs i x) (ap (λ y. y ∷ drop (suc i) xs) (sym is))

-- the same where it is looked up
pub drop_get : {A : Type 0} (xs : List A) (k : ℕ) (x : A) → slice_get xs k ≡ Some x → drop k xs ≡ x ∷ drop (k + 1) xs
drop_get [] k x is = cc
drop_get (y ∷ ys) zero x is = let same : y ≡ x = cc in ap (λ z. z ∷ ys) same
drop_get (y ∷ ys) (suc k) x is = drop_get ys k x is ∙ ap (λ n. x ∷ drop n (y ∷ ys)) (let same : suc (k + 1) ≡ suc k + 1 = omega arith in same)

-- elements with their places
enumerate_behind : {A : Type 0} (k : ℕ) (xs ys : List A) → enumerate_from k (xs ++ ys) ≡ enumerate_from k xs ++ enumerate_from (k + length xs) ys
enumerate_behind k [] ys = ap (λ n. enumerate_from n ys) (let same : k ≡ k + 0 = omega arith in same)
enumerate_behind k (x ∷ xs) ys = ap (λ es. (k, x) ∷ es) (enumerate_behind (k + 1) xs ys
    ∙ ap (λ n. enumerate_from (k + 1) xs ++ enumerate_from n ys) (let same : k + 1 + length xs ≡ k + suc (length xs) = omega arith in same))

-- ---- the first place

mapped_or : {A B : Type 0} (f : A → B) (o p : Option A) → option_map f (option_or o p) ≡ option_or (option_map f o) (option_map f p)
mapped_or f None p = refl
mapped_or f (Some x) p = refl

-- it is that of the front, or else that of the rest
pub first_behind : (t : Primitive → Bool) (k : ℕ) (xs ys : List Primitive) → first_place t k (xs ++ ys) ≡ option_or (first_place t k xs) (first_place t (k + length xs) ys)
first_behind t k xs ys =
    ap (λ es. option_map (λ e. e.0) (find (λ e. t e.1) es)) (enumerate_behind k xs ys)
    ∙ ap (option_map (λ e. e.0)) (find-append (λ e. t e.1) (enumerate_from k xs) (enumerate_from (k + length xs) ys))
    ∙ mapped_or (λ e. e.0) (find (λ e. t e.1) (enumerate_from k xs)) (find (λ e. t e.1) (enumerate_from (k + length xs) ys))

mapped : (b : Bool) (k : ℕ) (x : Primitive) (o : Option (ℕ × Primitive)) → option_map (λ e. e.0) (cond b (Some (k, x)) o) ≡ cond b (Some k) (option_map (λ e. e.0) o)
mapped true k x o = refl
mapped false k x o = refl

some_cond : (b : Bool) (k : ℕ) (o : Option ℕ) → is_some (cond b (Some k) o) ≡ (b || is_some o)
some_cond true k o = refl
some_cond false k o = refl

-- there is one exactly where some primitive passes
first_some : (t : Primitive → Bool) (k : ℕ) (xs : List Primitive) → is_some (first_place t k xs) ≡ list_any t xs
first_some t k [] = refl
first_some t k (x ∷ xs) =
    ap is_some (mapped (t x) k x (find (λ e. t e.1) (enumerate_from (k + 1) xs))) ∙ some_cond (t x) k (first_place t (k + 1) xs) ∙ ap (λ b. t x || b) (first_some t (k + 1) xs)

none_or_some : {A : Type 0} (o : Option A) → is_none o ≡ not (is_some o)
none_or_some None = refl
none_or_some (Some x) = refl

-- a place is current where none succeeds it
pub none_succeeds : (prims : List Primitive) (k : ℕ) → is_none (successor prims k) ≡ is_current prims k
none_succeeds prims k = none_or_some (successor prims k) ∙ ap not (first_some (λ p. refers p.previous k) 0 prims)

-- what succeeds a place
pub successor_behind : (xs ys : List Primitive) (k : ℕ) → successor (xs ++ ys) k ≡ option_or (successor xs k) (first_place (λ p. refers p.previous k) (length xs) ys)
successor_behind xs ys k = first_behind (λ p. refers p.previous k) 0 xs ys
    ∙ ap (λ n. option_or (successor xs k) (first_place (λ p. refers p.previous k) n ys)) (let same : 0 + length xs ≡ length xs = omega arith in same)

-- where none below does, it is the first of the rest
pub successor_rear : (xs ys : List Primitive) (k n : ℕ) (found : Option ℕ) → successor xs k ≡ None → n ≡ length xs → found ≡ first_place (λ p. refers p.previous k) n ys → found ≡ successor (xs ++ ys) k
successor_rear xs ys k n found none is rest =
    rest ∙ ap (λ m. first_place (λ p. refers p.previous k) m ys) is
    ∙ sym (successor_behind xs ys k ∙ ap (λ o. option_or o (first_place (λ p. refers p.previous k) (length xs) ys)) none)

-- ---- all places

-- those of the front, and then those of the rest
pub places_behind : (t : Primitive → Bool) (xs ys : List Primitive) → places_where t (xs ++ ys) ≡ places_where t xs ++ places_from t (length xs) ys
places_behind t xs ys =
    ap (filter_map (λ e. if t e.1 then Some e.0 else None)) (enumerate_behind 0 xs ys ∙ ap (λ n. enumerate_from 0 xs ++ enumerate_from n ys) (let same : 0 + length xs ≡ length xs = omega arith in same))
    ∙ filter_map-append (λ e. if t e.1 then Some e.0 else None) (enumerate_from 0 xs) (enumerate_from (length xs) ys)

-- place by place
pub places_on : (t : Primitive → Bool) (xs : List Primitive) (k i : ℕ) (x : Primitive) (b : Bool) → i < length xs → x ≡ get_or xs i x → b ≡ t x
    → places_from t (k + i) (drop i xs) ≡ cons_option (if b then Some (k + i) else None) (places_from t (k + (i + 1)) (drop (i + 1) xs))
places_on t xs k i x b within is passes =
    let next : (k + i) + 1 ≡ k + (i + 1) = omega arith in
    ap (places_from t (k + i)) (left_at xs i x within is)
    ∙ ap (λ n. cons_option (if t x then Some (k + i) else None) (places_from t n (drop (i + 1) xs))) next
    ∙ ap (λ c. cons_option (if c then Some (k + i) else None) (places_from t (k + (i + 1)) (drop (i + 1) xs))) (sym passes)

-- the last of two lists
pub last_behind : {A : Type 0} (before : Option A) (xs ys : List A) → last_or before (xs ++ ys) ≡ last_or (last_or before xs) ys
last_behind before [] ys = refl
last_behind before (x ∷ xs) ys = last_behind (Some x) xs ys
