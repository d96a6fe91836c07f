-- The values of a list of primitives: behind one primitive more, and in a front of the list.
use Rattle.std.proofs.Common.{◌≡◌, ℕ, zero, suc, ◌+◌, ◌-◌, ◌<◌, ◌≤◌, Bool, true, false, cond, List, [], ◌∷◌, ◌++◌, length, take, drop, refl, sym, ap, ◌∙◌, subst, append_assoc, length-append, ◌⊎◌, inl, inr, arith}
use Rattle.std.specs.Prelude.{Option, None, Some, ◌||◌, ◌==◌, slice_get, fold, position, is_some, nat_lt, not, if◌then◌else◌}
use Rattle.std.specs.Option.{option_map_or}
use Rattle.std.specs.List.{list_any, cons_option, position_or_len}
use Rattle.std.specs.Cmp.{both_ways}
use Rattle.std.proofs.lemmas.Bool.{ne_eqb, eq-eqb, lt-ltb, le-ltb, ltb-true, ltb-false}
use Rattle.std.proofs.lemmas.List.{append-nil, take-append-drop}
use Rattle.std.proofs.lemmas.List.Folds.{list_any-append}
use Rattle.std.proofs.lemmas.List.Sums.{fold-append}
use Rattle.std.proofs.lemmas.List.Quantifiers.{position-Some}
use Rattle.std.proofs.Math.Seq.{take-append_seam}
use Rattle.gd_base.specs.declared.datum.Datum.{Datum}
use Rattle.gd_base.specs.Order.{datum_eq}
use Rattle.gd_base.proofs.Order.{datum_eq_decides}
use Rattle.gd_prim.specs.declared.Primitive.{Primitive}
use Rattle.gd_prim.specs.Live.{places_where}
use Rattle.gd_postings.specs.Postings.{Places, IsAbove, ids_below}
use Rattle.gd_lists.specs.Lists.{nothing}
use Rattle.gd_lists.specs.Entries.{with_entry, without_entry}
use Rattle.gd_valueidx.specs.Values.{value_list, values_in, number_list, with_value, without_value}
use Rattle.gd_store.specs.Scan.{places_from}
use Rattle.gd_store.specs.Valued.{has_value, values_of, number_in, places_of_number, AreValues}
use Rattle.gd_store.proofs.Within.{within_all, front_kth, place_within}
use Rattle.gd_store.proofs.Entered.{front_more, length_front, where_more, above_where, taken_back, below_where}

-- ---- words on lists

or_false : (a : Bool) → (a || false) ≡ a
or_false true = refl
or_false false = refl

or_assoc : (a b c : Bool) → ((a || b) || c) ≡ (a || (b || c))
or_assoc true b c = refl
or_assoc false b c = refl

or_first : (a b : Bool) → (a || b) ≡ false → a ≡ false
or_first true b is = is
or_first false b is = refl

empty_of : (xs : List ℕ) → length xs ≡ 0 → xs ≡ []
empty_of [] count = refl
empty_of (x ∷ xs) count = absurd (omega (arith, count))

at_end : (xs : List Datum) (x : Datum) → slice_get (xs ++ x ∷ []) (length xs) ≡ Some x
at_end [] x = refl
at_end (y ∷ xs) x = at_end xs x

last_there : (xs : List Datum) (x : Datum) → slice_get (xs ++ x ∷ []) (length (xs ++ x ∷ []) - 1) ≡ Some x
last_there xs x =
    let count : length (xs ++ x ∷ []) - 1 ≡ length xs = omega (arith, length-append xs (x ∷ [])) in
    ap (slice_get (xs ++ x ∷ [])) count ∙ at_end xs x

all_but_last : (xs : List Datum) (x : Datum) → take (length (xs ++ x ∷ []) - 1) (xs ++ x ∷ []) ≡ xs
all_but_last xs x =
    let count : length (xs ++ x ∷ []) - 1 ≡ length xs = omega (arith, length-append xs (x ∷ [])) in
    ap (λ n. take n (xs ++ x ∷ [])) count ∙ take-append_seam xs (x ∷ [])

-- the equality of data goes both ways
datum_eq_sym : (a b : Datum) → datum_eq a b ≡ datum_eq b a
datum_eq_sym a b =
    both_ways (datum_eq a b) (datum_eq b a) (λ is. (datum_eq_decides b a).1 (sym ((datum_eq_decides a b).0 is)))
    (λ is. (datum_eq_decides a b).1 (sym ((datum_eq_decides b a).0 is)))

-- ---- which values there are

-- one primitive more
pub values_more : (before : List Primitive) (p : Primitive) → values_of (before ++ p ∷ []) ≡ with_value p.value (values_of before)
values_more before p = fold-append (λ values (q : Primitive). with_value q.value values) [] before (p ∷ [])

any_old : (c a : Bool) → (c ≡ true → a ≡ true) → a ≡ (a || c)
any_old false a go = sym (or_false a)
any_old true a go = go refl ∙ sym (ap (λ b. b || true) (go refl))

pub any_with : (v w : Datum) (vs : List Datum) → list_any (datum_eq v) (with_value w vs) ≡ (list_any (datum_eq v) vs || datum_eq v w)
any_with v w vs = either (list_any (datum_eq w) vs) refl
  where
    either : (b : Bool) → list_any (datum_eq w) vs ≡ b → list_any (datum_eq v) (if b then vs else vs ++ w ∷ []) ≡ (list_any (datum_eq v) vs || datum_eq v w)
    either true there =
        any_old (datum_eq v w) (list_any (datum_eq v) vs)
        (λ is. subst (λ (d : Datum). list_any (datum_eq d) vs ≡ true) (sym ((datum_eq_decides v w).0 is)) there)
    either false there = list_any-append (datum_eq v) vs (w ∷ []) ∙ ap (λ b. list_any (datum_eq v) vs || b) (or_false (datum_eq v w))

any_fold : (v : Datum) (acc : List Datum) (prims : List Primitive)
    → list_any (datum_eq v) (fold (λ values p. with_value p.value values) acc prims) ≡ (list_any (datum_eq v) acc || list_any (has_value v) prims)
any_fold v acc [] = sym (or_false (list_any (datum_eq v) acc))
any_fold v acc (p ∷ prims) =
    any_fold v (with_value p.value acc) prims
    ∙ ap (λ b. b || list_any (has_value v) prims) (any_with v p.value acc)
    ∙ or_assoc (list_any (datum_eq v) acc) (datum_eq v p.value) (list_any (has_value v) prims)

-- a value has a number where a primitive has it
pub any_value : (v : Datum) (prims : List Primitive) → list_any (datum_eq v) (values_of prims) ≡ list_any (has_value v) prims
any_value v prims = any_fold v [] prims

none_cons : (b r : Bool) (k : ℕ) (ids : List ℕ) → (b || r) ≡ false → (r ≡ false → ids ≡ []) → cons_option (if b then Some k else None) ids ≡ []
none_cons true r k ids none rest = cc
none_cons false r k ids none rest = rest none

pub none_from : (t : Primitive → Bool) (k : ℕ) (prims : List Primitive) → list_any t prims ≡ false → places_from t k prims ≡ []
none_from t k [] none = refl
none_from t k (p ∷ prims) none = none_cons (t p) (list_any t prims) k (places_from t (k + 1) prims) none (none_from t (k + 1) prims)

some_cons : (b r : Bool) (k : ℕ) (ids : List ℕ) → cons_option (if b then Some k else None) ids ≡ [] → (ids ≡ [] → r ≡ false) → (b || r) ≡ false
some_cons true r k ids none rest = cc
some_cons false r k ids none rest = rest none

some_from : (t : Primitive → Bool) (k : ℕ) (prims : List Primitive) → places_from t k prims ≡ [] → list_any t prims ≡ false
some_from t k [] none = refl
some_from t k (p ∷ prims) none = some_cons (t p) (list_any t prims) k (places_from t (k + 1) prims) none (some_from t (k + 1) prims)

-- a value that none has has no place, and the other way round
no_places : (v : Datum) (prims : List Primitive) → list_any (datum_eq v) (values_of prims) ≡ false → places_where (has_value v) prims ≡ []
no_places v prims none = none_from (has_value v) 0 prims (sym (any_value v prims) ∙ none)

no_value : (v : Datum) (prims : List Primitive) → places_where (has_value v) prims ≡ [] → list_any (datum_eq v) (values_of prims) ≡ false
no_value v prims none = any_value v prims ∙ some_from (has_value v) 0 prims none

-- ---- at a place of a list

places_next : (v : Datum) (prims : List Primitive) (place : ℕ) (p : Primitive) → slice_get prims place ≡ Some p → place < length prims
    → places_where (has_value v) (take (place + 1) prims) ≡ with_entry (datum_eq p.value v) place (places_where (has_value v) (take place prims))
places_next v prims place p is there =
    ap (places_where (has_value v)) (front_more prims place p is)
    ∙ where_more (has_value v) (take place prims) p (datum_eq p.value v) place (datum_eq_sym v p.value) (sym (length_front prims place (omega arith)))

values_next : (prims : List Primitive) (place : ℕ) (p : Primitive) → slice_get prims place ≡ Some p → values_of (take (place + 1) prims) ≡ with_value p.value (values_of (take place prims))
values_next prims place p is = ap values_of (front_more prims place p is) ∙ values_more (take place prims) p

pub value_above : (values : List (Datum × Places)) (prims : List Primitive) (place : ℕ) (p : Primitive) → place < length prims → AreValues values (take place prims) → IsAbove (value_list p.value values).ids place
value_above values prims place p there are =
    above_where (has_value p.value) (take place prims) (value_list p.value values).ids place (are.lists p.value) (sym (length_front prims place (omega arith)))

pub values_entered : (old new : List (Datum × Places)) (prims : List Primitive) (place : ℕ) (p : Primitive) → slice_get prims place ≡ Some p → place < length prims → AreValues old (take place prims)
    → ((v : Datum) → (value_list v new).ids ≡ with_entry (datum_eq p.value v) place (value_list v old).ids) → values_in new ≡ with_value p.value (values_in old)
    → AreValues new (take (place + 1) prims)
values_entered old new prims place p is there are lists numbers = record {
  numbers = numbers ∙ ap (with_value p.value) are.numbers ∙ sym (values_next prims place p is);
  lists = λ v. lists v ∙ ap (with_entry (datum_eq p.value v) place) (are.lists v) ∙ sym (places_next v prims place p is there);
}

-- the same values and places
pub values_as : (old new : List (Datum × Places)) (prims : List Primitive) → AreValues old prims → ((v : Datum) → (value_list v new).ids ≡ (value_list v old).ids) → values_in new ≡ values_in old → AreValues new prims
values_as old new prims are lists numbers = record {
  numbers = numbers ∙ are.numbers;
  lists = λ v. lists v ∙ are.lists v;
}

-- the list of the last value ends with its place
last_ids : (values : List (Datum × Places)) (prims : List Primitive) (place : ℕ) (p : Primitive) → slice_get prims place ≡ Some p → place < length prims → AreValues values (take (place + 1) prims)
    → (value_list p.value values).ids ≡ places_where (has_value p.value) (take place prims) ++ place ∷ []
last_ids values prims place p is there are =
    are.lists p.value ∙ places_next p.value prims place p is there
    ∙ ap (λ b. with_entry b place (places_where (has_value p.value) (take place prims))) ((datum_eq_decides p.value p.value).1 refl)

last_count : (values : List (Datum × Places)) (prims : List Primitive) (place : ℕ) (p : Primitive) → slice_get prims place ≡ Some p → place < length prims → AreValues values (take (place + 1) prims)
    → length (value_list p.value values).ids ≡ length (places_where (has_value p.value) (take place prims)) + 1
last_count values prims place p is there are =
    ap length (last_ids values prims place p is there are) ∙ length-append (places_where (has_value p.value) (take place prims)) (place ∷ [])

pub value_there : (values : List (Datum × Places)) (prims : List Primitive) (place : ℕ) (p : Primitive) → slice_get prims place ≡ Some p → place < length prims → AreValues values (take (place + 1) prims)
    → 0 < length (value_list p.value values).ids
value_there values prims place p is there are = omega (arith, last_count values prims place p is there are)

-- where it is the only one, its value is the last
pub value_last : (values : List (Datum × Places)) (prims : List Primitive) (place : ℕ) (p : Primitive) → slice_get prims place ≡ Some p → place < length prims → AreValues values (take (place + 1) prims)
    → length (value_list p.value values).ids ≡ 1 → slice_get (values_in values) (length (values_in values) - 1) ≡ Some p.value
value_last values prims place p is there are one =
    let empty : places_where (has_value p.value) (take place prims) ≡ [] = empty_of (places_where (has_value p.value) (take place prims)) (omega (arith, last_count values prims place p is there are, one)) in
    let fresh : list_any (datum_eq p.value) (values_of (take place prims)) ≡ false = no_value p.value (take place prims) empty in
    let all : values_in values ≡ values_of (take place prims) ++ p.value ∷ [] =
    are.numbers ∙ values_next prims place p is ∙ ap (λ b. if b then values_of (take place prims) else values_of (take place prims) ++ p.value ∷ []) fresh in
    ap (λ vs. slice_get vs (length vs - 1)) all ∙ last_there (values_of (take place prims)) p.value

abbrev bit : Bool → ℕ
bit true = 1
bit false = 0

-- a value that was new is gone again, and another one stays
less_value : (v : Datum) (vs : List Datum) (front ids : List ℕ) → (list_any (datum_eq v) vs ≡ false → front ≡ []) → (front ≡ [] → list_any (datum_eq v) vs ≡ false) → length ids ≡ length front + 1
    → without_value (length ids == 1) (with_value v vs) ≡ vs
less_value v vs front ids none fresh count = either (list_any (datum_eq v) vs) refl
  where
    apart : list_any (datum_eq v) vs ≡ true → length ids ≡ 1 → ⊥
    apart there one =
        let empty : list_any (datum_eq v) vs ≡ false = fresh (empty_of front (omega (arith, count, one))) in
        let never : 1 ≡ 0 = ap bit (sym there ∙ empty) in
        absurd (omega (arith, never))

    either : (b : Bool) → list_any (datum_eq v) vs ≡ b → without_value (length ids == 1) (if b then vs else vs ++ v ∷ []) ≡ vs
    either true there = ap (λ c. without_value c vs) (ne_eqb (length ids) 1 (apart there))
    either false there =
        let empty : length front ≡ 0 = ap length (none there) in
        let one : length ids ≡ 1 = omega (arith, count, empty) in
        ap (λ c. without_value c (vs ++ v ∷ [])) (eq-eqb (length ids) 1 one) ∙ all_but_last vs v

pub values_taken : (old new : List (Datum × Places)) (prims : List Primitive) (place : ℕ) (p : Primitive) → slice_get prims place ≡ Some p → place < length prims → AreValues old (take (place + 1) prims)
    → ((v : Datum) → (value_list v new).ids ≡ without_entry (datum_eq p.value v) (value_list v old).ids) → values_in new ≡ without_value (length (value_list p.value old).ids == 1) (values_in old)
    → AreValues new (take place prims)
values_taken old new prims place p is there are lists numbers = record {
  numbers = numbers ∙ ap (without_value (length (value_list p.value old).ids == 1)) (are.numbers ∙ values_next prims place p is)
      ∙ less_value p.value (values_of (take place prims)) (places_where (has_value p.value) (take place prims)) (value_list p.value old).ids
      (no_places p.value (take place prims)) (no_value p.value (take place prims)) (last_count old prims place p is there are);
  lists = λ v. lists v ∙ ap (without_entry (datum_eq p.value v)) (are.lists v ∙ places_next v prims place p is there)
      ∙ taken_back (datum_eq p.value v) place (places_where (has_value v) (take place prims));
}

-- ---- in a front of the list

-- values that come later stand behind those that were there, and are none of them
abbrev Grown : List Datum → List Datum → Type 0
Grown acc all = (more : List Datum) × ((all ≡ acc ++ more) × ((k : ℕ) (v : Datum) → slice_get more k ≡ Some v → list_any (datum_eq v) acc ≡ false))

grown : (acc : List Datum) (prims : List Primitive) → Grown acc (fold (λ values p. with_value p.value values) acc prims)
grown acc [] = ([], (sym (append-nil acc), λ k v is. cc))
grown acc (p ∷ prims) = either (list_any (datum_eq p.value) acc) refl (grown acc prims) (grown (acc ++ p.value ∷ []) prims)
  where
    later : (more : List Datum) → list_any (datum_eq p.value) acc ≡ false → ((k : ℕ) (v : Datum) → slice_get more k ≡ Some v → list_any (datum_eq v) (acc ++ p.value ∷ []) ≡ false)
        → (k : ℕ) (v : Datum) → slice_get (p.value ∷ more) k ≡ Some v → list_any (datum_eq v) acc ≡ false
    later more new fresh zero v is =
        let same : p.value ≡ v = cc in
        subst (λ (d : Datum). list_any (datum_eq d) acc ≡ false) same new
    later more new fresh (suc k) v is =
        or_first (list_any (datum_eq v) acc) (list_any (datum_eq v) (p.value ∷ [])) (sym (list_any-append (datum_eq v) acc (p.value ∷ [])) ∙ fresh k v is)

    either : (b : Bool) → list_any (datum_eq p.value) acc ≡ b → Grown acc (fold (λ values q. with_value q.value values) acc prims)
        → Grown (acc ++ p.value ∷ []) (fold (λ values q. with_value q.value values) (acc ++ p.value ∷ []) prims)
        → Grown acc (fold (λ values q. with_value q.value values) (if b then acc else acc ++ p.value ∷ []) prims)
    either true is old new = old
    either false is old new =
        (p.value ∷ new.0, (new.1.0 ∙ append_assoc acc (p.value ∷ []) new.0, later new.0 is new.1.1))

-- the values of a front are the first ones of all
front_values : (n : ℕ) (prims : List Primitive) → Grown (values_of (take n prims)) (values_of prims)
front_values n prims =
    subst (λ (all : List Datum). Grown (values_of (take n prims)) all)
    (sym (fold-append (λ values (q : Primitive). with_value q.value values) [] (take n prims) (drop n prims)) ∙ ap values_of (take-append-drop n prims))
    (grown (values_of (take n prims)) (drop n prims))

get_append : (xs ys : List Datum) (k : ℕ) → k < length xs → slice_get (xs ++ ys) k ≡ slice_get xs k
get_append [] ys k within = absurd (omega (arith, within))
get_append (x ∷ xs) ys zero within = refl
get_append (x ∷ xs) ys (suc k) within = get_append xs ys k (omega (arith, within))

get_behind : (xs ys : List Datum) (k : ℕ) → length xs ≤ k → slice_get (xs ++ ys) k ≡ slice_get ys (k - length xs)
get_behind [] ys k past = let same : k ≡ k - 0 = omega arith in ap (slice_get ys) same
get_behind (x ∷ xs) ys zero past = absurd (omega (arith, past))
get_behind (x ∷ xs) ys (suc k) past =
    let same : k - length xs ≡ suc k - suc (length xs) = omega arith in
    get_behind xs ys k (omega (arith, past)) ∙ ap (slice_get ys) same

pub get_past : (xs : List Datum) (k : ℕ) → length xs ≤ k → slice_get xs k ≡ None
get_past [] k past = refl
get_past (x ∷ xs) zero past = absurd (omega (arith, past))
get_past (x ∷ xs) (suc k) past = get_past xs k (omega (arith, past))

get_inside : (xs : List Datum) (k : ℕ) (v : Datum) → slice_get xs k ≡ Some v → k < length xs
get_inside [] k v is = cc
get_inside (x ∷ xs) zero v is = omega arith
get_inside (x ∷ xs) (suc k) v is = let less : k < length xs = get_inside xs k v is in omega (arith, less)

-- ---- numbers

pos_step : (b r : Bool) (m n : ℕ) → nat_lt m n ≡ r → nat_lt (cond (not b) (1 + m) 0) (suc n) ≡ (b || r)
pos_step true r m n is = lt-ltb 0 (suc n) (omega arith)
pos_step false true m n is = lt-ltb (1 + m) (suc n) (let less : m < n = ltb-true m n is in omega (arith, less))
pos_step false false m n is = le-ltb (1 + m) (suc n) (let more : n ≤ m = ltb-false m n is in omega (arith, more))

pos_any : (t : Datum → Bool) (xs : List Datum) → nat_lt (position_or_len t xs) (length xs) ≡ list_any t xs
pos_any t [] = refl
pos_any t (x ∷ xs) = pos_step (t x) (list_any t xs) (position_or_len t xs) (length xs) (pos_any t xs)

pub position_is : (t : Datum → Bool) (xs : List Datum) → position t xs ≡ cond (list_any t xs) (Some (position_or_len t xs)) None
position_is t xs = ap (λ b. cond b (Some (position_or_len t xs)) None) (pos_any t xs)

pos_first : (b : Bool) (r : Bool) (m n : ℕ) → (b || r) ≡ true → (r ≡ true → m ≡ n) → cond (not b) (1 + m) 0 ≡ cond (not b) (1 + n) 0
pos_first true r m n is same = refl
pos_first false r m n is same = ap (λ k. 1 + k) (same is)

pos_append : (t : Datum → Bool) (xs ys : List Datum) → list_any t xs ≡ true → position_or_len t (xs ++ ys) ≡ position_or_len t xs
pos_append t [] ys is = cc
pos_append t (x ∷ xs) ys is = pos_first (t x) (list_any t xs) (position_or_len t (xs ++ ys)) (position_or_len t xs) is (pos_append t xs ys)

position_front : (t : Datum → Bool) (xs ys : List Datum) → list_any t xs ≡ true → position t (xs ++ ys) ≡ position t xs
position_front t xs ys is =
    position_is t (xs ++ ys)
    ∙ ap (λ b. cond b (Some (position_or_len t (xs ++ ys))) None) (list_any-append t xs ys ∙ ap (λ b. b || list_any t ys) is)
    ∙ ap Some (pos_append t xs ys is)
    ∙ sym (position_is t xs ∙ ap (λ b. cond b (Some (position_or_len t xs)) None) is)

position_none : (t : Datum → Bool) (xs : List Datum) → list_any t xs ≡ false → position t xs ≡ None
position_none t xs is = position_is t xs ∙ ap (λ b. cond b (Some (position_or_len t xs)) None) is

first_some : (ids : List ℕ) → (is_some (slice_get ids 0) ≡ false → ids ≡ []) × (ids ≡ [] → is_some (slice_get ids 0) ≡ false)
first_some [] = (λ is. refl, λ is. refl)
first_some (x ∷ ids) = (λ is. cc, λ is. cc)

-- the number of a value in a front is that in the list, where the value has a place in the front
pub number_front : (values : List (Datum × Places)) (prims : List Primitive) (n : ℕ) (v : Datum) → AreValues values prims
    → (if is_some (slice_get (ids_below n (value_list v values).ids) 0) then position (datum_eq v) (values_in values) else None) ≡ number_in v (take n prims)
number_front values prims n v are =
    ap (λ ids. if is_some (slice_get ids 0) then position (datum_eq v) (values_in values) else None) (below_where (has_value v) n prims (value_list v values).ids (are.lists v))
    ∙ either (is_some (slice_get (places_where (has_value v) (take n prims)) 0)) (list_any (datum_eq v) (values_of (take n prims))) refl refl
  where
    either : (b r : Bool) → is_some (slice_get (places_where (has_value v) (take n prims)) 0) ≡ b → list_any (datum_eq v) (values_of (take n prims)) ≡ r
        → (if b then position (datum_eq v) (values_in values) else None) ≡ number_in v (take n prims)
    either true true some there =
        ap (position (datum_eq v)) (are.numbers ∙ (front_values n prims).1.0) ∙ position_front (datum_eq v) (values_of (take n prims)) (front_values n prims).0 there
    either true false some there =
        let never : true ≡ false = sym some ∙ (first_some (places_where (has_value v) (take n prims))).1 (no_places v (take n prims) there) in
        cc
    either false true none there =
        let never : true ≡ false = sym there ∙ no_value v (take n prims) ((first_some (places_where (has_value v) (take n prims))).0 none) in
        cc
    either false false none there = sym (position_none (datum_eq v) (values_of (take n prims)) there)

with_fewer : (b : Bool) (w : Datum) (vs : List Datum) → length (if b then vs else vs ++ w ∷ []) ≤ length vs + 1
with_fewer true w vs = omega arith
with_fewer false w vs = omega (arith, length-append vs (w ∷ []))

fold_fewer : (acc : List Datum) (prims : List Primitive) → length (fold (λ values p. with_value p.value values) acc prims) ≤ length acc + length prims
fold_fewer acc [] = omega arith
fold_fewer acc (p ∷ prims) =
    let rest = fold_fewer (with_value p.value acc) prims in
    let here = with_fewer (list_any (datum_eq p.value) acc) p.value acc in
    omega (arith, rest, here)

take_fewer : (n : ℕ) (prims : List Primitive) → length (take n prims) ≤ length prims
take_fewer zero prims = omega arith
take_fewer (suc n) [] = omega arith
take_fewer (suc n) (p ∷ prims) = let rest = take_fewer n prims in omega (arith, rest)

-- a number is less than the count of primitives
pub number_small : (v : Datum) (prims : List Primitive) (end number bound : ℕ) → Some number ≡ number_in v (take end prims) → length prims ≤ bound → number < bound
number_small v prims end number bound is few =
    let inside = (position-Some (datum_eq v) (values_of (take end prims)) number v (sym is)).0 in
    omega (arith, inside, fold_fewer [] (take end prims), take_fewer end prims, few)

-- ---- the places of a number

ids_of : (values : List (Datum × Places)) (prims : List Primitive) (o : Option Datum) → AreValues values prims
    → (option_map_or (λ value. value_list value values) o nothing).ids ≡ option_map_or (λ value. places_where (has_value value) prims) o []
ids_of values prims None are = refl
ids_of values prims (Some v) are = are.lists v

-- the list of a number has its places
pub number_places : (values : List (Datum × Places)) (prims : List Primitive) (number : ℕ) → AreValues values prims → (number_list number values).ids ≡ places_of_number number prims
number_places values prims number are =
    ids_of values prims (slice_get (values_in values) number) are
    ∙ ap (λ vs. option_map_or (λ value. places_where (has_value value) prims) (slice_get vs number) []) are.numbers

-- those of a front are those below its end
below_value : (prims : List Primitive) (n : ℕ) (o f : Option Datum) → (o ≡ f) ⊎ ((f ≡ None) × ((v : Datum) → o ≡ Some v → list_any (datum_eq v) (values_of (take n prims)) ≡ false))
    → ids_below n (option_map_or (λ value. places_where (has_value value) prims) o []) ≡ option_map_or (λ value. places_where (has_value value) (take n prims)) f []
below_value prims n None f (inl same) = ap (λ g. option_map_or (λ value. places_where (has_value value) (take n prims)) g []) same
below_value prims n (Some v) f (inl same) =
    below_where (has_value v) n prims (places_where (has_value v) prims) refl ∙ ap (λ g. option_map_or (λ value. places_where (has_value value) (take n prims)) g []) same
below_value prims n None f (inr gone) = sym (ap (λ g. option_map_or (λ value. places_where (has_value value) (take n prims)) g []) gone.0)
below_value prims n (Some v) f (inr gone) =
    below_where (has_value v) n prims (places_where (has_value v) prims) refl ∙ no_places v (take n prims) (gone.1 v refl)
    ∙ sym (ap (λ g. option_map_or (λ value. places_where (has_value value) (take n prims)) g []) gone.0)

in_front : (n : ℕ) (prims : List Primitive) (number : ℕ)
    → (slice_get (values_of prims) number ≡ slice_get (values_of (take n prims)) number)
    ⊎ ((slice_get (values_of (take n prims)) number ≡ None) × ((v : Datum) → slice_get (values_of prims) number ≡ Some v → list_any (datum_eq v) (values_of (take n prims)) ≡ false))
in_front n prims number = either (nat_lt number (length (values_of (take n prims)))) refl (front_values n prims)
  where
    either : (b : Bool) → nat_lt number (length (values_of (take n prims))) ≡ b → Grown (values_of (take n prims)) (values_of prims)
        → (slice_get (values_of prims) number ≡ slice_get (values_of (take n prims)) number)
        ⊎ ((slice_get (values_of (take n prims)) number ≡ None) × ((v : Datum) → slice_get (values_of prims) number ≡ Some v → list_any (datum_eq v) (values_of (take n prims)) ≡ false))
    either true less all = inl (ap (λ vs. slice_get vs number) all.1.0 ∙ get_append (values_of (take n prims)) all.0 number (ltb-true number (length (values_of (take n prims))) less))
    either false more all =
        let past = ltb-false number (length (values_of (take n prims))) more in
        inr (
          get_past (values_of (take n prims)) number past,
          λ v is. all.1.1 (number - length (values_of (take n prims))) v (sym (get_behind (values_of (take n prims)) all.0 number past) ∙ sym (ap (λ vs. slice_get vs number) all.1.0) ∙ is),
        )

pub number_below : (values : List (Datum × Places)) (prims : List Primitive) (n number : ℕ) → AreValues values prims → ids_below n (number_list number values).ids ≡ places_of_number number (take n prims)
number_below values prims n number are =
    ap (ids_below n) (number_places values prims number are)
    ∙ below_value prims n (slice_get (values_of prims) number) (slice_get (values_of (take n prims)) number) (in_front n prims number)

-- a place of a number in a front is one in the list
same_there : (prims : List Primitive) (n number k : ℕ) → k < length (places_of_number number (take n prims)) → slice_get (values_of prims) number ≡ slice_get (values_of (take n prims)) number
same_there prims n number k within = either (in_front n prims number)
  where
    either : (slice_get (values_of prims) number ≡ slice_get (values_of (take n prims)) number)
        ⊎ ((slice_get (values_of (take n prims)) number ≡ None) × ((v : Datum) → slice_get (values_of prims) number ≡ Some v → list_any (datum_eq v) (values_of (take n prims)) ≡ false))
        → slice_get (values_of prims) number ≡ slice_get (values_of (take n prims)) number
    either (inl same) = same
    either (inr gone) =
        let none : length (places_of_number number (take n prims)) ≡ 0 = ap (λ g. length (option_map_or (λ value. places_where (has_value value) (take n prims)) g [])) gone.0 in
        absurd (omega (arith, none, within))

entry_all : (prims front : List Primitive) (n k : ℕ) (f : Option Datum) → take n prims ≡ front → k < length (option_map_or (λ value. places_where (has_value value) front) f [])
    → k < length (option_map_or (λ value. places_where (has_value value) prims) f [])
entry_all prims front n k None is within = within
entry_all prims front n k (Some v) is within = within_all (has_value v) n prims front k is within

entry_kth : (prims front : List Primitive) (n k x : ℕ) (f : Option Datum) → take n prims ≡ front → k < length (option_map_or (λ value. places_where (has_value value) front) f [])
    → slice_get (option_map_or (λ value. places_where (has_value value) prims) f []) k ≡ Some x → slice_get (option_map_or (λ value. places_where (has_value value) front) f []) k ≡ Some x
entry_kth prims front n k x None is within found = found
entry_kth prims front n k x (Some v) is within found = front_kth (has_value v) n prims front k x is within found

pub number_all : (prims front : List Primitive) (n number k : ℕ) → take n prims ≡ front → k < length (places_of_number number front) → k < length (places_of_number number prims)
number_all prims front n number k is within =
    let here : slice_get (values_of prims) number ≡ slice_get (values_of front) number =
    same_there prims n number k (subst (λ ps. k < length (places_of_number number ps)) (sym is) within) ∙ ap (λ ps. slice_get (values_of ps) number) is in
    subst (λ f. k < length (option_map_or (λ value. places_where (has_value value) prims) f [])) (sym here) (entry_all prims front n k (slice_get (values_of front) number) is within)

pub number_kth : (prims front : List Primitive) (n number k x : ℕ) → take n prims ≡ front → k < length (places_of_number number front) → slice_get (places_of_number number prims) k ≡ Some x
    → slice_get (places_of_number number front) k ≡ Some x
number_kth prims front n number k x is within found =
    let here : slice_get (values_of prims) number ≡ slice_get (values_of front) number =
    same_there prims n number k (subst (λ ps. k < length (places_of_number number ps)) (sym is) within) ∙ ap (λ ps. slice_get (values_of ps) number) is in
    entry_kth prims front n k x (slice_get (values_of front) number) is within
    (subst (λ f. slice_get (option_map_or (λ value. places_where (has_value value) prims) f []) k ≡ Some x) here found)

-- it is below the end of the list
entry_within : (prims : List Primitive) (k x : ℕ) (f : Option Datum) → slice_get (option_map_or (λ value. places_where (has_value value) prims) f []) k ≡ Some x → x < length prims
entry_within prims k x None found = cc
entry_within prims k x (Some v) found = place_within (has_value v) prims k x found

pub number_within : (prims : List Primitive) (number k x : ℕ) → slice_get (places_of_number number prims) k ≡ Some x → x < length prims
number_within prims number k x found = entry_within prims k x (slice_get (values_of prims) number) found
