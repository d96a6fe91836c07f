-- The objects of a fact, by lists of links.
use Rattle.std.proofs.Common.{◌≡◌, ℕ, suc, ◌+◌, ◌<◌, ◌≤◌, Bool, true, false, cond, ◌&&◌, List, [], ◌∷◌, ◌++◌, length, get_or, Option, Some, None, refl, sym, ap, ◌∙◌, arith, length-append}
use Rattle.std.specs.Prelude.{slice_get, filter, not, option_and_then, if◌then◌else◌, ◌||◌, ◌==◌, nat_lt}
use Rattle.std.specs.Option.{option_map_or}
use Rattle.std.specs.List.{filter_map, range_with_len, list_any, cons_option, position_or_len}
use Rattle.std.proofs.lemmas.Bool.{eq-eqb, eqb-true, lt-ltb, le-ltb, ltb-true, ltb-false}
use Rattle.std.proofs.lemmas.Option.{slice_get_within, slice_get-get_or, none-some}
use Rattle.std.proofs.lemmas.List.Elements.{filter_map-append}
use Rattle.std.proofs.lemmas.List.Quantifiers.{position-Some}
use Rattle.gd_base.specs.declared.datum.Datum.{Datum}
use Rattle.gd_base.specs.declared.datum.Datum.TheVariants as datum
use Rattle.gd_base.specs.Order.{datum_eq}
use Rattle.gd_base.proofs.Order.{datum_eq_decides}
use Rattle.gd_prim.specs.declared.Primitive.{Primitive}
use Rattle.gd_prim.specs.declared.End.TheVariants.{Typ}
use Rattle.gd_prim.specs.End.{end_of, places_with}
use Rattle.gd_prim.specs.History.{prims_of}
use Rattle.gd_prim.specs.Live.{refers, is_live, passes_at, places_where, end_at, value_at, object_datum}
use Rattle.gd_store.specs.Scan.{places_from}
use Rattle.gd_store.specs.Valued.{has_value, values_of, number_in, places_of_number}
use Rattle.gd_store.proofs.Valued.{any_value}
use Rattle.gd_defs.specs.Plan as plan
use Rattle.gd_defs.specs.Property.{Property, is_of, in_language, holds_values, expects_of, holds_expected, leads_to_object, near_of, far_of}
use Rattle.gd_defs.specs.Write.Parts.{Target, to_object, to_value, to_key, is_target, has_fact}
use Rattle.gd_list_laws.proofs.Places.{filter_map-places, and-comm}
use Rattle.gd_growing.specs.State.{State, so_far}
use Rattle.gd_growing.specs.Scan.{is_answer, is_answer_at, is_wanted_at, holder_at, datum_of, far_side}
use Rattle.gd_growing.specs.Facts.{Holds}
use Rattle.gd_growing.proofs.Answering.{range_split, answers_all}
use Rattle.gd_growing.proofs.Behind.{at_front}
use Rattle.gd_growing.proofs.Targets.{gives_value, gives_object, some_holds}

-- ---- of a list, only what passes a test

-- what gives nothing may be left out
chosen : {B : Type 0} (h : ℕ → Option B) (test : ℕ → Bool) (xs : List ℕ) → ((k : ℕ) → test k ≡ false → h k ≡ None) → filter_map h (filter test xs) ≡ filter_map h xs
chosen h test [] none = refl
chosen {B} h test (x ∷ xs) none = by (test x) refl (chosen h test xs none)
  where
    by : (b : Bool) → test x ≡ b → filter_map h (filter test xs) ≡ filter_map h xs → filter_map h (cond b (x ∷ filter test xs) (filter test xs)) ≡ cons_option (h x) (filter_map h xs)
    by true is rest = ap (cons_option (h x)) rest
    by false is rest = rest ∙ sym (ap (λ (o : Option B). cons_option o (filter_map h xs)) (none x is))

-- the places of a front whose primitive passes, as a filter
front_places : (base made : List Primitive) (t : Primitive → Bool) → places_where t base ≡ filter (passes_at t (base ++ made)) (range_with_len 0 (length base))
front_places base made t = filter_map-places (λ e. t e.1) (passes_at t (base ++ made)) base [] base 0 refl refl
    (λ k q at. ap (λ (found : Option Primitive). option_map_or t found false) (sym (at_front base made k (slice_get_within base k q at) ∙ at)))

-- a link that is wanted of no object has none
unheld : (prims : List Primitive) (p : Property) (t : Target) (k : ℕ) → ((o : ℕ) → is_wanted_at prims p o (Some t) k ≡ false) → holder_at prims p t k ≡ None
unheld prims p t k none = by (end_at (near_of p) prims k)
  where
    by : (near : Option ℕ) → option_and_then (λ o. if is_wanted_at prims p o (Some t) k then Some o else None) near ≡ None
    by None = refl
    by (Some o) = ap (λ (b : Bool). if b then Some o else None) (none o)

-- so a test that each wanted link passes gives a list on which all objects of the fact are
on_list : (s : State) (p : Property) (t : Target) (test : Primitive → Bool) → ((o k : ℕ) → passes_at test (so_far s) k ≡ false → is_wanted_at (so_far s) p o (Some t) k ≡ false)
    → Holds s p t (places_where test (prims_of s.batches))
on_list s p t test out =
    ap (filter_map (holder_at (so_far s) p t)) (front_places (prims_of s.batches) s.made test)
    ∙ chosen (holder_at (so_far s) p t) (passes_at test (so_far s)) (range_with_len 0 (length (prims_of s.batches))) (λ k off. unheld (so_far s) p t k (λ o. out o k off))

and_false : (a : Bool) → (a && false) ≡ false
and_false true = refl
and_false false = refl

-- ---- the links of the property

answer_typed : (prims : List Primitive) (p : Property) (o k : ℕ) → passes_at (λ q. refers (end_of Typ q) p.stored) prims k ≡ false → is_answer_at prims p o k ≡ false
answer_typed prims p o k = by (slice_get prims k)
  where
    one : (b live : Bool) (q : Primitive) → refers q.typ p.stored ≡ false → (is_answer prims (record p { reversed = b }) o q && live) ≡ false
    one true live q off = ap (λ (c : Bool). (c && in_language p q && refers q.right o && leads_to_object prims q.left) && live) off
    one false live q off = ap (λ (c : Bool). (c && in_language p q && refers q.left o && holds_expected prims (expects_of p.expected) q) && live) off

    by : (at : Option Primitive) → option_map_or (λ q. refers (end_of Typ q) p.stored) at false ≡ false → (option_map_or (is_answer prims p o) at false && is_live prims k) ≡ false
    by None off = refl
    by (Some q) off = one p.reversed (is_live prims k) q off

pub of_property : (s : State) (p : Property) (t : Target) → Holds s p t (places_with Typ p.stored (prims_of s.batches))
of_property s p t = on_list s p t (λ q. refers (end_of Typ q) p.stored)
    (λ o k off. ap (λ (b : Bool). is_target (so_far s) p t k && b) (answer_typed (so_far s) p o k off) ∙ and_false (is_target (so_far s) p t k))

-- ---- the links to an object

abbrev place_in : Datum → ℕ
place_in (datum.Object p) = p
place_in _ = 0

other_object : (x o : ℕ) → (x == o) ≡ false → datum_eq (datum.Object x) (datum.Object o) ≡ false
other_object x o off = by (datum_eq (datum.Object x) (datum.Object o)) refl
  where
    by : (b : Bool) → datum_eq (datum.Object x) (datum.Object o) ≡ b → b ≡ false
    by false is = refl
    by true is =
        let same : datum.Object x ≡ datum.Object o = (datum_eq_decides (datum.Object x) (datum.Object o)).0 is in
        let at : x ≡ o = ap place_in same in
        sym (eq-eqb x o at) ∙ off

not_to_object : (prims : List Primitive) (p : Property) (o k : ℕ) → holds_values (plan.answers_of p) ≡ false → passes_at (λ q. refers (end_of (far_side p) q) o) prims k ≡ false
    → is_target prims p (to_object o) k ≡ false
not_to_object prims p o k holds off = ap (λ (d : Datum). datum_eq d (datum.Object o)) (gives_object prims p k holds) ∙ by (slice_get prims k) off
  where
    end : (far : Option ℕ) → refers far o ≡ false → datum_eq (object_datum far) (datum.Object o) ≡ false
    end None off = refl
    end (Some x) off = other_object x o off

    one : (b : Bool) (q : Primitive) → refers (end_of (far_side (record p { reversed = b })) q) o ≡ false → datum_eq (object_datum (far_of (record p { reversed = b }) q)) (datum.Object o) ≡ false
    one true q off = end q.left off
    one false q off = end q.right off

    by : (at : Option Primitive) → option_map_or (λ q. refers (end_of (far_side p) q) o) at false ≡ false → datum_eq (object_datum (option_and_then (far_of p) at)) (datum.Object o) ≡ false
    by None off = refl
    by (Some q) off = one p.reversed q off

pub of_object : (s : State) (p : Property) (o : ℕ) → holds_values (plan.answers_of p) ≡ false → Holds s p (to_object o) (places_with (far_side p) o (prims_of s.batches))
of_object s p o holds = on_list s p (to_object o) (λ q. refers (end_of (far_side p) q) o)
    (λ n k off. ap (λ (b : Bool). b && is_answer_at (so_far s) p n k) (not_to_object (so_far s) p o k holds off))

-- ---- the links with a value

not_of_value : (prims : List Primitive) (p : Property) (t : Target) (k : ℕ) → holds_values (plan.answers_of p) ≡ true → datum_eq (value_at prims k) (datum_of t) ≡ false → is_target prims p t k ≡ false
not_of_value prims p (to_object o) k holds off = ap (λ (d : Datum). datum_eq d (datum.Object o)) (gives_value prims p k holds) ∙ off
not_of_value prims p (to_value d) k holds off = ap (λ (e : Datum). datum_eq e d) (gives_value prims p k holds) ∙ off
not_of_value prims p (to_key o key) k holds off =
    ap (λ (b : Bool). b && passes_at (λ q. refers q.right o) prims k) (ap (λ (d : Datum). datum_eq d (datum.Text key)) (gives_value prims p k holds) ∙ off)

turned_eq : (a b : Datum) → datum_eq a b ≡ false → datum_eq b a ≡ false
turned_eq a b off = by (datum_eq b a) refl
  where
    by : (c : Bool) → datum_eq b a ≡ c → c ≡ false
    by false is = refl
    by true is = sym ((datum_eq_decides a b).1 (sym ((datum_eq_decides b a).0 is))) ∙ off

not_valued : (prims : List Primitive) (p : Property) (t : Target) (n k : ℕ) → holds_values (plan.answers_of p) ≡ true → passes_at (has_value (datum_of t)) prims k ≡ false
    → is_wanted_at prims p n (Some t) k ≡ false
not_valued prims p t n k holds off = by (slice_get prims k) refl off
  where
    by : (at : Option Primitive) → slice_get prims k ≡ at → option_map_or (has_value (datum_of t)) at false ≡ false → (is_target prims p t k && is_answer_at prims p n k) ≡ false
    by None is off = ap (λ (a : Option Primitive). is_target prims p t k && (option_map_or (is_answer prims p n) a false && is_live prims k)) is ∙ and_false (is_target prims p t k)
    by (Some q) is off =
        let other : datum_eq (value_at prims k) (datum_of t) ≡ false =
        ap (λ (a : Option Primitive). datum_eq (option_map_or (λ r. r.value) a datum.Empty) (datum_of t)) is ∙ turned_eq (datum_of t) q.value off in
        ap (λ (b : Bool). b && is_answer_at prims p n k) (not_of_value prims p t k holds other)

pub of_value : (s : State) (p : Property) (t : Target) → holds_values (plan.answers_of p) ≡ true → Holds s p t (places_where (has_value (datum_of t)) (prims_of s.batches))
of_value s p t holds = on_list s p t (has_value (datum_of t)) (λ n k off. not_valued (so_far s) p t n k holds off)

-- ---- values by their numbers

-- the places of the number of a value are those that have it
pub numbered : (v : Datum) (prims : List Primitive) (n : ℕ) → number_in v prims ≡ Some n → places_of_number n prims ≡ places_where (has_value v) prims
numbered v prims n is =
    let found = position-Some (datum_eq v) (values_of prims) n v is in
    let same : v ≡ get_or (values_of prims) n v = (datum_eq_decides v (get_or (values_of prims) n v)).0 found.1 in
    ap (λ (o : Option Datum). option_map_or (λ w. places_where (has_value w) prims) o []) (slice_get-get_or (values_of prims) n v found.0 ∙ ap Some (sym same))

first_is : (b r : Bool) (m n : ℕ) → nat_lt m n ≡ r → nat_lt (cond (not b) (1 + m) 0) (suc n) ≡ (b || r)
first_is true r m n is = lt-ltb 0 (suc n) (omega arith)
first_is false true m n is = lt-ltb (1 + m) (suc n) (let less : m < n = ltb-true m n is in omega (arith, less))
first_is false false m n is = le-ltb (1 + m) (suc n) (let more : n ≤ m = ltb-false m n is in omega (arith, more))

there_is : (t : Datum → Bool) (xs : List Datum) → nat_lt (position_or_len t xs) (length xs) ≡ list_any t xs
there_is t [] = refl
there_is t (x ∷ xs) = first_is (t x) (list_any t xs) (position_or_len t xs) (length xs) (there_is t xs)

no_place : (b r : Bool) (k : ℕ) (ids : List ℕ) → (b || r) ≡ false → (r ≡ false → ids ≡ []) → cons_option (if b then Some k else None) ids ≡ []
no_place true r k ids none rest = cc
no_place false r k ids none rest = rest none

none_from : (t : Primitive → Bool) (k : ℕ) (prims : List Primitive) → list_any t prims ≡ false → places_from t k prims ≡ []
none_from t k [] none = refl
none_from t k (p ∷ prims) none = no_place (t p) (list_any t prims) k (places_from t (k + 1) prims) none (none_from t (k + 1) prims)

-- a value without a number has no place
pub unnumbered : (v : Datum) (prims : List Primitive) → number_in v prims ≡ None → [] ≡ places_where (has_value v) prims
unnumbered v prims is = sym (none_from (has_value v) 0 prims (sym (any_value v prims) ∙ by (list_any (datum_eq v) (values_of prims)) (there_is (datum_eq v) (values_of prims)) is))
  where
    by : (b : Bool) → nat_lt (position_or_len (datum_eq v) (values_of prims)) (length (values_of prims)) ≡ b → number_in v prims ≡ None → b ≡ false
    by false at none = refl
    by true at none =
        let some : number_in v prims ≡ Some (position_or_len (datum_eq v) (values_of prims)) = ap (λ (c : Bool). cond c (Some (position_or_len (datum_eq v) (values_of prims))) None) at in
        absurd (none-some (position_or_len (datum_eq v) (values_of prims)) (sym none ∙ some))

-- ---- the objects of a fact

-- an answer has its object at the end by which the property is asked
near_one : (prims : List Primitive) (p : Property) (o k : ℕ) → is_answer_at prims p o k ≡ true → end_at (near_of p) prims k ≡ Some o
near_one prims p o k = by (slice_get prims k)
  where
    at_end : (t r l : Bool) (near : Option ℕ) → ((t && refers near o && r) && l) ≡ true → near ≡ Some o
    at_end true r l None is = cc
    at_end false r l None is = cc
    at_end false r l (Some n) is = cc
    at_end true r l (Some n) is = same (n == o) refl is
      where
        same : (b : Bool) → (n == o) ≡ b → ((b && r) && l) ≡ true → Some n ≡ Some o
        same true at is = ap Some (eqb-true n o at)
        same false at is = cc

    one : (b live : Bool) (q : Primitive) → (is_answer prims (record p { reversed = b }) o q && live) ≡ true → near_of (record p { reversed = b }) q ≡ Some o
    one true live q is = at_end (is_of p q) (leads_to_object prims q.left) live q.right is
    one false live q is = at_end (is_of p q) (holds_expected prims (expects_of p.expected) q) live q.left is

    by : (at : Option Primitive) → (option_map_or (is_answer prims p o) at false && is_live prims k) ≡ true → option_and_then (near_of p) at ≡ Some o
    by None is = cc
    by (Some q) is = one p.reversed (is_live prims k) q is

-- so a link that states the fact of an object has it
held : (prims : List Primitive) (p : Property) (t : Target) (o k : ℕ) → (is_answer_at prims p o k && is_target prims p t k) ≡ true → holder_at prims p t k ≡ Some o
held prims p t o k is =
    let both : is_wanted_at prims p o (Some t) k ≡ true = and-comm (is_target prims p t k) (is_answer_at prims p o k) ∙ is in
    ap (λ (near : Option ℕ). option_and_then (λ n. if is_wanted_at prims p n (Some t) k then Some n else None) near) (near_one prims p o k (first (is_answer_at prims p o k) (is_target prims p t k) is))
    ∙ ap (λ (b : Bool). if b then Some o else None) both
  where
    first : (a b : Bool) → (a && b) ≡ true → a ≡ true
    first true b is = refl
    first false b is = cc

or_true : (a : Bool) → (a || true) ≡ true
or_true true = refl
or_true false = refl

any_filter : (p q : ℕ → Bool) (xs : List ℕ) → list_any q (filter p xs) ≡ list_any (λ k. p k && q k) xs
any_filter p q [] = refl
any_filter p q (x ∷ xs) = by (p x) (any_filter p q xs)
  where
    by : (b : Bool) → list_any q (filter p xs) ≡ list_any (λ k. p k && q k) xs → list_any q (cond b (x ∷ filter p xs) (filter p xs)) ≡ ((b && q x) || list_any (λ k. p k && q k) xs)
    by true rest = ap (λ b. q x || b) rest
    by false rest = rest

any_held : (h : ℕ → Option ℕ) (test : ℕ → Bool) (o : ℕ) (xs : List ℕ) → ((k : ℕ) → test k ≡ true → h k ≡ Some o) → list_any test xs ≡ true → list_any (λ n. n == o) (filter_map h xs) ≡ true
any_held h test o [] all is = cc
any_held h test o (x ∷ xs) all is = by (test x) refl is (any_held h test o xs all)
  where
    more : (found : Option ℕ) → list_any (λ n. n == o) (filter_map h xs) ≡ true → list_any (λ n. n == o) (cons_option found (filter_map h xs)) ≡ true
    more None is = is
    more (Some n) is = ap (λ b. (n == o) || b) is ∙ or_true (n == o)

    by : (b : Bool) → test x ≡ b → (b || list_any test xs) ≡ true → (list_any test xs ≡ true → list_any (λ n. n == o) (filter_map h xs) ≡ true) → list_any (λ n. n == o) (cons_option (h x) (filter_map h xs)) ≡ true
    by true at is rest = ap (λ (found : Option ℕ). list_any (λ n. n == o) (cons_option found (filter_map h xs))) (all x at) ∙ ap (λ b. b || list_any (λ n. n == o) (filter_map h xs)) (eq-eqb o o refl)
    by false at is rest = more (h x) (rest is)

-- where a fact holds of an object, it is among the objects of the links below the dateline and of those behind it
pub among : (s : State) (p : Property) (t : Target) (o : ℕ) (links : List ℕ) → Holds s p t links → has_fact (so_far s) p o t ≡ true
    → list_any (λ n. n == o) (filter_map (holder_at (so_far s) p t) (links ++ range_with_len (length (prims_of s.batches)) (length s.made))) ≡ true
among s p t o links holds is =
    let prims = so_far s in
    let h = holder_at prims p t in
    let base = length (prims_of s.batches) in
    let all : filter_map h (links ++ range_with_len base (length s.made)) ≡ filter_map h (range_with_len 0 (length prims)) =
    filter_map-append h links (range_with_len base (length s.made))
    ∙ ap (λ ys. ys ++ filter_map h (range_with_len base (length s.made))) holds
    ∙ sym (filter_map-append h (range_with_len 0 base) (range_with_len base (length s.made)))
    ∙ ap (filter_map h) (sym (whole base (length s.made)))
    ∙ ap (λ n. filter_map h (range_with_len 0 n)) (sym (length-append (prims_of s.batches) s.made)) in
    ap (list_any (λ n. n == o)) all
    ∙ any_held h (λ k. is_answer_at prims p o k && is_target prims p t k) o (range_with_len 0 (length prims)) (held prims p t o)
    (sym (any_filter (is_answer_at prims p o) (is_target prims p t) (range_with_len 0 (length prims))) ∙ ap (list_any (is_target prims p t)) (sym (answers_all prims p o)) ∙ some_holds prims p o t ∙ is)
  where
    whole : (a b : ℕ) → range_with_len 0 (a + b) ≡ range_with_len 0 a ++ range_with_len a b
    whole a b = range_split 0 a b ∙ ap (λ n. range_with_len 0 a ++ range_with_len n b) (let same : 0 + a ≡ a = omega arith in same)
