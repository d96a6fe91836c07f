-- The left ends of primitives, as these are entered and taken out again.
use Rattle.std.proofs.Common.{◌≡◌, ◌≢◌, ◌∙◌, ℕ, zero, suc, ◌+◌, ◌<◌, ◌≤◌, List, [], ◌∷◌, ◌++◌, length, take, Bool, true, false, cond, ◌&&◌, ◌||◌, ◌⊎◌, inl, inr, ⊎_elim, Option, Some, None, refl, sym, ap, subst, get_or, arith}
use Rattle.std.specs.Prelude.{fold, position, nat_le, ◌==◌, slice_get, is_some, option_and_then, if◌then◌else◌}
use Rattle.std.specs.Option.{option_map_or, option_to_list}
use Rattle.std.specs.List.{list_any, cons_option, position_or_len}
use Rattle.std.proofs.lemmas.Bool.{and_parts, leb-true, le-leb, eq-eqb, ne_eqb}
use Rattle.std.proofs.lemmas.List.{append-nil}
use Rattle.std.proofs.lemmas.List.Elements.{filter_map-append}
use Rattle.std.proofs.lemmas.List.Quantifiers.{position-Some}
use Rattle.std.proofs.lemmas.Option.{slice_get-get_or}
use Rattle.gd_base.specs.declared.datum.Datum.{Datum}
use Rattle.gd_base.specs.Order.{datum_eq}
use Rattle.gd_base.proofs.Order.{datum_eq_decides}
use Rattle.gd_prim.specs.declared.End.{End}
use Rattle.gd_prim.specs.declared.End.TheVariants.{Left, Right, Typ}
use Rattle.gd_prim.specs.declared.Primitive.{Primitive}
use Rattle.gd_prim.specs.End.{end_of, places_with}
use Rattle.gd_prim.specs.Live.{refers, end_at, places_where}
use Rattle.gd_lists.specs.Entries.{is_of, with_entry}
use Rattle.gd_valueidx.specs.Values.{with_value}
use Rattle.gd_store.specs.Lefts.{lefts_at, rises_from, LeftsRise, last_from, RisesTo, no_front, front_of, front_with, AreFronts, AreLefts}
use Rattle.gd_store.specs.Valued.{has_value, values_of, number_in, places_of_number}
use Rattle.gd_store.specs.declared.lefts.Lefts.{Lefts}
use Rattle.gd_store.proofs.Entered.{front_more, where_more}
use Rattle.gd_store.proofs.Valued.{any_value, any_with, get_past, none_from, number_within, position_is, values_more}
use Rattle.gd_store.proofs.Within.{place_within}

-- ---- lists that rise

-- the last is not below the least
least_last : (m : ℕ) (xs : List ℕ) → rises_from m xs ≡ true → m ≤ last_from m xs
least_last m [] rises = omega arith
least_last m (x ∷ xs) rises =
    let parts = and_parts (nat_le m x) (rises_from x xs) rises in
    omega (arith, leb-true m x parts.0, least_last x xs parts.1)

-- one more that is not below the last
rises_more : (m : ℕ) (xs : List ℕ) (x : ℕ) → rises_from m xs ≡ true → nat_le (last_from m xs) x ≡ true → rises_from m (xs ++ x ∷ []) ≡ true
rises_more m [] x rises up = ap (λ b. b && true) up
rises_more m (y ∷ xs) x rises up =
    let parts = and_parts (nat_le m y) (rises_from y xs) rises in
    ap (λ b. b && rises_from y (xs ++ x ∷ [])) parts.0 ∙ rises_more y xs x parts.1 up

last_more : (m : ℕ) (xs : List ℕ) (x : ℕ) → last_from m (xs ++ x ∷ []) ≡ x
last_more m [] x = refl
last_more m (y ∷ xs) x = last_more y xs x

-- a front of it
rises_less : (m : ℕ) (xs ys : List ℕ) → rises_from m (xs ++ ys) ≡ true → rises_from m xs ≡ true
rises_less m [] ys rises = refl
rises_less m (x ∷ xs) ys rises =
    let parts = and_parts (nat_le m x) (rises_from x (xs ++ ys)) rises in
    ap (λ b. b && rises_from x xs) parts.0 ∙ rises_less x xs ys parts.1

last_less : (m : ℕ) (xs ys : List ℕ) → rises_from m (xs ++ ys) ≡ true → last_from m xs ≤ last_from m (xs ++ ys)
last_less m [] ys rises = least_last m ys rises
last_less m (x ∷ xs) ys rises = last_less x xs ys (and_parts (nat_le m x) (rises_from x (xs ++ ys)) rises).1

-- ---- numbered lists of places

-- one primitive more comes to the lists whose numbers pass a test, and the places are those of primitives
pub record Grows (places : ℕ → List Primitive → List ℕ) (test : Primitive → List Primitive → ℕ → Bool) : Type 0 where
  pub more : (n : ℕ) (before : List Primitive) (p : Primitive) → places n (before ++ p ∷ []) ≡ with_entry (test p before n) (length before) (places n before)
  pub within : (n : ℕ) (prims : List Primitive) (k x : ℕ) → slice_get (places n prims) k ≡ Some x → x < length prims

-- the left end at a place, with one primitive more
end_before : (before : List Primitive) (p : Primitive) (x : ℕ) → x < length before → end_at (end_of Left) (before ++ p ∷ []) x ≡ end_at (end_of Left) before x
end_before before p x inside = ap (option_and_then (end_of Left)) (get_before before p x inside)
  where
    get_before : (xs : List Primitive) (y : Primitive) (i : ℕ) → i < length xs → slice_get (xs ++ y ∷ []) i ≡ slice_get xs i
    get_before [] y i inside = absurd (omega (arith, inside))
    get_before (x ∷ xs) y zero inside = refl
    get_before (x ∷ xs) y (suc i) inside = get_before xs y i (omega (arith, inside))

end_last : (before : List Primitive) (p : Primitive) → end_at (end_of Left) (before ++ p ∷ []) (length before) ≡ p.left
end_last [] p = refl
end_last (b ∷ before) p = end_last before p

lefts_before : (before : List Primitive) (p : Primitive) (places : List ℕ) → ((k x : ℕ) → slice_get places k ≡ Some x → x < length before) → lefts_at (before ++ p ∷ []) places ≡ lefts_at before places
lefts_before before p [] within = refl
lefts_before before p (x ∷ places) within =
    ap (λ o. cons_option o (lefts_at (before ++ p ∷ []) places)) (end_before before p x (within 0 x refl))
    ∙ ap (cons_option (end_at (end_of Left) before x)) (lefts_before before p places (λ k y is. within (suc k) y is))

-- what one primitive more adds to the left ends of a list
abbrev added : Bool → Option ℕ → List ℕ
added true left = option_to_list left
added false left = []

lefts_more : (before : List Primitive) (p : Primitive) (b : Bool) (places : List ℕ) → ((k x : ℕ) → slice_get places k ≡ Some x → x < length before)
    → lefts_at (before ++ p ∷ []) (with_entry b (length before) places) ≡ lefts_at before places ++ added b p.left
lefts_more before p false places within = lefts_before before p places within ∙ sym (append-nil (lefts_at before places))
lefts_more before p true places within =
    filter_map-append (end_at (end_of Left) (before ++ p ∷ [])) places (length before ∷ [])
    ∙ ap (λ xs. xs ++ lefts_at (before ++ p ∷ []) (length before ∷ [])) (lefts_before before p places within)
    ∙ ap (λ xs. lefts_at before places ++ xs) (ap (λ o. cons_option o []) (end_last before p) ∙ alone p.left)
  where
    alone : (o : Option ℕ) → cons_option o [] ≡ option_to_list o
    alone None = refl
    alone (Some x) = refl

grown : (places : ℕ → List Primitive → List ℕ) (test : Primitive → List Primitive → ℕ → Bool) → Grows places test → (n : ℕ) (before : List Primitive) (p : Primitive)
    → lefts_at (before ++ p ∷ []) (places n (before ++ p ∷ [])) ≡ lefts_at before (places n before) ++ added (test p before n) p.left
grown places test grows n before p =
    ap (lefts_at (before ++ p ∷ [])) (grows.more n before p) ∙ lefts_more before p (test p before n) (places n before) (grows.within n before)

-- ---- fronts

-- what rises to a front does so without the last ones
rises_to_less : (front : ℕ) (xs ys : List ℕ) → RisesTo front (xs ++ ys) → RisesTo front xs
rises_to_less front xs ys to = record {
  rises = rises_less 0 xs ys to.rises;
  last = let less = last_less 0 xs ys to.rises in omega (arith, less, to.last);
}

fronts_less : (places : ℕ → List Primitive → List ℕ) (test : Primitive → List Primitive → ℕ → Bool) → Grows places test → (fronts : List ℕ) (before : List Primitive) (p : Primitive)
    → AreFronts places fronts (before ++ p ∷ []) → AreFronts places fronts before
fronts_less places test grows fronts before p are = λ n known.
    rises_to_less (front_of fronts n) (lefts_at before (places n before)) (added (test p before n) p.left) (subst (RisesTo (front_of fronts n)) (grown places test grows n before p) (are n known))

-- the same numbers
fronts_same : (places : ℕ → List Primitive → List ℕ) (old new : List ℕ) (prims : List Primitive) → ((n : ℕ) → front_of new n ≡ front_of old n) → AreFronts places old prims → AreFronts places new prims
fronts_same places old new prims same are = λ n known.
    subst (λ f. RisesTo f (lefts_at prims (places n prims))) (sym (same n)) (are n (subst (λ f. f < no_front) (same n) known))

-- one more at its number
one_more : (test : Bool) (left : Option ℕ) (front : ℕ) (lefts : List ℕ) → (front < no_front → RisesTo front lefts) → front_with test left front < no_front → RisesTo (front_with test left front) (lefts ++ added test left)
one_more false left front lefts to known = subst (RisesTo front) (sym (append-nil lefts)) (to known)
one_more true None front lefts to known = subst (RisesTo front) (sym (append-nil lefts)) (to known)
one_more true (Some x) front lefts to known = by (nat_le front x) refl known
  where
    at_most : (a b : ℕ) → a ≤ b → nat_le a b ≡ true
    at_most a b le = le-leb a b le

    by : (b : Bool) → nat_le front x ≡ b → (if b then x else no_front) < no_front → RisesTo (if b then x else no_front) (lefts ++ x ∷ [])
    by true up known =
        let less : front ≤ x = leb-true front x up in
        let old = to (omega (arith, less, known)) in
        record {
          rises = rises_more 0 lefts x old.rises (at_most (last_from 0 lefts) x (omega (arith, old.last, less)));
          last = let last = last_more 0 lefts x in omega (arith, last);
        }
    by false up known = absurd (omega (arith, known))

fronts_more : (places : ℕ → List Primitive → List ℕ) (test : Primitive → List Primitive → ℕ → Bool) → Grows places test → (old new : List ℕ) (before : List Primitive) (p : Primitive)
    → ((n : ℕ) → front_of new n ≡ front_with (test p before n) p.left (front_of old n)) → AreFronts places old before → AreFronts places new (before ++ p ∷ [])
fronts_more places test grows old new before p entered are = λ n known.
    let one = one_more (test p before n) p.left (front_of old n) (lefts_at before (places n before)) (are n) (subst (λ f. f < no_front) (entered n) known) in
    subst (λ f. RisesTo f (lefts_at (before ++ p ∷ []) (places n (before ++ p ∷ [])))) (sym (entered n))
    (subst (RisesTo (front_with (test p before n) p.left (front_of old n))) (sym (grown places test grows n before p)) one)

-- ---- nodes

named : (o : Option ℕ) (n : ℕ) → refers o n ≡ is_of o n
named None n = refl
named (Some p) n = refl

nodes_grow : (end : End) → Grows (places_with end) (λ p before n. is_of (end_of end p) n)
nodes_grow end = record {
  more = λ n before p. where_more (λ q. refers (end_of end q) n) before p (is_of (end_of end p) n) (length before) (named (end_of end p) n) refl;
  within = λ n prims k x is. place_within (λ q. refers (end_of end q) n) prims k x is;
}

-- ---- values

-- no value has two numbers
abbrev Distinct : List Datum → Type 0
Distinct vs = (i j : ℕ) (w : Datum) → slice_get vs i ≡ Some w → slice_get vs j ≡ Some w → i ≡ j

not_there : (v : Datum) (vs : List Datum) (i : ℕ) → list_any (datum_eq v) vs ≡ false → slice_get vs i ≢ Some v
not_there v [] i none = λ is. cc
not_there v (x ∷ vs) zero none = λ is.
    let same : v ≡ x = cc in
    true_is (datum_eq v x) (list_any (datum_eq v) vs) ((datum_eq_decides v x).1 same) none
  where
    true_is : (a b : Bool) → a ≡ true → (a || b) ≡ false → ⊥
    true_is true b is none = cc
    true_is false b is none = cc
not_there v (x ∷ vs) (suc i) none = not_there v vs i (rest (datum_eq v x) (list_any (datum_eq v) vs) none)
  where
    rest : (a b : Bool) → (a || b) ≡ false → b ≡ false
    rest true b none = cc
    rest false b none = none

got_more : (vs : List Datum) (v : Datum) (i : ℕ) (w : Datum) → slice_get (vs ++ v ∷ []) i ≡ Some w → (slice_get vs i ≡ Some w) ⊎ ((i ≡ length vs) × (v ≡ w))
got_more [] v zero w is = inr (refl, (let same : v ≡ w = cc in same))
got_more [] v (suc i) w is = cc
got_more (x ∷ vs) v zero w is = inl is
got_more (x ∷ vs) v (suc i) w is = ⊎_elim (λ got. inl got) (λ last. inr (ap suc last.0, last.1)) (got_more vs v i w is)

distinct_behind : (vs : List Datum) (v : Datum) → list_any (datum_eq v) vs ≡ false → Distinct vs → Distinct (vs ++ v ∷ [])
distinct_behind vs v none distinct = λ i j w one other. by i j w (got_more vs v i w one) (got_more vs v j w other)
  where
    by : (i j : ℕ) (w : Datum) → (slice_get vs i ≡ Some w) ⊎ ((i ≡ length vs) × (v ≡ w)) → (slice_get vs j ≡ Some w) ⊎ ((j ≡ length vs) × (v ≡ w)) → i ≡ j
    by i j w (inl one) (inl other) = distinct i j w one other
    by i j w (inr one) (inr other) = one.0 ∙ sym other.0
    by i j w (inl one) (inr other) = absurd (not_there v vs i none (one ∙ ap Some (sym other.1)))
    by i j w (inr one) (inl other) = absurd (not_there v vs j none (other ∙ ap Some (sym one.1)))

distinct_with : (vs : List Datum) (v : Datum) → Distinct vs → Distinct (with_value v vs)
distinct_with vs v distinct = by (list_any (datum_eq v) vs) refl
  where
    by : (b : Bool) → list_any (datum_eq v) vs ≡ b → Distinct (if b then vs else vs ++ v ∷ [])
    by true is = distinct
    by false is = distinct_behind vs v is distinct

distinct_fold : (acc : List Datum) (prims : List Primitive) → Distinct acc → Distinct (fold (λ values (p : Primitive). with_value p.value values) acc prims)
distinct_fold acc [] distinct = distinct
distinct_fold acc (p ∷ prims) distinct = distinct_fold (with_value p.value acc) prims (distinct_with acc p.value distinct)

values_distinct : (prims : List Primitive) → Distinct (values_of prims)
values_distinct prims = distinct_fold [] prims (λ i j w one other. cc)

-- a value stands at its number
at_number : (v : Datum) (vs : List Datum) (k : ℕ) → position (datum_eq v) vs ≡ Some k → slice_get vs k ≡ Some v
at_number v vs k is =
    let found = position-Some (datum_eq v) vs k v is in
    slice_get-get_or vs k v found.0 ∙ ap Some (sym ((datum_eq_decides v (get_or vs k v)).0 found.1))

has_position : (t : Datum → Bool) (vs : List Datum) → list_any t vs ≡ true → is_some (position t vs) ≡ true
has_position t vs any = ap is_some (position_is t vs ∙ ap (λ b. cond b (Some (position_or_len t vs)) None) any)

none_front : (xs ys : List Datum) (n : ℕ) → slice_get (xs ++ ys) n ≡ None → slice_get xs n ≡ None
none_front [] ys n is = refl
none_front (x ∷ xs) ys zero is = cc
none_front (x ∷ xs) ys (suc n) is = none_front xs ys n is

-- the places of a number, by the value that has it
numbered : (n : ℕ) (prims : List Primitive) (o : Option Datum) → slice_get (values_of prims) n ≡ o → places_of_number n prims ≡ option_map_or (λ w. places_where (has_value w) prims) o []
numbered n prims o is = ap (λ f. option_map_or (λ w. places_where (has_value w) prims) f []) is

more_value : (before : List Primitive) (p : Primitive) (n : ℕ) (ws : List Datum) → Distinct ws → (k : ℕ) → slice_get ws k ≡ Some p.value → (o : Option Datum) → slice_get ws n ≡ o
    → ((w : Datum) → o ≡ Some w → places_where (has_value w) before ≡ places_of_number n before) → (o ≡ None → places_of_number n before ≡ [])
    → option_map_or (λ w. places_where (has_value w) (before ++ p ∷ [])) o [] ≡ with_entry (k == n) (length before) (places_of_number n before)
more_value before p n ws distinct k there None is back none =
    sym (ap (λ b. with_entry b (length before) (places_of_number n before)) (ne_eqb k n apart) ∙ none refl)
  where
    apart : k ≢ n
    apart same = let clash : Some p.value ≡ None = sym there ∙ ap (slice_get ws) same ∙ is in cc
more_value before p n ws distinct k there (Some w) is back none =
    where_more (has_value w) before p (k == n) (length before) (told (datum_eq w p.value) refl) refl ∙ ap (with_entry (k == n) (length before)) (back w refl)
  where
    told : (b : Bool) → datum_eq w p.value ≡ b → datum_eq w p.value ≡ (k == n)
    told true same = same ∙ sym (eq-eqb k n (distinct k n p.value there (is ∙ ap Some ((datum_eq_decides w p.value).0 same))))
    told false other = other ∙ sym (ne_eqb k n apart)
      where
        apart : k ≢ n
        apart same =
            let equal : Some w ≡ Some p.value = sym is ∙ ap (slice_get ws) (sym same) ∙ there in
            let one : w ≡ p.value = cc in
            let clash : false ≡ true = sym other ∙ (datum_eq_decides w p.value).1 one in
            cc

-- the values behind one primitive more
values_after : (before : List Primitive) (p : Primitive) (n : ℕ) (b : Bool) → list_any (datum_eq p.value) (values_of before) ≡ b → (k : ℕ)
    → slice_get (if b then values_of before else values_of before ++ p.value ∷ []) k ≡ Some p.value → Distinct (if b then values_of before else values_of before ++ p.value ∷ [])
    → option_map_or (λ w. places_where (has_value w) (before ++ p ∷ [])) (slice_get (if b then values_of before else values_of before ++ p.value ∷ []) n) []
    ≡ with_entry (k == n) (length before) (places_of_number n before)
values_after before p n true any k there distinct =
    more_value before p n (values_of before) distinct k there (slice_get (values_of before) n) refl (λ w is. sym (numbered n before (Some w) is)) (λ is. numbered n before None is)
values_after before p n false any k there distinct =
    more_value before p n (values_of before ++ p.value ∷ []) distinct k there (slice_get (values_of before ++ p.value ∷ []) n) refl
    (λ w is. ⊎_elim (λ old. sym (numbered n before (Some w) old)) (λ new. fresh w new.0 new.1) (got_more (values_of before) p.value n w is))
    (λ is. numbered n before None (none_front (values_of before) (p.value ∷ []) n is))
  where
    fresh : (w : Datum) → n ≡ length (values_of before) → p.value ≡ w → places_where (has_value w) before ≡ places_of_number n before
    fresh w end same =
        ap (λ (v : Datum). places_where (has_value v) before) (sym same) ∙ none_from (has_value p.value) 0 before (sym (any_value p.value before) ∙ any)
        ∙ sym (numbered n before None (get_past (values_of before) n (omega (arith, end))))

number_more : (n : ℕ) (before : List Primitive) (p : Primitive) → places_of_number n (before ++ p ∷ []) ≡ with_entry (is_of (number_in p.value (before ++ p ∷ [])) n) (length before) (places_of_number n before)
number_more n before p = by (number_in p.value (before ++ p ∷ [])) refl
  where
    any : list_any (datum_eq p.value) (values_of (before ++ p ∷ [])) ≡ true
    any = ap (list_any (datum_eq p.value)) (values_more before p) ∙ any_with p.value p.value (values_of before)
        ∙ ap (λ b. list_any (datum_eq p.value) (values_of before) || b) ((datum_eq_decides p.value p.value).1 refl) ∙ or_true (list_any (datum_eq p.value) (values_of before))
      where
        or_true : (b : Bool) → (b || true) ≡ true
        or_true true = refl
        or_true false = refl

    by : (o : Option ℕ) → number_in p.value (before ++ p ∷ []) ≡ o → places_of_number n (before ++ p ∷ []) ≡ with_entry (is_of o n) (length before) (places_of_number n before)
    by None is =
        let some : is_some (number_in p.value (before ++ p ∷ [])) ≡ true = has_position (datum_eq p.value) (values_of (before ++ p ∷ [])) any in
        let clash : false ≡ true = sym (ap is_some is) ∙ some in
        cc
    by (Some k) is =
        let here : slice_get (with_value p.value (values_of before)) k ≡ Some p.value = ap (λ (vs : List Datum). slice_get vs k) (sym (values_more before p)) ∙ at_number p.value (values_of (before ++ p ∷ [])) k is in
        ap (λ (vs : List Datum). option_map_or (λ w. places_where (has_value w) (before ++ p ∷ [])) (slice_get vs n) []) (values_more before p)
        ∙ values_after before p n (list_any (datum_eq p.value) (values_of before)) refl k here (distinct_with (values_of before) p.value (values_distinct before))

numbers_grow : Grows places_of_number (λ p before n. is_of (number_in p.value (before ++ p ∷ [])) n)
numbers_grow = record {
  more = number_more;
  within = λ n prims k x is. number_within prims n k x is;
}

-- ---- the fronts of all lists

-- without the last primitive
less_last : (lefts : Lefts) (before : List Primitive) (p : Primitive) → AreLefts lefts (before ++ p ∷ []) → AreLefts lefts before
less_last lefts before p are = record {
  right = fronts_less (places_with Right) _ (nodes_grow Right) lefts.right before p are.right;
  typ = fronts_less (places_with Typ) _ (nodes_grow Typ) lefts.typ before p are.typ;
  value = fronts_less places_of_number _ numbers_grow lefts.value before p are.value;
}

parted : (n : ℕ) (ps : List Primitive) → (take (n + 1) ps ≡ take n ps) ⊎ ((p : Primitive) × (take (n + 1) ps ≡ take n ps ++ p ∷ []))
parted zero [] = inl refl
parted (suc n) [] = let next : suc n + 1 ≡ suc (n + 1) = omega arith in inl (rw next refl)
parted zero (p ∷ ps) = inr (p, refl)
parted (suc n) (p ∷ ps) = let next : suc n + 1 ≡ suc (n + 1) = omega arith in
    rw next (⊎_elim (λ same. inl (ap (λ qs. p ∷ qs) same)) (λ more. inr (more.0, ap (λ qs. p ∷ qs) more.1)) (parted n ps))

pub lefts_less : (lefts : Lefts) (prims : List Primitive) (place : ℕ) → AreLefts lefts (take (place + 1) prims) → AreLefts lefts (take place prims)
lefts_less lefts prims place are = ⊎_elim
    (λ same. subst (AreLefts lefts) same are)
    (λ more. less_last lefts (take place prims) more.0 (subst (AreLefts lefts) more.1 are))
    (parted place prims)

-- numbers that say the same
pub lefts_same : (old new : Lefts) (prims : List Primitive) → ((n : ℕ) → front_of new.right n ≡ front_of old.right n) → ((n : ℕ) → front_of new.typ n ≡ front_of old.typ n)
    → ((n : ℕ) → front_of new.value n ≡ front_of old.value n) → AreLefts old prims → AreLefts new prims
lefts_same old new prims right typ value are = record {
  right = fronts_same (places_with Right) old.right new.right prims right are.right;
  typ = fronts_same (places_with Typ) old.typ new.typ prims typ are.typ;
  value = fronts_same places_of_number old.value new.value prims value are.value;
}

-- at each of the three ends that is entered, the fronts of what came before stay known; where all are, those of one primitive more are known
pub lefts_entered : (old new : Lefts) (prims : List Primitive) (place : ℕ) (p : Primitive) → slice_get prims place ≡ Some p → AreLefts old (take place prims)
    → ((n : ℕ) → front_of new.right n ≡ front_with (is_of p.right n) p.left (front_of old.right n))
    → ((n : ℕ) → front_of new.typ n ≡ front_with (is_of p.typ n) p.left (front_of old.typ n))
    → ((n : ℕ) → front_of new.value n ≡ front_with (is_of (number_in p.value (take (place + 1) prims)) n) p.left (front_of old.value n))
    → AreLefts new (take (place + 1) prims)
lefts_entered old new prims place p is are right typ value = subst (AreLefts new) (sym (front_more prims place p is)) (record {
  right = fronts_more (places_with Right) _ (nodes_grow Right) old.right new.right (take place prims) p right are.right;
  typ = fronts_more (places_with Typ) _ (nodes_grow Typ) old.typ new.typ (take place prims) p typ are.typ;
  value = fronts_more places_of_number _ numbers_grow old.value new.value (take place prims) p
      (subst (λ (qs : List Primitive). (n : ℕ) → front_of new.value n ≡ front_with (is_of (number_in p.value qs) n) p.left (front_of old.value n)) (front_more prims place p is) value) are.value;
})

-- the fronts of nodes alone
pub nodes_entered : (old new : Lefts) (prims : List Primitive) (place : ℕ) (p : Primitive) → slice_get prims place ≡ Some p → AreLefts old (take place prims)
    → ((n : ℕ) → front_of new.right n ≡ front_with (is_of p.right n) p.left (front_of old.right n))
    → (((n : ℕ) → front_of new.typ n ≡ front_of old.typ n) ⊎ ((n : ℕ) → front_of new.typ n ≡ front_with (is_of p.typ n) p.left (front_of old.typ n)))
    → ((n : ℕ) → front_of new.value n ≡ front_of old.value n) → AreLefts new (take place prims)
nodes_entered old new prims place p is are right typ value = record {
  right = fronts_less (places_with Right) _ (nodes_grow Right) new.right (take place prims) p (fronts_more (places_with Right) _ (nodes_grow Right) old.right new.right (take place prims) p right are.right);
  typ = ⊎_elim (λ same. fronts_same (places_with Typ) old.typ new.typ (take place prims) same are.typ)
      (λ more. fronts_less (places_with Typ) _ (nodes_grow Typ) new.typ (take place prims) p (fronts_more (places_with Typ) _ (nodes_grow Typ) old.typ new.typ (take place prims) p more are.typ)) typ;
  value = fronts_same places_of_number old.value new.value (take place prims) value are.value;
}

-- ---- views

-- what is known of a list is known of each front of it
lefts_front : (lefts : Lefts) (prims : List Primitive) (n d : ℕ) → AreLefts lefts (take (n + d) prims) → AreLefts lefts (take n prims)
lefts_front lefts prims n zero are = let same : n + 0 ≡ n = omega arith in subst (λ m. AreLefts lefts (take m prims)) same are
lefts_front lefts prims n (suc d) are =
    let same : n + suc d ≡ n + d + 1 = omega arith in
    lefts_front lefts prims n d (lefts_less lefts prims (n + d) (subst (λ m. AreLefts lefts (take m prims)) same are))

pub lefts_below : (lefts : Lefts) (prims : List Primitive) (n : ℕ) → AreLefts lefts prims → AreLefts lefts (take n prims)
lefts_below lefts prims n are = lefts_front lefts prims n (length prims) (subst (AreLefts lefts) (sym (whole prims (n + length prims) (omega arith))) are)
  where
    whole : (ps : List Primitive) (m : ℕ) → length ps ≤ m → take m ps ≡ ps
    whole [] zero less = refl
    whole [] (suc m) less = refl
    whole (p ∷ ps) zero less = absurd (omega (arith, less))
    whole (p ∷ ps) (suc m) less = ap (λ qs. p ∷ qs) (whole ps m (omega (arith, less)))

-- LAW: a front that is known says that the left ends rise
pub rise_known : (places : ℕ → List Primitive → List ℕ) (fronts : List ℕ) (prims : List Primitive) (n : ℕ) → AreFronts places fronts prims → front_of fronts n < no_front → LeftsRise prims (places n prims)
rise_known places fronts prims n are known = (are n known).rises

-- what is seen at a number is seen at one that is the same
pub sees_by : (a b left : Option ℕ) (old new : List ℕ) → a ≡ b → ((n : ℕ) → front_of new n ≡ front_with (is_of a n) left (front_of old n)) → (n : ℕ) → front_of new n ≡ front_with (is_of b n) left (front_of old n)
sees_by a b left old new same seen n = seen n ∙ ap (λ o. front_with (is_of o n) left (front_of old n)) same
