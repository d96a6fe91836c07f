-- What entering a primitive, and taking it out again, means for the indexes.
use Rattle.std.proofs.Common.{◌≡◌, ◌≢◌, ℕ, zero, suc, ◌+◌, ◌-◌, ◌<◌, ◌≤◌, Bool, true, false, List, [], ◌∷◌, ◌++◌, length, take, refl, sym, ap, ◌∙◌, subst, append_assoc, length-append, ⊎_elim, arith}
use Rattle.std.specs.Prelude.{Option, None, Some, ◌&&◌, ◌==◌, bytes_eq, if◌then◌else◌, slice_get, is_some, IsSome}
use Rattle.std.specs.Option.{option_map_or, option_or}
use Rattle.std.proofs.lemmas.Bool.{eq-eqb, ne_eqb, ltb-true, not-true, cases_eq}
use Rattle.std.proofs.lemmas.List.{append-nil}
use Rattle.std.proofs.Math.Seq.{take-append_seam}
use Rattle.gd_base.specs.declared.datum.Datum.{Datum}
use Rattle.gd_base.specs.declared.datum.Datum.TheVariants as datum
use Rattle.gd_prim.specs.declared.Primitive.{Primitive}
use Rattle.gd_prim.specs.Live.{refers, has_successor, successor, places_where, is_text, text_of}
use Rattle.gd_prim.specs.WellFormed.{refers_below, succeeds_current}
use Rattle.gd_postings.specs.Postings.{IsAbove, ids_below}
use Rattle.gd_versions.specs.Versions.{successor_of}
use Rattle.gd_keys.specs.Keys.{KeysValue, key_list, object_list, is_under, is_of, with_entry, without_entry, last_of, SameIds}
use Rattle.gd_store.specs.Short.{are_short}
use Rattle.gd_store.proofs.Short.{short_front}
use Rattle.gd_store.specs.Keys.{is_key_link, is_key_of}
use Rattle.gd_prim.specs.declared.End.{End}
use Rattle.gd_prim.specs.End.{end_of, places_with}
use Rattle.gd_linkage.specs.Linkage.{LinkageValue, list_of, SamePlaces, IsBehind, HasEntries}
use Rattle.gd_store.specs.Indexed.{may_come, may_enter, AreSuccessors, AreKeys, AreLinks, AreIndexes, IsIndexed, below_end}
use Rattle.gd_store.specs.declared.indexes.Indexes.{Indexes}
use Rattle.gd_store.proofs.Follows.{first, second, both}
use Rattle.gd_store.proofs.Places.{places_more, places_above, places_front, first_more, first_none, first_cut, first_some}

-- ---- fronts of a list

-- a front that is one longer
pub front_more : (xs : List Primitive) (n : ℕ) (x : Primitive) → slice_get xs n ≡ Some x → take (n + 1) xs ≡ take n xs ++ x ∷ []
front_more [] n x is = cc
front_more (y ∷ xs) zero x is =
    let same : y ≡ x = cc in
    ap (λ z. z ∷ []) same
front_more (y ∷ xs) (suc n) x is =
    let next : suc n + 1 ≡ suc (n + 1) = omega arith in
    rw next (ap (λ zs. y ∷ zs) (front_more xs n x is))

pub length_front : (xs : List Primitive) (n : ℕ) → n ≤ length xs → length (take n xs) ≡ n
length_front xs zero within = refl
length_front [] (suc n) within = absurd (omega (arith, within))
length_front (x ∷ xs) (suc n) within = ap suc (length_front xs n (omega (arith, within)))

entered_at : (before xs : List Primitive) (n : ℕ) (x : Primitive) → may_enter before xs ≡ true → slice_get xs n ≡ Some x → may_come (before ++ take n xs) x ≡ true
entered_at before [] n x entered is = cc
entered_at before (y ∷ xs) zero x entered is =
    let same : y ≡ x = cc in
    subst (λ (z : Primitive). may_come (before ++ []) z ≡ true) same (ap (λ bs. may_come bs y) (append-nil before) ∙ first _ _ entered)
entered_at before (y ∷ xs) (suc n) x entered is =
    ap (λ bs. may_come bs x) (sym (append_assoc before (y ∷ []) (take n xs))) ∙ entered_at (before ++ y ∷ []) xs n x (second _ _ entered) is

-- each primitive of a list that may be entered may come behind those before it
pub comes : (xs : List Primitive) (n : ℕ) (x : Primitive) → may_enter [] xs ≡ true → slice_get xs n ≡ Some x → may_come (take n xs) x ≡ true
comes xs n x entered is = entered_at [] xs n x entered is

-- the second of two lists may be entered behind the first
pub enters_more : (before xs ys : List Primitive) → may_enter before xs ≡ true → may_enter (before ++ xs) ys ≡ true → may_enter before (xs ++ ys) ≡ true
enters_more before [] ys here more = ap (λ bs. may_enter bs ys) (sym (append-nil before)) ∙ more
enters_more before (x ∷ xs) ys here more =
    both _ _ (first _ _ here) (enters_more (before ++ x ∷ []) xs ys (second _ _ here) (ap (λ bs. may_enter bs ys) (append_assoc before (x ∷ []) xs) ∙ more))

-- so may a front
pub enters_front : (before xs : List Primitive) (n : ℕ) → may_enter before xs ≡ true → may_enter before (take n xs) ≡ true
enters_front before xs zero entered = refl
enters_front before [] (suc n) entered = refl
enters_front before (x ∷ xs) (suc n) entered = both _ _ (first _ _ entered) (enters_front (before ++ x ∷ []) xs n (second _ _ entered))

-- ---- one previous primitive

previous_below : (bound : ℕ) (o : Option ℕ) (q : ℕ) → refers_below bound o ≡ true → o ≡ Some q → q < bound
previous_below bound None q below is = cc
previous_below bound (Some p) q below is =
    let same : p ≡ q = cc in
    omega (arith, ltb-true p bound below, same)

previous_current : (before : List Primitive) (o : Option ℕ) (q : ℕ) → succeeds_current before o ≡ true → o ≡ Some q → has_successor before q ≡ false
previous_current before None q current is = cc
previous_current before (Some p) q current is =
    let same : p ≡ q = cc in
    ap (has_successor before) (sym same) ∙ not-true (has_successor before p) current

-- it stands before the primitive
pub comes_below : (before : List Primitive) (p : Primitive) (q : ℕ) → may_come before p ≡ true → p.previous ≡ Some q → q < length before
comes_below before p q may is = previous_below (length before) p.previous q (first _ _ (first _ _ may)) is

-- and has no successor there
pub comes_vacant : (before : List Primitive) (p : Primitive) (q : ℕ) → may_come before p ≡ true → p.previous ≡ Some q → successor before q ≡ None
comes_vacant before p q may is = first_none (λ e. refers e.previous q) 0 before (previous_current before p.previous q (second _ _ (first _ _ may)) is)

or_none : (o : Option ℕ) → option_or o None ≡ o
or_none None = refl
or_none (Some x) = refl

-- a primitive without previous one succeeds nothing
pub successors_same : (before : List Primitive) (p : Primitive) (r : ℕ) → p.previous ≡ None → successor (before ++ p ∷ []) r ≡ successor before r
successors_same before p r is =
    first_more (λ e. refers e.previous r) 0 before p
    ∙ ap (λ o. option_or (successor before r) (if refers o r then Some (0 + length before) else None)) is
    ∙ or_none (successor before r)

-- else the previous one has it as successor
pub successors_here : (before : List Primitive) (p : Primitive) (q id : ℕ) → may_come before p ≡ true → p.previous ≡ Some q → id ≡ length before → successor (before ++ p ∷ []) q ≡ Some id
successors_here before p q id may is place =
    first_more (λ e. refers e.previous q) 0 before p
    ∙ ap (λ o. option_or o (if refers p.previous q then Some (0 + length before) else None)) (comes_vacant before p q may is)
    ∙ ap (λ o. if refers o q then Some (0 + length before) else None) is
    ∙ ap (λ b. if b then Some (0 + length before) else None) (same_place q)
    ∙ ap Some (zero_more (length before) ∙ sym place)
  where
    same_place : (n : ℕ) → (n == n) ≡ true
    same_place n = eq-eqb n n refl

    zero_more : (n : ℕ) → 0 + n ≡ n
    zero_more n = omega arith

-- and every other place has its own still
pub successors_elsewhere : (before : List Primitive) (p : Primitive) (q r : ℕ) → p.previous ≡ Some q → r ≢ q → successor (before ++ p ∷ []) r ≡ successor before r
successors_elsewhere before p q r is apart =
    first_more (λ e. refers e.previous r) 0 before p
    ∙ ap (λ o. option_or (successor before r) (if refers o r then Some (0 + length before) else None)) is
    ∙ ap (λ b. option_or (successor before r) (if b then Some (0 + length before) else None)) (ne_eqb q r (λ same. apart (sym same)))
    ∙ or_none (successor before r)

-- ---- keys

namespace_is : (o : Option ℕ) (n : ℕ) → refers o n ≡ option_map_or (λ place. place == n) o false
namespace_is None n = refl
namespace_is (Some p) n = refl

text_is : (key : List ℕ) (d : Datum) → is_text key d ≡ option_map_or (λ text. bytes_eq key text) (text_of d) false
text_is key (datum.Bool b) = refl
text_is key (datum.Int n) = refl
text_is key (datum.Moment ms precision) = refl
text_is key (datum.Text t) = refl
text_is key (datum.Object o) = refl
text_is key datum.Empty = refl

-- a key link is one of its own namespace and key
pub link_is : (n : ℕ) (key : List ℕ) (p : Primitive) → refers p.typ 15 ≡ true → is_key_link n key p ≡ is_under p.right (text_of p.value) n key
link_is n key p passed =
    ap (λ b. (b && refers p.right n) && is_text key p.value) passed
    ∙ ap (λ b. b && is_text key p.value) (namespace_is p.right n)
    ∙ ap (λ b. option_map_or (λ place. place == n) p.right false && b) (text_is key p.value)

-- and of its own object
pub object_is : (o : ℕ) (p : Primitive) → refers p.typ 15 ≡ true → is_key_of o p ≡ is_of p.left o
object_is o p passed = ap (λ b. b && refers p.left o) passed ∙ namespace_is p.left o

no_link : (n : ℕ) (key : List ℕ) (p : Primitive) → refers p.typ 15 ≡ false → is_key_link n key p ≡ false
no_link n key p refused = ap (λ b. (b && refers p.right n) && is_text key p.value) refused

no_key_of : (o : ℕ) (p : Primitive) → refers p.typ 15 ≡ false → is_key_of o p ≡ false
no_key_of o p refused = ap (λ b. b && refers p.left o) refused

-- the places of a list and one primitive more
pub where_more : (t : Primitive → Bool) (before : List Primitive) (p : Primitive) (b : Bool) (id : ℕ) → t p ≡ b → id ≡ length before
    → places_where t (before ++ p ∷ []) ≡ with_entry b id (places_where t before)
where_more t before p b id is place =
    let here : 0 + length before ≡ id = omega (arith, place) in
    places_more t 0 before p ∙ ap (λ c. with_entry c (0 + length before) (places_where t before)) is ∙ ap (λ n. with_entry b n (places_where t before)) here

-- the new place is above them
pub above_where : (t : Primitive → Bool) (before : List Primitive) (ids : List ℕ) (id : ℕ) → ids ≡ places_where t before → id ≡ length before → IsAbove ids id
above_where t before ids id is place =
    let here : 0 + length before ≡ id = omega (arith, place) in
    subst (λ ys. IsAbove ys id) (sym is) (subst (IsAbove (places_where t before)) here (places_above t 0 before))

pub taken_back : (b : Bool) (id : ℕ) (ids : List ℕ) → without_entry b (with_entry b id ids) ≡ ids
taken_back true id ids = all_but_last ids id
  where
    all_but_last : (xs : List ℕ) (x : ℕ) → take (length (xs ++ x ∷ []) - 1) (xs ++ x ∷ []) ≡ xs
    all_but_last xs x =
        let count : length (xs ++ x ∷ []) - 1 ≡ length xs = omega (arith, length-append xs (x ∷ [])) in
        ap (λ n. take n (xs ++ x ∷ [])) count ∙ take-append_seam xs (x ∷ [])
taken_back false id ids = refl

-- a key link more
pub keys_more : (old new : KeysValue) (before : List Primitive) (p : Primitive) (id : ℕ) → refers p.typ 15 ≡ true → AreKeys old before → id ≡ length before
    → ((n : ℕ) (key : List ℕ) → (key_list new n key).ids ≡ with_entry (is_under p.right (text_of p.value) n key) id (key_list old n key).ids)
    → ((o : ℕ) → (object_list new o).ids ≡ with_entry (is_of p.left o) id (object_list old o).ids)
    → AreKeys new (before ++ p ∷ [])
keys_more old new before p id passed are place by_key by_object = record {
  by_key = λ n key. by_key n key ∙ ap (with_entry (is_under p.right (text_of p.value) n key) id) (are.by_key n key)
      ∙ sym (where_more (is_key_link n key) before p (is_under p.right (text_of p.value) n key) id (link_is n key p passed) place);
  by_object = λ o. by_object o ∙ ap (with_entry (is_of p.left o) id) (are.by_object o)
      ∙ sym (where_more (is_key_of o) before p (is_of p.left o) id (object_is o p passed) place);
}

-- another primitive more
pub keys_same : (keys : KeysValue) (before : List Primitive) (p : Primitive) → refers p.typ 15 ≡ false → AreKeys keys before → AreKeys keys (before ++ p ∷ [])
keys_same keys before p refused are = record {
  by_key = λ n key. are.by_key n key ∙ sym (where_more (is_key_link n key) before p false (length before) (no_link n key p refused) refl);
  by_object = λ o. are.by_object o ∙ sym (where_more (is_key_of o) before p false (length before) (no_key_of o p refused) refl);
}

-- a key link less
pub keys_less : (old new : KeysValue) (before : List Primitive) (p : Primitive) → refers p.typ 15 ≡ true → AreKeys old (before ++ p ∷ [])
    → ((n : ℕ) (key : List ℕ) → (key_list new n key).ids ≡ without_entry (is_under p.right (text_of p.value) n key) (key_list old n key).ids)
    → ((o : ℕ) → (object_list new o).ids ≡ without_entry (is_of p.left o) (object_list old o).ids)
    → AreKeys new before
keys_less old new before p passed are by_key by_object = record {
  by_key = λ n key. by_key n key
      ∙ ap (without_entry (is_under p.right (text_of p.value) n key)) (are.by_key n key ∙ where_more (is_key_link n key) before p (is_under p.right (text_of p.value) n key) (length before) (link_is n key p passed) refl)
      ∙ taken_back (is_under p.right (text_of p.value) n key) (length before) (places_where (is_key_link n key) before);
  by_object = λ o. by_object o
      ∙ ap (without_entry (is_of p.left o)) (are.by_object o ∙ where_more (is_key_of o) before p (is_of p.left o) (length before) (object_is o p passed) refl)
      ∙ taken_back (is_of p.left o) (length before) (places_where (is_key_of o) before);
}

-- another primitive less
pub keys_same_less : (keys : KeysValue) (before : List Primitive) (p : Primitive) → refers p.typ 15 ≡ false → AreKeys keys (before ++ p ∷ []) → AreKeys keys before
keys_same_less keys before p refused are = record {
  by_key = λ n key. are.by_key n key ∙ where_more (is_key_link n key) before p false (length before) (no_link n key p refused) refl;
  by_object = λ o. are.by_object o ∙ where_more (is_key_of o) before p false (length before) (no_key_of o p refused) refl;
}

-- the same lists of both
pub keys_as : (old new : KeysValue) (prims : List Primitive) → SameIds old new → AreKeys old prims → AreKeys new prims
keys_as old new prims same are = record {
  by_key = λ n key. same.keys n key ∙ are.by_key n key;
  by_object = λ o. same.objects o ∙ are.by_object o;
}

-- ---- at a place of a list

same_bytes : (xs : List ℕ) → bytes_eq xs xs ≡ true
same_bytes [] = refl
same_bytes (x ∷ xs) = both _ _ (eq-eqb x x refl) (same_bytes xs)

last_pushed : (ys : List ℕ) (x : ℕ) → slice_get (ys ++ x ∷ []) (length ys) ≡ Some x
last_pushed [] x = refl
last_pushed (y ∷ ys) x = last_pushed ys x

-- the last of a list with an entry
entry_last : (ids ys : List ℕ) (x : ℕ) → ids ≡ ys ++ x ∷ [] → last_of ids ≡ Some x
entry_last ids ys x is =
    let count : length ids - 1 ≡ length ys = omega (arith, ap length is, length-append ys (x ∷ [])) in
    ap (λ n. slice_get ids n) count ∙ ap (λ zs. slice_get zs (length ys)) is ∙ last_pushed ys x

pub entry_some : (ids : List ℕ) (x : ℕ) → last_of ids ≡ Some x → 0 < length ids
entry_some [] x is = cc
entry_some (y ∷ ids) x is = omega arith

under_itself : (n : ℕ) (key : List ℕ) → is_under (Some n) (Some key) n key ≡ true
under_itself n key = both _ _ (eq-eqb n n refl) (same_bytes key)

-- the list of a key link ends with it
pub key_last : (keys : KeysValue) (prims : List Primitive) (place : ℕ) (p : Primitive) (text : Option (List ℕ)) (n : ℕ) (key : List ℕ)
    → slice_get prims place ≡ Some p → place < length prims → refers p.typ 15 ≡ true → text ≡ text_of p.value → AreKeys keys (take (place + 1) prims)
    → p.right ≡ Some n → text ≡ Some key → last_of (key_list keys n key).ids ≡ Some place
key_last keys prims place p text n key is there passed value are right has =
    let link : is_key_link n key p ≡ true = link_is n key p passed ∙ ap (λ o. is_under o (text_of p.value) n key) right ∙ ap (λ o. is_under (Some n) o n key) (sym value ∙ has) ∙ under_itself n key in
    entry_last (key_list keys n key).ids (places_where (is_key_link n key) (take place prims)) place
    (are.by_key n key ∙ ap (places_where (is_key_link n key)) (front_more prims place p is)
    ∙ where_more (is_key_link n key) (take place prims) p true place link (sym (length_front prims place (omega arith))))

pub object_last : (keys : KeysValue) (prims : List Primitive) (place : ℕ) (p : Primitive) (o : ℕ)
    → slice_get prims place ≡ Some p → place < length prims → refers p.typ 15 ≡ true → AreKeys keys (take (place + 1) prims)
    → p.left ≡ Some o → last_of (object_list keys o).ids ≡ Some place
object_last keys prims place p o is there passed are left =
    let link : is_key_of o p ≡ true = object_is o p passed ∙ ap (λ x. is_of x o) left ∙ eq-eqb o o refl in
    entry_last (object_list keys o).ids (places_where (is_key_of o) (take place prims)) place
    (are.by_object o ∙ ap (places_where (is_key_of o)) (front_more prims place p is)
    ∙ where_more (is_key_of o) (take place prims) p true place link (sym (length_front prims place (omega arith))))

pub keys_entered : (old new : KeysValue) (prims : List Primitive) (place : ℕ) (p : Primitive) (text : Option (List ℕ))
    → slice_get prims place ≡ Some p → place < length prims → refers p.typ 15 ≡ true → text ≡ text_of p.value → AreKeys old (take place prims)
    → ((n : ℕ) (key : List ℕ) → (key_list new n key).ids ≡ with_entry (is_under p.right text n key) place (key_list old n key).ids)
    → ((o : ℕ) → (object_list new o).ids ≡ with_entry (is_of p.left o) place (object_list old o).ids)
    → AreKeys new (take (place + 1) prims)
keys_entered old new prims place p text is there passed value are by_key by_object =
    subst (AreKeys new) (sym (front_more prims place p is)) (keys_more old new (take place prims) p place passed are (sym (length_front prims place (omega arith)))
    (λ n key. by_key n key ∙ ap (λ t. with_entry (is_under p.right t n key) place (key_list old n key).ids) value) by_object)

pub keys_passed : (keys : KeysValue) (prims : List Primitive) (place : ℕ) (p : Primitive) → slice_get prims place ≡ Some p → refers p.typ 15 ≡ false
    → AreKeys keys (take place prims) → AreKeys keys (take (place + 1) prims)
keys_passed keys prims place p is refused are = subst (AreKeys keys) (sym (front_more prims place p is)) (keys_same keys (take place prims) p refused are)

pub keys_taken : (old new : KeysValue) (prims : List Primitive) (place : ℕ) (p : Primitive) (text : Option (List ℕ))
    → slice_get prims place ≡ Some p → refers p.typ 15 ≡ true → text ≡ text_of p.value → AreKeys old (take (place + 1) prims)
    → ((n : ℕ) (key : List ℕ) → (key_list new n key).ids ≡ without_entry (is_under p.right text n key) (key_list old n key).ids)
    → ((o : ℕ) → (object_list new o).ids ≡ without_entry (is_of p.left o) (object_list old o).ids)
    → AreKeys new (take place prims)
keys_taken old new prims place p text is passed value are by_key by_object =
    keys_less old new (take place prims) p passed (subst (AreKeys old) (front_more prims place p is) are)
    (λ n key. by_key n key ∙ ap (λ t. without_entry (is_under p.right t n key) (key_list old n key).ids) value) by_object

pub keys_left : (keys : KeysValue) (prims : List Primitive) (place : ℕ) (p : Primitive) → slice_get prims place ≡ Some p → refers p.typ 15 ≡ false
    → AreKeys keys (take (place + 1) prims) → AreKeys keys (take place prims)
keys_left keys prims place p is refused are = keys_same_less keys (take place prims) p refused (subst (AreKeys keys) (front_more prims place p is) are)

-- ---- nodes

-- one more
links_more : (prims : List Primitive) (place : ℕ) (p : Primitive) (end : End) (node : ℕ) → slice_get prims place ≡ Some p → place < length prims
    → places_with end node (take (place + 1) prims) ≡ with_entry (is_of (end_of end p) node) place (places_with end node (take place prims))
links_more prims place p end node is there =
    ap (places_with end node) (front_more prims place p is)
    ∙ where_more (λ q. refers (end_of end q) node) (take place prims) p (is_of (end_of end p) node) place (namespace_is (end_of end p) node) (sym (length_front prims place (omega arith)))

-- its place is behind the lists that it is entered in
pub links_behind : (old mid : LinkageValue) (prims : List Primitive) (place : ℕ) (p : Primitive) → place < length prims → AreLinks old (take place prims) → SamePlaces old mid → IsBehind p place mid
links_behind old mid prims place p there are same = λ end node is.
    above_where (λ q. refers (end_of end q) node) (take place prims) (list_of end node mid).ids place (same end node ∙ are end node) (sym (length_front prims place (omega arith)))

pub links_entered : (old mid new : LinkageValue) (prims : List Primitive) (place : ℕ) (p : Primitive) → slice_get prims place ≡ Some p → place < length prims → AreLinks old (take place prims) → SamePlaces old mid
    → ((end : End) (node : ℕ) → (list_of end node new).ids ≡ with_entry (is_of (end_of end p) node) place (list_of end node mid).ids)
    → AreLinks new (take (place + 1) prims)
links_entered old mid new prims place p is there are same add = λ end node.
    add end node ∙ ap (with_entry (is_of (end_of end p) node) place) (same end node ∙ are end node) ∙ sym (links_more prims place p end node is there)

-- the same places
pub links_as : (old new : LinkageValue) (prims : List Primitive) → AreLinks old prims → SamePlaces old new → AreLinks new prims
links_as old new prims are same = λ end node. same end node ∙ are end node

-- the lists that the last primitive was entered in end with it
pub links_there : (linkage : LinkageValue) (prims : List Primitive) (place : ℕ) (p : Primitive) → slice_get prims place ≡ Some p → place < length prims → AreLinks linkage (take (place + 1) prims) → HasEntries p linkage
links_there linkage prims place p is there are = λ end node has.
    let named : is_of (end_of end p) node ≡ true = ap (λ o. is_of o node) has ∙ eq-eqb node node refl in
    entry_some (list_of end node linkage).ids place
    (entry_last (list_of end node linkage).ids (places_with end node (take place prims)) place
    (are end node ∙ links_more prims place p end node is there ∙ ap (λ b. with_entry b place (places_with end node (take place prims))) named))

pub links_taken : (old new : LinkageValue) (prims : List Primitive) (place : ℕ) (p : Primitive) → slice_get prims place ≡ Some p → place < length prims → AreLinks old (take (place + 1) prims)
    → ((end : End) (node : ℕ) → (list_of end node new).ids ≡ without_entry (is_of (end_of end p) node) (list_of end node old).ids)
    → AreLinks new (take place prims)
links_taken old new prims place p is there are back = λ end node.
    back end node ∙ ap (without_entry (is_of (end_of end p) node)) (are end node ∙ links_more prims place p end node is there)
    ∙ taken_back (is_of (end_of end p) node) place (places_with end node (take place prims))

-- ---- versions

-- the previous one of a primitive is below its place
pub previous_small : (prims : List Primitive) (place : ℕ) (p : Primitive) (q : ℕ) → slice_get prims place ≡ Some p → place < length prims → may_enter [] prims ≡ true → p.previous ≡ Some q → q < place
previous_small prims place p q is there entered previous =
    omega (arith, comes_below (take place prims) p q (comes prims place p entered is) previous, length_front prims place (omega arith))

-- and has no successor before it
pub previous_vacant : (old new : List (Option ℕ)) (prims : List Primitive) (place : ℕ) (p : Primitive) (q : ℕ) → slice_get prims place ≡ Some p → may_enter [] prims ≡ true → p.previous ≡ Some q
    → AreSuccessors old (take place prims) → ((r : ℕ) → successor_of new r ≡ successor_of old r) → successor_of new q ≡ None
previous_vacant old new prims place p q is entered previous are same =
    same q ∙ are q ∙ comes_vacant (take place prims) p q (comes prims place p entered is) previous

pub versions_entered : (old mid new : List (Option ℕ)) (prims : List Primitive) (place : ℕ) (p : Primitive) (q : ℕ)
    → slice_get prims place ≡ Some p → place < length prims → may_enter [] prims ≡ true → p.previous ≡ Some q
    → AreSuccessors old (take place prims) → ((r : ℕ) → successor_of mid r ≡ successor_of old r)
    → ((r : ℕ) → successor_of new r ≡ (if r == q then Some place else successor_of mid r)) → AreSuccessors new (take (place + 1) prims)
versions_entered old mid new prims place p q is there entered previous are room set r = ⊎_elim here elsewhere (cases_eq r q)
  where
    here : r ≡ q → successor_of new r ≡ successor (take (place + 1) prims) r
    here same =
        set r ∙ ap (λ b. if b then Some place else successor_of mid r) (eq-eqb r q same)
        ∙ sym (successors_here (take place prims) p q place (comes prims place p entered is) previous (sym (length_front prims place (omega arith))))
        ∙ ap (λ ps. successor ps q) (sym (front_more prims place p is)) ∙ ap (successor (take (place + 1) prims)) (sym same)

    elsewhere : (r ≡ q → ⊥) → successor_of new r ≡ successor (take (place + 1) prims) r
    elsewhere apart =
        set r ∙ ap (λ b. if b then Some place else successor_of mid r) (ne_eqb r q apart) ∙ room r ∙ are r
        ∙ sym (successors_elsewhere (take place prims) p q r previous apart) ∙ ap (λ ps. successor ps r) (sym (front_more prims place p is))

pub versions_passed : (versions : List (Option ℕ)) (prims : List Primitive) (place : ℕ) (p : Primitive) → slice_get prims place ≡ Some p → p.previous ≡ None
    → AreSuccessors versions (take place prims) → AreSuccessors versions (take (place + 1) prims)
versions_passed versions prims place p is previous are r =
    are r ∙ sym (successors_same (take place prims) p r previous) ∙ ap (λ ps. successor ps r) (sym (front_more prims place p is))

-- the previous one of the last primitive has it as successor
pub previous_has : (versions : List (Option ℕ)) (prims : List Primitive) (place : ℕ) (p : Primitive) (q : ℕ) → slice_get prims place ≡ Some p → place < length prims → may_enter [] prims ≡ true
    → p.previous ≡ Some q → AreSuccessors versions (take (place + 1) prims) → successor_of versions q ≡ Some place
previous_has versions prims place p q is there entered previous are =
    are q ∙ ap (λ ps. successor ps q) (front_more prims place p is)
    ∙ successors_here (take place prims) p q place (comes prims place p entered is) previous (sym (length_front prims place (omega arith)))

pub versions_taken : (old new : List (Option ℕ)) (prims : List Primitive) (place : ℕ) (p : Primitive) (q : ℕ)
    → slice_get prims place ≡ Some p → may_enter [] prims ≡ true → p.previous ≡ Some q
    → AreSuccessors old (take (place + 1) prims) → ((r : ℕ) → successor_of new r ≡ (if r == q then None else successor_of old r)) → AreSuccessors new (take place prims)
versions_taken old new prims place p q is entered previous are set r = ⊎_elim here elsewhere (cases_eq r q)
  where
    here : r ≡ q → successor_of new r ≡ successor (take place prims) r
    here same =
        set r ∙ ap (λ b. if b then None else successor_of old r) (eq-eqb r q same)
        ∙ sym (comes_vacant (take place prims) p q (comes prims place p entered is) previous) ∙ ap (successor (take place prims)) (sym same)

    elsewhere : (r ≡ q → ⊥) → successor_of new r ≡ successor (take place prims) r
    elsewhere apart =
        set r ∙ ap (λ b. if b then None else successor_of old r) (ne_eqb r q apart) ∙ are r
        ∙ ap (λ ps. successor ps r) (front_more prims place p is) ∙ successors_elsewhere (take place prims) p q r previous apart

pub versions_left : (versions : List (Option ℕ)) (prims : List Primitive) (place : ℕ) (p : Primitive) → slice_get prims place ≡ Some p → p.previous ≡ None
    → AreSuccessors versions (take (place + 1) prims) → AreSuccessors versions (take place prims)
versions_left versions prims place p is previous are r =
    are r ∙ ap (λ ps. successor ps r) (front_more prims place p is) ∙ successors_same (take place prims) p r previous

pub is_there : (o : Option ℕ) (x : ℕ) → o ≡ Some x → IsSome o
is_there None x is = cc
is_there (Some y) x is = refl

-- ---- in a front of a list

-- what a list of places holds below an end is what a front has
pub below_where : (t : Primitive → Bool) (n : ℕ) (prims : List Primitive) (ids : List ℕ) → ids ≡ places_where t prims → ids_below n ids ≡ places_where t (take n prims)
below_where t n prims ids is =
    let here : n ≡ 0 + n = omega arith in
    ap (ids_below n) is ∙ ap (λ m. ids_below m (places_where t prims)) here ∙ places_front t 0 n prims

-- the successor of a place in a front is that in the list, where it is less than the front's end
pub below_successor : (n : ℕ) (prims : List Primitive) (versions : List (Option ℕ)) (place : ℕ) → AreSuccessors versions prims
    → below_end n (successor_of versions place) ≡ successor (take n prims) place
below_successor n prims versions place are =
    let here : n ≡ 0 + n = omega arith in
    ap (below_end n) (are place) ∙ ap (λ m. below_end m (successor prims place)) here ∙ first_cut (λ e. refers e.previous place) 0 n prims

-- a place has a successor where some primitive has it as previous one
pub some_successor : (prims : List Primitive) (versions : List (Option ℕ)) (place : ℕ) → AreSuccessors versions prims → is_some (successor_of versions place) ≡ has_successor prims place
some_successor prims versions place are = ap is_some (are place) ∙ first_some (λ e. refers e.previous place) 0 prims

-- ---- a list with its indexes

-- more behind a list
pub joined_enters : (all prims now more : List Primitive) → all ≡ prims ++ more → prims ≡ now → may_enter [] prims ≡ true → may_enter now more ≡ true → may_enter [] all ≡ true
joined_enters all prims now more is same here behind = ap (may_enter []) is ∙ enters_more [] prims more here (ap (λ bs. may_enter bs more) same ∙ behind)

-- a front of it
pub front_indexed : (indexes : Indexes) (prims slice kept : List Primitive) (n : ℕ) → may_enter [] prims ≡ true → are_short prims ≡ true → slice ≡ prims → kept ≡ take n prims → AreIndexes indexes (take n slice) → IsIndexed indexes kept
front_indexed indexes prims slice kept n entered short same is are = record {
  entered = ap (may_enter []) is ∙ enters_front [] prims n entered;
  short = ap are_short is ∙ short_front n prims short;
  indexed = subst (AreIndexes indexes) (ap (take n) same ∙ sym is) are;
}

-- the whole
pub whole_indexed : (indexes : Indexes) (all slice : List Primitive) → slice ≡ all → may_enter [] all ≡ true → are_short all ≡ true → AreIndexes indexes slice → IsIndexed indexes all
whole_indexed indexes all slice same entered short are = record { entered = entered; short = short; indexed = subst (AreIndexes indexes) same are }
