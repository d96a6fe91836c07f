-- Sort keys that are looked for, one after another.
use Rattle.std.proofs.Common.{◌≡◌, ◌∙◌, refl, sym, ap, subst, arith, add-one, ℕ, zero, suc, ◌+◌, ◌<◌, ◌≤◌, List, [], ◌∷◌, ◌++◌, Option, None, Some, length, map, take, get_or, Vec, Global}
use Rattle.std.specs.Prelude.{slice_get, IfSome}
use Rattle.std.proofs.lemmas.List.{take_all}
use Rattle.gd_prim.specs.declared.Primitive.{Primitive}
use Rattle.gd_defs.specs.Asked.{Key, by_guid, by_timestamp, by_property}
use Rattle.gd_defs.specs.Rows.{key_place}
use Rattle.gd_plan.specs.Asked.{asked_view}
use Rattle.gd_plan.specs.declared.asked.Asked.{Asked as Found}
use Rattle.gd_plan.specs.declared.asked.SortKey.{SortKey}
use Rattle.gd_plan.specs.Seen.{sort_key_view}
use Rattle.gd_suspended_laws.specs.Standing.{valued}
use Rattle.gd_window.specs.declared.keys.Key.{Key as Told}
use Rattle.gd_thawed.specs.KeysAt.{key_at, own_key}
use Rattle.gd_thawed.specs.Keying.{HasLookedBy, HasLookedFor, HasKeys}
use Rattle.gd_thawed.specs.declared.keying.Keying.{Keying}
use Rattle.gd_thawed.proofs.KeyLinks.{first_answer, own_keys}

-- LAW: no link was looked at
pub looked_none : (prims : List Primitive) (s : SortKey) (o : ℕ) → HasLookedFor prims s o 0
looked_none prims s o = by (sort_key_view s).key
  where
    by : (k : Key) → HasLookedBy prims o 0 k
    by by_guid = tt
    by by_timestamp = tt
    by (by_property p) = first_answer prims p o

none_looked : (prims : List Primitive) (o : ℕ) (next : Option SortKey) → IfSome next (λ s. HasLookedFor prims s o 0)
none_looked prims o None = tt
none_looked prims o (Some s) = looked_none prims s o

-- LAW: no key was found
pub keys_none : (prims : List Primitive) (sort : List SortKey) (k : Keying) → k.keys.items ≡ [] → k.next ≡ 0 → HasKeys prims sort k
keys_none prims sort k none first = subst (λ (n : ℕ). HasKeys prims sort (record k { next = n })) (sym first) (record {
  keys = none ∙ ap (λ (ks : List Told). map (own_key prims k.object) (map sort_key_view (take (length ks) sort))) (sym none);
  few = subst (λ (ks : List Told). length ks ≤ length sort) (sym none) (omega arith);
  looked = none_looked prims k.object (slice_get sort (length k.keys.items));
})

take_next : {A : Type 0} (xs : List A) (n : ℕ) (x : A) → n < length xs → x ≡ get_or xs n x → take (n + 1) xs ≡ take n xs ++ x ∷ []
take_next {A = A} xs n x within is = rw add-one (by xs n within is)
  where
    by : (ys : List A) (m : ℕ) → m < length ys → x ≡ get_or ys m x → take (suc m) ys ≡ take m ys ++ x ∷ []
    by [] m inside same = absurd (omega (arith, inside))
    by (y ∷ ys) zero inside same = ap (λ z. z ∷ []) (sym same)
    by (y ∷ ys) (suc m) inside same = ap (λ l. y ∷ l) (by ys m (omega (arith, inside)) same)

map_next : {A B : Type 0} (f : A → B) (xs : List A) (x : A) → map f (xs ++ x ∷ []) ≡ map f xs ++ f x ∷ []
map_next f [] x = refl
map_next f (y ∷ xs) x = ap (λ l. f y ∷ l) (map_next f xs x)

length_next : {A : Type 0} (xs : List A) (x : A) → length (xs ++ x ∷ []) ≡ length xs + 1
length_next [] x = refl
length_next (y ∷ xs) x = ap suc (length_next xs x) ∙ omega arith

-- LAW: one key more was found
pub keys_more : (prims : List Primitive) (sort : List SortKey) (k m : Keying) (s : SortKey) (place : Option ℕ) (found : Told) → HasKeys prims sort k → length k.keys.items < length sort → s ≡ get_or sort (length k.keys.items) s
    → place ≡ key_place prims k.object (sort_key_view s) → found ≡ key_at prims (sort_key_view s) place
    → m.object ≡ k.object → m.keys.items ≡ k.keys.items ++ found ∷ [] → m.next ≡ 0 → HasKeys prims sort m
keys_more prims sort k m s place found has some at is same object more first = subst (λ (n : ℕ). HasKeys prims sort (record m { next = n })) (sym first) (record {
  keys = more ∙ ap (λ l. l ++ found ∷ []) has.keys ∙ ap (λ x. map (own_key prims k.object) (map sort_key_view (take (length k.keys.items) sort)) ++ x ∷ []) (same ∙ ap (key_at prims (sort_key_view s)) is)
      ∙ sym (map_next (own_key prims k.object) (map sort_key_view (take (length k.keys.items) sort)) (sort_key_view s))
      ∙ ap (map (own_key prims k.object)) (sym (map_next sort_key_view (take (length k.keys.items) sort) s))
      ∙ ap (λ l. map (own_key prims k.object) (map sort_key_view l)) (sym (take_next sort (length k.keys.items) s some at))
      ∙ ap (λ o. map (own_key prims o) (map sort_key_view (take (length k.keys.items + 1) sort))) (sym object)
      ∙ ap (λ l. map (own_key prims m.object) (map sort_key_view (take l sort))) (sym count);
  few = let c = count in omega (arith, some, c);
  looked = none_looked prims m.object (slice_get sort (length m.keys.items));
})
  where
    count : length m.keys.items ≡ length k.keys.items + 1
    count = ap length more ∙ length_next k.keys.items found

at_index : {A : Type 0} (xs : List A) (n : ℕ) (x : A) → n < length xs → x ≡ get_or xs n x → slice_get xs n ≡ Some x
at_index [] n x inside same = absurd (omega (arith, inside))
at_index (y ∷ xs) zero x inside same = ap Some (sym same)
at_index (y ∷ xs) (suc n) x inside same = at_index xs n x (omega (arith, inside)) same

-- LAW: what was looked at for the next key
pub keys_looked : (prims : List Primitive) (sort : List SortKey) (k : Keying) (s : SortKey) → HasKeys prims sort k → length k.keys.items < length sort → s ≡ get_or sort (length k.keys.items) s → HasLookedFor prims s k.object k.next
keys_looked prims sort k s has some at = subst (λ o. IfSome o (λ x. HasLookedFor prims x k.object k.next)) (at_index sort (length k.keys.items) s some at) has.looked

-- LAW: more links were looked at
pub keys_on : (prims : List Primitive) (sort : List SortKey) (k m : Keying) (s : SortKey) → HasKeys prims sort k → length k.keys.items < length sort → s ≡ get_or sort (length k.keys.items) s
    → m.object ≡ k.object → m.keys ≡ k.keys → HasLookedFor prims s k.object m.next → HasKeys prims sort m
keys_on prims sort k m s has some at object keys looked =
    subst (λ (o : ℕ). HasKeys prims sort (record m { object = o })) (sym object)
    (subst (λ (ks : Vec Told Global). HasKeys prims sort (record { object = k.object; keys = ks; next = m.next })) (sym keys) (record {
      keys = has.keys;
      few = has.few;
      looked = subst (λ o. IfSome o (λ x. HasLookedFor prims x k.object m.next)) (sym (at_index sort (length k.keys.items) s some at)) looked;
    }))

-- LAW: the row, once all keys were found
pub keys_all : (prims : List Primitive) (q : Found) (k : Keying) → HasKeys prims q.sort.items k → length q.sort.items ≤ length k.keys.items → record { keys = k.keys.items; id = k.object } ≡ valued prims (asked_view q) k.object
keys_all prims q k has all =
    ap (λ (ks : List Told). record { keys = ks; id = k.object })
    (has.keys ∙ ap (λ l. map (own_key prims k.object) (map sort_key_view l)) (take_all (length k.keys.items) q.sort.items all)
    ∙ sym (own_keys prims k.object (map sort_key_view q.sort.items)))
