-- What a word costs: it has a key at least, and of a property something is said.
use Rattle.std.proofs.Common.{◌≡◌, ◌∙◌, ℕ, ◌+◌, ◌*◌, ◌≤◌, List, [], ◌∷◌, length, Bool, true, false, ◌&&◌, Option, Some, None, is_some, refl, sym, ap, subst, arith}
use Rattle.std.specs.Prelude.{find, slice_get, if◌then◌else◌, option_and_then}
use Rattle.std.specs.Option.{option_map_or}
use Rattle.std.specs.List.{list_all, slice_split}
use Rattle.std.proofs.lemmas.Bool.{false≢true, eqb-true}
use Rattle.std.proofs.lemmas.List.Splits.{length-slice_split}
use Rattle.gd_prim.specs.declared.Primitive.{Primitive}
use Rattle.gd_prim.specs.declared.End.TheVariants.{Left}
use Rattle.gd_prim.specs.Builtin.{property_place, type_link_place, expected_place}
use Rattle.gd_prim.specs.End.{places_with}
use Rattle.gd_prim.specs.Live.{is_object, is_live, refers}
use Rattle.gd_defs.specs.Cost.{said_of, key_count, word_cost}
use Rattle.gd_defs.specs.Ids.{path_keys, is_slash, is_key}
use Rattle.gd_defs.specs.Property.{first, first_right, links_from, has_type, word_object, property_object}
use Rattle.gd_resolve.specs.Asked.{word_keys, stated_steps, property_steps}
use Rattle.gd_resolve.specs.Found.{is_found, is_link, gives_type}
use Rattle.gd_resolve.specs.declared.property.Wanted.TheVariants as wanted
use Rattle.gd_resolve.proofs.Lefts.{found_left}
use Rattle.gd_resolve.proofs.Scans.{has_type-found, first-live_where}

-- a path has a key
path_least : (word : List ℕ) → (o : Option (List (List ℕ))) → path_keys word ≡ o → 1 ≤ (if is_some o then key_count o else 1)
path_least word None is = omega arith
path_least [] (Some ks) is = absurd (cc)
path_least (c ∷ text) (Some ks) is = by (is_slash c && list_all is_key (slice_split is_slash text)) is
  where
    parts : (l : List (List ℕ)) → l ≡ ks → length l ≡ Rattle.std.specs.List.count_by is_slash text + 1 → 1 ≤ length ks
    parts l same many = more (sym (ap length same) ∙ many)
      where
        more : length ks ≡ Rattle.std.specs.List.count_by is_slash text + 1 → 1 ≤ length ks
        more is = omega (arith, is)

    some_same : Some (slice_split is_slash text) ≡ Some ks → slice_split is_slash text ≡ ks
    some_same same = cc

    by : (b : Bool) → (if b then Some (slice_split is_slash text) else None) ≡ Some ks → 1 ≤ length ks
    by true same = parts (slice_split is_slash text) (some_same same) (length-slice_split is_slash text)
    by false same = absurd (cc)

keys_least : (word : List ℕ) → 1 ≤ word_keys word
keys_least word = path_least word (path_keys word) refl

found_least : (test : ℕ → Bool) (xs : List ℕ) → is_some (find test xs) ≡ true → 1 ≤ length xs
found_least test [] is = absurd (false≢true is)
found_least test (x ∷ xs) is = omega arith

-- of an object that has a type something is said
typed_least : (prims : List Primitive) (o : ℕ) → has_type prims o property_place ≡ true → 1 ≤ length (places_with Left o prims)
typed_least prims o is = found_least (is_found (gives_type o property_place) prims) (places_with Left o prims)
    (ap is_some (sym (found_left (wanted.TypeLink o property_place) prims)) ∙ (sym (has_type-found prims o property_place) ∙ is))

both_true : (a b : Bool) → (a && b) ≡ true → b ≡ true
both_true true b is = is
both_true false b is = absurd (false≢true is)

-- the object that a word leads to, where it is a property
pub leads_there : (prims : List Primitive) (context : Option ℕ) (word : List ℕ) (o : ℕ) → Some o ≡ property_object prims context word → (word_object prims context word ≡ Some o) × (1 ≤ length (places_with Left o prims))
leads_there prims context word o is = by (word_object prims context word) refl (sym is)
  where
    by : (r : Option ℕ) → word_object prims context word ≡ r → option_and_then (λ p. if is_object prims p && has_type prims p property_place then Some p else None) r ≡ Some o
        → (word_object prims context word ≡ Some o) × (1 ≤ length (places_with Left o prims))
    by None leads is = absurd (cc)
    by (Some p) leads is = one (is_object prims p && has_type prims p property_place) refl is
      where
        one : (b : Bool) → (is_object prims p && has_type prims p property_place) ≡ b → (if b then Some p else None) ≡ Some o → (word_object prims context word ≡ Some o) × (1 ≤ length (places_with Left o prims))
        one true here same = let at : p ≡ o = cc in (leads ∙ ap Some at, subst (λ x. 1 ≤ length (places_with Left x prims)) at (typed_least prims p (both_true (is_object prims p) (has_type prims p property_place) here)))
        one false here same = absurd (cc)

-- LAW: looking a property up, with what it states, and once more what it expects, costs no more than its word
pub property_paid : (prims : List Primitive) (context : Option ℕ) (word : List ℕ) (o before at now : ℕ) → Some o ≡ property_object prims context word
    → at ≤ before + 28 + 30 * word_keys word + 4 * said_of prims (word_object prims context word) → now ≤ at + 25 + 12 * length (places_with Left o prims)
    → now + 23 + 4 * length (places_with Left o prims) ≤ before + 64 * word_cost prims context word
property_paid prims context word o before at now is first second =
    let leads = leads_there prims context word o is in
    by (word_keys word) (said_of prims (word_object prims context word)) (length (places_with Left o prims)) (ap (said_of prims) leads.0) leads.1 (keys_least word) first second
  where
    by : (k s n : ℕ) → s ≡ n → 1 ≤ n → 1 ≤ k → at ≤ before + 28 + 30 * k + 4 * s → now ≤ at + 25 + 12 * n → now + 23 + 4 * n ≤ before + 64 * (k + s)
    by k s n same some keys one two = omega (arith, same, some, keys, one, two)

-- LAW: so does finding that there is none
pub nothing_paid : (prims : List Primitive) (context : Option ℕ) (word : List ℕ) (before now : ℕ) → now ≤ before + 28 + 30 * word_keys word + 4 * said_of prims (word_object prims context word) → now ≤ before + 64 * word_cost prims context word
nothing_paid prims context word before now less = by (word_keys word) (said_of prims (word_object prims context word)) (keys_least word) less
  where
    by : (k s : ℕ) → 1 ≤ k → now ≤ before + 28 + 30 * k + 4 * s → now ≤ before + 64 * (k + s)
    by k s keys less = omega (arith, keys, less)

-- what is told of the property that was found is told of what its word leads to
pub looked_up : (prims : List Primitive) (context : Option ℕ) (word : List ℕ) (o before at now : ℕ) → Some o ≡ property_object prims context word
    → at ≤ before + 28 + 30 * word_keys word + 4 * said_of prims (word_object prims context word) → now ≤ at + 25 + 12 * length (places_with Left o prims) → now ≤ before + property_steps prims context word
looked_up prims context word o before at now is first second =
    by (word_keys word) (said_of prims (word_object prims context word)) (stated_steps prims (property_object prims context word)) (length (places_with Left o prims)) (sym (ap (stated_steps prims) is)) first second
  where
    by : (k s t n : ℕ) → t ≡ 25 + 12 * n → at ≤ before + 28 + 30 * k + 4 * s → now ≤ at + 25 + 12 * n → now ≤ before + (28 + 30 * k + 4 * s + t)
    by k s t n same one two = omega (arith, same, one, two)

-- and where none was found nothing more is
pub not_found : (prims : List Primitive) (context : Option ℕ) (word : List ℕ) (before now : ℕ) → now ≤ before + 28 + 30 * word_keys word + 4 * said_of prims (word_object prims context word) → now ≤ before + property_steps prims context word
not_found prims context word before now less = by (word_keys word) (said_of prims (word_object prims context word)) (stated_steps prims (property_object prims context word)) less
  where
    by : (k s t : ℕ) → now ≤ before + 28 + 30 * k + 4 * s → now ≤ before + (28 + 30 * k + 4 * s + t)
    by k s t less = omega (arith, less)

-- LAW: a property that is found, without what is asked of it, leaves of the cost of its word: it has a key, and something is said of it
pub found_steps : (prims : List Primitive) (context : Option ℕ) (word : List ℕ) (o : ℕ) → Some o ≡ property_object prims context word
    → (k : ℕ) × (1 ≤ k) × (1 ≤ length (places_with Left o prims)) × (word_cost prims context word ≡ k + length (places_with Left o prims)) × (property_steps prims context word ≡ 53 + 30 * k + 16 * length (places_with Left o prims))
found_steps prims context word o is =
    let leads = leads_there prims context word o is in
    (word_keys word, keys_least word, leads.1, ap (λ s. word_keys word + s) (ap (said_of prims) leads.0), by (word_keys word) (said_of prims (word_object prims context word)) (stated_steps prims (property_object prims context word)) (length (places_with Left o prims)) (ap (said_of prims) leads.0) (sym (ap (stated_steps prims) is)))
  where
    by : (k s t n : ℕ) → s ≡ n → t ≡ 25 + 12 * n → 28 + 30 * k + 4 * s + t ≡ 53 + 30 * k + 16 * n
    by k s t n same told = omega (arith, same, told)

-- LAW: looking a word up costs no more than it
pub word_paid : (prims : List Primitive) (context : Option ℕ) (word : List ℕ) → property_steps prims context word ≤ 64 * word_cost prims context word
word_paid prims context word = by (property_object prims context word) refl
  where
    none : (k s t : ℕ) → 1 ≤ k → t ≡ 0 → 28 + 30 * k + 4 * s + t ≤ 64 * (k + s)
    none k s t keys zero = omega (arith, keys, zero)

    some : (x w k n : ℕ) → 1 ≤ k → 1 ≤ n → w ≡ k + n → x ≡ 53 + 30 * k + 16 * n → x ≤ 64 * w
    some x w k n keys said cost takes = omega (arith, keys, said, cost, takes)

    by : (o : Option ℕ) → property_object prims context word ≡ o → property_steps prims context word ≤ 64 * word_cost prims context word
    by None is = none (word_keys word) (said_of prims (word_object prims context word)) (stated_steps prims (property_object prims context word)) (keys_least word) (ap (stated_steps prims) is)
    by (Some o) is = let f = found_steps prims context word o (sym is) in some (property_steps prims context word) (word_cost prims context word) f.0 (length (places_with Left o prims)) f.1 f.2 f.3 f.4

-- ---- a property with an expected type: two things are said of it

-- two searches for what is never the same find two places
two_least : (s t : ℕ → Bool) (xs : List ℕ) → ((x : ℕ) → s x ≡ true → t x ≡ true → ⊥) → is_some (find s xs) ≡ true → is_some (find t xs) ≡ true → 2 ≤ length xs
two_least s t [] never one two = absurd (false≢true one)
two_least s t (x ∷ []) never one two = absurd (never x (there s one) (there t two))
  where
    there : (test : ℕ → Bool) → is_some (find test (x ∷ [])) ≡ true → test x ≡ true
    there test is = by (test x) refl is
      where
        by : (b : Bool) → test x ≡ b → is_some (if b then Some x else None) ≡ true → test x ≡ true
        by true same found = same
        by false same found = absurd (false≢true found)
two_least s t (x ∷ y ∷ ys) never one two = omega arith

one_typ : (o : Option ℕ) (a b : ℕ) → (a ≡ b → ⊥) → refers o a ≡ true → refers o b ≡ true → ⊥
one_typ None a b other here there = false≢true here
one_typ (Some k) a b other here there = other (sym (eqb-true k a here) ∙ eqb-true k b there)

first_true : (a b : Bool) → (a && b) ≡ true → a ≡ true
first_true true b is = refl
first_true false b is = is

-- no link is one to a type and one to an expected type
never_both : (prims : List Primitive) (o x : ℕ) → is_found (gives_type o property_place) prims x ≡ true → is_found (is_link expected_place o) prims x ≡ true → ⊥
never_both prims o x type expected = by (slice_get prims x) (first_true _ (is_live prims x) type) (first_true _ (is_live prims x) expected)
  where
    by : (p : Option Primitive) → option_map_or (gives_type o property_place) p false ≡ true → option_map_or (is_link expected_place o) p false ≡ true → ⊥
    by None one two = false≢true one
    by (Some p) one two = one_typ p.typ type_link_place expected_place (λ same. cc) (first_true _ (refers p.left o) (first_true _ (refers p.right property_place) one)) (first_true _ (refers p.left o) two)

-- what a search finds is there
right_least : (prims : List Primitive) (o : ℕ) → is_some (first_right prims expected_place o) ≡ true → is_some (find (is_found (is_link expected_place o) prims) (places_with Left o prims)) ≡ true
right_least prims o is = ap is_some (sym (found_left (wanted.Link expected_place o) prims)) ∙ (ap is_some (sym (first-live_where (is_link expected_place o) prims)) ∙ some (first (links_from prims expected_place o)) (λ k. Rattle.gd_prim.specs.Live.end_at (λ p. p.right) prims k) is)
  where
    some : (r : Option ℕ) (f : ℕ → Option ℕ) → is_some (option_and_then f r) ≡ true → is_some r ≡ true
    some None f is = is
    some (Some k) f is = refl

-- a property has its type
typed_there : (prims : List Primitive) (context : Option ℕ) (word : List ℕ) (o : ℕ) → Some o ≡ property_object prims context word → has_type prims o property_place ≡ true
typed_there prims context word o is = by (word_object prims context word) (sym is)
  where
    one : (p : ℕ) (b : Bool) → (is_object prims p && has_type prims p property_place) ≡ b → (if b then Some p else None) ≡ Some o → has_type prims o property_place ≡ true
    one p true here same = let at : p ≡ o = cc in subst (λ x. has_type prims x property_place ≡ true) at (both_true (is_object prims p) (has_type prims p property_place) here)
    one p false here same = absurd (cc)

    by : (r : Option ℕ) → option_and_then (λ p. if is_object prims p && has_type prims p property_place then Some p else None) r ≡ Some o → has_type prims o property_place ≡ true
    by None is = absurd (cc)
    by (Some p) is = one p (is_object prims p && has_type prims p property_place) refl is

-- LAW: of a property that states what it expects two things are said at least
pub expects_two : (prims : List Primitive) (context : Option ℕ) (word : List ℕ) (o : ℕ) → Some o ≡ property_object prims context word → is_some (first_right prims expected_place o) ≡ true → 2 ≤ length (places_with Left o prims)
expects_two prims context word o is expects = two_least (is_found (gives_type o property_place) prims) (is_found (is_link expected_place o) prims) (places_with Left o prims) (never_both prims o)
    (ap is_some (sym (found_left (wanted.TypeLink o property_place) prims)) ∙ (sym (has_type-found prims o property_place) ∙ typed_there prims context word o is)) (right_least prims o expects)

-- LAW: a word costs something
pub word_least : (prims : List Primitive) (context : Option ℕ) (word : List ℕ) → 1 ≤ word_cost prims context word
word_least prims context word = by (word_keys word) (said_of prims (word_object prims context word)) (keys_least word)
  where
    by : (k s : ℕ) → 1 ≤ k → 1 ≤ k + s
    by k s keys = omega (arith, keys)
