-- Live links by places, and as the definitions list them.
use Rattle.std.proofs.Common.{◌≡◌, ℕ, suc, ◌+◌, ◌-◌, ◌<◌, arith, List, [], ◌∷◌, length, Bool, true, false, cond, ◌&&◌, Option, Some, None, is_some, unwrap_or, refl, ap, sym, ◌∙◌}
use Rattle.std.specs.Prelude.{filter, slice_get, nat_lt, ◌||◌}
use Rattle.std.specs.List.{find, filter_map, cons_option, list_any, range_with_len}
use Rattle.gd_grammar.specs.Maybe.{◌>>=◌}
use Rattle.gd_prim.specs.declared.Primitive.{Primitive}
use Rattle.gd_prim.specs.Builtin.{lang_place, type_link_place, key_place, unique_place}
use Rattle.gd_prim.specs.Live.{refers, is_current, live_where, passes_at, value_at, end_at}
use Rattle.gd_defs.specs.Property.{first, links_from, first_right, has_type, is_language, is_unique, boolean_of}
use Rattle.gd_list_laws.proofs.Places.{live_where-places, filter-filter, filter-same, list_any-filter}
use Rattle.gd_resolve.specs.Found.{is_link, gives_type, gives_language, is_mark, is_found, first_found}

-- the first that a test keeps is the one that a search finds
first-filter : {A : Type 0} (p : A → Bool) (xs : List A) → first (filter p xs) ≡ find p xs
first-filter p [] = refl
first-filter p (x ∷ xs) = elim (p x) as (λ t. first (cond t (x ∷ filter p xs) (filter p xs)) ≡ cond t (Some x) (find p xs)) [
  | true ↦ refl
  | false ↦ first-filter p xs
]

-- one element more in front, of which something is made or not
one_more : {A B : Type 0} (f : A → Option B) (x : A) (ys : List B) (xs : List A) (made : Option B) → f x ≡ made → first ys ≡ (first xs >>= f)
    → first (cons_option made ys) ≡ (first (cond (is_some made) (x ∷ xs) xs) >>= f)
one_more f x ys xs None is rest = rest
one_more f x ys xs (Some y) is rest = sym is

-- the first that something is made of
first-filter_map : {A B : Type 0} (f : A → Option B) (xs : List A) → first (filter_map f xs) ≡ (first (filter (λ x. is_some (f x)) xs) >>= f)
first-filter_map f [] = refl
first-filter_map f (x ∷ xs) = one_more f x (filter_map f xs) (filter (λ x. is_some (f x)) xs) (f x) refl (first-filter_map f xs)

-- the first live place whose primitive passes
pub first-live_where : (test : Primitive → Bool) (prims : List Primitive) → first (live_where test prims) ≡ first_found test prims
first-live_where test prims = ap first (live_where-places test prims) ∙ first-filter (is_found test prims) (range_with_len 0 (length prims))

regrouped : (a b l c : Bool) → ((a && (l && c)) && b) ≡ ((a && b) && (l && c))
regrouped true true true true = refl
regrouped true true true false = refl
regrouped true true false c = refl
regrouped true false true true = refl
regrouped true false true false = refl
regrouped true false false c = refl
regrouped false b l c = refl

-- the live places whose primitive passes two tests
filter-live_where : (test more : Primitive → Bool) (prims : List Primitive) → filter (passes_at more prims) (live_where test prims) ≡ live_where (λ p. test p && more p) prims
filter-live_where test more prims =
    ap (filter (passes_at more prims)) (live_where-places test prims)
    ∙ filter-filter (is_found test prims) (passes_at more prims) (range_with_len 0 (length prims))
    ∙ filter-same _ (is_found (λ p. test p && more p) prims) (range_with_len 0 (length prims)) (λ k. one k (slice_get prims k) refl)
    ∙ sym (live_where-places (λ p. test p && more p) prims)
  where
    one : (k : ℕ) (at : Option Primitive) → slice_get prims k ≡ at → (is_found test prims k && passes_at more prims k) ≡ is_found (λ p. test p && more p) prims k
    one k None is = rw is refl
    one k (Some p) is = rw is (regrouped (test p) (more p) p.live (is_current prims k))

-- the right end of the first live link is that of the one that is found
pub first_right-found : (prims : List Primitive) (typ o : ℕ) (link : Option ℕ) → first_found (is_link typ o) prims ≡ link
    → first_right prims typ o ≡ (link >>= end_at (λ p. p.right) prims)
first_right-found prims typ o link is = ap (λ k. k >>= end_at (λ p. p.right) prims) (first-live_where (is_link typ o) prims ∙ is)

-- some element passes where one is found
is_some-find : {A : Type 0} (p : A → Bool) (xs : List A) → list_any p xs ≡ is_some (find p xs)
is_some-find p [] = refl
is_some-find p (x ∷ xs) = elim (p x) as (λ t. (t || list_any p xs) ≡ is_some (cond t (Some x) (find p xs))) [
  | true ↦ refl
  | false ↦ is_some-find p xs
]

-- an object has a type where a live link that gives it is found
pub has_type-found : (prims : List Primitive) (o type : ℕ) → has_type prims o type ≡ is_some (first_found (gives_type o type) prims)
has_type-found prims o type =
    list_any-filter (passes_at (λ p. refers p.right type) prims) (links_from prims type_link_place o)
    ∙ ap (λ ks. nat_lt 0 (length ks)) (filter-live_where (is_link type_link_place o) (λ p. refers p.right type) prims ∙ live_where-places (gives_type o type) prims)
    ∙ sym (list_any-filter (is_found (gives_type o type) prims) (range_with_len 0 (length prims)))
    ∙ is_some-find (is_found (gives_type o type) prims) (range_with_len 0 (length prims))

-- an object is a language where a live link that gives it a key among them is found
pub is_language-found : (prims : List Primitive) (o : ℕ) → is_language prims o ≡ is_some (first_found (gives_language o) prims)
is_language-found prims o =
    list_any-filter (passes_at (λ p. refers p.right lang_place) prims) (links_from prims key_place o)
    ∙ ap (λ ks. nat_lt 0 (length ks)) (filter-live_where (is_link key_place o) (λ p. refers p.right lang_place) prims ∙ live_where-places (gives_language o) prims)
    ∙ sym (list_any-filter (is_found (gives_language o) prims) (range_with_len 0 (length prims)))
    ∙ is_some-find (is_found (gives_language o) prims) (range_with_len 0 (length prims))

-- a search over the places from one on looks at it, and then at those behind it
pub find-range : (test : ℕ → Bool) (k n : ℕ) → k < n → find test (range_with_len k (n - k)) ≡ cond (test k) (Some k) (find test (range_with_len (k + 1) (n - (k + 1))))
find-range test k n below =
    let more : n - k ≡ suc (n - (k + 1)) = omega arith in
    rw more refl

-- the first truth value of a mark is that of the first mark with one
first-truth : (prims : List Primitive) (p : ℕ)
    → first (filter_map (λ k. boolean_of (value_at prims k)) (links_from prims unique_place p)) ≡ (first_found (is_mark p) prims >>= λ k. boolean_of (value_at prims k))
first-truth prims p =
    first-filter_map (λ k. boolean_of (value_at prims k)) (links_from prims unique_place p)
    ∙ ap (λ ks. first ks >>= λ k. boolean_of (value_at prims k))
    (filter-same _ (passes_at (λ k. is_some (boolean_of k.value)) prims) (links_from prims unique_place p) (λ k. one k (slice_get prims k) refl)
    ∙ filter-live_where (is_link unique_place p) (λ k. is_some (boolean_of k.value)) prims)
    ∙ ap (λ o. o >>= λ k. boolean_of (value_at prims k)) (first-live_where (is_mark p) prims)
  where
    one : (k : ℕ) (at : Option Primitive) → slice_get prims k ≡ at → is_some (boolean_of (value_at prims k)) ≡ passes_at (λ k. is_some (boolean_of k.value)) prims k
    one k None is = rw is refl
    one k (Some q) is = rw is refl

-- a property is unique by the mark that is found
pub is_unique-found : (prims : List Primitive) (p : ℕ) (mark : Option ℕ) → first_found (is_mark p) prims ≡ mark
    → is_unique prims p ≡ unwrap_or (mark >>= λ k. boolean_of (value_at prims k)) false
is_unique-found prims p mark is = ap (λ o. unwrap_or o false) (first-truth prims p ∙ ap (λ o. o >>= λ k. boolean_of (value_at prims k)) is)
