-- The answers of a property among the links of an object, and the sort keys of rows.
use Rattle.std.proofs.Common.{◌≡◌, ℕ, zero, suc, cond, ◌+◌, ◌<◌, List, [], ◌∷◌, ◌++◌, Bool, true, false, ◌&&◌, Option, None, Some, length, map, drop, get_or, refl, ap, sym, ◌∙◌, arith, add-one, drop-cons, append_assoc}
use Rattle.std.specs.Prelude.{filter, slice_get, is_none, ◌≤◌}
use Rattle.std.proofs.lemmas.List.{drop_all}
use Rattle.std.specs.Option.{option_map_or}
use Rattle.gd_prim.specs.declared.Primitive.{Primitive}
use Rattle.gd_prim.specs.End.{places_with}
use Rattle.gd_prim.specs.Live.{refers, passes_at, is_live, is_object, live_where}
use Rattle.gd_defs.specs.Plan.{asked_end}
use Rattle.gd_defs.specs.Property.{Property, is_of, answers, first, leads_to_object, holds_expected, expects_of}
use Rattle.gd_defs.specs.Asked.{SortKey}
use Rattle.gd_defs.specs.Rows.{key_place, first_key, later_keys}
use Rattle.gd_defs.specs.Reply.{fitted}
use Rattle.gd_list_laws.proofs.Places.{filter-filter, filter-same, live_where-places, places_where-places}
use Rattle.gd_template_laws.proofs.Places.{object-live, places}
use Rattle.gd_plan.specs.declared.asked.SortKey as asked
use Rattle.gd_plan.specs.Seen.{sort_key_view}
use Rattle.gd_window.specs.Laws.{keys_at}
use Rattle.gd_window.specs.declared.keys.Key.{Key}
use Rattle.gd_thawed.specs.KeysAt.{is_answer_at, key_at, own_key, below}

pub object_is : (prims : List Primitive) (k : ℕ) → is_object prims k ≡ (is_live prims k && passes_at (λ p. is_none p.typ) prims k)
object_is prims k = object-live prims k

-- ---- links

links_back : (prims : List Primitive) (p : Property) (o x : ℕ) (near : Primitive → Option ℕ) (held : Primitive → Bool)
    → (passes_at (λ k. is_of p k && refers (near k) o && held k) prims x && is_live prims x)
    ≡ (passes_at (λ k. refers (near k) o) prims x && (passes_at (λ k. is_of p k && held k) prims x && is_live prims x))
links_back prims p o x near held = by (slice_get prims x) (is_live prims x)
  where
    swap : (t n h l : Bool) → (((t && n) && h) && l) ≡ (n && ((t && h) && l))
    swap true true h l = refl
    swap true false h l = refl
    swap false true h l = refl
    swap false false h l = refl

    by : (q : Option Primitive) (l : Bool) → (option_map_or (λ k. is_of p k && refers (near k) o && held k) q false && l)
        ≡ (option_map_or (λ k. refers (near k) o) q false && (option_map_or (λ k. is_of p k && held k) q false && l))
    by None l = refl
    by (Some k) l = swap (is_of p k) (refers (near k) o) (held k) l

among : (prims : List Primitive) (p : Property) (o : ℕ) (near : Primitive → Option ℕ) (held : Primitive → Bool)
    → live_where (λ k. is_of p k && refers (near k) o && held k) prims
    ≡ filter (λ x. passes_at (λ k. is_of p k && held k) prims x && is_live prims x) (filter (passes_at (λ k. refers (near k) o) prims) (places prims))
among prims p o near held =
    live_where-places (λ k. is_of p k && refers (near k) o && held k) prims
    ∙ filter-same _ _ (places prims) (λ x. links_back prims p o x near held)
    ∙ sym (filter-filter (passes_at (λ k. refers (near k) o) prims) (λ x. passes_at (λ k. is_of p k && held k) prims x && is_live prims x) (places prims))

-- the answers of a property on an object are among the links that have it at the end by which the property is asked
answers-links : (prims : List Primitive) (stored : ℕ) (reversed : Bool) (expected : Option ℕ) (unique : Bool) (language : Option ℕ) (o : ℕ)
    → let p : Property = record { stored = stored; reversed = reversed; expected = expected; unique = unique; language = language } in
    answers prims p o ≡ filter (is_answer_at prims p) (places_with (asked_end p) o prims)
answers-links prims stored true expected unique language o =
    let p : Property = record { stored = stored; reversed = true; expected = expected; unique = unique; language = language } in
    among prims p o (λ k. k.right) (λ k. leads_to_object prims k.left) ∙ ap (filter (is_answer_at prims p)) (sym (places_where-places (λ k. refers k.right o) prims))
answers-links prims stored false expected unique language o =
    let p : Property = record { stored = stored; reversed = false; expected = expected; unique = unique; language = language } in
    among prims p o (λ k. k.left) (λ k. holds_expected prims (expects_of expected) k) ∙ ap (filter (is_answer_at prims p)) (sym (places_where-places (λ k. refers k.left o) prims))

pub first_answer : (prims : List Primitive) (p : Property) (o : ℕ) → first (answers prims p o) ≡ first (filter (is_answer_at prims p) (places_with (asked_end p) o prims))
first_answer prims p o = ap first (answers-links prims p.stored p.reversed p.expected p.unique p.language o)

-- ---- keys

pub own_keys : (prims : List Primitive) (o : ℕ) (sort : List SortKey) → keys_at prims sort (map (key_place prims o) sort) ≡ map (own_key prims o) sort
own_keys prims o [] = refl
own_keys prims o (s ∷ sort) = ap (λ ks. own_key prims o s ∷ ks) (own_keys prims o sort)

-- ---- what is left

left_at : {A : Type 0} (xs : List A) (i : ℕ) (x : A) → i < length xs → x ≡ get_or xs i x → drop i xs ≡ x ∷ drop (i + 1) xs
left_at xs i x within is = rw (add-one, drop-cons xs i x) (ap (λ y. y ∷ drop (suc i) xs) (sym is))

first_cond : (b : Bool) (x : ℕ) (xs : List ℕ) → b ≡ true → first (cond b (x ∷ xs) xs) ≡ Some x
first_cond b x xs is = rw is refl

-- the first of what is left, where it passes
pub first_yes : (test : ℕ → Bool) (xs : List ℕ) (i x : ℕ) → i < length xs → x ≡ get_or xs i x → test x ≡ true → first (filter test (drop i xs)) ≡ Some x
first_yes test xs i x within is passes = ap (λ ys. first (filter test ys)) (left_at xs i x within is) ∙ first_cond (test x) x (filter test (drop (i + 1) xs)) passes

-- and where it does not
pub first_no : (test : ℕ → Bool) (xs : List ℕ) (i x : ℕ) → i < length xs → x ≡ get_or xs i x → test x ≡ false → first (filter test (drop i xs)) ≡ first (filter test (drop (i + 1) xs))
first_no test xs i x within is fails = ap (λ ys. first (filter test ys)) (left_at xs i x within is) ∙ ap (λ b. first (cond b (x ∷ filter test (drop (i + 1) xs)) (filter test (drop (i + 1) xs)))) fails

later_drop : (i : ℕ) (ks : List (Option ℕ)) → later_keys (drop i ks) ≡ drop (suc i) ks
later_drop zero [] = refl
later_drop zero (k ∷ ks) = refl
later_drop (suc i) [] = refl
later_drop (suc i) (k ∷ ks) = later_drop i ks

fitted_front : (end : ℕ) (s : SortKey) (ss : List SortKey) (ks : List (Option ℕ)) → fitted end (s ∷ ss) ks ≡ below end (first_key ks) ∷ fitted end ss (later_keys ks)
fitted_front end s ss [] = refl
fitted_front end s ss (None ∷ ks) = refl
fitted_front end s ss (Some p ∷ ks) = refl

-- the keys of a mark that are left, by one
pub marks_left : (prims : List Primitive) (end : ℕ) (sort : List asked.SortKey) (places : List (Option ℕ)) (i : ℕ) (x : asked.SortKey) → i < length sort → x ≡ get_or sort i x
    → keys_at prims (map sort_key_view (drop i sort)) (fitted end (map sort_key_view (drop i sort)) (drop i places))
    ≡ key_at prims (sort_key_view x) (below end (first_key (drop i places))) ∷ keys_at prims (map sort_key_view (drop (i + 1) sort)) (fitted end (map sort_key_view (drop (i + 1) sort)) (drop (i + 1) places))
marks_left prims end sort places i x within is =
    let s = sort_key_view x in
    let ss = map sort_key_view (drop (i + 1) sort) in
    let next : suc i ≡ i + 1 = omega arith in
    ap (λ (ks : List asked.SortKey). keys_at prims (map sort_key_view ks) (fitted end (map sort_key_view ks) (drop i places))) (left_at sort i x within is)
    ∙ ap (λ ks. keys_at prims (s ∷ ss) ks) (fitted_front end s ss (drop i places) ∙ ap (λ ks. below end (first_key (drop i places)) ∷ fitted end ss ks) (later_drop i places ∙ ap (λ n. drop n places) next))

-- one key of a mark more
pub marks_more : (prims : List Primitive) (end : ℕ) (sort : List asked.SortKey) (places : List (Option ℕ)) (i : ℕ) (x : asked.SortKey) (before after all : List Key) (place fit : Option ℕ) (k : Key) → i < length sort → x ≡ get_or sort i x
    → place ≡ first_key (drop i places) → fit ≡ below end place → k ≡ key_at prims (sort_key_view x) fit → after ≡ before ++ k ∷ []
    → before ++ keys_at prims (map sort_key_view (drop i sort)) (fitted end (map sort_key_view (drop i sort)) (drop i places)) ≡ all
    → after ++ keys_at prims (map sort_key_view (drop (i + 1) sort)) (fitted end (map sort_key_view (drop (i + 1) sort)) (drop (i + 1) places)) ≡ all
marks_more prims end sort places i x before after all place fit k within is place_is fit_is k_is after_is left =
    let rest = keys_at prims (map sort_key_view (drop (i + 1) sort)) (fitted end (map sort_key_view (drop (i + 1) sort)) (drop (i + 1) places)) in
    let same : k ≡ key_at prims (sort_key_view x) (below end (first_key (drop i places))) = k_is ∙ ap (key_at prims (sort_key_view x)) (fit_is ∙ ap (below end) place_is) in
    ap (λ ks. ks ++ rest) after_is ∙ append_assoc before (k ∷ []) rest ∙ ap (λ y. before ++ y ∷ rest) same
    ∙ ap (λ ks. before ++ ks) (sym (marks_left prims end sort places i x within is)) ∙ left

-- none is left behind the last one
pub first_past : (test : ℕ → Bool) (xs : List ℕ) (i : ℕ) → length xs ≤ i → first (filter test (drop i xs)) ≡ None
first_past test xs i past = ap (λ ys. first (filter test ys)) (drop_all i xs past)
