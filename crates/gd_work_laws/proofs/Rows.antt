-- Candidates and rows: the work of a set pays for each of them, once.
use Rattle.std.proofs.Common.{◌≡◌, ◌∙◌, ℕ, ◌+◌, ◌≤◌, List, [], ◌∷◌, ◌++◌, map, filter, Bool, true, false, cond, ◌||◌, not, Option, Some, None, inl, inr, refl, sym, ap, subst, arith}
use Rattle.std.specs.Prelude.{sum_by, find, option_and_then, option_map, if◌then◌else◌, slice_get}
use Rattle.std.specs.List.{cons_option}
use Rattle.std.specs.Option.{option_map_or}
use Rattle.std.specs.Ordering.{nat_cmp, is_lt}
use Rattle.std.proofs.lemmas.List.Sums.{sum_by-cons, sum_by-take-le}
use Rattle.std.proofs.lemmas.List.Sorted.{sum_by-IsPermutation}
use Rattle.gd_prim.specs.declared.Primitive.{Primitive}
use Rattle.gd_prim.specs.Live.{objects, places_where, end_at}
use Rattle.gd_defs.specs.Query.{required}
use Rattle.gd_defs.specs.Property.{Expects, a_value, a_key, an_object_of_system, a_plain_object, near_of}
use Rattle.gd_defs.specs.Data.{passes}
use Rattle.gd_defs.specs.Asked.{its_id, its_guid, its_timestamp, its_link, its_value, its_namespace, its_lang, Asking, Members, no_members, own, asks, Asked}
use Rattle.gd_defs.specs.Plan.{answers_of}
use Rattle.gd_defs.specs.Rows.{Row, row_of, row_cmp, rows, candidates, met, is_met, meets, meets_given, meets_mode, answer_meets, own_datum}
use Rattle.gd_defs.specs.Reply.{Mark, page, rows_after, mark_row}
use Rattle.gd_match_laws.specs.PassedOn.{In, Apart, ScanOrder, is_among, RootSet, everything, named_places, links_of, set_places, root_sets, sets_by_name, sets_by_link, first_times, link_order, set_order, work, set_work}
use Rattle.gd_match_laws.proofs.PassedOn.{In-filter, In-filtered, sorted_permutes, apart_objects, both_true, true_both, answer_known, among_in, picked, picks, scanned_all}
use Rattle.gd_template_laws.specs.Fits.{AreAsked, IsAsked}
use Rattle.gd_work_laws.specs.Scan.{chosen}
use Rattle.gd_work_laws.proofs.Smallest.{once_sum}

-- ---- places of members of a set

-- the places that are there
there_of : List (Option ℕ) → List ℕ
there_of [] = []
there_of (None ∷ ps) = there_of ps
there_of (Some x ∷ ps) = x ∷ there_of ps

there_in : (ps : List (Option ℕ)) (x : ℕ) → In (Some x) ps → In x (there_of ps)
unfolding there_of
there_in [] x here = absurd here
there_in (None ∷ ps) x (inl same) = absurd (cc same)
there_in (None ∷ ps) x (inr there) = there_in ps x there
there_in (Some y ∷ ps) x (inl same) = inl (one same)
  where
    one : Some y ≡ Some x → y ≡ x
    one is = cc
there_in (Some y ∷ ps) x (inr there) = inr (there_in ps x there)

there_sum : (f : ℕ → ℕ) (ps : List (Option ℕ)) → sum_by (λ x. 1 + f x) (there_of ps) ≤ sum_by (λ place. 1 + option_map_or f place 0) ps
unfolding there_of
there_sum f [] = omega arith
there_sum f (None ∷ ps) = by _ _ _ (sum_by-cons (λ (place : Option ℕ). 1 + option_map_or f place 0) None ps) (there_sum f ps)
  where
    by : (r s t : ℕ) → t ≡ 1 + 0 + s → r ≤ s → r ≤ t
    by r s t is less = omega (arith, is, less)
there_sum f (Some x ∷ ps) = by _ _ _ _ (sum_by-cons (λ (y : ℕ). 1 + f y) x (there_of ps)) (sum_by-cons (λ (place : Option ℕ). 1 + option_map_or f place 0) (Some x) ps) (there_sum f ps)
  where
    by : (r s t u : ℕ) → t ≡ 1 + f x + r → u ≡ 1 + f x + s → r ≤ s → t ≤ u
    by r s t u one two less = omega (arith, one, two, less)

pub places_paid : (prims : List Primitive) (q : Asked) (s : RootSet) (os : List ℕ) → Apart nat_cmp os → ((o : ℕ) → In o os → In (Some o) (set_places prims s)) → sum_by (λ o. 1 + work prims q.sort q.members o) os ≤ set_work prims q s
places_paid prims q s os once there =
    within _ _ _ (once_sum (λ o. 1 + work prims q.sort q.members o) os (there_of (set_places prims s)) once (λ x here. there_in (set_places prims s) x (there x here))) (there_sum (work prims q.sort q.members) (set_places prims s))
  where
    within : (a b c : ℕ) → a ≤ b → b ≤ c → a ≤ c
    within a b c one two = omega (arith, one, two)

-- ---- candidates are those of members of the set

in_some : (xs : List ℕ) (x : ℕ) → In x xs → In (Some x) (map (λ y. Some y) xs)
in_some [] x here = absurd here
in_some (y ∷ ys) x (inl same) = inl (ap Some same)
in_some (y ∷ ys) x (inr there) = inr (in_some ys x there)

in_themselves : (xs : List ℕ) (x : ℕ) → In x (map (λ (c : ℕ × ℕ). c.1) (map (λ y. (y, y)) xs)) → In x xs
in_themselves [] x here = absurd here
in_themselves (y ∷ ys) x (inl same) = inl same
in_themselves (y ∷ ys) x (inr there) = inr (in_themselves ys x there)

pub in_first : (done : List ℕ) (cs : ScanOrder) (x : ℕ) → In x (map (λ c. c.1) (first_times done cs)) → In x (map (λ c. c.1) cs)
in_first done [] x here = absurd here
in_first done (c ∷ cs) x here = by (is_among done c.1) here (in_first done cs x) (in_first (c.1 ∷ done) cs x)
  where
    by : (b : Bool) → In x (map (λ c. c.1) (if b then first_times done cs else c ∷ first_times (c.1 ∷ done) cs)) → (In x (map (λ c. c.1) (first_times done cs)) → In x (map (λ c. c.1) cs))
        → (In x (map (λ c. c.1) (first_times (c.1 ∷ done) cs)) → In x (map (λ c. c.1) cs)) → In x (map (λ c. c.1) (c ∷ cs))
    by true there old new = inr (old there)
    by false (inl same) old new = inl same
    by false (inr there) old new = inr (new there)

pub found_passes : (test : ℕ → Bool) (xs : List ℕ) (x : ℕ) → find test xs ≡ Some x → test x ≡ true
found_passes test [] x is = absurd (cc)
found_passes test (y ∷ ys) x is = by (test y) refl is (found_passes test ys x)
  where
    same : Some y ≡ Some x → y ≡ x
    same eq = cc

    by : (b : Bool) → test y ≡ b → cond b (Some y) (find test ys) ≡ Some x → (find test ys ≡ Some x → test x ≡ true) → test x ≡ true
    by true passed is rest = subst (λ z. test z ≡ true) (same is) passed
    by false fails is rest = rest is

pub end_there : (end : Primitive → Option ℕ) (prims : List Primitive) (k : ℕ) (x : Primitive) → slice_get prims k ≡ Some x → end_at end prims k ≡ end x
end_there end prims k x is = ap (λ r. option_and_then end r) is

pub in_links : (prims : List Primitive) (a : Asking) (c : Members) (links : List ℕ) (x : ℕ) → In x (map (λ e. e.1) (link_order prims a c links)) → In (Some x) (map (λ k. end_at (near_of a.property) prims k) links)
in_links prims a c [] x here = absurd here
in_links prims a c (k ∷ links) x here = by (find (λ o. is_among (met prims a c o) k) (objects prims)) refl here (in_links prims a c links x)
  where
    near : (o : ℕ) → find (λ o. is_among (met prims a c o) k) (objects prims) ≡ Some o → end_at (near_of a.property) prims k ≡ Some o
    near o found =
        let known = answer_known prims a.property o k (In-filter (answer_meets prims a (meets prims c)) (Rattle.gd_defs.specs.Property.answers prims a.property o) k
        (among_in (met prims a c o) k (found_passes (λ o. is_among (met prims a c o) k) (objects prims) o found))).0 in
        end_there (near_of a.property) prims k known.0 known.1 ∙ known.4

    by : (r : Option ℕ) → find (λ o. is_among (met prims a c o) k) (objects prims) ≡ r → In x (map (λ e. e.1) (cons_option (option_map (λ o. (k, o)) r) (link_order prims a c links)))
        → (In x (map (λ e. e.1) (link_order prims a c links)) → In (Some x) (map (λ k. end_at (near_of a.property) prims k) links)) → In (Some x) (map (λ k. end_at (near_of a.property) prims k) (k ∷ links))
    by None none there rest = inr (rest there)
    by (Some o) found (inl same) rest = inl (near o found ∙ ap Some same)
    by (Some o) found (inr there) rest = inr (rest there)

in_order : (prims : List Primitive) (s : RootSet) (x : ℕ) → In x (map (λ c. c.1) (set_order prims s)) → In (Some x) (set_places prims s)
in_order prims everything x here = in_some (places_where (λ p. true) prims) x (in_themselves (places_where (λ p. true) prims) x here)
in_order prims (named_places ps) x here = in_some ps x (among_in ps x (In-filter (is_among ps) (places_where (λ p. true) prims) x (in_themselves (filter (is_among ps) (places_where (λ p. true) prims)) x here)).1)
in_order prims (links_of a c links) x here = in_links prims a c links x (in_first [] (link_order prims a c links) x here)

-- the set that is scanned is the first of the smallest
pub picked_chosen : (prims : List Primitive) (q : Asked) → picked prims (sets_by_name q.members ++ sets_by_link prims q.members) ≡ chosen prims (root_sets prims q.members)
picked_chosen prims q = by (sets_by_name q.members ++ sets_by_link prims q.members) refl
  where
    by : (l : List RootSet) → sets_by_name q.members ++ sets_by_link prims q.members ≡ l → picked prims (sets_by_name q.members ++ sets_by_link prims q.members) ≡ chosen prims (root_sets prims q.members)
    by [] is = rw is refl
    by (s ∷ ss) is = rw is refl

pub candidates_there : (prims : List Primitive) (q : Asked) (o : ℕ) → In o (candidates prims q) → In (Some o) (set_places prims (chosen prims (root_sets prims q.members)))
candidates_there prims q o here = in_order prims (chosen prims (root_sets prims q.members)) o
    (subst (λ s. In o (map (λ c. c.1) (set_order prims s))) (picked_chosen prims q) (subst (λ order. In o (map (λ c. c.1) order)) (picks prims q) (scanned_all prims q o here)))

-- ---- rows

-- a member that is given is required
given_required : (a : Asking) (c : Members) (e : Expects) (X : Type 0) → IsAsked e a c X → a.given ≡ true → a.mode ≡ required
given_required a c (a_value k) X asked given = (asked.given given).0
given_required a c a_key X asked given = (asked.given given).0
given_required a c an_object_of_system X asked given = (asked.given given).0
given_required a c a_plain_object X asked given = (asked.given given).0

-- what meets a query meets what is given
met_given : (prims : List Primitive) (ms : Members) → AreAsked ms → (link o : ℕ) → meets prims ms link o ≡ true → meets_given prims ms link o ≡ true
met_given prims no_members are link o is = refl
met_given prims (own name its_id t j ms) are link o is =
    let both = both_true (passes t (own_datum prims its_id link o)) (meets prims ms link o) is in true_both _ _ both.0 (met_given prims ms are.1 link o both.1)
met_given prims (own name its_guid t j ms) are link o is =
    let both = both_true (passes t (own_datum prims its_guid link o)) (meets prims ms link o) is in true_both _ _ both.0 (met_given prims ms are.1 link o both.1)
met_given prims (own name its_timestamp t j ms) are link o is =
    let both = both_true (passes t (own_datum prims its_timestamp link o)) (meets prims ms link o) is in true_both _ _ both.0 (met_given prims ms are.1 link o both.1)
met_given prims (own name its_link t j ms) are link o is =
    let both = both_true (passes t (own_datum prims its_link link o)) (meets prims ms link o) is in true_both _ _ both.0 (met_given prims ms are.1 link o both.1)
met_given prims (own name its_value t j ms) are link o is = absurd are
met_given prims (own name its_namespace t j ms) are link o is = absurd are
met_given prims (own name its_lang t j ms) are link o is = absurd are
met_given prims (asks name a c ms) are link o is =
    let both = both_true (meets_mode a.mode (is_met prims a c o)) (meets prims ms link o) is in
    true_both _ _ (by a.given refl both.0) (met_given prims ms are.1 link o both.1)
  where
    by : (b : Bool) → a.given ≡ b → meets_mode a.mode (is_met prims a c o) ≡ true → (not b || is_met prims a c o) ≡ true
    by false given met = refl
    by true given met = ap (λ m. meets_mode m (is_met prims a c o)) (sym (given_required a c (answers_of a.property) (AreAsked c) are.0 given)) ∙ met

sum_map : (h : ℕ → Row) (f : Row → ℕ) (xs : List ℕ) → sum_by f (map h xs) ≡ sum_by (λ x. f (h x)) xs
sum_map h f [] = refl
sum_map h f (x ∷ xs) = sum_by-cons f (h x) (map h xs) ∙ (ap (λ n. f (h x) + n) (sum_map h f xs) ∙ sym (sum_by-cons (λ y. f (h y)) x xs))

sum_filter : (p : Row → Bool) (f : Row → ℕ) (xs : List Row) → sum_by f (filter p xs) ≤ sum_by f xs
sum_filter p f [] = omega arith
sum_filter p f (x ∷ xs) = by (p x) (sum_by-cons f x (filter p xs)) (sum_by-cons f x xs) (sum_filter p f xs)
  where
    keep : (a r s t u : ℕ) → t ≡ a + r → u ≡ a + s → r ≤ s → t ≤ u
    keep a r s t u one two rest = omega (arith, one, two, rest)

    drop_it : (a r s u : ℕ) → u ≡ a + s → r ≤ s → r ≤ u
    drop_it a r s u two rest = omega (arith, two, rest)

    by : (b : Bool) → sum_by f (x ∷ filter p xs) ≡ f x + sum_by f (filter p xs) → sum_by f (x ∷ xs) ≡ f x + sum_by f xs → sum_by f (filter p xs) ≤ sum_by f xs → sum_by f (cond b (x ∷ filter p xs) (filter p xs)) ≤ sum_by f (x ∷ xs)
    by true one two rest = keep (f x) _ _ _ _ one two rest
    by false one two rest = drop_it (f x) _ _ _ two rest

pub page_sum : (prims : List Primitive) (q : Asked) (after : Option Mark) (f : ℕ → ℕ) → sum_by (λ (r : Row). f r.object) (page prims q after) ≤ sum_by f (filter (meets prims q.members 0) (objects prims))
page_sum prims q after f = by _ _ _ _ (sum_by-take-le (λ (r : Row). f r.object) (rows_after prims q after) q.limit) (behind after)
    (sum_by-IsPermutation (λ (r : Row). f r.object) (map (λ o. row_of prims q.sort 0 o) them ++ []) (rows prims q) (sorted_permutes (row_cmp prims q.sort) [] (map (λ o. row_of prims q.sort 0 o) them))) (end them)
  where
    them : List ℕ
    them = filter (meets prims q.members 0) (objects prims)

    behind : (after : Option Mark) → sum_by (λ (r : Row). f r.object) (rows_after prims q after) ≤ sum_by (λ (r : Row). f r.object) (rows prims q)
    behind None = omega arith
    behind (Some m) = sum_filter (λ r. is_lt (row_cmp prims q.sort (mark_row prims q.sort m) r)) (λ (r : Row). f r.object) (rows prims q)

    nil : (xs : List Row) → xs ++ [] ≡ xs
    nil [] = refl
    nil (x ∷ xs) = ap (λ l. x ∷ l) (nil xs)

    end : (os : List ℕ) → sum_by (λ (r : Row). f r.object) (map (λ o. row_of prims q.sort 0 o) os ++ []) ≡ sum_by f os
    end os = ap (sum_by (λ (r : Row). f r.object)) (nil (map (λ o. row_of prims q.sort 0 o) os)) ∙ sum_map (λ o. row_of prims q.sort 0 o) (λ (r : Row). f r.object) os

    by : (p r s t : ℕ) → p ≤ r → r ≤ s → s ≡ t → t ≡ sum_by f them → p ≤ sum_by f them
    by p r s t one two three four = omega (arith, one, two, three, four)

-- the objects of rows are candidates, each once
pub rows_candidates : (prims : List Primitive) (q : Asked) → AreAsked q.members → (o : ℕ) → In o (filter (meets prims q.members 0) (objects prims)) → In o (candidates prims q)
rows_candidates prims q are o here =
    let found = In-filter (meets prims q.members 0) (objects prims) o here in
    In-filtered (meets_given prims q.members 0) (objects prims) o found.0 (met_given prims q.members are 0 o found.1)

pub rows_once : (prims : List Primitive) (q : Asked) → Apart nat_cmp (filter (meets prims q.members 0) (objects prims))
rows_once prims q = apart_objects prims (meets prims q.members 0)
