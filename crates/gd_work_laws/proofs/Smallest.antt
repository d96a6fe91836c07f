-- The smallest sets of a query, and the greatest work among them.
use Rattle.std.proofs.Common.{◌≡◌, ◌≢◌, ℕ, zero, suc, ◌+◌, ◌<◌, ◌≤◌, List, [], ◌∷◌, ◌++◌, length, map, filter, Bool, true, false, cond, not, Option, Some, None, ◌⊎◌, inl, inr, ⊎_elim, refl, sym, ap, subst, arith}
use Rattle.std.specs.Prelude.{sum_by, fold, min, max, nat_lt, ◌==◌, if◌then◌else◌}
use Rattle.std.specs.List.{range_with_len}
use Rattle.std.specs.Option.{option_map_or, option_to_list}
use Rattle.std.specs.Ordering.{nat_cmp}
use Rattle.std.specs.declared.cmp.Ordering.TheVariants.{Equal}
use Rattle.std.proofs.lemmas.Bool.{cases_order, eq-eqb, ne_eqb, ltb-true, ltb-false}
use Rattle.std.proofs.lemmas.Cmp.{nat_cmp_total, tied_itself}
use Rattle.std.proofs.lemmas.List.Filters.{sum_by-filter_both}
use Rattle.std.proofs.lemmas.List.Sums.{sum_by-cons}
use Rattle.gd_base.proofs.Order.{same_nat}
use Rattle.gd_prim.specs.declared.Primitive.{Primitive}
use Rattle.gd_prim.specs.Live.{places_where}
use Rattle.gd_defs.specs.Property.{Property}
use Rattle.gd_defs.specs.Asked.{Own, its_id, its_guid, Asking, Members, no_members, own, asks, Asked}
use Rattle.gd_defs.specs.Data.{Test, equals, is_one_of}
use Rattle.gd_match_laws.specs.PassedOn.{In, Each, Apart, RootSet, everything, named_places, set_size, root_sets, first_smallest, named, distinct, named_sets, link_sets, sets_by_name, sets_by_link, with_far, set_work, query_work}
use Rattle.gd_match_laws.proofs.PassedOn.{Each-member, Each-from_members, In-filter, In-filtered, Apart-filter, Each-both}
use Rattle.gd_defs.specs.Plan.{places_of}
use Rattle.gd_list_laws.proofs.Places.{places_where-places}
use Rattle.gd_template_laws.proofs.Places.{places}
use Rattle.gd_base.specs.declared.datum.Datum.{Datum}
use Rattle.gd_base.specs.declared.datum.Datum.TheVariants as datum
use Rattle.gd_work_laws.proofs.Named.{TestInside, OwnInside, NamesInside}
use Rattle.gd_work_laws.specs.Scan.{least_size, IsSmallest, chosen}

-- ---- sums over places, each once

member_sum : (f : ℕ → ℕ) (x : ℕ) (ys : List ℕ) → In x ys → f x ≤ sum_by f ys
member_sum f x [] here = absurd here
member_sum f x (y ∷ ys) (inl same) = by _ _ _ _ (sum_by-cons f y ys) (ap f same)
  where
    by : (a b r s : ℕ) → s ≡ b + r → b ≡ a → a ≤ s
    by a b r s is same = omega (arith, is, same)
member_sum f x (y ∷ ys) (inr there) = by _ _ _ _ (sum_by-cons f y ys) (member_sum f x ys there)
  where
    by : (a b r s : ℕ) → s ≡ b + r → a ≤ r → a ≤ s
    by a b r s is less = omega (arith, is, less)

-- one that stands in a list, and the others
others_sum : (f : ℕ → ℕ) (x : ℕ) (ys : List ℕ) → In x ys → f x + sum_by f (filter (λ y. not (y == x)) ys) ≤ sum_by f ys
others_sum f x ys here =
    by _ _ _ _ (sum_by-filter_both (λ y. not (y == x)) (λ y. y == x) (λ y. twice (y == x)) f ys)
    (member_sum f x (filter (λ y. y == x) ys) (In-filtered (λ y. y == x) ys x here (eq-eqb x x refl)))
  where
    twice : (b : Bool) → b ≡ not (not b)
    twice true = refl
    twice false = refl

    by : (a b c s : ℕ) → b + c ≡ s → a ≤ c → a + b ≤ s
    by a b c s whole less = omega (arith, whole, less)

-- each once, and each of another list: the sum is at most that list's
pub once_sum : (f : ℕ → ℕ) (xs ys : List ℕ) → Apart nat_cmp xs → ((x : ℕ) → In x xs → In x ys) → sum_by f xs ≤ sum_by f ys
once_sum f [] ys once among = omega arith
once_sum f (x ∷ xs) ys once among =
    by _ _ _ _ _ (sum_by-cons f x xs) (once_sum f xs (filter (λ y. not (y == x)) ys) once.1 others) (others_sum f x ys (among x (inl refl)))
  where
    other : (z : ℕ) → In z xs → z ≡ x → ⊥
    other z there same = Each-member (λ y. nat_cmp x y ≢ Equal) xs once.0 z there (subst (λ y. nat_cmp x y ≡ Equal) (sym same) (tied_itself nat_cmp_total x))

    others : (z : ℕ) → In z xs → In z (filter (λ y. not (y == x)) ys)
    others z there = In-filtered (λ y. not (y == x)) ys z (among z (inr there)) (ap not (ne_eqb z x (other z there)))

    by : (a r s o t : ℕ) → s ≡ a + r → r ≤ o → a + o ≤ t → s ≤ t
    by a r s o t is less whole = omega (arith, is, less, whole)

ones : (xs : List ℕ) → sum_by (λ (x : ℕ). 1) xs ≡ length xs
ones [] = refl
ones (x ∷ xs) = by _ _ _ (sum_by-cons (λ (y : ℕ). 1) x xs) (ones xs)
  where
    by : (s r l : ℕ) → s ≡ 1 + r → r ≡ l → s ≡ suc l
    by s r l one two = omega (arith, one, two)

in_range : (n k x : ℕ) → k ≤ x → x < k + n → In x (range_with_len k n)
in_range zero k x low high = absurd (omega (arith, low, high))
in_range (suc n) k x low high = ⊎_elim
    (λ (same : k ≡ x). inl same)
    (λ (rest : (k < x) ⊎ (x < k)). ⊎_elim
    (λ (less : k < x). inr (in_range n (k + 1) x (omega (arith, less)) (omega (arith, high))))
    (λ (more : x < k). absurd (omega (arith, low, more)))
    rest)
    (cases_order k x)

range_length : (n k : ℕ) → length (range_with_len k n) ≡ n
range_length zero k = refl
range_length (suc n) k = ap suc (range_length n (k + 1))

-- places below an end, each once, are no more than the end
pub once_few : (n : ℕ) (xs : List ℕ) → Apart nat_cmp xs → ((x : ℕ) → In x xs → x < n) → length xs ≤ n
once_few n xs once below = by _ _ _ _ (ones xs) (ones (range_with_len 0 n)) (range_length n 0) (once_sum (λ x. 1) xs (range_with_len 0 n) once (λ x here. in_range n 0 x (omega arith) (high x (below x here))))
  where
    high : (x : ℕ) → x < n → x < 0 + n
    high x less = omega (arith, less)

    by : (s l t m : ℕ) → s ≡ l → t ≡ m → m ≡ n → s ≤ t → l ≤ n
    by s l t m one two three less = omega (arith, one, two, three, less)

-- ---- the least and the greatest

pub fold_max_start : (a : ℕ) (xs : List ℕ) → a ≤ fold max a xs
fold_max_start a [] = omega arith
fold_max_start a (x ∷ xs) = by _ _ (fold_max_start (max a x) xs)
  where
    by : (x t : ℕ) → max a x ≤ t → a ≤ t
    by x t less = omega (arith, less)

pub fold_max_in : (a : ℕ) (xs : List ℕ) (x : ℕ) → In x xs → x ≤ fold max a xs
fold_max_in a [] x here = absurd here
fold_max_in a (y ∷ ys) x (inl same) = by _ _ same (fold_max_start (max a y) ys)
  where
    by : (y t : ℕ) → y ≡ x → max a y ≤ t → x ≤ t
    by y t same less = omega (arith, same, less)
fold_max_in a (y ∷ ys) x (inr there) = fold_max_in (max a y) ys x there

fold_min_start : (a : ℕ) (xs : List ℕ) → fold min a xs ≤ a
fold_min_start a [] = omega arith
fold_min_start a (x ∷ xs) = by _ _ (fold_min_start (min a x) xs)
  where
    by : (x t : ℕ) → t ≤ min a x → t ≤ a
    by x t less = omega (arith, less)

pub fold_min_in : (a : ℕ) (xs : List ℕ) (x : ℕ) → In x xs → fold min a xs ≤ x
fold_min_in a [] x here = absurd here
fold_min_in a (y ∷ ys) x (inl same) = by _ _ same (fold_min_start (min a y) ys)
  where
    by : (y t : ℕ) → y ≡ x → t ≤ min a y → t ≤ x
    by y t same less = omega (arith, same, less)
fold_min_in a (y ∷ ys) x (inr there) = fold_min_in (min a y) ys x there

fold_min_above : (n a : ℕ) (xs : List ℕ) → n ≤ a → Each (λ x. n ≤ x) xs → n ≤ fold min a xs
fold_min_above n a [] start all = start
fold_min_above n a (x ∷ xs) start all = fold_min_above n (min a x) xs (by a x start all.0) all.1
  where
    by : (a x : ℕ) → n ≤ a → n ≤ x → n ≤ min a x
    by a x one two = omega (arith, one, two)

in_map : {A B : Type 0} (f : A → B) (xs : List A) (x : A) → In x xs → In (f x) (map f xs)
in_map f [] x here = absurd here
in_map f (y ∷ ys) x (inl same) = inl (ap f same)
in_map f (y ∷ ys) x (inr there) = inr (in_map f ys x there)

each_map : {A B : Type 0} (P : B → Type 0) (f : A → B) (xs : List A) → Each (λ x. P (f x)) xs → Each P (map f xs)
each_map P f [] all = tt
each_map P f (x ∷ xs) all = (all.0, each_map P f xs all.1)

-- ---- the first of the smallest

abbrev pub AtLeast : List Primitive → RootSet → RootSet → Type 0
AtLeast prims s t = set_size prims s ≤ set_size prims t

each_more : (P Q : RootSet → Type 0) (xs : List RootSet) → ((x : RootSet) → P x → Q x) → Each P xs → Each Q xs
each_more P Q [] more all = tt
each_more P Q (x ∷ xs) more all = (more x all.0, each_more P Q xs more all.1)

record First (prims : List Primitive) (best : RootSet) (ss : List RootSet) (s : RootSet) : Type 0 where
  pub there : (s ≡ best) ⊎ In s ss
  pub least : (set_size prims s ≤ set_size prims best) × Each (AtLeast prims s) ss

first_is : (prims : List Primitive) (best : RootSet) (ss : List RootSet) → First prims best ss (first_smallest prims best ss)
first_is prims best [] = record { there = inl refl; least = (omega arith, tt) }
first_is prims best (s ∷ ss) = by (nat_lt (set_size prims s) (set_size prims best)) refl (first_is prims s ss) (first_is prims best ss)
  where
    less : (m n : ℕ) → nat_lt m n ≡ true → m < n
    less m n is = ltb-true m n is

    not_less : (m n : ℕ) → nat_lt m n ≡ false → n ≤ m
    not_less m n is = ltb-false m n is

    through : (a b c : ℕ) → a ≤ b → b < c → a ≤ c
    through a b c one two = omega (arith, one, two)

    within : (a b c : ℕ) → a ≤ b → b ≤ c → a ≤ c
    within a b c one two = omega (arith, one, two)

    by : (b : Bool) → nat_lt (set_size prims s) (set_size prims best) ≡ b → First prims s ss (first_smallest prims s ss) → First prims best ss (first_smallest prims best ss)
        → First prims best (s ∷ ss) (first_smallest prims (if b then s else best) ss)
    by true is new old = record {
      there = inr (⊎_elim (λ same. inl (sym same)) (λ there. inr there) new.there);
      least = (through _ _ _ new.least.0 (less _ _ is), (new.least.0, new.least.1));
    }
    by false is new old = record {
      there = ⊎_elim (λ same. inl same) (λ there. inr (inr there)) old.there;
      least = (old.least.0, (within _ _ _ old.least.0 (not_less _ _ is), old.least.1));
    }

-- ---- no set is greater than the list

fewer_kept : (p : ℕ → Bool) (xs : List ℕ) → length (filter p xs) ≤ length xs
fewer_kept p [] = omega arith
fewer_kept p (x ∷ xs) = by (p x) (fewer_kept p xs)
  where
    by : (b : Bool) → length (filter p xs) ≤ length xs → length (cond b (x ∷ filter p xs) (filter p xs)) ≤ suc (length xs)
    by true rest = omega (arith, rest)
    by false rest = omega (arith, rest)

where_few : (test : Primitive → Bool) (prims : List Primitive) → length (places_where test prims) ≤ length prims
where_few test prims = by _ _ _ (ap length (places_where-places test prims)) (fewer_kept _ (places prims)) (range_length (length prims) 0)
  where
    by : (a b c : ℕ) → a ≡ b → b ≤ c → c ≡ length prims → a ≤ length prims
    by a b c one two three = omega (arith, one, two, three)

distinct_in : (xs : List ℕ) (x : ℕ) → In x (distinct xs) → In x xs
distinct_in [] x here = absurd here
distinct_in (y ∷ ys) x (inl same) = inl same
distinct_in (y ∷ ys) x (inr there) = inr (distinct_in ys x (In-filter (λ z. not (z == y)) (distinct ys) x there).0)

distinct_once : (xs : List ℕ) → Apart nat_cmp (distinct xs)
distinct_once [] = tt
distinct_once (x ∷ xs) = (Each-from_members (λ y. nat_cmp x y ≢ Equal) (filter (λ y. not (y == x)) (distinct xs)) others, Apart-filter nat_cmp nat_cmp_total (λ y. not (y == x)) (distinct xs) (distinct_once xs))
  where
    others : (y : ℕ) → In y (filter (λ y. not (y == x)) (distinct xs)) → nat_cmp x y ≢ Equal
    others y there tie = kept (y == x) (In-filter (λ y. not (y == x)) (distinct xs) y there).1 (eq-eqb y x (sym (same_nat x y tie)))
      where
        kept : (b : Bool) → not b ≡ true → b ≡ true → ⊥
        kept true one two = cc
        kept false one two = cc

module _ (prims : List Primitive) (q : Asked) where
  abbrev pub IsFew : RootSet → Type 0
  IsFew s = set_size prims s ≤ length prims

  option_few : (o : Option (List ℕ)) → ((ps : List ℕ) → o ≡ Some ps → length ps ≤ length prims) → Each IsFew (option_to_list (Rattle.std.specs.Prelude.option_map named_places o))
  option_few None few = tt
  option_few (Some ps) few = (few ps refl, tt)

  test_few : 0 < length prims → (t : Test) → TestInside prims t → Each IsFew (option_to_list (Rattle.std.specs.Prelude.option_map named_places (named t)))
  test_few some (equals (datum.Object o)) inside = (some, tt)
  test_few some (equals (datum.Bool b)) inside = tt
  test_few some (equals (datum.Int n)) inside = tt
  test_few some (equals (datum.Moment n p)) inside = tt
  test_few some (equals (datum.Text t)) inside = tt
  test_few some (equals datum.Empty) inside = tt
  test_few some (is_one_of ds) inside = (once_few (length prims) (distinct (places_of ds)) (distinct_once (places_of ds)) (λ x here. inside x (distinct_in (places_of ds) x here)), tt)
  test_few some _ inside = tt

  own_few : (some : 0 < length prims) (w : Own) (t : Test) → OwnInside prims some w t → Each IsFew (named_sets w t)
  own_few some its_id t inside = test_few some t inside
  own_few some its_guid t inside = test_few some t inside
  own_few some _ t inside = tt

  by_name_few : (some : 0 < length prims) (ms : Members) → NamesInside prims some ms → Each IsFew (sets_by_name ms)
  by_name_few some no_members inside = tt
  by_name_few some (own name w t j ms) inside = Each-both IsFew (named_sets w t) (sets_by_name ms) (own_few some w t inside.0) (by_name_few some ms inside.1)
  by_name_few some (asks name a c ms) inside = by_name_few some ms inside

  far_few : (p : Property) (d : Datum) → length (with_far prims p d) ≤ length prims
  far_few a (datum.Object o) = where_few _ prims
  far_few a (datum.Bool b) = where_few _ prims
  far_few a (datum.Int n) = where_few _ prims
  far_few a (datum.Moment n p) = where_few _ prims
  far_few a (datum.Text t) = where_few _ prims
  far_few a datum.Empty = where_few _ prims

  link_few : (a : Asking) (c : Members) (t : Test) → Each IsFew (link_sets prims a c t)
  link_few a c (equals d) = (where_few _ prims, (far_few a.property d, tt))
  link_few a c _ = (where_few _ prims, tt)

  by_link_few : (ms : Members) → Each IsFew (sets_by_link prims ms)
  by_link_few no_members = tt
  by_link_few (own name w t j ms) = by_link_few ms
  by_link_few (asks name a c ms) = by a.given (by_link_few ms)
    where
      by : (b : Bool) → Each IsFew (sets_by_link prims ms) → Each IsFew (if b then link_sets prims a c a.test ++ sets_by_link prims ms else sets_by_link prims ms)
      by true rest = Each-both IsFew (link_sets prims a c a.test) (sets_by_link prims ms) (link_few a c a.test) rest
      by false rest = rest

  pub all_few : (some : 0 < length prims) → NamesInside prims some q.members → Each IsFew (root_sets prims q.members)
  all_few some inside = by (sets_by_name q.members ++ sets_by_link prims q.members) refl (Each-both IsFew (sets_by_name q.members) (sets_by_link prims q.members) (by_name_few some q.members inside) (by_link_few q.members))
    where
      by : (l : List RootSet) → sets_by_name q.members ++ sets_by_link prims q.members ≡ l → Each IsFew (sets_by_name q.members ++ sets_by_link prims q.members) → Each IsFew (root_sets prims q.members)
      by [] is all = rw is (omega arith, tt)
      by (s ∷ ss) is all = rw is (rw is at all)

  -- ---- the laws

  smallest : (sets : List RootSet) (s : RootSet) → In s sets → Each (AtLeast prims s) sets → IsFew s → set_size prims s ≡ fold min (length prims) (map (set_size prims) sets)
  smallest sets s there least few = by _ _ (fold_min_above (set_size prims s) (length prims) (map (set_size prims) sets) few (each_map (λ n. set_size prims s ≤ n) (set_size prims) sets least))
      (fold_min_in (length prims) (map (set_size prims) sets) (set_size prims s) (in_map (set_size prims) sets s there))
    where
      by : (a b : ℕ) → a ≤ b → b ≤ a → a ≡ b
      by a b one two = omega (arith, one, two)

  pub chosen_smallest : Each IsFew (root_sets prims q.members) → IsSmallest prims q (chosen prims (root_sets prims q.members))
  chosen_smallest few = by (sets_by_name q.members ++ sets_by_link prims q.members) refl few
    where
      of : (s : RootSet) (ss : List RootSet) → Each IsFew (s ∷ ss) → (In (first_smallest prims s ss) (s ∷ ss)) × (set_size prims (first_smallest prims s ss) ≡ fold min (length prims) (map (set_size prims) (s ∷ ss)))
      of s ss few =
          let first = first_is prims s ss in
          let there : In (first_smallest prims s ss) (s ∷ ss) = ⊎_elim (λ same. inl (sym same)) (λ there. inr there) first.there in
          (there, smallest (s ∷ ss) (first_smallest prims s ss) there first.least (Each-member IsFew (s ∷ ss) few (first_smallest prims s ss) there))

      by : (l : List RootSet) → sets_by_name q.members ++ sets_by_link prims q.members ≡ l → Each IsFew (root_sets prims q.members) → IsSmallest prims q (chosen prims (root_sets prims q.members))
      by [] is few = let found = of everything [] (omega arith, tt) in record { there = rw is found.0; least = rw is found.1 }
      by (s ∷ ss) is few = let found = of s ss (rw is at few) in record { there = rw is found.0; least = rw is found.1 }

  -- no smallest set has more work than the query
  pub smallest_work : (s : RootSet) → IsSmallest prims q s → set_work prims q s ≤ query_work prims q
  smallest_work s small =
      fold_max_in 0 (map (set_work prims q) (filter (λ t. set_size prims t == least_size prims q) (root_sets prims q.members))) (set_work prims q s)
      (in_map (set_work prims q) (filter (λ t. set_size prims t == least_size prims q) (root_sets prims q.members)) s
      (In-filtered (λ t. set_size prims t == least_size prims q) (root_sets prims q.members) s small.there (eq-eqb (set_size prims s) (least_size prims q) small.least)))
