-- The places that a scan walks rise.
use Rattle.std.proofs.Common.{◌≡◌, inl, inr, ℕ, ◌<◌, ◌≤◌, List, [], ◌∷◌, ◌++◌, Bool, true, false, Option, None, Some, map, filter, refl, sym, ap, subst, arith}
use Rattle.std.specs.Prelude.{nat_lt, if◌then◌else◌, option_map, find}
use Rattle.std.specs.List.{cons_option}
use Rattle.std.specs.Option.{option_to_list}
use Rattle.std.specs.Ordering.{nat_cmp, MatchOrdering}
use Rattle.std.specs.declared.cmp.Ordering.TheVariants.{Less}
use Rattle.std.proofs.lemmas.Bool.{lt-ltb, le-ltb}
use Rattle.std.proofs.lemmas.Cmp.{nat_cmp_total, ranked}
use Rattle.gd_base.specs.declared.datum.Datum.{Datum}
use Rattle.gd_base.specs.declared.datum.Datum.TheVariants as datum
use Rattle.gd_base.specs.Order.{datum_eq}
use Rattle.gd_prim.specs.declared.Primitive.{Primitive}
use Rattle.gd_prim.specs.Live.{objects, places_where, refers}
use Rattle.gd_defs.specs.Asked.{Own, its_id, its_guid, Asking, Members, no_members, own, asks, Asked}
use Rattle.gd_defs.specs.Data.{Test, equals}
use Rattle.gd_defs.specs.Property.{Property, far_of}
use Rattle.gd_defs.specs.Rows.{met}
use Rattle.gd_page_laws.specs.PassedOn.{ScanOrder, is_among, RootSet, everything, named_places, links_of, named, named_sets, link_sets, sets_by_name, sets_by_link, with_typ, with_far, first_times, link_order, set_order, scan_order}
use Rattle.gd_order_laws.specs.Window.{In, Each, Rising}
use Rattle.gd_order_laws.proofs.Places.{places_rise}
use Rattle.gd_order_laws.proofs.Sorted.{Each-from_members, Each-member, Rising-filter}
use Rattle.gd_scan_laws.proofs.Orders.{Each-both, picks, picked_of}

-- the places that an order walks
abbrev walked : ScanOrder → List ℕ
walked order = map (λ c. c.0) order

themselves : (ps : List ℕ) → walked (map (λ place. (place, place)) ps) ≡ ps
themselves [] = refl
themselves (p ∷ ps) = ap (λ l. p ∷ l) (themselves ps)

-- links that lead to an object are some of the links
link_in : (prims : List Primitive) (a : Asking) (c : Members) (links : List ℕ) (k : ℕ) → In k (walked (link_order prims a c links)) → In k links
link_in prims a c [] k here = here
link_in prims a c (l ∷ links) k here = by (find (λ o. is_among (met prims a c o) l) (objects prims)) here (link_in prims a c links k)
  where
    by : (r : Option ℕ) → In k (walked (cons_option (option_map (λ o. (l, o)) r) (link_order prims a c links))) → (In k (walked (link_order prims a c links)) → In k links) → In k (l ∷ links)
    by None there rest = inr (rest there)
    by (Some o) (inl same) rest = inl same
    by (Some o) (inr there) rest = inr (rest there)

links_rise : (prims : List Primitive) (a : Asking) (c : Members) (links : List ℕ) → Rising nat_cmp links → Rising nat_cmp (walked (link_order prims a c links))
links_rise prims a c [] rising = tt
links_rise prims a c (l ∷ links) rising = by (find (λ o. is_among (met prims a c o) l) (objects prims)) (links_rise prims a c links rising.1)
  where
    by : (r : Option ℕ) → Rising nat_cmp (walked (link_order prims a c links)) → Rising nat_cmp (walked (cons_option (option_map (λ o. (l, o)) r) (link_order prims a c links)))
    by None rest = rest
    by (Some o) rest = (Each-from_members (λ k. nat_cmp l k ≡ Less) (walked (link_order prims a c links)) (λ k there. Each-member (λ m. nat_cmp l m ≡ Less) links rising.0 k (link_in prims a c links k there)), rest)

first_in : (done : List ℕ) (cs : ScanOrder) (k : ℕ) → In k (walked (first_times done cs)) → In k (walked cs)
first_in done [] k here = here
first_in done (c ∷ cs) k here = by (is_among done c.1) here (first_in done cs k) (first_in (c.1 ∷ done) cs k)
  where
    by : (b : Bool) → In k (walked (if b then first_times done cs else c ∷ first_times (c.1 ∷ done) cs)) → (In k (walked (first_times done cs)) → In k (walked cs)) → (In k (walked (first_times (c.1 ∷ done) cs)) → In k (walked cs)) → In k (walked (c ∷ cs))
    by true there same more = inr (same there)
    by false (inl at) same more = inl at
    by false (inr there) same more = inr (more there)

first_rise : (done : List ℕ) (cs : ScanOrder) → Rising nat_cmp (walked cs) → Rising nat_cmp (walked (first_times done cs))
first_rise done [] rising = tt
first_rise done (c ∷ cs) rising = by (is_among done c.1) (first_rise done cs rising.1) (first_rise (c.1 ∷ done) cs rising.1)
  where
    by : (b : Bool) → Rising nat_cmp (walked (first_times done cs)) → Rising nat_cmp (walked (first_times (c.1 ∷ done) cs)) → Rising nat_cmp (walked (if b then first_times done cs else c ∷ first_times (c.1 ∷ done) cs))
    by true same more = same
    by false same more = (Each-from_members (λ k. nat_cmp c.0 k ≡ Less) (walked (first_times (c.1 ∷ done) cs)) (λ k there. Each-member (λ m. nat_cmp c.0 m ≡ Less) (walked cs) rising.0 k (first_in (c.1 ∷ done) cs k there)), more)

abbrev Rises : List Primitive → RootSet → Type 0
Rises prims s = Rising nat_cmp (walked (set_order prims s))

every_rises : (prims : List Primitive) → Rises prims everything
every_rises prims = subst (Rising nat_cmp) (sym (themselves (places_where (λ p. true) prims))) (places_rise (λ p. true) prims)

named_rise : (prims : List Primitive) (ps : List ℕ) → Rises prims (named_places ps)
named_rise prims ps = subst (Rising nat_cmp) (sym (themselves (filter (is_among ps) (places_where (λ p. true) prims)))) (Rising-filter nat_cmp nat_cmp_total (is_among ps) (places_where (λ p. true) prims) (places_rise (λ p. true) prims))

tested_rise : (prims : List Primitive) (t : Test) → Each (Rises prims) (option_to_list (option_map named_places (named t)))
tested_rise prims t = by (named t)
  where
    by : (r : Option (List ℕ)) → Each (Rises prims) (option_to_list (option_map named_places r))
    by None = tt
    by (Some ps) = (named_rise prims ps, tt)

own_rise : (prims : List Primitive) (w : Own) (t : Test) → Each (Rises prims) (named_sets w t)
own_rise prims its_id t = tested_rise prims t
own_rise prims its_guid t = tested_rise prims t
own_rise prims _ t = tt

names_rise : (prims : List Primitive) (ms : Members) → Each (Rises prims) (sets_by_name ms)
names_rise prims no_members = tt
names_rise prims (own name w t j ms) = Each-both (Rises prims) (named_sets w t) (sets_by_name ms) (own_rise prims w t) (names_rise prims ms)
names_rise prims (asks name a c ms) = names_rise prims ms

far_rise : (prims : List Primitive) (p : Property) (d : Datum) → Rising nat_cmp (with_far prims p d)
far_rise prims p (datum.Object o) = places_rise (λ k. refers (far_of p k) o) prims
far_rise prims p (datum.Bool b) = places_rise (λ k. datum_eq k.value (datum.Bool b)) prims
far_rise prims p (datum.Int n) = places_rise (λ k. datum_eq k.value (datum.Int n)) prims
far_rise prims p (datum.Moment n c) = places_rise (λ k. datum_eq k.value (datum.Moment n c)) prims
far_rise prims p (datum.Text t) = places_rise (λ k. datum_eq k.value (datum.Text t)) prims
far_rise prims p datum.Empty = places_rise (λ k. datum_eq k.value datum.Empty) prims

set_rises : (prims : List Primitive) (a : Asking) (c : Members) (links : List ℕ) → Rising nat_cmp links → Rises prims (links_of a c links)
set_rises prims a c links rising = first_rise [] (link_order prims a c links) (links_rise prims a c links rising)

link_sets_rise : (prims : List Primitive) (a : Asking) (c : Members) (t : Test) → Each (Rises prims) (link_sets prims a c t)
link_sets_rise prims a c (equals d) = (set_rises prims a c (with_typ prims a.property) (places_rise (λ k. refers k.typ a.property.stored) prims), (set_rises prims a c (with_far prims a.property d) (far_rise prims a.property d), tt))
link_sets_rise prims a c _ = (set_rises prims a c (with_typ prims a.property) (places_rise (λ k. refers k.typ a.property.stored) prims), tt)

sets_rise : (prims : List Primitive) (ms : Members) → Each (Rises prims) (sets_by_link prims ms)
sets_rise prims no_members = tt
sets_rise prims (own name w t j ms) = sets_rise prims ms
sets_rise prims (asks name a c ms) = by a.given (sets_rise prims ms)
  where
    by : (b : Bool) → Each (Rises prims) (sets_by_link prims ms) → Each (Rises prims) (if b then link_sets prims a c a.test ++ sets_by_link prims ms else sets_by_link prims ms)
    by true rest = Each-both (Rises prims) (link_sets prims a c a.test) (sets_by_link prims ms) (link_sets_rise prims a c a.test) rest
    by false rest = rest

-- the places of a scan rise
pub scan_rises : (prims : List Primitive) (q : Asked) → Rising nat_cmp (map (λ c. c.0) (scan_order prims q))
scan_rises prims q =
    subst (λ order. Rising nat_cmp (walked order)) (sym (picks prims q))
    (picked_of prims (Rises prims) (sets_by_name q.members ++ sets_by_link prims q.members) (every_rises prims)
    (Each-both (Rises prims) (sets_by_name q.members) (sets_by_link prims q.members) (names_rise prims q.members) (sets_rise prims q.members)))

-- an order that rises is what it has below a place, and then what it has from there on
pub halves : (from : ℕ) (order : ScanOrder) → Rising nat_cmp (map (λ c. c.0) order)
    → (before : ScanOrder) × (behind : ScanOrder) × (order ≡ before ++ behind) × Each (λ c. c.0 < from) before × Each (λ c. from ≤ c.0) behind
halves from [] rising = ([], [], refl, tt, tt)
halves from (c ∷ order) rising = by (nat_lt c.0 from) refl (halves from order rising.1)
  where
    less : (x y : ℕ) → nat_cmp x y ≡ Less → x < y
    less x y is = subst (λ o. MatchOrdering o (x < y) (x ≡ y) (y < x)) is (ranked x y (nat_cmp x y) refl)

    all : (up : from ≤ c.0) → (rest : ScanOrder) → Each (λ p. nat_cmp c.0 p ≡ Less) (walked rest) → Each (λ d. from ≤ d.0) rest
    all up [] each = tt
    all up (d ∷ rest) each = (let l = less c.0 d.0 each.0 in omega (arith, up, l), all up rest each.1)

    by : (b : Bool) → nat_lt c.0 from ≡ b → ((before : ScanOrder) × (behind : ScanOrder) × (order ≡ before ++ behind) × Each (λ d. d.0 < from) before × Each (λ d. from ≤ d.0) behind)
        → (before : ScanOrder) × (behind : ScanOrder) × (c ∷ order ≡ before ++ behind) × Each (λ d. d.0 < from) before × Each (λ d. from ≤ d.0) behind
    by true is rest = (c ∷ rest.0, rest.1, ap (λ l. c ∷ l) rest.2, (Rattle.std.proofs.lemmas.Bool.ltb-true c.0 from is, rest.3), rest.4)
    by false is rest = let up : from ≤ c.0 = Rattle.std.proofs.lemmas.Bool.ltb-false c.0 from is in ([], c ∷ order, refl, tt, (up, all up order rising.0))
