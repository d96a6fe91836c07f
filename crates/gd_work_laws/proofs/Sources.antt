-- The sets of a query, as its template names them.
use Rattle.std.proofs.Common.{◌≡◌, ◌∙◌, ℕ, List, [], ◌∷◌, ◌++◌, map, filter, Bool, true, false, ◌&&◌, Option, Some, None, inl, inr, refl, sym, ap, subst}
use Rattle.std.specs.Prelude.{filter_map, if◌then◌else◌, option_map}
use Rattle.std.specs.Option.{option_to_list}
use Rattle.std.proofs.lemmas.Bool.{false≢true}
use Rattle.gd_base.specs.declared.datum.Datum.{Datum}
use Rattle.gd_base.specs.declared.datum.Datum.TheVariants as datum
use Rattle.gd_base.specs.Order.{datum_eq}
use Rattle.gd_prim.specs.declared.Primitive.{Primitive}
use Rattle.gd_prim.specs.declared.End.{End}
use Rattle.gd_prim.specs.declared.End.TheVariants.{Left, Right, Typ, Scope}
use Rattle.gd_prim.specs.End.{end_of, places_with}
use Rattle.gd_prim.specs.Live.{refers, places_where, passes_at}
use Rattle.gd_defs.specs.Data.{Kind, of_text, of_int, of_boolean, of_datetime, has_kind, Test, anything, equals, differs, is_one_of, is_below, is_above, matches_words}
use Rattle.gd_defs.specs.Property.{Property, Expects, a_value, a_key, an_object_of_system, a_plain_object, far_of}
use Rattle.gd_defs.specs.Asked.{its_id, its_guid, its_timestamp, its_link, its_value, its_namespace, its_lang, Key, by_guid, by_timestamp, by_property, SortKey, Asking, Members, no_members, own, asks}
use Rattle.gd_defs.specs.Plan.{property_tests, language_test, value_test, link_tests, places_of, object_test, object_tests, unless_literal, asked_end, answer_end, answers_of, link_template, sort_clauses, clauses_of}
use Rattle.gd_defs.specs.Template.{Constraint, end_is, lang_is, is_object, place_in, place_not, value_is, value_not, value_in, below, above, matches, links_by, led_to, Template, template, Clauses, no_clauses, meets_constraints, is_required, is_literal}
use Rattle.gd_match_laws.specs.PassedOn.{RootSet, named_places, named, link_sets, sets_by_name, sets_by_link, distinct, with_typ, with_far}
use Rattle.gd_match_laws.proofs.PassedOn.{both_true}
use Rattle.gd_template_laws.specs.Fits.{FitsOne, IsEquals, IsObjectDatum, AllGiven, AsksValues, AsksObjects, IsAsked, AreAsked, FitsObject, FitsMoment}
use Rattle.gd_template_laws.proofs.Bools.{and-false}
use Rattle.gd_template_laws.proofs.Literals.{member-literal}
use Rattle.gd_list_laws.proofs.Places.{places_where-places, filter-filter, filter-same}
use Rattle.gd_template_laws.proofs.Places.{places}
use Rattle.gd_template_laws.proofs.Shapes.{link_template-shaped, far_clause}
use Rattle.gd_work_laws.specs.Turns.{typ_asked, constraints_of}
use Rattle.gd_work_laws.specs.Sources.{names_in, links_by_constraints, links_of_one, links_by_clauses, links_asked, Source, sources, source_of, places_named}

-- ---- walking the fewer links

pub typ_holds : (prims : List Primitive) (cs : List Constraint) (typ x : ℕ) → typ_asked cs ≡ Some typ → meets_constraints prims cs x ≡ true → passes_at (λ p. refers p.typ typ) prims x ≡ true
typ_holds prims [] typ x is met = absurd (cc)
typ_holds prims (end_is Typ y ∷ cs) typ x is met =
    let same : y ≡ typ = cc in
    subst (λ t. passes_at (λ p. refers p.typ t) prims x ≡ true) same (both_true _ _ (both_true (Rattle.gd_prim.specs.Live.is_live prims x) _ met).1).0
typ_holds prims (end_is Left y ∷ cs) typ x is met = absurd (cc)
typ_holds prims (end_is Right y ∷ cs) typ x is met = absurd (cc)
typ_holds prims (end_is Scope y ∷ cs) typ x is met = absurd (cc)
typ_holds prims (is_object ∷ cs) typ x is met = absurd (cc)
typ_holds prims (place_in xs ∷ cs) typ x is met = absurd (cc)
typ_holds prims (place_not y ∷ cs) typ x is met = absurd (cc)
typ_holds prims (value_is v ∷ cs) typ x is met = absurd (cc)
typ_holds prims (value_not v ∷ cs) typ x is met = absurd (cc)
typ_holds prims (value_in vs ∷ cs) typ x is met = absurd (cc)
typ_holds prims (below v b ∷ cs) typ x is met = absurd (cc)
typ_holds prims (above v b ∷ cs) typ x is met = absurd (cc)
typ_holds prims (matches m ∷ cs) typ x is met = absurd (cc)
typ_holds prims (lang_is l ∷ cs) typ x is met = absurd (cc)

pub walk_same : (prims : List Primitive) (e : End) (t : Template) (typ place : ℕ) (keep : ℕ → Bool) → typ_asked (constraints_of t) ≡ Some typ → ((x : ℕ) → keep x ≡ true → meets_constraints prims (constraints_of t) x ≡ true)
    → filter keep (led_to prims (links_by e) place) ≡ filter keep (filter (λ x. passes_at (λ p. refers (end_of e p) place) prims x) (places_with Typ typ prims))
walk_same prims e t typ place keep asked met =
    ap (filter keep) (places_where-places (λ p. refers (end_of e p) place) prims)
    ∙ filter-filter (passes_at (λ p. refers (end_of e p) place) prims) keep (places prims)
    ∙ filter-same _ _ (places prims) (λ x. by (passes_at (λ p. refers p.typ typ) prims x) (passes_at (λ p. refers (end_of e p) place) prims x) (keep x) (λ kept. typ_holds prims (constraints_of t) typ x asked (met x kept)))
    ∙ sym (filter-filter (λ x. passes_at (λ p. refers p.typ typ) prims x && passes_at (λ p. refers (end_of e p) place) prims x) keep (places prims))
    ∙ ap (filter keep) (sym (filter-filter (passes_at (λ p. refers p.typ typ) prims) (passes_at (λ p. refers (end_of e p) place) prims) (places prims)))
    ∙ ap (λ l. filter keep (filter (λ x. passes_at (λ p. refers (end_of e p) place) prims x) l)) (sym (places_where-places (λ p. refers p.typ typ) prims))
  where
    by : (t a k : Bool) → (k ≡ true → t ≡ true) → (a && k) ≡ ((t && a) && k)
    by true a k is = refl
    by false a true is = let none = is refl in absurd (false≢true none)
    by false a false is = and-false a

-- ---- names

option_names : (o : Option (List ℕ)) (rest : List RootSet) → filter_map places_named (option_to_list (option_map named_places o) ++ rest) ≡ option_to_list o ++ filter_map places_named rest
option_names None rest = refl
option_names (Some ps) rest = refl

test_names : (t : Test) → FitsObject t → (cs : List Constraint) → map distinct (names_in (object_test t ++ cs)) ≡ option_to_list (named t) ++ map distinct (names_in cs)
test_names anything fits cs = refl
test_names (equals (datum.Object o)) fits cs = refl
test_names (equals (datum.Bool b)) fits cs = absurd fits
test_names (equals (datum.Int n)) fits cs = absurd fits
test_names (equals (datum.Moment n p)) fits cs = absurd fits
test_names (equals (datum.Text t)) fits cs = absurd fits
test_names (equals datum.Empty) fits cs = absurd fits
test_names (differs (datum.Object o)) fits cs = refl
test_names (differs (datum.Bool b)) fits cs = refl
test_names (differs (datum.Int n)) fits cs = refl
test_names (differs (datum.Moment n p)) fits cs = refl
test_names (differs (datum.Text t)) fits cs = refl
test_names (differs datum.Empty) fits cs = refl
test_names (is_one_of ds) fits cs = refl
test_names (is_below v e) fits cs = absurd fits
test_names (is_above v e) fits cs = absurd fits
test_names (matches_words p) fits cs = absurd fits

moment_names : (t : Test) → FitsMoment t → (cs : List Constraint) → names_in (object_test t ++ cs) ≡ names_in cs
moment_names anything fits cs = refl
moment_names (is_below v e) fits cs = refl
moment_names (is_above v e) fits cs = refl
moment_names (equals d) fits cs = absurd fits
moment_names (differs d) fits cs = absurd fits
moment_names (is_one_of ds) fits cs = absurd fits
moment_names (matches_words p) fits cs = absurd fits

pub names_are : (ms : Members) → AreAsked ms → map distinct (names_in (object_tests ms)) ≡ filter_map places_named (sets_by_name ms)
names_are no_members are = refl
names_are (own name its_id t j ms) are = test_names t are.0 (object_tests ms) ∙ (ap (λ l. option_to_list (named t) ++ l) (names_are ms are.1) ∙ sym (option_names (named t) (sets_by_name ms)))
names_are (own name its_guid t j ms) are = test_names t are.0 (object_tests ms) ∙ (ap (λ l. option_to_list (named t) ++ l) (names_are ms are.1) ∙ sym (option_names (named t) (sets_by_name ms)))
names_are (own name its_timestamp t j ms) are = ap (map distinct) (moment_names t are.0 (object_tests ms)) ∙ names_are ms are.1
names_are (own name its_link t j ms) are = names_are ms are.1
names_are (own name its_value t j ms) are = absurd are
names_are (own name its_namespace t j ms) are = absurd are
names_are (own name its_lang t j ms) are = absurd are
names_are (asks name a c ms) are = names_are ms are.1

-- ---- links

-- the lists of a given member: those of its typ, and where one thing is asked those that have it
abbrev asked_lists : List Primitive → Property → Test → List (List ℕ)
asked_lists prims p (equals d) = with_typ prims p ∷ with_far prims p d ∷ []
asked_lists prims p _ = with_typ prims p ∷ []

none_named : (c : Members) → AllGiven c → object_tests c ≡ []
none_named no_members given = refl
none_named (own name w t j ms) given = absurd given
none_named (asks name a c ms) given = none_named ms given.1

far_same : (prims : List Primitive) (p : Property) (o : ℕ) → places_with (answer_end p) o prims ≡ with_far prims p (datum.Object o)
far_same prims p o = by p.reversed refl
  where
    by : (b : Bool) → p.reversed ≡ b → places_with (answer_end p) o prims ≡ with_far prims p (datum.Object o)
    by true is = rw is refl
    by false is = rw is refl

value_far : (prims : List Primitive) (p : Property) (k : Kind) (v : Datum) → has_kind k v ≡ true → places_where (λ q. datum_eq q.value v) prims ≡ with_far prims p v
value_far prims p k (datum.Object o) is = absurd (false≢true (none k is))
  where
    none : (k : Kind) → has_kind k (datum.Object o) ≡ true → false ≡ true
    none of_text is = is
    none of_int is = is
    none of_boolean is = is
    none of_datetime is = is
value_far prims p k (datum.Bool b) is = refl
value_far prims p k (datum.Int n) is = refl
value_far prims p k (datum.Moment n c) is = refl
value_far prims p k (datum.Text t) is = refl
value_far prims p k datum.Empty is = refl

-- a test of the language asks for no links
language_lists : (prims : List Primitive) (l : Option ℕ) (cs : List Constraint) → links_by_constraints prims (language_test l ++ cs) ≡ links_by_constraints prims cs
language_lists prims None cs = refl
language_lists prims (Some l) cs = refl

language_none : (prims : List Primitive) (l : Option ℕ) → links_by_constraints prims (language_test l) ≡ []
language_none prims None = refl
language_none prims (Some l) = refl

module _ (prims : List Primitive) (a : Asking) (c : Members) (nested : Clauses) (given : a.given ≡ true) where
  typed_lists : (k : Kind) (keys : Bool) (inner : Clauses) → links_by_clauses prims inner ≡ [] → (facts : IsEquals a.test × (c ≡ no_members)) → Rattle.gd_template_laws.specs.Fits.FitsKind k a.test
      → links_asked prims (template (end_is Typ a.property.stored ∷ value_test k a.test ++ link_tests k c) inner) ≡ asked_lists prims a.property a.test
  typed_lists k keys inner none facts fits = rw (facts.1, none) (by a.test facts.0 fits)
    where
      by : (t : Test) → IsEquals t → Rattle.gd_template_laws.specs.Fits.FitsKind k t
          → links_by_constraints prims (end_is Typ a.property.stored ∷ value_test k t ++ []) ++ [] ≡ asked_lists prims a.property t
      by (equals v) is fits = ap (λ l. with_typ prims a.property ∷ l ∷ []) (value_far prims a.property k v fits)
      by anything is fits = absurd is
      by (differs v) is fits = absurd is
      by (is_one_of vs) is fits = absurd is
      by (is_below v e) is fits = absurd is
      by (is_above v e) is fits = absurd is
      by (matches_words p) is fits = absurd is

  typed_objects : AllGiven c → FitsOne a.test → links_asked prims (template (end_is Typ a.property.stored ∷ []) (far_clause a.property (object_test a.test ++ object_tests c) (unless_literal a.given nested))) ≡ asked_lists prims a.property a.test
  typed_objects all one = rw (none_named c all) (by a.test one)
    where
      by : (t : Test) → FitsOne t → with_typ prims a.property ∷ ([] ++ (links_of_one prims (answer_end a.property) (names_in (object_test t ++ [])) ++ [])) ≡ asked_lists prims a.property t
      by anything fits = refl
      by (equals (datum.Object o)) fits = ap (λ l. with_typ prims a.property ∷ l ∷ []) (far_same prims a.property o)
      by (equals (datum.Bool b)) fits = absurd fits
      by (equals (datum.Int n)) fits = absurd fits
      by (equals (datum.Moment n p)) fits = absurd fits
      by (equals (datum.Text t)) fits = absurd fits
      by (equals datum.Empty) fits = absurd fits
      by (differs v) fits = absurd fits
      by (is_one_of vs) fits = absurd fits
      by (is_below v e) fits = absurd fits
      by (is_above v e) fits = absurd fits
      by (matches_words p) fits = absurd fits

  value_lists : (k : Kind) (keys : Bool) (inner : Clauses) → links_by_clauses prims inner ≡ [] → (facts : IsEquals a.test × (c ≡ no_members)) → Rattle.gd_template_laws.specs.Fits.FitsKind k a.test
      → links_asked prims (template (property_tests a.property ++ (value_test k a.test ++ link_tests k c)) inner) ≡ asked_lists prims a.property a.test
  value_lists k keys inner none facts fits =
      ap (λ ls. (with_typ prims a.property ∷ ls) ++ links_by_clauses prims inner) (language_lists prims a.property.language (value_test k a.test ++ link_tests k c)) ∙ typed_lists k keys inner none facts fits

  object_lists : AllGiven c → FitsOne a.test → links_asked prims (template (property_tests a.property) (far_clause a.property (object_test a.test ++ object_tests c) (unless_literal a.given nested))) ≡ asked_lists prims a.property a.test
  object_lists all one =
      ap (λ ls. (with_typ prims a.property ∷ ls) ++ links_by_clauses prims (far_clause a.property (object_test a.test ++ object_tests c) (unless_literal a.given nested))) (language_none prims a.property.language) ∙ typed_objects all one

  lists_are : IsAsked (answers_of a.property) a c (AreAsked c) → links_asked prims (link_template a c nested) ≡ asked_lists prims a.property a.test
  lists_are asked = by (answers_of a.property) refl asked
    where
      by : (e : Expects) → answers_of a.property ≡ e → IsAsked e a c (AreAsked c) → links_asked prims (link_template a c nested) ≡ asked_lists prims a.property a.test
      by (a_value k) is asked = ap (links_asked prims) (link_template-shaped a c nested (a_value k) is) ∙ value_lists k false (unless_literal a.given no_clauses) (rw given refl) (asked.given given).1 asked.test
      by a_key is asked = ap (links_asked prims) (link_template-shaped a c nested a_key is)
          ∙ value_lists of_text true (unless_literal a.given (far_clause a.property (Rattle.gd_defs.specs.Plan.namespace_tests c) no_clauses)) (rw (given, (asked.given given).1.1) refl) (asked.given given).1 asked.test
      by an_object_of_system is asked = ap (links_asked prims) (link_template-shaped a c nested an_object_of_system is) ∙ object_lists (asked.given given).1.1.0 (asked.given given).1.0
      by a_plain_object is asked = ap (links_asked prims) (link_template-shaped a c nested a_plain_object is) ∙ object_lists (asked.given given).1.1.0 (asked.given given).1.0

-- ---- the whole

sort_sources : (prims : List Primitive) (ss : List SortKey) → sources prims (sort_clauses ss) ≡ []
sort_sources prims [] = refl
sort_sources prims (s ∷ ss) = by s.key s.descending (sort_sources prims ss)
  where
    value : (p : Property) (d : Bool) → sources prims (sort_clauses ss) ≡ [] → sources prims (sort_clauses (record { key = by_property p; descending = d } ∷ ss)) ≡ []
    value p d rest = elim (Rattle.gd_work_laws.proofs.Members.expects_known prims 0 (Rattle.gd_defs.specs.Property.expects_of p.expected)) [
      | inl is ↦ rw (is.1) rest
      | inr other ↦ elim other [
        | inl is ↦ rw is rest
        | inr object ↦ elim object [
          | inl is ↦ rw is rest
          | inr is ↦ rw is rest
        ]
      ]
    ]

    by : (k : Key) (d : Bool) → sources prims (sort_clauses ss) ≡ [] → sources prims (sort_clauses (record { key = k; descending = d } ∷ ss)) ≡ []
    by by_guid d rest = rest
    by by_timestamp d rest = rest
    by (by_property p) d rest = value p d rest

link_sources : (prims : List Primitive) (a : Asking) (c : Members) (t : Test) (rest : List RootSet)
    → map (λ links. (asked_end a.property, (link_template a c (clauses_of a.sort c), links))) (asked_lists prims a.property t) ++ filter_map source_of rest ≡ filter_map source_of (link_sets prims a c t ++ rest)
link_sources prims a c anything rest = refl
link_sources prims a c (equals d) rest = refl
link_sources prims a c (differs d) rest = refl
link_sources prims a c (is_one_of ds) rest = refl
link_sources prims a c (is_below v e) rest = refl
link_sources prims a c (is_above v e) rest = refl
link_sources prims a c (matches_words p) rest = refl

pub sources_are : (prims : List Primitive) (sort : List SortKey) (ms : Members) → AreAsked ms → sources prims (clauses_of sort ms) ≡ filter_map source_of (sets_by_link prims ms)
sources_are prims sort no_members are = sort_sources prims sort
sources_are prims sort (own name its_id t j ms) are = sources_are prims sort ms are.1
sources_are prims sort (own name its_guid t j ms) are = sources_are prims sort ms are.1
sources_are prims sort (own name its_timestamp t j ms) are = sources_are prims sort ms are.1
sources_are prims sort (own name its_link t j ms) are = sources_are prims sort ms are.1
sources_are prims sort (own name its_value t j ms) are = absurd are
sources_are prims sort (own name its_namespace t j ms) are = absurd are
sources_are prims sort (own name its_lang t j ms) are = absurd are
sources_are prims sort (asks name a c ms) are = by a.given refl (sources_are prims sort ms are.1)
  where
    t : Template
    t = link_template a c (clauses_of a.sort c)

    chosen_if : (b : Bool) (rest : List Source) → List Source
    chosen_if b rest = (if b then map (λ links. (asked_end a.property, (link_template a c (clauses_of a.sort c), links))) (links_asked prims (link_template a c (clauses_of a.sort c))) else []) ++ rest

    by : (b : Bool) → a.given ≡ b → sources prims (clauses_of sort ms) ≡ filter_map source_of (sets_by_link prims ms)
        → chosen_if (is_required a.mode && is_literal (link_template a c (clauses_of a.sort c))) (sources prims (clauses_of sort ms)) ≡ filter_map source_of (if a.given then link_sets prims a c a.test ++ sets_by_link prims ms else sets_by_link prims ms)
    by true given rest =
        ap (λ b. chosen_if b (sources prims (clauses_of sort ms))) (member-literal a c are.0 ∙ given)
        ∙ (ap (λ l. map (λ links. (asked_end a.property, (link_template a c (clauses_of a.sort c), links))) l ++ sources prims (clauses_of sort ms)) (lists_are prims a c (clauses_of a.sort c) given are.0)
        ∙ (ap (λ l. map (λ links. (asked_end a.property, (link_template a c (clauses_of a.sort c), links))) (asked_lists prims a.property a.test) ++ l) rest
        ∙ (link_sources prims a c a.test (sets_by_link prims ms)
        ∙ ap (λ b. filter_map source_of (if b then link_sets prims a c a.test ++ sets_by_link prims ms else sets_by_link prims ms)) (sym given))))
    by false given rest =
        ap (λ b. chosen_if b (sources prims (clauses_of sort ms))) (member-literal a c are.0 ∙ given)
        ∙ (rest ∙ ap (λ b. filter_map source_of (if b then link_sets prims a c a.test ++ sets_by_link prims ms else sets_by_link prims ms)) (sym given))
