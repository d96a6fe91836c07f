-- The places that a query names are places of the list.
use Rattle.std.proofs.Common.{◌≡◌, ℕ, ◌<◌, List, [], ◌∷◌, ◌++◌, Bool, true, false, ◌&&◌, Option, Some, None, Result, Ok, inl, inr, refl, subst, ◌∙◌, length}
use Rattle.std.specs.Prelude.{if◌then◌else◌, unwrap_or, slice_get, is_none, option_map}
use Rattle.std.specs.Option.{option_map_or, option_or, option_to_list, ok_or}
use Rattle.std.proofs.lemmas.Bool.{false≢true}
use Rattle.std.proofs.lemmas.Option.{slice_get_within}
use Rattle.gd_base.specs.declared.datum.Datum.{Datum}
use Rattle.gd_base.specs.declared.datum.Datum.TheVariants as datum
use Rattle.gd_prim.specs.declared.Primitive.{Primitive}
use Rattle.gd_prim.specs.Builtin.{root_place}
use Rattle.gd_prim.specs.Live.{is_object, is_live, is_current, places_where, end_at}
use Rattle.gd_grammar.specs.Chain.{◌>>=◌}
use Rattle.gd_tree.specs.Json as json
use Rattle.gd_tree.specs.Json.{Json, Items, no_items, item}
use Rattle.gd_defs.specs.Data.{Test, anything, equals, differs, is_one_of, is_below, is_above, matches_words}
use Rattle.gd_defs.specs.Ids.{object_at, key_leads, follow, guid_place, id_keys, object_of}
use Rattle.gd_defs.specs.Query as query
use Rattle.gd_defs.specs.Query.{Name, Operator, Form, Directives, Query}
use Rattle.gd_defs.specs.Property.{Property, Expects, a_value, a_key, an_object_of_system, a_plain_object, expects_of}
use Rattle.gd_defs.specs.Plan.{places_of}
use Rattle.gd_defs.proofs.Directives.{sort_name}
use Rattle.gd_defs.specs.Asked.{Own, its_id, its_guid, its_timestamp, its_link, its_value, its_namespace, its_lang, Members, no_members, own, asks, Clause, Unknown, Asked, asked, asked_form, asked_query, own_of, own_member, own_test, takes, member_property, below_property, context_of, type_text, sort_keys, place_named, operand_datum, test_of, bad, no_such_id}
use Rattle.gd_defs.specs.Asked.Tests.{checked_test, operand_data}
use Rattle.gd_defs.specs.Asked.Forms.{ask_form, operand_form, clause_form, asks_single}
use Rattle.gd_grammar.proofs.Steps.{steps, ok_same, some_given, some_same}
use Rattle.gd_match_laws.specs.PassedOn.{In}
use Rattle.gd_template_laws.proofs.Operands.{own-made}
use Rattle.gd_template_laws.proofs.AskedMembers.{computed}
use Rattle.gd_match_laws.proofs.PassedOn.{both_true}

-- ---- objects

object-inside : (prims : List Primitive) (o : ℕ) → is_object prims o ≡ true → o < length prims
object-inside prims o is = by (slice_get prims o) refl (both_true (option_map_or (λ (p : Primitive). p.live && is_none p.typ) (slice_get prims o) false) (is_current prims o) is).0
  where
    by : (r : Option Primitive) → slice_get prims o ≡ r → option_map_or (λ (p : Primitive). p.live && is_none p.typ) r false ≡ true → o < length prims
    by None found passed = absurd (false≢true passed)
    by (Some x) found passed = slice_get_within prims o x found

at-inside : (prims : List Primitive) (p o : ℕ) → object_at prims p ≡ Some o → o < length prims
at-inside prims p o is = by (is_object prims p) refl is
  where
    by : (b : Bool) → is_object prims p ≡ b → (if b then Some p else None) ≡ Some o → o < length prims
    by true here is = subst (λ x. x < length prims) (some_same p o is) (object-inside prims p here)
    by false here is = absurd (cc)

-- a step of a chain of options
pub record Chained {A B : Type 0} (o : Option A) (f : A → Option B) (y : B) : Type 0 where
  pub value : A
  pub gave : o ≡ Some value
  pub then_gave : f value ≡ Some y

chained : {A B : Type 0} (o : Option A) (f : A → Option B) (y : B) → Rattle.gd_grammar.specs.Maybe.◌>>=◌ o f ≡ Some y → Chained o f y
chained None f y is = absurd (cc)
chained (Some x) f y is = record { value = x; gave = refl; then_gave = is }

leads-inside : (prims : List Primitive) (namespace : ℕ) (key : List ℕ) (o : ℕ) → key_leads prims namespace key ≡ Some o → o < length prims
leads-inside prims namespace key o is =
    let one = chained (Rattle.std.specs.List.last_or None (places_where (Rattle.gd_prim.specs.Keys.is_key_link namespace key) prims)) (λ k. if is_live prims k then Rattle.gd_grammar.specs.Maybe.◌>>=◌ (end_at (λ p. p.left) prims k) (object_at prims) else None) o is in
    by one.value (is_live prims one.value) one.then_gave
  where
    by : (k : ℕ) (b : Bool) → (if b then Rattle.gd_grammar.specs.Maybe.◌>>=◌ (end_at (λ p. p.left) prims k) (object_at prims) else None) ≡ Some o → o < length prims
    by k true is = let two = chained (end_at (λ p. p.left) prims k) (object_at prims) o is in at-inside prims two.value o two.then_gave
    by k false is = absurd (cc)

follow-inside : (prims : List Primitive) (place : ℕ) (keys : List (List ℕ)) (o : ℕ) → place < length prims → follow prims place keys ≡ Some o → o < length prims
follow-inside prims place [] o here is = subst (λ x. x < length prims) (some_same place o is) here
follow-inside prims place (key ∷ keys) o here is =
    let one = chained (key_leads prims place key) (λ next. follow prims next keys) o is in
    follow-inside prims one.value keys o (leads-inside prims place key one.value one.gave) one.then_gave

pub object_of-inside : (prims : List Primitive) (t : List ℕ) (o : ℕ) → root_place < length prims → object_of prims t ≡ Some o → o < length prims
object_of-inside prims t o root is = by (Rattle.gd_grammar.specs.Maybe.◌>>=◌ (guid_place t) (object_at prims)) refl is
  where
    by : (r : Option ℕ) → Rattle.gd_grammar.specs.Maybe.◌>>=◌ (guid_place t) (object_at prims) ≡ r → option_or r (Rattle.gd_grammar.specs.Maybe.◌>>=◌ (id_keys t) (follow prims root_place)) ≡ Some o → o < length prims
    by None first is = let one = chained (id_keys t) (follow prims root_place) o is in follow-inside prims root_place one.value o root one.then_gave
    by (Some x) first is = let one = chained (guid_place t) (object_at prims) o (first ∙ is) in at-inside prims one.value o one.then_gave

-- ---- tests

-- the objects among data are places of the list
abbrev pub DataInside : List Primitive → List Datum → Type 0
DataInside prims ds = (o : ℕ) → In o (places_of ds) → o < length prims

-- the places that a test names are
abbrev pub TestInside : List Primitive → Test → Type 0
TestInside prims (equals d) = DataInside prims (d ∷ [])
TestInside prims (is_one_of ds) = DataInside prims ds
TestInside prims _ = Unit {0}

module _ (prims : List Primitive) (root : root_place < length prims) where
  datum-inside : (path : List (List ℕ)) (j : Json) (d : Datum) → operand_datum prims an_object_of_system path j ≡ Ok d → DataInside prims (d ∷ [])
  datum-inside path (json.text t) d is =
      let one = steps (place_named prims t) (λ o. Ok (datum.Object o)) d is in
      subst (λ d. DataInside prims (d ∷ [])) (ok_same (datum.Object one.value) d one.then_gave)
      (λ o here. only o one.value here (object_of-inside prims t one.value root (some_given (object_of prims t) (no_such_id t) one.value one.gave)))
    where
      only : (o x : ℕ) → In o (x ∷ []) → x < length prims → o < length prims
      only o x (inl same) inside = subst (λ y. y < length prims) same inside
      only o x (inr none) inside = absurd none
  datum-inside path json.null d is = absurd (cc)
  datum-inside path (json.boolean b) d is = absurd (cc)
  datum-inside path (json.number n) d is = absurd (cc)
  datum-inside path (json.list js) d is = absurd (cc)
  datum-inside path (json.object ms) d is = absurd (cc)

  places_front : (d : Datum) (ds : List Datum) (o : ℕ) → In o (places_of (d ∷ ds)) → (In o (places_of (d ∷ [])) → o < length prims) → (In o (places_of ds) → o < length prims) → o < length prims
  places_front (datum.Object x) ds o (inl same) one rest = one (inl same)
  places_front (datum.Object x) ds o (inr there) one rest = rest there
  places_front (datum.Bool b) ds o there one rest = rest there
  places_front (datum.Int n) ds o there one rest = rest there
  places_front (datum.Moment n p) ds o there one rest = rest there
  places_front (datum.Text t) ds o there one rest = rest there
  places_front datum.Empty ds o there one rest = rest there

  data-inside : (path : List (List ℕ)) (js : Items) (ds : List Datum) → operand_data prims an_object_of_system path js ≡ Ok ds → DataInside prims ds
  data-inside path no_items ds is = subst (DataInside prims) (ok_same [] ds is) (λ o here. absurd here)
  data-inside path (item j js) ds is =
      let one = steps (operand_datum prims an_object_of_system path j) (λ d. operand_data prims an_object_of_system path js >>= λ ds. Ok (d ∷ ds)) ds is in
      let two = steps (operand_data prims an_object_of_system path js) (λ ds. Ok (one.value ∷ ds)) ds one.then_gave in
      subst (DataInside prims) (ok_same (one.value ∷ two.value) ds two.then_gave)
      (λ o here. places_front one.value two.value o here (datum-inside path j one.value one.gave o) (data-inside path js two.value two.gave o))

  one_datum : (path : List (List ℕ)) (j : Json) (make : Datum → Test) (t : Test) → ((d : Datum) → DataInside prims (d ∷ []) → TestInside prims (make d)) → (operand_datum prims an_object_of_system path j >>= λ d. Ok (make d)) ≡ Ok t → TestInside prims t
  one_datum path j make t inside is =
      let one = steps (operand_datum prims an_object_of_system path j) (λ d. Ok (make d)) t is in
      subst (TestInside prims) (ok_same (make one.value) t one.then_gave) (inside one.value (datum-inside path j one.value one.gave))

  test-inside : (path : List (List ℕ)) (operator : Operator) (j : Json) (t : Test) → test_of prims an_object_of_system path operator j ≡ Ok t → TestInside prims t
  test-inside path query.no_operator j t is = one_datum path j equals t (λ d inside. inside) is
  test-inside path query.one_of (json.list js) t is =
      let one = steps (operand_data prims an_object_of_system path js) (λ ds. Ok (is_one_of ds)) t is in
      subst (TestInside prims) (ok_same (is_one_of one.value) t one.then_gave) (data-inside path js one.value one.gave)
  test-inside path query.one_of json.null t is = absurd (cc)
  test-inside path query.one_of (json.boolean b) t is = absurd (cc)
  test-inside path query.one_of (json.number n) t is = absurd (cc)
  test-inside path query.one_of (json.text s) t is = absurd (cc)
  test-inside path query.one_of (json.object ms) t is = absurd (cc)
  test-inside path query.differs j t is = one_datum path j differs t (λ d inside. tt) is
  test-inside path query.below j t is = one_datum path j (λ d. is_below d false) t (λ d inside. tt) is
  test-inside path query.at_most j t is = one_datum path j (λ d. is_below d true) t (λ d inside. tt) is
  test-inside path query.above j t is = one_datum path j (λ d. is_above d false) t (λ d inside. tt) is
  test-inside path query.at_least j t is = one_datum path j (λ d. is_above d true) t (λ d inside. tt) is
  test-inside path query.words j t is =
      let one = steps (operand_datum prims (a_value Rattle.gd_defs.specs.Data.of_text) path j) (λ d. Ok (Rattle.gd_defs.specs.Asked.Tests.pattern_test j)) t is in
      subst (TestInside prims) (ok_same (Rattle.gd_defs.specs.Asked.Tests.pattern_test j) t one.then_gave) (pattern j)
    where
      read : (o : Option Rattle.gd_defs.specs.Pattern.Pattern) → TestInside prims (unwrap_or (option_map matches_words o) anything)
      read None = tt
      read (Some p) = tt

      pattern : (j : Json) → TestInside prims (Rattle.gd_defs.specs.Asked.Tests.pattern_test j)
      pattern (json.text s) = read (Rattle.gd_defs.specs.Pattern.pattern_of s)
      pattern json.null = tt
      pattern (json.boolean b) = tt
      pattern (json.number n) = tt
      pattern (json.list js) = tt
      pattern (json.object ms) = tt

  -- of the words that name places, the test does so inside the list
  abbrev pub OwnInside : Own → Test → Type 0
  OwnInside its_id t = TestInside prims t
  OwnInside its_guid t = TestInside prims t
  OwnInside _ t = Unit {0}

  own-inside : (path : List (List ℕ)) (o : Own) (operator : Operator) (j : Json) (t : Test) → own_test prims path o operator j ≡ Ok t → OwnInside o t
  own-inside path its_id how j t is = test-inside path how j t (own-made prims path its_id how j t is).1
  own-inside path its_guid how j t is = test-inside path how j t (own-made prims path its_guid how j t is).1
  own-inside path its_timestamp how j t is = tt
  own-inside path its_link how j t is = tt
  own-inside path its_value how j t is = tt
  own-inside path its_namespace how j t is = tt
  own-inside path its_lang how j t is = tt

  nothing-inside : (o : Own) → OwnInside o anything
  nothing-inside its_id = tt
  nothing-inside its_guid = tt
  nothing-inside its_timestamp = tt
  nothing-inside its_link = tt
  nothing-inside its_value = tt
  nothing-inside its_namespace = tt
  nothing-inside its_lang = tt

  -- ---- members

  -- the members of the root name places of the list alone
  abbrev pub NamesInside : Members → Type 0
  NamesInside no_members = Unit {0}
  NamesInside (own name w t j ms) = OwnInside w t × NamesInside ms
  NamesInside (asks name a c ms) = NamesInside ms

  operand-front : (name : List ℕ) (p : Property) (e : Expects) (literal : Bool) (j : Json) (t : Test) (rest : Members) → NamesInside rest → NamesInside (operand_form name p e literal j t rest)
  operand-front name p (a_value k) literal j t rest are = are
  operand-front name p a_key literal j t rest are = are
  operand-front name p an_object_of_system literal j t rest are = are
  operand-front name p a_plain_object literal j t rest are = are

  form-front : (path : List (List ℕ)) (n : Name) (p : Property) (f : Form) (g : Members → Members) → asked_form prims path n p f ≡ Ok g → (rest : Members) → NamesInside rest → NamesInside (g rest)
  form-front path n p query.ask g is rest are = subst (λ (g : Members → Members). NamesInside (g rest)) (ok_same (ask_form n.spelled p false) g is) are
  form-front path n p query.ask_all g is rest are = subst (λ (g : Members → Members). NamesInside (g rest)) (ok_same (ask_form n.spelled p true) g is) are
  form-front path n p (query.literal j) g is rest are =
      let step = steps (checked_test prims (expects_of p.expected) path query.no_operator j) (λ t. Ok (operand_form n.spelled p (expects_of p.expected) true j t)) g is in
      subst (λ (g : Members → Members). NamesInside (g rest)) (ok_same (operand_form n.spelled p (expects_of p.expected) true j step.value) g step.then_gave) (operand-front n.spelled p (expects_of p.expected) true j step.value rest are)
  form-front path n p (query.operand j) g is rest are =
      let step = steps (checked_test prims (expects_of p.expected) path n.operator j) (λ t. Ok (operand_form n.spelled p (expects_of p.expected) false j t)) g is in
      subst (λ (g : Members → Members). NamesInside (g rest)) (ok_same (operand_form n.spelled p (expects_of p.expected) false j step.value) g step.then_gave) (operand-front n.spelled p (expects_of p.expected) false j step.value rest are)
  form-front path n p (query.one d ms) g is rest are =
      let step = steps (below_property prims path p ms (λ t. asked prims t path ms)) (λ c. Ok (clause_form n.spelled p d false c)) g is in
      subst (λ (g : Members → Members). NamesInside (g rest)) (ok_same (clause_form n.spelled p d false step.value) g step.then_gave) are
  form-front path n p (query.many d ms) g is rest are =
      let step = steps (below_property prims path p ms (λ t. asked prims t path ms)) (λ c. Ok (clause_form n.spelled p d true c)) g is in
      subst (λ (g : Members → Members). NamesInside (g rest)) (ok_same (clause_form n.spelled p d true step.value) g step.then_gave) are

  member-inside : (context : Option ℕ) (path : List (List ℕ)) (n : Name) (f : Form) (r : Result Clause Unknown) (c : Clause)
      → ((d : Clause) → r ≡ Ok d → NamesInside d.0)
      → option_map_or (λ o. own_member path n o f (own_test prims path o n.operator) r) (own_of n.word)
      (member_property prims context path n >>= λ p. asked_form prims path n p f >>= λ g. r >>= λ c. Ok (g c.0, c.1)) ≡ Ok c
      → NamesInside c.0
  member-inside context path n f r c more is = by (own_of n.word) is
    where
      by : (o : Option Own)
          → option_map_or (λ o. own_member path n o f (own_test prims path o n.operator) r) o (member_property prims context path n >>= λ p. asked_form prims path n p f >>= λ g. r >>= λ c. Ok (g c.0, c.1)) ≡ Ok c
          → NamesInside c.0
      by (Some o) is =
          let made = computed path n o f (own_test prims path o n.operator) r c (OwnInside o) (nothing-inside o) (λ j t given. own-inside path o n.operator j t given) is in
          subst (λ (c : Clause). NamesInside c.0) made.is (made.fits, more made.behind made.gave)
      by None is =
          let one = steps (member_property prims context path n) (λ p. asked_form prims path n p f >>= λ g. r >>= λ c. Ok (g c.0, c.1)) c is in
          let two = steps (asked_form prims path n one.value f) (λ g. r >>= λ c. Ok (g c.0, c.1)) c one.then_gave in
          let three = steps r (λ (c : Clause). Ok (two.value c.0, c.1)) c two.then_gave in
          subst (λ (c : Clause). NamesInside c.0) (ok_same (two.value three.value.0, three.value.1) c three.then_gave)
          (form-front path n one.value f two.value two.gave three.value.0 (more three.value three.gave))

  clause-inside : (context : Option ℕ) (path : List (List ℕ)) (ms : query.Members) (c : Clause) → asked prims context path ms ≡ Ok c → NamesInside c.0
  clause-inside context path query.no_members c is = subst (λ (c : Clause). NamesInside c.0) (ok_same (no_members, []) c is) tt
  clause-inside context path (query.sort_by ws ms) c is =
      let one = steps (sort_keys prims context (path ++ sort_name ∷ []) ws) (λ ks. asked prims context path ms >>= λ c. Ok (c.0, ks)) c is in
      let more = steps (asked prims context path ms) (λ c. Ok (c.0, one.value)) c one.then_gave in
      subst (λ (c : Clause). NamesInside c.0) (ok_same (more.value.0, one.value) c more.then_gave) (clause-inside context path ms more.value more.gave)
  clause-inside context path (query.member n f ms) c is =
      member-inside context (path ++ n.spelled ∷ []) n f (asked prims context path ms) c (λ d made. clause-inside context path ms d made) is

  -- a query names places of the list alone
  pub query-inside : (written : Query) (q : Asked) → asked_query prims written ≡ Ok q → NamesInside q.members
  query-inside written q is =
      let one = steps (context_of prims None (type_text written.members)) (λ t. asked prims t [] written.members >>= λ c. Ok (found c)) q is in
      let more = steps (asked prims one.value [] written.members) (λ c. Ok (found c)) q one.then_gave in
      subst (λ (q : Asked). NamesInside q.members) (ok_same (found more.value) q more.then_gave) (clause-inside one.value [] written.members more.value more.gave)
    where
      found : Clause → Asked
      found c = record { listed = written.listed; single = asks_single written.listed written.directives; count = written.directives.count; limit = unwrap_or written.directives.limit 100; members = c.0; sort = c.1 }
