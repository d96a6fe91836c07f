-- The members of a clause with its words looked up are asked as laws want them.
use Rattle.std.proofs.Common.{◌≡◌, ℕ, List, [], ◌∷◌, ◌++◌, Bool, true, false, ◌&&◌, Option, Some, None, Result, Ok, codes, refl, ap, sym, subst, ◌∙◌}
use Rattle.std.specs.Prelude.{if◌then◌else◌, bytes_eq}
use Rattle.std.proofs.lemmas.Bool.{false≢true}
use Rattle.gd_prim.specs.declared.Primitive.{Primitive}
use Rattle.gd_grammar.specs.Chain.{◌>>=◌}
use Rattle.gd_tree.specs.Json.{Json}
use Rattle.gd_defs.specs.Data.{of_text, Test, anything}
use Rattle.gd_defs.specs.Query as query
use Rattle.gd_defs.specs.Query.{Name, Form, Directives, SortWord, Mode, required, optional, bad_operator, value_reversed, object_form, bad_sort, is_word, is_link, Query}
use Rattle.gd_defs.specs.Property.{Property, Expects, a_value, a_key, an_object_of_system, a_plain_object, expects_of, property_object, holds_values, is_reversed_value, stated, turned}
use Rattle.gd_defs.specs.Asked.{Own, its_link, its_value, its_namespace, its_lang, Members, no_members, own, Clause, Unknown, bad, own_member, own_test, with_own, value_member, value_members, has_namespace, has_lang, member_property}
use Rattle.gd_defs.specs.Asked.Tests.{checked_test}
use Rattle.gd_template_laws.specs.Fits.{IsAnything, FitsOne, ValueMembers}
use Rattle.gd_grammar.proofs.Steps.{steps, ok_same}
use Rattle.gd_template_laws.proofs.Operands.{Fits, checked-fits, own-fits}

-- ---- computed members

-- a computed member in front of a clause
pub record Computed (n : Name) (o : Own) (T : Test → Type 0) (rest : Result Clause Unknown) (c : Clause) : Type 0 where
  pub test : Test
  pub operand : Option Json
  pub behind : Clause
  pub fits : T test
  pub gave : rest ≡ Ok behind
  pub is : (own n.spelled o test operand behind.0, behind.1) ≡ c

pub computed : (path : List (List ℕ)) (n : Name) (o : Own) (f : Form) (test : Json → Result Test Unknown) (rest : Result Clause Unknown) (c : Clause) (T : Test → Type 0)
    → T anything → ((j : Json) (t : Test) → test j ≡ Ok t → T t) → own_member path n o f test rest ≡ Ok c → Computed n o T rest c
computed path n o f test rest c T nothing fits is = by f is
  where
    in_front : (operand : Option Json) (r : Result Test Unknown) → ((t : Test) → r ≡ Ok t → T t) → with_own n o operand r rest ≡ Ok c → Computed n o T rest c
    in_front operand r fits is =
        let one = steps r (λ passing. rest >>= λ c. Ok (own n.spelled o passing operand c.0, c.1)) c is in
        let more = steps rest (λ c. Ok (own n.spelled o one.value operand c.0, c.1)) c one.then_gave in
        record { test = one.value; operand = operand; behind = more.value; fits = fits one.value one.gave; gave = more.gave; is = ok_same (own n.spelled o one.value operand more.value.0, more.value.1) c more.then_gave }

    by : (f : Form) → own_member path n o f test rest ≡ Ok c → Computed n o T rest c
    by query.ask is = in_front None (Ok anything) (λ t given. subst T (ok_same anything t given) nothing) is
    by (query.literal j) is = in_front (Some j) (test j) (fits j) is
    by (query.operand j) is = in_front (Some j) (test j) (fits j) is
    by query.ask_all is = absurd (cc)
    by (query.one d ms) is = absurd (cc)
    by (query.many d ms) is = absurd (cc)

-- ---- members of forms on values and keys

-- values of a kind, or keys
abbrev pub AreValues : Expects → Members → Type 0
AreValues (a_value k) c = ValueMembers k false c
AreValues a_key c = ValueMembers of_text true c
AreValues an_object_of_system c = ⊥
AreValues a_plain_object c = ⊥

-- what a member of a form on values makes of the rest
abbrev Behind : Expects → Result Clause Unknown → Clause → Type 0
Behind e rest c = ((d : Clause) → rest ≡ Ok d → AreValues e d.0 × (d.1 ≡ [])) → AreValues e c.0 × (c.1 ≡ [])

front-link : (e : Expects) (n : Name) (t : Test) (j : Option Json) (ms : Members) → IsAnything t → AreValues e ms → AreValues e (own n.spelled its_link t j ms)
front-link (a_value k) n t j ms fits are = (fits, are)
front-link a_key n t j ms fits are = (fits, are)
front-link an_object_of_system n t j ms fits are = are
front-link a_plain_object n t j ms fits are = are

front-value : (e : Expects) (n : Name) (t : Test) (j : Option Json) (ms : Members) → Fits e t → AreValues e ms → AreValues e (own n.spelled its_value t j ms)
front-value (a_value k) n t j ms fits are = (fits, are)
front-value a_key n t j ms fits are = (fits, are)
front-value an_object_of_system n t j ms fits are = are
front-value a_plain_object n t j ms fits are = are

front-namespace : (e : Expects) (n : Name) (t : Test) (j : Option Json) (ms : Members) → has_namespace e ≡ true → FitsOne t → AreValues e ms → AreValues e (own n.spelled its_namespace t j ms)
front-namespace (a_value k) n t j ms has fits are = absurd (false≢true has)
front-namespace a_key n t j ms has fits are = (refl, fits, are)
front-namespace an_object_of_system n t j ms has fits are = are
front-namespace a_plain_object n t j ms has fits are = are

front-lang : (e : Expects) (n : Name) (t : Test) (j : Option Json) (ms : Members) → FitsOne t → AreValues e ms → AreValues e (own n.spelled its_lang t j ms)
front-lang (a_value k) n t j ms fits are = (fits, are)
front-lang a_key n t j ms fits are = (fits, are)
front-lang an_object_of_system n t j ms fits are = are
front-lang a_plain_object n t j ms fits are = are

fits-nothing : (e : Expects) → Fits e anything
fits-nothing (a_value k) = tt
fits-nothing a_key = tt
fits-nothing an_object_of_system = tt
fits-nothing a_plain_object = tt

value_member-are : (prims : List Primitive) (e : Expects) (path : List (List ℕ)) (n : Name) (f : Form) (rest : Result Clause Unknown) (c : Clause) → value_member prims e path n f rest ≡ Ok c → Behind e rest c
value_member-are prims e path n f rest c is more = by (is_link n.word) (bytes_eq n.word (codes "value")) (bytes_eq n.word (codes "namespace")) (has_namespace e) (bytes_eq n.word (codes "lang") && has_lang e) refl is
  where
    ended : (o : Own) (T : Test → Type 0) → ((t : Test) (j : Option Json) (ms : Members) → T t → AreValues e ms → AreValues e (own n.spelled o t j ms)) → Computed n o T rest c → AreValues e c.0 × (c.1 ≡ [])
    ended o T front made =
        let behind = more made.behind made.gave in
        (subst (λ (c : Clause). AreValues e c.0) made.is (front made.test made.operand made.behind.0 made.fits behind.0), ap (λ (c : Clause). c.1) (sym made.is) ∙ behind.1)

    last : (b5 : Bool) → (if b5 then own_member path n its_lang f (own_test prims path its_lang n.operator) rest else bad object_form path) ≡ Ok c → AreValues e c.0 × (c.1 ≡ [])
    last true is = ended its_lang FitsOne (front-lang e n) (computed path n its_lang f (own_test prims path its_lang n.operator) rest c FitsOne tt (λ j t made. own-fits prims path its_lang n.operator j t made) is)
    last false is = absurd (cc)

    by : (b1 b2 b3 b4 b5 : Bool) → has_namespace e ≡ b4
        → (if b1 then own_member path n its_link f (own_test prims path its_link n.operator) rest
        else if b2 then own_member path n its_value f (checked_test prims e path n.operator) rest
        else if b3 && b4 then own_member path n its_namespace f (own_test prims path its_namespace n.operator) rest
        else if b5 then own_member path n its_lang f (own_test prims path its_lang n.operator) rest
        else bad object_form path) ≡ Ok c
        → AreValues e c.0 × (c.1 ≡ [])
    by true b2 b3 b4 b5 has is = ended its_link IsAnything (front-link e n) (computed path n its_link f (own_test prims path its_link n.operator) rest c IsAnything tt (λ j t made. own-fits prims path its_link n.operator j t made) is)
    by false true b3 b4 b5 has is = ended its_value (Fits e) (front-value e n) (computed path n its_value f (checked_test prims e path n.operator) rest c (Fits e) (fits-nothing e) (λ j t made. checked-fits prims e path n.operator j t made) is)
    by false false true true b5 has is = ended its_namespace FitsOne (λ t j ms fits are. front-namespace e n t j ms has fits are) (computed path n its_namespace f (own_test prims path its_namespace n.operator) rest c FitsOne tt (λ j t made. own-fits prims path its_namespace n.operator j t made) is)
    by false false true false b5 has is = last b5 is
    by false false false b4 b5 has is = last b5 is

pub value_members-are : (prims : List Primitive) (e : Expects) (path : List (List ℕ)) (ms : query.Members) (c : Clause) → AreValues e no_members → value_members prims e path ms ≡ Ok c → AreValues e c.0 × (c.1 ≡ [])
value_members-are prims e path query.no_members c none is =
    let same = ok_same (no_members, []) c is in (subst (λ (c : Clause). AreValues e c.0) same none, ap (λ (c : Clause). c.1) (sym same))
value_members-are prims e path (query.sort_by ws ms) c none is = absurd (cc)
value_members-are prims e path (query.member n f ms) c none is = value_member-are prims e (path ++ n.spelled ∷ []) n f (value_members prims e path ms) c is (λ d made. value_members-are prims e path ms d none made)

-- ---- properties

-- a property that is asked for backwards holds objects
abbrev pub HoldsObjectsBackwards : Property → Type 0
HoldsObjectsBackwards p = p.reversed ≡ true → holds_values (expects_of p.expected) ≡ false

not_refused : (r h : Bool) → (r && h) ≡ false → r ≡ true → h ≡ false
not_refused true h is turned = is
not_refused false h is turned = absurd (false≢true turned)

pub member_property-backwards : (prims : List Primitive) (context : Option ℕ) (path : List (List ℕ)) (n : Name) (q : Property) → member_property prims context path n ≡ Ok q → HoldsObjectsBackwards q
member_property-backwards prims context path n q is = by (property_object prims context n.word) refl
  where
    asked_as : Bool → ℕ → Property
    asked_as reversed p = if reversed then turned (stated prims p) else stated prims p

    chosen : (p : ℕ) (b : Bool) → is_reversed_value prims p (asked_as n.reversed p) ≡ b → (if b then bad value_reversed path else Ok (asked_as n.reversed p)) ≡ Ok q → HoldsObjectsBackwards q
    chosen p true refused is = absurd (cc)
    chosen p false refused is = subst HoldsObjectsBackwards (ok_same (asked_as n.reversed p) q is) (way n.reversed refused)
      where
        way : (r : Bool) → is_reversed_value prims p (asked_as r p) ≡ false → HoldsObjectsBackwards (asked_as r p)
        way true refused turned = refl
        way false refused turned = not_refused (stated prims p).reversed (holds_values (expects_of (stated prims p).expected)) refused turned

    by : (o : Option ℕ) → property_object prims context n.word ≡ o → HoldsObjectsBackwards q
    by None here = let refused = rw here at is in absurd (cc)
    by (Some p) here = chosen p (is_reversed_value prims p (asked_as n.reversed p)) refl (rw here at is)
