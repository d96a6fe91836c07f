-- What a query asks has the clauses that its forms have.
use Rattle.std.proofs.Common.{◌≡◌, ℕ, List, [], ◌∷◌, ◌++◌, Bool, true, false, ◌&&◌, Option, Some, None, Result, Ok, codes, refl, sym, subst}
use Rattle.std.specs.Prelude.{if◌then◌else◌, unwrap_or, bytes_eq}
use Rattle.std.specs.Option.{option_map_or}
use Rattle.std.proofs.lemmas.Bool.{false≢true}
use Rattle.gd_prim.specs.declared.Primitive.{Primitive}
use Rattle.gd_grammar.specs.Chain.{◌>>=◌}
use Rattle.gd_tree.specs.Json.{Json}
use Rattle.gd_defs.specs.Data.{Test, anything}
use Rattle.gd_defs.specs.Query as query
use Rattle.gd_defs.specs.Query.{Name, Operator, Form, Directives, object_form, is_link, Mode, required, optional, Query}
use Rattle.gd_defs.specs.Property.{Property, Expects, a_value, a_key, an_object_of_system, a_plain_object, expects_of, holds_values}
use Rattle.gd_defs.proofs.Directives.{sort_name}
use Rattle.gd_defs.specs.Asked.{Own, Members, no_members, Clause, Unknown, bad, its_link, its_value, its_namespace, its_lang, value_member, has_namespace, has_lang, Asked, asked, asked_form, asked_query, own_of, own_member, own_test, value_members, member_property, below_property, context_of, type_text, sort_keys, name_property}
use Rattle.gd_defs.specs.Asked.Tests.{checked_test}
use Rattle.gd_defs.specs.Asked.Forms.{name_test, style_of, own_clause, ask_form, operand_form, clause_form, asks_single}
use Rattle.gd_defs.specs.Plan.{answers_of}
use Rattle.gd_defs.specs.Reply.{is_clause}
use Rattle.gd_grammar.proofs.Steps.{steps, ok_same}
use Rattle.gd_template_laws.specs.Laws.{OnObjects}
use Rattle.gd_template_laws.proofs.AskedMembers.{computed}
use Rattle.gd_work_laws.specs.Formed.{IsNameOnly, AreFormed}

-- ---- forms

always : (e : Expects) (X : Type 0) → X → OnObjects e X
always (a_value k) X x = tt
always a_key X x = tt
always an_object_of_system X x = x
always a_plain_object X x = x

-- what has no clause, or the name's
name_formed : (mode : Mode) (given : Bool) (t : Test) → AreFormed (name_test mode given t)
name_formed mode given t = (record { plain = λ is. (tt, refl); given = λ is. refl }, (always (answers_of name_property) (AreFormed no_members) tt, tt))

style_plain : (e : Expects) → is_clause (style_of e) ≡ false
style_plain (a_value k) = refl
style_plain a_key = refl
style_plain an_object_of_system = refl
style_plain a_plain_object = refl

own_only : (e : Expects) → IsNameOnly (own_clause e)
own_only (a_value k) = tt
own_only a_key = tt
own_only an_object_of_system = tt
own_only a_plain_object = (refl, refl)

own_formed : (e : Expects) → AreFormed (own_clause e)
own_formed (a_value k) = tt
own_formed a_key = tt
own_formed an_object_of_system = tt
own_formed a_plain_object = name_formed optional false anything

front-ask : (name : List ℕ) (p : Property) (listed : Bool) (rest : Members) → AreFormed rest → AreFormed (ask_form name p listed rest)
front-ask name p listed rest are = (
  record { plain = λ is. (own_only (expects_of p.expected), refl); given = λ is. style_plain (expects_of p.expected) },
  (always (answers_of p) (AreFormed (own_clause (expects_of p.expected))) (own_formed (expects_of p.expected)), are),
)

front-operand : (name : List ℕ) (p : Property) (e : Expects) (literal : Bool) (j : Json) (t : Test) (rest : Members) → AreFormed rest → AreFormed (operand_form name p e literal j t rest)
front-operand name p (a_value k) literal j t rest are = (record { plain = λ is. (tt, refl); given = λ is. refl }, (always (answers_of p) (AreFormed no_members) tt, are))
front-operand name p a_key literal j t rest are = (record { plain = λ is. (tt, refl); given = λ is. refl }, (always (answers_of p) (AreFormed no_members) tt, are))
front-operand name p an_object_of_system literal j t rest are = (record { plain = λ is. (tt, refl); given = λ is. refl }, (always (answers_of p) (AreFormed no_members) tt, are))
front-operand name p a_plain_object literal j t rest are = (record { plain = λ is. ((refl, refl), refl); given = λ is. refl }, (always (answers_of p) (AreFormed (name_test required literal t)) (name_formed required literal t), are))

-- a clause is formed, where answers are objects
front-clause : (name : List ℕ) (p : Property) (d : Directives) (listed : Bool) (c : Clause) (rest : Members) → OnObjects (answers_of p) (AreFormed c.0) → AreFormed rest → AreFormed (clause_form name p d listed c rest)
front-clause name p d listed c rest below are = (record { plain = λ is. absurd (false≢true (sym is)); given = λ is. absurd (false≢true is) }, (below, are))

-- ---- computed members

abbrev Whatever : Test → Type 0
Whatever t = Unit {0}

own-formed : (path : List (List ℕ)) (n : Name) (o : Own) (f : Form) (test : Json → Result Test Unknown) (rest : Result Clause Unknown) (c : Clause) → ((d : Clause) → rest ≡ Ok d → AreFormed d.0)
    → own_member path n o f test rest ≡ Ok c → AreFormed c.0
own-formed path n o f test rest c more is =
    let made = computed path n o f test rest c Whatever tt (λ j t given. tt) is in
    subst (λ (c : Clause). AreFormed c.0) made.is (more made.behind made.gave)

value_member-formed : (prims : List Primitive) (e : Expects) (path : List (List ℕ)) (n : Name) (f : Form) (rest : Result Clause Unknown) (c : Clause) → ((d : Clause) → rest ≡ Ok d → AreFormed d.0)
    → value_member prims e path n f rest ≡ Ok c → AreFormed c.0
value_member-formed prims e path n f rest c more is = by (is_link n.word) (bytes_eq n.word (codes "value")) (bytes_eq n.word (codes "namespace") && has_namespace e) (bytes_eq n.word (codes "lang") && has_lang e) is
  where
    by : (b1 b2 b3 b4 : Bool)
        → (if b1 then own_member path n its_link f (own_test prims path its_link n.operator) rest
        else if b2 then own_member path n its_value f (checked_test prims e path n.operator) rest
        else if b3 then own_member path n its_namespace f (own_test prims path its_namespace n.operator) rest
        else if b4 then own_member path n its_lang f (own_test prims path its_lang n.operator) rest
        else bad object_form path) ≡ Ok c
        → AreFormed c.0
    by true b2 b3 b4 is = own-formed path n its_link f (own_test prims path its_link n.operator) rest c more is
    by false true b3 b4 is = own-formed path n its_value f (checked_test prims e path n.operator) rest c more is
    by false false true b4 is = own-formed path n its_namespace f (own_test prims path its_namespace n.operator) rest c more is
    by false false false true is = own-formed path n its_lang f (own_test prims path its_lang n.operator) rest c more is
    by false false false false is = absurd (cc)

value_members-formed : (prims : List Primitive) (e : Expects) (path : List (List ℕ)) (ms : query.Members) (c : Clause) → value_members prims e path ms ≡ Ok c → AreFormed c.0
value_members-formed prims e path query.no_members c is = subst (λ (c : Clause). AreFormed c.0) (ok_same (no_members, []) c is) tt
value_members-formed prims e path (query.sort_by ws ms) c is = absurd (cc)
value_members-formed prims e path (query.member n f ms) c is =
    value_member-formed prims e (path ++ n.spelled ∷ []) n f (value_members prims e path ms) c (λ d made. value_members-formed prims e path ms d made) is

-- ---- members that ask for a property

member-formed : (prims : List Primitive) (context : Option ℕ) (path : List (List ℕ)) (n : Name) (f : Form) (r : Result Clause Unknown) (form : Property → Result (Members → Members) Unknown) (c : Clause)
    → ((d : Clause) → r ≡ Ok d → AreFormed d.0)
    → ((p : Property) (g : Members → Members) → form p ≡ Ok g → (rest : Members) → AreFormed rest → AreFormed (g rest))
    → option_map_or (λ o. own_member path n o f (own_test prims path o n.operator) r) (own_of n.word)
    (member_property prims context path n >>= λ p. form p >>= λ g. r >>= λ c. Ok (g c.0, c.1)) ≡ Ok c
    → AreFormed c.0
member-formed prims context path n f r form c more fits is = by (own_of n.word) is
  where
    by : (o : Option Own)
        → option_map_or (λ o. own_member path n o f (own_test prims path o n.operator) r) o (member_property prims context path n >>= λ p. form p >>= λ g. r >>= λ c. Ok (g c.0, c.1)) ≡ Ok c
        → AreFormed c.0
    by (Some o) is = own-formed path n o f (own_test prims path o n.operator) r c more is
    by None is =
        let one = steps (member_property prims context path n) (λ p. form p >>= λ g. r >>= λ c. Ok (g c.0, c.1)) c is in
        let two = steps (form one.value) (λ g. r >>= λ c. Ok (g c.0, c.1)) c one.then_gave in
        let three = steps r (λ (c : Clause). Ok (two.value c.0, c.1)) c two.then_gave in
        subst (λ (c : Clause). AreFormed c.0) (ok_same (two.value three.value.0, three.value.1) c three.then_gave)
        (fits one.value two.value two.gave three.value.0 (more three.value three.gave))

below-formed : (prims : List Primitive) (path : List (List ℕ)) (p : Property) (ms : query.Members) (on_object : Option ℕ → Result Clause Unknown) (c : Clause)
    → ((t : Option ℕ) (d : Clause) → on_object t ≡ Ok d → AreFormed d.0) → below_property prims path p ms on_object ≡ Ok c → AreFormed c.0
below-formed prims path p ms on_object c on is = by (expects_of p.expected) is
  where
    by : (e : Expects) → (if holds_values e then value_members prims e path ms else (context_of prims p.expected (type_text ms) >>= on_object)) ≡ Ok c → AreFormed c.0
    by (a_value k) is = value_members-formed prims (a_value k) path ms c is
    by a_key is = value_members-formed prims a_key path ms c is
    by an_object_of_system is = let step = steps (context_of prims p.expected (type_text ms)) on_object c is in on step.value c step.then_gave
    by a_plain_object is = let step = steps (context_of prims p.expected (type_text ms)) on_object c is in on step.value c step.then_gave

clause-form : (prims : List Primitive) (path : List (List ℕ)) (n : Name) (p : Property) (d : Directives) (listed : Bool) (ms : query.Members) (on_object : Option ℕ → Result Clause Unknown) (g : Members → Members)
    → ((t : Option ℕ) (d : Clause) → on_object t ≡ Ok d → AreFormed d.0)
    → (below_property prims path p ms on_object >>= λ c. Ok (clause_form n.spelled p d listed c)) ≡ Ok g → (rest : Members) → AreFormed rest → AreFormed (g rest)
clause-form prims path n p d listed ms on_object g on is rest are =
    let step = steps (below_property prims path p ms on_object) (λ c. Ok (clause_form n.spelled p d listed c)) g is in
    subst (λ (g : Members → Members). AreFormed (g rest)) (ok_same (clause_form n.spelled p d listed step.value) g step.then_gave)
    (front-clause n.spelled p d listed step.value rest (always (answers_of p) (AreFormed step.value.0) (below-formed prims path p ms on_object step.value on step.gave)) are)

operand-formed : (prims : List Primitive) (path : List (List ℕ)) (n : Name) (operator : Operator) (p : Property) (literal : Bool) (j : Json) (g : Members → Members)
    → (checked_test prims (expects_of p.expected) path operator j >>= λ t. Ok (operand_form n.spelled p (expects_of p.expected) literal j t)) ≡ Ok g → (rest : Members) → AreFormed rest → AreFormed (g rest)
operand-formed prims path n operator p literal j g is rest are =
    let step = steps (checked_test prims (expects_of p.expected) path operator j) (λ t. Ok (operand_form n.spelled p (expects_of p.expected) literal j t)) g is in
    subst (λ (g : Members → Members). AreFormed (g rest)) (ok_same (operand_form n.spelled p (expects_of p.expected) literal j step.value) g step.then_gave)
    (front-operand n.spelled p (expects_of p.expected) literal j step.value rest are)

ask-formed : (n : Name) (p : Property) (listed : Bool) (g : Members → Members) → ◌≡◌ {A = Result (Members → Members) Unknown} (Ok (ask_form n.spelled p listed)) (Ok g) → (rest : Members) → AreFormed rest → AreFormed (g rest)
ask-formed n p listed g is rest are = subst (λ (g : Members → Members). AreFormed (g rest)) (ok_same (ask_form n.spelled p listed) g is) (front-ask n.spelled p listed rest are)

-- ---- the whole

mutual
  clause-formed : (prims : List Primitive) (context : Option ℕ) (path : List (List ℕ)) (ms : query.Members) (c : Clause) → asked prims context path ms ≡ Ok c → AreFormed c.0
  clause-formed prims context path query.no_members c is = subst (λ (c : Clause). AreFormed c.0) (ok_same (no_members, []) c is) tt
  clause-formed prims context path (query.sort_by ws ms) c is =
      let one = steps (sort_keys prims context (path ++ sort_name ∷ []) ws) (λ ks. asked prims context path ms >>= λ c. Ok (c.0, ks)) c is in
      let more = steps (asked prims context path ms) (λ c. Ok (c.0, one.value)) c one.then_gave in
      subst (λ (c : Clause). AreFormed c.0) (ok_same (more.value.0, one.value) c more.then_gave) (clause-formed prims context path ms more.value more.gave)
  clause-formed prims context path (query.member n f ms) c is =
      member-formed prims context (path ++ n.spelled ∷ []) n f (asked prims context path ms) (λ p. asked_form prims (path ++ n.spelled ∷ []) n p f) c
      (λ d made. clause-formed prims context path ms d made)
      (λ p g made rest are. form-formed prims (path ++ n.spelled ∷ []) n p f g made rest are)
      is

  form-formed : (prims : List Primitive) (path : List (List ℕ)) (n : Name) (p : Property) (f : Form) (g : Members → Members) → asked_form prims path n p f ≡ Ok g → (rest : Members) → AreFormed rest → AreFormed (g rest)
  form-formed prims path n p query.ask g is rest are = ask-formed n p false g is rest are
  form-formed prims path n p query.ask_all g is rest are = ask-formed n p true g is rest are
  form-formed prims path n p (query.literal j) g is rest are = operand-formed prims path n query.no_operator p true j g is rest are
  form-formed prims path n p (query.operand j) g is rest are = operand-formed prims path n n.operator p false j g is rest are
  form-formed prims path n p (query.one d ms) g is rest are = clause-form prims path n p d false ms (λ t. asked prims t path ms) g (λ t c made. clause-formed prims t path ms c made) is rest are
  form-formed prims path n p (query.many d ms) g is rest are = clause-form prims path n p d true ms (λ t. asked prims t path ms) g (λ t c made. clause-formed prims t path ms c made) is rest are

-- the members of a query have the clauses of their forms
pub query-formed : (prims : List Primitive) (written : Query) (q : Asked) → asked_query prims written ≡ Ok q → AreFormed q.members
query-formed prims written q is =
    let one = steps (context_of prims None (type_text written.members)) (λ t. asked prims t [] written.members >>= λ c. Ok (found c)) q is in
    let more = steps (asked prims one.value [] written.members) (λ c. Ok (found c)) q one.then_gave in
    subst (λ (q : Asked). AreFormed q.members) (ok_same (found more.value) q more.then_gave) (clause-formed prims one.value [] written.members more.value more.gave)
  where
    found : Clause → Asked
    found c = record { listed = written.listed; single = asks_single written.listed written.directives; count = written.directives.count; limit = unwrap_or written.directives.limit 100; members = c.0; sort = c.1 }
