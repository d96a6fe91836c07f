-- How deep the templates of a query lie one within the other.
use Rattle.std.proofs.Common.{◌≡◌, ◌≤◌, ℕ, ◌+◌, ◌*◌, List, [], ◌∷◌, ◌++◌, Bool, true, false, Option, Some, None, Result, Ok, refl, ap, subst, arith}
use Rattle.std.specs.Prelude.{max, if◌then◌else◌}
use Rattle.std.specs.Option.{option_map_or}
use Rattle.gd_prim.specs.declared.Primitive.{Primitive}
use Rattle.gd_grammar.specs.Chain.{◌>>=◌}
use Rattle.gd_tree.specs.Json.{Json}
use Rattle.gd_defs.specs.Data.{Kind, of_text, Test}
use Rattle.gd_defs.specs.Query as query
use Rattle.gd_defs.specs.Query.{Name, Form, Directives, required, Query, is_word, is_link}
use Rattle.gd_defs.specs.Property.{Property, Expects, a_value, a_key, an_object_of_system, a_plain_object, expects_of, holds_values}
use Rattle.gd_defs.proofs.Directives.{sort_name}
use Rattle.gd_defs.specs.Asked.{Own, its_id, its_guid, its_timestamp, its_link, its_value, its_namespace, its_lang, Key, by_guid, by_timestamp, by_property, SortKey, Asking, Members, no_members, own, asks, Clause, Unknown, Asked, asked, asked_form, asked_query, own_of, own_member, own_test, value_members, member_property, below_property, context_of, type_text, sort_keys}
use Rattle.gd_defs.specs.Asked.Tests.{checked_test}
use Rattle.gd_defs.specs.Asked.Forms.{ask_form, own_clause, operand_form, clause_form, name_test, asks_single}
use Rattle.gd_defs.specs.Plan.{namespace_tests, answers_of, unless_literal, sort_clauses, clauses_of, template_of}
use Rattle.gd_defs.specs.Template.{Clauses, no_clauses}
use Rattle.gd_template_laws.specs.Fits.{ValueMembers}
use Rattle.gd_defs.specs.Template.{depth, clauses_depth}
use Rattle.gd_template_laws.specs.Depth.{forms_below, forms_in}
use Rattle.gd_template_laws.proofs.Shapes.{far_clause, shaped, link_template-shaped}
use Rattle.gd_grammar.proofs.Steps.{steps, ok_same}
use Rattle.gd_template_laws.proofs.AskedMembers.{computed, value_members-are}

-- ---- clauses

unless_literal-depth : (given : Bool) (rest : Clauses) → clauses_depth (unless_literal given rest) ≤ max 1 (clauses_depth rest)
unless_literal-depth true rest = omega arith
unless_literal-depth false rest = omega arith

sort-depth : (sort : List SortKey) → clauses_depth (sort_clauses sort) ≤ 1
sort-depth [] = omega arith
sort-depth (s ∷ ss) = by s.key refl (sort-depth ss)
  where
    with_expected : (p : Property) → s.key ≡ by_property p → (e : Expects) → expects_of p.expected ≡ e → clauses_depth (sort_clauses ss) ≤ 1 → clauses_depth (sort_clauses (s ∷ ss)) ≤ 1
    with_expected p key (a_value k) is rest = rw (key, is) (omega arith)
    with_expected p key a_key is rest = rw (key, is) rest
    with_expected p key an_object_of_system is rest = rw (key, is) rest
    with_expected p key a_plain_object is rest = rw (key, is) rest

    by : (key : Key) → s.key ≡ key → clauses_depth (sort_clauses ss) ≤ 1 → clauses_depth (sort_clauses (s ∷ ss)) ≤ 1
    by by_guid key rest = rw key rest
    by by_timestamp key rest = rw key rest
    by (by_property p) key rest = with_expected p key (expects_of p.expected) refl rest

-- what a member adds to the depth of the clause of its answers
abbrev hop : Expects → ℕ → ℕ
hop (a_value k) n = 2
hop a_key n = 2
hop an_object_of_system n = 2 + n
hop a_plain_object n = 2 + n

shaped-depth : (e : Expects) (a : Asking) (c : Members) (nested : Clauses) (n : ℕ) → 1 ≤ n → clauses_depth nested ≤ n → depth (shaped e a c nested) ≤ hop e n
shaped-depth (a_value k) a c nested n one below = let here = unless_literal-depth a.given no_clauses in omega arith
shaped-depth a_key a c nested n one below = let here = unless_literal-depth a.given (far_clause a.property (namespace_tests c) no_clauses) in omega arith
shaped-depth an_object_of_system a c nested n one below = let here = unless_literal-depth a.given nested in omega arith
shaped-depth a_plain_object a c nested n one below = let here = unless_literal-depth a.given nested in omega arith

-- a bound of the depth of a clause's clauses
abbrev height : Members → ℕ
height no_members = 1
height (own name w t j ms) = height ms
height (asks name a c ms) = max (hop (answers_of a.property) (height c)) (height ms)

height-one : (c : Members) → 1 ≤ height c
height-one no_members = omega arith
height-one (own name w t j ms) = height-one ms
height-one (asks name a c ms) = let rest = height-one ms in omega arith

clauses-height : (c : Members) (sort : List SortKey) → clauses_depth (clauses_of sort c) ≤ height c
clauses-height no_members sort = sort-depth sort
clauses-height (own name w t j ms) sort = clauses-height ms sort
clauses-height (asks name a c ms) sort =
    let rest = clauses-height ms sort in
    let shape = ap depth (link_template-shaped a c (clauses_of a.sort c) (answers_of a.property) refl) in
    let here = shaped-depth (answers_of a.property) a c (clauses_of a.sort c) (height c) (height-one c) (clauses-height c a.sort) in
    omega arith

hop-most : (e : Expects) (n : ℕ) → hop e n ≤ 2 + n
hop-most (a_value k) n = omega arith
hop-most a_key n = omega arith
hop-most an_object_of_system n = omega arith
hop-most a_plain_object n = omega arith

-- a member in front
front-height : (p : Property) (c rest : Members) (n : ℕ) → height c ≤ n → max (hop (answers_of p) (height c)) (height rest) ≤ max (2 + n) (height rest)
front-height p c rest n below = let here = hop-most (answers_of p) (height c) in omega arith

-- ---- a clause with its words looked up

-- a member in front of the rest, that is so deep
abbrev Deepens : ℕ → (Members → Members) → Type 0
Deepens n g = (rest : Members) → height (g rest) ≤ max n (height rest)

own-deep : (e : Expects) → height (own_clause e) ≤ 2
own-deep (a_value k) = omega arith
own-deep a_key = omega arith
own-deep an_object_of_system = omega arith
own-deep a_plain_object = omega arith

ask-deep : (name : List ℕ) (p : Property) (listed : Bool) → Deepens 4 (ask_form name p listed)
ask-deep name p listed rest = front-height p (own_clause (expects_of p.expected)) rest 2 (own-deep (expects_of p.expected))

operand-deep : (name : List ℕ) (p : Property) (e : Expects) (literal : Bool) (j : Json) (t : Test) → Deepens 4 (operand_form name p e literal j t)
operand-deep name p (a_value k) literal j t rest = front-height p no_members rest 2 (omega arith)
operand-deep name p a_key literal j t rest = front-height p no_members rest 2 (omega arith)
operand-deep name p an_object_of_system literal j t rest = front-height p no_members rest 2 (omega arith)
operand-deep name p a_plain_object literal j t rest = front-height p (name_test required literal t) rest 2 (omega arith)

clause-form-deep : (name : List ℕ) (p : Property) (d : Directives) (listed : Bool) (c : Clause) (n : ℕ) → height c.0 ≤ n → Deepens (2 + n) (clause_form name p d listed c)
clause-form-deep name p d listed c n below rest = front-height p c.0 rest n below

values-height : (k : Kind) (keys : Bool) (c : Members) → ValueMembers k keys c → height c ≤ 1
values-height k keys no_members are = omega arith
values-height k keys (own name its_link t j ms) are = values-height k keys ms are.1
values-height k keys (own name its_value t j ms) are = values-height k keys ms are.1
values-height k keys (own name its_namespace t j ms) are = values-height k keys ms are.2
values-height k keys (own name its_lang t j ms) are = values-height k keys ms are.1
values-height k keys (own name its_id t j ms) are = absurd are
values-height k keys (own name its_guid t j ms) are = absurd are
values-height k keys (own name its_timestamp t j ms) are = absurd are
values-height k keys (asks name a c ms) are = absurd are

below-deep : (prims : List Primitive) (path : List (List ℕ)) (p : Property) (ms : query.Members) (on_object : Option ℕ → Result Clause Unknown) (c : Clause) (n : ℕ) → 1 ≤ n
    → ((t : Option ℕ) (d : Clause) → on_object t ≡ Ok d → height d.0 ≤ n) → below_property prims path p ms on_object ≡ Ok c → height c.0 ≤ n
below-deep prims path p ms on_object c n one on is = by (expects_of p.expected) is
  where
    by : (e : Expects) → (if holds_values e then value_members prims e path ms else (context_of prims p.expected (type_text ms) >>= on_object)) ≡ Ok c → height c.0 ≤ n
    by (a_value k) is = let low = values-height k false c.0 (value_members-are prims (a_value k) path ms c tt is).0 in omega arith
    by a_key is = let low = values-height of_text true c.0 (value_members-are prims a_key path ms c tt is).0 in omega arith
    by an_object_of_system is = let step = steps (context_of prims p.expected (type_text ms)) on_object c is in on step.value c step.then_gave
    by a_plain_object is = let step = steps (context_of prims p.expected (type_text ms)) on_object c is in on step.value c step.then_gave

below-form-deep : (prims : List Primitive) (path : List (List ℕ)) (n : Name) (p : Property) (d : Directives) (listed : Bool) (ms : query.Members) (on_object : Option ℕ → Result Clause Unknown) (g : Members → Members) (depth : ℕ) → 1 ≤ depth
    → ((t : Option ℕ) (d : Clause) → on_object t ≡ Ok d → height d.0 ≤ depth)
    → (below_property prims path p ms on_object >>= λ c. Ok (clause_form n.spelled p d listed c)) ≡ Ok g → Deepens (2 + depth) g
below-form-deep prims path n p d listed ms on_object g depth one on is =
    let step = steps (below_property prims path p ms on_object) (λ c. Ok (clause_form n.spelled p d listed c)) g is in
    subst (Deepens (2 + depth)) (ok_same (clause_form n.spelled p d listed step.value) g step.then_gave)
    (clause-form-deep n.spelled p d listed step.value depth (below-deep prims path p ms on_object step.value depth one on step.gave))

operand-form-deep : (prims : List Primitive) (path : List (List ℕ)) (n : Name) (operator : query.Operator) (p : Property) (literal : Bool) (j : Json) (g : Members → Members)
    → (checked_test prims (expects_of p.expected) path operator j >>= λ t. Ok (operand_form n.spelled p (expects_of p.expected) literal j t)) ≡ Ok g → Deepens 4 g
operand-form-deep prims path n operator p literal j g is =
    let step = steps (checked_test prims (expects_of p.expected) path operator j) (λ t. Ok (operand_form n.spelled p (expects_of p.expected) literal j t)) g is in
    subst (Deepens 4) (ok_same (operand_form n.spelled p (expects_of p.expected) literal j step.value) g step.then_gave) (operand-deep n.spelled p (expects_of p.expected) literal j step.value)

member-deep : (prims : List Primitive) (context : Option ℕ) (path : List (List ℕ)) (n : Name) (f : Form) (r : Result Clause Unknown) (form : Property → Result (Members → Members) Unknown) (c : Clause) (here below : ℕ)
    → ((d : Clause) → r ≡ Ok d → height d.0 ≤ below)
    → ((p : Property) (g : Members → Members) → form p ≡ Ok g → Deepens here g)
    → option_map_or (λ o. own_member path n o f (own_test prims path o n.operator) r) (own_of n.word)
    (member_property prims context path n >>= λ p. form p >>= λ g. r >>= λ c. Ok (g c.0, c.1)) ≡ Ok c
    → height c.0 ≤ max here below
member-deep prims context path n f r form c here below more deep is = by (own_of n.word) is
  where
    by : (o : Option Own)
        → option_map_or (λ o. own_member path n o f (own_test prims path o n.operator) r) o (member_property prims context path n >>= λ p. form p >>= λ g. r >>= λ c. Ok (g c.0, c.1)) ≡ Ok c
        → height c.0 ≤ max here below
    by (Some o) is =
        let made = computed path n o f (own_test prims path o n.operator) r c (λ t. Unit {0}) tt (λ j t given. tt) is in
        let behind = more made.behind made.gave in
        subst (λ (c : Clause). height c.0 ≤ max here below) made.is (omega arith)
    by None is =
        let one = steps (member_property prims context path n) (λ p. form p >>= λ g. r >>= λ c. Ok (g c.0, c.1)) c is in
        let two = steps (form one.value) (λ g. r >>= λ c. Ok (g c.0, c.1)) c one.then_gave in
        let three = steps r (λ (c : Clause). Ok (two.value c.0, c.1)) c two.then_gave in
        let behind = more three.value three.gave in
        let front = deep one.value two.value two.gave three.value.0 in
        subst (λ (c : Clause). height c.0 ≤ max here below) (ok_same (two.value three.value.0, three.value.1) c three.then_gave) (omega arith)

raise : (m n : ℕ) (g : Members → Members) → m ≤ n → Deepens m g → Deepens n g
raise m n g low deep rest = let here = deep rest in omega arith

mutual
  clause-deep : (prims : List Primitive) (context : Option ℕ) (path : List (List ℕ)) (ms : query.Members) (c : Clause) → asked prims context path ms ≡ Ok c → height c.0 ≤ 2 * forms_below ms + 4
  clause-deep prims context path query.no_members c is = subst (λ (c : Clause). height c.0 ≤ 4) (ok_same (no_members, []) c is) (omega arith)
  clause-deep prims context path (query.sort_by ws ms) c is =
      let one = steps (sort_keys prims context (path ++ sort_name ∷ []) ws) (λ ks. asked prims context path ms >>= λ c. Ok (c.0, ks)) c is in
      let more = steps (asked prims context path ms) (λ c. Ok (c.0, one.value)) c one.then_gave in
      subst (λ (c : Clause). height c.0 ≤ 2 * forms_below ms + 4) (ok_same (more.value.0, one.value) c more.then_gave) (clause-deep prims context path ms more.value more.gave)
  clause-deep prims context path (query.member n f ms) c is =
      let deep = member-deep prims context (path ++ n.spelled ∷ []) n f (asked prims context path ms) (λ p. asked_form prims (path ++ n.spelled ∷ []) n p f) c (2 * forms_in f + 4) (2 * forms_below ms + 4)
      (λ d made. clause-deep prims context path ms d made)
      (λ p g made. form-deep prims (path ++ n.spelled ∷ []) n p f g made)
      is in
      omega arith

  form-deep : (prims : List Primitive) (path : List (List ℕ)) (n : Name) (p : Property) (f : Form) (g : Members → Members) → asked_form prims path n p f ≡ Ok g → Deepens (2 * forms_in f + 4) g
  form-deep prims path n p query.ask g is = subst (Deepens 4) (ok_same (ask_form n.spelled p false) g is) (ask-deep n.spelled p false)
  form-deep prims path n p query.ask_all g is = subst (Deepens 4) (ok_same (ask_form n.spelled p true) g is) (ask-deep n.spelled p true)
  form-deep prims path n p (query.literal j) g is = operand-form-deep prims path n query.no_operator p true j g is
  form-deep prims path n p (query.operand j) g is = operand-form-deep prims path n n.operator p false j g is
  form-deep prims path n p (query.one d ms) g is = raise (2 + (2 * forms_below ms + 4)) (2 * (1 + forms_below ms) + 4) g (omega arith)
      (below-form-deep prims path n p d false ms (λ t. asked prims t path ms) g (2 * forms_below ms + 4) (omega arith) (λ t c made. clause-deep prims t path ms c made) is)
  form-deep prims path n p (query.many d ms) g is = raise (2 + (2 * forms_below ms + 4)) (2 * (1 + forms_below ms) + 4) g (omega arith)
      (below-form-deep prims path n p d true ms (λ t. asked prims t path ms) g (2 * forms_below ms + 4) (omega arith) (λ t c made. clause-deep prims t path ms c made) is)

-- THE LAW: the template of a query lies at most twice as deep as its forms, and five more
pub query-depth : (prims : List Primitive) (written : Query) (q : Asked) → asked_query prims written ≡ Ok q → depth (template_of q) ≤ 2 * forms_below written.members + 5
query-depth prims written q is =
    let one = steps (context_of prims None (type_text written.members)) (λ t. asked prims t [] written.members >>= λ c. Ok (found c)) q is in
    let more = steps (asked prims one.value [] written.members) (λ c. Ok (found c)) q one.then_gave in
    let deep = clause-deep prims one.value [] written.members more.value more.gave in
    let bound = clauses-height more.value.0 more.value.1 in
    subst (λ (q : Asked). depth (template_of q) ≤ 2 * forms_below written.members + 5) (ok_same (found more.value) q more.then_gave) (omega arith)
  where
    found : Clause → Asked
    found c = record { listed = written.listed; single = asks_single written.listed written.directives; count = written.directives.count; limit = Rattle.std.specs.Prelude.unwrap_or written.directives.limit 100; members = c.0; sort = c.1 }
