-- The forms of a query lie no deeper one within the other than the values that spell them.
use Rattle.std.proofs.Common.{◌≡◌, ◌≤◌, ℕ, ◌+◌, List, Bool, true, false, not, ◌&&◌, ◌||◌, Some, None, Result, Ok, refl, ap, subst, arith}
use Rattle.std.specs.Prelude.{if◌then◌else◌, max}
use Rattle.gd_prim.specs.declared.Primitive.{Primitive}
use Rattle.gd_grammar.specs.Chain.{◌>>=◌}
use Rattle.gd_tree.specs.Json.{Json, null, boolean, number, text, list, object, no_items, item, Members as JsonMembers, no_members as no_json_members, member as json_member}
use Rattle.gd_tree.specs.Look.{is_null}
use Rattle.gd_defs.specs.Query as query
use Rattle.gd_defs.specs.Query.{Fault, Name, Form, Members, Clause, Query, no_directives, optional, bad_directive, bad_operand, or_fault, fault, within, has_operator, is_computed, is_link, operand_fits, is_directive, mode_of, limit_of, sort_of, is_count, default_members, clause_or_default, with_member, member_name, with_directive, as_one, as_many, is_other_list, form_or_operand, clause_of, form_of, root_query, query_of}
use Rattle.gd_defs.proofs.Directives.{each_effect}
use Rattle.gd_defs.specs.Asked.{Asked, asked_query}
use Rattle.gd_defs.specs.Plan.{template_of}
use Rattle.gd_defs.specs.Template.{depth}
use Rattle.gd_tree.specs.Bounds.{json_depth, members_depth}
use Rattle.gd_template_laws.specs.Depth.{forms_below, forms_in}
use Rattle.gd_grammar.proofs.Steps.{steps, ok_same}
use Rattle.gd_template_laws.proofs.Operands.{within-ok}
use Rattle.gd_template_laws.proofs.Depths.{query-depth}

behind-name : (n : Name) (j : Json) (r : Result Form Fault) (f : Form) (depth : ℕ) → (r ≡ Ok f → forms_in f ≤ depth) → form_or_operand n j r ≡ Ok f → forms_in f ≤ depth
behind-name n j r f depth form is = by (has_operator n) (operand_fits n j) (not (is_computed n.word || is_link n.word) || is_null j || is_other_list j) is
  where
    none : (g : Form) → forms_in g ≡ 0 → ◌≡◌ {A = Result Form Fault} (Ok g) (Ok f) → forms_in f ≤ depth
    none g zero_deep same = let here = ap forms_in (ok_same g f same) in omega arith

    by : (b1 b2 b3 : Bool)
        → (if b1 then (if b2 then Ok (query.operand j) else fault bad_operand n.spelled) else if b3 then r else if b2 then Ok (query.literal j) else fault bad_operand n.spelled) ≡ Ok f → forms_in f ≤ depth
    by true true b3 is = none (query.operand j) refl is
    by true false b3 is = absurd (cc)
    by false b2 true is = form is
    by false true false is = none (query.literal j) refl is
    by false false false is = absurd (cc)

behind-directive : (root : Bool) (k : List ℕ) (j : Json) (rest : Result Clause Fault) (c : Clause) (depth : ℕ) → ((d : Clause) → rest ≡ Ok d → forms_below d.1 ≤ depth) → with_directive root k j rest ≡ Ok c → forms_below c.1 ≤ depth
behind-directive root k j rest c depth more is =
    each_effect (λ (f : Result Clause Fault → Result Clause Fault). f rest ≡ Ok c → forms_below c.1 ≤ depth) root k j
    (with_value (or_fault bad_directive k (if root then None else mode_of j)) (λ m c. (record c.0 { mode = Some m }, c.1)) (λ x d. refl))
    (with_value (or_fault bad_directive k (limit_of j)) (λ n c. (record c.0 { limit = Some n }, c.1)) (λ x d. refl))
    (with_value (or_fault bad_directive k (sort_of j)) (λ ws c. (c.0, query.sort_by ws c.1)) (λ x d. refl))
    (counted (root && is_count j)) is
  where
    changed : (change : Clause → Clause) → ((d : Clause) → forms_below (change d).1 ≡ forms_below d.1) → (rest >>= λ c. Ok (change c)) ≡ Ok c → forms_below c.1 ≤ depth
    changed change keeps is =
        let step = steps rest (λ c. Ok (change c)) c is in
        let before = more step.value step.gave in
        let kept = keeps step.value in
        subst (λ (c : Clause). forms_below c.1 ≤ depth) (ok_same (change step.value) c step.then_gave) (omega arith)

    with_value : {V : Type 0} (v : Result V Fault) (change : V → Clause → Clause) → ((x : V) (d : Clause) → forms_below (change x d).1 ≡ forms_below d.1) → (v >>= λ x. rest >>= λ c. Ok (change x c)) ≡ Ok c → forms_below c.1 ≤ depth
    with_value v change keeps is =
        let step = steps v (λ x. rest >>= λ c. Ok (change x c)) c is in
        changed (change step.value) (keeps step.value) step.then_gave

    counted : (b : Bool) → (if b then (rest >>= λ (c : Clause). Ok (record c.0 { count = true }, c.1)) else fault bad_directive k) ≡ Ok c → forms_below c.1 ≤ depth
    counted true is = changed (λ c. (record c.0 { count = true }, c.1)) (λ d. refl) is
    counted false is = absurd (cc)

or-default : (ms : JsonMembers) (r : Result Clause Fault) (c : Clause) (depth : ℕ) → ((d : Clause) → r ≡ Ok d → forms_below d.1 ≤ depth) → clause_or_default ms r ≡ Ok c → forms_below c.1 ≤ depth
or-default no_json_members r c depth more is = subst (λ (c : Clause). forms_below c.1 ≤ depth) (ok_same (record no_directives { mode = Some optional }, default_members) c is) (omega arith)
or-default (json_member k j ms) r c depth more is = more c is

one-deep : (n : Name) (r : Result Clause Fault) (f : Form) (depth : ℕ) → ((d : Clause) → r ≡ Ok d → forms_below d.1 ≤ depth) → as_one n.spelled r ≡ Ok f → forms_in f ≤ 1 + depth
one-deep n r f depth more is =
    let step = steps (within n.spelled r) (λ (d : Clause). Ok (query.one d.0 d.1)) f is in
    let below = more step.value (within-ok n.spelled r step.value step.gave) in
    subst (λ f. forms_in f ≤ 1 + depth) (ok_same (query.one step.value.0 step.value.1) f step.then_gave) (omega arith)

many-deep : (n : Name) (r : Result Clause Fault) (f : Form) (depth : ℕ) → ((d : Clause) → r ≡ Ok d → forms_below d.1 ≤ depth) → as_many n.spelled r ≡ Ok f → forms_in f ≤ 1 + depth
many-deep n r f depth more is =
    let step = steps (within n.spelled r) (λ (d : Clause). Ok (query.many d.0 d.1)) f is in
    let below = more step.value (within-ok n.spelled r step.value step.gave) in
    subst (λ f. forms_in f ≤ 1 + depth) (ok_same (query.many step.value.0 step.value.1) f step.then_gave) (omega arith)

member-deep : (root : Bool) (k : List ℕ) (j : Json) (form : Name → Result Form Fault) (rest : Result Clause Fault) (c : Clause) (here below : ℕ)
    → ((n : Name) (f : Form) → form n ≡ Ok f → forms_in f ≤ here) → ((d : Clause) → rest ≡ Ok d → forms_below d.1 ≤ below)
    → (if is_directive k then with_directive root k j rest else (member_name root k >>= λ n. form_or_operand n j (form n) >>= λ f. rest >>= λ c. Ok (with_member n f c))) ≡ Ok c
    → forms_below c.1 ≤ max here below
member-deep root k j form rest c here below deep more is = by (is_directive k) is
  where
    by : (b : Bool) → (if b then with_directive root k j rest else (member_name root k >>= λ n. form_or_operand n j (form n) >>= λ f. rest >>= λ c. Ok (with_member n f c))) ≡ Ok c → forms_below c.1 ≤ max here below
    by true is = let low = behind-directive root k j rest c below more is in omega arith
    by false is =
        let one = steps (member_name root k) (λ n. form_or_operand n j (form n) >>= λ f. rest >>= λ c. Ok (with_member n f c)) c is in
        let two = steps (form_or_operand one.value j (form one.value)) (λ f. rest >>= λ c. Ok (with_member one.value f c)) c one.then_gave in
        let three = steps rest (λ c. Ok (with_member one.value two.value c)) c two.then_gave in
        let front = behind-name one.value j (form one.value) two.value here (deep one.value two.value) two.gave in
        let behind = more three.value three.gave in
        subst (λ (c : Clause). forms_below c.1 ≤ max here below) (ok_same (with_member one.value two.value three.value) c three.then_gave) (omega arith)

flat : (j : Json) (f g : Form) → forms_in g ≡ 0 → ◌≡◌ {A = Result Form Fault} (Ok g) (Ok f) → forms_in f ≤ json_depth j
flat j f g zero_deep is = let here = ap forms_in (ok_same g f is) in omega arith

mutual
  clause-deep : (root : Bool) (ms : JsonMembers) (c : Clause) → clause_of root ms ≡ Ok c → forms_below c.1 ≤ members_depth ms
  clause-deep root no_json_members c is = subst (λ (c : Clause). forms_below c.1 ≤ 0) (ok_same (no_directives, query.no_members) c is) (omega arith)
  clause-deep root (json_member k j ms) c is =
      member-deep root k j (λ n. form_of n j) (clause_of root ms) c (json_depth j) (members_depth ms) (λ n f made. form-deep n j f made) (λ d made. clause-deep root ms d made) is

  form-deep : (n : Name) (j : Json) (f : Form) → form_of n j ≡ Ok f → forms_in f ≤ json_depth j
  form-deep n null f is = flat null f query.ask refl is
  form-deep n (boolean b) f is = flat (boolean b) f (query.literal (boolean b)) refl is
  form-deep n (number m) f is = flat (number m) f (query.literal (number m)) refl is
  form-deep n (text t) f is = flat (text t) f (query.literal (text t)) refl is
  form-deep n (object ms) f is = one-deep n (clause_or_default ms (clause_of false ms)) f (members_depth ms) (λ d made. or-default ms (clause_of false ms) d (members_depth ms) (λ c made. clause-deep false ms c made) made) is
  form-deep n (list no_items) f is = flat (list no_items) f query.ask_all refl is
  form-deep n (list (item (object ms) no_items)) f is =
      let deep = many-deep n (clause_or_default ms (clause_of false ms)) f (members_depth ms) (λ d made. or-default ms (clause_of false ms) d (members_depth ms) (λ c made. clause-deep false ms c made) made) is in
      omega arith
  form-deep n (list js) f is = absurd (cc)

root-deep : (listed : Bool) (ms : JsonMembers) (q : Query) → root_query listed (clause_or_default ms (clause_of true ms)) ≡ Ok q → forms_below q.members ≤ members_depth ms
root-deep listed ms q is =
    let step = steps (clause_or_default ms (clause_of true ms)) (λ d. Ok (as_query d)) q is in
    subst (λ (q : Query). forms_below q.members ≤ members_depth ms) (ok_same (as_query step.value) q step.then_gave) (or-default ms (clause_of true ms) step.value (members_depth ms) (λ c made. clause-deep true ms c made) step.gave)
  where
    as_query : Clause → Query
    as_query d = record { listed = listed; directives = d.0; members = d.1 }

-- the forms of a query, the root's among them, lie no deeper than the values that spell it
pub query-forms : (j : Json) (q : Query) → query_of j ≡ Ok q → forms_below q.members + 1 ≤ json_depth j
query-forms (object ms) q is = let low = root-deep false ms q is in omega arith
query-forms (list (item (object ms) no_items)) q is = let low = root-deep true ms q is in omega arith
query-forms (list no_items) q is = absurd (cc)
query-forms (list (item j js)) q is = absurd (cc)
query-forms null q is = absurd (cc)
query-forms (boolean b) q is = absurd (cc)
query-forms (number n) q is = absurd (cc)
query-forms (text t) q is = absurd (cc)

-- a query of which at most 14 values lie one within the other makes at most 31 nested templates
pub query-templates : (prims : List Primitive) (j : Json) (written : Query) (q : Asked) → query_of j ≡ Ok written → asked_query prims written ≡ Ok q → json_depth j ≤ 14 → depth (template_of q) ≤ 31
query-templates prims j written q spelled asked shallow =
    let forms = query-forms j written spelled in
    let deep = query-depth prims written q asked in
    omega arith
