-- Forms nest no deeper than the JSON that spells them.
use Rattle.std.proofs.Common.{◌≡◌, ◌≤◌, ℕ, ◌+◌, List, Bool, true, false, not, ◌||◌, Some, None, Result, Ok, Err, refl, sym, subst, arith}
use Rattle.std.specs.Prelude.{if◌then◌else◌, max, ◌&&◌}
use Rattle.gd_grammar.specs.Chain.{◌>>=◌}
use Rattle.gd_grammar.proofs.Steps.{steps, ok_same, not_ok}
use Rattle.gd_tree.specs.Json.{Json, null, boolean, number, text, list, object, Items, no_items, item, Members as JsonMembers, no_members as no_json_members, member as json_member}
use Rattle.gd_tree.specs.Look.{is_null}
use Rattle.gd_tree.specs.Bounds.{json_depth, items_depth, members_depth}
use Rattle.gd_defs.specs.Query as query
use Rattle.gd_defs.specs.Query.{Fault, Clause, Form, Name, Members, no_directives, with_directive, with_member, member_name, form_or_operand, form_of, clause_of, clause_or_default, default_members, as_one, as_many, within, fault, or_fault, bad_directive, bad_operand, list_form, is_directive, mode_of, limit_of, sort_of, is_count, has_operator, is_computed, is_link, is_other_list, operand_fits, query_of, root_query}
use Rattle.gd_defs.proofs.Directives.{each_effect}
use Rattle.gd_form_laws.specs.Spelled.{form_depth, forms_depth, clause_or, query_or, spelled_clause, spelled_query}

-- what an outcome gives is at most so deep
abbrev ClauseWithin : ℕ → Result Clause Fault → Type 0
ClauseWithin m r = (c : Clause) → r ≡ Ok c → forms_depth c.1 ≤ m

abbrev FormWithin : ℕ → Result Form Fault → Type 0
FormWithin m r = (f : Form) → r ≡ Ok f → form_depth f ≤ m

-- a step in front of a clause that adds no depth
same_depth : {A : Type 0} (m : ℕ) (a : Result A Fault) (rest : Result Clause Fault) (g : A → Clause → Clause) → ((x : A) (d : Clause) → forms_depth (g x d).1 ≡ forms_depth d.1) → ClauseWithin m rest
    → ClauseWithin m (a >>= λ x. rest >>= λ d. Ok (g x d))
same_depth m a rest g same within c is =
    let x = steps a (λ x. rest >>= λ d. Ok (g x d)) c is in
    let d = steps rest (λ d. Ok (g x.value d)) c x.then_gave in
    subst (λ (c : Clause). forms_depth c.1 ≤ m) (ok_same (g x.value d.value) c d.then_gave) (subst (λ (n : ℕ). n ≤ m) (sym (same x.value d.value)) (within d.value d.gave))

chosen : {R : Type 0} (P : R → Type 0) (b : Bool) (x y : R) → P x → P y → P (if b then x else y)
chosen P true x y one other = one
chosen P false x y one other = other

directive-within : (m : ℕ) (root : Bool) (k : List ℕ) (j : Json) (rest : Result Clause Fault) → ClauseWithin m rest → ClauseWithin m (with_directive root k j rest)
directive-within m root k j rest within =
    each_effect (λ (f : Result Clause Fault → Result Clause Fault). ClauseWithin m (f rest)) root k j
    (same_depth m (or_fault bad_directive k (if root then None else mode_of j)) rest (λ x d. (record d.0 { mode = Some x }, d.1)) (λ x d. refl) within)
    (same_depth m (or_fault bad_directive k (limit_of j)) rest (λ x d. (record d.0 { limit = Some x }, d.1)) (λ x d. refl) within)
    (same_depth m (or_fault bad_directive k (sort_of j)) rest (λ ws d. (d.0, query.sort_by ws d.1)) (λ x d. refl) within)
    (chosen (ClauseWithin m) (root && is_count j) _ _ counted (λ c is. not_ok _ c is))
  where
    counted : ClauseWithin m (rest >>= λ d. Ok (record d.0 { count = true }, d.1))
    counted c is =
        let d = steps rest (λ d. Ok (record d.0 { count = true }, d.1)) c is in
        subst (λ (c : Clause). forms_depth c.1 ≤ m) (ok_same (record d.value.0 { count = true }, d.value.1) c d.then_gave) (within d.value d.gave)

named-within : (m n : ℕ) (name : Result Name Fault) (form : Name → Result Form Fault) (rest : Result Clause Fault) → ((k : Name) → FormWithin m (form k)) → ClauseWithin n rest
    → ClauseWithin (max m n) (name >>= λ k. form k >>= λ f. rest >>= λ d. Ok (with_member k f d))
named-within m n name form rest forms within c is =
    let k = steps name (λ k. form k >>= λ f. rest >>= λ d. Ok (with_member k f d)) c is in
    let f = steps (form k.value) (λ f. rest >>= λ d. Ok (with_member k.value f d)) c k.then_gave in
    let d = steps rest (λ d. Ok (with_member k.value f.value d)) c f.then_gave in
    let one : form_depth f.value ≤ m = forms k.value f.value f.gave in
    let two : forms_depth d.value.1 ≤ n = within d.value d.gave in
    let whole : max (form_depth f.value) (forms_depth d.value.1) ≤ max m n = omega arith in
    subst (λ (c : Clause). forms_depth c.1 ≤ max m n) (ok_same (with_member k.value f.value d.value) c d.then_gave) whole

weaker : (m n : ℕ) (r : Result Clause Fault) → m ≤ n → ClauseWithin m r → ClauseWithin n r
weaker m n r le within c is = let h : forms_depth c.1 ≤ m = within c is in omega arith

operand-within : (n : Name) (j : Json) (m : ℕ) (form : Result Form Fault) → FormWithin m form → FormWithin m (form_or_operand n j form)
operand-within n j m form within =
    chosen (FormWithin m) (has_operator n) _ _ (fits (operand_fits n j) (query.operand j) _ (omega arith))
    (chosen (FormWithin m) (not (is_computed n.word || is_link n.word) || is_null j || is_other_list j) _ _ within (fits (operand_fits n j) (query.literal j) _ (omega arith)))
  where
    fits : (b : Bool) (x : Form) (e : Fault) → form_depth x ≤ m → FormWithin m (if b then Ok x else Err e)
    fits true x e le f is = subst (λ (f : Form). form_depth f ≤ m) (ok_same x f is) le
    fits false x e le f is = not_ok e f is

one-within : (k : List ℕ) (m : ℕ) (r : Result Clause Fault) → ClauseWithin m r → FormWithin (1 + m) (as_one k r)
one-within k m (Ok c) within f is = let h : forms_depth c.1 ≤ m = within c refl in subst (λ (f : Form). form_depth f ≤ 1 + m) (ok_same (query.one c.0 c.1) f is) (omega arith)
one-within k m (Err e) within f is = not_ok _ f is

many-within : (k : List ℕ) (m : ℕ) (r : Result Clause Fault) → ClauseWithin m r → FormWithin (1 + m) (as_many k r)
many-within k m (Ok c) within f is = let h : forms_depth c.1 ≤ m = within c refl in subst (λ (f : Form). form_depth f ≤ 1 + m) (ok_same (query.many c.0 c.1) f is) (omega arith)
many-within k m (Err e) within f is = not_ok _ f is

default-within : (m : ℕ) (ms : JsonMembers) (r : Result Clause Fault) → ClauseWithin m r → ClauseWithin m (clause_or_default ms r)
default-within m no_json_members r within c is = subst (λ (c : Clause). forms_depth c.1 ≤ m) (ok_same (record no_directives { mode = Some query.optional }, default_members) c is) (omega arith)
default-within m (json_member k j ms) r within c is = within c is

deeper : (m n : ℕ) (r : Result Form Fault) → m ≤ n → FormWithin m r → FormWithin n r
deeper m n r le within f is = let h : form_depth f ≤ m = within f is in omega arith

flat : (m : ℕ) (x : Form) → form_depth x ≤ m → FormWithin m (Ok x)
flat m x le f is = subst (λ (f : Form). form_depth f ≤ m) (ok_same x f is) le

empty-within : ClauseWithin 0 (Ok (no_directives, query.no_members))
empty-within c is = subst (λ (c : Clause). forms_depth c.1 ≤ 0) (ok_same (no_directives, query.no_members) c is) (omega arith)

none-within : (m : ℕ) (e : Fault) → FormWithin m (Err e)
none-within m e f is = not_ok e f is

mutual
  clause-within : (root : Bool) (ms : JsonMembers) → ClauseWithin (members_depth ms) (clause_of root ms)
  clause-within root no_json_members = empty-within
  clause-within root (json_member k j ms) =
      chosen (ClauseWithin (max (json_depth j) (members_depth ms))) (is_directive k) _ _
      (weaker (members_depth ms) (max (json_depth j) (members_depth ms)) (with_directive root k j (clause_of root ms)) (omega arith) (directive-within (members_depth ms) root k j (clause_of root ms) (clause-within root ms)))
      (named-within (json_depth j) (members_depth ms) (member_name root k) (λ n. form_or_operand n j (form_of n j)) (clause_of root ms) (λ n. operand-within n j (json_depth j) (form_of n j) (form-within n j)) (clause-within root ms))

  form-within : (n : Name) (j : Json) → FormWithin (json_depth j) (form_of n j)
  form-within n null = flat 1 query.ask (omega arith)
  form-within n (boolean b) = flat 1 (query.literal (boolean b)) (omega arith)
  form-within n (number m) = flat 1 (query.literal (number m)) (omega arith)
  form-within n (text t) = flat 1 (query.literal (text t)) (omega arith)
  form-within n (object ms) = one-within n.spelled (members_depth ms) (clause_or_default ms (clause_of false ms)) (default-within (members_depth ms) ms (clause_of false ms) (clause-within false ms))
  form-within n (list js) = list-within n js

  list-within : (n : Name) (js : Items) → FormWithin (1 + items_depth js) (form_of n (list js))
  list-within n no_items = flat 1 query.ask_all (omega arith)
  list-within n (item null js) = none-within _ _
  list-within n (item (boolean b) js) = none-within _ _
  list-within n (item (number m) js) = none-within _ _
  list-within n (item (text t) js) = none-within _ _
  list-within n (item (list is) js) = none-within _ _
  list-within n (item (object ms) no_items) =
      deeper (1 + members_depth ms) (1 + max (1 + members_depth ms) 0) (as_many n.spelled (clause_or_default ms (clause_of false ms))) (omega arith)
      (many-within n.spelled (members_depth ms) (clause_or_default ms (clause_of false ms)) (default-within (members_depth ms) ms (clause_of false ms) (clause-within false ms)))
  list-within n (item (object ms) (item j js)) = none-within _ _

-- forms nest no deeper than the JSON of a clause
or_within : (m : ℕ) (r : Result Clause Fault) → ClauseWithin m r → forms_depth (clause_or r).1 ≤ m
or_within m (Ok c) within = within c refl
or_within m (Err e) within = omega arith

pub spelled-depth : (root : Bool) (ms : JsonMembers) → forms_depth (spelled_clause root ms).1 ≤ members_depth ms
unfolding spelled_clause
spelled-depth root ms = or_within (members_depth ms) (clause_or_default ms (clause_of root ms)) (default-within (members_depth ms) ms (clause_of root ms) (clause-within root ms))

query_within : (listed : Bool) (m : ℕ) (r : Result Clause Fault) → ClauseWithin m r → forms_depth (query_or (root_query listed r)).members ≤ m
query_within listed m (Ok c) within = within c refl
query_within listed m (Err e) within = omega arith

-- nor, with the root itself, those of a query
pub query-depth : (j : Json) → 1 + forms_depth (spelled_query j).members ≤ json_depth j
unfolding spelled_query
query-depth null = omega arith
query-depth (boolean b) = omega arith
query-depth (number n) = omega arith
query-depth (text t) = omega arith
query-depth (object ms) =
    let h : forms_depth (query_or (root_query false (clause_or_default ms (clause_of true ms)))).members ≤ members_depth ms = query_within false (members_depth ms) (clause_or_default ms (clause_of true ms)) (default-within (members_depth ms) ms (clause_of true ms) (clause-within true ms)) in
    omega arith
query-depth (list no_items) = omega arith
query-depth (list (item null js)) = omega arith
query-depth (list (item (boolean b) js)) = omega arith
query-depth (list (item (number n) js)) = omega arith
query-depth (list (item (text t) js)) = omega arith
query-depth (list (item (list is) js)) = omega arith
query-depth (list (item (object ms) no_items)) =
    let h : forms_depth (query_or (root_query true (clause_or_default ms (clause_of true ms)))).members ≤ members_depth ms = query_within true (members_depth ms) (clause_or_default ms (clause_of true ms)) (default-within (members_depth ms) ms (clause_of true ms) (clause-within true ms)) in
    omega arith
query-depth (list (item (object ms) (item j js))) = omega arith
