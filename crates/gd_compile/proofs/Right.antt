-- The names and operands of a query that was spelled: `type` is the word `type`, and an operand stands behind an operator.
use Rattle.std.proofs.Common.{◌≡◌, ◌∙◌, ℕ, List, Bool, true, false, not, ◌||◌, Option, Some, None, Result, Ok, Err, refl, sym, ap, subst, codes, length, drop}
use Rattle.std.specs.Prelude.{if◌then◌else◌, ◌&&◌, bytes_eq}
use Rattle.std.proofs.lemmas.Bool.{false≢true}
use Rattle.std.proofs.lemmas.Slice.Eq.{bytes_eq-Decides}
use Rattle.gd_grammar.specs.Chain.{◌>>=◌}
use Rattle.gd_grammar.proofs.Steps.{steps, ok_same, not_ok, some_given, maybe, some_same, not_some}
use Rattle.gd_tree.specs.Json.{Json, null, boolean, number, text, list, object, Items, no_items, item, Members as JsonMembers, no_members as no_json_members, member as json_member}
use Rattle.gd_tree.specs.Look.{is_null}
use Rattle.gd_defs.specs.Query as query
use Rattle.gd_defs.specs.Query.{Fault, Clause, Form, Name, no_directives, with_directive, with_member, member_name, form_or_operand, form_of, clause_of, clause_or_default, default_members, as_one, as_many, fault, or_fault, bad_word, left_out, bad_directive, bad_operand, name_of, is_left_out, is_directive, mode_of, limit_of, sort_of, is_count, has_operator, is_computed, is_link, is_other_list, operand_fits}
use Rattle.gd_defs.specs.Query.Names.{operator_of, behind_label, behind_mark, is_marked, label_fits, may_be_word, word_front}
use Rattle.gd_defs.proofs.Directives.{each_effect}
use Rattle.gd_form_laws.specs.Spelled.{clause_or, spelled_clause}

-- the name `type` is of the word `type`
abbrev pub IsNamed : query.Name → Type 0
IsNamed n = bytes_eq n.spelled (codes "type") ≡ true → n.word ≡ codes "type"

abbrev mutual
  -- each member is right
  pub AreRight : query.Members → Type 0
  AreRight query.no_members = Unit {0}
  AreRight (query.sort_by ws ms) = AreRight ms
  AreRight (query.member n f ms) = IsNamed n × IsRight n f × AreRight ms

  -- an operand stands behind an operator, and each member of a form is right
  pub IsRight : query.Name → query.Form → Type 0
  IsRight n query.ask = Unit {0}
  IsRight n query.ask_all = Unit {0}
  IsRight n (query.literal j) = Unit {0}
  IsRight n (query.operand j) = has_operator n ≡ true
  IsRight n (query.one d ms) = AreRight ms
  IsRight n (query.many d ms) = AreRight ms

-- what an outcome gives is right
abbrev ClauseRight : Result Clause Fault → Type 0
ClauseRight r = (c : Clause) → r ≡ Ok c → AreRight c.1

abbrev FormRight : Name → Result Form Fault → Type 0
FormRight n r = (f : Form) → r ≡ Ok f → IsRight n f

chosen : {R : Type 0} (P : R → Type 0) (b : Bool) (x y : R) → (b ≡ true → P x) → P y → P (if b then x else y)
chosen P true x y one other = one refl
chosen P false x y one other = other

same_right : {A : Type 0} (a : Result A Fault) (rest : Result Clause Fault) (g : A → Clause → Clause) → ((x : A) (d : Clause) → AreRight d.1 → AreRight (g x d).1) → ClauseRight rest
    → ClauseRight (a >>= λ x. rest >>= λ d. Ok (g x d))
same_right a rest g same right c is =
    let x = steps a (λ x. rest >>= λ d. Ok (g x d)) c is in
    let d = steps rest (λ d. Ok (g x.value d)) c x.then_gave in
    subst (λ (c : Clause). AreRight c.1) (ok_same (g x.value d.value) c d.then_gave) (same x.value d.value (right d.value d.gave))

directive_right : (root : Bool) (k : List ℕ) (j : Json) (rest : Result Clause Fault) → ClauseRight rest → ClauseRight (with_directive root k j rest)
directive_right root k j rest right =
    each_effect (λ (f : Result Clause Fault → Result Clause Fault). ClauseRight (f rest)) root k j
    (same_right (or_fault bad_directive k (if root then None else mode_of j)) rest (λ x d. (record d.0 { mode = Some x }, d.1)) (λ x d r. r) right)
    (same_right (or_fault bad_directive k (limit_of j)) rest (λ x d. (record d.0 { limit = Some x }, d.1)) (λ x d r. r) right)
    (same_right (or_fault bad_directive k (sort_of j)) rest (λ ws d. (d.0, query.sort_by ws d.1)) (λ x d r. r) right)
    (chosen ClauseRight (root && is_count j) _ _ (λ yes. counted) (λ c is. not_ok _ c is))
  where
    counted : ClauseRight (rest >>= λ d. Ok (record d.0 { count = true }, d.1))
    counted c is =
        let d = steps rest (λ d. Ok (record d.0 { count = true }, d.1)) c is in
        subst (λ (c : Clause). AreRight c.1) (ok_same (record d.value.0 { count = true }, d.value.1) c d.then_gave) (right d.value d.gave)

-- ---- names

-- the name that the text `type` spells
abbrev type_name : Name
type_name = record { spelled = codes "type"; reversed = false; word = codes "type"; operator = query.no_operator }

type_is : name_of (codes "type") ≡ Some type_name
type_is = refl

-- the name of a text with an operator
abbrev whole : List ℕ → query.Operator → Name
whole k o = record { spelled = k; reversed = is_marked (behind_label k); word = word_front (behind_mark (behind_label k)); operator = o }

-- a name is spelled as its text
name_spelled : (k : List ℕ) (n : Name) → name_of k ≡ Some n → n.spelled ≡ k
name_spelled k n is =
    let found = maybe (operator_of (drop (length (word_front (behind_mark (behind_label k)))) (behind_mark (behind_label k)))) (made k) n is in
    by (label_fits k && may_be_word (is_marked (behind_label k)) (word_front (behind_mark (behind_label k)))) found.value found.then_gave
  where
    made : (k : List ℕ) → query.Operator → Option Name
    made k o = if label_fits k && may_be_word (is_marked (behind_label k)) (word_front (behind_mark (behind_label k))) then Some (whole k o) else None

    by : (b : Bool) (o : query.Operator) → (if b then Some (whole k o) else None) ≡ Some n → n.spelled ≡ k
    by true o same = sym (ap (λ (n : Name). n.spelled) (some_same (whole k o) n same))
    by false o same = not_some n same

name_right : (k : List ℕ) (n : Name) → name_of k ≡ Some n → IsNamed n
name_right k n is typed =
    let at : n.spelled ≡ codes "type" = (bytes_eq-Decides n.spelled (codes "type")).0 typed in
    let there : name_of (codes "type") ≡ Some n = subst (λ t. name_of t ≡ Some n) (sym (name_spelled k n is) ∙ at) is in
    let same : type_name ≡ n = some_same type_name n (sym type_is ∙ there) in
    subst (λ (n : Name). n.word ≡ codes "type") same refl

member_right : (root : Bool) (k : List ℕ) (n : Name) → member_name root k ≡ Ok n → IsNamed n
member_right root k n is =
    let found = steps (or_fault bad_word k (name_of k)) (λ n. if is_left_out n.word then fault left_out k else if (n.reversed && is_computed n.word) || (root && is_link n.word) then fault bad_word k else Ok n) n is in
    let same = by found.value (is_left_out found.value.word) ((found.value.reversed && is_computed found.value.word) || (root && is_link found.value.word)) found.then_gave in
    subst IsNamed same (name_right k found.value (some_given (name_of k) _ found.value found.gave))
  where
    by : (m : Name) (a b : Bool) → (if a then fault left_out k else if b then fault bad_word k else Ok m) ≡ Ok n → m ≡ n
    by m true b same = not_ok _ n same
    by m false true same = not_ok _ n same
    by m false false same = ok_same m n same

-- ---- forms

operand_right : (n : Name) (j : Json) (form : Result Form Fault) → FormRight n form → FormRight n (form_or_operand n j form)
operand_right n j form right =
    chosen (FormRight n) (has_operator n) _ _ (λ has. operator has (operand_fits n j))
    (chosen (FormRight n) (not (is_computed n.word || is_link n.word) || is_null j || is_other_list j) _ _ (λ yes. right) (literal (operand_fits n j)))
  where
    operator : has_operator n ≡ true → (b : Bool) → FormRight n (if b then Ok (query.operand j) else fault bad_operand n.spelled)
    operator has true f is = subst (IsRight n) (ok_same (query.operand j) f is) has
    operator has false f is = not_ok _ f is

    literal : (b : Bool) → FormRight n (if b then Ok (query.literal j) else fault bad_operand n.spelled)
    literal true f is = subst (IsRight n) (ok_same (query.literal j) f is) tt
    literal false f is = not_ok _ f is

one_right : (n : Name) (r : Result Clause Fault) → ClauseRight r → FormRight n (as_one n.spelled r)
one_right n (Ok c) right f is = subst (IsRight n) (ok_same (query.one c.0 c.1) f is) (right c refl)
one_right n (Err e) right f is = not_ok _ f is

many_right : (n : Name) (r : Result Clause Fault) → ClauseRight r → FormRight n (as_many n.spelled r)
many_right n (Ok c) right f is = subst (IsRight n) (ok_same (query.many c.0 c.1) f is) (right c refl)
many_right n (Err e) right f is = not_ok _ f is

-- the default members
default_right : (ms : JsonMembers) (r : Result Clause Fault) → ClauseRight r → ClauseRight (clause_or_default ms r)
default_right no_json_members r right c is = subst (λ (c : Clause). AreRight c.1) (ok_same (record no_directives { mode = Some query.optional }, default_members) c is) (plain, tt, (plain, tt, ((λ same. refl), tt, tt)))
  where
    plain : {P : Type 0} → false ≡ true → P
    plain is = absurd (false≢true is)
default_right (json_member k j ms) r right c is = right c is

flat : (n : Name) (x : Form) → IsRight n x → FormRight n (Ok x)
flat n x right f is = subst (IsRight n) (ok_same x f is) right

none_right : (n : Name) (e : Fault) → FormRight n (Err e)
none_right n e f is = not_ok e f is

-- ---- clauses

empty_right : ClauseRight (Ok (no_directives, query.no_members))
empty_right c is = subst (λ (c : Clause). AreRight c.1) (ok_same (no_directives, query.no_members) c is) tt

named_right : (name : Result Name Fault) (form : Name → Result Form Fault) (rest : Result Clause Fault) → ((n : Name) → name ≡ Ok n → IsNamed n) → ((n : Name) → FormRight n (form n)) → ClauseRight rest
    → ClauseRight (name >>= λ k. form k >>= λ f. rest >>= λ d. Ok (with_member k f d))
named_right name form rest names forms right c is =
    let k = steps name (λ k. form k >>= λ f. rest >>= λ d. Ok (with_member k f d)) c is in
    let f = steps (form k.value) (λ f. rest >>= λ d. Ok (with_member k.value f d)) c k.then_gave in
    let d = steps rest (λ d. Ok (with_member k.value f.value d)) c f.then_gave in
    subst (λ (c : Clause). AreRight c.1) (ok_same (with_member k.value f.value d.value) c d.then_gave) (names k.value k.gave, forms k.value f.value f.gave, right d.value d.gave)

mutual
  clause_right : (root : Bool) (ms : JsonMembers) → ClauseRight (clause_of root ms)
  clause_right root no_json_members = empty_right
  clause_right root (json_member k j ms) =
      chosen ClauseRight (is_directive k) _ _ (λ yes. directive_right root k j (clause_of root ms) (clause_right root ms))
      (named_right (member_name root k) (λ n. form_or_operand n j (form_of n j)) (clause_of root ms) (member_right root k) (λ n. operand_right n j (form_of n j) (form_right n j)) (clause_right root ms))

  form_right : (n : Name) (j : Json) → FormRight n (form_of n j)
  form_right n null = flat n query.ask tt
  form_right n (boolean b) = flat n (query.literal (boolean b)) tt
  form_right n (number m) = flat n (query.literal (number m)) tt
  form_right n (text t) = flat n (query.literal (text t)) tt
  form_right n (object ms) = one_right n (clause_or_default ms (clause_of false ms)) (default_right ms (clause_of false ms) (clause_right false ms))
  form_right n (list js) = list_right n js

  list_right : (n : Name) (js : Items) → FormRight n (form_of n (list js))
  list_right n no_items = flat n query.ask_all tt
  list_right n (item null js) = none_right n _
  list_right n (item (boolean b) js) = none_right n _
  list_right n (item (number m) js) = none_right n _
  list_right n (item (text t) js) = none_right n _
  list_right n (item (list is) js) = none_right n _
  list_right n (item (object ms) no_items) = many_right n (clause_or_default ms (clause_of false ms)) (default_right ms (clause_of false ms) (clause_right false ms))
  list_right n (item (object ms) (item j js)) = none_right n _

or_right : (r : Result Clause Fault) → ClauseRight r → AreRight (clause_or r).1
or_right (Ok c) right = right c refl
or_right (Err e) right = tt

-- LAW: the members of a clause that was spelled are right
pub spelled_right : (root : Bool) (ms : JsonMembers) → AreRight (spelled_clause root ms).1
unfolding spelled_clause
spelled_right root ms = or_right (clause_or_default ms (clause_of root ms)) (default_right ms (clause_of root ms) (clause_right root ms))
