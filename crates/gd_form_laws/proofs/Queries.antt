-- The first fault of a query, member by member.
use Rattle.std.proofs.Common.{◌≡◌, ℕ, List, [], ◌∷◌, Bool, true, false, not, ◌||◌, Some, None, Result, Ok, Err, refl, ap, ◌∙◌}
use Rattle.std.specs.Prelude.{if◌then◌else◌, option_map, is_some, ◌&&◌}
use Rattle.std.specs.Option.{option_or}
use Rattle.std.specs.Result.{result_err}
use Rattle.gd_grammar.specs.Chain.{◌>>=◌}
use Rattle.gd_tree.specs.Json.{Json, null, boolean, number, text, list, object, Items, no_items, item, Members, no_members, member}
use Rattle.gd_tree.specs.Look.{is_null, members_in, items_in}
use Rattle.gd_defs.specs.Query as query
use Rattle.gd_defs.specs.Query.{Fault, Clause, Form, Name, no_directives, with_directive, with_member, member_name, name_of, form_or_operand, form_of, clause_of, clause_or_default, as_one, as_many, within, fault, or_fault, bad_directive, bad_word, left_out, bad_operand, list_form, is_directive, mode_of, limit_of, sort_of, is_count, query_of, root_query, has_operator, is_computed, is_link, is_left_out, is_other_list, operand_fits}
use Rattle.gd_defs.proofs.Directives.{each_effect}
use Rattle.gd_form_laws.specs.Faults.{clause_fault, member_fault, form_fault, value_fault, query_fault, below}
use Rattle.gd_form_laws.proofs.First.{err-map, err-map_err, err-chain, err-rest, err-if, untrue, unfalse}

-- the clause of no members
abbrev pub no_clause : Clause
no_clause = (no_directives, query.no_members)

directive-first : (root : Bool) (k : List ℕ) (j : Json) (rest : Result Clause Fault)
    → result_err (with_directive root k j rest) ≡ option_or (result_err (with_directive root k j (Ok no_clause))) (result_err rest)
directive-first root k j rest =
    each_effect (λ (f : Result Clause Fault → Result Clause Fault). result_err (f rest) ≡ option_or (result_err (f (Ok no_clause))) (result_err rest)) root k j
    (err-chain (or_fault bad_directive k (if root then None else mode_of j)) rest (λ m c. (record c.0 { mode = Some m }, c.1)) no_clause)
    (err-chain (or_fault bad_directive k (limit_of j)) rest (λ n c. (record c.0 { limit = Some n }, c.1)) no_clause)
    (err-chain (or_fault bad_directive k (sort_of j)) rest (λ ws c. (c.0, query.sort_by ws c.1)) no_clause)
    (err-if (root && is_count j) _ _ _ _ _ (err-rest rest (λ c. (record c.0 { count = true }, c.1))) refl)

named-first : (name : Result Name Fault) (form : Name → Result Form Fault) (rest : Result Clause Fault)
    → result_err (name >>= λ n. form n >>= λ f. rest >>= λ c. Ok (with_member n f c)) ≡ option_or (result_err (name >>= λ n. form n >>= λ f. Ok (with_member n f no_clause))) (result_err rest)
named-first (Ok n) form rest = err-chain (form n) rest (λ f c. with_member n f c) no_clause
named-first (Err e) form rest = refl

-- the fault of a clause is that of its first member, else that of the others
pub clause-first : (root : Bool) (k : List ℕ) (j : Json) (ms : Members)
    → clause_fault root (member k j ms) ≡ option_or (member_fault root k j) (clause_fault root ms)
unfolding clause_fault member_fault
clause-first root k j ms =
    err-if (is_directive k) _ _ _ _ _ (directive-first root k j (clause_of root ms)) (named-first (member_name root k) (λ n. form_or_operand n j (form_of n j)) (clause_of root ms))

-- ---- a member alone

-- a directive alone
pub directive-alone : (root : Bool) (k : List ℕ) (j : Json) → is_directive k ≡ true → member_fault root k j ≡ result_err (with_directive root k j (Ok no_clause))
unfolding member_fault
directive-alone root k j is = rw is refl

-- a member whose name has a fault
pub misnamed-alone : (root : Bool) (k : List ℕ) (j : Json) (f : Fault) → is_directive k ≡ false → member_name root k ≡ Err f → member_fault root k j ≡ Some f
unfolding member_fault
misnamed-alone root k j f other name = rw (other, name) refl

-- a member with a name
pub named-alone : (root : Bool) (k : List ℕ) (j : Json) (n : Name) → is_directive k ≡ false → member_name root k ≡ Ok n
    → member_fault root k j ≡ value_fault n j
unfolding member_fault value_fault
named-alone root k j n other name = rw (other, name) (err-map (form_or_operand n j (form_of n j)) (λ f. with_member n f no_clause))

-- ---- names

-- what spells no name
pub no_name : (root : Bool) (k : List ℕ) → name_of k ≡ None → member_name root k ≡ Err (record { code = bad_word; path = k ∷ [] })
no_name root k none = rw none refl

-- a word that is left out
pub left_out_name : (root : Bool) (k : List ℕ) (n : Name) → name_of k ≡ Some n → is_left_out n.word ≡ true → member_name root k ≡ Err (record { code = left_out; path = k ∷ [] })
left_out_name root k n name is = rw (name, is) refl

-- a word that may not stand there, or may
pub misplaced_name : (root : Bool) (k : List ℕ) (n : Name) → name_of k ≡ Some n → is_left_out n.word ≡ false → not ((n.reversed && is_computed n.word) || (root && is_link n.word)) ≡ false
    → member_name root k ≡ Err (record { code = bad_word; path = k ∷ [] })
misplaced_name root k n name is stands = let there : ((n.reversed && is_computed n.word) || (root && is_link n.word)) ≡ true = untrue _ stands in rw (name, is, there) refl

pub placed_name : (root : Bool) (k : List ℕ) (n : Name) → name_of k ≡ Some n → is_left_out n.word ≡ false → not ((n.reversed && is_computed n.word) || (root && is_link n.word)) ≡ true → member_name root k ≡ Ok n
placed_name root k n name is stands = let there : ((n.reversed && is_computed n.word) || (root && is_link n.word)) ≡ false = unfalse _ stands in rw (name, is, there) refl

-- ---- forms

-- whether a value stands for an operand: behind an operator, and at a computed word or `link`, unless it is null or a list that is none
abbrev pub operand_there : Name → Json → Bool
operand_there n j = has_operator n || (not (not (is_computed n.word || is_link n.word)) && (not (is_null j) && not (is_other_list j)))

err-fits : (b : Bool) (j : Form) (f : Fault) → result_err {T = Form} (if b then Ok j else Err f) ≡ (if b then None else Some f)
err-fits true j f = refl
err-fits false j f = refl

-- what stands behind a name is an operand or a form
pub operand_or_form : (n : Name) (j : Json) (b : Bool) → operand_there n j ≡ b
    → value_fault n j ≡ (if b then (if operand_fits n j then None else Some (record { code = bad_operand; path = n.spelled ∷ [] })) else form_fault n j)
unfolding value_fault form_fault
operand_or_form n j b is = by (has_operator n) (not (is_computed n.word || is_link n.word)) (is_null j) (is_other_list j) refl refl refl refl is
  where
    by : (o w z l : Bool) → has_operator n ≡ o → not (is_computed n.word || is_link n.word) ≡ w → is_null j ≡ z → is_other_list j ≡ l → operand_there n j ≡ b
        → value_fault n j ≡ (if b then (if operand_fits n j then None else Some (record { code = bad_operand; path = n.spelled ∷ [] })) else form_fault n j)
    by true w z l o_is w_is z_is l_is is = let t : true ≡ b = rw o_is at is in rw (o_is, ← t) (err-fits (operand_fits n j) (query.operand j) _)
    by false true z l o_is w_is z_is l_is is = let t : false ≡ b = rw (o_is, w_is) at is in rw (o_is, w_is, ← t) refl
    by false false true l o_is w_is z_is l_is is = let t : false ≡ b = rw (o_is, w_is, z_is) at is in rw (o_is, w_is, z_is, ← t) refl
    by false false false true o_is w_is z_is l_is is = let t : false ≡ b = rw (o_is, w_is, z_is, l_is) at is in rw (o_is, w_is, z_is, l_is, ← t) refl
    by false false false false o_is w_is z_is l_is is = let t : true ≡ b = rw (o_is, w_is, z_is, l_is) at is in rw (o_is, w_is, z_is, l_is, ← t) (err-fits (operand_fits n j) (query.literal j) _)

-- the default members change nothing of whether a clause has a form
pub default-err : (ms : Members) → result_err (clause_or_default ms (clause_of false ms)) ≡ result_err (clause_of false ms)
default-err no_members = refl
default-err (member k j ms) = refl

pub default-root-err : (ms : Members) → result_err (clause_or_default ms (clause_of true ms)) ≡ result_err (clause_of true ms)
default-root-err no_members = refl
default-root-err (member k j ms) = refl

one-err : (k : List ℕ) (ms : Members) → result_err (as_one k (clause_or_default ms (clause_of false ms))) ≡ option_map (below k) (result_err (clause_of false ms))
one-err k ms = err-map (within k (clause_or_default ms (clause_of false ms))) (λ d. query.one d.0 d.1) ∙ (err-map_err (below k) (clause_or_default ms (clause_of false ms)) ∙ ap (option_map (below k)) (default-err ms))

many-err : (k : List ℕ) (ms : Members) → result_err (as_many k (clause_or_default ms (clause_of false ms))) ≡ option_map (below k) (result_err (clause_of false ms))
many-err k ms = err-map (within k (clause_or_default ms (clause_of false ms))) (λ d. query.many d.0 d.1) ∙ (err-map_err (below k) (clause_or_default ms (clause_of false ms)) ∙ ap (option_map (below k)) (default-err ms))

-- the form {..}
pub object-fault : (n : Name) (ms : Members) → form_fault n (object ms) ≡ option_map (below n.spelled) (clause_fault false ms)
unfolding form_fault clause_fault
object-fault n ms = one-err n.spelled ms

-- the form [{..}]
pub sole_object-fault : (n : Name) (ms : Members) → form_fault n (list (item (object ms) no_items)) ≡ option_map (below n.spelled) (clause_fault false ms)
unfolding form_fault clause_fault
sole_object-fault n ms = many-err n.spelled ms

-- no members have no fault
pub none-fault : (root : Bool) → clause_fault root no_members ≡ None
unfolding clause_fault
none-fault root = refl

-- null, a literal and the empty list are forms
pub plain-fault : (n : Name) (j : Json) → members_in j ≡ None → items_in j ≡ None → form_fault n j ≡ None
unfolding form_fault
plain-fault n null no_object no_list = refl
plain-fault n (boolean t) no_object no_list = refl
plain-fault n (number m) no_object no_list = refl
plain-fault n (text t) no_object no_list = refl
plain-fault n (list js) no_object no_list = cc
plain-fault n (object ms) no_object no_list = cc

pub empty-fault : (n : Name) → form_fault n (list no_items) ≡ None
unfolding form_fault
empty-fault n = refl

-- ---- lists

-- of two items or more a list is no form
pub is_other-more : (a b : Json) (js : Items) → is_other_list (list (item a (item b js))) ≡ true
is_other-more null b js = refl
is_other-more (boolean t) b js = refl
is_other-more (number n) b js = refl
is_other-more (text t) b js = refl
is_other-more (list is) b js = refl
is_other-more (object ms) b js = refl

pub more-fault : (n : Name) (a b : Json) (js : Items) → form_fault n (list (item a (item b js))) ≡ Some (record { code = list_form; path = n.spelled ∷ [] })
unfolding form_fault
more-fault n null b js = refl
more-fault n (boolean t) b js = refl
more-fault n (number m) b js = refl
more-fault n (text t) b js = refl
more-fault n (list is) b js = refl
more-fault n (object ms) b js = refl

-- of one item it is one where that is an object
pub is_other-sole : (j : Json) → is_other_list (list (item j no_items)) ≡ not (is_some (members_in j))
is_other-sole null = refl
is_other-sole (boolean t) = refl
is_other-sole (number n) = refl
is_other-sole (text t) = refl
is_other-sole (list is) = refl
is_other-sole (object ms) = refl

pub sole-fault : (n : Name) (j : Json) → members_in j ≡ None → form_fault n (list (item j no_items)) ≡ Some (record { code = list_form; path = n.spelled ∷ [] })
unfolding form_fault
sole-fault n null none = refl
sole-fault n (boolean t) none = refl
sole-fault n (number m) none = refl
sole-fault n (text t) none = refl
sole-fault n (list is) none = refl
sole-fault n (object ms) none = cc

-- ---- the query of a read

-- an object, or one in a list
pub object-query : (ms : Members) → query_fault (object ms) ≡ clause_fault true ms
unfolding query_fault clause_fault
object-query ms = err-map (clause_or_default ms (clause_of true ms)) (λ d. record { listed = false; directives = d.0; members = d.1 }) ∙ default-root-err ms

pub sole-query : (ms : Members) → query_fault (list (item (object ms) no_items)) ≡ clause_fault true ms
unfolding query_fault clause_fault
sole-query ms = err-map (clause_or_default ms (clause_of true ms)) (λ d. record { listed = true; directives = d.0; members = d.1 }) ∙ default-root-err ms

pub more-query : (a b : Json) (js : Items) → query_fault (list (item a (item b js))) ≡ Some (record { code = list_form; path = [] })
unfolding query_fault
more-query null b js = refl
more-query (boolean t) b js = refl
more-query (number m) b js = refl
more-query (text t) b js = refl
more-query (list is) b js = refl
more-query (object ms) b js = refl

pub empty-query : query_fault (list no_items) ≡ Some (record { code = query.envelope; path = [] })
unfolding query_fault
empty-query = refl
