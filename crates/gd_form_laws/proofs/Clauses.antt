-- What a clause without a fault of form spells, member by member.
use Rattle.std.proofs.Common.{◌≡◌, ℕ, List, Bool, true, false, not, ◌||◌, Option, Some, None, Result, Ok, Err, refl, sym, ap, ◌∙◌}
use Rattle.std.specs.Prelude.{if◌then◌else◌, option_map, bytes_eq, ◌&&◌}
use Rattle.std.specs.Result.{result_err}
use Rattle.gd_grammar.specs.Chain.{◌>>=◌}
use Rattle.gd_tree.specs.Json.{Json, list, object, no_items, item, Members as JsonMembers, no_members as no_json_members, member as json_member}
use Rattle.gd_tree.specs.Look.{is_null}
use Rattle.gd_defs.specs.Query as query
use Rattle.gd_defs.specs.Query.{Fault, Clause, Form, Name, Members, no_members, member, sort_by, SortWord, no_directives, with_directive, with_member, member_name, form_or_operand, form_of, clause_of, clause_or_default, default_members, as_one, as_many, within, fault, or_fault, bad_directive, is_directive, mode_of, limit_of, sort_of, is_count, query_of, root_query, has_operator, is_computed, is_link, is_literal, is_other_list, operand_fits}
use Rattle.gd_defs.proofs.Directives.{sort_name, each_unsorted}
use Rattle.gd_form_laws.specs.Faults.{clause_fault, member_fault, form_fault, value_fault, query_fault, below}
use Rattle.gd_form_laws.specs.Spelled.{clause_or, query_or, spelled_members, spelled_clause, spelled_query}
use Rattle.gd_form_laws.proofs.First.{Given, given, or-first, or-second}
use Rattle.gd_form_laws.proofs.Queries.{no_clause, clause-first, operand_there, object-fault, sole_object-fault}

-- a clause without a fault has none in its first member, nor in the others
pub first-given : (root : Bool) (k : List ℕ) (j : Json) (ms : JsonMembers) → clause_fault root (json_member k j ms) ≡ None → member_fault root k j ≡ None
first-given root k j ms none = or-first (member_fault root k j) (clause_fault root ms) (sym (clause-first root k j ms) ∙ none)

pub rest-given : (root : Bool) (k : List ℕ) (j : Json) (ms : JsonMembers) → clause_fault root (json_member k j ms) ≡ None → clause_fault root ms ≡ None
rest-given root k j ms none = or-second (member_fault root k j) (clause_fault root ms) (sym (clause-first root k j ms) ∙ none)

clause_given : (root : Bool) (ms : JsonMembers) → clause_fault root ms ≡ None → Given (clause_of root ms)
unfolding clause_fault
clause_given root ms none = given (clause_of root ms) none

-- ---- the first member

abbrev members_of : Result Clause Fault → Members
members_of r = (clause_or r).1

-- a name with its form, in front of the others
pub named-part : (root : Bool) (k : List ℕ) (j : Json) (ms : JsonMembers) (n : Name) (f : Form) → clause_fault root ms ≡ None → is_directive k ≡ false → member_name root k ≡ Ok n → form_or_operand n j (form_of n j) ≡ Ok f
    → spelled_members root (json_member k j ms) ≡ member n f (spelled_members root ms)
unfolding spelled_members
named-part root k j ms n f none other name form =
    let rest = clause_given root ms none in
    let whole : clause_of root (json_member k j ms) ≡ Ok (with_member n f rest.value) = rw (other, name, form, rest.is) refl in
    ap members_of whole ∙ ap (λ r. member n f (members_of r)) (sym rest.is)

directive-rest : (root : Bool) (k : List ℕ) (j : Json) (d : Clause) → bytes_eq k sort_name ≡ false → result_err (with_directive root k j (Ok no_clause)) ≡ None
    → (clause_or (with_directive root k j (Ok d))).1 ≡ d.1
directive-rest root k j d unsorted none =
    each_unsorted (λ (f : Result Clause Fault → Result Clause Fault). result_err (f (Ok no_clause)) ≡ None → (clause_or (f (Ok d))).1 ≡ d.1) root k j unsorted
    (kept (or_fault bad_directive k (if root then None else mode_of j)) (λ m c. (record c.0 { mode = Some m }, c.1)) (λ m. refl))
    (kept (or_fault bad_directive k (limit_of j)) (λ n c. (record c.0 { limit = Some n }, c.1)) (λ n. refl))
    (counted (root && is_count j)) none
  where
    kept : {A : Type 0} (a : Result A Fault) (g : A → Clause → Clause) → ((x : A) → (g x d).1 ≡ d.1) → result_err (a >>= λ x. Ok (g x no_clause)) ≡ None → (clause_or (a >>= λ x. Ok (g x d))).1 ≡ d.1
    kept (Ok x) g same none = same x
    kept (Err e) g same none = absurd (cc)

    counted : (b : Bool) → result_err {T = Clause} (if b then Ok (record no_clause.0 { count = true }, no_clause.1) else fault bad_directive k) ≡ None → (clause_or (if b then Ok (record d.0 { count = true }, d.1) else fault bad_directive k)).1 ≡ d.1
    counted true none = refl
    counted false none = absurd (cc)

-- another directive than `sort` is none of the members
pub directive-part : (root : Bool) (k : List ℕ) (j : Json) (ms : JsonMembers) → clause_fault root ms ≡ None → is_directive k ≡ true → bytes_eq k sort_name ≡ false → member_fault root k j ≡ None
    → spelled_members root (json_member k j ms) ≡ spelled_members root ms
unfolding spelled_members member_fault
directive-part root k j ms none is unsorted alone =
    let rest = clause_given root ms none in
    let told = rw is at alone in
    let whole : clause_of root (json_member k j ms) ≡ with_directive root k j (Ok rest.value) = rw (is, rest.is) refl in
    ap members_of whole ∙ (directive-rest root k j rest.value unsorted told ∙ ap members_of (sym rest.is))

-- `sort` stands in front of the others
pub sort-part : (root : Bool) (j : Json) (ms : JsonMembers) (ws : List SortWord) → clause_fault root ms ≡ None → sort_of j ≡ Some ws → spelled_members root (json_member sort_name j ms) ≡ sort_by ws (spelled_members root ms)
unfolding spelled_members
sort-part root j ms ws none sorts =
    let rest = clause_given root ms none in
    let whole : clause_of root (json_member sort_name j ms) ≡ Ok (rest.value.0, sort_by ws rest.value.1) = rw (sorts, rest.is) refl in
    ap members_of whole ∙ ap (λ r. sort_by ws (members_of r)) (sym rest.is)

-- ---- what stands behind a name

-- an operand, or a literal at a computed word
pub operand-part : (n : Name) (j : Json) → operand_there n j ≡ true → value_fault n j ≡ None → form_or_operand n j (form_of n j) ≡ Ok (if has_operator n then query.operand j else query.literal j)
unfolding value_fault
operand-part n j there none = by (has_operator n) (not (is_computed n.word || is_link n.word)) (is_null j) (is_other_list j) (operand_fits n j) refl refl refl refl refl there none
  where
    by : (o w z l t : Bool) → has_operator n ≡ o → not (is_computed n.word || is_link n.word) ≡ w → is_null j ≡ z → is_other_list j ≡ l → operand_fits n j ≡ t → operand_there n j ≡ true
        → result_err (form_or_operand n j (form_of n j)) ≡ None → form_or_operand n j (form_of n j) ≡ Ok (if o then query.operand j else query.literal j)
    by true w z l true o_is w_is z_is l_is t_is there none = rw (o_is, t_is) refl
    by true w z l false o_is w_is z_is l_is t_is there none = absurd (let bad = rw (o_is, t_is) at none in cc)
    by false true z l t o_is w_is z_is l_is t_is there none = absurd (let bad = rw (o_is, w_is) at there in cc)
    by false false true l t o_is w_is z_is l_is t_is there none = absurd (let bad = rw (o_is, w_is, z_is) at there in cc)
    by false false false true t o_is w_is z_is l_is t_is there none = absurd (let bad = rw (o_is, w_is, z_is, l_is) at there in cc)
    by false false false false true o_is w_is z_is l_is t_is there none = rw (o_is, w_is, z_is, l_is, t_is) refl
    by false false false false false o_is w_is z_is l_is t_is there none = absurd (let bad = rw (o_is, w_is, z_is, l_is, t_is) at none in cc)

-- or a form
pub form-part : (n : Name) (j : Json) → operand_there n j ≡ false → form_or_operand n j (form_of n j) ≡ form_of n j
form-part n j none = by (has_operator n) (not (is_computed n.word || is_link n.word)) (is_null j) (is_other_list j) refl refl refl refl none
  where
    by : (o w z l : Bool) → has_operator n ≡ o → not (is_computed n.word || is_link n.word) ≡ w → is_null j ≡ z → is_other_list j ≡ l → operand_there n j ≡ false → form_or_operand n j (form_of n j) ≡ form_of n j
    by true w z l o_is w_is z_is l_is none = absurd (let bad = rw o_is at none in cc)
    by false true z l o_is w_is z_is l_is none = rw (o_is, w_is) refl
    by false false true l o_is w_is z_is l_is none = rw (o_is, w_is, z_is) refl
    by false false false true o_is w_is z_is l_is none = rw (o_is, w_is, z_is, l_is) refl
    by false false false false o_is w_is z_is l_is none = absurd (let bad = rw (o_is, w_is, z_is, l_is) at none in cc)

pub form-given : (n : Name) (j : Json) → operand_there n j ≡ false → value_fault n j ≡ None → form_fault n j ≡ None
unfolding value_fault form_fault
form-given n j form none = sym (ap result_err (form-part n j form)) ∙ none

not_below : (k : List ℕ) (e : Option Fault) → option_map (below k) e ≡ None → e ≡ None
not_below k None none = refl
not_below k (Some f) none = cc

one_of : (k : List ℕ) (r : Result Clause Fault) → result_err (as_one k r) ≡ None → as_one k r ≡ Ok (query.one (clause_or r).0 (clause_or r).1)
one_of k (Ok c) none = refl
one_of k (Err f) none = cc

many_of : (k : List ℕ) (r : Result Clause Fault) → result_err (as_many k r) ≡ None → as_many k r ≡ Ok (query.many (clause_or r).0 (clause_or r).1)
many_of k (Ok c) none = refl
many_of k (Err f) none = cc

-- the form {..}
pub object-given : (n : Name) (ms : JsonMembers) → form_fault n (object ms) ≡ None → clause_fault false ms ≡ None
object-given n ms none = not_below n.spelled (clause_fault false ms) (sym (object-fault n ms) ∙ none)

pub object-spelled : (n : Name) (ms : JsonMembers) → form_fault n (object ms) ≡ None → form_of n (object ms) ≡ Ok (query.one (spelled_clause false ms).0 (spelled_clause false ms).1)
unfolding form_fault spelled_clause
object-spelled n ms none = one_of n.spelled (clause_or_default ms (clause_of false ms)) none

-- the form [{..}]
pub sole-given : (n : Name) (ms : JsonMembers) → form_fault n (list (item (object ms) no_items)) ≡ None → clause_fault false ms ≡ None
sole-given n ms none = not_below n.spelled (clause_fault false ms) (sym (sole_object-fault n ms) ∙ none)

pub sole-spelled : (n : Name) (ms : JsonMembers) → form_fault n (list (item (object ms) no_items)) ≡ None → form_of n (list (item (object ms) no_items)) ≡ Ok (query.many (spelled_clause false ms).0 (spelled_clause false ms).1)
unfolding form_fault spelled_clause
sole-spelled n ms none = many_of n.spelled (clause_or_default ms (clause_of false ms)) none

-- ---- clauses

-- the members of an empty clause are the default members
pub empty-members : (root : Bool) → (spelled_clause root no_json_members).1 ≡ default_members
unfolding spelled_clause
empty-members root = refl

-- of another they are those that it spells
pub other-members : (root : Bool) (k : List ℕ) (j : Json) (ms : JsonMembers) → (spelled_clause root (json_member k j ms)).1 ≡ spelled_members root (json_member k j ms)
unfolding spelled_clause spelled_members
other-members root k j ms = refl

pub end-members : (root : Bool) → spelled_members root no_json_members ≡ no_members
unfolding spelled_members
end-members root = refl

-- ---- queries

root_of : (listed : Bool) (r : Result Clause Fault) → result_err (root_query listed r) ≡ None → query_or (root_query listed r) ≡ record { listed = listed; directives = (clause_or r).0; members = (clause_or r).1 }
root_of listed (Ok c) none = refl
root_of listed (Err f) none = cc

-- the query of an object, and of a list of one
pub object-query_spelled : (ms : JsonMembers) → query_fault (object ms) ≡ None → spelled_query (object ms) ≡ record { listed = false; directives = (spelled_clause true ms).0; members = (spelled_clause true ms).1 }
unfolding query_fault spelled_query spelled_clause
object-query_spelled ms none = root_of false (clause_or_default ms (clause_of true ms)) none

pub sole-query_spelled : (ms : JsonMembers) → query_fault (list (item (object ms) no_items)) ≡ None
    → spelled_query (list (item (object ms) no_items)) ≡ record { listed = true; directives = (spelled_clause true ms).0; members = (spelled_clause true ms).1 }
unfolding query_fault spelled_query spelled_clause
sole-query_spelled ms none = root_of true (clause_or_default ms (clause_of true ms)) none

pub query-given : (j : Json) → query_fault j ≡ None → query_of j ≡ Ok (spelled_query j)
unfolding query_fault spelled_query
query-given j none = by (query_of j) none
  where
    by : (r : Result query.Query Fault) → result_err r ≡ None → r ≡ Ok (query_or r)
    by (Ok q) none = refl
    by (Err f) none = cc
