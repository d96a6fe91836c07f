-- Clauses that were read, beside those that their members spell.
use Rattle.std.proofs.Common.{◌≡◌, ◌≤◌, ◌<◌, ℕ, suc, List, [], ◌∷◌, length, Bool, true, false, Option, Some, None, Ok, Err, refl, sym, ap, ◌∙◌, arith}
use Rattle.std.specs.Prelude.{is_none, is_some, unwrap_or, if◌then◌else◌, codes, bytes_eq, not, ◌&&◌}
use Rattle.std.specs.Result.{result_err}
use Rattle.std.proofs.lemmas.Slice.Eq.{bytes_eq-Decides}
use Rattle.gd_grammar.proofs.Steps.{some_same}
use Rattle.gd_tree.specs.Json as tree
use Rattle.gd_tree.specs.Look.{members_in, items_in, is_null}
use Rattle.gd_json.specs.View.{view, items_view, members_view}
use Rattle.gd_json.specs.declared.value.Json.{Json}
use Rattle.gd_defs.specs.Query as query
use Rattle.gd_defs.specs.Query.{Name, Form, default_members, no_directives, optional, form_of}
use Rattle.gd_form_laws.specs.Faults.{clause_fault, member_fault, value_fault, form_fault, query_fault}
use Rattle.gd_form_laws.specs.Spelled.{spelled_clause, spelled_members, spelled_directives, spelled_query}
use Rattle.gd_form_laws.proofs.Queries.{no_clause, object-query, sole-query, empty-query, more-query, sole-fault, more-fault, directive-alone, named-alone, misnamed-alone}
use Rattle.gd_form_laws.proofs.Clauses.{object-query_spelled, sole-query_spelled, empty-members, other-members, object-given, object-spelled, sole-given, sole-spelled, sort-part, named-part, first-given, rest-given, directive-part, end-members}
use Rattle.gd_form_laws.proofs.ClauseHeads.{other-directives, empty-directives}
use Rattle.gd_mql.proofs.Walked.{more_view}

-- a test that nothing is there
pub nothing : {A : Type 0} (o : Option A) → is_none o ≡ true → o ≡ None
nothing None is = refl
nothing (Some x) is = cc

pub nothing-told : {A : Type 0} (o : Option A) → o ≡ None → is_none o ≡ true
nothing-told o is = ap is_none is

-- the parts of a clause of no members, and of one of some
pub default_view : (root : Bool) (ms : List (List ℕ × Json)) → length ms ≡ 0 → default_members ≡ (spelled_clause root (members_view ms)).1
default_view root [] none = sym (empty-members root)
default_view root (m ∷ ms) none = absurd (omega arith)

pub default_heads : (root : Bool) (ms : List (List ℕ × Json)) → length ms ≡ 0 → record no_directives { mode = Some optional } ≡ (spelled_clause root (members_view ms)).0
default_heads root [] none = sym (empty-directives root)
default_heads root (m ∷ ms) none = absurd (omega arith)

pub clause_members : (root : Bool) (ms : List (List ℕ × Json)) → 0 < length ms → spelled_members root (members_view ms) ≡ (spelled_clause root (members_view ms)).1
clause_members root [] some = absurd (omega arith)
clause_members root (m ∷ ms) some = sym (other-members root m.0 (view m.1) (members_view ms))

pub clause_heads : (root : Bool) (ms : List (List ℕ × Json)) → 0 < length ms → is_none (clause_fault root (members_view ms)) ≡ true → spelled_directives (members_view ms) ≡ (spelled_clause root (members_view ms)).0
clause_heads root [] some none = absurd (omega arith)
clause_heads root (m ∷ ms) some none = sym (other-directives root m.0 (view m.1) (members_view ms) (nothing (clause_fault root (members_view (m ∷ ms))) none))

-- ---- forms

-- what an object or a list is
pub object_shape : (j : tree.Json) (ms : tree.Members) → Some ms ≡ members_in j → j ≡ tree.object ms
object_shape tree.null ms is = cc
object_shape (tree.boolean b) ms is = cc
object_shape (tree.number n) ms is = cc
object_shape (tree.text t) ms is = cc
object_shape (tree.list js) ms is = cc
object_shape (tree.object ns) ms is = ap tree.object (sym (some_same ms ns is))

pub list_shape : (j : tree.Json) (js : tree.Items) → Some js ≡ items_in j → j ≡ tree.list js
list_shape tree.null js is = cc
list_shape (tree.boolean b) js is = cc
list_shape (tree.number n) js is = cc
list_shape (tree.text t) js is = cc
list_shape (tree.list is) js same = ap tree.list (sym (some_same js is same))
list_shape (tree.object ms) js is = cc

-- the form of an object
pub object_right : (n : Name) (j : tree.Json) (ms : tree.Members) → Some ms ≡ members_in j → form_fault n j ≡ None → is_none (clause_fault false ms) ≡ true
object_right n j ms is none = nothing-told (clause_fault false ms) (object-given n ms (sym (ap (form_fault n) (object_shape j ms is)) ∙ none))

pub object_shown : (n : Name) (j : tree.Json) (ms : tree.Members) → Some ms ≡ members_in j → form_fault n j ≡ None → form_of n j ≡ Ok (query.one (spelled_clause false ms).0 (spelled_clause false ms).1)
object_shown n j ms is none = ap (form_of n) (object_shape j ms is) ∙ object-spelled n ms (sym (ap (form_fault n) (object_shape j ms is)) ∙ none)

-- the form of a list of one object
pub sole_right : (n : Name) (j : tree.Json) (ms : tree.Members) → Some ms ≡ members_in j → form_fault n (tree.list (tree.item j tree.no_items)) ≡ None → is_none (clause_fault false ms) ≡ true
sole_right n j ms is none =
    nothing-told (clause_fault false ms) (sole-given n ms (sym (ap (λ j. form_fault n (tree.list (tree.item j tree.no_items))) (object_shape j ms is)) ∙ none))

pub sole_shown : (n : Name) (j : tree.Json) (ms : tree.Members) → Some ms ≡ members_in j → form_fault n (tree.list (tree.item j tree.no_items)) ≡ None
    → form_of n (tree.list (tree.item j tree.no_items)) ≡ Ok (query.many (spelled_clause false ms).0 (spelled_clause false ms).1)
sole_shown n j ms is none =
    ap (λ j. form_of n (tree.list (tree.item j tree.no_items))) (object_shape j ms is)
    ∙ sole-spelled n ms (sym (ap (λ j. form_fault n (tree.list (tree.item j tree.no_items))) (object_shape j ms is)) ∙ none)

pub sole_other : (n : Name) (j : tree.Json) → None ≡ members_in j → form_fault n (tree.list (tree.item j tree.no_items)) ≡ None → ⊥
sole_other n j is none = let fault = sole-fault n j (sym is) in cc

-- a list of more
pub more_other : (n : Name) (js : List Json) → 2 ≤ length js → form_fault n (tree.list (items_view js)) ≡ None → ⊥
more_other n js len none =
    let more = more_view js len in
    let fault = ap (λ js. form_fault n (tree.list js)) more.is ∙ more-fault n more.one more.two more.others in
    cc

-- the form of a list
pub list_right : (n : Name) (j : tree.Json) (js : tree.Items) → Some js ≡ items_in j → form_fault n j ≡ None → form_fault n (tree.list js) ≡ None
list_right n j js is none = sym (ap (form_fault n) (list_shape j js is)) ∙ none

pub list_shown : (n : Name) (j : tree.Json) (js : tree.Items) (f : Form) → Some js ≡ items_in j → form_of n (tree.list js) ≡ Ok f → form_of n j ≡ Ok f
list_shown n j js f is shown = ap (form_of n) (list_shape j js is) ∙ shown

-- ---- parts

named_sort : (k s : List ℕ) → s ≡ k → true ≡ bytes_eq s (codes "sort") → k ≡ codes "sort"
named_sort k s same is = sym same ∙ (bytes_eq-Decides s (codes "sort")).0 (sym is)

sort_right : (root : Bool) (j : tree.Json) → member_fault root (codes "sort") j ≡ None → is_some (query.sort_of j) ≡ true
sort_right root j none =
    let told = sym (directive-alone root (codes "sort") j refl) ∙ none in
    by (query.sort_of j) refl told
  where
    by : (o : Option (List query.SortWord)) → query.sort_of j ≡ o → result_err (query.with_directive root (codes "sort") j (Ok no_clause)) ≡ None → is_some (query.sort_of j) ≡ true
    by (Some ws) is told = rw is refl
    by None is told = absurd (let bad = rw is at told in cc)

-- `sort` has words
pub sort_there : (root : Bool) (k s : List ℕ) (j : tree.Json) → s ≡ k → true ≡ bytes_eq s (codes "sort") → member_fault root k j ≡ None → is_some (query.sort_of j) ≡ true
sort_there root k s j same is none = sort_right root j (sym (ap (λ k. member_fault root k j) (named_sort k s same is)) ∙ none)

unwrapped : {A : Type 0} (o : Option (List A)) → is_some o ≡ true → o ≡ Some (unwrap_or o [])
unwrapped (Some x) is = refl
unwrapped None is = cc

pub sort_shown : (root : Bool) (k s : List ℕ) (j : tree.Json) (ms : tree.Members) → s ≡ k → true ≡ bytes_eq s (codes "sort") → member_fault root k j ≡ None → clause_fault root ms ≡ None
    → spelled_members root (tree.member k j ms) ≡ query.sort_by (unwrap_or (query.sort_of j) []) (spelled_members root ms)
sort_shown root k s j ms same is none rest =
    ap (λ k. spelled_members root (tree.member k j ms)) (named_sort k s same is)
    ∙ sort-part root j ms (unwrap_or (query.sort_of j) []) rest (unwrapped (query.sort_of j) (sort_there root k s j same is none))

-- a part that is not `sort` is no directive
no_directive : (d s : Bool) → (d && not s) ≡ false → false ≡ s → d ≡ false
no_directive true true is other = cc
no_directive true false is other = is
no_directive false s is other = refl

other_name : (k s : List ℕ) → s ≡ k → (query.is_directive k && not (bytes_eq k (codes "sort"))) ≡ false → false ≡ bytes_eq s (codes "sort") → query.is_directive k ≡ false
other_name k s same part other = no_directive (query.is_directive k) (bytes_eq k (codes "sort")) part (other ∙ ap (λ k. bytes_eq k (codes "sort")) same)

pub value_right : (root : Bool) (k s : List ℕ) (j : tree.Json) (n : Name) → s ≡ k → (query.is_directive k && not (bytes_eq k (codes "sort"))) ≡ false → false ≡ bytes_eq s (codes "sort") → query.member_name root s ≡ Ok n
    → member_fault root k j ≡ None → value_fault n j ≡ None
value_right root k s j n same part other name none = sym (named-alone root k j n (other_name k s same part other) (ap (query.member_name root) (sym same) ∙ name)) ∙ none

pub part_shown : (root : Bool) (k s : List ℕ) (j : tree.Json) (ms : tree.Members) (n : Name) (f : Form) → s ≡ k → (query.is_directive k && not (bytes_eq k (codes "sort"))) ≡ false → false ≡ bytes_eq s (codes "sort")
    → query.member_name root s ≡ Ok n → query.form_or_operand n j (form_of n j) ≡ Ok f → clause_fault root ms ≡ None → spelled_members root (tree.member k j ms) ≡ query.member n f (spelled_members root ms)
part_shown root k s j ms n f same part other name form rest = named-part root k j ms n f rest (other_name k s same part other) (ap (query.member_name root) (sym same) ∙ name) form

pub misnamed_other : (root : Bool) (k s : List ℕ) (j : tree.Json) (f : query.Fault) → s ≡ k → (query.is_directive k && not (bytes_eq k (codes "sort"))) ≡ false → false ≡ bytes_eq s (codes "sort") → query.member_name root s ≡ Err f
    → member_fault root k j ≡ None → ⊥
misnamed_other root k s j f same part other name none =
    let fault = misnamed-alone root k j f (other_name k s same part other) (ap (query.member_name root) (sym same) ∙ name) in cc

-- ---- members, one after another

-- of members without a fault the first has none, nor have the others
pub split_right : (root : Bool) (ms others : List (List ℕ × Json)) (m : List ℕ × Json) → ms ≡ m ∷ others → clause_fault root (members_view ms) ≡ None → member_fault root m.0 (view m.1) ≡ None
split_right root ms others m is none = first-given root m.0 (view m.1) (members_view others) (sym (ap (λ (xs : List (List ℕ × Json)). clause_fault root (members_view xs)) is) ∙ none)

pub split_rest : (root : Bool) (ms others : List (List ℕ × Json)) (m : List ℕ × Json) → ms ≡ m ∷ others → clause_fault root (members_view ms) ≡ None → clause_fault root (members_view others) ≡ None
split_rest root ms others m is none = rest-given root m.0 (view m.1) (members_view others) (sym (ap (λ (xs : List (List ℕ × Json)). clause_fault root (members_view xs)) is) ∙ none)

-- a directive other than `sort` is passed over
split_tests : (d s : Bool) → true ≡ (d && not s) → (d ≡ true) × (s ≡ false)
split_tests true false is = (refl, refl)
split_tests true true is = cc
split_tests false s is = cc

pub split_passed : (root : Bool) (ms others : List (List ℕ × Json)) (m : List ℕ × Json) (s : List ℕ) → ms ≡ m ∷ others → clause_fault root (members_view ms) ≡ None → s ≡ m.0
    → true ≡ (query.is_directive s && not (bytes_eq s (codes "sort"))) → spelled_members root (members_view ms) ≡ spelled_members root (members_view others)
split_passed root ms others m s is none same passed =
    let tests = split_tests (query.is_directive s) (bytes_eq s (codes "sort")) passed in
    ap (λ (xs : List (List ℕ × Json)). spelled_members root (members_view xs)) is
    ∙ directive-part root m.0 (view m.1) (members_view others) (split_rest root ms others m is none) (ap query.is_directive (sym same) ∙ tests.0) (ap (λ k. bytes_eq k (codes "sort")) (sym same) ∙ tests.1) (split_right root ms others m is none)

-- past the last of them there are none
pub split_end : (root : Bool) (ms : List (List ℕ × Json)) → length ms ≡ 0 → spelled_members root (members_view ms) ≡ query.no_members
split_end root [] none = end-members root
split_end root (m ∷ ms) none = absurd (omega arith)

-- ---- queries

-- the query of an object
pub root_right : (j : tree.Json) (ms : tree.Members) → Some ms ≡ members_in j → query_fault j ≡ None → clause_fault true ms ≡ None
root_right j ms is none = sym (object-query ms) ∙ (sym (ap query_fault (object_shape j ms is)) ∙ none)

pub root_shown : (j : tree.Json) (ms : tree.Members) → Some ms ≡ members_in j → query_fault j ≡ None
    → spelled_query j ≡ record { listed = false; directives = (spelled_clause true ms).0; members = (spelled_clause true ms).1 }
root_shown j ms is none = ap spelled_query (object_shape j ms is) ∙ object-query_spelled ms (sym (ap query_fault (object_shape j ms is)) ∙ none)

-- of a list of one object
pub sole_root_right : (j : tree.Json) (ms : tree.Members) → Some ms ≡ members_in j → query_fault (tree.list (tree.item j tree.no_items)) ≡ None → clause_fault true ms ≡ None
sole_root_right j ms is none = sym (sole-query ms) ∙ (sym (ap (λ j. query_fault (tree.list (tree.item j tree.no_items))) (object_shape j ms is)) ∙ none)

pub sole_root_shown : (j : tree.Json) (ms : tree.Members) → Some ms ≡ members_in j → query_fault (tree.list (tree.item j tree.no_items)) ≡ None
    → spelled_query (tree.list (tree.item j tree.no_items)) ≡ record { listed = true; directives = (spelled_clause true ms).0; members = (spelled_clause true ms).1 }
sole_root_shown j ms is none =
    ap (λ j. spelled_query (tree.list (tree.item j tree.no_items))) (object_shape j ms is)
    ∙ sole-query_spelled ms (sym (ap (λ j. query_fault (tree.list (tree.item j tree.no_items))) (object_shape j ms is)) ∙ none)

pub sole_root_other : (j : tree.Json) → None ≡ members_in j → query_fault (tree.list (tree.item j tree.no_items)) ≡ None → ⊥
unfolding query_fault
sole_root_other tree.null is none = cc
sole_root_other (tree.boolean b) is none = cc
sole_root_other (tree.number n) is none = cc
sole_root_other (tree.text t) is none = cc
sole_root_other (tree.list js) is none = cc
sole_root_other (tree.object ms) is none = cc

-- of another list
pub empty_root_other : (js : List Json) → length js < 1 → query_fault (tree.list (items_view js)) ≡ None → ⊥
empty_root_other [] len none = let fault = empty-query in cc
empty_root_other (j ∷ js) len none = past len
  where
    past : suc (length js) < 1 → ⊥
    past e = omega arith

pub more_root_other : (js : List Json) → 2 ≤ length js → query_fault (tree.list (items_view js)) ≡ None → ⊥
more_root_other js len none =
    let more = more_view js len in
    let fault = ap (λ js. query_fault (tree.list js)) more.is ∙ more-query more.one more.two more.others in
    cc

-- of a list
pub list_root_right : (j : tree.Json) (js : tree.Items) → Some js ≡ items_in j → query_fault j ≡ None → query_fault (tree.list js) ≡ None
list_root_right j js is none = sym (ap query_fault (list_shape j js is)) ∙ none

pub list_root_shown : (j : tree.Json) (js : tree.Items) → Some js ≡ items_in j → spelled_query j ≡ spelled_query (tree.list js)
list_root_shown j js is = ap spelled_query (list_shape j js is)

-- of another value
pub root_other : (j : tree.Json) → None ≡ members_in j → None ≡ items_in j → query_fault j ≡ None → ⊥
unfolding query_fault
root_other tree.null no_object no_list none = cc
root_other (tree.boolean b) no_object no_list none = cc
root_other (tree.number n) no_object no_list none = cc
root_other (tree.text t) no_object no_list none = cc
root_other (tree.list js) no_object no_list none = cc
root_other (tree.object ms) no_object no_list none = cc
