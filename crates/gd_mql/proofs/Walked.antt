-- The members and items of values beside those of their trees, where each has a form or not.
use Rattle.std.proofs.Common.{◌≡◌, ◌≤◌, ◌<◌, ◌+◌, ℕ, suc, List, [], ◌∷◌, drop, length, get_or, Bool, true, false, Option, Some, None, Vec, Global, Result, Ok, Err, refl, sym, ap, ◌∙◌, subst, arith}
use Rattle.std.specs.Prelude.{option_map}
use Rattle.std.specs.Option.{option_or}
use Rattle.std.specs.Result.{result_err}
use Rattle.std.proofs.lemmas.List.{drop_all}
use Rattle.gd_tree.specs.Json as tree
use Rattle.gd_tree.specs.Json.{Items, item, no_items, member, no_members}
use Rattle.gd_json.specs.View.{view, items_view, members_view}
use Rattle.gd_json.specs.declared.value.Json.{Json, List as List', Object}
use Rattle.gd_json.proofs.Parts.{left_at, view-Object, view-List}
use Rattle.gd_defs.specs.Query.{Fault, Name, is_directive, member_name, with_directive}
use Rattle.gd_form_laws.specs.Faults.{clause_fault, member_fault, form_fault, value_fault, query_fault, below}
use Rattle.gd_form_laws.proofs.First.{or-none, or-some}
use Rattle.gd_form_laws.proofs.Queries.{no_clause, clause-first, object-fault, sole_object-fault, none-fault, object-query, sole-query, directive-alone, named-alone, misnamed-alone}
use Rattle.gd_mql.specs.declared.form_fault.FormFault.{FormFault}
use Rattle.gd_mql.specs.declared.form_fault.FormFault.TheVariants.{Bad, Memory}
use Rattle.gd_mql.specs.FormFault.{Checks, Refuses, fault_under}
use Rattle.gd_mql.specs.Directives.{word_name, word_named}
use Rattle.gd_mql.specs.declared.directive.DirectiveWord.{DirectiveWord}
use Rattle.gd_mql.proofs.Literals.{word-name, word-directive}

-- the fault of the members from an index on: that of the first of them, else that of the others
members-drop : (root : Bool) (ms : List (List ℕ × Json)) (i : ℕ) (m : List ℕ × Json) → i < length ms → m ≡ get_or ms i m
    → clause_fault root (members_view (drop i ms)) ≡ option_or (member_fault root m.0 (view m.1)) (clause_fault root (members_view (drop (i + 1) ms)))
members-drop root ms i m within is =
    ap (λ (xs : List (List ℕ × Json)). clause_fault root (members_view xs)) (left_at ms i m within is) ∙ clause-first root m.0 (view m.1) (members_view (drop (i + 1) ms))

-- without a fault there the others decide
pub members-pass : (root : Bool) (ms : List (List ℕ × Json)) (i : ℕ) (m : List ℕ × Json) → i < length ms → m ≡ get_or ms i m → member_fault root m.0 (view m.1) ≡ None
    → clause_fault root (members_view (drop i ms)) ≡ clause_fault root (members_view (drop (i + 1) ms))
members-pass root ms i m within is none = members-drop root ms i m within is ∙ or-none (member_fault root m.0 (view m.1)) (clause_fault root (members_view (drop (i + 1) ms))) none

-- a fault there decides
pub members-stop : (root : Bool) (ms : List (List ℕ × Json)) (i : ℕ) (m : List ℕ × Json) (e : Option Fault) (f : FormFault) → i < length ms → m ≡ get_or ms i m → e ≡ clause_fault root (members_view (drop i ms))
    → Refuses (member_fault root m.0 (view m.1)) f → Refuses e f
members-stop root ms i m e Memory within is left refuses = tt
members-stop root ms i m e (Bad code names) within is left refuses =
    left ∙ (members-drop root ms i m within is ∙ or-some (member_fault root m.0 (view m.1)) (clause_fault root (members_view (drop (i + 1) ms))) (fault_under code names.items) refuses)

-- past the last of them there is none
pub members-end : (root : Bool) (ms : List (List ℕ × Json)) (i : ℕ) → length ms ≤ i → clause_fault root (members_view (drop i ms)) ≡ None
members-end root ms i past = ap (λ (xs : List (List ℕ × Json)). clause_fault root (members_view xs)) (drop_all i ms past) ∙ none-fault root

-- the form of an object
pub object-form : (n : Name) (v : Vec (List ℕ × Json) Global) (j : Json) → j ≡ Object v → form_fault n (view j) ≡ option_map (below n.spelled) (clause_fault false (members_view v.items))
object-form n v j is = ap (λ (j : Json). form_fault n (view j)) is ∙ (ap (λ t. form_fault n t) (view-Object v) ∙ object-fault n (members_view v.items))

-- the form of a list of one object
pub sole_object-form : (n : Name) (v : Vec (List ℕ × Json) Global) (j : Json) → j ≡ Object v
    → form_fault n (tree.list (item (view j) no_items)) ≡ option_map (below n.spelled) (clause_fault false (members_view v.items))
sole_object-form n v j is =
    ap (λ (j : Json). form_fault n (tree.list (item (view j) no_items))) is
    ∙ (ap (λ t. form_fault n (tree.list (item t no_items))) (view-Object v) ∙ sole_object-fault n (members_view v.items))

-- the query of an object, of a list, and of a list of one object
pub object-query_of : (v : Vec (List ℕ × Json) Global) (j : Json) → j ≡ Object v → query_fault (view j) ≡ clause_fault true (members_view v.items)
object-query_of v j is = ap (λ (j : Json). query_fault (view j)) is ∙ (ap query_fault (view-Object v) ∙ object-query (members_view v.items))

pub list-query_of : (v : Vec Json Global) (j : Json) → j ≡ List' v → query_fault (view j) ≡ query_fault (tree.list (items_view v.items))
list-query_of v j is = ap (λ (j : Json). query_fault (view j)) is ∙ ap query_fault (view-List v)

pub sole-query_of : (v : Vec (List ℕ × Json) Global) (j : Json) → j ≡ Object v → query_fault (tree.list (item (view j) no_items)) ≡ clause_fault true (members_view v.items)
sole-query_of v j is =
    ap (λ (j : Json). query_fault (tree.list (item (view j) no_items))) is
    ∙ (ap (λ t. query_fault (tree.list (item t no_items))) (view-Object v) ∙ sole-query (members_view v.items))

-- a list of one item, and one of more
pub sole_view : (js : List Json) (j : Json) → length js ≡ 1 → j ≡ get_or js 0 j → items_view js ≡ item (view j) no_items
sole_view [] j len is = cc
sole_view (a ∷ []) j len is = ap (λ (x : Json). item (view x) no_items) (sym is)
sole_view (a ∷ b ∷ js) j len is = absurd (past len)
  where
    past : suc (suc (length js)) ≡ 1 → ⊥
    past e = omega arith

pub record More (js : List Json) : Type 0 where
  pub one : tree.Json
  pub two : tree.Json
  pub others : Items
  pub is : items_view js ≡ item one (item two others)

pub more_view : (js : List Json) → 2 ≤ length js → More js
more_view [] len = absurd (omega arith)
more_view (a ∷ []) len = absurd (past len)
  where
    past : 2 ≤ suc 0 → ⊥
    past e = omega arith
more_view (a ∷ b ∷ js) len = record { one = view a; two = view b; others = items_view js; is = refl }

pub none_view : (js : List Json) → length js < 1 → items_view js ≡ no_items
none_view [] len = refl
none_view (a ∷ js) len = absurd (past len)
  where
    past : suc (length js) < 1 → ⊥
    past e = omega arith

-- ---- a member, whose name was read as a text

-- a directive
pub member-directive : (root : Bool) (k s : List ℕ) (j : tree.Json) (w : DirectiveWord) (r : Result (Unit {0}) FormFault) → s ≡ k → Some w ≡ word_named s → Checks (result_err (with_directive root (word_name w) j (Ok no_clause))) r
    → Checks (member_fault root k j) r
member-directive root k s j w r same is checks =
    let name : word_name w ≡ k = sym (word-name s w is) ∙ same in
    let named : is_directive k ≡ true = ap is_directive (sym name) ∙ word-directive w in
    subst (λ e. Checks e r) (ap (λ s. result_err (with_directive root s j (Ok no_clause))) name ∙ sym (directive-alone root k j named)) checks

-- a name with what stands behind it
pub member-named : (root : Bool) (k s : List ℕ) (j : tree.Json) (n : Name) (r : Result (Unit {0}) FormFault) → s ≡ k → false ≡ is_directive s → member_name root s ≡ Ok n → Checks (value_fault n j) r
    → Checks (member_fault root k j) r
member-named root k s j n r same is name checks =
    let other : is_directive k ≡ false = ap is_directive (sym same) ∙ sym is in
    subst (λ e. Checks e r) (sym (named-alone root k j n other (ap (member_name root) (sym same) ∙ name))) checks

-- a name that is none, or may not stand there
pub member-misnamed : (root : Bool) (k s : List ℕ) (j : tree.Json) (f : Fault) (e : FormFault) → s ≡ k → false ≡ is_directive s → member_name root s ≡ Err f → Refuses (Some f) e → Refuses (member_fault root k j) e
member-misnamed root k s j f e same is name refuses =
    let other : is_directive k ≡ false = ap is_directive (sym same) ∙ sym is in
    subst (λ x. Refuses x e) (sym (misnamed-alone root k j f other (ap (member_name root) (sym same) ∙ name))) refuses
