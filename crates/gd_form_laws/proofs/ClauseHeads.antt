-- The directives of a clause, which its members spell.
use Rattle.std.proofs.Common.{◌≡◌, ℕ, List, [], ◌∷◌, Bool, true, false, Option, Some, None, Result, Ok, Err, refl, sym, ap, ◌∙◌}
use Rattle.std.specs.Prelude.{if◌then◌else◌, bytes_eq, ◌&&◌}
use Rattle.std.specs.Option.{ok_or}
use Rattle.std.specs.Result.{result_err}
use Rattle.std.proofs.lemmas.Slice.Eq.{bytes_eq-Decides}
use Rattle.std.proofs.lemmas.Bool.Decides.{same_from_decides}
use Rattle.gd_grammar.specs.Chain.{◌>>=◌}
use Rattle.gd_tree.specs.Json.{Json, Members as JsonMembers, no_members as no_json_members, member as json_member}
use Rattle.gd_tree.specs.Look.{get}
use Rattle.gd_defs.specs.Query as query
use Rattle.gd_defs.specs.Query.{Fault, Form, Name, Clause, Directives, Mode, SortWord, no_directives, with_directive, with_member, member_name, form_or_operand, form_of, clause_of, clause_or_default, or_fault, bad_directive, is_directive, mode_of, limit_of, sort_of, is_count, optional}
use Rattle.gd_defs.proofs.Directives.{optional_name, sort_name, limit_name, return_name, each_name, IsOther, other_name}
use Rattle.gd_form_laws.specs.Faults.{clause_fault}
use Rattle.gd_form_laws.specs.Spelled.{clause_or, spelled_clause, spelled_directives}
use Rattle.gd_form_laws.proofs.First.{given}
use Rattle.gd_form_laws.proofs.Clauses.{rest-given}

abbrev head : Result Clause Fault → Directives
head r = (clause_or r).0

-- texts are equal the other way round too
turned : (k l : List ℕ) → bytes_eq k l ≡ bytes_eq l k
turned k l = same_from_decides (bytes_eq k l) (bytes_eq l k) (bytes_eq-Decides k l) ((λ t. sym ((bytes_eq-Decides l k).0 t)), (λ e. (bytes_eq-Decides l k).1 (sym e)))

-- a name that is not the one looked for is passed over
passed : (k l : List ℕ) (j : Json) (ms : JsonMembers) → bytes_eq l k ≡ false → get k (json_member l j ms) ≡ get k ms
passed k l j ms other = let differs : bytes_eq k l ≡ false = turned k l ∙ other in rw differs refl

-- ---- of each directive, with the clause of the rest

abbrev clauses : {A : Type 0} → Result A Fault → (A → Clause) → Result Clause Fault
clauses r f = r >>= λ x. Ok (f x)

optional_head : (root : Bool) (o : Option Mode) (d : Clause) (e : Fault) → result_err (clauses (ok_or (if root then None else o) e) (λ m. (record d.0 { mode = Some m }, d.1))) ≡ None
    → head (clauses (ok_or (if root then None else o) e) (λ m. (record d.0 { mode = Some m }, d.1))) ≡ record d.0 { mode = o }
optional_head true o d e none = cc
optional_head false (Some m) d e none = refl
optional_head false None d e none = cc

limit_head : (o : Option ℕ) (d : Clause) (e : Fault) → result_err (clauses (ok_or o e) (λ n. (record d.0 { limit = Some n }, d.1))) ≡ None → head (clauses (ok_or o e) (λ n. (record d.0 { limit = Some n }, d.1))) ≡ record d.0 { limit = o }
limit_head (Some n) d e none = refl
limit_head None d e none = cc

sort_head : (o : Option (List SortWord)) (d : Clause) (e : Fault) → result_err (clauses (ok_or o e) (λ ws. (d.0, query.sort_by ws d.1))) ≡ None → head (clauses (ok_or o e) (λ ws. (d.0, query.sort_by ws d.1))) ≡ d.0
sort_head (Some ws) d e none = refl
sort_head None d e none = cc

abbrev counts : Bool → Clause → Fault → Result Clause Fault
counts b d e = if b then Ok (record d.0 { count = true }, d.1) else Err e

count_head : (b : Bool) (d : Clause) (e : Fault) → result_err (counts b d e) ≡ None → head (counts b d e) ≡ record d.0 { count = true }
count_head true d e none = refl
count_head false d e none = cc

name_head : (a : Result Name Fault) (f : Name → Result Form Fault) (d : Clause) → result_err (a >>= λ n. clauses (f n) (λ x. with_member n x d)) ≡ None → head (a >>= λ n. clauses (f n) (λ x. with_member n x d)) ≡ d.0
name_head (Ok n) f d none = of_form (f n) none
  where
    of_form : (r : Result Form Fault) → result_err (clauses r (λ x. with_member n x d)) ≡ None → head (clauses r (λ x. with_member n x d)) ≡ d.0
    of_form (Ok x) none = refl
    of_form (Err e) none = cc
name_head (Err e) f d none = cc

-- ---- a member in front of a clause

-- the directives of a member in front of a clause are these
abbrev HeadIs : Bool → List ℕ → Json → JsonMembers → Type 0
HeadIs root k j ms = result_err (clause_of root (json_member k j ms)) ≡ None → head (clause_of root (json_member k j ms)) ≡ spelled_directives (json_member k j ms)

at_optional : (root : Bool) (j : Json) (ms : JsonMembers) (d : Clause) → clause_of root ms ≡ Ok d → d.0 ≡ spelled_directives ms → HeadIs root optional_name j ms
at_optional root j ms d rest heads none =
    let whole : clause_of root (json_member optional_name j ms) ≡ clauses (or_fault bad_directive optional_name (if root then None else mode_of j)) (λ m. (record d.0 { mode = Some m }, d.1)) = rw rest refl in
    ap head whole ∙ (optional_head root (mode_of j) d _ (sym (ap result_err whole) ∙ none) ∙ ap (λ (h : Directives). record h { mode = mode_of j }) heads)

at_limit : (root : Bool) (j : Json) (ms : JsonMembers) (d : Clause) → clause_of root ms ≡ Ok d → d.0 ≡ spelled_directives ms → HeadIs root limit_name j ms
at_limit root j ms d rest heads none =
    let whole : clause_of root (json_member limit_name j ms) ≡ clauses (or_fault bad_directive limit_name (limit_of j)) (λ n. (record d.0 { limit = Some n }, d.1)) = rw rest refl in
    ap head whole ∙ (limit_head (limit_of j) d _ (sym (ap result_err whole) ∙ none) ∙ ap (λ (h : Directives). record h { limit = limit_of j }) heads)

at_sort : (root : Bool) (j : Json) (ms : JsonMembers) (d : Clause) → clause_of root ms ≡ Ok d → d.0 ≡ spelled_directives ms → HeadIs root sort_name j ms
at_sort root j ms d rest heads none =
    let whole : clause_of root (json_member sort_name j ms) ≡ clauses (or_fault bad_directive sort_name (sort_of j)) (λ ws. (d.0, query.sort_by ws d.1)) = rw rest refl in
    ap head whole ∙ (sort_head (sort_of j) d _ (sym (ap result_err whole) ∙ none) ∙ heads)

at_return : (root : Bool) (j : Json) (ms : JsonMembers) (d : Clause) → clause_of root ms ≡ Ok d → d.0 ≡ spelled_directives ms → HeadIs root return_name j ms
at_return root j ms d rest heads none =
    let whole : clause_of root (json_member return_name j ms) ≡ counts (root && is_count j) d (record { code = bad_directive; path = return_name ∷ [] }) = rw rest refl in
    ap head whole ∙ (count_head (root && is_count j) d _ (sym (ap result_err whole) ∙ none) ∙ ap (λ (h : Directives). record h { count = true }) heads)

at_name : (root : Bool) (k : List ℕ) (j : Json) (ms : JsonMembers) (d : Clause) → clause_of root ms ≡ Ok d → d.0 ≡ spelled_directives ms → is_directive k ≡ false → HeadIs root k j ms
at_name root k j ms d rest heads other none =
    let whole : clause_of root (json_member k j ms) ≡ (member_name root k >>= λ n. clauses (form_or_operand n j (form_of n j)) (λ x. with_member n x d)) = rw (other, rest) refl in
    ap head whole ∙ (name_head (member_name root k) (λ n. form_or_operand n j (form_of n j)) d (sym (ap result_err whole) ∙ none) ∙ (heads ∙ same))
  where
    no : IsOther k
    no = other_name k other

    same : spelled_directives ms ≡ spelled_directives (json_member k j ms)
    same = rw (passed optional_name k j ms no.no_optional, passed limit_name k j ms no.no_limit, passed return_name k j ms no.no_return) refl

first_head : (root : Bool) (k : List ℕ) (j : Json) (ms : JsonMembers) (d : Clause) → clause_of root ms ≡ Ok d → d.0 ≡ spelled_directives ms → HeadIs root k j ms
first_head root k j ms d rest heads = by (is_directive k) refl
  where
    by : (b : Bool) → is_directive k ≡ b → HeadIs root k j ms
    by true is = each_name (λ k. HeadIs root k j ms) (at_optional root j ms d rest heads) (at_sort root j ms d rest heads) (at_limit root j ms d rest heads) (at_return root j ms d rest heads) k is
    by false other = at_name root k j ms d rest heads other

-- the directives of a clause without a fault
heads-told : (root : Bool) (ms : JsonMembers) → clause_fault root ms ≡ None → head (clause_of root ms) ≡ spelled_directives ms
unfolding clause_fault
heads-told root no_json_members none = refl
heads-told root (json_member k j ms) none =
    let rest_none = rest-given root k j ms none in
    let rest = given (clause_of root ms) rest_none in
    first_head root k j ms rest.value rest.is (sym (ap head rest.is) ∙ heads-told root ms rest_none) none

-- of a clause that is not empty, and of one that is
pub other-directives : (root : Bool) (k : List ℕ) (j : Json) (ms : JsonMembers) → clause_fault root (json_member k j ms) ≡ None → (spelled_clause root (json_member k j ms)).0 ≡ spelled_directives (json_member k j ms)
unfolding spelled_clause
other-directives root k j ms none = heads-told root (json_member k j ms) none

pub empty-directives : (root : Bool) → (spelled_clause root no_json_members).0 ≡ record no_directives { mode = Some optional }
unfolding spelled_clause
empty-directives root = refl
