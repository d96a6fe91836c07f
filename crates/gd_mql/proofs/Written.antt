-- The members and items of a write beside those of its tree, where each has a form or not.
use Rattle.std.proofs.Common.{◌≡◌, ◌≤◌, ◌<◌, ◌+◌, ℕ, List, [], ◌∷◌, drop, length, get_or, Bool, true, false, Option, Some, None, Vec, Global, Result, Ok, Err, refl, sym, ap, ◌∙◌, subst, arith}
use Rattle.std.specs.Prelude.{option_map, is_some, bytes_eq, codes}
use Rattle.std.specs.Option.{option_or}
use Rattle.std.specs.Result.{result_err}
use Rattle.std.proofs.lemmas.List.{drop_all}
use Rattle.gd_tree.specs.Json as tree
use Rattle.gd_tree.specs.Json.{item, member}
use Rattle.gd_json.specs.View.{view, items_view, members_view}
use Rattle.gd_json.specs.declared.value.Json.{Json, Object}
use Rattle.gd_json.proofs.Parts.{left_at, view-Object}
use Rattle.gd_defs.specs.Query.{Fault, Name, all_items}
use Rattle.gd_defs.specs.Change.{Setting, create_in, write_name, is_form}
use Rattle.gd_form_laws.specs.WriteFaults.{entries_fault, entry_fault, named_item_fault, item_fault, items_fault, list_code}
use Rattle.gd_form_laws.proofs.First.{or-none, or-some}
use Rattle.gd_form_laws.proofs.Changes.{entries-first, no-entries, items-first, no-items, created-alone, misnamed-entry, named-entry}
use Rattle.gd_mql.specs.declared.form_fault.FormFault.{FormFault}
use Rattle.gd_mql.specs.declared.form_fault.FormFault.TheVariants.{Bad, Memory}
use Rattle.gd_mql.specs.FormFault.{Checks, Refuses, fault_under}

-- what decides by its first part, and passes on what the others say
or_refuses : (e p rest : Option Fault) (f : FormFault) → e ≡ option_or p rest → Refuses p f → Refuses e f
or_refuses e p rest Memory is refuses = tt
or_refuses e p rest (Bad code names) is refuses = is ∙ or-some p rest (fault_under code names.items) refuses

-- ---- members

entries-drop : (s : Setting) (ms : List (List ℕ × Json)) (i : ℕ) (m : List ℕ × Json) → i < length ms → m ≡ get_or ms i m
    → entries_fault s (members_view (drop i ms)) ≡ option_or (entry_fault s m.0 (view m.1)) (entries_fault s (members_view (drop (i + 1) ms)))
entries-drop s ms i m within is =
    ap (λ (xs : List (List ℕ × Json)). entries_fault s (members_view xs)) (left_at ms i m within is) ∙ entries-first s m.0 (view m.1) (members_view (drop (i + 1) ms))

-- without a fault at the member of an index the others decide
pub entries-pass : (s : Setting) (ms : List (List ℕ × Json)) (i : ℕ) (m : List ℕ × Json) → i < length ms → m ≡ get_or ms i m → entry_fault s m.0 (view m.1) ≡ None
    → entries_fault s (members_view (drop i ms)) ≡ entries_fault s (members_view (drop (i + 1) ms))
entries-pass s ms i m within is none = entries-drop s ms i m within is ∙ or-none (entry_fault s m.0 (view m.1)) (entries_fault s (members_view (drop (i + 1) ms))) none

-- a fault there decides
pub entries-stop : (s : Setting) (ms : List (List ℕ × Json)) (i : ℕ) (m : List ℕ × Json) (e : Option Fault) (f : FormFault) → i < length ms → m ≡ get_or ms i m
    → e ≡ entries_fault s (members_view (drop i ms)) → Refuses (entry_fault s m.0 (view m.1)) f → Refuses e f
entries-stop s ms i m e f within is left refuses =
    or_refuses e (entry_fault s m.0 (view m.1)) (entries_fault s (members_view (drop (i + 1) ms))) f (left ∙ entries-drop s ms i m within is) refuses

-- past the last of them there is none
pub entries-end : (s : Setting) (ms : List (List ℕ × Json)) (i : ℕ) → length ms ≤ i → entries_fault s (members_view (drop i ms)) ≡ None
entries-end s ms i past = ap (λ (xs : List (List ℕ × Json)). entries_fault s (members_view xs)) (drop_all i ms past) ∙ no-entries s

-- ---- items

items-drop : (s : Setting) (n : Name) (js : List Json) (i : ℕ) (j : Json) → i < length js → j ≡ get_or js i j
    → items_fault s n (items_view (drop i js)) ≡ option_or (item_fault s n (view j)) (items_fault s n (items_view (drop (i + 1) js)))
items-drop s n js i j within is = ap (λ (xs : List Json). items_fault s n (items_view xs)) (left_at js i j within is) ∙ items-first s n (view j) (items_view (drop (i + 1) js))

pub items-pass : (s : Setting) (n : Name) (js : List Json) (i : ℕ) (j : Json) → i < length js → j ≡ get_or js i j → item_fault s n (view j) ≡ None
    → items_fault s n (items_view (drop i js)) ≡ items_fault s n (items_view (drop (i + 1) js))
items-pass s n js i j within is none = items-drop s n js i j within is ∙ or-none (item_fault s n (view j)) (items_fault s n (items_view (drop (i + 1) js))) none

pub items-stop : (s : Setting) (n : Name) (js : List Json) (i : ℕ) (j : Json) (e : Option Fault) (f : FormFault) → i < length js → j ≡ get_or js i j
    → e ≡ items_fault s n (items_view (drop i js)) → Refuses (item_fault s n (view j)) f → Refuses e f
items-stop s n js i j e f within is left refuses =
    or_refuses e (item_fault s n (view j)) (items_fault s n (items_view (drop (i + 1) js))) f (left ∙ items-drop s n js i j within is) refuses

pub items-end : (s : Setting) (n : Name) (js : List Json) (i : ℕ) → length js ≤ i → items_fault s n (items_view (drop i js)) ≡ None
items-end s n js i past = ap (λ (xs : List Json). items_fault s n (items_view xs)) (drop_all i js past) ∙ no-items s n

-- a list of forms has a code alone if it is empty
pub forms_code : (s : Setting) (js : List Json) → 0 < length js → true ≡ all_items is_form (items_view js) → None ≡ list_code s (items_view js)
forms_code s [] some forms = absurd (omega arith)
forms_code s (j ∷ js) some forms = let all : all_items is_form (item (view j) (items_view js)) ≡ true = sym forms in rw all refl

-- ---- a member, whose name was read as a text

-- `create`
pub entry-created : (s : Setting) (k t : List ℕ) (j : tree.Json) (r : Result (Unit {0}) FormFault) → t ≡ k → true ≡ bytes_eq t (codes "create") → Checks (result_err (create_in s j)) r → Checks (entry_fault s k j) r
entry-created s k t j r same is checks = subst (λ e. Checks e r) (sym (created-alone s k j (ap (λ k. bytes_eq k (codes "create")) (sym same) ∙ sym is))) checks

-- a name with what stands behind it
pub entry-named : (s : Setting) (k t : List ℕ) (j : tree.Json) (n : Name) (r : Result (Unit {0}) FormFault) → t ≡ k → false ≡ bytes_eq t (codes "create") → write_name s.at_root t ≡ Ok n → Checks (named_item_fault s n j) r
    → Checks (entry_fault s k j) r
entry-named s k t j n r same is name checks =
    subst (λ e. Checks e r) (sym (named-entry s k j n (ap (λ k. bytes_eq k (codes "create")) (sym same) ∙ sym is) (ap (write_name s.at_root) (sym same) ∙ name))) checks

-- a name that is none, or may not stand there
pub entry-misnamed : (s : Setting) (k t : List ℕ) (j : tree.Json) (f : Fault) (e : FormFault) → t ≡ k → false ≡ bytes_eq t (codes "create") → write_name s.at_root t ≡ Err f → Refuses (Some f) e → Refuses (entry_fault s k j) e
entry-misnamed s k t j f e same is name refuses =
    subst (λ x. Refuses x e) (sym (misnamed-entry s k j f (ap (λ k. bytes_eq k (codes "create")) (sym same) ∙ sym is) (ap (write_name s.at_root) (sym same) ∙ name))) refuses

-- the form of an object
pub object-item : (s : Setting) (n : Name) (v : Vec (List ℕ × Json) Global) (j : Json) → j ≡ Object v → item_fault s n (view j) ≡ item_fault s n (tree.object (members_view v.items))
object-item s n v j is = ap (λ (j : Json). item_fault s n (view j)) is ∙ ap (item_fault s n) (view-Object v)

-- what is there is there seen through a function
pub there : {A B : Type 0} (o : Option A) (p : Option B) (f : A → B) (b : Bool) → option_map f o ≡ p → b ≡ is_some o → is_some p ≡ b
there (Some x) p f b is test = ap is_some (sym is) ∙ sym test
there None p f b is test = ap is_some (sym is) ∙ sym test
