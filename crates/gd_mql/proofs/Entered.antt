-- Members of a write that were read, beside those that they spell.
use Rattle.std.proofs.Common.{◌≡◌, ℕ, List, [], ◌∷◌, length, Bool, true, false, Option, Some, None, Ok, Err, refl, sym, ap, ◌∙◌, arith}
use Rattle.std.specs.Prelude.{is_none, is_some, option_map, if◌then◌else◌, codes, bytes_eq}
use Rattle.std.specs.Option.{option_or}
use Rattle.std.specs.Result.{result_err}
use Rattle.gd_grammar.proofs.Steps.{mapped}
use Rattle.gd_tree.specs.Json as tree
use Rattle.gd_tree.specs.Look.{get, members_in, items_in, is_null}
use Rattle.gd_json.specs.View.{view, items_view, members_view}
use Rattle.gd_json.specs.declared.value.Json.{Json}
use Rattle.gd_defs.specs.Query.{Name, Fault, is_identity}
use Rattle.gd_defs.specs.Change as change
use Rattle.gd_defs.specs.Change.{Setting, CreateWord, ConnectWord, Target, Item, create_in, create_word, connect_word, write_name, by_name, item_of, target_of, setting_of, guid_member, text_member}
use Rattle.gd_form_laws.specs.WriteFaults.{entries_fault, entry_fault, named_item_fault, item_fault, items_fault, target_fault, change_fault}
use Rattle.gd_form_laws.specs.SpelledChange.{spelled_entries, spelled_items, spelled_change}
use Rattle.gd_form_laws.proofs.Changes.{created-alone, named-entry, misnamed-entry, identity-entry, other-entry}
use Rattle.gd_form_laws.proofs.Entries.{first-entry_given, rest-entries_given, created-part, named-part, end-entries, create-given, create-wordless, identity-spelled, targetless, connect-target, connect-worded, connect-spelled, nested-given, nested-worded, nested-spelled, fact-target, fact-spelled, list-given, list-spelled, first-item_given, rest-items_given, item-part, end-items, literal-spelled, null-refused, change-entries, change-worded, change-named, create-spelled, existing-spelled}
use Rattle.gd_mql.proofs.Shown.{nothing, nothing-told, list_shape}

-- ---- `create`

create_told : (s : Setting) (j : tree.Json) → entry_fault s (codes "create") j ≡ None → result_err (create_in s j) ≡ None
create_told s j none = sym (created-alone s (codes "create") j refl) ∙ none

pub create_other : (s : Setting) (j : tree.Json) → None ≡ create_word j → entry_fault s (codes "create") j ≡ None → ⊥
create_other s j is none = create-wordless s j (sym is) (create_told s j none)

pub create_entered : (s : Setting) (j : tree.Json) (w : CreateWord) (ms : tree.Members) → Some w ≡ create_word j → entry_fault s (codes "create") j ≡ None → entries_fault s ms ≡ None
    → spelled_entries s (tree.member (codes "create") j ms) ≡ change.created w (spelled_entries s ms)
create_entered s j w ms is none rest = created-part s (codes "create") j ms w rest refl (create-given s j w (create_told s j none) (sym is))

-- ---- a member with a name, which was read as a text

other_name : (k t : List ℕ) → t ≡ k → false ≡ bytes_eq t (codes "create") → bytes_eq k (codes "create") ≡ false
other_name k t same other = ap (λ k. bytes_eq k (codes "create")) (sym same) ∙ sym other

pub named_right : (s : Setting) (k t : List ℕ) (j : tree.Json) (n : Name) → t ≡ k → false ≡ bytes_eq t (codes "create") → write_name s.at_root t ≡ Ok n → entry_fault s k j ≡ None → named_item_fault s n j ≡ None
named_right s k t j n same other name none = sym (named-entry s k j n (other_name k t same other) (ap (write_name s.at_root) (sym same) ∙ name)) ∙ none

pub named_other : (s : Setting) (k t : List ℕ) (j : tree.Json) (f : Fault) → t ≡ k → false ≡ bytes_eq t (codes "create") → write_name s.at_root t ≡ Err f → entry_fault s k j ≡ None → ⊥
named_other s k t j f same other name none = let fault = misnamed-entry s k j f (other_name k t same other) (ap (write_name s.at_root) (sym same) ∙ name) in cc

pub named_entered : (s : Setting) (k t : List ℕ) (j : tree.Json) (n : Name) (i : Item) (ms : tree.Members) → t ≡ k → false ≡ bytes_eq t (codes "create") → write_name s.at_root t ≡ Ok n → by_name s n j (item_of s n j) ≡ Ok i
    → entries_fault s ms ≡ None → spelled_entries s (tree.member k j ms) ≡ change.member n i (spelled_entries s ms)
named_entered s k t j n i ms same other name is rest = named-part s k j ms n i rest (other_name k t same other) (ap (write_name s.at_root) (sym same) ∙ name) is

-- what it has: by its name
pub identity_shown : (s : Setting) (n : Name) (j : tree.Json) (i : Item) → true ≡ is_identity n.word → named_item_fault s n j ≡ None → i ≡ (if is_null j then change.blank else change.plain j) → by_name s n j (item_of s n j) ≡ Ok i
identity_shown s n j i is none same =
    ap (λ (b : Bool). if b then change.identity_item s n j else item_of s n j) (sym is) ∙ identity-spelled s n j (sym (identity-entry s n j (sym is)) ∙ none) ∙ ap Ok (sym same)

pub other_right : (s : Setting) (n : Name) (j : tree.Json) → false ≡ is_identity n.word → named_item_fault s n j ≡ None → item_fault s n j ≡ None
other_right s n j is none = sym (other-entry s n j (sym is)) ∙ none

-- a list
pub items_right : (s : Setting) (n : Name) (j : tree.Json) (js : tree.Items) → Some js ≡ items_in j → item_fault s n j ≡ None → is_none (items_fault s n js) ≡ true
items_right s n j js is none = nothing-told (items_fault s n js) (list-given s n js (sym (ap (item_fault s n) (list_shape j js is)) ∙ none))

pub items_shown : (s : Setting) (n : Name) (j : tree.Json) (js : tree.Items) → Some js ≡ items_in j → item_fault s n j ≡ None → item_of s n j ≡ Ok (change.several (spelled_items s n js))
items_shown s n j js is none = ap (item_of s n) (list_shape j js is) ∙ list-spelled s n js (sym (ap (item_fault s n) (list_shape j js is)) ∙ none)

-- a literal
pub literal_shown : (s : Setting) (n : Name) (j : tree.Json) → None ≡ members_in j → None ≡ items_in j → item_fault s n j ≡ None → item_of s n j ≡ Ok (change.plain j)
literal_shown s n tree.null no_object no_list none = absurd (null-refused s n none)
literal_shown s n (tree.boolean b) no_object no_list none = literal-spelled s n (tree.boolean b) refl
literal_shown s n (tree.number m) no_object no_list none = literal-spelled s n (tree.number m) refl
literal_shown s n (tree.text t) no_object no_list none = literal-spelled s n (tree.text t) refl
literal_shown s n (tree.list js) no_object no_list none = cc
literal_shown s n (tree.object ms) no_object no_list none = cc

-- ---- forms

has_target : (name : List ℕ) (ms : tree.Members) → target_fault name ms ≡ None → is_some (target_of ms) ≡ true
has_target name ms none = by (target_of ms) refl
  where
    by : (o : Option Target) → target_of ms ≡ o → is_some (target_of ms) ≡ true
    by (Some t) is = ap is_some is
    by None is = absurd (targetless name ms is none)

-- a connect form
pub connect_target : (s : Setting) (n : Name) (ms : tree.Members) (j : tree.Json) → Some j ≡ get (codes "connect") ms → item_fault s n (tree.object ms) ≡ None → is_some (target_of ms) ≡ true
connect_target s n ms j there none = has_target n.spelled ms (connect-target s n ms j (sym there) none)

pub connect_worded : (s : Setting) (n : Name) (ms : tree.Members) (j : tree.Json) → Some j ≡ get (codes "connect") ms → item_fault s n (tree.object ms) ≡ None → is_some (connect_word j) ≡ true
connect_worded s n ms j there none = connect-worded s n ms j (sym there) none

pub connect_shown : (s : Setting) (n : Name) (ms fs : tree.Members) (j : tree.Json) (t : Target) (w : ConnectWord) (p : Option ℕ) → Some j ≡ get (codes "connect") ms → item_fault s n (tree.object ms) ≡ None
    → target_of ms ≡ Some t → connect_word j ≡ Some w → p ≡ guid_member (codes "previous") ms → fs ≡ ms → item_of s n (tree.object ms) ≡ Ok (change.connect w t p fs)
connect_shown s n ms fs j t w p there none target word previous same =
    connect-spelled s n ms j t w (sym there) none target word ∙ (ap (λ (p : Option ℕ). Ok (change.connect w t p ms)) (sym previous) ∙ ap (λ (fs : tree.Members). Ok (change.connect w t p fs)) (sym same))

-- a nested create
pub nested_right : (s : Setting) (n : Name) (ms : tree.Members) (j : tree.Json) → None ≡ get (codes "connect") ms → Some j ≡ get (codes "create") ms → item_fault s n (tree.object ms) ≡ None → entries_fault (setting_of false ms) ms ≡ None
nested_right s n ms j no_connect there none = nested-given s n ms j (sym no_connect) (sym there) none

pub nested_worded : (s : Setting) (n : Name) (ms : tree.Members) (j : tree.Json) → None ≡ get (codes "connect") ms → Some j ≡ get (codes "create") ms → item_fault s n (tree.object ms) ≡ None → is_some (create_word j) ≡ true
nested_worded s n ms j no_connect there none = nested-worded s n ms j (sym no_connect) (sym there) none

pub nested_shown : (s : Setting) (n : Name) (ms : tree.Members) (j : tree.Json) (i : Item) → None ≡ get (codes "connect") ms → Some j ≡ get (codes "create") ms → item_fault s n (tree.object ms) ≡ None
    → option_map (λ w. change.nested w (spelled_entries (setting_of false ms) ms)) (create_word j) ≡ Some i → item_of s n (tree.object ms) ≡ Ok i
nested_shown s n ms j i no_connect there none shown =
    let word = mapped (create_word j) (λ w. change.nested w (spelled_entries (setting_of false ms) ms)) i shown in
    nested-spelled s n ms j word.value (sym no_connect) (sym there) none word.gave ∙ ap Ok word.is

-- a fact
pub fact_target : (s : Setting) (n : Name) (ms : tree.Members) → None ≡ get (codes "connect") ms → None ≡ get (codes "create") ms → item_fault s n (tree.object ms) ≡ None → is_some (target_of ms) ≡ true
fact_target s n ms no_connect no_create none = has_target n.spelled ms (fact-target s n ms (sym no_connect) (sym no_create) none)

pub fact_shown : (s : Setting) (n : Name) (ms : tree.Members) (i : Item) → None ≡ get (codes "connect") ms → None ≡ get (codes "create") ms → item_fault s n (tree.object ms) ≡ None
    → option_map (λ t. change.fact t ms) (target_of ms) ≡ Some i → item_of s n (tree.object ms) ≡ Ok i
fact_shown s n ms i no_connect no_create none shown =
    let target = mapped (target_of ms) (λ t. change.fact t ms) i shown in
    fact-spelled s n ms target.value (sym no_connect) (sym no_create) none target.gave ∙ ap Ok target.is

-- ---- members, one after another

pub entry_right : (s : Setting) (ms others : List (List ℕ × Json)) (m : List ℕ × Json) → ms ≡ m ∷ others → is_none (entries_fault s (members_view ms)) ≡ true → entry_fault s m.0 (view m.1) ≡ None
entry_right s ms others m is none =
    first-entry_given s m.0 (view m.1) (members_view others) (sym (ap (λ (xs : List (List ℕ × Json)). entries_fault s (members_view xs)) is) ∙ nothing (entries_fault s (members_view ms)) none)

pub entries_rest : (s : Setting) (ms others : List (List ℕ × Json)) (m : List ℕ × Json) → ms ≡ m ∷ others → is_none (entries_fault s (members_view ms)) ≡ true → entries_fault s (members_view others) ≡ None
entries_rest s ms others m is none =
    rest-entries_given s m.0 (view m.1) (members_view others) (sym (ap (λ (xs : List (List ℕ × Json)). entries_fault s (members_view xs)) is) ∙ nothing (entries_fault s (members_view ms)) none)

pub entries_split : (s : Setting) (ms others : List (List ℕ × Json)) (m : List ℕ × Json) → ms ≡ m ∷ others → spelled_entries s (members_view ms) ≡ spelled_entries s (tree.member m.0 (view m.1) (members_view others))
entries_split s ms others m is = ap (λ (xs : List (List ℕ × Json)). spelled_entries s (members_view xs)) is

pub entries_end : (s : Setting) (ms : List (List ℕ × Json)) → length ms ≡ 0 → spelled_entries s (members_view ms) ≡ change.no_members
entries_end s [] none = end-entries s
entries_end s (m ∷ ms) none = absurd (omega arith)

-- ---- items, one after another

pub item_right : (s : Setting) (n : Name) (js others : List Json) (j : Json) → js ≡ j ∷ others → is_none (items_fault s n (items_view js)) ≡ true → item_fault s n (view j) ≡ None
item_right s n js others j is none =
    first-item_given s n (view j) (items_view others) (sym (ap (λ (xs : List Json). items_fault s n (items_view xs)) is) ∙ nothing (items_fault s n (items_view js)) none)

pub items_rest : (s : Setting) (n : Name) (js others : List Json) (j : Json) → js ≡ j ∷ others → is_none (items_fault s n (items_view js)) ≡ true → items_fault s n (items_view others) ≡ None
items_rest s n js others j is none =
    rest-items_given s n (view j) (items_view others) (sym (ap (λ (xs : List Json). items_fault s n (items_view xs)) is) ∙ nothing (items_fault s n (items_view js)) none)

pub items_split : (s : Setting) (n : Name) (js others : List Json) (j : Json) (i : Item) → js ≡ j ∷ others → is_none (items_fault s n (items_view js)) ≡ true → item_of s n (view j) ≡ Ok i
    → spelled_items s n (items_view js) ≡ change.and_then i (spelled_items s n (items_view others))
items_split s n js others j i is none shown =
    ap (λ (xs : List Json). spelled_items s n (items_view xs)) is ∙ item-part s n (view j) (items_view others) i (items_rest s n js others j is none) shown

pub items_end : (s : Setting) (n : Name) (js : List Json) → length js ≡ 0 → spelled_items s n (items_view js) ≡ change.no_more
items_end s n [] none = end-items s n
items_end s n (j ∷ js) none = absurd (omega arith)

-- ---- the change

pub change_right : (s : Setting) (ms : tree.Members) → s ≡ setting_of true ms → change_fault (tree.object ms) ≡ None → is_none (entries_fault s ms) ≡ true
change_right s ms same none = nothing-told (entries_fault s ms) (ap (λ (s : Setting). entries_fault s ms) same ∙ change-entries ms none)

pub root_worded : (ms : tree.Members) (j : tree.Json) → Some j ≡ get (codes "create") ms → change_fault (tree.object ms) ≡ None → is_some (create_word j) ≡ true
root_worded ms j there none = change-worded ms j (sym there) none

pub root_create : (ms : tree.Members) (j : tree.Json) (r : change.Root) → Some j ≡ get (codes "create") ms → change_fault (tree.object ms) ≡ None → option_map (λ w. change.to_create w) (create_word j) ≡ Some r
    → spelled_change (tree.object ms) ≡ record { root = r; members = spelled_entries (setting_of true ms) ms }
root_create ms j r there none shown =
    let word = mapped (create_word j) (λ w. change.to_create w) r shown in
    create-spelled ms j word.value (sym there) word.gave none ∙ ap (λ (r : change.Root). let c : change.Change = record { root = r; members = spelled_entries (setting_of true ms) ms } in c) word.is

pub root_other : (ms : tree.Members) → None ≡ get (codes "create") ms → None ≡ option_or (text_member (codes "id") ms) (text_member (codes "guid") ms) → change_fault (tree.object ms) ≡ None → ⊥
root_other ms away nameless none = let named = ap is_some nameless ∙ change-named ms (sym away) none in cc

pub root_existing : (ms : tree.Members) (t : List ℕ) → None ≡ get (codes "create") ms → Some t ≡ option_or (text_member (codes "id") ms) (text_member (codes "guid") ms) → change_fault (tree.object ms) ≡ None
    → spelled_change (tree.object ms) ≡ record { root = change.existing_object t; members = spelled_entries (setting_of true ms) ms }
root_existing ms t away named none = existing-spelled ms t (sym away) (sym named) none
