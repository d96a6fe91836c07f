-- What a clause of a write without a fault of form spells, member by member.
use Rattle.std.proofs.Common.{◌≡◌, ℕ, List, [], ◌∷◌, Bool, true, false, not, ◌||◌, Option, Some, None, Result, Ok, Err, codes, refl, sym, ap, ◌∙◌}
use Rattle.std.specs.Prelude.{if◌then◌else◌, option_map, bytes_eq, ◌&&◌, is_some}
use Rattle.std.specs.Option.{option_or}
use Rattle.std.specs.Result.{result_err}
use Rattle.gd_grammar.specs.Chain.{◌>>=◌}
use Rattle.gd_tree.specs.Json.{Json, null, boolean, number, text, list, object, Items, no_items, item, Members as JsonMembers, no_members as no_json_members, member as json_member}
use Rattle.gd_tree.specs.Look.{is_null, get, members_in}
use Rattle.gd_defs.specs.Query.{Fault, Name, fault, or_fault, bad_write, bad_create, bad_connect, is_literal, is_id_text, is_word, all_items}
use Rattle.gd_defs.specs.Change as change
use Rattle.gd_defs.specs.Change.{Setting, CreateWord, ConnectWord, Target, Item, ManyItems, Members, create_in, create_word, connect_word, write_name, identity_item, by_name, item_of, items_of, members_of, object_item, list_item, is_form, is_connect_form, is_fact_form, setting_of, target_in, target_of, first_code, part_code, guid_member, text_member, change_of}
use Rattle.gd_form_laws.specs.Faults.{below}
use Rattle.gd_form_laws.specs.WriteFaults.{entries_fault, entry_fault, item_fault, items_fault, target_fault, change_fault}
use Rattle.gd_form_laws.specs.SpelledChange.{entries_or, items_or, spelled_entries, spelled_items, spelled_change, change_or}
use Rattle.gd_form_laws.proofs.First.{Given, given, or-first, or-second}
use Rattle.gd_form_laws.proofs.Changes.{entries-first, items-first, created-alone, identity-other, connect-item, created, plain-item, create-change, other-change}

-- a clause without a fault has none in its first member, nor in the others
pub first-entry_given : (s : Setting) (k : List ℕ) (j : Json) (ms : JsonMembers) → entries_fault s (json_member k j ms) ≡ None → entry_fault s k j ≡ None
first-entry_given s k j ms none = or-first (entry_fault s k j) (entries_fault s ms) (sym (entries-first s k j ms) ∙ none)

pub rest-entries_given : (s : Setting) (k : List ℕ) (j : Json) (ms : JsonMembers) → entries_fault s (json_member k j ms) ≡ None → entries_fault s ms ≡ None
rest-entries_given s k j ms none = or-second (entry_fault s k j) (entries_fault s ms) (sym (entries-first s k j ms) ∙ none)

entries_given : (s : Setting) (ms : JsonMembers) → entries_fault s ms ≡ None → Given (members_of s ms)
unfolding entries_fault
entries_given s ms none = given (members_of s ms) none

-- ---- the first member

-- `create` with its word, in front of the others
pub created-part : (s : Setting) (k : List ℕ) (j : Json) (ms : JsonMembers) (w : CreateWord) → entries_fault s ms ≡ None → bytes_eq k (codes "create") ≡ true → create_in s j ≡ Ok w
    → spelled_entries s (json_member k j ms) ≡ change.created w (spelled_entries s ms)
unfolding spelled_entries
created-part s k j ms w none is word =
    let rest = entries_given s ms none in
    let whole : members_of s (json_member k j ms) ≡ Ok (change.created w rest.value) = rw (is, word, rest.is) refl in
    ap entries_or whole ∙ ap (λ (r : Result Members Fault). change.created w (entries_or r)) (sym rest.is)

-- a name with what stands behind it, in front of the others
pub named-part : (s : Setting) (k : List ℕ) (j : Json) (ms : JsonMembers) (n : Name) (i : Item) → entries_fault s ms ≡ None → bytes_eq k (codes "create") ≡ false → write_name s.at_root k ≡ Ok n → by_name s n j (item_of s n j) ≡ Ok i
    → spelled_entries s (json_member k j ms) ≡ change.member n i (spelled_entries s ms)
unfolding spelled_entries
named-part s k j ms n i none other name form =
    let rest = entries_given s ms none in
    let whole : members_of s (json_member k j ms) ≡ Ok (change.member n i rest.value) = rw (other, name, form, rest.is) refl in
    ap entries_or whole ∙ ap (λ (r : Result Members Fault). change.member n i (entries_or r)) (sym rest.is)

pub end-entries : (s : Setting) → spelled_entries s no_json_members ≡ change.no_members
unfolding spelled_entries
end-entries s = refl

-- the word of a create
pub create-given : (s : Setting) (j : Json) (w : CreateWord) → result_err (create_in s j) ≡ None → create_word j ≡ Some w → create_in s j ≡ Ok w
create-given s j change.unconditional none is = rw is refl
create-given s j change.unless_exists none is = by s.has_fact refl none
  where
    by : (b : Bool) → s.has_fact ≡ b → result_err (create_in s j) ≡ None → create_in s j ≡ Ok change.unless_exists
    by true has none = rw (is, has) refl
    by false has none = absurd (let bad = rw (is, has) at none in cc)

pub create-wordless : (s : Setting) (j : Json) → create_word j ≡ None → result_err (create_in s j) ≡ None → ⊥
create-wordless s j is none = let bad = rw is at none in cc

-- ---- what stands behind a name

-- what is not null names the object
two_tests : (b c : Bool) (e f : Fault) (x : Item) → result_err (if b then Err e else if c then Ok x else Err f) ≡ None → (if b then Err e else if c then Ok x else Err f) ≡ Ok x
two_tests true c e f x none = cc
two_tests false true e f x none = refl
two_tests false false e f x none = cc

text_spelled : (s : Setting) (n : Name) (j : Json) → is_null j ≡ false → result_err (identity_item s n j) ≡ None → identity_item s n j ≡ Ok (change.plain j)
text_spelled s n j other none =
    let is = identity-other s n j other in
    is ∙ two_tests (s.creates || not (bytes_eq n.spelled (if s.has_id then codes "id" else codes "guid"))) (is_id_text j) _ _ (change.plain j) (sym (ap result_err is) ∙ none)

-- `id` and `guid`
pub identity-spelled : (s : Setting) (n : Name) (j : Json) → result_err (identity_item s n j) ≡ None → identity_item s n j ≡ Ok (if is_null j then change.blank else change.plain j)
identity-spelled s n null none = by (s.creates || (s.has_id && is_word (codes "guid") n.word)) none
  where
    by : (b : Bool) → result_err (if b then Ok change.blank else fault bad_write n.spelled) ≡ None → (if b then Ok change.blank else fault bad_write n.spelled) ≡ Ok change.blank
    by true none = refl
    by false none = cc
identity-spelled s n (boolean b) none = text_spelled s n (boolean b) refl none
identity-spelled s n (number m) none = text_spelled s n (number m) refl none
identity-spelled s n (text t) none = text_spelled s n (text t) refl none
identity-spelled s n (list js) none = text_spelled s n (list js) refl none
identity-spelled s n (object ms) none = text_spelled s n (object ms) refl none

-- a form {..} has a target
pub target-given : (name : List ℕ) (ms : JsonMembers) (t : Target) → target_fault name ms ≡ None → target_of ms ≡ Some t → target_in name ms ≡ Ok t
unfolding target_fault
target-given name ms t none is = by (first_code (part_code ms) ms) refl none
  where
    by : (o : Option Fault) → first_code (part_code ms) ms ≡ o → result_err (target_in name ms) ≡ None → target_in name ms ≡ Ok t
    by None first none = rw (first, is) refl
    by (Some f) first none = absurd (let bad = rw first at none in cc)

pub targetless : (name : List ℕ) (ms : JsonMembers) → target_of ms ≡ None → target_fault name ms ≡ None → ⊥
unfolding target_fault
targetless name ms is none = by (first_code (part_code ms) ms) refl none
  where
    by : (o : Option Fault) → first_code (part_code ms) ms ≡ o → result_err (target_in name ms) ≡ None → ⊥
    by None first none = let bad = rw (first, is) at none in cc
    by (Some f) first none = let bad = rw first at none in cc

-- by tests: where there is no fault the test holds, and what stands behind it has none
tested : (b : Bool) (e : Option Fault) (f : Fault) → (if b then e else Some f) ≡ None → (b ≡ true) × (e ≡ None)
tested true e f none = (refl, none)
tested false e f none = cc

unless_none : (b : Bool) (f : Fault) → (if b then None else Some f) ≡ None → b ≡ true
unless_none true f none = refl
unless_none false f none = cc

not_below : (k : List ℕ) (e : Option Fault) → option_map (below k) e ≡ None → e ≡ None
not_below k None none = refl
not_below k (Some f) none = cc

-- a connect form: its names, its target and its word
connect_tests : (s : Setting) (n : Name) (ms : JsonMembers) (j : Json) → get (codes "connect") ms ≡ Some j → item_fault s n (object ms) ≡ None
    → (is_connect_form ms ≡ true) × (option_or (target_fault n.spelled ms) (if is_some (connect_word j) then None else Some (record { code = bad_connect; path = n.spelled ∷ [] })) ≡ None)
connect_tests s n ms j there none = tested (is_connect_form ms) _ _ (sym (connect-item s n ms j there) ∙ none)

pub connect-target : (s : Setting) (n : Name) (ms : JsonMembers) (j : Json) → get (codes "connect") ms ≡ Some j → item_fault s n (object ms) ≡ None → target_fault n.spelled ms ≡ None
connect-target s n ms j there none = or-first (target_fault n.spelled ms) _ (connect_tests s n ms j there none).1

pub connect-worded : (s : Setting) (n : Name) (ms : JsonMembers) (j : Json) → get (codes "connect") ms ≡ Some j → item_fault s n (object ms) ≡ None → is_some (connect_word j) ≡ true
connect-worded s n ms j there none = unless_none (is_some (connect_word j)) _ (or-second (target_fault n.spelled ms) _ (connect_tests s n ms j there none).1)

pub connect-spelled : (s : Setting) (n : Name) (ms : JsonMembers) (j : Json) (t : Target) (w : ConnectWord) → get (codes "connect") ms ≡ Some j → item_fault s n (object ms) ≡ None → target_of ms ≡ Some t → connect_word j ≡ Some w
    → item_of s n (object ms) ≡ Ok (change.connect w t (guid_member (codes "previous") ms) ms)
connect-spelled s n ms j t w there none target word = rw (there, (connect_tests s n ms j there none).0, target-given n.spelled ms t (connect-target s n ms j there none) target, word) refl

-- a nested create: its members and its word
nested_tests : (s : Setting) (n : Name) (ms : JsonMembers) (j : Json) → get (codes "connect") ms ≡ None → get (codes "create") ms ≡ Some j → item_fault s n (object ms) ≡ None
    → option_or (entries_fault (setting_of false ms) ms) (if is_some (create_word j) then None else Some (record { code = bad_create; path = codes "create" ∷ [] })) ≡ None
nested_tests s n ms j no_connect there none = not_below n.spelled _ (sym (created s n ms j no_connect there) ∙ none)

pub nested-given : (s : Setting) (n : Name) (ms : JsonMembers) (j : Json) → get (codes "connect") ms ≡ None → get (codes "create") ms ≡ Some j → item_fault s n (object ms) ≡ None → entries_fault (setting_of false ms) ms ≡ None
nested-given s n ms j no_connect there none = or-first (entries_fault (setting_of false ms) ms) _ (nested_tests s n ms j no_connect there none)

pub nested-worded : (s : Setting) (n : Name) (ms : JsonMembers) (j : Json) → get (codes "connect") ms ≡ None → get (codes "create") ms ≡ Some j → item_fault s n (object ms) ≡ None → is_some (create_word j) ≡ true
nested-worded s n ms j no_connect there none = unless_none (is_some (create_word j)) _ (or-second (entries_fault (setting_of false ms) ms) _ (nested_tests s n ms j no_connect there none))

nested_item : (s : Setting) (n : Name) (ms : JsonMembers) (j : Json) (w : CreateWord) (r : Result Members Fault) → get (codes "connect") ms ≡ None → get (codes "create") ms ≡ Some j → create_word j ≡ Some w → result_err r ≡ None
    → object_item s n ms r ≡ Ok (change.nested w (entries_or r))
nested_item s n ms j w (Ok c) no_connect there word none = rw (no_connect, there, word) refl
nested_item s n ms j w (Err f) no_connect there word none = absurd (cc)

nested_spelled : (s : Setting) (n : Name) (ms : JsonMembers) (j : Json) (w : CreateWord) → get (codes "connect") ms ≡ None → get (codes "create") ms ≡ Some j → create_word j ≡ Some w → entries_fault (setting_of false ms) ms ≡ None
    → item_of s n (object ms) ≡ Ok (change.nested w (spelled_entries (setting_of false ms) ms))
unfolding entries_fault spelled_entries
nested_spelled s n ms j w no_connect there word none = nested_item s n ms j w (members_of (setting_of false ms) ms) no_connect there word none

pub nested-spelled : (s : Setting) (n : Name) (ms : JsonMembers) (j : Json) (w : CreateWord) → get (codes "connect") ms ≡ None → get (codes "create") ms ≡ Some j → item_fault s n (object ms) ≡ None → create_word j ≡ Some w
    → item_of s n (object ms) ≡ Ok (change.nested w (spelled_entries (setting_of false ms) ms))
nested-spelled s n ms j w no_connect there none word = nested_spelled s n ms j w no_connect there word (nested-given s n ms j no_connect there none)

-- a fact as a form
fact_tests : (s : Setting) (n : Name) (ms : JsonMembers) → get (codes "connect") ms ≡ None → get (codes "create") ms ≡ None → item_fault s n (object ms) ≡ None → ((s.creates && is_fact_form ms) ≡ true) × (target_fault n.spelled ms ≡ None)
fact_tests s n ms no_connect no_create none = tested (s.creates && is_fact_form ms) _ _ (sym (plain-item s n ms no_connect no_create) ∙ none)

pub fact-target : (s : Setting) (n : Name) (ms : JsonMembers) → get (codes "connect") ms ≡ None → get (codes "create") ms ≡ None → item_fault s n (object ms) ≡ None → target_fault n.spelled ms ≡ None
fact-target s n ms no_connect no_create none = (fact_tests s n ms no_connect no_create none).1

pub fact-spelled : (s : Setting) (n : Name) (ms : JsonMembers) (t : Target) → get (codes "connect") ms ≡ None → get (codes "create") ms ≡ None → item_fault s n (object ms) ≡ None → target_of ms ≡ Some t
    → item_of s n (object ms) ≡ Ok (change.fact t ms)
fact-spelled s n ms t no_connect no_create none target =
    let tests = fact_tests s n ms no_connect no_create none in
    rw (no_connect, no_create, tests.0, target-given n.spelled ms t tests.1 target) refl

-- ---- lists

list_tests : (s : Setting) (n : Name) (js : Items) (r : Result ManyItems Fault) → result_err (list_item s n js r) ≡ None → (result_err r ≡ None) × (list_item s n js r ≡ Ok (change.several (items_or r)))
list_tests s n no_items r none = cc
list_tests s n (item j js) (Ok is) none = by (all_items is_form (item j js) || (s.creates && all_items is_literal (item j js))) (all_items is_literal (item j js)) refl refl none
  where
    by : (b c : Bool) → (all_items is_form (item j js) || (s.creates && all_items is_literal (item j js))) ≡ b → all_items is_literal (item j js) ≡ c → result_err (list_item s n (item j js) (Ok is)) ≡ None
        → (result_err {T = ManyItems} {E = Fault} (Ok is) ≡ None) × (list_item s n (item j js) (Ok is) ≡ Ok (change.several is))
    by true c on literals none = (refl, rw on refl)
    by false true off literals none = absurd (let bad = rw (off, literals) at none in cc)
    by false false off literals none = absurd (let bad = rw (off, literals) at none in cc)
list_tests s n (item j js) (Err f) none = absurd (by (all_items is_form (item j js) || (s.creates && all_items is_literal (item j js))) (all_items is_literal (item j js)) refl refl none)
  where
    by : (b c : Bool) → (all_items is_form (item j js) || (s.creates && all_items is_literal (item j js))) ≡ b → all_items is_literal (item j js) ≡ c → result_err (list_item s n (item j js) (Err f)) ≡ None → ⊥
    by true c on literals none = let bad = rw on at none in cc
    by false true off literals none = let bad = rw (off, literals) at none in cc
    by false false off literals none = let bad = rw (off, literals) at none in cc

pub list-given : (s : Setting) (n : Name) (js : Items) → item_fault s n (list js) ≡ None → items_fault s n js ≡ None
unfolding item_fault items_fault
list-given s n js none = (list_tests s n js (items_of s n js) none).0

pub list-spelled : (s : Setting) (n : Name) (js : Items) → item_fault s n (list js) ≡ None → item_of s n (list js) ≡ Ok (change.several (spelled_items s n js))
unfolding item_fault spelled_items
list-spelled s n js none = (list_tests s n js (items_of s n js) none).1

-- items without a fault have none in the first, nor in the others
pub first-item_given : (s : Setting) (n : Name) (j : Json) (js : Items) → items_fault s n (item j js) ≡ None → item_fault s n j ≡ None
first-item_given s n j js none = or-first (item_fault s n j) (items_fault s n js) (sym (items-first s n j js) ∙ none)

pub rest-items_given : (s : Setting) (n : Name) (j : Json) (js : Items) → items_fault s n (item j js) ≡ None → items_fault s n js ≡ None
rest-items_given s n j js none = or-second (item_fault s n j) (items_fault s n js) (sym (items-first s n j js) ∙ none)

items_given : (s : Setting) (n : Name) (js : Items) → items_fault s n js ≡ None → Given (items_of s n js)
unfolding items_fault
items_given s n js none = given (items_of s n js) none

pub item-part : (s : Setting) (n : Name) (j : Json) (js : Items) (i : Item) → items_fault s n js ≡ None → item_of s n j ≡ Ok i → spelled_items s n (item j js) ≡ change.and_then i (spelled_items s n js)
unfolding spelled_items
item-part s n j js i none is =
    let rest = items_given s n js none in
    let whole : items_of s n (item j js) ≡ Ok (change.and_then i rest.value) = rw (is, rest.is) refl in
    ap items_or whole ∙ ap (λ (r : Result ManyItems Fault). change.and_then i (items_or r)) (sym rest.is)

pub end-items : (s : Setting) (n : Name) → spelled_items s n no_items ≡ change.no_more
unfolding spelled_items
end-items s n = refl

-- null is none of them, and a literal is itself
pub literal-spelled : (s : Setting) (n : Name) (j : Json) → is_literal j ≡ true → item_of s n j ≡ Ok (change.plain j)
literal-spelled s n null is = cc
literal-spelled s n (boolean b) is = refl
literal-spelled s n (number m) is = refl
literal-spelled s n (text t) is = refl
literal-spelled s n (list js) is = cc
literal-spelled s n (object ms) is = cc

pub null-refused : (s : Setting) (n : Name) → item_fault s n null ≡ None → ⊥
unfolding item_fault
null-refused s n none = cc

-- ---- the change of a write

-- its members have no fault, whatever its root is
pub change-entries : (ms : JsonMembers) → change_fault (object ms) ≡ None → entries_fault (setting_of true ms) ms ≡ None
change-entries ms none = by (get (codes "create") ms) refl
  where
    by : (o : Option Json) → get (codes "create") ms ≡ o → entries_fault (setting_of true ms) ms ≡ None
    by (Some j) there = or-first (entries_fault (setting_of true ms) ms) _ (sym (create-change ms j there) ∙ none)
    by None away = (tested (is_some (option_or (text_member (codes "id") ms) (text_member (codes "guid") ms))) _ _ (sym (other-change ms away) ∙ none)).1

-- a root that creates has a word
pub change-worded : (ms : JsonMembers) (j : Json) → get (codes "create") ms ≡ Some j → change_fault (object ms) ≡ None → is_some (create_word j) ≡ true
change-worded ms j there none = unless_none (is_some (create_word j)) _ (or-second (entries_fault (setting_of true ms) ms) _ (sym (create-change ms j there) ∙ none))

-- another names an object
pub change-named : (ms : JsonMembers) → get (codes "create") ms ≡ None → change_fault (object ms) ≡ None → is_some (option_or (text_member (codes "id") ms) (text_member (codes "guid") ms)) ≡ true
change-named ms away none = (tested (is_some (option_or (text_member (codes "id") ms) (text_member (codes "guid") ms))) _ _ (sym (other-change ms away) ∙ none)).0

create_steps : (ms : JsonMembers) (r : Result Members Fault) (w : CreateWord) (j : Json) → create_word j ≡ Some w → result_err r ≡ None
    → change_or (r >>= λ c. or_fault bad_create (codes "create") (create_word j) >>= λ w. Ok (record { root = change.to_create w; members = c })) ≡ record { root = change.to_create w; members = entries_or r }
create_steps ms (Ok c) w j word none = rw word refl
create_steps ms (Err f) w j word none = absurd (cc)

create_told : (ms : JsonMembers) (j : Json) (w : CreateWord) (c : Members) → get (codes "create") ms ≡ Some j → create_word j ≡ Some w → result_err (members_of (setting_of true ms) ms) ≡ None → entries_or (members_of (setting_of true ms) ms) ≡ c
    → change_or (change_of (object ms)) ≡ record { root = change.to_create w; members = c }
create_told ms j w c there word none is =
    rw there (create_steps ms (members_of (setting_of true ms) ms) w j word none ∙ ap (λ (c : Members). let d : change.Change = record { root = change.to_create w; members = c } in d) is)

create_change : (ms : JsonMembers) (j : Json) (w : CreateWord) → get (codes "create") ms ≡ Some j → create_word j ≡ Some w → entries_fault (setting_of true ms) ms ≡ None
    → spelled_change (object ms) ≡ record { root = change.to_create w; members = spelled_entries (setting_of true ms) ms }
unfolding entries_fault spelled_entries spelled_change
create_change ms j w there word none = create_told ms j w _ there word none refl

pub create-spelled : (ms : JsonMembers) (j : Json) (w : CreateWord) → get (codes "create") ms ≡ Some j → create_word j ≡ Some w → change_fault (object ms) ≡ None
    → spelled_change (object ms) ≡ record { root = change.to_create w; members = spelled_entries (setting_of true ms) ms }
create-spelled ms j w there word none = create_change ms j w there word (change-entries ms none)

named_steps : (r : Result Members Fault) (t : List ℕ) → result_err r ≡ None
    → change_or (r >>= λ c. Ok (record { root = change.existing_object t; members = c })) ≡ record { root = change.existing_object t; members = entries_or r }
named_steps (Ok c) t none = refl
named_steps (Err f) t none = absurd (cc)

named_told : (ms : JsonMembers) (t : List ℕ) (c : Members) → get (codes "create") ms ≡ None → option_or (text_member (codes "id") ms) (text_member (codes "guid") ms) ≡ Some t → result_err (members_of (setting_of true ms) ms) ≡ None
    → entries_or (members_of (setting_of true ms) ms) ≡ c → change_or (change_of (object ms)) ≡ record { root = change.existing_object t; members = c }
named_told ms t c away named none is =
    rw (away, named) (named_steps (members_of (setting_of true ms) ms) t none ∙ ap (λ (c : Members). let d : change.Change = record { root = change.existing_object t; members = c } in d) is)

named_change : (ms : JsonMembers) (t : List ℕ) → get (codes "create") ms ≡ None → option_or (text_member (codes "id") ms) (text_member (codes "guid") ms) ≡ Some t → entries_fault (setting_of true ms) ms ≡ None
    → spelled_change (object ms) ≡ record { root = change.existing_object t; members = spelled_entries (setting_of true ms) ms }
unfolding entries_fault spelled_entries spelled_change
named_change ms t away named none = named_told ms t _ away named none refl

pub existing-spelled : (ms : JsonMembers) (t : List ℕ) → get (codes "create") ms ≡ None → option_or (text_member (codes "id") ms) (text_member (codes "guid") ms) ≡ Some t → change_fault (object ms) ≡ None
    → spelled_change (object ms) ≡ record { root = change.existing_object t; members = spelled_entries (setting_of true ms) ms }
existing-spelled ms t away named none = named_change ms t away named (change-entries ms none)

-- a value that is no object is no change
pub other-refused : (j : Json) → members_in j ≡ None → change_fault j ≡ None → ⊥
unfolding change_fault
other-refused null is none = cc
other-refused (boolean b) is none = cc
other-refused (number m) is none = cc
other-refused (text t) is none = cc
other-refused (list js) is none = cc
other-refused (object ms) is none = cc

-- `create` in a clause without a fault
pub create-led : (s : Setting) (j : Json) (ms : JsonMembers) (w : CreateWord) → entries_fault s (json_member (codes "create") j ms) ≡ None → create_word j ≡ Some w
    → spelled_entries s (json_member (codes "create") j ms) ≡ change.created w (spelled_entries s ms)
create-led s j ms w none is =
    let alone : result_err (create_in s j) ≡ None = sym (created-alone s (codes "create") j refl) ∙ first-entry_given s (codes "create") j ms none in
    created-part s (codes "create") j ms w (rest-entries_given s (codes "create") j ms none) refl (create-given s j w alone is)
