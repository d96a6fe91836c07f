-- The first fault of a write, member by member.
use Rattle.std.proofs.Common.{◌≡◌, ℕ, List, [], ◌∷◌, Bool, true, false, not, ◌||◌, Option, Some, None, Result, Ok, Err, codes, refl, sym}
use Rattle.std.specs.Prelude.{if◌then◌else◌, option_map, is_some, bytes_eq, ◌&&◌}
use Rattle.std.specs.Option.{option_or, ok_or}
use Rattle.std.specs.Result.{result_err}
use Rattle.gd_grammar.specs.Chain.{◌>>=◌}
use Rattle.gd_tree.specs.Json.{Json, null, boolean, number, text, list, object, Items, no_items, item, Members, no_members, member}
use Rattle.gd_tree.specs.Look.{is_null, get}
use Rattle.gd_defs.specs.Query.{Fault, Code, Name, fault, or_fault, within, bad_write, bad_create, bad_connect, bad_operand, bad_directive, list_form, member_name, is_directive, has_operator, is_link, is_computed, is_identity, is_literal, is_id_text, all_items}
use Rattle.gd_defs.specs.Change as change
use Rattle.gd_defs.specs.Change.{Setting, CreateWord, unless_exists, unconditional, Item, Target, connect, nested, fact, create_in, create_word, connect_word, write_name, identity_item, by_name, item_of, items_of, members_of, object_item, list_item, is_form, is_connect_form, is_fact_form, setting_of, target_in, target_of, first_code, part_code, guid_member, text_member, change_of}
use Rattle.gd_form_laws.specs.Faults.{below}
use Rattle.gd_form_laws.specs.WriteFaults.{entries_fault, entry_fault, named_item_fault, item_fault, items_fault, target_fault, change_fault, create_fits, is_written, list_code}
use Rattle.gd_form_laws.proofs.First.{err-map, err-chain, err-if}

-- two steps and then the rest
err-chain_2 : {A B C D E : Type 0} (a : Result A E) (b : A → Result B E) (rest : Result C E) (f : A → B → C → D) (c : C)
    → result_err (a >>= λ x. b x >>= λ y. rest >>= λ z. Ok (f x y z)) ≡ option_or (result_err (a >>= λ x. b x >>= λ y. Ok (f x y c))) (result_err rest)
err-chain_2 (Ok x) b rest f c = err-chain (b x) rest (λ y z. f x y z) c
err-chain_2 (Err e) b rest f c = refl

-- the fault of the members of a clause is that of the first, else that of the others
pub entries-first : (s : Setting) (k : List ℕ) (j : Json) (ms : Members) → entries_fault s (member k j ms) ≡ option_or (entry_fault s k j) (entries_fault s ms)
unfolding entries_fault entry_fault
entries-first s k j ms =
    err-if (bytes_eq k (codes "create")) _ _ _ _ _ (err-chain (create_in s j) (members_of s ms) (λ w rest. change.created w rest) change.no_members)
    (err-chain_2 (write_name s.at_root k) (λ n. by_name s n j (item_of s n j)) (members_of s ms) (λ n i rest. change.member n i rest) change.no_members)

pub no-entries : (s : Setting) → entries_fault s no_members ≡ None
unfolding entries_fault
no-entries s = refl

-- ---- a member alone

-- `create` alone
pub created-alone : (s : Setting) (k : List ℕ) (j : Json) → bytes_eq k (codes "create") ≡ true → entry_fault s k j ≡ result_err (create_in s j)
unfolding entry_fault
created-alone s k j is = rw is (err-map (create_in s j) (λ w. change.created w change.no_members))

-- a member whose name has a fault
pub misnamed-entry : (s : Setting) (k : List ℕ) (j : Json) (f : Fault) → bytes_eq k (codes "create") ≡ false → write_name s.at_root k ≡ Err f → entry_fault s k j ≡ Some f
unfolding entry_fault
misnamed-entry s k j f other name = rw (other, name) refl

-- a member with a name
pub named-entry : (s : Setting) (k : List ℕ) (j : Json) (n : Name) → bytes_eq k (codes "create") ≡ false → write_name s.at_root k ≡ Ok n → entry_fault s k j ≡ named_item_fault s n j
unfolding entry_fault named_item_fault
named-entry s k j n other name = rw (other, name) (err-map (by_name s n j (item_of s n j)) (λ i. change.member n i change.no_members))

pub identity-entry : (s : Setting) (n : Name) (j : Json) → is_identity n.word ≡ true → named_item_fault s n j ≡ result_err (identity_item s n j)
unfolding named_item_fault
identity-entry s n j is = rw is refl

pub other-entry : (s : Setting) (n : Name) (j : Json) → is_identity n.word ≡ false → named_item_fault s n j ≡ item_fault s n j
unfolding named_item_fault item_fault
other-entry s n j is = rw is refl

-- the word of a create
pub create-told : (s : Setting) (j : Json) (o : Option CreateWord) → o ≡ create_word j → result_err (create_in s j) ≡ (if create_fits s o then None else Some (record { code = bad_create; path = codes "create" ∷ [] }))
create-told s j None is = rw (← is) refl
create-told s j (Some unconditional) is = rw (← is) refl
create-told s j (Some unless_exists) is = by s.has_fact refl
  where
    by : (b : Bool) → s.has_fact ≡ b → result_err (create_in s j) ≡ (if s.has_fact then None else Some (record { code = bad_create; path = codes "create" ∷ [] }))
    by true has = rw (← is, has) refl
    by false has = rw (← is, has) refl

-- ---- names

pub directive_write : (root : Bool) (k : List ℕ) → is_directive k ≡ true → write_name root k ≡ Err (record { code = bad_directive; path = k ∷ [] })
directive_write root k is = rw is refl

pub misnamed_write : (root : Bool) (k : List ℕ) (f : Fault) → is_directive k ≡ false → member_name root k ≡ Err f → write_name root k ≡ Err f
misnamed_write root k f is name = rw (is, name) refl

pub unwritten_name : (root : Bool) (k : List ℕ) (n : Name) → is_directive k ≡ false → member_name root k ≡ Ok n → is_written n ≡ false → write_name root k ≡ Err (record { code = bad_write; path = k ∷ [] })
unwritten_name root k n is name off = rw (is, name) (by (has_operator n || is_link n.word || (is_computed n.word && not (is_identity n.word))) off)
  where
    by : (b : Bool) → not b ≡ false → (if b then fault bad_write k else Ok n) ≡ Err (record { code = bad_write; path = k ∷ [] })
    by true off = refl
    by false off = cc

pub written_name : (root : Bool) (k : List ℕ) (n : Name) → is_directive k ≡ false → member_name root k ≡ Ok n → is_written n ≡ true → write_name root k ≡ Ok n
written_name root k n is name on = rw (is, name) (by (has_operator n || is_link n.word || (is_computed n.word && not (is_identity n.word))) on)
  where
    by : (b : Bool) → not b ≡ true → (if b then fault bad_write k else Ok n) ≡ Ok n
    by true on = cc
    by false on = refl

-- ---- `id` and `guid`

pub identity-other : (s : Setting) (n : Name) (j : Json) → is_null j ≡ false
    → identity_item s n j ≡ (if s.creates || not (bytes_eq n.spelled (if s.has_id then codes "id" else codes "guid")) then fault bad_write n.spelled else if is_id_text j then Ok (change.plain j) else fault bad_operand n.spelled)
identity-other s n null other = cc
identity-other s n (boolean b) other = refl
identity-other s n (number m) other = refl
identity-other s n (text t) other = refl
identity-other s n (list js) other = refl
identity-other s n (object ms) other = refl

-- ---- forms

told : {A : Type 0} (o : Option A) (e : Fault) → result_err (ok_or o e) ≡ (if is_some o then None else Some e)
told (Some x) e = refl
told None e = refl

-- a value of another kind
pub null-item : (s : Setting) (n : Name) → item_fault s n null ≡ Some (record { code = bad_write; path = n.spelled ∷ [] })
unfolding item_fault
null-item s n = refl

pub literal-item : (s : Setting) (n : Name) (j : Json) → is_literal j ≡ true → item_fault s n j ≡ None
unfolding item_fault
literal-item s n null is = cc
literal-item s n (boolean b) is = refl
literal-item s n (number m) is = refl
literal-item s n (text t) is = refl
literal-item s n (list js) is = cc
literal-item s n (object ms) is = cc

-- a connect form, of which not all names fit
pub unconnected : (s : Setting) (n : Name) (ms : Members) (j : Json) → get (codes "connect") ms ≡ Some j → is_connect_form ms ≡ false → item_fault s n (object ms) ≡ Some (record { code = bad_write; path = n.spelled ∷ [] })
unfolding item_fault
unconnected s n ms j there off = rw (there, off) refl

-- a connect form: its target, and then its word
pub connected : (s : Setting) (n : Name) (ms : Members) (j : Json) → get (codes "connect") ms ≡ Some j → is_connect_form ms ≡ true
    → item_fault s n (object ms) ≡ option_or (target_fault n.spelled ms) (if is_some (connect_word j) then None else Some (record { code = bad_connect; path = n.spelled ∷ [] }))
unfolding item_fault target_fault
connected s n ms j there on = rw (there, on) (steps (target_in n.spelled ms) (connect_word j))
  where
    steps : (t : Result Target Fault) (o : Option change.ConnectWord)
        → result_err (t >>= λ t. or_fault bad_connect n.spelled o >>= λ w. Ok (connect w t (guid_member (codes "previous") ms) ms))
        ≡ option_or (result_err t) (if is_some o then None else Some (record { code = bad_connect; path = n.spelled ∷ [] }))
    steps (Ok t) (Some w) = refl
    steps (Ok t) None = refl
    steps (Err e) o = refl

nested-told : (s : Setting) (n : Name) (ms : Members) (j : Json) (r : Result change.Members Fault) → get (codes "connect") ms ≡ None → get (codes "create") ms ≡ Some j
    → result_err (object_item s n ms r) ≡ option_map (below n.spelled) (option_or (result_err r) (if is_some (create_word j) then None else Some (record { code = bad_create; path = codes "create" ∷ [] })))
nested-told s n ms j r none there = rw (none, there) (steps r (create_word j))
  where
    steps : (r : Result change.Members Fault) (o : Option CreateWord)
        → result_err (within n.spelled (r >>= λ c. or_fault bad_create (codes "create") o >>= λ w. Ok (nested w c)))
        ≡ option_map (below n.spelled) (option_or (result_err r) (if is_some o then None else Some (record { code = bad_create; path = codes "create" ∷ [] })))
    steps (Ok c) (Some w) = refl
    steps (Ok c) None = refl
    steps (Err e) o = refl

-- a nested create: its members, and then its word
pub created : (s : Setting) (n : Name) (ms : Members) (j : Json) → get (codes "connect") ms ≡ None → get (codes "create") ms ≡ Some j
    → item_fault s n (object ms) ≡ option_map (below n.spelled) (option_or (entries_fault (setting_of false ms) ms) (if is_some (create_word j) then None else Some (record { code = bad_create; path = codes "create" ∷ [] })))
unfolding item_fault entries_fault
created s n ms j none there = nested-told s n ms j (members_of (setting_of false ms) ms) none there

-- a fact as a form, in a create
pub fact-item : (s : Setting) (n : Name) (ms : Members) → get (codes "connect") ms ≡ None → get (codes "create") ms ≡ None → (s.creates && is_fact_form ms) ≡ true
    → item_fault s n (object ms) ≡ target_fault n.spelled ms
unfolding item_fault target_fault
fact-item s n ms none none' on = rw (none, none', on) (err-map (target_in n.spelled ms) (λ t. fact t ms))

pub no_fact-item : (s : Setting) (n : Name) (ms : Members) → get (codes "connect") ms ≡ None → get (codes "create") ms ≡ None → (s.creates && is_fact_form ms) ≡ false
    → item_fault s n (object ms) ≡ Some (record { code = bad_write; path = n.spelled ∷ [] })
unfolding item_fault
no_fact-item s n ms none none' off = rw (none, none', off) refl

-- ---- targets

-- a part that is not as its name asks
pub part-target : (name : List ℕ) (ms : Members) (f : Fault) → first_code (part_code ms) ms ≡ Some f → target_fault name ms ≡ Some (below name f)
unfolding target_fault
part-target name ms f is = rw is refl

-- all parts are as their names ask
pub whole-target : (name : List ℕ) (ms : Members) (b : Bool) → first_code (part_code ms) ms ≡ None → is_some (target_of ms) ≡ b → target_fault name ms ≡ (if b then None else Some (record { code = bad_write; path = name ∷ [] }))
unfolding target_fault
whole-target name ms b none is = rw (none, ← is) (told (target_of ms) (record { code = bad_write; path = name ∷ [] }))

-- the first code of parts
pub first_code-first : (code : List ℕ → Json → Option Code) (k : List ℕ) (j : Json) (ms : Members)
    → first_code code (member k j ms) ≡ option_or (option_map (λ c. record { code = c; path = k ∷ [] }) (code k j)) (first_code code ms)
first_code-first code k j ms = refl

-- ---- lists

-- the code of a list stands for a fault at its member, without one its items decide
abbrev pub in_list : Name → Option Code → Option Fault → Option Fault
in_list n (Some c) items = Some (record { code = c; path = n.spelled ∷ [] })
in_list n None items = items

-- what a list is, by its code
pub list-item : (s : Setting) (n : Name) (js : Items) (o : Option Code) → o ≡ list_code s js → item_fault s n (list js) ≡ in_list n o (items_fault s n js)
unfolding item_fault items_fault
list-item s n no_items o is = rw is refl
list-item s n (item j js) o is =
    by (all_items is_form (item j js) || (s.creates && all_items is_literal (item j js))) (all_items is_literal (item j js)) refl refl
  where
    by : (b c : Bool) → (all_items is_form (item j js) || (s.creates && all_items is_literal (item j js))) ≡ b → all_items is_literal (item j js) ≡ c
        → result_err (list_item s n (item j js) (items_of s n (item j js))) ≡ in_list n o (result_err (items_of s n (item j js)))
    by true c on literals = let code : o ≡ None = rw on at is in rw (on, code) (err-map (items_of s n (item j js)) (λ i. change.several i))
    by false true off literals = let code : o ≡ Some bad_write = rw (off, literals) at is in rw (off, literals, code) refl
    by false false off literals = let code : o ≡ Some list_form = rw (off, literals) at is in rw (off, literals, code) refl

-- the fault of items is that of the first, else that of the others
pub items-first : (s : Setting) (n : Name) (j : Json) (js : Items) → items_fault s n (item j js) ≡ option_or (item_fault s n j) (items_fault s n js)
unfolding items_fault item_fault
items-first s n j js = steps (item_of s n j) (items_of s n js)
  where
    steps : (r : Result Item Fault) (rest : Result change.ManyItems Fault) → result_err (r >>= λ i. rest >>= λ is. Ok (change.and_then i is)) ≡ option_or (result_err r) (result_err rest)
    steps (Ok i) (Ok is) = refl
    steps (Ok i) (Err e) = refl
    steps (Err e) rest = refl

pub no-items : (s : Setting) (n : Name) → items_fault s n no_items ≡ None
unfolding items_fault
no-items s n = refl

-- ---- the change of a write

create-steps : (r : Result change.Members Fault) (o : Option CreateWord) (e : Option Fault) → e ≡ result_err r
    → result_err {T = change.Change} (r >>= λ c. or_fault bad_create (codes "create") o >>= λ w. Ok (record { root = change.to_create w; members = c }))
    ≡ option_or e (if is_some o then None else Some (record { code = bad_create; path = codes "create" ∷ [] }))
create-steps (Ok c) (Some w) e is = rw is refl
create-steps (Ok c) None e is = rw is refl
create-steps (Err f) o e is = rw is refl

name-steps : (r : Result change.Members Fault) (t : List ℕ) (e : Option Fault) → e ≡ result_err r → result_err {T = change.Change} (r >>= λ c. Ok (record { root = change.existing_object t; members = c })) ≡ e
name-steps (Ok c) t e is = sym is
name-steps (Err f) t e is = sym is

create-told_by : (ms : Members) (j : Json) (e : Option Fault) → get (codes "create") ms ≡ Some j → e ≡ result_err (members_of (setting_of true ms) ms)
    → result_err (change_of (object ms)) ≡ option_or e (if is_some (create_word j) then None else Some (record { code = bad_create; path = codes "create" ∷ [] }))
create-told_by ms j e there is = rw there (create-steps (members_of (setting_of true ms) ms) (create_word j) e is)

name-told_by : (ms : Members) (t : List ℕ) (e : Option Fault) → get (codes "create") ms ≡ None → option_or (text_member (codes "id") ms) (text_member (codes "guid") ms) ≡ Some t
    → e ≡ result_err (members_of (setting_of true ms) ms) → result_err (change_of (object ms)) ≡ e
name-told_by ms t e none named is = rw (none, named) (name-steps (members_of (setting_of true ms) ms) t e is)

-- a root that creates: its members, and then its word
pub create-change : (ms : Members) (j : Json) → get (codes "create") ms ≡ Some j
    → change_fault (object ms) ≡ option_or (entries_fault (setting_of true ms) ms) (if is_some (create_word j) then None else Some (record { code = bad_create; path = codes "create" ∷ [] }))
unfolding change_fault entries_fault
create-change ms j there = create-told_by ms j _ there refl

-- a root that names an object, or does not
pub named-change : (ms : Members) (t : List ℕ) → get (codes "create") ms ≡ None → option_or (text_member (codes "id") ms) (text_member (codes "guid") ms) ≡ Some t
    → change_fault (object ms) ≡ entries_fault (setting_of true ms) ms
unfolding change_fault entries_fault
named-change ms t none named = name-told_by ms t _ none named refl

pub unnamed-change : (ms : Members) → get (codes "create") ms ≡ None → option_or (text_member (codes "id") ms) (text_member (codes "guid") ms) ≡ None
    → change_fault (object ms) ≡ Some (record { code = bad_write; path = [] })
unfolding change_fault
unnamed-change ms none named = rw (none, named) refl

-- ---- the same by tests

-- a form that connects
pub connect-item : (s : Setting) (n : Name) (ms : Members) (j : Json) → get (codes "connect") ms ≡ Some j
    → item_fault s n (object ms) ≡ (if is_connect_form ms then option_or (target_fault n.spelled ms) (if is_some (connect_word j) then None else Some (record { code = bad_connect; path = n.spelled ∷ [] }))
    else Some (record { code = bad_write; path = n.spelled ∷ [] }))
connect-item s n ms j there = by (is_connect_form ms) refl
  where
    by : (b : Bool) → is_connect_form ms ≡ b
        → item_fault s n (object ms) ≡ (if b then option_or (target_fault n.spelled ms) (if is_some (connect_word j) then None else Some (record { code = bad_connect; path = n.spelled ∷ [] }))
        else Some (record { code = bad_write; path = n.spelled ∷ [] }))
    by true on = connected s n ms j there on
    by false off = unconnected s n ms j there off

-- a form that neither connects nor creates
pub plain-item : (s : Setting) (n : Name) (ms : Members) → get (codes "connect") ms ≡ None → get (codes "create") ms ≡ None
    → item_fault s n (object ms) ≡ (if s.creates && is_fact_form ms then target_fault n.spelled ms else Some (record { code = bad_write; path = n.spelled ∷ [] }))
plain-item s n ms none none' = by (s.creates && is_fact_form ms) refl
  where
    by : (b : Bool) → (s.creates && is_fact_form ms) ≡ b → item_fault s n (object ms) ≡ (if b then target_fault n.spelled ms else Some (record { code = bad_write; path = n.spelled ∷ [] }))
    by true on = fact-item s n ms none none' on
    by false off = no_fact-item s n ms none none' off

-- a root that does not create: it names an object, or does not
pub other-change : (ms : Members) → get (codes "create") ms ≡ None
    → change_fault (object ms) ≡ (if is_some (option_or (text_member (codes "id") ms) (text_member (codes "guid") ms)) then entries_fault (setting_of true ms) ms else Some (record { code = bad_write; path = [] }))
other-change ms none = by (option_or (text_member (codes "id") ms) (text_member (codes "guid") ms)) refl
  where
    by : (o : Option (List ℕ)) → option_or (text_member (codes "id") ms) (text_member (codes "guid") ms) ≡ o
        → change_fault (object ms) ≡ (if is_some o then entries_fault (setting_of true ms) ms else Some (record { code = bad_write; path = [] }))
    by (Some t) named = named-change ms t none named
    by None named = unnamed-change ms none named

-- a member `id` or `guid`, or of another name
pub named-item : (s : Setting) (n : Name) (j : Json) → named_item_fault s n j ≡ (if is_identity n.word then result_err (identity_item s n j) else item_fault s n j)
named-item s n j = by (is_identity n.word) refl
  where
    by : (b : Bool) → is_identity n.word ≡ b → named_item_fault s n j ≡ (if b then result_err (identity_item s n j) else item_fault s n j)
    by true is = identity-entry s n j is
    by false is = other-entry s n j is
