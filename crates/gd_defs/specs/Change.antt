-- A write request as the tree of clauses that a JSON value spells.
use Rattle.std.specs.Prelude.{ℕ, List, [], ◌∷◌, ◌++◌, Bool, true, false, not, ◌&&◌, ◌||◌, Option, Some, None, is_some, option_map, option_and_then, Result, Ok, Err, if◌then◌else◌, codes, bytes_eq}
use Rattle.std.specs.List.{list_all}
use Rattle.std.specs.Option.{option_or, option_map_or}
use Rattle.gd_tree.specs.Look.{get, only, text_of}
use Rattle.gd_tree.specs.Json.{Json, null, boolean, number, text, list, object, Items, no_items, item, Members as JsonMembers, no_members as no_json_members, member as json_member}
use Rattle.gd_defs.specs.Ids.{guid_place}
use Rattle.gd_grammar.specs.Chain.{◌>>=◌}
use Rattle.gd_defs.specs.Query.{Name, list_form, bad_directive, bad_operand, bad_write, bad_create, bad_connect, Fault, Code, fault, within, or_fault, name_of, member_name, has_operator, is_directive, is_computed, is_identity, is_word, is_link, is_literal, is_id_text, all_items, root_fault}

-- what a connect form does
pub data ConnectWord : Type 0 where
  insert delete update : ConnectWord

-- when a create makes an object
pub data CreateWord : Type 0 where
  unless_exists unconditional : CreateWord

-- what a link leads to, as it is spelled: an id, a literal, a literal as a text in a language, or as a key in a namespace
pub data Target : Type 0 where
  to_id : List ℕ → Target
  to_literal : Json → Target
  to_text to_key : List ℕ → Json → Target

mutual
  -- what a member of a write has: null at `id` and `guid`, a literal by itself, a form with a target and its members, a connect form with the link that `previous` names and its members, a nested create, or a list of these
  pub data Item : Type 0 where
    blank : Item
    plain : Json → Item
    fact : Target → JsonMembers → Item
    connect : ConnectWord → Target → Option ℕ → JsonMembers → Item
    nested : CreateWord → Members → Item
    several : ManyItems → Item

  -- the items of a list, in order
  pub data ManyItems : Type 0 where
    no_more : ManyItems
    and_then : Item → ManyItems → ManyItems

  -- the members of a clause in byte order of names, with `create` at its place among them
  pub data Members : Type 0 where
    no_members : Members
    member : Name → Item → Members → Members
    created : CreateWord → Members → Members

-- the word that the value of `create` spells
abbrev pub create_word : Json → Option CreateWord
create_word (text t) = if bytes_eq t (codes "unless_exists") then Some unless_exists else if bytes_eq t (codes "unconditional") then Some unconditional else None
create_word _ = None

-- the word that the value of `connect` spells
abbrev pub connect_word : Json → Option ConnectWord
connect_word (text t) = if bytes_eq t (codes "insert") then Some insert else if bytes_eq t (codes "delete") then Some delete
    else if bytes_eq t (codes "update") then Some update else None
connect_word _ = None

-- the text that the member of a name has, if it is there and a text
abbrev pub text_member : List ℕ → JsonMembers → Option (List ℕ)
text_member k ms = option_and_then text_of (get k ms)

-- ---- forms of a fact and connect forms

-- the members have these names, each of them, and besides at most some more
abbrev pub made_of : List (List ℕ) → List (List ℕ) → JsonMembers → Bool
made_of names more ms = list_all (λ k. is_some (get k ms)) names && only (names ++ more) ms

-- the members have the names of a fact as a form: of an id, of a text in a language, or of a key in a namespace
abbrev pub is_fact_form : JsonMembers → Bool
is_fact_form ms = made_of (codes "id" ∷ []) [] ms || made_of (codes "lang" ∷ codes "value" ∷ []) [] ms || made_of (codes "namespace" ∷ codes "value" ∷ []) [] ms

-- the members have the names of a connect form: with an id, a value that may have a language, or a key in a namespace; and maybe `previous`
abbrev pub is_connect_form : JsonMembers → Bool
is_connect_form ms = made_of (codes "connect" ∷ codes "id" ∷ []) (codes "previous" ∷ []) ms
    || made_of (codes "connect" ∷ codes "value" ∷ []) (codes "lang" ∷ codes "previous" ∷ []) ms
    || made_of (codes "connect" ∷ codes "namespace" ∷ codes "value" ∷ []) (codes "previous" ∷ []) ms

-- the word may go with `previous`
abbrev pub is_update : Option ConnectWord → Bool
is_update (Some update) = true
is_update _ = false

-- the place whose guid the member of a name has, if it is there and a guid
abbrev pub guid_member : List ℕ → JsonMembers → Option ℕ
guid_member k ms = option_and_then guid_place (text_member k ms)

-- the code of a member of a form that is not as its name asks; `previous` goes with update alone
abbrev pub part_code : JsonMembers → List ℕ → Json → Option Code
part_code form k j =
    if bytes_eq k (codes "connect") then unless (is_some (connect_word j)) bad_connect
    else if bytes_eq k (codes "value") then unless (is_literal j) bad_operand
    else if not (bytes_eq k (codes "previous")) then unless (is_id_text j) bad_operand
    else if is_update (option_and_then connect_word (get (codes "connect") form)) then unless (is_some (guid_member k form)) bad_operand else Some bad_write
  where
    unless : Bool → Code → Option Code
    unless true code = None
    unless false code = Some code

-- the first code that some member has, at its name
abbrev pub first_code : (List ℕ → Json → Option Code) → JsonMembers → Option Fault
first_code code no_json_members = None
first_code code (json_member k j ms) = option_or (option_map (λ c. record { code = c; path = k ∷ [] }) (code k j)) (first_code code ms)

-- the target that the members `id`, `namespace`, `lang` and `value` of a form spell
abbrev pub target_of : JsonMembers → Option Target
target_of ms = by (text_member (codes "id") ms) (text_member (codes "namespace") ms) (text_member (codes "lang") ms) (get (codes "value") ms)
  where
    by : Option (List ℕ) → Option (List ℕ) → Option (List ℕ) → Option Json → Option Target
    by (Some t) _ _ _ = Some (to_id t)
    by None (Some t) _ (Some j) = Some (to_key t j)
    by None None (Some t) (Some j) = Some (to_text t j)
    by None None None (Some j) = Some (to_literal j)
    by None _ _ None = None

-- the target of a form below a member, if each of its members is as its name asks
abbrev pub target_in : List ℕ → JsonMembers → Result Target Fault
target_in name ms = by (first_code (part_code ms) ms)
  where
    by : Option Fault → Result Target Fault
    by (Some f) = within name (Err f)
    by None = or_fault bad_write name (target_of ms)

-- ---- clauses

-- what the members of a clause have to know of it: whether it is the root, creates, has `id` as a text, and has a fact of its own
pub record Setting : Type 0 where
  pub at_root : Bool
  pub creates : Bool
  pub has_id : Bool
  pub has_fact : Bool

-- a value is a fact: a literal, or a form that neither connects nor creates
abbrev pub is_fact : Json → Bool
is_fact (object ms) = not (is_some (get (codes "connect") ms) || is_some (get (codes "create") ms))
is_fact j = is_literal j

-- a value is a fact, or a list that has one
abbrev pub has_fact : Json → Bool
has_fact (list js) = not (all_items (λ j. not (is_fact j)) js)
has_fact j = is_fact j

-- a name may be that of a property
abbrev pub is_property_name : List ℕ → Bool
is_property_name k = not (bytes_eq k (codes "create") || is_directive k) && option_map_or (λ n. not (is_computed n.word)) (name_of k) false

-- some member is a fact of a property
abbrev pub has_own_fact : JsonMembers → Bool
has_own_fact no_json_members = false
has_own_fact (json_member k j ms) = (is_property_name k && has_fact j) || has_own_fact ms

-- what is to be known of a clause with these members
abbrev pub setting_of : Bool → JsonMembers → Setting
setting_of root ms = record { at_root = root; creates = is_some (get (codes "create") ms); has_id = is_some (text_member (codes "id") ms); has_fact = has_own_fact ms }

-- the name of a member of a write: no directive, without operator, and of the words that ask for no property `id` or `guid` alone
abbrev pub write_name : Bool → List ℕ → Result Name Fault
write_name root k = if is_directive k then fault bad_directive k else member_name root k >>= λ n.
    if has_operator n || is_link n.word || (is_computed n.word && not (is_identity n.word)) then fault bad_write k else Ok n

-- the word of `create` in a clause; unless_exists needs a fact of the clause's own
abbrev pub create_in : Setting → Json → Result CreateWord Fault
create_in s j = or_fault bad_create (codes "create") (option_and_then needed (create_word j))
  where
    needed : CreateWord → Option CreateWord
    needed unless_exists = if s.has_fact then Some unless_exists else None
    needed unconditional = Some unconditional

-- what `id` and `guid` have: null in a create; in a clause that names its object the text that does so, and `guid` null beside `id`
abbrev pub identity_item : Setting → Name → Json → Result Item Fault
identity_item s n null = if s.creates || (s.has_id && is_word (codes "guid") n.word) then Ok blank else fault bad_write n.spelled
identity_item s n j = if s.creates || not (bytes_eq n.spelled (if s.has_id then codes "id" else codes "guid")) then fault bad_write n.spelled
    else if is_id_text j then Ok (plain j) else fault bad_operand n.spelled

-- what a form {..} is: a connect form, a nested create with the members that it spells, or in a create a fact
abbrev pub object_item : Setting → Name → JsonMembers → Result Members Fault → Result Item Fault
object_item s n ms nested_members = by (get (codes "connect") ms) (get (codes "create") ms)
  where
    by : Option Json → Option Json → Result Item Fault
    by (Some j) _ = if not (is_connect_form ms) then fault bad_write n.spelled
        else (target_in n.spelled ms >>= λ t. or_fault bad_connect n.spelled (connect_word j) >>= λ w. Ok (connect w t (guid_member (codes "previous") ms) ms))
    by None (Some j) = within n.spelled (nested_members >>= λ c. or_fault bad_create (codes "create") (create_word j) >>= λ w. Ok (nested w c))
    by None None = if s.creates && is_fact_form ms then (target_in n.spelled ms >>= λ t. Ok (fact t ms)) else fault bad_write n.spelled

-- a value is a form {..}
abbrev pub is_form : Json → Bool
is_form (object ms) = true
is_form _ = false

-- what a list is: of forms, or in a create of literals
abbrev pub list_item : Setting → Name → Items → Result ManyItems Fault → Result Item Fault
list_item s n no_items is = fault bad_write n.spelled
list_item s n js is = if all_items is_form js || (s.creates && all_items is_literal js) then (is >>= λ i. Ok (several i))
    else if all_items is_literal js then fault bad_write n.spelled else fault list_form n.spelled

-- what a member has, by its name: `id` and `guid` have what is their own
abbrev pub by_name : Setting → Name → Json → Result Item Fault → Result Item Fault
by_name s n j i = if is_identity n.word then identity_item s n j else i

abbrev mutual
  -- the members that an object spells in a clause, in order
  pub members_of : Setting → JsonMembers → Result Members Fault
  members_of s no_json_members = Ok no_members
  members_of s (json_member k j ms) =
      if bytes_eq k (codes "create") then (create_in s j >>= λ w. members_of s ms >>= λ rest. Ok (created w rest))
      else (write_name s.at_root k >>= λ n. by_name s n j (item_of s n j) >>= λ i. members_of s ms >>= λ rest. Ok (member n i rest))

  -- what a value spells at a member of this name
  pub item_of : Setting → Name → Json → Result Item Fault
  item_of s n null = fault bad_write n.spelled
  item_of s n (boolean b) = Ok (plain (boolean b))
  item_of s n (number m) = Ok (plain (number m))
  item_of s n (text t) = Ok (plain (text t))
  item_of s n (object ms) = object_item s n ms (members_of (setting_of false ms) ms)
  item_of s n (list js) = list_item s n js (items_of s n js)

  -- what the items of a list spell at a member of this name, in order
  pub items_of : Setting → Name → Items → Result ManyItems Fault
  items_of s n no_items = Ok no_more
  items_of s n (item j js) = item_of s n j >>= λ i. items_of s n js >>= λ is. Ok (and_then i is)

-- the root of a write: it creates, or names an object by the text of `id` or `guid`
pub data Root : Type 0 where
  to_create : CreateWord → Root
  existing_object : List ℕ → Root

-- a write as it is spelled: its root with the members
pub record Change : Type 0 where
  pub root : Root
  pub members : Members

-- the change that a JSON value spells
abbrev pub change_of : Json → Result Change Fault
change_of (object ms) = by (get (codes "create") ms) (option_or (text_member (codes "id") ms) (text_member (codes "guid") ms))
  where
    by : Option Json → Option (List ℕ) → Result Change Fault
    by (Some j) _ = members_of (setting_of true ms) ms >>= λ c. or_fault bad_create (codes "create") (create_word j) >>= λ w. Ok (record { root = to_create w; members = c })
    by None (Some t) = members_of (setting_of true ms) ms >>= λ c. Ok (record { root = existing_object t; members = c })
    by None None = root_fault bad_write
change_of _ = root_fault bad_write
