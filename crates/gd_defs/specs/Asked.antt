-- A query with its words looked up at a dateline: each name is a property, each operand a test of data.
pub mod Tests
pub mod Parts
pub mod Forms
pub use Rattle.gd_defs.specs.Asked.Tests.{Unknown, no_such_id, no_such_property, bad_query, bad, place_named, operand_datum, test_of}
pub use Rattle.gd_defs.specs.Asked.Parts.{Own, its_id, its_guid, its_timestamp, its_link, its_value, its_namespace, its_lang, Key, by_guid, by_timestamp, by_property, SortKey, Style, as_operand, as_value, as_name, as_id, as_clause, Asking, Members, no_members, own, asks, Clause}
pub use Rattle.gd_defs.specs.Asked.Forms.{name_property}
use Rattle.std.specs.Prelude.{ℕ, List, [], ◌∷◌, ◌++◌, Bool, true, false, ◌&&◌, Option, Some, None, unwrap_or, Result, Ok, Err, if◌then◌else◌, codes, bytes_eq}
use Rattle.std.specs.Option.{option_map_or}
use Rattle.gd_base.specs.declared.datum.Datum.TheVariants as datum
use Rattle.gd_prim.specs.declared.Primitive.{Primitive}
use Rattle.gd_grammar.specs.Chain.{◌>>=◌}
use Rattle.gd_tree.specs.Json.{Json, text}
use Rattle.gd_defs.specs.Data.{of_text, of_datetime, Test, anything, equals}
use Rattle.gd_defs.specs.Query as query
use Rattle.gd_defs.specs.Query.{Name, Operator, Form, SortWord, bad_operator, value_reversed, object_form, bad_sort, bad_lang, Query, is_word, is_link}
use Rattle.gd_defs.specs.Property.{Property, Expects, a_value, a_key, an_object_of_system, expects_of, property, property_object, holds_values, is_language, is_reversed_value}
use Rattle.gd_defs.specs.Asked.Tests.{allows, checked_test}
use Rattle.gd_defs.specs.Asked.Forms.{ask_form, operand_form, clause_form, asks_single}

-- ---- the context type and the sort words of a clause

-- the text of the plain member `type`, if the clause has it
abbrev pub type_text : query.Members → Option (List ℕ)
type_text query.no_members = None
type_text (query.sort_by ws ms) = type_text ms
type_text (query.member n (query.literal (text t)) ms) = if bytes_eq n.spelled (codes "type") then Some t else type_text ms
type_text (query.member n f ms) = type_text ms

-- the context type of a clause: what the text of its member `type` names, else what the property that leads to it expects
abbrev pub context_of : List Primitive → Option ℕ → Option (List ℕ) → Result (Option ℕ) Unknown
context_of prims above None = Ok above
context_of prims above (Some t) = place_named prims t >>= λ o. Ok (Some o)

-- the sort key of a sort word: the guid, the timestamp, or a value property that is no key
abbrev pub sort_key : List Primitive → Option ℕ → List (List ℕ) → SortWord → Result SortKey Unknown
sort_key prims context path w =
    if is_word (codes "id") w.word then bad bad_sort path
    else if is_word (codes "guid") w.word then Ok (record { key = by_guid; descending = w.descending })
    else if is_word (codes "timestamp") w.word then Ok (record { key = by_timestamp; descending = w.descending })
    else by (property prims context false w.word)
  where
    value : Property → Expects → Result SortKey Unknown
    value p (a_value k) = if p.reversed then bad bad_sort path else Ok (record { key = by_property p; descending = w.descending })
    value p _ = bad bad_sort path

    by : Option Property → Result SortKey Unknown
    by None = Err (no_such_property path)
    by (Some p) = value p (expects_of p.expected)

-- the sort keys of sort words, in order
abbrev pub sort_keys : List Primitive → Option ℕ → List (List ℕ) → List SortWord → Result (List SortKey) Unknown
sort_keys prims context path [] = Ok []
sort_keys prims context path (w ∷ ws) = sort_key prims context path w >>= λ k. sort_keys prims context path ws >>= λ ks. Ok (k ∷ ks)

-- ---- members that are computed

-- what a word tells by itself, if it is computed
abbrev pub own_of : List ℕ → Option Own
own_of word = if is_word (codes "id") word then Some its_id else if is_word (codes "guid") word then Some its_guid
    else if is_word (codes "timestamp") word then Some its_timestamp else if is_link word then Some its_link else None

-- what a computed word expects of its operand: a moment, or the id of an object
abbrev pub own_expects : Own → Expects
own_expects its_timestamp = a_value of_datetime
own_expects _ = an_object_of_system

-- a computed word takes this operator
abbrev pub takes : Own → Operator → Bool
takes its_link _ = false
takes its_namespace query.one_of = false
takes its_namespace query.differs = false
takes its_lang query.one_of = false
takes its_lang query.differs = false
takes its_timestamp query.no_operator = false
takes its_timestamp query.one_of = false
takes its_timestamp query.differs = false
takes its_timestamp query.words = false
takes its_timestamp _ = true
takes o operator = allows an_object_of_system operator

-- the object that a test asks for, if it asks for one alone
abbrev pub asked_object : Test → Option ℕ
asked_object (equals (datum.Object o)) = Some o
asked_object t = None

-- a test asks for a language
abbrev pub names_language : List Primitive → Test → Bool
names_language prims t = option_map_or (is_language prims) (asked_object t) false

-- a test of the language of texts has to ask for a language
abbrev pub speaks : List Primitive → List (List ℕ) → Test → Result Test Unknown
speaks prims path t = if names_language prims t then Ok t else bad bad_lang path

-- what a computed word asks of its test: `lang` that it names a language, the others nothing
abbrev pub told : List Primitive → List (List ℕ) → Own → Test → Result Test Unknown
told prims path its_lang t = speaks prims path t
told prims path o t = Ok t

-- the test of a computed member, if its word takes the operator
abbrev pub own_test : List Primitive → List (List ℕ) → Own → Operator → Json → Result Test Unknown
own_test prims path o operator j = if takes o operator then (test_of prims (own_expects o) path operator j >>= told prims path o) else bad bad_operator path

-- a computed member in front of the rest
abbrev pub with_own : Name → Own → Option Json → Result Test Unknown → Result Clause Unknown → Result Clause Unknown
with_own n o operand t rest = t >>= λ passing. rest >>= λ c. Ok (own n.spelled o passing operand c.0, c.1)

-- a computed member by its form, in front of the rest: null, or a literal or an operand with the test that it makes
abbrev pub own_member : List (List ℕ) → Name → Own → Form → (Json → Result Test Unknown) → Result Clause Unknown → Result Clause Unknown
own_member path n o query.ask test rest = with_own n o None (Ok anything) rest
own_member path n o (query.literal j) test rest = with_own n o (Some j) (test j) rest
own_member path n o (query.operand j) test rest = with_own n o (Some j) (test j) rest
own_member path n o _ test rest = bad object_form path

-- ---- forms on values and keys

-- a key has a namespace, a value has none
abbrev pub has_namespace : Expects → Bool
has_namespace a_key = true
has_namespace _ = false

-- a text has a language, nothing else has one
abbrev pub has_lang : Expects → Bool
has_lang (a_value of_text) = true
has_lang _ = false

-- a member of a form on a value or a key, in front of the rest: its link, its value, of a key the namespace, and of a text the language
abbrev pub value_member : List Primitive → Expects → List (List ℕ) → Name → Form → Result Clause Unknown → Result Clause Unknown
value_member prims e path n f rest =
    if is_link n.word then own_member path n its_link f (own_test prims path its_link n.operator) rest
    else if bytes_eq n.word (codes "value") then own_member path n its_value f (checked_test prims e path n.operator) rest
    else if bytes_eq n.word (codes "namespace") && has_namespace e then own_member path n its_namespace f (own_test prims path its_namespace n.operator) rest
    else if bytes_eq n.word (codes "lang") && has_lang e then own_member path n its_lang f (own_test prims path its_lang n.operator) rest
    else bad object_form path

-- the members of a form on a value or a key, in order
abbrev pub value_members : List Primitive → Expects → List (List ℕ) → query.Members → Result Clause Unknown
value_members prims e path query.no_members = Ok (no_members, [])
value_members prims e path (query.sort_by ws ms) = bad object_form (path ++ codes "sort" ∷ [])
value_members prims e path (query.member n f ms) = value_member prims e (path ++ n.spelled ∷ []) n f (value_members prims e path ms)

-- ---- clauses

-- the property that a member asks for; one that holds values is not asked for backwards
abbrev pub member_property : List Primitive → Option ℕ → List (List ℕ) → Name → Result Property Unknown
member_property prims context path n = by (property_object prims context n.word) (property prims context n.reversed n.word)
  where
    by : Option ℕ → Option Property → Result Property Unknown
    by (Some p) (Some q) = if is_reversed_value prims p q then bad value_reversed path else Ok q
    by _ _ = Err (no_such_property path)

-- a form below a property: on values and keys their members, on objects a clause in its context type
abbrev pub below_property : List Primitive → List (List ℕ) → Property → query.Members → (Option ℕ → Result Clause Unknown) → Result Clause Unknown
below_property prims path p ms on_object = if holds_values (expects_of p.expected) then value_members prims (expects_of p.expected) path ms
    else (context_of prims p.expected (type_text ms) >>= on_object)

abbrev mutual
  -- a clause with its words looked up in its context type, members in order
  pub asked : List Primitive → Option ℕ → List (List ℕ) → query.Members → Result Clause Unknown
  asked prims context path query.no_members = Ok (no_members, [])
  asked prims context path (query.sort_by ws ms) = sort_keys prims context (path ++ codes "sort" ∷ []) ws >>= λ ks. asked prims context path ms >>= λ c. Ok (c.0, ks)
  asked prims context path (query.member n f ms) = option_map_or
      (λ o. own_member (path ++ n.spelled ∷ []) n o f (own_test prims (path ++ n.spelled ∷ []) o n.operator) (asked prims context path ms))
      (own_of n.word)
      (member_property prims context (path ++ n.spelled ∷ []) n >>= λ p. asked_form prims (path ++ n.spelled ∷ []) n p f >>= λ g.
      asked prims context path ms >>= λ c. Ok (g c.0, c.1))

  -- a member that asks a property, to be put before the rest
  pub asked_form : List Primitive → List (List ℕ) → Name → Property → Form → Result (Members → Members) Unknown
  asked_form prims path n p query.ask = Ok (ask_form n.spelled p false)
  asked_form prims path n p query.ask_all = Ok (ask_form n.spelled p true)
  asked_form prims path n p (query.literal j) = checked_test prims (expects_of p.expected) path query.no_operator j >>= λ t. Ok (operand_form n.spelled p (expects_of p.expected) true j t)
  asked_form prims path n p (query.operand j) = checked_test prims (expects_of p.expected) path n.operator j >>= λ t. Ok (operand_form n.spelled p (expects_of p.expected) false j t)
  asked_form prims path n p (query.one d ms) = below_property prims path p ms (λ t. asked prims t path ms) >>= λ c. Ok (clause_form n.spelled p d false c)
  asked_form prims path n p (query.many d ms) = below_property prims path p ms (λ t. asked prims t path ms) >>= λ c. Ok (clause_form n.spelled p d true c)

-- a whole query with its words looked up
pub record Asked : Type 0 where
  pub listed : Bool
  pub single : Bool
  pub count : Bool
  pub limit : ℕ
  pub members : Members
  pub sort : List SortKey

-- what a query asks at a dateline, or why it has no meaning there
abbrev pub asked_query : List Primitive → Query → Result Asked Unknown
asked_query prims q = context_of prims None (type_text q.members) >>= λ t. asked prims t [] q.members >>= λ c.
    Ok (record {
      listed = q.listed;
      single = asks_single q.listed q.directives;
      count = q.directives.count;
      limit = unwrap_or q.directives.limit 100;
      members = c.0;
      sort = c.1;
    })
