-- What each member of a write does, once its words are looked up at the state before.
use Rattle.std.specs.Prelude.{ℕ, List, [], ◌∷◌, ◌++◌, Bool, not, ◌&&◌, nat_lt, Option, Some, None, option_map, if◌then◌else◌, filter, length, codes, Result, Ok, bytes_eq}
use Rattle.std.specs.Option.{ok_or}
use Rattle.gd_base.specs.declared.datum.Datum.{Datum}
use Rattle.gd_base.specs.declared.datum.Datum.TheVariants as datum
use Rattle.gd_prim.specs.declared.Primitive.{Primitive}
use Rattle.gd_grammar.specs.Chain.{◌>>=◌}
use Rattle.gd_prim.specs.Live.{refers, passes_at}
use Rattle.gd_base.specs.Order.{datum_eq}
use Rattle.gd_tree.specs.Json.{Json, null, text, object, Members as JsonMembers}
use Rattle.gd_defs.specs.Ids.{is_id}
use Rattle.gd_defs.specs.Data.{key_from}
use Rattle.gd_defs.specs.Query.{Name, bad_value, bad_lang, not_met, is_word, is_computed}
use Rattle.gd_defs.specs.Property.{Property, Expects, a_key, a_plain_object, an_object_of_system, expects_of, holds_values, is_language, answers, answer_datum}
use Rattle.gd_defs.specs.Asked.{Unknown, bad_query, bad, place_named, operand_datum, context_of, member_property, has_lang}
use Rattle.gd_defs.specs.Change as change
use Rattle.gd_defs.specs.Change.{ConnectWord, CreateWord}

-- where a link leads: to an object, a value, or a key in a namespace
pub data Target : Type 0 where
  to_object : ℕ → Target
  to_value : Datum → Target
  to_key : ℕ → List ℕ → Target

mutual
  -- what a member of a write does: prints as it was spelled, prints the id or the guid, states a fact, connects, creates and is linked, or several of these
  pub data Item : Type 0 where
    as_spelled : Json → Item
    its_id its_guid : Item
    fact : Property → Target → Json → Item
    connect : Property → ConnectWord → Target → Option ℕ → JsonMembers → Item
    nested : Property → CreateWord → Members → Item
    several : ManyItems → Item

  -- what the items of a list do, in order
  pub data ManyItems : Type 0 where
    no_more : ManyItems
    and_then : Item → ManyItems → ManyItems

  -- what the members of a clause do, with `create` at its place among them
  pub data Members : Type 0 where
    no_members : Members
    member : List ℕ → Item → Members → Members
    created : Members → Members

-- a datum as a target
abbrev pub datum_target : Datum → Target
datum_target (datum.Object o) = to_object o
datum_target d = to_value d

-- the target of a literal: a value, a key, or the object of a system type that an id names
abbrev pub literal_target : List Primitive → List (List ℕ) → Expects → Json → Result Target Unknown
literal_target prims path a_plain_object j = bad bad_value path
literal_target prims path an_object_of_system (text t) = if is_id t then (place_named prims t >>= λ o. Ok (to_object o)) else bad bad_value path
literal_target prims path e j = operand_datum prims e path j >>= λ d. Ok (datum_target d)

-- the target of a literal of which a link is to be made; a key by itself has no namespace
abbrev pub new_target : List Primitive → List (List ℕ) → Expects → Json → Result Target Unknown
new_target prims path a_key j = bad bad_value path
new_target prims path e j = literal_target prims path e j

-- the target of a form, of which the path of a fault names the member
abbrev pub target_of : List Primitive → List (List ℕ) → Expects → change.Target → Result Target Unknown
target_of prims path a_key (change.to_key namespace j) = place_named prims namespace >>= λ o.
    ok_or (option_map (to_key o) (key_from j)) (bad_query bad_value (path ++ codes "value" ∷ []))
target_of prims path e (change.to_key namespace j) = bad bad_value (path ++ codes "namespace" ∷ [])
target_of prims path e (change.to_literal j) = new_target prims (path ++ codes "value" ∷ []) e j
target_of prims path e (change.to_text lang j) = new_target prims (path ++ codes "value" ∷ []) e j
target_of prims path e (change.to_id t) = if holds_values e then bad bad_value (path ++ codes "id" ∷ []) else (place_named prims t >>= λ o. Ok (to_object o))

-- the property in the language that a target names, if it names one, which texts alone have
abbrev pub in_language_of : List Primitive → List (List ℕ) → Property → change.Target → Result Property Unknown
in_language_of prims path p (change.to_text t j) = if not (has_lang (expects_of p.expected)) then bad bad_value (path ++ codes "lang" ∷ [])
    else (place_named prims t >>= λ l. if is_language prims l then Ok (record p { language = Some l }) else bad bad_lang (path ++ codes "lang" ∷ []))
in_language_of prims path p t = Ok p

-- a link leads to a target
abbrev pub is_target : List Primitive → Property → Target → ℕ → Bool
is_target prims p (to_object o) k = datum_eq (answer_datum prims p k) (datum.Object o)
is_target prims p (to_value d) k = datum_eq (answer_datum prims p k) d
is_target prims p (to_key o key) k = datum_eq (answer_datum prims p k) (datum.Text key) && passes_at (λ q. refers q.right o) prims k

-- the answers of a property on an object that lead to a target
abbrev pub equal_links : List Primitive → Property → ℕ → Target → List ℕ
equal_links prims p o t = filter (is_target prims p t) (answers prims p o)

-- some answer leads to a target: the fact holds
abbrev pub has_fact : List Primitive → Property → ℕ → Target → Bool
has_fact prims p o t = nat_lt 0 (length (equal_links prims p o t))

-- the text of the plain member `type`, if the clause has it
abbrev pub type_text : change.Members → Option (List ℕ)
type_text change.no_members = None
type_text (change.created w ms) = type_text ms
type_text (change.member n (change.plain (text t)) ms) = if bytes_eq n.spelled (codes "type") then Some t else type_text ms
type_text (change.member n i ms) = type_text ms

-- what a literal does: in a create it is a fact to be made, on an existing object one that must hold
abbrev pub fact_item : List Primitive → List (List ℕ) → Option ℕ → Property → Json → Result Item Unknown
fact_item prims path None p j = new_target prims path (expects_of p.expected) j >>= λ t. Ok (fact p t j)
fact_item prims path (Some o) p j = literal_target prims path (expects_of p.expected) j >>= λ t. if has_fact prims p o t then Ok (as_spelled j) else bad not_met path

-- what `id` and `guid` do: null asks for it, a text prints as it was spelled
abbrev pub identity_item : Name → change.Item → Item
identity_item n (change.plain j) = as_spelled j
identity_item n _ = if is_word (codes "id") n.word then its_id else its_guid

abbrev mutual
  -- the members of a clause with their words looked up, in order, on an existing object or in a create
  pub resolved : List Primitive → Option ℕ → Option ℕ → List (List ℕ) → change.Members → Result Members Unknown
  resolved prims on context path change.no_members = Ok no_members
  resolved prims on context path (change.created w ms) = resolved prims on context path ms >>= λ rest. Ok (created rest)
  resolved prims on context path (change.member n i ms) =
      (if is_computed n.word then Ok (identity_item n i)
      else (member_property prims context (path ++ n.spelled ∷ []) n >>= λ p. resolved_item prims on (path ++ n.spelled ∷ []) p i))
      >>= λ r. resolved prims on context path ms >>= λ rest. Ok (member n.spelled r rest)

  -- what a member does, with its target looked up
  pub resolved_item : List Primitive → Option ℕ → List (List ℕ) → Property → change.Item → Result Item Unknown
  resolved_item prims on path p change.blank = Ok (as_spelled null)
  resolved_item prims on path p (change.plain j) = fact_item prims path on p j
  resolved_item prims on path p (change.fact t ms) = in_language_of prims path p t >>= λ q. target_of prims path (expects_of p.expected) t >>= λ r. Ok (fact q r (object ms))
  resolved_item prims on path p (change.connect w t previous ms) = in_language_of prims path p t >>= λ q. target_of prims path (expects_of p.expected) t >>= λ r. Ok (connect q w r previous ms)
  resolved_item prims on path p (change.nested w ms) = if holds_values (expects_of p.expected) then bad bad_value path
      else (context_of prims p.expected (type_text ms) >>= λ c. resolved prims None c path ms >>= λ r. Ok (nested p w r))
  resolved_item prims on path p (change.several is) = resolved_items prims on path p is >>= λ rs. Ok (several rs)

  -- what the items of a list do, in order
  pub resolved_items : List Primitive → Option ℕ → List (List ℕ) → Property → change.ManyItems → Result ManyItems Unknown
  resolved_items prims on path p change.no_more = Ok no_more
  resolved_items prims on path p (change.and_then i is) = resolved_item prims on path p i >>= λ r. resolved_items prims on path p is >>= λ rs. Ok (and_then r rs)
