-- What it costs to resolve a query: how many ids and keys it has, and how much is said of the objects that its words and languages lead to.
use Rattle.std.specs.Prelude.{ℕ, ◌+◌, List, length, sum_by, ◌&&◌, ◌||◌, Option, Some, None, if◌then◌else◌, codes, bytes_eq}
use Rattle.gd_prim.specs.declared.Primitive.{Primitive}
use Rattle.gd_prim.specs.Live.{refers, places_where}
use Rattle.gd_defs.specs.Ids.{id_keys, path_keys, object_of}
use Rattle.gd_tree.specs.Json.{Json, text, list, Items, no_items, item}
use Rattle.gd_defs.specs.Query.{is_path, Name, Form, ask, ask_all, literal, operand, one, many, Members, no_members, member, sort_by, SortWord, is_identity, is_computed, is_link, Query}
use Rattle.gd_defs.specs.Property.{Property, Expects, a_value, a_key, an_object_of_system, a_plain_object, expects_of, holds_values, property, word_object}
use Rattle.gd_defs.specs.Asked.{type_text, has_namespace, has_lang}

-- how many primitives have an object as their left end, none where there is no object
abbrev pub said_of : List Primitive → Option ℕ → ℕ
said_of prims None = 0
said_of prims (Some o) = length (places_where (λ p. refers p.left o) prims)

-- how many keys there are, none where there is no path
abbrev pub key_count : Option (List (List ℕ)) → ℕ
key_count None = 0
key_count (Some ks) = length ks

-- what an id costs: one, and one for each of its keys
abbrev pub id_cost : List ℕ → ℕ
id_cost t = 1 + key_count (id_keys t)

-- what a word costs that asks for a property: one for each of its keys, and one for each primitive of which the object that it leads to is the left end
abbrev pub word_cost : List Primitive → Option ℕ → List ℕ → ℕ
word_cost prims context word = (if is_path word then key_count (path_keys word) else 1) + said_of prims (word_object prims context word)

-- what a sort word costs: nothing where it is computed
abbrev pub sort_cost : List Primitive → Option ℕ → SortWord → ℕ
sort_cost prims context w = if is_computed w.word then 0 else word_cost prims context w.word

-- what the ids of an operand cost: a text, or the texts of a list
abbrev pub ids_cost : Json → ℕ
ids_cost (text t) = id_cost t
ids_cost (list js) = items_cost js
  where
    items_cost : Items → ℕ
    items_cost no_items = 0
    items_cost (item (text t) is) = id_cost t + items_cost is
    items_cost (item _ is) = items_cost is
ids_cost _ = 0

-- what an operand costs: its ids where objects of a system type are expected, and the word `name` on objects
abbrev pub operand_cost : List Primitive → Expects → Json → ℕ
operand_cost prims an_object_of_system j = ids_cost j + word_cost prims None (codes "name")
operand_cost prims a_plain_object j = word_cost prims None (codes "name")
operand_cost prims _ j = 0

-- what null and [] cost: the word `name` on objects
abbrev pub ask_cost : List Primitive → Expects → ℕ
ask_cost prims (a_value k) = 0
ask_cost prims a_key = 0
ask_cost prims _ = word_cost prims None (codes "name")

-- the context type of a clause, none where it is not found
abbrev pub context : List Primitive → Option ℕ → Members → Option ℕ
context prims above ms = by (type_text ms)
  where
    by : Option (List ℕ) → Option ℕ
    by None = above
    by (Some t) = object_of prims t

-- the expected type of a property, none where that is not found
abbrev pub expected_of : Option Property → Option ℕ
expected_of None = None
expected_of (Some p) = p.expected

-- what a member costs that asks for no property: the ids of `id` and `guid`
abbrev pub own_cost : Name → Form → ℕ
own_cost n (literal j) = if is_identity n.word then ids_cost j else 0
own_cost n (operand j) = if is_identity n.word then ids_cost j else 0
own_cost n f = 0

-- what the text of a plain member `type` costs where it is no operand on objects of a system type: its id, since it names the context type of its clause whatever is expected
abbrev pub type_cost : Expects → Name → Form → ℕ
type_cost an_object_of_system n f = 0
type_cost e n (literal (text t)) = if bytes_eq n.spelled (codes "type") then id_cost t else 0
type_cost e n f = 0

-- what the text of a language costs: its id, and one for each primitive of which the object that it names is the left end
abbrev pub lang_cost : List Primitive → Json → ℕ
lang_cost prims (text t) = id_cost t + said_of prims (object_of prims t)
lang_cost prims _ = 0

-- what a member of a form on a value or a key costs: of a key the id of its namespace, of a text its language
abbrev pub reference_cost : List Primitive → Expects → List ℕ → Json → ℕ
reference_cost prims e word j = if bytes_eq word (codes "namespace") && has_namespace e then ids_cost j else if bytes_eq word (codes "lang") && has_lang e then lang_cost prims j else 0

-- what a form on a value or a key costs: of a key the id of its namespace, of a text its language
abbrev pub value_cost : List Primitive → Expects → Members → ℕ
value_cost prims e no_members = 0
value_cost prims e (sort_by ws ms) = value_cost prims e ms
value_cost prims e (member n (literal j) ms) = reference_cost prims e n.word j + value_cost prims e ms
value_cost prims e (member n f ms) = value_cost prims e ms

abbrev mutual
  -- what the words and ids of a clause on objects cost; a computed word and `link` ask for no property
  pub members_cost : List Primitive → Option ℕ → Members → ℕ
  members_cost prims c no_members = 0
  members_cost prims c (sort_by ws ms) = sum_by (sort_cost prims c) ws + members_cost prims c ms
  members_cost prims c (member n f ms) =
      (if is_computed n.word || is_link n.word then own_cost n f
      else word_cost prims c n.word + (form_cost prims (expected_of (property prims c n.reversed n.word)) f + type_cost (expects_of (expected_of (property prims c n.reversed n.word))) n f))
      + members_cost prims c ms

  -- what the form of a member costs that asks for a property with this expected type
  pub form_cost : List Primitive → Option ℕ → Form → ℕ
  form_cost prims expected ask = ask_cost prims (expects_of expected)
  form_cost prims expected ask_all = ask_cost prims (expects_of expected)
  form_cost prims expected (literal j) = operand_cost prims (expects_of expected) j
  form_cost prims expected (operand j) = operand_cost prims (expects_of expected) j
  form_cost prims expected (one d ms) = if holds_values (expects_of expected) then value_cost prims (expects_of expected) ms else members_cost prims (context prims expected ms) ms
  form_cost prims expected (many d ms) = if holds_values (expects_of expected) then value_cost prims (expects_of expected) ms else members_cost prims (context prims expected ms) ms

-- what resolving a query costs: its ids and keys, and what is said of the objects that its words and languages lead to
abbrev pub resolving : List Primitive → Query → ℕ
resolving prims q = members_cost prims (context prims None q.members) q.members
