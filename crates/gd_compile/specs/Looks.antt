-- How many steps looking up the words and ids of a query takes at most, part by part as the walk goes.
use Rattle.std.specs.Prelude.{ℕ, ◌+◌, ◌*◌, List, Bool, ◌&&◌, Option, Some, None, is_some, sum_by, if◌then◌else◌, codes, bytes_eq}
use Rattle.gd_prim.specs.declared.Primitive.{Primitive}
use Rattle.gd_tree.specs.Json.{Json, text}
use Rattle.gd_defs.specs.Ids.{object_of}
use Rattle.gd_defs.specs.Cost.{said_of, id_cost, ids_cost, context, expected_of}
use Rattle.gd_defs.specs.Query as query
use Rattle.gd_defs.specs.Property.{Property, Expects, a_value, a_key, expects_of, holds_values, property, property_object}
use Rattle.gd_defs.specs.Asked.{Own, its_link, its_namespace, its_lang, own_of, own_expects, takes, has_namespace, has_lang, type_text}
use Rattle.gd_defs.specs.Asked.Tests.{tested_as}
use Rattle.gd_plan.specs.PassedOn.{property_steps}

-- ---- operands

-- an operand that is looked up by itself: the text of an id, where objects are wanted
abbrev pub item_steps : Expects → Json → ℕ
item_steps (a_value k) j = 0
item_steps a_key j = 0
item_steps e (text t) = 30 * id_cost t
item_steps e j = 0

-- an operand with its items, where objects are wanted
abbrev pub operand_steps : Expects → Json → ℕ
operand_steps (a_value k) j = 0
operand_steps a_key j = 0
operand_steps e j = 30 * ids_cost j

-- an operand by its operator: only `|=` takes a list
abbrev pub test_steps : Expects → query.Operator → Json → ℕ
test_steps e query.one_of j = operand_steps e j
test_steps e o j = item_steps e j

-- what a computed word asks of the text that it was given: of `lang` whether that names a language
abbrev pub language_looks : List Primitive → Own → Json → ℕ
language_looks prims its_lang (text t) = 22 + 4 * said_of prims (object_of prims t)
language_looks prims w j = 0

-- the operand of a computed word, if it takes the operator
abbrev pub own_steps : List Primitive → Own → query.Operator → Json → ℕ
own_steps prims w o j = if takes w o then test_steps (own_expects w) o j + language_looks prims w j else 0

-- ---- members that are computed, and those of forms on values and keys

-- a computed member, by its form
abbrev pub own_looks : List Primitive → Own → query.Operator → query.Form → ℕ
own_looks prims w o (query.literal j) = own_steps prims w o j
own_looks prims w o (query.operand j) = own_steps prims w o j
own_looks prims w o f = 0

-- the member `value`, by its form
abbrev pub itself_looks : Expects → query.Form → ℕ
itself_looks e (query.literal j) = operand_steps (tested_as e) j
itself_looks e (query.operand j) = operand_steps (tested_as e) j
itself_looks e f = 0

-- a member of a form on a value or a key
abbrev pub part_looks : List Primitive → Expects → query.Name → query.Form → ℕ
part_looks prims e n f =
    if query.is_link n.word then own_looks prims its_link n.operator f
    else if bytes_eq n.word (codes "value") then itself_looks e f
    else if bytes_eq n.word (codes "namespace") && has_namespace e then own_looks prims its_namespace n.operator f
    else if bytes_eq n.word (codes "lang") && has_lang e then own_looks prims its_lang n.operator f
    else 0

-- the members of a form on a value or a key
abbrev pub value_looks : List Primitive → Expects → query.Members → ℕ
value_looks prims e query.no_members = 0
value_looks prims e (query.sort_by ws ms) = value_looks prims e ms
value_looks prims e (query.member n f ms) = part_looks prims e n f + value_looks prims e ms

-- ---- clauses

-- what the property that a word leads to expects, where its links are asked backwards
abbrev pub turned_steps : List Primitive → Option ℕ → Option Property → ℕ
turned_steps prims (Some o) (Some q) = if q.reversed then 23 + 4 * said_of prims (Some o) else 0
turned_steps prims _ _ = 0

-- the property for which a member asks
abbrev pub member_steps : List Primitive → Option ℕ → Bool → List ℕ → ℕ
member_steps prims c reversed word = property_steps prims c word + turned_steps prims (property_object prims c word) (property prims c reversed word)

-- a sort word
abbrev pub sort_steps : List Primitive → Option ℕ → query.SortWord → ℕ
sort_steps prims c w = if query.is_computed w.word then 0 else property_steps prims c w.word

-- the text that names the context type of a clause
abbrev pub context_steps : Option (List ℕ) → ℕ
context_steps None = 0
context_steps (Some t) = 30 * id_cost t

-- a member that tells by itself, if its word is computed
abbrev pub computed_looks : List Primitive → Option Own → query.Operator → query.Form → ℕ
computed_looks prims None o f = 0
computed_looks prims (Some w) o f = own_looks prims w o f

abbrev mutual
  -- the members of a clause in its context type
  pub looks : List Primitive → Option ℕ → query.Members → ℕ
  looks prims c query.no_members = 0
  looks prims c (query.sort_by ws ms) = sum_by (sort_steps prims c) ws + looks prims c ms
  looks prims c (query.member n f ms) =
      (if is_some (own_of n.word) then computed_looks prims (own_of n.word) n.operator f
      else member_steps prims c n.reversed n.word + form_looks prims (expected_of (property prims c n.reversed n.word)) f)
      + looks prims c ms

  -- the form of a member that asks for a property with this expected type
  pub form_looks : List Primitive → Option ℕ → query.Form → ℕ
  form_looks prims expected query.ask = 0
  form_looks prims expected query.ask_all = 0
  form_looks prims expected (query.literal j) = operand_steps (tested_as (expects_of expected)) j
  form_looks prims expected (query.operand j) = operand_steps (tested_as (expects_of expected)) j
  form_looks prims expected (query.one d ms) = if holds_values (expects_of expected) then value_looks prims (expects_of expected) ms else context_steps (type_text ms) + looks prims (context prims expected ms) ms
  form_looks prims expected (query.many d ms) = if holds_values (expects_of expected) then value_looks prims (expects_of expected) ms else context_steps (type_text ms) + looks prims (context prims expected ms) ms

-- a member of a clause
abbrev pub member_looks : List Primitive → Option ℕ → query.Name → query.Form → ℕ
member_looks prims c n f =
    if is_some (own_of n.word) then computed_looks prims (own_of n.word) n.operator f
    else member_steps prims c n.reversed n.word + form_looks prims (expected_of (property prims c n.reversed n.word)) f

-- a clause, where this type is passed to it
abbrev pub clause_looks : List Primitive → Option ℕ → query.Members → ℕ
clause_looks prims above ms = context_steps (type_text ms) + looks prims (context prims above ms) ms

-- a form below a property with this expected type
abbrev pub below_looks : List Primitive → Option ℕ → query.Members → ℕ
below_looks prims expected ms = if holds_values (expects_of expected) then value_looks prims (expects_of expected) ms else clause_looks prims expected ms
