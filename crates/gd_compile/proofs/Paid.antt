-- The cost of a query pays for looking up its words and ids.
use Rattle.std.proofs.Common.{◌≡◌, ℕ, ◌+◌, ◌*◌, ◌≤◌, List, [], ◌∷◌, length, Bool, true, false, ◌&&◌, ◌||◌, Option, Some, None, is_some, refl, sym, ap, subst, arith, codes}
use Rattle.std.specs.Prelude.{sum_by, if◌then◌else◌, bytes_eq}
use Rattle.std.proofs.lemmas.Bool.{false≢true}
use Rattle.std.proofs.lemmas.List.Sums.{sum_by-cons}
use Rattle.gd_prim.specs.declared.Primitive.{Primitive}
use Rattle.gd_prim.specs.declared.End.TheVariants.{Left}
use Rattle.gd_prim.specs.End.{places_with}
use Rattle.gd_tree.specs.Json.{Json, null, boolean, number, text, list, object}
use Rattle.gd_defs.specs.Cost.{said_of, id_cost, ids_cost, word_cost, sort_cost, operand_cost, own_cost, reference_cost, value_cost, members_cost, form_cost, type_cost, context, expected_of}
use Rattle.gd_defs.specs.Query as query
use Rattle.gd_defs.specs.Query.{has_operator, is_word}
use Rattle.gd_defs.specs.Property.{Property, Expects, a_value, a_key, an_object_of_system, a_plain_object, expects_of, holds_values, property, property_object}
use Rattle.gd_defs.specs.Asked.{Own, its_id, its_guid, its_timestamp, its_link, its_namespace, its_lang, own_of, own_expects, takes, has_namespace, has_lang, type_text}
use Rattle.gd_defs.specs.Asked.Tests.{tested_as}
use Rattle.gd_plan.specs.PassedOn.{property_steps}
use Rattle.gd_plan.proofs.PassedOn.{found_steps, word_paid}
use Rattle.gd_compile.specs.Looks.{item_steps, operand_steps, test_steps, language_looks, own_steps, own_looks, itself_looks, part_looks, value_looks, turned_steps, member_steps, sort_steps, context_steps, computed_looks, looks, form_looks, member_looks}
use Rattle.gd_compile.proofs.Right.{IsNamed, AreRight, IsRight}

-- ---- operands

-- an operand by itself is paid by its ids
pub item_within : (e : Expects) (j : Json) → item_steps e j ≤ operand_steps e j
item_within (a_value k) j = omega arith
item_within a_key j = omega arith
item_within an_object_of_system (text t) = omega arith
item_within an_object_of_system null = omega arith
item_within an_object_of_system (boolean b) = omega arith
item_within an_object_of_system (number n) = omega arith
item_within an_object_of_system (list js) = omega arith
item_within an_object_of_system (object ms) = omega arith
item_within a_plain_object (text t) = omega arith
item_within a_plain_object null = omega arith
item_within a_plain_object (boolean b) = omega arith
item_within a_plain_object (number n) = omega arith
item_within a_plain_object (list js) = omega arith
item_within a_plain_object (object ms) = omega arith

pub test_within : (e : Expects) (o : query.Operator) (j : Json) → test_steps e o j ≤ operand_steps e j
test_within e query.one_of j = omega arith
test_within e query.no_operator j = item_within e j
test_within e query.differs j = item_within e j
test_within e query.below j = item_within e j
test_within e query.at_most j = item_within e j
test_within e query.above j = item_within e j
test_within e query.at_least j = item_within e j
test_within e query.words j = item_within e j

-- objects of a system type are looked up by all ids
ids_within : (o : query.Operator) (j : Json) → test_steps an_object_of_system o j ≤ 30 * ids_cost j
ids_within o j = test_within an_object_of_system o j

literal_paid : (prims : List Primitive) (e : Expects) (j : Json) → operand_steps (tested_as e) j ≤ 64 * operand_cost prims e j
literal_paid prims (a_value k) j = omega arith
literal_paid prims a_key j = omega arith
literal_paid prims an_object_of_system j = by (ids_cost j) (word_cost prims None (codes "name"))
  where
    by : (i w : ℕ) → 30 * i ≤ 64 * (i + w)
    by i w = omega arith
literal_paid prims a_plain_object j = omega arith

-- ---- forms on values and keys

if_within : (b : Bool) (x m : ℕ) → x ≤ m → (if b then x else 0) ≤ m
if_within true x m le = le
if_within false x m le = omega arith

-- behind an operator a reference takes no operand
unread : (n : query.Name) → has_operator n ≡ true → (takes its_namespace n.operator ≡ false) × (takes its_lang n.operator ≡ false)
unread n has = by n.operator has
  where
    by : (o : query.Operator) → has_operator (record n { operator = o }) ≡ true → (takes its_namespace o ≡ false) × (takes its_lang o ≡ false)
    by query.no_operator has = absurd (false≢true has)
    by query.one_of has = (refl, refl)
    by query.differs has = (refl, refl)
    by query.below has = (refl, refl)
    by query.at_most has = (refl, refl)
    by query.above has = (refl, refl)
    by query.at_least has = (refl, refl)
    by query.words has = (refl, refl)

none_if : (b : Bool) (x m : ℕ) → b ≡ false → (if b then x else 0) ≤ m
none_if false x m is = omega arith
none_if true x m is = absurd (cc)

itself_none : (e : Expects) (f : query.Form) → holds_values e ≡ true → itself_looks e f ≤ 0
itself_none (a_value k) (query.literal j) holds = omega arith
itself_none (a_value k) (query.operand j) holds = omega arith
itself_none a_key (query.literal j) holds = omega arith
itself_none a_key (query.operand j) holds = omega arith
itself_none e query.ask holds = omega arith
itself_none e query.ask_all holds = omega arith
itself_none e (query.one d ms) holds = omega arith
itself_none e (query.many d ms) holds = omega arith
itself_none an_object_of_system (query.literal j) holds = absurd (false≢true holds)
itself_none an_object_of_system (query.operand j) holds = absurd (false≢true holds)
itself_none a_plain_object (query.literal j) holds = absurd (false≢true holds)
itself_none a_plain_object (query.operand j) holds = absurd (false≢true holds)

-- the text of a language
lang_paid : (prims : List Primitive) (o : query.Operator) (j : Json) → own_looks prims its_lang o (query.literal j) ≤ 64 * Rattle.gd_defs.specs.Cost.lang_cost prims j
lang_paid prims o j = by o j
  where
    texts : (b : Bool) (c s : ℕ) → (if b then 30 * (1 + c) + (22 + 4 * s) else 0) ≤ 64 * (1 + c + s)
    texts true c s = omega arith
    texts false c s = omega arith

    none : (b : Bool) → (if b then 0 + 0 else 0) ≤ 0
    none true = omega arith
    none false = omega arith

    by : (o : query.Operator) (j : Json) → own_looks prims its_lang o (query.literal j) ≤ 64 * Rattle.gd_defs.specs.Cost.lang_cost prims j
    by query.no_operator (text t) = texts true (Rattle.gd_defs.specs.Cost.key_count (Rattle.gd_defs.specs.Ids.id_keys t)) (said_of prims (Rattle.gd_defs.specs.Ids.object_of prims t))
    by query.no_operator null = omega arith
    by query.no_operator (boolean b) = omega arith
    by query.no_operator (number n) = omega arith
    by query.no_operator (list js) = omega arith
    by query.no_operator (object ms) = omega arith
    by query.one_of j = omega arith
    by query.differs j = omega arith
    by query.below j = omega arith
    by query.at_most j = omega arith
    by query.above j = omega arith
    by query.at_least j = omega arith
    by query.words j = omega arith

-- a member with a literal
literal_part : (prims : List Primitive) (e : Expects) (n : query.Name) (j : Json) → holds_values e ≡ true → part_looks prims e n (query.literal j) ≤ 64 * reference_cost prims e n.word j
literal_part prims e n j holds = by (query.is_link n.word) (bytes_eq n.word (codes "value")) (bytes_eq n.word (codes "namespace") && has_namespace e) (bytes_eq n.word (codes "lang") && has_lang e)
  where
    spaces : own_looks prims its_namespace n.operator (query.literal j) ≤ 64 * ids_cost j
    spaces = if_within (takes its_namespace n.operator) (test_steps an_object_of_system n.operator j + 0) (64 * ids_cost j) (le (ids_within n.operator j))
      where
        le : test_steps an_object_of_system n.operator j ≤ 30 * ids_cost j → test_steps an_object_of_system n.operator j + 0 ≤ 64 * ids_cost j
        le few = omega (arith, few)

    by : (link value space lang : Bool) → (if link then own_looks prims its_link n.operator (query.literal j) else if value then itself_looks e (query.literal j)
        else if space then own_looks prims its_namespace n.operator (query.literal j) else if lang then own_looks prims its_lang n.operator (query.literal j) else 0)
        ≤ 64 * (if space then ids_cost j else if lang then Rattle.gd_defs.specs.Cost.lang_cost prims j else 0)
    by true value space lang = omega arith
    by false true space lang = let none = itself_none e (query.literal j) holds in omega (arith, none)
    by false false true lang = spaces
    by false false false true = lang_paid prims n.operator j
    by false false false false = omega arith

-- a member with an operand
operand_part : (prims : List Primitive) (e : Expects) (n : query.Name) (j : Json) → holds_values e ≡ true → has_operator n ≡ true → part_looks prims e n (query.operand j) ≤ 0
operand_part prims e n j holds has = by (query.is_link n.word) (bytes_eq n.word (codes "value")) (bytes_eq n.word (codes "namespace") && has_namespace e) (bytes_eq n.word (codes "lang") && has_lang e)
  where
    by : (link value space lang : Bool) → (if link then own_looks prims its_link n.operator (query.operand j) else if value then itself_looks e (query.operand j)
        else if space then own_looks prims its_namespace n.operator (query.operand j) else if lang then own_looks prims its_lang n.operator (query.operand j) else 0) ≤ 0
    by true value space lang = omega arith
    by false true space lang = itself_none e (query.operand j) holds
    by false false true lang = none_if (takes its_namespace n.operator) (test_steps an_object_of_system n.operator j + 0) 0 (unread n has).0
    by false false false true = none_if (takes its_lang n.operator) (test_steps an_object_of_system n.operator j + language_looks prims its_lang j) 0 (unread n has).1
    by false false false false = omega arith

-- a member of another form
other_part : (link value space lang : Bool) → (if link then 0 else if value then 0 else if space then 0 else if lang then 0 else 0) ≤ 0
other_part true value space lang = omega arith
other_part false true space lang = omega arith
other_part false false true lang = omega arith
other_part false false false true = omega arith
other_part false false false false = omega arith

sum_paid : (a b x y : ℕ) → a ≤ 64 * x → b ≤ 64 * y → a + b ≤ 64 * (x + y)
sum_paid a b x y one two = omega (arith, one, two)

none_paid : (a b y : ℕ) → a ≤ 0 → b ≤ 64 * y → a + b ≤ 64 * y
none_paid a b y one two = omega (arith, one, two)

value_paid : (prims : List Primitive) (e : Expects) (ms : query.Members) → holds_values e ≡ true → AreRight ms → value_looks prims e ms ≤ 64 * value_cost prims e ms
value_paid prims e query.no_members holds right = omega arith
value_paid prims e (query.sort_by ws ms) holds right = value_paid prims e ms holds right
value_paid prims e (query.member n (query.literal j) ms) holds right = sum_paid _ _ _ _ (literal_part prims e n j holds) (value_paid prims e ms holds right.2)
value_paid prims e (query.member n (query.operand j) ms) holds right = none_paid _ _ _ (operand_part prims e n j holds right.1) (value_paid prims e ms holds right.2)
value_paid prims e (query.member n query.ask ms) holds right = none_paid _ _ _ (other_part (query.is_link n.word) (bytes_eq n.word (codes "value")) (bytes_eq n.word (codes "namespace") && has_namespace e) (bytes_eq n.word (codes "lang") && has_lang e)) (value_paid prims e ms holds right.2)
value_paid prims e (query.member n query.ask_all ms) holds right = none_paid _ _ _ (other_part (query.is_link n.word) (bytes_eq n.word (codes "value")) (bytes_eq n.word (codes "namespace") && has_namespace e) (bytes_eq n.word (codes "lang") && has_lang e)) (value_paid prims e ms holds right.2)
value_paid prims e (query.member n (query.one d cs) ms) holds right = none_paid _ _ _ (other_part (query.is_link n.word) (bytes_eq n.word (codes "value")) (bytes_eq n.word (codes "namespace") && has_namespace e) (bytes_eq n.word (codes "lang") && has_lang e)) (value_paid prims e ms holds right.2)
value_paid prims e (query.member n (query.many d cs) ms) holds right = none_paid _ _ _ (other_part (query.is_link n.word) (bytes_eq n.word (codes "value")) (bytes_eq n.word (codes "namespace") && has_namespace e) (bytes_eq n.word (codes "lang") && has_lang e)) (value_paid prims e ms holds right.2)

-- ---- computed words

-- a word is computed, or `link`, where it tells something by itself
pub same_words : (b1 b2 b3 b4 : Bool) → is_some (if b1 then Some its_id else if b2 then Some its_guid else if b3 then Some its_timestamp else if b4 then Some its_link else None) ≡ (((b1 || b2) || b3) || b4)
same_words true b2 b3 b4 = refl
same_words false true b3 b4 = refl
same_words false false true b4 = refl
same_words false false false true = refl
same_words false false false false = refl

own_paid : (prims : List Primitive) (o : query.Operator) (w : Own) (j : Json) → own_expects w ≡ an_object_of_system → language_looks prims w j ≡ 0 → own_steps prims w o j ≤ 64 * ids_cost j
own_paid prims o w j expects silent = if_within (takes w o) (test_steps (own_expects w) o j + language_looks prims w j) (64 * ids_cost j) (le (subst (λ e. test_steps e o j ≤ 30 * ids_cost j) (sym expects) (ids_within o j)))
  where
    le : test_steps (own_expects w) o j ≤ 30 * ids_cost j → test_steps (own_expects w) o j + language_looks prims w j ≤ 64 * ids_cost j
    le few = omega (arith, few, silent)

time_none : (prims : List Primitive) (o : query.Operator) (j : Json) → own_steps prims its_timestamp o j ≤ 0
time_none prims query.no_operator j = omega arith
time_none prims query.one_of j = omega arith
time_none prims query.differs j = omega arith
time_none prims query.below j = omega arith
time_none prims query.at_most j = omega arith
time_none prims query.above j = omega arith
time_none prims query.at_least j = omega arith
time_none prims query.words j = omega arith

computed_with : (prims : List Primitive) (o : query.Operator) (j : Json) (b1 b2 b3 b4 : Bool) (f : query.Form) → ((w : Own) → own_looks prims w o f ≡ own_steps prims w o j)
    → computed_looks prims (if b1 then Some its_id else if b2 then Some its_guid else if b3 then Some its_timestamp else if b4 then Some its_link else None) o f ≤ 64 * (if b1 || b2 then ids_cost j else 0)
computed_with prims o j true b2 b3 b4 f is = subst (λ n. n ≤ 64 * ids_cost j) (sym (is its_id)) (own_paid prims o its_id j refl refl)
computed_with prims o j false true b3 b4 f is = subst (λ n. n ≤ 64 * ids_cost j) (sym (is its_guid)) (own_paid prims o its_guid j refl refl)
computed_with prims o j false false true b4 f is = subst (λ n. n ≤ 0) (sym (is its_timestamp)) (time_none prims o j)
computed_with prims o j false false false true f is = subst (λ n. n ≤ 0) (sym (is its_link)) (omega arith)
computed_with prims o j false false false false f is = omega arith

none_computed : (prims : List Primitive) (w : Option Own) (o : query.Operator) (f : query.Form) → ((w : Own) → own_looks prims w o f ≡ 0) → computed_looks prims w o f ≤ 0
none_computed prims None o f is = omega arith
none_computed prims (Some w) o f is = subst (λ n. n ≤ 0) (sym (is w)) (omega arith)

computed_paid : (prims : List Primitive) (n : query.Name) (f : query.Form) → computed_looks prims (own_of n.word) n.operator f ≤ 64 * own_cost n f
computed_paid prims n (query.literal j) = computed_with prims n.operator j (is_word (codes "id") n.word) (is_word (codes "guid") n.word) (is_word (codes "timestamp") n.word) (query.is_link n.word) (query.literal j) (λ w. refl)
computed_paid prims n (query.operand j) = computed_with prims n.operator j (is_word (codes "id") n.word) (is_word (codes "guid") n.word) (is_word (codes "timestamp") n.word) (query.is_link n.word) (query.operand j) (λ w. refl)
computed_paid prims n query.ask = none_computed prims (own_of n.word) n.operator query.ask (λ w. refl)
computed_paid prims n query.ask_all = none_computed prims (own_of n.word) n.operator query.ask_all (λ w. refl)
computed_paid prims n (query.one d ms) = none_computed prims (own_of n.word) n.operator (query.one d ms) (λ w. refl)
computed_paid prims n (query.many d ms) = none_computed prims (own_of n.word) n.operator (query.many d ms) (λ w. refl)

-- ---- words

-- what is looked at of a property that is found, with its turn, by its keys and what is said of it
pub turned_least : (prims : List Primitive) (o : ℕ) (q : Option Property) → turned_steps prims (Some o) q ≤ 23 + 4 * length (places_with Left o prims)
turned_least prims o None = omega arith
turned_least prims o (Some q) = if_within q.reversed (23 + 4 * length (places_with Left o prims)) (23 + 4 * length (places_with Left o prims)) (omega arith)

pub member_paid : (prims : List Primitive) (c : Option ℕ) (reversed : Bool) (word : List ℕ) → member_steps prims c reversed word ≤ 64 * word_cost prims c word
member_paid prims c reversed word = by (property_object prims c word) refl
  where
    more : (p t w k n : ℕ) → 1 ≤ k → 1 ≤ n → w ≡ k + n → p ≡ 53 + 30 * k + 16 * n → t ≤ 23 + 4 * n → p + t ≤ 64 * w
    more p t w k n keys said cost few turned = omega (arith, keys, said, cost, few, turned)

    none : (p t w : ℕ) → p ≤ 64 * w → t ≡ 0 → p + t ≤ 64 * w
    none p t w paid zero = omega (arith, paid, zero)

    by : (o : Option ℕ) → property_object prims c word ≡ o → member_steps prims c reversed word ≤ 64 * word_cost prims c word
    by None is = none (property_steps prims c word) (turned_steps prims (property_object prims c word) (property prims c reversed word)) (word_cost prims c word) (word_paid prims c word) (ap (λ o. turned_steps prims o (property prims c reversed word)) is)
    by (Some o) is =
        let f = found_steps prims c word o (sym is) in
        more (property_steps prims c word) (turned_steps prims (property_object prims c word) (property prims c reversed word)) (word_cost prims c word) f.0 (length (places_with Left o prims)) f.1 f.2 f.3 f.4
        (subst (λ x. turned_steps prims x (property prims c reversed word) ≤ 23 + 4 * length (places_with Left o prims)) (sym is) (turned_least prims o (property prims c reversed word)))

pub sorts_paid : (prims : List Primitive) (c : Option ℕ) (ws : List query.SortWord) → sum_by (sort_steps prims c) ws ≤ 64 * sum_by (sort_cost prims c) ws
sorts_paid prims c [] = omega arith
sorts_paid prims c (w ∷ ws) = rw (sum_by-cons (sort_steps prims c) w ws, sum_by-cons (sort_cost prims c) w ws)
    (sum_paid (sort_steps prims c w) (sum_by (sort_steps prims c) ws) (sort_cost prims c w) (sum_by (sort_cost prims c) ws) (one (query.is_computed w.word)) (sorts_paid prims c ws))
  where
    one : (b : Bool) → (if b then 0 else property_steps prims c w.word) ≤ 64 * (if b then 0 else word_cost prims c w.word)
    one true = omega arith
    one false = word_paid prims c w.word

-- ---- the context type

-- what a member costs that names the context type
abbrev pub own_type : query.Name → query.Form → ℕ
own_type n (query.literal (text t)) = if bytes_eq n.spelled (codes "type") then 30 * id_cost t else 0
own_type n f = 0

pub type_first : (n : query.Name) (f : query.Form) (ms : query.Members) → context_steps (type_text (query.member n f ms)) ≤ own_type n f + context_steps (type_text ms)
type_first n (query.literal (text t)) ms = by (bytes_eq n.spelled (codes "type"))
  where
    by : (b : Bool) → context_steps (if b then Some t else type_text ms) ≤ (if b then 30 * id_cost t else 0) + context_steps (type_text ms)
    by true = omega arith
    by false = omega arith
type_first n (query.literal null) ms = omega arith
type_first n (query.literal (boolean b)) ms = omega arith
type_first n (query.literal (number m)) ms = omega arith
type_first n (query.literal (list js)) ms = omega arith
type_first n (query.literal (object os)) ms = omega arith
type_first n query.ask ms = omega arith
type_first n query.ask_all ms = omega arith
type_first n (query.operand j) ms = omega arith
type_first n (query.one d cs) ms = omega arith
type_first n (query.many d cs) ms = omega arith

-- ---- clauses

-- what a member costs
abbrev pub member_cost : List Primitive → Option ℕ → query.Name → query.Form → ℕ
member_cost prims c n f = if query.is_computed n.word || query.is_link n.word then own_cost n f else word_cost prims c n.word + (form_cost prims (expected_of (property prims c n.reversed n.word)) f + type_cost (expects_of (expected_of (property prims c n.reversed n.word))) n f)

pub words_same : (n : query.Name) → is_some (own_of n.word) ≡ (query.is_computed n.word || query.is_link n.word)
words_same n = same_words (is_word (codes "id") n.word) (is_word (codes "guid") n.word) (is_word (codes "timestamp") n.word) (query.is_link n.word)

sum_more : (a b x y z : ℕ) → a ≤ 64 * x → b ≤ 64 * y → a + b ≤ 64 * (x + (y + z))
sum_more a b x y z one two = omega (arith, one, two)

-- a member that names no context type
member_base : (prims : List Primitive) (c : Option ℕ) (n : query.Name) (f : query.Form) → form_looks prims (expected_of (property prims c n.reversed n.word)) f ≤ 64 * form_cost prims (expected_of (property prims c n.reversed n.word)) f
    → member_looks prims c n f ≤ 64 * member_cost prims c n f
member_base prims c n f form = by (is_some (own_of n.word)) (query.is_computed n.word || query.is_link n.word) (words_same n)
  where
    by : (a b : Bool) → a ≡ b → (if a then computed_looks prims (own_of n.word) n.operator f else member_steps prims c n.reversed n.word + form_looks prims (expected_of (property prims c n.reversed n.word)) f)
        ≤ 64 * (if b then own_cost n f else word_cost prims c n.word + (form_cost prims (expected_of (property prims c n.reversed n.word)) f + type_cost (expects_of (expected_of (property prims c n.reversed n.word))) n f))
    by true true same = computed_paid prims n f
    by false false same = sum_more _ _ _ _ (type_cost (expects_of (expected_of (property prims c n.reversed n.word))) n f) (member_paid prims c n.reversed n.word) form
    by true false same = absurd (false≢true (sym same))
    by false true same = absurd (false≢true same)

-- the member `type`, with what its text takes as the context type
typed_paid : (prims : List Primitive) (c : Option ℕ) (n : query.Name) (t : List ℕ) → bytes_eq n.spelled (codes "type") ≡ true → n.word ≡ codes "type"
    → member_looks prims c n (query.literal (text t)) + 30 * id_cost t ≤ 64 * member_cost prims c n (query.literal (text t))
typed_paid prims c n t spelled word = by n.word word (member_paid prims c n.reversed n.word)
  where
    both : (m w i v : ℕ) → m ≤ 64 * w → m + 30 * i + 30 * i ≤ 64 * (w + (i + v + 0))
    both m w i v paid = omega (arith, paid)

    one : (b : Bool) (m w i v : ℕ) → b ≡ true → m ≤ 64 * w → m + 0 + 30 * i ≤ 64 * (w + (v + (if b then i else 0)))
    one true m w i v is paid = omega (arith, paid)
    one false m w i v is paid = absurd (false≢true is)

    all : (m w : ℕ) (e : Expects) → m ≤ 64 * w → m + operand_steps (tested_as e) (text t) + 30 * id_cost t ≤ 64 * (w + (operand_cost prims e (text t) + type_cost e n (query.literal (text t))))
    all m w an_object_of_system paid = both m w (id_cost t) (word_cost prims None (codes "name")) paid
    all m w (a_value k) paid = one (bytes_eq n.spelled (codes "type")) m w (id_cost t) 0 spelled paid
    all m w a_key paid = one (bytes_eq n.spelled (codes "type")) m w (id_cost t) 0 spelled paid
    all m w a_plain_object paid = one (bytes_eq n.spelled (codes "type")) m w (id_cost t) (word_cost prims None (codes "name")) spelled paid

    by : (word : List ℕ) → word ≡ codes "type" → member_steps prims c n.reversed word ≤ 64 * word_cost prims c word
        → (if is_some (own_of word) then computed_looks prims (own_of word) n.operator (query.literal (text t)) else member_steps prims c n.reversed word + form_looks prims (expected_of (property prims c n.reversed word)) (query.literal (text t))) + 30 * id_cost t
        ≤ 64 * (if query.is_computed word || query.is_link word then own_cost n (query.literal (text t))
        else word_cost prims c word + (form_cost prims (expected_of (property prims c n.reversed word)) (query.literal (text t)) + type_cost (expects_of (expected_of (property prims c n.reversed word))) n (query.literal (text t))))
    by word is paid = rw is (all (member_steps prims c n.reversed (codes "type")) (word_cost prims c (codes "type")) (expects_of (expected_of (property prims c n.reversed (codes "type")))) (subst (λ w. member_steps prims c n.reversed w ≤ 64 * word_cost prims c w) is paid))

plus_none : (a m : ℕ) → a ≤ m → a + 0 ≤ m
plus_none a m le = omega (arith, le)

-- any member
pub one_paid : (prims : List Primitive) (c : Option ℕ) (n : query.Name) (f : query.Form) → IsNamed n
    → form_looks prims (expected_of (property prims c n.reversed n.word)) f ≤ 64 * form_cost prims (expected_of (property prims c n.reversed n.word)) f
    → member_looks prims c n f + own_type n f ≤ 64 * member_cost prims c n f
one_paid prims c n (query.literal (text t)) named form = by (bytes_eq n.spelled (codes "type")) refl
  where
    by : (b : Bool) → bytes_eq n.spelled (codes "type") ≡ b → member_looks prims c n (query.literal (text t)) + (if b then 30 * id_cost t else 0) ≤ 64 * member_cost prims c n (query.literal (text t))
    by true spelled = typed_paid prims c n t spelled (named spelled)
    by false spelled = plus_none _ _ (member_base prims c n (query.literal (text t)) form)
one_paid prims c n (query.literal null) named form = plus_none _ _ (member_base prims c n (query.literal null) form)
one_paid prims c n (query.literal (boolean b)) named form = plus_none _ _ (member_base prims c n (query.literal (boolean b)) form)
one_paid prims c n (query.literal (number m)) named form = plus_none _ _ (member_base prims c n (query.literal (number m)) form)
one_paid prims c n (query.literal (list js)) named form = plus_none _ _ (member_base prims c n (query.literal (list js)) form)
one_paid prims c n (query.literal (object os)) named form = plus_none _ _ (member_base prims c n (query.literal (object os)) form)
one_paid prims c n query.ask named form = plus_none _ _ (member_base prims c n query.ask form)
one_paid prims c n query.ask_all named form = plus_none _ _ (member_base prims c n query.ask_all form)
one_paid prims c n (query.operand j) named form = plus_none _ _ (member_base prims c n (query.operand j) form)
one_paid prims c n (query.one d ms) named form = plus_none _ _ (member_base prims c n (query.one d ms) form)
one_paid prims c n (query.many d ms) named form = plus_none _ _ (member_base prims c n (query.many d ms) form)

-- a member in front of others
pub front_paid : (own rest all type behind x y : ℕ) → own + type ≤ 64 * x → rest + behind ≤ 64 * y → all ≤ type + behind → own + rest + all ≤ 64 * (x + y)
front_paid own rest all type behind x y one two three = omega (arith, one, two, three)

pub sort_front : (s rest all x y : ℕ) → s ≤ 64 * x → rest + all ≤ 64 * y → s + rest + all ≤ 64 * (x + y)
sort_front s rest all x y one two = omega (arith, one, two)

-- a form below a property
below_paid : (prims : List Primitive) (e : Expects) (ms : query.Members) (l c : ℕ) → AreRight ms → l ≤ 64 * c → (if holds_values e then value_looks prims e ms else l) ≤ 64 * (if holds_values e then value_cost prims e ms else c)
below_paid prims e ms l c right objects = by (holds_values e) refl
  where
    by : (b : Bool) → holds_values e ≡ b → (if b then value_looks prims e ms else l) ≤ 64 * (if b then value_cost prims e ms else c)
    by true is = value_paid prims e ms is right
    by false is = objects

swapped : (a b m : ℕ) → a + b ≤ m → b + a ≤ m
swapped a b m le = omega (arith, le)

mutual
  -- LAW: the cost of the members of a clause pays for looking them up, and the context type
  pub members_paid : (prims : List Primitive) (c : Option ℕ) (ms : query.Members) → AreRight ms → looks prims c ms + context_steps (type_text ms) ≤ 64 * members_cost prims c ms
  members_paid prims c query.no_members right = omega arith
  members_paid prims c (query.sort_by ws ms) right = sort_front (sum_by (sort_steps prims c) ws) (looks prims c ms) (context_steps (type_text ms)) (sum_by (sort_cost prims c) ws) (members_cost prims c ms) (sorts_paid prims c ws) (members_paid prims c ms right)
  members_paid prims c (query.member n f ms) right =
      front_paid (member_looks prims c n f) (looks prims c ms) (context_steps (type_text (query.member n f ms))) (own_type n f) (context_steps (type_text ms)) (member_cost prims c n f) (members_cost prims c ms)
      (one_paid prims c n f right.0 (form_paid prims (expected_of (property prims c n.reversed n.word)) n f right.1)) (members_paid prims c ms right.2) (type_first n f ms)

  -- so does that of a form
  pub form_paid : (prims : List Primitive) (expected : Option ℕ) (n : query.Name) (f : query.Form) → IsRight n f → form_looks prims expected f ≤ 64 * form_cost prims expected f
  form_paid prims expected n query.ask right = omega arith
  form_paid prims expected n query.ask_all right = omega arith
  form_paid prims expected n (query.literal j) right = literal_paid prims (expects_of expected) j
  form_paid prims expected n (query.operand j) right = literal_paid prims (expects_of expected) j
  form_paid prims expected n (query.one d ms) right = below_paid prims (expects_of expected) ms _ _ right (swapped _ _ _ (members_paid prims (context prims expected ms) ms right))
  form_paid prims expected n (query.many d ms) right = below_paid prims (expects_of expected) ms _ _ right (swapped _ _ _ (members_paid prims (context prims expected ms) ms right))
