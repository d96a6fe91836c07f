-- What was looked up so far, and what is left of it.
use Rattle.std.proofs.Common.{◌≡◌, ◌∙◌, ℕ, ◌+◌, ◌*◌, ◌≤◌, ◌<◌, suc, List, [], ◌∷◌, ◌++◌, append_assoc, length, drop, get_or, Vec, Global, add-one, drop-cons, Bool, true, false, ◌&&◌, ◌||◌, Option, Some, None, Result, Ok, Err, refl, sym, ap, subst, arith, rules, codes}
use Rattle.std.specs.Prelude.{sum_by, is_some, if◌then◌else◌, bytes_eq}
use Rattle.std.proofs.lemmas.Bool.{false≢true}
use Rattle.std.proofs.lemmas.List.Sums.{sum_by-cons}
use Rattle.gd_grammar.specs.Chain.{◌>>=◌}
use Rattle.gd_grammar.proofs.Steps.{steps, ok_same, some_given}
use Rattle.gd_base.specs.declared.datum.Datum.{Datum}
use Rattle.gd_prim.specs.declared.Primitive.{Primitive}
use Rattle.gd_tree.specs.Json.{Json, null, boolean, number, text, list, object, Items, item}
use Rattle.gd_defs.specs.Data.{Test}
use Rattle.gd_defs.specs.Cost.{context, expected_of, id_cost}
use Rattle.gd_defs.specs.Ids.{object_of}
use Rattle.gd_defs.specs.Query as query
use Rattle.gd_defs.specs.Query.{is_word}
use Rattle.gd_defs.specs.Property.{Property, Expects, a_value, a_key, an_object_of_system, a_plain_object, expects_of, holds_values, property}
use Rattle.gd_defs.specs.Asked.{Own, its_id, its_guid, its_timestamp, its_link, its_value, its_namespace, its_lang, own_of, own_expects, takes, has_namespace, has_lang, asked_object, test_of, context_of, type_text, place_named, Unknown}
use Rattle.gd_defs.specs.Asked.Tests.{operand_data, operand_datum}
use Rattle.gd_json.specs.View.{view, items_view}
use Rattle.gd_json.specs.declared.value.Json.{Json as Written, List as List', Text as Text', the_lemmas}
use Rattle.gd_json.proofs.Parts.{view-List}
use Rattle.gd_plan.specs.PassedOn.{property_steps}
use Rattle.gd_compile.specs.Looks.{item_steps, operand_steps, test_steps, language_looks, own_steps, own_looks, itself_looks, part_looks, member_steps, sort_steps, context_steps, computed_looks, value_looks, looks, form_looks, member_looks, clause_looks, below_looks}
use Rattle.gd_compile.specs.Seen.{is_choice}
use Rattle.gd_compile.specs.Spoken.{language_steps, object_named}
use Rattle.gd_compile.proofs.Spoken.{test_named}

-- ---- operands

-- the operands that are left, with the next of them
pub operand_there : (ops : List Written) (k : ℕ) (j : Written) → k < length ops → j ≡ get_or ops k j → items_view (drop k ops) ≡ item (view j) (items_view (drop (k + 1) ops))
operand_there ops k j there at = rw add-one (ap items_view (drop-cons ops k j there) ∙ ap (λ (x : Written). item (view x) (items_view (drop (suc k) ops))) (sym at))

-- a datum behind those before it
data_more : (r : Result (List Datum) Unknown) (had : List Datum) (d : Datum) → ((r >>= λ ds. Ok (d ∷ ds)) >>= λ ds. Ok (had ++ ds)) ≡ (r >>= λ ds. Ok ((had ++ d ∷ []) ++ ds))
data_more (Err e) had d = refl
data_more (Ok ds) had d = ap Ok (sym (append_assoc had (d ∷ []) ds))

-- one operand more was read
pub operand_taken : (prims : List Primitive) (e : Expects) (path : List (List ℕ)) (ops : List Written) (k : ℕ) (j : Written) (d : Datum) (had after : List Datum) (all : Result (List Datum) Unknown) → k < length ops → j ≡ get_or ops k j
    → all ≡ (operand_data prims e path (items_view (drop k ops)) >>= λ ds. Ok (had ++ ds)) → operand_datum prims e path (view j) ≡ Ok d → after ≡ had ++ d ∷ []
    → all ≡ (operand_data prims e path (items_view (drop (k + 1) ops)) >>= λ ds. Ok (after ++ ds))
operand_taken prims e path ops k j d had after all there at left found grown =
    left ∙ (ap (λ (js : Items). operand_data prims e path js >>= λ ds. Ok (had ++ ds)) (operand_there ops k j there at)
    ∙ (ap (λ (x : Result Datum Unknown). (x >>= λ d. operand_data prims e path (items_view (drop (k + 1) ops)) >>= λ ds. Ok (d ∷ ds)) >>= λ ds. Ok (had ++ ds)) found
    ∙ (data_more (operand_data prims e path (items_view (drop (k + 1) ops))) had d
    ∙ ap (λ (front : List Datum). operand_data prims e path (items_view (drop (k + 1) ops)) >>= λ ds. Ok (front ++ ds)) (sym grown))))

view-Text : (t : List ℕ) → view (Text' t) ≡ text t
view-Text t = search (rules, the_lemmas)

-- the text of an id
pub text_steps : (t : List ℕ) (a b : ℕ) → b ≤ a + 30 * id_cost t → b ≤ a + item_steps a_plain_object (view (Text' t))
text_steps t a b le = subst (λ (j : Json). b ≤ a + item_steps a_plain_object j) (sym (view-Text t)) le

-- the operands of a list
pub list_steps : (e : Expects) (v : Vec Written Global) (a b : ℕ) → b ≤ a + operand_steps e (list (items_view v.items)) → b ≤ a + operand_steps e (view (List' v))
list_steps e v a b le = subst (λ (j : Json). b ≤ a + operand_steps e j) (sym (view-List v)) le

-- one operand of a list more
pub items_next : (e : Expects) (j : Json) (js : Items) (a b c : ℕ) → a + operand_steps e (list (item j js)) ≤ c → b ≤ a + item_steps e j → b + operand_steps e (list js) ≤ c
items_next (a_value k) j js a b c whole one = omega (arith, whole, one)
items_next a_key j js a b c whole one = omega (arith, whole, one)
items_next an_object_of_system (text t) js a b c whole one = omega (arith, whole, one)
items_next an_object_of_system null js a b c whole one = omega (arith, whole, one)
items_next an_object_of_system (boolean x) js a b c whole one = omega (arith, whole, one)
items_next an_object_of_system (number n) js a b c whole one = omega (arith, whole, one)
items_next an_object_of_system (list is) js a b c whole one = omega (arith, whole, one)
items_next an_object_of_system (object ms) js a b c whole one = omega (arith, whole, one)
items_next a_plain_object (text t) js a b c whole one = omega (arith, whole, one)
items_next a_plain_object null js a b c whole one = omega (arith, whole, one)
items_next a_plain_object (boolean x) js a b c whole one = omega (arith, whole, one)
items_next a_plain_object (number n) js a b c whole one = omega (arith, whole, one)
items_next a_plain_object (list is) js a b c whole one = omega (arith, whole, one)
items_next a_plain_object (object ms) js a b c whole one = omega (arith, whole, one)

-- of a list that is left
pub items_left : (e : Expects) (j : Json) (js left : Items) (a b c : ℕ) → left ≡ item j js → a + operand_steps e (list left) ≤ c → b ≤ a + item_steps e j → b + operand_steps e (list js) ≤ c
items_left e j js left a b c is whole one = items_next e j js a b c (subst (λ l. a + operand_steps e (list l) ≤ c) is whole) one

pub items_ended : (n a c : ℕ) → a + n ≤ c → a ≤ c
items_ended n a c le = omega (arith, le)

-- an operand by its operator
pub choice_steps : (e : Expects) (o : query.Operator) (j : Json) (a b : ℕ) → is_choice o ≡ true → b ≤ a + operand_steps e j → b ≤ a + test_steps e o j
choice_steps e query.one_of j a b is le = le
choice_steps e query.no_operator j a b is le = absurd (false≢true is)
choice_steps e query.differs j a b is le = absurd (false≢true is)
choice_steps e query.below j a b is le = absurd (false≢true is)
choice_steps e query.at_most j a b is le = absurd (false≢true is)
choice_steps e query.above j a b is le = absurd (false≢true is)
choice_steps e query.at_least j a b is le = absurd (false≢true is)
choice_steps e query.words j a b is le = absurd (false≢true is)

pub datum_steps : (e : Expects) (o : query.Operator) (j : Json) (a b : ℕ) → is_choice o ≡ false → b ≤ a + item_steps e j → b ≤ a + test_steps e o j
datum_steps e query.one_of j a b is le = absurd (false≢true (sym is))
datum_steps e query.no_operator j a b is le = le
datum_steps e query.differs j a b is le = le
datum_steps e query.below j a b is le = le
datum_steps e query.at_most j a b is le = le
datum_steps e query.above j a b is le = le
datum_steps e query.at_least j a b is le = le
datum_steps e query.words j a b is le = le

-- what was looked up of an operand is no more than of all its ids
pub ids_looked : (e f : Expects) (o : query.Operator) (j : Json) (a b : ℕ) → e ≡ f → b ≤ a + test_steps e o j → b ≤ a + operand_steps f j
ids_looked e f o j a b same le = let few = Rattle.gd_compile.proofs.Paid.test_within f o j in go (subst (λ e. b ≤ a + test_steps e o j) same le) few
  where
    go : b ≤ a + test_steps f o j → test_steps f o j ≤ operand_steps f j → b ≤ a + operand_steps f j
    go one two = omega (arith, one, two)

-- ---- computed words

-- what a word asks of its test it asks of the text that was given
named_least : (prims : List Primitive) (path : List (List ℕ)) (w : Own) (o : query.Operator) (j : Json) (t : Test) → takes w o ≡ true → test_of prims (own_expects w) path o j ≡ Ok t → language_steps prims w (asked_object t) ≤ language_looks prims w j
named_least prims path its_lang o j t allowed is = by o j allowed is (test_named prims path o j t allowed is)
  where
    by : (o : query.Operator) (j : Json) → takes its_lang o ≡ true → test_of prims an_object_of_system path o j ≡ Ok t → asked_object t ≡ object_named prims j → language_steps prims its_lang (asked_object t) ≤ language_looks prims its_lang j
    by o (text u) allowed is same = rw same (omega arith)
    by query.no_operator null allowed is same = absurd (cc)
    by query.no_operator (boolean b) allowed is same = absurd (cc)
    by query.no_operator (number n) allowed is same = absurd (cc)
    by query.no_operator (list js) allowed is same = absurd (cc)
    by query.no_operator (object ms) allowed is same = absurd (cc)
    by query.one_of j allowed is same = absurd (false≢true allowed)
    by query.differs j allowed is same = absurd (false≢true allowed)
    by query.below j allowed is same = absurd (false≢true allowed)
    by query.at_most j allowed is same = absurd (false≢true allowed)
    by query.above j allowed is same = absurd (false≢true allowed)
    by query.at_least j allowed is same = absurd (false≢true allowed)
    by query.words j allowed is same = absurd (false≢true allowed)
named_least prims path its_id o j t allowed is = omega arith
named_least prims path its_guid o j t allowed is = omega arith
named_least prims path its_timestamp o j t allowed is = omega arith
named_least prims path its_link o j t allowed is = omega arith
named_least prims path its_value o j t allowed is = omega arith
named_least prims path its_namespace o j t allowed is = omega arith

if_true : (b : Bool) (x y : ℕ) → b ≡ true → x ≤ y → x ≤ (if b then y else 0)
if_true true x y is le = le
if_true false x y is le = absurd (false≢true is)

-- a test that was made, and what its word asked of it
pub told_looked : (prims : List Primitive) (path : List (List ℕ)) (w : Own) (e : Expects) (o : query.Operator) (j : Json) (t : Test) (a b c : ℕ) → takes w o ≡ true → e ≡ own_expects w → test_of prims e path o j ≡ Ok t
    → b ≤ a + test_steps e o j → c ≤ b + language_steps prims w (asked_object t) → c ≤ a + own_steps prims w o j
told_looked prims path w e o j t a b c allowed expects is one two =
    both (test_steps (own_expects w) o j) (language_steps prims w (asked_object t)) (language_looks prims w j) (own_steps prims w o j)
    (subst (λ e. b ≤ a + test_steps e o j) expects one) two (named_least prims path w o j t allowed (sym (ap (λ e. test_of prims e path o j) expects) ∙ is)) (if_true (takes w o) _ _ allowed (same _))
  where
    same : (n : ℕ) → n ≤ n
    same n = omega arith

    both : (x s l whole : ℕ) → b ≤ a + x → c ≤ b + s → s ≤ l → x + l ≤ whole → c ≤ a + whole
    both x s l whole one two three four = omega (arith, one, two, three, four)

-- a test that was not
pub untold_looked : (prims : List Primitive) (w : Own) (e : Expects) (o : query.Operator) (j : Json) (a b : ℕ) → takes w o ≡ true → e ≡ own_expects w → b ≤ a + test_steps e o j → b ≤ a + own_steps prims w o j
untold_looked prims w e o j a b allowed expects one =
    both (test_steps (own_expects w) o j) (language_looks prims w j) (own_steps prims w o j) (subst (λ e. b ≤ a + test_steps e o j) expects one) (if_true (takes w o) _ _ allowed (same _))
  where
    same : (n : ℕ) → n ≤ n
    same n = omega arith

    both : (x l whole : ℕ) → b ≤ a + x → x + l ≤ whole → b ≤ a + whole
    both x l whole one two = omega (arith, one, two)

-- ---- members of forms on values and keys

first_if : (b : Bool) (a c x y : ℕ) → b ≡ true → c ≤ a + x → c ≤ a + (if b then x else y)
first_if true a c x y is le = le
first_if false a c x y is le = absurd (false≢true is)

other_if : (b : Bool) (a c x y : ℕ) → b ≡ false → c ≤ a + y → c ≤ a + (if b then x else y)
other_if false a c x y is le = le
other_if true a c x y is le = absurd (false≢true (sym is))

pub part_link : (prims : List Primitive) (e : Expects) (n : query.Name) (f : query.Form) (a b : ℕ) → query.is_link n.word ≡ true → b ≤ a + own_looks prims its_link n.operator f → b ≤ a + part_looks prims e n f
part_link prims e n f a b link le = first_if (query.is_link n.word) a b _ _ link le

pub part_value : (prims : List Primitive) (e : Expects) (n : query.Name) (f : query.Form) (a b : ℕ) → query.is_link n.word ≡ false → bytes_eq n.word (codes "value") ≡ true → b ≤ a + itself_looks e f → b ≤ a + part_looks prims e n f
part_value prims e n f a b link value le = other_if (query.is_link n.word) a b _ _ link (first_if (bytes_eq n.word (codes "value")) a b _ _ value le)

pub part_namespace : (prims : List Primitive) (e : Expects) (n : query.Name) (f : query.Form) (a b : ℕ) → query.is_link n.word ≡ false → bytes_eq n.word (codes "value") ≡ false → (bytes_eq n.word (codes "namespace") && has_namespace e) ≡ true
    → b ≤ a + own_looks prims its_namespace n.operator f → b ≤ a + part_looks prims e n f
part_namespace prims e n f a b link value space le =
    other_if (query.is_link n.word) a b _ _ link (other_if (bytes_eq n.word (codes "value")) a b _ _ value (first_if (bytes_eq n.word (codes "namespace") && has_namespace e) a b _ _ space le))

pub part_lang : (prims : List Primitive) (e : Expects) (n : query.Name) (f : query.Form) (a b : ℕ) → query.is_link n.word ≡ false → bytes_eq n.word (codes "value") ≡ false → (bytes_eq n.word (codes "namespace") && has_namespace e) ≡ false → (bytes_eq n.word (codes "lang") && has_lang e) ≡ true
    → b ≤ a + own_looks prims its_lang n.operator f → b ≤ a + part_looks prims e n f
part_lang prims e n f a b link value space lang le =
    other_if (query.is_link n.word) a b _ _ link (other_if (bytes_eq n.word (codes "value")) a b _ _ value (other_if (bytes_eq n.word (codes "namespace") && has_namespace e) a b _ _ space (first_if (bytes_eq n.word (codes "lang") && has_lang e) a b _ _ lang le)))

-- ---- sort words

-- a sort word that is not computed
pub sort_looked : (prims : List Primitive) (c : Option ℕ) (w : query.SortWord) (a b : ℕ) → is_word (codes "id") w.word ≡ false → is_word (codes "guid") w.word ≡ false → is_word (codes "timestamp") w.word ≡ false
    → b ≤ a + property_steps prims c w.word → b ≤ a + sort_steps prims c w
sort_looked prims c w a b id guid time le = by (is_word (codes "id") w.word) (is_word (codes "guid") w.word) (is_word (codes "timestamp") w.word) id guid time
  where
    by : (x y z : Bool) → x ≡ false → y ≡ false → z ≡ false → b ≤ a + (if (x || y) || z then 0 else property_steps prims c w.word)
    by false false false x y z = le
    by true y z is _ _ = absurd (false≢true (sym is))
    by false true z _ is _ = absurd (false≢true (sym is))
    by false false true _ _ is = absurd (false≢true (sym is))

-- one word more
pub sorts_next : (f : query.SortWord → ℕ) (ws more : List query.SortWord) (w : query.SortWord) (a b c : ℕ) → ws ≡ w ∷ more → a + sum_by f ws ≤ c → b ≤ a + f w → b + sum_by f more ≤ c
sorts_next f ws more w a b c is whole one = go (sum_by f ws) (ap (sum_by f) is ∙ sum_by-cons f w more) whole
  where
    go : (n : ℕ) → n ≡ f w + sum_by f more → a + n ≤ c → b + sum_by f more ≤ c
    go n same whole = omega (arith, same, whole, one)

-- ---- clauses

-- one part more
pub parts_next : (m : query.Members → ℕ) (left whole rest : query.Members) (a b c : ℕ) → left ≡ whole → a + m left ≤ c → b + m rest ≤ a + m whole → b + m rest ≤ c
parts_next m left whole rest a b c is all one = go (m left) (ap m is) all
  where
    go : (n : ℕ) → n ≡ m whole → a + n ≤ c → b + m rest ≤ c
    go n same all = omega (arith, same, all, one)

pub parts_broken : (m : query.Members → ℕ) (left whole rest : query.Members) (a b c : ℕ) → left ≡ whole → a + m left ≤ c → b + m rest ≤ a + m whole → b ≤ c
parts_broken m left whole rest a b c is all one = go (parts_next m left whole rest a b c is all one)
  where
    go : b + m rest ≤ c → b ≤ c
    go le = omega (arith, le)

-- the context type
pub context_is : (prims : List Primitive) (above : Option ℕ) (o : Option (List ℕ)) (ms : query.Members) (t : Option ℕ) → type_text ms ≡ o → context_of prims above o ≡ Ok t → context prims above ms ≡ t
context_is prims above None ms t is made = rw is (ok_same above t made)
context_is prims above (Some word) ms t is made =
    let found = steps (place_named prims word) (λ o. Ok (Some o)) t made in
    rw is (some_given (object_of prims word) _ found.value found.gave ∙ ok_same (Some found.value) t found.then_gave)

-- a part in front of the rest
pub part_front : (a b x y whole : ℕ) → whole ≡ x + y → b ≤ a + x → b + y ≤ a + whole
part_front a b x y whole is le = omega (arith, is, le)

-- a part that was not looked at
pub part_passed : (a x y whole : ℕ) → whole ≡ x + y → a + y ≤ a + whole
part_passed a x y whole is = omega (arith, is)

-- a member that is computed
pub own_looked : (prims : List Primitive) (c : Option ℕ) (n : query.Name) (f : query.Form) (w : Own) (a b : ℕ) → Some w ≡ own_of n.word → b ≤ a + own_looks prims w n.operator f → b ≤ a + member_looks prims c n f
own_looked prims c n f w a b is le = subst (λ o. b ≤ a + (if is_some o then computed_looks prims o n.operator f else member_steps prims c n.reversed n.word + form_looks prims (expected_of (property prims c n.reversed n.word)) f)) is le

-- one that asks for a property
pub asks_looked : (prims : List Primitive) (c : Option ℕ) (n : query.Name) (f : query.Form) (p : Property) (a b d : ℕ) → None ≡ own_of n.word → property prims c n.reversed n.word ≡ Some p → b ≤ a + member_steps prims c n.reversed n.word → d ≤ b + form_looks prims p.expected f → d ≤ a + member_looks prims c n f
asks_looked prims c n f p a b d is found one two =
    subst (λ o. d ≤ a + (if is_some o then computed_looks prims o n.operator f else member_steps prims c n.reversed n.word + form_looks prims (expected_of (property prims c n.reversed n.word)) f)) is
    (both (member_steps prims c n.reversed n.word) (form_looks prims p.expected f) (form_looks prims (expected_of (property prims c n.reversed n.word)) f) (sym (ap (λ (q : Option Property). form_looks prims (expected_of q) f) found)) one two)
  where
    both : (x y z : ℕ) → y ≡ z → b ≤ a + x → d ≤ b + y → d ≤ a + (x + z)
    both x y z same one two = omega (arith, same, one, two)

pub asks_refused : (prims : List Primitive) (c : Option ℕ) (n : query.Name) (f : query.Form) (a b : ℕ) → None ≡ own_of n.word → b ≤ a + member_steps prims c n.reversed n.word → b ≤ a + member_looks prims c n f
asks_refused prims c n f a b is one =
    subst (λ o. b ≤ a + (if is_some o then computed_looks prims o n.operator f else member_steps prims c n.reversed n.word + form_looks prims (expected_of (property prims c n.reversed n.word)) f)) is
    (more (member_steps prims c n.reversed n.word) (form_looks prims (expected_of (property prims c n.reversed n.word)) f) one)
  where
    more : (x z : ℕ) → b ≤ a + x → b ≤ a + (x + z)
    more x z one = omega (arith, one)

-- a clause, with its context type
pub clause_looked : (prims : List Primitive) (above : Option ℕ) (ms : query.Members) (t : Option ℕ) (o : Option (List ℕ)) (a b d : ℕ) → o ≡ type_text ms → context_of prims above o ≡ Ok t → b ≤ a + context_steps o → d ≤ b + looks prims t ms → d ≤ a + clause_looks prims above ms
clause_looked prims above ms t o a b d same given one two =
    both (context_steps o) (context_steps (type_text ms)) (looks prims t ms) (looks prims (context prims above ms) ms) (ap context_steps same) (ap (λ c. looks prims c ms) (sym (context_is prims above o ms t (sym same) given))) one two
  where
    both : (x y u v : ℕ) → x ≡ y → u ≡ v → b ≤ a + x → d ≤ b + u → d ≤ a + (y + v)
    both x y u v first second one two = omega (arith, first, second, one, two)

pub clause_refused : (prims : List Primitive) (above : Option ℕ) (ms : query.Members) (o : Option (List ℕ)) (a b : ℕ) → o ≡ type_text ms → b ≤ a + context_steps o → b ≤ a + clause_looks prims above ms
clause_refused prims above ms o a b same one = more (context_steps o) (context_steps (type_text ms)) (looks prims (context prims above ms) ms) (ap context_steps same) one
  where
    more : (x y v : ℕ) → x ≡ y → b ≤ a + x → b ≤ a + (y + v)
    more x y v same one = omega (arith, same, one)

-- a form below a property, whatever its answers are
pub values_below : (prims : List Primitive) (expected : Option ℕ) (e : Expects) (ms : query.Members) (a b : ℕ) → e ≡ expects_of expected → holds_values e ≡ true → b ≤ a + value_looks prims e ms → b ≤ a + below_looks prims expected ms
values_below prims expected e ms a b same holds le = first_if (holds_values (expects_of expected)) a b _ _ (subst (λ e. holds_values e ≡ true) same holds) (subst (λ e. b ≤ a + value_looks prims e ms) same le)

pub objects_below : (prims : List Primitive) (expected : Option ℕ) (e : Expects) (ms : query.Members) (a b : ℕ) → e ≡ expects_of expected → holds_values e ≡ false → b ≤ a + clause_looks prims expected ms → b ≤ a + below_looks prims expected ms
objects_below prims expected e ms a b same holds le = other_if (holds_values (expects_of expected)) a b _ _ (subst (λ e. holds_values e ≡ false) same holds) le
