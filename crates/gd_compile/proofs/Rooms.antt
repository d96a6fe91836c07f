-- The cost of a query also pays for choosing among the sets of links that its literals name.
use Rattle.std.proofs.Common.{◌≡◌, ◌∙◌, ℕ, ◌+◌, ◌*◌, ◌≤◌, List, [], ◌∷◌, ◌++◌, length, Bool, true, false, ◌&&◌, ◌||◌, Option, Some, None, is_some, Result, Ok, Err, IfOk, MatchResult, refl, sym, ap, subst, arith, codes}
use Rattle.std.specs.Prelude.{sum_by, if◌then◌else◌, option_map, bytes_eq}
use Rattle.std.specs.Option.{option_map_or}
use Rattle.std.proofs.lemmas.Bool.{false≢true}
use Rattle.gd_grammar.specs.Chain.{◌>>=◌}
use Rattle.gd_grammar.proofs.Steps.{steps, ok_same, not_ok, some_same}
use Rattle.gd_prim.specs.declared.Primitive.{Primitive}
use Rattle.gd_prim.specs.declared.End.TheVariants.{Left}
use Rattle.gd_prim.specs.Builtin.{expected_place}
use Rattle.gd_prim.specs.End.{places_with}
use Rattle.gd_tree.specs.Json.{Json, null, boolean, number, text, list, object}
use Rattle.gd_defs.specs.Data.{Test, anything, equals, differs, is_one_of, is_below, is_above, matches_words}
use Rattle.gd_defs.specs.Cost.{id_cost, ids_cost, word_cost, operand_cost, form_cost, type_cost, members_cost, context, expected_of, resolving}
use Rattle.gd_defs.specs.Query as query
use Rattle.gd_defs.specs.Property.{Property, Expects, a_value, a_key, an_object_of_system, a_plain_object, expects_of, holds_values, property, property_object, stated, turned, first_right, is_reversed_value}
use Rattle.gd_defs.specs.Asked as defs
use Rattle.gd_defs.specs.Asked.Tests.{checked_test, tested_as}
use Rattle.gd_defs.specs.Asked.Forms.{ask_form, operand_form, clause_form}
use Rattle.gd_runs.specs.RootSets.{sets_by_link}
use Rattle.gd_plan.specs.Asked.{asked_view}
use Rattle.gd_plan.specs.declared.asked.Asked.{Asked as Found}
use Rattle.gd_compile.specs.declared.fault.Unknown.{Unknown}
use Rattle.gd_compile.specs.declared.fault.Unknown.TheVariants as fault
use Rattle.gd_template_laws.proofs.AskedMembers.{computed}
use Rattle.gd_plan.specs.PassedOn.{property_steps}
use Rattle.gd_plan.proofs.PassedOn.{found_steps, word_least, expects_two}
use Rattle.gd_compile.specs.Looks.{operand_steps, turned_steps, member_steps, sort_steps, context_steps, looks, form_looks, member_looks, clause_looks}
use Rattle.gd_compile.proofs.Looked.{context_is}
use Rattle.gd_compile.proofs.Right.{IsNamed, AreRight, IsRight}
use Rattle.gd_compile.proofs.Paid.{own_type, type_first, member_cost, words_same, one_paid, sorts_paid, members_paid, form_paid, turned_least}

-- how many steps choosing takes at most for the links that a member names: two sets of a literal, of plain objects one
abbrev two_sets : Expects → ℕ
two_sets a_plain_object = 24
two_sets e = 48

abbrev set_steps : query.Form → Expects → ℕ
set_steps (query.literal j) e = two_sets e
set_steps f e = 0

-- choosing among the sets of links that members name
abbrev pub choosing : List Primitive → defs.Members → ℕ
choosing prims ms = 24 * length (sets_by_link prims ms)

-- ---- the sets of a member

two_more : (xs : List Rattle.gd_runs.specs.RootSets.RootSet) (a b : Rattle.gd_runs.specs.RootSets.RootSet) → 24 * length ((a ∷ b ∷ []) ++ xs) ≤ 48 + 24 * length xs
two_more xs a b = omega arith

one_more : (xs : List Rattle.gd_runs.specs.RootSets.RootSet) (a : Rattle.gd_runs.specs.RootSets.RootSet) → 24 * length ((a ∷ []) ++ xs) ≤ 24 + 24 * length xs
one_more xs a = omega arith

-- of a literal that is tested itself
tested_sets : (prims : List Primitive) (name : List ℕ) (p : Property) (j : Json) (t : Test) (rest : defs.Members)
    → choosing prims (defs.asks name (record (Rattle.gd_defs.specs.Asked.Forms.bare_asking p (defs.as_operand j)) { test = t; mode = query.required; given = true }) defs.no_members rest) ≤ 48 + choosing prims rest
tested_sets prims name p j (equals d) rest = omega arith
tested_sets prims name p j anything rest = omega arith
tested_sets prims name p j (differs d) rest = omega arith
tested_sets prims name p j (is_one_of ds) rest = omega arith
tested_sets prims name p j (is_below d e) rest = omega arith
tested_sets prims name p j (is_above d e) rest = omega arith
tested_sets prims name p j (matches_words w) rest = omega arith

literal_sets : (prims : List Primitive) (name : List ℕ) (p : Property) (e : Expects) (j : Json) (t : Test) (rest : defs.Members) → choosing prims (operand_form name p e true j t rest) ≤ set_steps (query.literal j) e + choosing prims rest
literal_sets prims name p (a_value k) j t rest = tested_sets prims name p j t rest
literal_sets prims name p a_key j t rest = tested_sets prims name p j t rest
literal_sets prims name p an_object_of_system j t rest = tested_sets prims name p j t rest
literal_sets prims name p a_plain_object j t rest = omega arith

operand_sets : (prims : List Primitive) (name : List ℕ) (p : Property) (e : Expects) (j : Json) (t : Test) (rest : defs.Members) → choosing prims (operand_form name p e false j t rest) ≤ choosing prims rest
operand_sets prims name p (a_value k) j t rest = omega arith
operand_sets prims name p a_key j t rest = omega arith
operand_sets prims name p an_object_of_system j t rest = omega arith
operand_sets prims name p a_plain_object j t rest = omega arith

none_more : {a b : ℕ} → a ≤ b → a ≤ 0 + b
none_more le = omega (arith, le)

-- of a member by its form
form_sets : (prims : List Primitive) (path : List (List ℕ)) (n : query.Name) (p : Property) (f : query.Form) (g : defs.Members → defs.Members) (rest : defs.Members) → defs.asked_form prims path n p f ≡ Ok g
    → choosing prims (g rest) ≤ set_steps f (expects_of p.expected) + choosing prims rest
form_sets prims path n p query.ask g rest is = subst (λ (g : defs.Members → defs.Members). choosing prims (g rest) ≤ set_steps query.ask (expects_of p.expected) + choosing prims rest) (ok_same (ask_form n.spelled p false) g is) (omega arith)
form_sets prims path n p query.ask_all g rest is = subst (λ (g : defs.Members → defs.Members). choosing prims (g rest) ≤ set_steps query.ask_all (expects_of p.expected) + choosing prims rest) (ok_same (ask_form n.spelled p true) g is) (omega arith)
form_sets prims path n p (query.literal j) g rest is =
    let step = steps (checked_test prims (expects_of p.expected) path query.no_operator j) (λ t. Ok (operand_form n.spelled p (expects_of p.expected) true j t)) g is in
    subst (λ (g : defs.Members → defs.Members). choosing prims (g rest) ≤ set_steps (query.literal j) (expects_of p.expected) + choosing prims rest) (ok_same (operand_form n.spelled p (expects_of p.expected) true j step.value) g step.then_gave)
    (literal_sets prims n.spelled p (expects_of p.expected) j step.value rest)
form_sets prims path n p (query.operand j) g rest is =
    let step = steps (checked_test prims (expects_of p.expected) path n.operator j) (λ t. Ok (operand_form n.spelled p (expects_of p.expected) false j t)) g is in
    subst (λ (g : defs.Members → defs.Members). choosing prims (g rest) ≤ set_steps (query.operand j) (expects_of p.expected) + choosing prims rest) (ok_same (operand_form n.spelled p (expects_of p.expected) false j step.value) g step.then_gave)
    (none_more (operand_sets prims n.spelled p (expects_of p.expected) j step.value rest))
form_sets prims path n p (query.one d ms) g rest is =
    let step = steps (defs.below_property prims path p ms (λ t. defs.asked prims t path ms)) (λ c. Ok (clause_form n.spelled p d false c)) g is in
    subst (λ (g : defs.Members → defs.Members). choosing prims (g rest) ≤ set_steps (query.one d ms) (expects_of p.expected) + choosing prims rest) (ok_same (clause_form n.spelled p d false step.value) g step.then_gave) (omega arith)
form_sets prims path n p (query.many d ms) g rest is =
    let step = steps (defs.below_property prims path p ms (λ t. defs.asked prims t path ms)) (λ c. Ok (clause_form n.spelled p d true c)) g is in
    subst (λ (g : defs.Members → defs.Members). choosing prims (g rest) ≤ set_steps (query.many d ms) (expects_of p.expected) + choosing prims rest) (ok_same (clause_form n.spelled p d true step.value) g step.then_gave) (omega arith)

-- ---- the property of a member

-- a property that a member asks for was found, and is not asked backwards where it holds values
abbrev IsFound : List Primitive → Option ℕ → query.Name → Property → Type 0
IsFound prims c n p = (o : ℕ) × (Some o ≡ property_object prims c n.word) × (property prims c n.reversed n.word ≡ Some p) × (is_reversed_value prims o p ≡ false)

property_found : (prims : List Primitive) (c : Option ℕ) (path : List (List ℕ)) (n : query.Name) (p : Property) → defs.member_property prims c path n ≡ Ok p → IsFound prims c n p
property_found prims c path n p is = by (property_object prims c n.word) refl
  where
    asked_as : ℕ → Property
    asked_as o = if n.reversed then turned (stated prims o) else stated prims o

    one : (o : ℕ) (b : Bool) → property_object prims c n.word ≡ Some o → is_reversed_value prims o (asked_as o) ≡ b → (if b then defs.bad query.value_reversed path else Ok (asked_as o)) ≡ Ok p → IsFound prims c n p
    one o true there turns made = not_ok _ p made
    one o false there turns made =
        let same : asked_as o ≡ p = ok_same (asked_as o) p made in
        (o, sym there, ap (option_map asked_as) there ∙ ap Some same, subst (λ x. is_reversed_value prims o x ≡ false) same turns)

    by : (o : Option ℕ) → property_object prims c n.word ≡ o → IsFound prims c n p
    by None here = let refused = rw here at is in absurd (cc)
    by (Some o) here = one o (is_reversed_value prims o (asked_as o)) here refl (rw here at is)

-- of values and keys it is asked in its own direction, and what it expects is stated
value_straight : (prims : List Primitive) (o : ℕ) (reversed : Bool) (p : Property) → (if reversed then turned (stated prims o) else stated prims o) ≡ p → holds_values (expects_of p.expected) ≡ true → is_reversed_value prims o p ≡ false
    → (p.reversed ≡ false) × (is_some (first_right prims expected_place o) ≡ true)
value_straight prims o true p is holds turns = absurd (false≢true (subst (λ (p : Property). holds_values (expects_of p.expected) ≡ true) (sym is) holds))
value_straight prims o false p is holds turns = by (first_right prims expected_place o) p.reversed (subst (λ (p : Property). holds_values (expects_of p.expected) ≡ true) (sym is) holds) turns
  where
    by : (r : Option ℕ) (b : Bool) → holds_values (expects_of r) ≡ true → (b && holds_values (expects_of r)) ≡ false → (b ≡ false) × (is_some r ≡ true)
    by None b holds turns = absurd (false≢true holds)
    by (Some t) true holds turns = absurd (false≢true (sym turns ∙ holds))
    by (Some t) false holds turns = (refl, refl)

-- ---- the steps of a literal at the root

type_within : (n : query.Name) (j : Json) → own_type n (query.literal j) ≤ 30 * ids_cost j
type_within n (text t) = by (bytes_eq n.spelled (codes "type"))
  where
    by : (b : Bool) → (if b then 30 * id_cost t else 0) ≤ 30 * id_cost t
    by true = omega arith
    by false = omega arith
type_within n null = omega arith
type_within n (boolean b) = omega arith
type_within n (number m) = omega arith
type_within n (list js) = omega arith
type_within n (object ms) = omega arith

-- where no objects of a system type are wanted the cost of its text is counted apart
type_apart : (n : query.Name) (c : Json → ℕ) → ((t : List ℕ) → c (text t) ≡ (if bytes_eq n.spelled (codes "type") then id_cost t else 0)) → (j : Json) → own_type n (query.literal j) ≤ 30 * c j
type_apart n c is (text t) = by (bytes_eq n.spelled (codes "type")) (c (text t)) (is t)
  where
    by : (b : Bool) (m : ℕ) → m ≡ (if b then id_cost t else 0) → (if b then 30 * id_cost t else 0) ≤ 30 * m
    by true m same = omega (arith, same)
    by false m same = omega arith
type_apart n c is null = omega arith
type_apart n c is (boolean b) = omega arith
type_apart n c is (number m) = omega arith
type_apart n c is (list js) = omega arith
type_apart n c is (object ms) = omega arith

-- the numbers: of values and keys, of objects of a system type, of plain objects
of_values : (p t w k n own i : ℕ) → 1 ≤ k → 2 ≤ n → w ≡ k + n → p ≡ 53 + 30 * k + 16 * n → t ≡ 0 → own ≤ 30 * i → p + t + 0 + own + 48 ≤ 64 * (w + (0 + i))
of_values p t w k n own i keys said cost few straight type = omega (arith, keys, said, cost, few, straight, type)

of_system : (p t w k n own i v : ℕ) → 1 ≤ k → 1 ≤ n → w ≡ k + n → p ≡ 53 + 30 * k + 16 * n → t ≤ 23 + 4 * n → own ≤ 30 * i → 1 ≤ v → p + t + 30 * i + own + 48 ≤ 64 * (w + (i + v + 0))
of_system p t w k n own i v keys said cost few turns type name = omega (arith, keys, said, cost, few, turns, type, name)

of_plain : (p t w k n own i v : ℕ) → 1 ≤ k → 1 ≤ n → w ≡ k + n → p ≡ 53 + 30 * k + 16 * n → t ≤ 23 + 4 * n → own ≤ 30 * i → 1 ≤ v → p + t + 0 + own + 24 ≤ 64 * (w + (v + i))
of_plain p t w k n own i v keys said cost few turns type name = omega (arith, keys, said, cost, few, turns, type, name)

-- a literal that asks for a property, with its sets
literal_room : (prims : List Primitive) (c : Option ℕ) (n : query.Name) (j : Json) (p : Property) → IsFound prims c n p
    → member_steps prims c n.reversed n.word + form_looks prims (expected_of (property prims c n.reversed n.word)) (query.literal j) + own_type n (query.literal j) + two_sets (expects_of p.expected)
    ≤ 64 * (word_cost prims c n.word + (form_cost prims (expected_of (property prims c n.reversed n.word)) (query.literal j) + type_cost (expects_of (expected_of (property prims c n.reversed n.word))) n (query.literal j)))
literal_room prims c n j p found =
    subst (λ x. member_steps prims c n.reversed n.word + operand_steps (tested_as x) j + own_type n (query.literal j) + two_sets (expects_of p.expected) ≤ 64 * (word_cost prims c n.word + (operand_cost prims x j + type_cost x n (query.literal j))))
    (sym (ap (λ (q : Option Property). expects_of (expected_of q)) found.2)) (by (expects_of p.expected) refl)
  where
    said : ℕ
    said = length (places_with Left found.0 prims)

    f : (k : ℕ) × (1 ≤ k) × (1 ≤ said) × (word_cost prims c n.word ≡ k + said) × (property_steps prims c n.word ≡ 53 + 30 * k + 16 * said)
    f = found_steps prims c n.word found.0 found.1

    turns : turned_steps prims (property_object prims c n.word) (property prims c n.reversed n.word) ≤ 23 + 4 * said
    turns = subst (λ x. turned_steps prims x (property prims c n.reversed n.word) ≤ 23 + 4 * said) found.1 (turned_least prims found.0 (property prims c n.reversed n.word))

    straight : holds_values (expects_of p.expected) ≡ true → (p.reversed ≡ false) × (is_some (first_right prims expected_place found.0) ≡ true)
    straight holds = value_straight prims found.0 n.reversed p (asked found.1 found.2) holds found.3
      where
        asked : Some found.0 ≡ property_object prims c n.word → property prims c n.reversed n.word ≡ Some p → (if n.reversed then turned (stated prims found.0) else stated prims found.0) ≡ p
        asked at is = some_same _ p (ap (option_map (λ o. if n.reversed then turned (stated prims o) else stated prims o)) at ∙ is)

    unturned : p.reversed ≡ false → turned_steps prims (property_object prims c n.word) (property prims c n.reversed n.word) ≡ 0
    unturned is = ap (λ (q : Option Property). turned_steps prims (property_object prims c n.word) q) found.2 ∙ (ap (λ (x : Option ℕ). turned_steps prims x (Some p)) (sym found.1) ∙ ap (λ b. if b then 23 + 4 * said else 0) is)

    values : (i : ℕ) → holds_values (expects_of p.expected) ≡ true → own_type n (query.literal j) ≤ 30 * i → member_steps prims c n.reversed n.word + 0 + own_type n (query.literal j) + 48 ≤ 64 * (word_cost prims c n.word + (0 + i))
    values i holds type =
        let way = straight holds in
        of_values (property_steps prims c n.word) (turned_steps prims (property_object prims c n.word) (property prims c n.reversed n.word)) (word_cost prims c n.word) f.0 said (own_type n (query.literal j)) i
        f.1 (expects_two prims c n.word found.0 found.1 way.1) f.3 f.4 (unturned way.0) type

    by : (e : Expects) → expects_of p.expected ≡ e
        → member_steps prims c n.reversed n.word + operand_steps (tested_as e) j + own_type n (query.literal j) + two_sets e ≤ 64 * (word_cost prims c n.word + (operand_cost prims e j + type_cost e n (query.literal j)))
    by (a_value k) is = values (type_cost (a_value k) n (query.literal j)) (ap holds_values is) (type_apart n (λ j. type_cost (a_value k) n (query.literal j)) (λ t. refl) j)
    by a_key is = values (type_cost a_key n (query.literal j)) (ap holds_values is) (type_apart n (λ j. type_cost a_key n (query.literal j)) (λ t. refl) j)
    by an_object_of_system is =
        of_system (property_steps prims c n.word) (turned_steps prims (property_object prims c n.word) (property prims c n.reversed n.word)) (word_cost prims c n.word) f.0 said (own_type n (query.literal j)) (ids_cost j) (word_cost prims None (codes "name"))
        f.1 f.2 f.3 f.4 turns (type_within n j) (word_least prims None (codes "name"))
    by a_plain_object is =
        of_plain (property_steps prims c n.word) (turned_steps prims (property_object prims c n.word) (property prims c n.reversed n.word)) (word_cost prims c n.word) f.0 said (own_type n (query.literal j)) (type_cost a_plain_object n (query.literal j)) (word_cost prims None (codes "name"))
        f.1 f.2 f.3 f.4 turns (type_apart n (λ j. type_cost a_plain_object n (query.literal j)) (λ t. refl) j) (word_least prims None (codes "name"))

plus_nothing : (a b m : ℕ) → a + b ≤ m → a + b + 0 ≤ m
plus_nothing a b m le = omega (arith, le)

-- a member that asks for a property, with its sets
asking_room : (prims : List Primitive) (c : Option ℕ) (n : query.Name) (f : query.Form) (p : Property) → IsNamed n → IsRight n f → is_some (defs.own_of n.word) ≡ false → IsFound prims c n p
    → member_looks prims c n f + own_type n f + set_steps f (expects_of p.expected) ≤ 64 * member_cost prims c n f
asking_room prims c n (query.literal j) p named right asks found = by (is_some (defs.own_of n.word)) (query.is_computed n.word || query.is_link n.word) asks (sym (words_same n) ∙ asks)
  where
    by : (a b : Bool) → a ≡ false → b ≡ false
        → (if a then Rattle.gd_compile.specs.Looks.computed_looks prims (defs.own_of n.word) n.operator (query.literal j) else member_steps prims c n.reversed n.word + form_looks prims (expected_of (property prims c n.reversed n.word)) (query.literal j))
        + own_type n (query.literal j) + two_sets (expects_of p.expected)
        ≤ 64 * (if b then Rattle.gd_defs.specs.Cost.own_cost n (query.literal j) else word_cost prims c n.word + (form_cost prims (expected_of (property prims c n.reversed n.word)) (query.literal j) + type_cost (expects_of (expected_of (property prims c n.reversed n.word))) n (query.literal j)))
    by false false one two = literal_room prims c n j p found
    by true b one two = absurd (false≢true (sym one))
    by false true one two = absurd (false≢true (sym two))
asking_room prims c n query.ask p named right asks found = plus_nothing _ _ _ (one_paid prims c n query.ask named (form_paid prims (expected_of (property prims c n.reversed n.word)) n query.ask right))
asking_room prims c n query.ask_all p named right asks found = plus_nothing _ _ _ (one_paid prims c n query.ask_all named (form_paid prims (expected_of (property prims c n.reversed n.word)) n query.ask_all right))
asking_room prims c n (query.operand j) p named right asks found = plus_nothing _ _ _ (one_paid prims c n (query.operand j) named (form_paid prims (expected_of (property prims c n.reversed n.word)) n (query.operand j) right))
asking_room prims c n (query.one d ms) p named right asks found = plus_nothing _ _ _ (one_paid prims c n (query.one d ms) named (form_paid prims (expected_of (property prims c n.reversed n.word)) n (query.one d ms) right))
asking_room prims c n (query.many d ms) p named right asks found = plus_nothing _ _ _ (one_paid prims c n (query.many d ms) named (form_paid prims (expected_of (property prims c n.reversed n.word)) n (query.many d ms) right))

-- ---- the members of a clause

front_room : (own rest all type behind x y sets more whole : ℕ) → own + type + sets ≤ 64 * x → rest + behind + more ≤ 64 * y → all ≤ type + behind → whole ≤ sets + more → own + rest + all + whole ≤ 64 * (x + y)
front_room own rest all type behind x y sets more whole one two three four = omega (arith, one, two, three, four)

sort_room : (s rest all x y more : ℕ) → s ≤ 64 * x → rest + all + more ≤ 64 * y → s + rest + all + more ≤ 64 * (x + y)
sort_room s rest all x y more one two = omega (arith, one, two)

no_sets : (a m : ℕ) → a ≤ m → a ≤ 0 + m
no_sets a m le = omega (arith, le)

-- LAW: the cost of the members of a clause pays for looking them up, the context type, and choosing among the sets of links that they name
pub members_room : (prims : List Primitive) (c : Option ℕ) (path : List (List ℕ)) (ms : query.Members) (d : defs.Clause) → AreRight ms → defs.asked prims c path ms ≡ Ok d
    → looks prims c ms + context_steps (defs.type_text ms) + choosing prims d.0 ≤ 64 * members_cost prims c ms
members_room prims c path query.no_members d right is = subst (λ (d : defs.Clause). looks prims c query.no_members + context_steps (defs.type_text query.no_members) + choosing prims d.0 ≤ 64 * members_cost prims c query.no_members) (ok_same (defs.no_members, []) d is) (omega arith)
members_room prims c path (query.sort_by ws ms) d right is =
    let one = steps (defs.sort_keys prims c (path ++ codes "sort" ∷ []) ws) (λ ks. defs.asked prims c path ms >>= λ d. Ok (d.0, ks)) d is in
    let more = steps (defs.asked prims c path ms) (λ d. Ok (d.0, one.value)) d one.then_gave in
    subst (λ (d : defs.Clause). looks prims c (query.sort_by ws ms) + context_steps (defs.type_text (query.sort_by ws ms)) + choosing prims d.0 ≤ 64 * members_cost prims c (query.sort_by ws ms)) (ok_same (more.value.0, one.value) d more.then_gave)
    (sort_room (sum_by (sort_steps prims c) ws) (looks prims c ms) (context_steps (defs.type_text ms)) (sum_by (Rattle.gd_defs.specs.Cost.sort_cost prims c) ws) (members_cost prims c ms) (choosing prims more.value.0) (sorts_paid prims c ws) (members_room prims c path ms more.value right more.gave))
members_room prims c path (query.member n f ms) d right is = by (λ e behind. members_room prims c path ms e right.2 behind) (defs.own_of n.word) refl is
  where
    below : List (List ℕ)
    below = path ++ n.spelled ∷ []

    Others : Type 0
    Others = (e : defs.Clause) → defs.asked prims c path ms ≡ Ok e → looks prims c ms + context_steps (defs.type_text ms) + choosing prims e.0 ≤ 64 * members_cost prims c ms

    front : Others → (sets : ℕ) (e : defs.Clause) → member_looks prims c n f + own_type n f + sets ≤ 64 * member_cost prims c n f → defs.asked prims c path ms ≡ Ok e → choosing prims d.0 ≤ sets + choosing prims e.0
        → looks prims c (query.member n f ms) + context_steps (defs.type_text (query.member n f ms)) + choosing prims d.0 ≤ 64 * members_cost prims c (query.member n f ms)
    front others sets e own behind whole =
        front_room (member_looks prims c n f) (looks prims c ms) (context_steps (defs.type_text (query.member n f ms))) (own_type n f) (context_steps (defs.type_text ms)) (member_cost prims c n f) (members_cost prims c ms) sets (choosing prims e.0) (choosing prims d.0)
        own (others e behind) (type_first n f ms) whole

    by : Others → (o : Option defs.Own) → defs.own_of n.word ≡ o
        → option_map_or (λ o. defs.own_member below n o f (defs.own_test prims below o n.operator) (defs.asked prims c path ms)) o
        (defs.member_property prims c below n >>= λ p. defs.asked_form prims below n p f >>= λ g. defs.asked prims c path ms >>= λ c. Ok (g c.0, c.1)) ≡ Ok d
        → looks prims c (query.member n f ms) + context_steps (defs.type_text (query.member n f ms)) + choosing prims d.0 ≤ 64 * members_cost prims c (query.member n f ms)
    by others (Some o) word made =
        let found = computed below n o f (defs.own_test prims below o n.operator) (defs.asked prims c path ms) d (λ t. Unit {0}) tt (λ j t given. tt) made in
        front others 0 found.behind (plus_nothing _ _ _ (one_paid prims c n f right.0 (form_paid prims (expected_of (property prims c n.reversed n.word)) n f right.1))) found.gave
        (subst (λ (d : defs.Clause). choosing prims d.0 ≤ 0 + choosing prims found.behind.0) found.is (omega arith))
    by others None word made =
        let one = steps (defs.member_property prims c below n) (λ p. defs.asked_form prims below n p f >>= λ g. defs.asked prims c path ms >>= λ c. Ok (g c.0, c.1)) d made in
        let two = steps (defs.asked_form prims below n one.value f) (λ g. defs.asked prims c path ms >>= λ c. Ok (g c.0, c.1)) d one.then_gave in
        let three = steps (defs.asked prims c path ms) (λ (c : defs.Clause). Ok (two.value c.0, c.1)) d two.then_gave in
        front others (set_steps f (expects_of one.value.expected)) three.value (asking_room prims c n f one.value right.0 right.1 (ap is_some word) (property_found prims c below n one.value one.gave)) three.gave
        (subst (λ (d : defs.Clause). choosing prims d.0 ≤ set_steps f (expects_of one.value.expected) + choosing prims three.value.0) (ok_same (two.value three.value.0, three.value.1) d three.then_gave) (form_sets prims below n one.value f two.value three.value.0 two.gave))

-- ---- a query

-- LAW: what a query costs pays for looking it up, and for choosing among the sets of links that it names
pub query_room : (prims : List Primitive) (written : query.Query) (q : defs.Asked) → AreRight written.members → defs.asked_query prims written ≡ Ok q
    → clause_looks prims None written.members + choosing prims q.members ≤ 64 * resolving prims written
query_room prims written q right is =
    let one = steps (defs.context_of prims None (defs.type_text written.members)) (λ t. defs.asked prims t [] written.members >>= λ c. Ok (made c)) q is in
    let two = steps (defs.asked prims one.value [] written.members) (λ c. Ok (made c)) q one.then_gave in
    let same : context prims None written.members ≡ one.value = context_is prims None (defs.type_text written.members) written.members one.value refl one.gave in
    let gave : defs.asked prims (context prims None written.members) [] written.members ≡ Ok two.value = subst (λ t. defs.asked prims t [] written.members ≡ Ok two.value) (sym same) two.gave in
    let all = members_room prims (context prims None written.members) [] written.members two.value right gave in
    subst (λ (q : defs.Asked). clause_looks prims None written.members + choosing prims q.members ≤ 64 * resolving prims written) (ok_same (made two.value) q two.then_gave)
    (turned_round (context_steps (defs.type_text written.members)) (looks prims (context prims None written.members) written.members) (choosing prims two.value.0) (64 * resolving prims written) all)
  where
    made : defs.Clause → defs.Asked
    made c = record {
      listed = written.listed;
      single = Rattle.gd_defs.specs.Asked.Forms.asks_single written.listed written.directives;
      count = written.directives.count;
      limit = Rattle.std.specs.Prelude.unwrap_or written.directives.limit 100;
      members = c.0;
      sort = c.1;
    }

    turned_round : (a b n m : ℕ) → b + a + n ≤ m → a + b + n ≤ m
    turned_round a b n m le = omega (arith, le)

-- LAW: it pays for looking it up, whatever that comes to
pub query_paid : (prims : List Primitive) (written : query.Query) → AreRight written.members → clause_looks prims None written.members ≤ 64 * resolving prims written
query_paid prims written right = turned_round (context_steps (defs.type_text written.members)) (looks prims (context prims None written.members) written.members) (64 * resolving prims written) (members_paid prims (context prims None written.members) written.members right)
  where
    turned_round : (a b m : ℕ) → b + a ≤ m → a + b ≤ m
    turned_round a b m le = omega (arith, le)

-- ---- a plan

pub looked : (a b l m : ℕ) → b ≤ a + l → l ≤ m → b ≤ a + m
looked a b l m one two = omega (arith, one, two)

-- a plan that was made leaves room for choosing
pub plan_room : (prims : List Primitive) (written : query.Query) (q : Found) (r : Result Found Unknown) (a b : ℕ) (asked : query.Query) → AreRight written.members → written ≡ asked → defs.asked_query prims written ≡ Ok (asked_view q)
    → b ≤ a + clause_looks prims None written.members → MatchResult r (λ plan. plan ≡ q) (λ refused. refused ≡ fault.Memory)
    → IfOk r (λ plan. b + 24 * length (sets_by_link prims (asked_view plan).members) ≤ a + 64 * resolving prims asked)
plan_room prims written q (Ok plan) a b asked right same is looks made =
    subst (λ (w : query.Query). b + 24 * length (sets_by_link prims (asked_view plan).members) ≤ a + 64 * resolving prims w) same
    (subst (λ (p : Found). b + 24 * length (sets_by_link prims (asked_view p).members) ≤ a + 64 * resolving prims written) (sym made) (go _ _ _ looks (query_room prims written (asked_view q) right is)))
  where
    go : (l n m : ℕ) → b ≤ a + l → l + n ≤ m → b + n ≤ a + m
    go l n m one two = omega (arith, one, two)
plan_room prims written q (Err refused) a b asked right same is looks made = tt
