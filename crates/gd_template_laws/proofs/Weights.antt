-- What passes the template of a member, and the weights of a template, are those of the query.
use Rattle.std.proofs.Common.{◌≡◌, ℕ, ◌+◌, List, [], ◌∷◌, ◌++◌, length, Bool, true, false, cond, ◌&&◌, ◌||◌, not, Option, Some, None, refl, ap, sym, inl, inr, ◌∙◌, arith}
use Rattle.std.specs.Prelude.{filter, sum_by, if◌then◌else◌, is_none, unwrap_or}
use Rattle.std.specs.Option.{option_to_list}
use Rattle.std.specs.List.{list_any, list_all}
use Rattle.std.proofs.lemmas.Bool.{false≢true, and_parts}
use Rattle.std.proofs.lemmas.List.Sums.{sum_by-cons}
use Rattle.gd_prim.specs.declared.Primitive.{Primitive}
use Rattle.gd_prim.specs.Live.{is_object, is_live, passes_at, end_at}
use Rattle.gd_defs.specs.Data.{Kind, of_text}
use Rattle.gd_defs.specs.Query.{Mode, required, optional, forbidden}
use Rattle.gd_defs.specs.Property.{Property, Expects, a_value, a_key, an_object_of_system, a_plain_object, expects_of, answers, far_end}
use Rattle.gd_defs.specs.Asked.{its_id, its_guid, its_timestamp, its_link, its_value, its_namespace, its_lang, Key, by_guid, by_timestamp, by_property, SortKey, as_value, Asking, Members, no_members, own, asks, Asked}
use Rattle.gd_defs.specs.Asked.Forms.{bare_asking}
use Rattle.gd_defs.specs.Rows as rows
use Rattle.gd_defs.specs.Rows.{meets, meets_given, met, is_met, answer_meets, sort_weight, goes_on, row_weight, far}
use Rattle.gd_defs.specs.Plan.{property_tests, object_test, object_tests, namespace_tests, value_test, link_tests, of_kind, sort_clauses, unless_literal, asked_end, answer_end, answers_of, link_template, clauses_of, template_of}
use Rattle.gd_defs.specs.Template as template
use Rattle.gd_prim.specs.declared.End.TheVariants.{Typ}
use Rattle.gd_prim.specs.End.{end_of}
use Rattle.gd_defs.specs.Template.{end_is, Constraint, Template, template, Clauses, no_clauses, clause, links_by, end_here, led_to, holds, is_answer, meets_clauses, meets_constraints, clause_answers, passes_template, passes_clauses, is_literal, are_literal, is_literal_constraint, is_required, weight, clauses_weight}
use Rattle.gd_template_laws.specs.Fits.{IsTyped, IsSortKey, AreSortKeys, FitsObject, AsksObjects, IsAsked, AreAsked}
use Rattle.gd_template_laws.proofs.Bools.{and-false}
use Rattle.gd_list_laws.proofs.Places.{filter-same}
use Rattle.gd_template_laws.proofs.Places.{object-live}
use Rattle.gd_template_laws.proofs.Shapes.{shaped, link_template-shaped, is_link, links-answers, far_clause, answer_end-at}
use Rattle.gd_template_laws.proofs.Links.{value-answers, object-links, is_link-linked, linked, unless_literal-passes, unless_literal-meets, at_far}
use Rattle.gd_template_laws.proofs.Literals.{member-literal, literal-passes}
use Rattle.gd_template_laws.proofs.Answers.{member-met, member-is_met, clause-passes}

-- ---- sums

-- functions that agree on what is kept have one sum
sum-kept : (p : ℕ → Bool) (f g : ℕ → ℕ) (xs : List ℕ) → ((x : ℕ) → p x ≡ true → f x ≡ g x) → sum_by f (filter p xs) ≡ sum_by g (filter p xs)
sum-kept p f g [] same = refl
sum-kept p f g (x ∷ xs) same = by (p x) refl (sum-kept p f g xs same)
  where
    by : (b : Bool) → p x ≡ b → sum_by f (filter p xs) ≡ sum_by g (filter p xs) → sum_by f (filter p (x ∷ xs)) ≡ sum_by g (filter p (x ∷ xs))
    by true here rest = let one = same x here in rw here (sum_by-cons f x (filter p xs) ∙ ap (λ n. n + sum_by f (filter p xs)) one ∙ ap (λ n. g x + n) rest ∙ sym (sum_by-cons g x (filter p xs)))
    by false here rest = rw here rest

sum-ones : (f : ℕ → ℕ) (xs : List ℕ) → ((x : ℕ) → f x ≡ 1) → sum_by f xs ≡ length xs
sum-ones f [] ones = refl
sum-ones f (x ∷ xs) ones = let one = ones x in let rest = sum-ones f xs ones in sum_by-cons f x xs ∙ omega arith

sum-zero : (f : ℕ → ℕ) (xs : List ℕ) → ((x : ℕ) → f x ≡ 0) → sum_by f xs ≡ 0
sum-zero f [] zeros = refl
sum-zero f (x ∷ xs) zeros = let one = zeros x in let rest = sum-zero f xs zeros in sum_by-cons f x xs ∙ omega arith

zero_left : (n : ℕ) → 0 + n ≡ n
zero_left n = omega arith

both-zero : (s r : ℕ) → s ≡ 0 → r ≡ 0 → s + r ≡ 0
both-zero s r a b = omega arith

-- ---- clauses that keep a template from being literal weigh nothing

unless_literal-weight : (prims : List Primitive) (given : Bool) (rest : Clauses) (x : ℕ) → clauses_weight prims (unless_literal given rest) x ≡ clauses_weight prims rest x
unless_literal-weight prims true rest x = refl
unless_literal-weight prims false rest x = ap (λ n. n + clauses_weight prims rest x) (nothing (led_to prims (end_here Typ) x)) ∙ zero_left (clauses_weight prims rest x)
  where
    nothing : (ys : List ℕ) → sum_by (λ y. 0) (filter (passes_template prims (template (template.place_in [] ∷ []) no_clauses)) ys) ≡ 0
    nothing ys = sum-zero (λ y. 0) (filter (passes_template prims (template (template.place_in [] ∷ []) no_clauses)) ys) (λ y. refl)

-- ---- links of values and keys

absorbed : (l a : Bool) → (((not l || a) && (false || a)) && true) ≡ (a && true)
absorbed true true = refl
absorbed true false = refl
absorbed false true = refl
absorbed false false = refl

value-passes : (prims : List Primitive) (a : Asking) (c : Members) (nested : Clauses) (k : Kind) (x : ℕ) → passes_template prims (shaped (a_value k) a c nested) x ≡ is_answer prims (shaped (a_value k) a c nested) x
value-passes prims a c nested k x = ap (λ b. meets_constraints prims (property_tests a.property ++ (value_test k a.test ++ link_tests k c)) x && b) (unless_literal-passes prims a.given no_clauses x ∙ sym (unless_literal-meets prims a.given no_clauses x))

key-passes : (prims : List Primitive) (a : Asking) (c : Members) (nested : Clauses) (x : ℕ) → passes_template prims (shaped a_key a c nested) x ≡ is_answer prims (shaped a_key a c nested) x
key-passes prims a c nested x = ap (λ b. meets_constraints prims (property_tests a.property ++ (value_test of_text a.test ++ link_tests of_text c)) x && b)
    (unless_literal-passes prims a.given (far_clause a.property (namespace_tests c) no_clauses) x
    ∙ absorbed (is_literal (template (template.is_object ∷ namespace_tests c) no_clauses)) (list_any (is_answer prims (template (template.is_object ∷ namespace_tests c) no_clauses)) (led_to prims (end_here (answer_end a.property)) x))
    ∙ sym (unless_literal-meets prims a.given (far_clause a.property (namespace_tests c) no_clauses) x))

value-weight : (prims : List Primitive) (a : Asking) (c : Members) (nested : Clauses) (k : Kind) (x : ℕ) → weight prims (shaped (a_value k) a c nested) x ≡ 0
value-weight prims a c nested k x = unless_literal-weight prims a.given no_clauses x

cond-zero : (b : Bool) → ◌≡◌ {A = ℕ} (if b then 0 else 0) 0
cond-zero true = refl
cond-zero false = refl

key-weight : (prims : List Primitive) (a : Asking) (c : Members) (nested : Clauses) (x : ℕ) → weight prims (shaped a_key a c nested) x ≡ 0
key-weight prims a c nested x = unless_literal-weight prims a.given (far_clause a.property (namespace_tests c) no_clauses) x
    ∙ both-zero _ _
    (sum-zero (λ y. 0 + (if is_literal (template (template.is_object ∷ namespace_tests c) no_clauses) then 0 else 0)) (filter (passes_template prims (template (template.is_object ∷ namespace_tests c) no_clauses)) (led_to prims (end_here (answer_end a.property)) x)) (λ y. zero_left _ ∙ cond-zero (is_literal (template (template.is_object ∷ namespace_tests c) no_clauses))))
    (cond-zero (not (list_any (is_answer prims (template (template.is_object ∷ namespace_tests c) no_clauses)) (led_to prims (end_here (answer_end a.property)) x))))

-- ---- links of objects

-- the template at the other end of a link
abbrev far_template : Asking → Members → Clauses → Template
far_template a c nested = template (template.is_object ∷ (object_test a.test ++ object_tests c)) (unless_literal a.given nested)

-- the shape of links to objects
abbrev object_shape : Asking → Members → Clauses → Template
object_shape a c nested = template (property_tests a.property) (far_clause a.property (object_test a.test ++ object_tests c) (unless_literal a.given nested))

far-not_literal : (a : Asking) (c : Members) (nested : Clauses) → a.given ≡ false → is_literal (far_template a c nested) ≡ false
far-not_literal a c nested given = ap (λ b. list_all is_literal_constraint (object_test a.test ++ object_tests c) && are_literal (unless_literal b nested)) given ∙ and-false _

-- a link that is not given passes where its other end does
object-passes : (prims : List Primitive) (a : Asking) (c : Members) (nested : Clauses) (x : ℕ) → a.given ≡ false
    → passes_template prims (object_shape a c nested) x
    ≡ (meets_constraints prims (property_tests a.property) x && (at_far prims (object_test a.test ++ object_tests c) (passes_clauses prims (unless_literal a.given nested)) (end_at (end_of (answer_end a.property)) prims x) && true))
object-passes prims a c nested x given =
    ap (λ l. meets_constraints prims (property_tests a.property) x
    && (((not l || list_any (is_answer prims (far_template a c nested)) (led_to prims (end_here (answer_end a.property)) x))
    && (false || list_any (passes_template prims (far_template a c nested)) (led_to prims (end_here (answer_end a.property)) x))) && true)) (far-not_literal a c nested given)

-- the weight of a link that is not given and passes is that of its other end
object-weight : (prims : List Primitive) (a : Asking) (c : Members) (nested : Clauses) (w : ℕ → ℕ → ℕ) (x : ℕ) → a.given ≡ false
    → ((y : ℕ) → is_object prims y ≡ true → clauses_weight prims nested y ≡ w x y)
    → passes_template prims (object_shape a c nested) x ≡ true → weight prims (object_shape a c nested) x ≡ w x (far prims a.property x)
object-weight prims a c nested w x given same passed =
    by (far_end prims a.property x) refl
    (sym (ap (at_far prims (object_test a.test ++ object_tests c) (passes_clauses prims (unless_literal a.given nested))) (answer_end-at prims a.property x))
    ∙ (and_parts (at_far prims (object_test a.test ++ object_tests c) (passes_clauses prims (unless_literal a.given nested)) (end_at (end_of (answer_end a.property)) prims x)) true
    (and_parts (meets_constraints prims (property_tests a.property) x) _ (sym (object-passes prims a c nested x given) ∙ passed)).1).0)
  where
    t : Template
    t = far_template a c nested

    f : ℕ → ℕ
    f y = template.one_for_links (end_here (answer_end a.property)) + (if is_required required && is_literal t then 0 else weight prims t y)

    -- what a link whose other end is there adds
    there : Option ℕ → ℕ
    there end = sum_by f (filter (passes_template prims t) (option_to_list end)) + (if true && not (list_any (is_answer prims t) (led_to prims (end_here (answer_end a.property)) x)) then 0 else 0)

    or-false : (b : Bool) → (b || false) ≡ b
    or-false true = refl
    or-false false = refl

    object_here : (y : ℕ) → passes_template prims t y ≡ true → is_object prims y ≡ true
    object_here y here =
        let met = (and_parts (meets_constraints prims (template.is_object ∷ (object_test a.test ++ object_tests c)) y) (passes_clauses prims (unless_literal a.given nested) y) here).0 in
        let parts = and_parts (is_live prims y) (passes_at (λ p. is_none p.typ) prims y && list_all (λ c. holds prims c y) (object_test a.test ++ object_tests c)) met in
        object-live prims y ∙ ap (λ b. b && passes_at (λ p. is_none p.typ) prims y) parts.0 ∙ (and_parts (passes_at (λ p. is_none p.typ) prims y) (list_all (λ c. holds prims c y) (object_test a.test ++ object_tests c)) parts.1).0

    adds : (y : ℕ) → is_object prims y ≡ true → f y ≡ w x y
    adds y obj =
        let unliteral : f y ≡ 0 + clauses_weight prims (unless_literal a.given nested) y = ap (λ (b : Bool). 0 + (if b then 0 else weight prims t y)) (far-not_literal a c nested given) in
        let weighs = unless_literal-weight prims a.given nested y in
        let here = same y obj in
        omega arith

    by : (end : Option ℕ) → far_end prims a.property x ≡ end → at_far prims (object_test a.test ++ object_tests c) (passes_clauses prims (unless_literal a.given nested)) (far_end prims a.property x) ≡ true
        → weight prims (object_shape a c nested) x ≡ w x (far prims a.property x)
    by None at passed = absurd (false≢true (sym (ap (at_far prims (object_test a.test ++ object_tests c) (passes_clauses prims (unless_literal a.given nested))) at) ∙ passed))
    by (Some y) at passed =
        let here : passes_template prims t y ≡ true = sym (or-false _) ∙ sym (ap (at_far prims (object_test a.test ++ object_tests c) (passes_clauses prims (unless_literal a.given nested))) at) ∙ passed in
        let kept : filter (passes_template prims t) (y ∷ []) ≡ y ∷ [] = ap (λ b. cond b (y ∷ []) []) here in
        let one : sum_by f (y ∷ []) ≡ f y = sum_by-cons f y [] ∙ omega arith in
        let none = cond-zero (not (list_any (is_answer prims t) (led_to prims (end_here (answer_end a.property)) x))) in
        let sum : there (Some y) ≡ f y = ap (λ ys. sum_by f ys + (if true && not (list_any (is_answer prims t) (led_to prims (end_here (answer_end a.property)) x)) then 0 else 0)) kept ∙ omega arith in
        ap there (answer_end-at prims a.property x ∙ at) ∙ sum ∙ adds y (object_here y here) ∙ ap (λ e. w x (unwrap_or e 0)) (sym at)

-- ---- the sort keys

keep-all : (xs : List ℕ) → filter (λ x. true) xs ≡ xs
keep-all [] = refl
keep-all (x ∷ xs) = ap (λ ys. x ∷ ys) (keep-all xs)

-- the answers of a sort key's clause are those of its property
pub sort-answers : (prims : List Primitive) → IsTyped prims → (p : Property) (k : Kind) → p.reversed ≡ false → expects_of p.expected ≡ a_value k → (o : ℕ)
    → clause_answers prims (links_by (asked_end p)) (template (property_tests p ++ of_kind k ∷ []) no_clauses) o ≡ answers prims p o
sort-answers prims typed p k turned expected o =
    let a : Asking = record (bare_asking p as_value) { given = true } in
    let is : answers_of p ≡ a_value k = ap (λ b. if b then a_plain_object else expects_of p.expected) turned ∙ expected in
    links-answers prims a (meets prims no_members) (is_answer prims (template (property_tests p ++ of_kind k ∷ []) no_clauses)) o
    (λ x. value-answers prims a no_members no_clauses k x typed is tt tt)
    ∙ keep-all (answers prims p o)

sort-weights : (prims : List Primitive) → IsTyped prims → (sort : List SortKey) → AreSortKeys sort → (o : ℕ) → clauses_weight prims (sort_clauses sort) o ≡ sort_weight prims sort o
sort-weights prims typed [] are o = refl
sort-weights prims typed (s ∷ ss) are o = by s.key refl are.0 (sort-weights prims typed ss are.1 o)
  where
    by : (key : Key) → s.key ≡ key → IsSortKey key → clauses_weight prims (sort_clauses ss) o ≡ sort_weight prims ss o → clauses_weight prims (sort_clauses (s ∷ ss)) o ≡ sort_weight prims (s ∷ ss) o
    by by_guid key fits rest = rw key (rest ∙ sym (zero_left (sort_weight prims ss o)))
    by by_timestamp key fits rest = rw key (rest ∙ sym (zero_left (sort_weight prims ss o)))
    by (by_property p) key fits rest =
        let clauses : sort_clauses (s ∷ ss) ≡ clause optional (links_by (asked_end p)) (template (property_tests p ++ of_kind fits.1.0 ∷ []) no_clauses) (sort_clauses ss) = let expected = fits.1.1 in rw (key, expected) refl in
        let weighs : length (answers prims p o) + sort_weight prims ss o ≡ sort_weight prims (s ∷ ss) o = rw key refl in
        let found = sort-answers prims typed p fits.1.0 fits.0 fits.1.1 o in
        ap (λ cs. clauses_weight prims cs o) clauses
        ∙ ap (λ n. sum_by (λ x. 1) (filter (is_answer prims (template (property_tests p ++ of_kind fits.1.0 ∷ []) no_clauses)) (led_to prims (links_by (asked_end p)) o)) + n) rest
        ∙ ap (λ n. n + sort_weight prims ss o) (sum-ones (λ x. 1) (filter (is_answer prims (template (property_tests p ++ of_kind fits.1.0 ∷ []) no_clauses)) (led_to prims (links_by (asked_end p)) o)) (λ x. refl) ∙ ap length found)
        ∙ weighs

-- ---- a member

stop : (mode : Mode) (found : Bool) (w : ℕ) → (if is_required mode && not found then 0 else w) ≡ (if goes_on mode found then w else 0)
stop required true w = refl
stop required false w = refl
stop optional found w = refl
stop forbidden found w = refl

-- what the links of a member add
abbrev member_weight : List Primitive → Asking → Members → ℕ → ℕ
member_weight prims a c o = sum_by (λ x. 1 + (if is_required a.mode && is_literal (link_template a c (clauses_of a.sort c)) then 0 else weight prims (link_template a c (clauses_of a.sort c)) x))
    (filter (passes_template prims (link_template a c (clauses_of a.sort c))) (led_to prims (links_by (asked_end a.property)) o))

-- what a member adds
abbrev added : List Primitive → Asking → Members → ℕ → ℕ
added prims a c o = if a.counted then length (met prims a c o)
    else sum_by (λ k. 1 + rows.weight prims a.sort c k (far prims a.property k)) (filter (answer_meets prims a (meets_given prims c)) (answers prims a.property o))

-- where the links that pass are those that answer and each adds one, they are counted
counted-links : (prims : List Primitive) (a : Asking) (c : Members) (o : ℕ) → IsTyped prims → IsAsked (answers_of a.property) a c (AreAsked c) → a.counted ≡ true
    → ((x : ℕ) → passes_template prims (link_template a c (clauses_of a.sort c)) x ≡ is_answer prims (link_template a c (clauses_of a.sort c)) x)
    → ((x : ℕ) → (if is_required a.mode && is_literal (link_template a c (clauses_of a.sort c)) then 0 else weight prims (link_template a c (clauses_of a.sort c)) x) ≡ 0)
    → member_weight prims a c o ≡ added prims a c o
counted-links prims a c o typed asked counted same none =
    ap (λ xs. sum_by (λ x. 1 + (if is_required a.mode && is_literal (link_template a c (clauses_of a.sort c)) then 0 else weight prims (link_template a c (clauses_of a.sort c)) x)) xs)
    (filter-same _ _ (led_to prims (links_by (asked_end a.property)) o) same ∙ member-met prims a c typed asked o)
    ∙ sum-ones (λ x. 1 + (if is_required a.mode && is_literal (link_template a c (clauses_of a.sort c)) then 0 else weight prims (link_template a c (clauses_of a.sort c)) x)) (met prims a c o) (λ x. let zero_here = none x in omega arith)
    ∙ ap (λ b. if b then length (met prims a c o) else sum_by (λ k. 1 + rows.weight prims a.sort c k (far prims a.property k)) (filter (answer_meets prims a (meets_given prims c)) (answers prims a.property o))) (sym counted)

-- what the links of a member add is what the member adds, where its own clause weighs what the clause does
pub member-weighs : (prims : List Primitive) (a : Asking) (c : Members) (o : ℕ) → IsTyped prims → IsAsked (answers_of a.property) a c (AreAsked c)
    → (AreAsked c → AreSortKeys a.sort → (x y : ℕ) → is_object prims y ≡ true → clauses_weight prims (clauses_of a.sort c) y ≡ rows.weight prims a.sort c x y)
    → member_weight prims a c o ≡ added prims a c o
member-weighs prims a c o typed asked inner = by_given a.given refl
  where
    t : Template
    t = link_template a c (clauses_of a.sort c)

    literal_here : a.given ≡ true → (is_required a.mode && is_literal t) ≡ true
    literal_here given = member-literal a c asked ∙ given

    given_counted : a.given ≡ true → (e : Expects) → IsAsked e a c (AreAsked c) → a.counted ≡ true
    given_counted given (a_value k) asked = asked.counted
    given_counted given a_key asked = asked.counted
    given_counted given an_object_of_system asked = asked.given_counted given
    given_counted given a_plain_object asked = asked.given_counted given

    when_given : a.given ≡ true → member_weight prims a c o ≡ added prims a c o
    when_given given = counted-links prims a c o typed asked (given_counted given (answers_of a.property) asked)
        (λ x. literal-passes prims t (and_parts (is_required a.mode) (is_literal t) (literal_here given)).1 x)
        (λ x. ap (λ b. if b then 0 else weight prims t x) (literal_here given))

    unliteral : a.given ≡ false → (x : ℕ) → (if is_required a.mode && is_literal t then 0 else weight prims t x) ≡ weight prims t x
    unliteral given x = ap (λ b. if b then 0 else weight prims t x) (member-literal a c asked ∙ given)

    -- the links of objects that pass
    passing : (e : Expects) → answers_of a.property ≡ e → t ≡ object_shape a c (clauses_of a.sort c) → FitsObject a.test → AreAsked c → a.given ≡ false
        → ((meets_clause : ℕ → ℕ → Bool) (x : ℕ) → linked a_plain_object prims a meets_clause x ≡ is_link prims a meets_clause x)
        → (x : ℕ) → passes_template prims t x ≡ is_link prims a (meets_given prims c) x
    passing e is shape fits are given links x =
        ap (λ t. passes_template prims t x) shape
        ∙ object-passes prims a c (clauses_of a.sort c) x given
        ∙ object-links prims a c (passes_clauses prims (unless_literal a.given (clauses_of a.sort c))) (meets_given prims c) x fits
        (λ y obj. ap (λ b. list_all (λ c. holds prims c y) (object_tests c) && b) (unless_literal-passes prims a.given (clauses_of a.sort c) y) ∙ clause-passes prims typed c are a.sort x y obj)
        ∙ links (meets_given prims c) x

    -- the links of objects are those that pass, each with the weight of its object
    objects : (e : Expects) → answers_of a.property ≡ e → t ≡ object_shape a c (clauses_of a.sort c) → AsksObjects a c (AreAsked c) → a.given ≡ false
        → ((meets_clause : ℕ → ℕ → Bool) (x : ℕ) → linked a_plain_object prims a meets_clause x ≡ is_link prims a meets_clause x)
        → member_weight prims a c o ≡ sum_by (λ k. 1 + rows.weight prims a.sort c k (far prims a.property k)) (filter (answer_meets prims a (meets_given prims c)) (answers prims a.property o))
    objects e is shape asked_objects given links =
        sum-kept (passes_template prims t) (λ x. 1 + (if is_required a.mode && is_literal t then 0 else weight prims t x)) (λ k. 1 + rows.weight prims a.sort c k (far prims a.property k)) (led_to prims (links_by (asked_end a.property)) o)
        (λ x passed. ap (λ n. 1 + n) (unliteral given x ∙ ap (λ t. weight prims t x) shape
        ∙ object-weight prims a c (clauses_of a.sort c) (rows.weight prims a.sort c) x given (λ y obj. inner asked_objects.clause asked_objects.sort x y obj) (sym (ap (λ t. passes_template prims t x) shape) ∙ passed)))
        ∙ ap (sum_by (λ k. 1 + rows.weight prims a.sort c k (far prims a.property k))) (links-answers prims a (meets_given prims c) (passes_template prims t) o (passing e is shape asked_objects.test asked_objects.clause given links))

    -- where nothing is asked of the objects, each is counted
    plain_count : AsksObjects a c (AreAsked c) → a.given ≡ false → (b : Bool) → a.counted ≡ b
        → sum_by (λ k. 1 + rows.weight prims a.sort c k (far prims a.property k)) (filter (answer_meets prims a (meets_given prims c)) (answers prims a.property o)) ≡ added prims a c o
    plain_count asked_objects given false counted = ap (λ b. if b then length (met prims a c o) else sum_by (λ k. 1 + rows.weight prims a.sort c k (far prims a.property k)) (filter (answer_meets prims a (meets_given prims c)) (answers prims a.property o))) (sym counted)
    plain_count asked_objects given true counted = elim (asked_objects.counted counted) [
      | inl is ↦ absurd (false≢true (sym given ∙ is))
      | inr bare ↦
          ap (λ c. sum_by (λ k. 1 + rows.weight prims a.sort c k (far prims a.property k)) (filter (answer_meets prims a (meets_given prims c)) (answers prims a.property o))) bare.0
          ∙ ap (λ s. sum_by (λ k. 1 + rows.weight prims s no_members k (far prims a.property k)) (filter (answer_meets prims a (meets_given prims no_members)) (answers prims a.property o))) bare.1
          ∙ sum-ones (λ k. 1) (met prims a no_members o) (λ x. refl)
          ∙ ap (λ c. length (met prims a c o)) (sym bare.0)
          ∙ ap (λ b. if b then length (met prims a c o) else sum_by (λ k. 1 + rows.weight prims a.sort c k (far prims a.property k)) (filter (answer_meets prims a (meets_given prims c)) (answers prims a.property o))) (sym counted)
    ]

    when_not : a.given ≡ false → (e : Expects) → answers_of a.property ≡ e → IsAsked e a c (AreAsked c) → member_weight prims a c o ≡ added prims a c o
    when_not given (a_value k) is values =
        let shape = link_template-shaped a c (clauses_of a.sort c) (a_value k) is in
        counted-links prims a c o typed asked values.counted
        (λ x. ap (λ t. passes_template prims t x) shape ∙ value-passes prims a c (clauses_of a.sort c) k x ∙ sym (ap (λ t. is_answer prims t x) shape))
        (λ x. unliteral given x ∙ ap (λ t. weight prims t x) shape ∙ value-weight prims a c (clauses_of a.sort c) k x)
    when_not given a_key is values =
        let shape = link_template-shaped a c (clauses_of a.sort c) a_key is in
        counted-links prims a c o typed asked values.counted
        (λ x. ap (λ t. passes_template prims t x) shape ∙ key-passes prims a c (clauses_of a.sort c) x ∙ sym (ap (λ t. is_answer prims t x) shape))
        (λ x. unliteral given x ∙ ap (λ t. weight prims t x) shape ∙ key-weight prims a c (clauses_of a.sort c) x)
    when_not given an_object_of_system is asked_objects =
        objects an_object_of_system is (link_template-shaped a c (clauses_of a.sort c) an_object_of_system is) asked_objects given (λ m x. is_link-linked prims a m x an_object_of_system is)
        ∙ plain_count asked_objects given a.counted refl
    when_not given a_plain_object is asked_objects =
        objects a_plain_object is (link_template-shaped a c (clauses_of a.sort c) a_plain_object is) asked_objects given (λ m x. is_link-linked prims a m x a_plain_object is)
        ∙ plain_count asked_objects given a.counted refl

    by_given : (b : Bool) → a.given ≡ b → member_weight prims a c o ≡ added prims a c o
    by_given true given = when_given given
    by_given false given = when_not given (answers_of a.property) refl asked

-- ---- a clause

-- a place weighs in the clauses of a template what it weighs in the clause
pub clause-weighs : (prims : List Primitive) → IsTyped prims → (c : Members) → AreAsked c → (sort : List SortKey) → AreSortKeys sort → (link o : ℕ)
    → clauses_weight prims (clauses_of sort c) o ≡ rows.weight prims sort c link o
clause-weighs prims typed no_members are sort keys link o = sort-weights prims typed sort keys o
clause-weighs prims typed (own name its_id t j ms) are sort keys link o = clause-weighs prims typed ms are.1 sort keys link o
clause-weighs prims typed (own name its_guid t j ms) are sort keys link o = clause-weighs prims typed ms are.1 sort keys link o
clause-weighs prims typed (own name its_timestamp t j ms) are sort keys link o = clause-weighs prims typed ms are.1 sort keys link o
clause-weighs prims typed (own name its_link t j ms) are sort keys link o = clause-weighs prims typed ms are.1 sort keys link o
clause-weighs prims typed (own name its_value t j ms) are sort keys link o = absurd are
clause-weighs prims typed (own name its_namespace t j ms) are sort keys link o = absurd are
clause-weighs prims typed (own name its_lang t j ms) are sort keys link o = absurd are
clause-weighs prims typed (asks name a c ms) are sort keys link o =
    let here : member_weight prims a c o ≡ added prims a c o = member-weighs prims a c o typed are.0 (λ asked sorted x y obj. clause-weighs prims typed c asked a.sort sorted x y) in
    let rest = clause-weighs prims typed ms are.1 sort keys link o in
    ap (λ n. n + (if is_required a.mode && not (list_any (is_answer prims (link_template a c (clauses_of a.sort c))) (led_to prims (links_by (asked_end a.property)) o)) then 0 else clauses_weight prims (clauses_of sort ms) o)) here
    ∙ ap (λ n. added prims a c o + n)
    (ap (λ b. if is_required a.mode && not b then 0 else clauses_weight prims (clauses_of sort ms) o) (member-is_met prims a c typed are.0 o)
    ∙ ap (λ n. if is_required a.mode && not (is_met prims a c o) then 0 else n) rest
    ∙ stop a.mode (is_met prims a c o) (rows.weight prims sort ms link o))

-- a place weighs in the template of a query what it weighs in the query
pub template-weighs : (prims : List Primitive) (q : Asked) → IsTyped prims → AreAsked q.members → AreSortKeys q.sort → (o : ℕ) → weight prims (template_of q) o ≡ row_weight prims q o
template-weighs prims q typed are keys o = clause-weighs prims typed q.members are q.sort keys 0 o
