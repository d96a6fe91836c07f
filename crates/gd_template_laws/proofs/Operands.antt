-- The tests that operands make fit what they stand on.
use Rattle.std.proofs.Common.{◌≡◌, ℕ, List, [], ◌∷◌, Bool, true, false, Option, Some, None, Result, Ok, Err, refl, ap, sym, subst, ◌∙◌}
use Rattle.std.specs.Prelude.{if◌then◌else◌, option_map, unwrap_or, nat_le, length}
use Rattle.std.proofs.lemmas.Bool.{false≢true}
use Rattle.gd_base.specs.declared.datum.Datum.{Datum}
use Rattle.gd_base.specs.declared.datum.Datum.TheVariants as datum
use Rattle.gd_prim.specs.declared.Primitive.{Primitive}
use Rattle.gd_prim.specs.WellFormed.{is_number}
use Rattle.gd_grammar.specs.Chain.{◌>>=◌}
use Rattle.gd_tree.specs.Json.{Json, null, boolean, number, text, list, object, Items, no_items, item}
use Rattle.gd_defs.specs.Moment.{moment_of}
use Rattle.gd_defs.specs.Pattern.{Pattern, pattern_of}
use Rattle.gd_base.specs.declared.datum.Precision.{Precision}
use Rattle.std.specs.Prelude.{ℤ}
use Rattle.gd_defs.specs.Data.{Kind, of_text, of_int, of_boolean, of_datetime, has_kind, datum_from, key_from, Test, anything, equals, differs, is_one_of, is_below, is_above, matches_words}
use Rattle.gd_defs.specs.Query as query
use Rattle.gd_defs.specs.Query.{Fault, within, Operator, bad_value, bad_operator, bad_lang}
use Rattle.gd_defs.specs.Property.{Expects, a_value, a_key, an_object_of_system, a_plain_object}
use Rattle.gd_defs.specs.Asked.{bad_query, bad, Own, its_id, its_guid, its_timestamp, its_link, its_value, its_namespace, its_lang, own_test, own_expects, takes, names_language, speaks, told, place_named, operand_datum, test_of}
use Rattle.gd_defs.specs.Asked.Tests.{allows, operand_data, pattern_test, tested_as, checked_test}
use Rattle.gd_grammar.proofs.Steps.{steps, ok_same, some_given}
use Rattle.gd_template_laws.specs.Fits.{AreOfKind, FitsKind, IsObjectDatum, AreObjects, FitsObject, FitsOne, FitsMoment, IsAnything, IsEquals}

pub within-ok : {A : Type 0} (name : List ℕ) (r : Result A Fault) (x : A) → within name r ≡ Ok x → r ≡ Ok x
within-ok name (Ok y) x is = is
within-ok name (Err e) x is = absurd (cc)

-- ---- data

pub datum_from-kind : (k : Kind) (j : Json) (d : Datum) → datum_from k j ≡ Some d → has_kind k d ≡ true
datum_from-kind of_text (text t) d is = by (nat_le (length t) 4096) is
  where
    by : (b : Bool) → (if b then Some (datum.Text t) else None) ≡ Some d → has_kind of_text d ≡ true
    by true is = let same : datum.Text t ≡ d = cc in ap (has_kind of_text) (sym same)
    by false is = absurd (cc)
datum_from-kind of_int (number n) d is = by (is_number n) is
  where
    by : (b : Bool) → (if b then Some (datum.Int n) else None) ≡ Some d → has_kind of_int d ≡ true
    by true is = let same : datum.Int n ≡ d = cc in ap (has_kind of_int) (sym same)
    by false is = absurd (cc)
datum_from-kind of_boolean (boolean b) d is = let same : datum.Bool b ≡ d = cc in ap (has_kind of_boolean) (sym same)
datum_from-kind of_datetime (text t) d is = by (moment_of t) is
  where
    by : (m : Option (ℤ × Precision)) → option_map (λ m. datum.Moment m.0 m.1) m ≡ Some d → has_kind of_datetime d ≡ true
    by (Some m) is = let same : datum.Moment m.0 m.1 ≡ d = cc in ap (has_kind of_datetime) (sym same)
    by None is = absurd (cc)
datum_from-kind k j d is = absurd (cc)

key_from-kind : (j : Json) (d : Datum) → option_map datum.Text (key_from j) ≡ Some d → has_kind of_text d ≡ true
key_from-kind j d is = by (key_from j) is
  where
    by : (k : Option (List ℕ)) → option_map datum.Text k ≡ Some d → has_kind of_text d ≡ true
    by (Some t) is = let same : datum.Text t ≡ d = cc in ap (has_kind of_text) (sym same)
    by None is = absurd (cc)

object_operand : (prims : List Primitive) (t : List ℕ) (d : Datum) → (place_named prims t >>= λ o. Ok (datum.Object o)) ≡ Ok d → IsObjectDatum d
object_operand prims t d is =
    let step = steps (place_named prims t) (λ o. Ok (datum.Object o)) d is in
    subst IsObjectDatum (ok_same (datum.Object step.value) d step.then_gave) tt

-- a datum fits what is expected
abbrev FitsExpected : Expects → Datum → Type 0
FitsExpected (a_value k) d = has_kind k d ≡ true
FitsExpected a_key d = has_kind of_text d ≡ true
FitsExpected an_object_of_system d = IsObjectDatum d
FitsExpected a_plain_object d = IsObjectDatum d

operand-fits : (prims : List Primitive) (e : Expects) (path : List (List ℕ)) (j : Json) (d : Datum) → operand_datum prims e path j ≡ Ok d → FitsExpected e d
operand-fits prims (a_value k) path j d is = datum_from-kind k j d (some_given (datum_from k j) (bad_query bad_value path) d is)
operand-fits prims a_key path j d is = key_from-kind j d (some_given (option_map datum.Text (key_from j)) (bad_query bad_value path) d is)
operand-fits prims an_object_of_system path (text t) d is = object_operand prims t d is
operand-fits prims a_plain_object path (text t) d is = object_operand prims t d is
operand-fits prims an_object_of_system path j d is = absurd (cc)
operand-fits prims a_plain_object path j d is = absurd (cc)

operands-kind : (prims : List Primitive) (k : Kind) (e : Expects) (path : List (List ℕ)) (js : Items) (ds : List Datum) → ((d : Datum) → FitsExpected e d → has_kind k d ≡ true) → operand_data prims e path js ≡ Ok ds → AreOfKind k ds
operands-kind prims k e path no_items ds of is = subst (AreOfKind k) (ok_same [] ds is) tt
operands-kind prims k e path (item j js) ds of is =
    let one = steps (operand_datum prims e path j) (λ d. operand_data prims e path js >>= λ ds. Ok (d ∷ ds)) ds is in
    let more = steps (operand_data prims e path js) (λ ds. Ok (one.value ∷ ds)) ds one.then_gave in
    subst (AreOfKind k) (ok_same (one.value ∷ more.value) ds more.then_gave) (of one.value (operand-fits prims e path j one.value one.gave), operands-kind prims k e path js more.value of more.gave)

operands-objects : (prims : List Primitive) (path : List (List ℕ)) (js : Items) (ds : List Datum) → operand_data prims an_object_of_system path js ≡ Ok ds → AreObjects ds
operands-objects prims path no_items ds is = subst AreObjects (ok_same [] ds is) tt
operands-objects prims path (item j js) ds is =
    let one = steps (operand_datum prims an_object_of_system path j) (λ d. operand_data prims an_object_of_system path js >>= λ ds. Ok (d ∷ ds)) ds is in
    let more = steps (operand_data prims an_object_of_system path js) (λ ds. Ok (one.value ∷ ds)) ds one.then_gave in
    subst AreObjects (ok_same (one.value ∷ more.value) ds more.then_gave) (operand-fits prims an_object_of_system path j one.value one.gave, operands-objects prims path js more.value more.gave)

-- ---- tests

-- a test of one operand
made : (T : Test → Type 0) (prims : List Primitive) (e : Expects) (path : List (List ℕ)) (j : Json) (f : Datum → Test) (t : Test) → ((d : Datum) → FitsExpected e d → T (f d)) → (operand_datum prims e path j >>= λ d. Ok (f d)) ≡ Ok t → T t
made T prims e path j f t fits is =
    let step = steps (operand_datum prims e path j) (λ d. Ok (f d)) t is in
    subst T (ok_same (f step.value) t step.then_gave) (fits step.value (operand-fits prims e path j step.value step.gave))

pattern-fits : (j : Json) → FitsKind of_text (pattern_test j)
pattern-fits (text t) = by (pattern_of t)
  where
    by : (p : Option Pattern) → FitsKind of_text (unwrap_or (option_map matches_words p) anything)
    by (Some p) = tt
    by None = tt
pattern-fits null = tt
pattern-fits (boolean b) = tt
pattern-fits (number n) = tt
pattern-fits (list js) = tt
pattern-fits (object ms) = tt

-- the operator has words for texts alone
abbrev WordsOf : Kind → Operator → Type 0
WordsOf k query.words = k ≡ of_text
WordsOf k _ = Unit {0}

-- the tests that operators make of values of a kind
kind-test : (prims : List Primitive) (k : Kind) (e : Expects) (path : List (List ℕ)) (operator : Operator) (j : Json) (t : Test) → ((d : Datum) → FitsExpected e d → has_kind k d ≡ true) → WordsOf k operator → test_of prims e path operator j ≡ Ok t → FitsKind k t
kind-test prims k e path query.no_operator j t of words is = made (FitsKind k) prims e path j equals t of is
kind-test prims k e path query.one_of (list js) t of words is =
    let step = steps (operand_data prims e path js) (λ ds. Ok (is_one_of ds)) t is in
    subst (FitsKind k) (ok_same (is_one_of step.value) t step.then_gave) (operands-kind prims k e path js step.value of step.gave)
kind-test prims k e path query.one_of j t of words is = absurd (cc)
kind-test prims k e path query.differs j t of words is = made (FitsKind k) prims e path j differs t of is
kind-test prims k e path query.below j t of words is = made (FitsKind k) prims e path j (λ d. is_below d false) t of is
kind-test prims k e path query.at_most j t of words is = made (FitsKind k) prims e path j (λ d. is_below d true) t of is
kind-test prims k e path query.above j t of words is = made (FitsKind k) prims e path j (λ d. is_above d false) t of is
kind-test prims k e path query.at_least j t of words is = made (FitsKind k) prims e path j (λ d. is_above d true) t of is
kind-test prims k e path query.words j t of words is =
    let step = steps (operand_datum prims (a_value of_text) path j) (λ d. Ok (pattern_test j)) t is in
    subst (FitsKind k) (ok_same (pattern_test j) t step.then_gave) (subst (λ k. FitsKind k (pattern_test j)) (sym words) (pattern-fits j))

-- a literal makes a test of one datum
literal-test : (prims : List Primitive) (e : Expects) (path : List (List ℕ)) (j : Json) (t : Test) → test_of prims e path query.no_operator j ≡ Ok t → IsEquals t
literal-test prims e path j t is =
    let step = steps (operand_datum prims e path j) (λ d. Ok (equals d)) t is in
    subst IsEquals (ok_same (equals step.value) t step.then_gave) tt

-- the tests that operators make of objects
object-test : (prims : List Primitive) (path : List (List ℕ)) (operator : Operator) (j : Json) (t : Test) → allows an_object_of_system operator ≡ true → test_of prims an_object_of_system path operator j ≡ Ok t → FitsObject t
object-test prims path query.no_operator j t allowed is = made FitsObject prims an_object_of_system path j equals t (λ d of. of) is
object-test prims path query.one_of (list js) t allowed is =
    let step = steps (operand_data prims an_object_of_system path js) (λ ds. Ok (is_one_of ds)) t is in
    subst FitsObject (ok_same (is_one_of step.value) t step.then_gave) (operands-objects prims path js step.value step.gave)
object-test prims path query.one_of j t allowed is = absurd (cc)
object-test prims path query.differs j t allowed is = made FitsObject prims an_object_of_system path j differs t (λ d of. of) is
object-test prims path other j t allowed is = absurd (false≢true allowed)

-- ---- tests that stand on what is expected

-- a test that stands on what is expected: of a plain object its name is tested, which is a text
abbrev pub Fits : Expects → Test → Type 0
Fits (a_value k) t = FitsKind k t
Fits a_key t = FitsKind of_text t
Fits an_object_of_system t = FitsObject t
Fits a_plain_object t = FitsKind of_text t

allowed-words : (k : Kind) (operator : Operator) → allows (a_value k) operator ≡ true → WordsOf k operator
allowed-words of_text query.words allowed = refl
allowed-words of_int query.words allowed = absurd (false≢true allowed)
allowed-words of_boolean query.words allowed = absurd (false≢true allowed)
allowed-words of_datetime query.words allowed = absurd (false≢true allowed)
allowed-words k query.no_operator allowed = tt
allowed-words k query.one_of allowed = tt
allowed-words k query.differs allowed = tt
allowed-words k query.below allowed = tt
allowed-words k query.at_most allowed = tt
allowed-words k query.above allowed = tt
allowed-words k query.at_least allowed = tt

text-words : (operator : Operator) → WordsOf of_text operator
text-words query.words = refl
text-words query.no_operator = tt
text-words query.one_of = tt
text-words query.differs = tt
text-words query.below = tt
text-words query.at_most = tt
text-words query.above = tt
text-words query.at_least = tt

-- the test was made where the operator stands
abbrev Made : List Primitive → Expects → List (List ℕ) → Operator → Json → Test → Type 0
Made prims e path operator j t = (allows e operator ≡ true) × (test_of prims (tested_as e) path operator j ≡ Ok t)

checked : (prims : List Primitive) (e : Expects) (path : List (List ℕ)) (operator : Operator) (j : Json) (t : Test) → checked_test prims e path operator j ≡ Ok t → Made prims e path operator j t
checked prims e path operator j t is = by (allows e operator) refl is
  where
    by : (b : Bool) → allows e operator ≡ b → (if b then test_of prims (tested_as e) path operator j else bad bad_operator path) ≡ Ok t → Made prims e path operator j t
    by true allowed is = (allowed, is)
    by false allowed is = absurd (cc)

pub checked-fits : (prims : List Primitive) (e : Expects) (path : List (List ℕ)) (operator : Operator) (j : Json) (t : Test) → checked_test prims e path operator j ≡ Ok t → Fits e t
checked-fits prims e path operator j t is = by e (checked prims e path operator j t is)
  where
    by : (e : Expects) → Made prims e path operator j t → Fits e t
    by (a_value k) made = kind-test prims k (a_value k) path operator j t (λ d of. of) (allowed-words k operator made.0) made.1
    by a_key made = kind-test prims of_text a_key path operator j t (λ d of. of) (text-words operator) made.1
    by an_object_of_system made = object-test prims path operator j t made.0 made.1
    by a_plain_object made = kind-test prims of_text (a_value of_text) path operator j t (λ d of. of) (text-words operator) made.1

pub checked-literal : (prims : List Primitive) (e : Expects) (path : List (List ℕ)) (operator : Operator) (j : Json) (t : Test) → operator ≡ query.no_operator → checked_test prims e path operator j ≡ Ok t → IsEquals t
checked-literal prims e path operator j t plain is =
    literal-test prims (tested_as e) path j t (sym (ap (λ o. test_of prims (tested_as e) path o j) plain) ∙ (checked prims e path operator j t is).1)

-- ---- tests of what is computed

-- a test that stands on a computed word
abbrev pub FitsOwn : Own → Test → Type 0
FitsOwn its_id t = FitsObject t
FitsOwn its_guid t = FitsObject t
FitsOwn its_timestamp t = FitsMoment t
FitsOwn its_link t = IsAnything t
FitsOwn its_value t = FitsObject t
FitsOwn its_namespace t = FitsOne t
FitsOwn its_lang t = FitsOne t

one-test : (prims : List Primitive) (path : List (List ℕ)) (operator : Operator) (j : Json) (t : Test) → takes its_namespace operator ≡ true → test_of prims an_object_of_system path operator j ≡ Ok t → FitsOne t
one-test prims path query.no_operator j t allowed is = made FitsOne prims an_object_of_system path j equals t (λ d of. of) is
one-test prims path other j t allowed is = absurd (false≢true allowed)

moment-test : (prims : List Primitive) (path : List (List ℕ)) (operator : Operator) (j : Json) (t : Test) → takes its_timestamp operator ≡ true → test_of prims (a_value of_datetime) path operator j ≡ Ok t → FitsMoment t
moment-test prims path query.below j t allowed is = made FitsMoment prims (a_value of_datetime) path j (λ d. is_below d false) t (λ d of. tt) is
moment-test prims path query.at_most j t allowed is = made FitsMoment prims (a_value of_datetime) path j (λ d. is_below d true) t (λ d of. tt) is
moment-test prims path query.above j t allowed is = made FitsMoment prims (a_value of_datetime) path j (λ d. is_above d false) t (λ d of. tt) is
moment-test prims path query.at_least j t allowed is = made FitsMoment prims (a_value of_datetime) path j (λ d. is_above d true) t (λ d of. tt) is
moment-test prims path other j t allowed is = absurd (false≢true allowed)

language-test : (prims : List Primitive) (path : List (List ℕ)) (operator : Operator) (j : Json) (t : Test) → takes its_lang operator ≡ true → test_of prims an_object_of_system path operator j ≡ Ok t → FitsOne t
language-test prims path query.no_operator j t allowed is = made FitsOne prims an_object_of_system path j equals t (λ d of. of) is
language-test prims path other j t allowed is = absurd (false≢true allowed)

-- a test of a language is handed on as it is, or refused
speaks-same : (prims : List Primitive) (path : List (List ℕ)) (t u : Test) → speaks prims path t ≡ Ok u → t ≡ u
speaks-same prims path t u is = by (names_language prims t) is
  where
    by : (b : Bool) → (if b then Ok t else bad bad_lang path) ≡ Ok u → t ≡ u
    by true is = ok_same t u is
    by false is = absurd (cc)

-- so is that of any computed word
told-same : (prims : List Primitive) (path : List (List ℕ)) (o : Own) (t u : Test) → told prims path o t ≡ Ok u → t ≡ u
told-same prims path its_lang t u is = speaks-same prims path t u is
told-same prims path its_id t u is = ok_same t u is
told-same prims path its_guid t u is = ok_same t u is
told-same prims path its_timestamp t u is = ok_same t u is
told-same prims path its_link t u is = ok_same t u is
told-same prims path its_value t u is = ok_same t u is
told-same prims path its_namespace t u is = ok_same t u is

-- the test of a computed member is that of its operand, and its word takes the operator
pub own-made : (prims : List Primitive) (path : List (List ℕ)) (o : Own) (operator : Operator) (j : Json) (t : Test)
    → own_test prims path o operator j ≡ Ok t → (takes o operator ≡ true) × (test_of prims (own_expects o) path operator j ≡ Ok t)
own-made prims path o operator j t is = by (takes o operator) refl is
  where
    by : (b : Bool) → takes o operator ≡ b → (if b then (test_of prims (own_expects o) path operator j >>= told prims path o) else bad bad_operator path) ≡ Ok t
        → (takes o operator ≡ true) × (test_of prims (own_expects o) path operator j ≡ Ok t)
    by true allowed is =
        let step = steps (test_of prims (own_expects o) path operator j) (told prims path o) t is in
        (allowed, step.gave ∙ ap Ok (told-same prims path o step.value t step.then_gave))
    by false allowed is = absurd (cc)

pub own-fits : (prims : List Primitive) (path : List (List ℕ)) (o : Own) (operator : Operator) (j : Json) (t : Test) → own_test prims path o operator j ≡ Ok t → FitsOwn o t
own-fits prims path o operator j t is = let made = own-made prims path o operator j t is in made_of o made.0 made.1
  where
    made_of : (o : Own) → takes o operator ≡ true → test_of prims (own_expects o) path operator j ≡ Ok t → FitsOwn o t
    made_of its_id allowed is = object-test prims path operator j t allowed is
    made_of its_guid allowed is = object-test prims path operator j t allowed is
    made_of its_timestamp allowed is = moment-test prims path operator j t allowed is
    made_of its_link allowed is = absurd (false≢true allowed)
    made_of its_value allowed is = object-test prims path operator j t allowed is
    made_of its_namespace allowed is = one-test prims path operator j t allowed is
    made_of its_lang allowed is = language-test prims path operator j t allowed is
