-- What is looked at for a language is said of the object that the operand names.
use Rattle.std.proofs.Common.{◌≡◌, ◌≤◌, ◌+◌, ◌*◌, ℕ, List, true, Option, Some, None, Result, Ok, refl, sym, ap, subst, ◌∙◌, arith}
use Rattle.std.specs.Prelude.{if◌then◌else◌}
use Rattle.std.specs.Option.{ok_or}
use Rattle.std.proofs.lemmas.Bool.{false≢true}
use Rattle.gd_base.specs.declared.datum.Datum.{Datum}
use Rattle.gd_base.specs.declared.datum.Datum.TheVariants as datum
use Rattle.gd_prim.specs.declared.Primitive.{Primitive}
use Rattle.gd_grammar.specs.Chain.{◌>>=◌}
use Rattle.gd_grammar.proofs.Steps.{steps, ok_same}
use Rattle.gd_tree.specs.Json.{Json, null, boolean, number, text, list, object}
use Rattle.gd_defs.specs.Data.{Test, equals}
use Rattle.gd_defs.specs.Ids.{object_of}
use Rattle.gd_defs.specs.Property.{Expects, an_object_of_system}
use Rattle.gd_defs.specs.Query as query
use Rattle.gd_defs.specs.Asked.{Own, its_id, its_guid, its_timestamp, its_link, its_value, its_namespace, its_lang, bad, no_such_id, own_expects, own_test, told, takes, asked_object, operand_datum, test_of}
use Rattle.gd_plan.specs.declared.test.Test as seen
use Rattle.gd_plan.specs.Seen.{test_view}
use Rattle.gd_compile.specs.declared.fault.Unknown.{Unknown}
use Rattle.gd_compile.specs.Fault.{Finds}
use Rattle.gd_compile.specs.Spoken.{object_named, language_steps}

-- the object of an operand is the one that its text names
datum_named : (prims : List Primitive) (path : List (List ℕ)) (j : Json) (d : Datum) → operand_datum prims an_object_of_system path j ≡ Ok d → asked_object (equals d) ≡ object_named prims j
datum_named prims path (text t) d is = by (object_of prims t) is
  where
    by : (o : Option ℕ) → (ok_or o (no_such_id t) >>= λ o. Ok (datum.Object o)) ≡ Ok d → asked_object (equals d) ≡ o
    by None is = absurd (cc)
    by (Some o) is = ap (λ d. asked_object (equals d)) (sym (ok_same (datum.Object o) d is))
datum_named prims path null d is = absurd (cc)
datum_named prims path (boolean b) d is = absurd (cc)
datum_named prims path (number n) d is = absurd (cc)
datum_named prims path (list js) d is = absurd (cc)
datum_named prims path (object ms) d is = absurd (cc)

-- so is that of a test of a language
pub test_named : (prims : List Primitive) (path : List (List ℕ)) (operator : query.Operator) (j : Json) (t : Test) → takes its_lang operator ≡ true → test_of prims an_object_of_system path operator j ≡ Ok t → asked_object t ≡ object_named prims j
test_named prims path query.no_operator j t allowed is =
    let step = steps (operand_datum prims an_object_of_system path j) (λ d. Ok (equals d)) t is in
    ap asked_object (sym (ok_same (equals step.value) t step.then_gave)) ∙ datum_named prims path j step.value step.gave
test_named prims path query.one_of j t allowed is = absurd (false≢true allowed)
test_named prims path query.differs j t allowed is = absurd (false≢true allowed)
test_named prims path query.below j t allowed is = absurd (false≢true allowed)
test_named prims path query.at_most j t allowed is = absurd (false≢true allowed)
test_named prims path query.above j t allowed is = absurd (false≢true allowed)
test_named prims path query.at_least j t allowed is = absurd (false≢true allowed)
test_named prims path query.words j t allowed is = absurd (false≢true allowed)

-- what is looked at for the object of a test is looked at for the object of its operand
same_steps : (prims : List Primitive) (path : List (List ℕ)) (w : Own) (operator : query.Operator) (j : Json) (t : Test) → takes w operator ≡ true → test_of prims (own_expects w) path operator j ≡ Ok t
    → language_steps prims w (asked_object t) ≡ language_steps prims w (object_named prims j)
same_steps prims path its_lang how j t allowed is = ap (language_steps prims its_lang) (test_named prims path how j t allowed is)
same_steps prims path its_id how j t allowed is = refl
same_steps prims path its_guid how j t allowed is = refl
same_steps prims path its_timestamp how j t allowed is = refl
same_steps prims path its_link how j t allowed is = refl
same_steps prims path its_value how j t allowed is = refl
same_steps prims path its_namespace how j t allowed is = refl

-- the steps of an operand and of what its word asks of the test
pub told_within : (prims : List Primitive) (path : List (List ℕ)) (w : Own) (e : Expects) (operator : query.Operator) (j : Json) (t : Test) (a b c many : ℕ) → takes w operator ≡ true → e ≡ own_expects w → test_of prims e path operator j ≡ Ok t
    → b ≤ a + 500 + 500 * many → c ≤ b + language_steps prims w (asked_object t) → c ≤ a + 500 + 500 * many + language_steps prims w (object_named prims j)
told_within prims path w e operator j t a b c many allowed expects is before after = omega (arith, before, after, same_steps prims path w operator j t allowed (sym (ap (λ e. test_of prims e path operator j) expects) ∙ is))

-- what a computed word asks of the test of its operand decides, where it takes the operator
pub told_found : (prims : List Primitive) (path : List (List ℕ)) (w : Own) (e : Expects) (operator : query.Operator) (j : Json) (t : Test) (r : Result seen.Test Unknown) → takes w operator ≡ true → e ≡ own_expects w → test_of prims e path operator j ≡ Ok t
    → Finds test_view (told prims path w t) r → Finds test_view (own_test prims path w operator j) r
told_found prims path w e operator j t r allowed expects is found = subst (λ d. Finds test_view d r) (sym same) found
  where
    operand_gives : test_of prims (own_expects w) path operator j ≡ Ok t
    operand_gives = sym (ap (λ e. test_of prims e path operator j) expects) ∙ is

    same : own_test prims path w operator j ≡ told prims path w t
    same = ap (λ b. if b then (test_of prims (own_expects w) path operator j >>= told prims path w) else bad query.bad_operator path) allowed
        ∙ ap (λ r. r >>= told prims path w) operand_gives
