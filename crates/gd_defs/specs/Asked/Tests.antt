-- Operands as tests of data, with their ids looked up.
use Rattle.std.specs.Prelude.{ℕ, List, [], ◌∷◌, Bool, true, false, option_map, unwrap_or, Result, Ok, Err, if◌then◌else◌}
use Rattle.std.specs.Option.{ok_or}
use Rattle.gd_base.specs.declared.datum.Datum.{Datum}
use Rattle.gd_base.specs.declared.datum.Datum.TheVariants as datum
use Rattle.gd_prim.specs.declared.Primitive.{Primitive}
use Rattle.gd_grammar.specs.Chain.{◌>>=◌}
use Rattle.gd_tree.specs.Json.{Json, text, list, Items, no_items, item}
use Rattle.gd_defs.specs.Ids.{object_of}
use Rattle.gd_defs.specs.Pattern.{pattern_of}
use Rattle.gd_defs.specs.Data.{of_text, of_boolean, datum_from, key_from, Test, anything, equals, differs, is_one_of, is_below, is_above, matches_words}
use Rattle.gd_defs.specs.Query as query
use Rattle.gd_defs.specs.Query.{Operator, Code, bad_value, bad_operator}
use Rattle.gd_defs.specs.Property.{Expects, a_value, a_key, a_plain_object}

-- why a request has no meaning at a dateline: an id or a property that is not there, or a code at a path
pub data Unknown : Type 0 where
  no_such_id : List ℕ → Unknown
  no_such_property : List (List ℕ) → Unknown
  bad_query : Code → List (List ℕ) → Unknown

-- the fault of a code at a path
abbrev pub bad : {A : Type 0} → Code → List (List ℕ) → Result A Unknown
bad code path = Err (bad_query code path)

-- the object that the text of an id names
abbrev pub place_named : List Primitive → List ℕ → Result ℕ Unknown
place_named prims t = ok_or (object_of prims t) (no_such_id t)

-- an operand as a datum of what a property expects: a value, a key, or the object that an id names
abbrev pub operand_datum : List Primitive → Expects → List (List ℕ) → Json → Result Datum Unknown
operand_datum prims (a_value k) path j = ok_or (datum_from k j) (bad_query bad_value path)
operand_datum prims a_key path j = ok_or (option_map datum.Text (key_from j)) (bad_query bad_value path)
operand_datum prims _ path (text t) = place_named prims t >>= λ o. Ok (datum.Object o)
operand_datum prims _ path _ = bad bad_value path

-- a list of operands as data
abbrev pub operand_data : List Primitive → Expects → List (List ℕ) → Items → Result (List Datum) Unknown
operand_data prims e path no_items = Ok []
operand_data prims e path (item j js) = operand_datum prims e path j >>= λ d. operand_data prims e path js >>= λ ds. Ok (d ∷ ds)

-- an operator stands on answers of this kind: `|=` and `!=` on all, comparisons on values that have an order, `~=` on texts and keys
abbrev pub allows : Expects → Operator → Bool
allows e query.no_operator = true
allows e query.one_of = true
allows e query.differs = true
allows (a_value of_text) _ = true
allows a_key _ = true
allows (a_value of_boolean) _ = false
allows (a_value k) query.words = false
allows (a_value k) _ = true
allows e _ = false

-- the test that a pattern makes
abbrev pub pattern_test : Json → Test
pattern_test (text t) = unwrap_or (option_map matches_words (pattern_of t)) anything
pattern_test _ = anything

-- the test that an operator makes with its operand
abbrev pub test_of : List Primitive → Expects → List (List ℕ) → Operator → Json → Result Test Unknown
test_of prims e path query.no_operator j = operand_datum prims e path j >>= λ d. Ok (equals d)
test_of prims e path query.one_of (list js) = operand_data prims e path js >>= λ ds. Ok (is_one_of ds)
test_of prims e path query.one_of j = bad bad_value path
test_of prims e path query.differs j = operand_datum prims e path j >>= λ d. Ok (differs d)
test_of prims e path query.below j = operand_datum prims e path j >>= λ d. Ok (is_below d false)
test_of prims e path query.at_most j = operand_datum prims e path j >>= λ d. Ok (is_below d true)
test_of prims e path query.above j = operand_datum prims e path j >>= λ d. Ok (is_above d false)
test_of prims e path query.at_least j = operand_datum prims e path j >>= λ d. Ok (is_above d true)
test_of prims e path query.words j = operand_datum prims (a_value of_text) path j >>= λ d. Ok (pattern_test j)

-- what is tested of answers: of a plain object its name, which is a text
abbrev pub tested_as : Expects → Expects
tested_as a_plain_object = a_value of_text
tested_as e = e

-- the test that an operator makes with its operand, if it stands on answers of this kind
abbrev pub checked_test : List Primitive → Expects → List (List ℕ) → Operator → Json → Result Test Unknown
checked_test prims e path operator j = if allows e operator then test_of prims (tested_as e) path operator j else bad bad_operator path
