-- Tests, by what their operators take.
use Rattle.std.specs.Prelude.{ℕ, List, Bool, true, false, Result, Ok}
use Rattle.std.specs.Option.{ok_or}
use Rattle.gd_base.specs.declared.datum.Datum.{Datum}
use Rattle.gd_defs.specs.Data as tests
use Rattle.gd_defs.specs.Property as property
use Rattle.gd_defs.specs.Query as query
use Rattle.gd_defs.specs.Asked.Tests.{Unknown, bad_query, operand_datum, pattern_test}
use Rattle.gd_defs.specs.Query.{bad_value}
use Rattle.gd_prim.specs.declared.Primitive.{Primitive}
use Rattle.gd_grammar.specs.Chain.{◌>>=◌}
use Rattle.gd_tree.specs.Json.{Json}

-- the test that an operator of one datum makes with it; what takes no such datum is not asked for
abbrev pub compared : query.Operator → Datum → tests.Test
compared query.differs d = tests.differs d
compared query.below d = tests.is_below d false
compared query.at_most d = tests.is_below d true
compared query.above d = tests.is_above d false
compared query.at_least d = tests.is_above d true
compared _ d = tests.equals d

-- the test that an operator of one datum makes with its operand
abbrev pub compared_with : List Primitive → property.Expects → List (List ℕ) → query.Operator → Json → Result tests.Test Unknown
compared_with prims e path operator j = operand_datum prims e path j >>= λ d. Ok (compared operator d)

-- the test that `~=` makes with its operand
abbrev pub words_with : List (List ℕ) → Json → Result tests.Test Unknown
words_with path j = ok_or (tests.datum_from tests.of_text j) (bad_query bad_value path) >>= λ d. Ok (pattern_test j)

-- the operator takes a list
abbrev pub is_choice : query.Operator → Bool
is_choice query.one_of = true
is_choice _ = false

-- the operator takes a pattern
abbrev pub is_words : query.Operator → Bool
is_words query.words = true
is_words _ = false
