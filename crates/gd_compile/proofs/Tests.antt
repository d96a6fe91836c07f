-- The test of an operator, by what it takes.
use Rattle.std.proofs.Common.{◌≡◌, ℕ, List, true, false, Result}
use Rattle.gd_prim.specs.declared.Primitive.{Primitive}
use Rattle.gd_tree.specs.Json.{Json}
use Rattle.gd_defs.specs.Property.{Expects}
use Rattle.gd_defs.specs.Query.{Operator, no_operator, one_of, differs, below, at_most, above, at_least, words}
use Rattle.gd_defs.specs.Asked.Tests.{test_of}
use Rattle.gd_compile.specs.declared.fault.Unknown.{Unknown}
use Rattle.gd_plan.specs.declared.test.Test.{Test}
use Rattle.gd_compile.specs.Fault.{Finds}
use Rattle.gd_plan.specs.Seen.{test_view}
use Rattle.gd_compile.specs.Seen.{compared_with, words_with, is_choice, is_words}

-- of a list
pub choice_found : (prims : List Primitive) (e : Expects) (path : List (List ℕ)) (o : Operator) (j : Json) (r : Result Test Unknown)
    → is_choice o ≡ true → Finds test_view (test_of prims e path one_of j) r → Finds test_view (test_of prims e path o j) r
choice_found prims e path one_of j r is found = found
choice_found prims e path no_operator j r is found = cc
choice_found prims e path differs j r is found = cc
choice_found prims e path below j r is found = cc
choice_found prims e path at_most j r is found = cc
choice_found prims e path above j r is found = cc
choice_found prims e path at_least j r is found = cc
choice_found prims e path words j r is found = cc

-- of a pattern
pub words_found : (prims : List Primitive) (e : Expects) (path : List (List ℕ)) (o : Operator) (j : Json) (r : Result Test Unknown)
    → is_words o ≡ true → Finds test_view (words_with path j) r → Finds test_view (test_of prims e path o j) r
words_found prims e path words j r is found = found
words_found prims e path no_operator j r is found = cc
words_found prims e path one_of j r is found = cc
words_found prims e path differs j r is found = cc
words_found prims e path below j r is found = cc
words_found prims e path at_most j r is found = cc
words_found prims e path above j r is found = cc
words_found prims e path at_least j r is found = cc

-- of one datum
pub datum_found : (prims : List Primitive) (e : Expects) (path : List (List ℕ)) (o : Operator) (j : Json) (r : Result Test Unknown)
    → is_choice o ≡ false → is_words o ≡ false → Finds test_view (compared_with prims e path o j) r → Finds test_view (test_of prims e path o j) r
datum_found prims e path no_operator j r choice pattern found = found
datum_found prims e path differs j r choice pattern found = found
datum_found prims e path below j r choice pattern found = found
datum_found prims e path at_most j r choice pattern found = found
datum_found prims e path above j r choice pattern found = found
datum_found prims e path at_least j r choice pattern found = found
datum_found prims e path one_of j r choice pattern found = cc
datum_found prims e path words j r choice pattern found = cc
