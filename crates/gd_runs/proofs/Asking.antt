-- Queries as texts, the same with their words looked up, and two stores to ask.
use Rattle.std.proofs.Common.{ℕ, List, [], ◌∷◌, Result, Ok, Err, Option, Some, None, option_and_then, map, codes}
use Rattle.gd_prim.specs.declared.Primitive.{Primitive}
use Rattle.gd_json.specs.Reading.{json_from}
use Rattle.gd_defs.specs.History.{prims_at}
use Rattle.gd_defs.specs.Query.{Query, query_of}
use Rattle.gd_defs.specs.Asked.{Asked, asked_query}
use Rattle.gd_runs.specs.Input.{line_from}
use Rattle.gd_runs.proofs.Plain.{computing, run}

-- the value of a result
abbrev pub value_of : {A E : Type 0} → Result A E → Option A
value_of (Ok x) = Some x
value_of (Err e) = None

-- the query that bytes spell
unfoldable pub query_from : List ℕ → Option Query
unfolding computing
query_from bytes = option_and_then (λ j. value_of (query_of j)) (value_of (json_from bytes))

-- the same with its words looked up
unfoldable pub asked_from : List Primitive → List ℕ → Option Asked
unfolding query_from
asked_from prims bytes = option_and_then (λ q. value_of (asked_query prims q)) (query_from bytes)

-- queries that have a meaning where only the built-in list is
abbrev pub builtin_queries : List (List ℕ)
builtin_queries =
    codes "[{\"guid\":null,\"name\":\"English\"}]"
    ∷ codes "[{}]"
    ∷ codes "{\"guid\":\"#0000000000000001000000000000000d\",\"id\":null,\"name\":null,\"type\":[]}"
    ∷ codes "[{\"name\":{\"optional\":\"forbidden\",\"value\":null},\"type\":\"/type/namespace\"}]"
    ∷ codes "[{\"name~=\":\"eng*\"}]"
    ∷ codes "[{\"name\":null,\"sort\":\"-name\",\"type\":\"/type/namespace\"}]"
    ∷ codes "[{\"!/type/property/expected_type\":[{\"id\":null,\"key\":[],\"type|=\":[\"/type/property\"]}],\"key\":{\"namespace\":\"/type\",\"value\":null},\"name!=\":\"Root\"}]"
    ∷ codes "[{\"key\":[{\"value\":null}],\"type\":{\"id|=\":[\"/type/type\",\"/type/namespace\"],\"name\":\"Type\"}}]"
    ∷ codes "[{\"id!=\":\"/\",\"key\":\"type\",\"timestamp<\":\"1971\"}]"
    ∷ codes "[{\"/type/property/expected_type\":{\"name\":null,\"optional\":true},\"/type/property/unique\":true}]"
    ∷ codes "[{\"key~=\":\"type\",\"type\":\"/type/type\"}]"
    ∷ []

-- a type with a property on itself, its reverse and a number, and three objects of that type
abbrev pub type_lines : List (List ℕ)
type_lines =
    codes "{\"sid\":0,\"write\":{\"query\":{\"create\":\"unconditional\",\"key\":{\"namespace\":\"/\",\"value\":\"d\"},\"type\":\"/type/namespace\"}}}"
    ∷ codes "{\"sid\":0,\"write\":{\"query\":{\"create\":\"unconditional\",\"key\":{\"namespace\":\"/d\",\"value\":\"t\"},\"type\":\"/type/type\"}}}"
    ∷ codes "{\"sid\":0,\"write\":{\"query\":{\"create\":\"unconditional\",\"expected_type\":\"/d/t\",\"key\":{\"namespace\":\"/d/t\",\"value\":\"m\"},\"type\":\"/type/property\"}}}"
    ∷ codes "{\"sid\":0,\"write\":{\"query\":{\"create\":\"unconditional\",\"expected_type\":\"/d/t\",\"key\":{\"namespace\":\"/d/t\",\"value\":\"q\"},\"master_property\":\"/d/t/m\",\"type\":\"/type/property\"}}}"
    ∷ codes "{\"sid\":0,\"write\":{\"query\":{\"create\":\"unconditional\",\"expected_type\":\"/type/int\",\"key\":{\"namespace\":\"/d/t\",\"value\":\"n\"},\"type\":\"/type/property\"}}}"
    ∷ codes "{\"sid\":0,\"write\":{\"query\":{\"create\":\"unconditional\",\"n\":[3,1],\"name\":\"a\",\"type\":\"/d/t\"}}}"
    ∷ codes "{\"sid\":0,\"write\":{\"query\":{\"create\":\"unconditional\",\"m\":{\"create\":\"unconditional\",\"n\":7,\"name\":\"c\",\"type\":\"/d/t\"},\"n\":2,\"name\":\"b\",\"type\":\"/d/t\"}}}"
    ∷ []

-- the primitives that these lines make
unfoldable pub type_store : List Primitive
unfolding computing
type_store = prims_at (run [] 0 (map line_from type_lines)).0 7

-- queries on them
abbrev pub type_queries : List (List ℕ)
type_queries =
    codes "[{\"n\":[],\"name\":null,\"type\":\"/d/t\"}]"
    ∷ codes "[{\"m\":null,\"name\":null,\"sort\":\"-n\",\"type\":\"/d/t\"}]"
    ∷ codes "[{\"n>\":1,\"name\":null,\"type\":\"/d/t\"}]"
    ∷ codes "[{\"!/d/t/m\":[{\"name\":\"b\"}],\"name\":null,\"type\":\"/d/t\"}]"
    ∷ codes "[{\"name\":null,\"q\":[{\"name\":null}],\"type\":\"/d/t\"}]"
    ∷ codes "[{\"name\":null,\"q\":\"b\",\"type\":\"/d/t\"}]"
    ∷ codes "[{\"name\":null,\"q!=\":\"x\",\"type\":\"/d/t\"}]"
    ∷ codes "[{\"m|=\":[\"c\",\"d\"],\"type\":\"/d/t\"}]"
    ∷ codes "[{\"m\":[{\"n\":[{\"link\":null,\"value>=\":7}],\"name\":null,\"sort\":[\"name\",\"-n\"],\"type\":\"/d/t\"}],\"type\":\"/d/t\"}]"
    ∷ codes "[{\"n\":[{\"value\":3}],\"type\":\"/d/t\",\"x:n\":1}]"
    ∷ codes "[{\"m\":{\"n\":7,\"optional\":true},\"type\":\"/d/t\"}]"
    ∷ codes "[{\"m\":[{\"n\":7,\"optional\":\"forbidden\"}],\"type\":\"/d/t\"}]"
    ∷ codes "[{\"/d/t/m\":[]}]"
    ∷ []
