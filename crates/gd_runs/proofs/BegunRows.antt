-- A read that began before a write answers as it began.
use Rattle.std.proofs.Common.{◌≡◌, refl, ℕ, List, [], ◌∷◌, Option, Some, map, option_and_then, option_map, codes}
use Rattle.gd_prim.specs.declared.Batch.{Batch}
use Rattle.gd_runs.specs.Input.{line_from}
use Rattle.gd_runs.specs.Request.{one_query, no_cursor}
use Rattle.gd_runs.specs.Core.{Reading, reading_of, owed_reply}
use Rattle.gd_runs.proofs.Plain.{computing, replies, run}
use Rattle.gd_runs.proofs.Asking.{query_from, value_of}

-- an object is made
abbrev created : List ℕ
created = codes "{\"sid\":0,\"write\":{\"query\":{\"create\":\"unconditional\",\"name\":\"X\"}}}"

-- and renamed
abbrev renamed : List ℕ
renamed = codes "{\"sid\":0,\"write\":{\"query\":{\"id\":\"#00000000000000010000000000000046\",\"name\":{\"connect\":\"update\",\"value\":\"Y\"}}}}"

-- the batches of lines
unfoldable pub batches_of : List (List ℕ) → List Batch
unfolding replies
batches_of lines = (run [] 0 (map line_from lines)).0

-- the reading of a query that begins after some batches
abbrev begun : List Batch → ℕ → List ℕ → Option Reading
begun batches n bytes = option_and_then (λ q. value_of (reading_of batches n (one_query (record { cursor = no_cursor; query = q })))) (query_from bytes)

pub written : replies (created ∷ renamed ∷ [])
    ≡ codes "{\"code\":\"/api/status/ok\",\"dateline\":1,\"line\":0,\"result\":{\"create\":\"created\",\"name\":\"X\"}}"
    ∷ codes "{\"code\":\"/api/status/ok\",\"dateline\":2,\"line\":1,\"result\":{\"id\":\"#00000000000000010000000000000046\",\"name\":{\"connect\":\"updated\",\"value\":\"Y\"}}}" ∷ []
unfolding replies
written = refl

-- begun after the first write, and owed after the second
pub as_it_began : option_map (owed_reply (batches_of (created ∷ renamed ∷ [])) 3) (begun (batches_of (created ∷ [])) 1 (codes "[{\"guid\":null,\"name\":\"X\"}]"))
    ≡ Some (codes "{\"code\":\"/api/status/ok\",\"dateline\":1,\"line\":3,\"result\":[{\"guid\":\"#00000000000000010000000000000046\",\"name\":\"X\"}]}")
unfolding computing batches_of query_from
as_it_began = refl
