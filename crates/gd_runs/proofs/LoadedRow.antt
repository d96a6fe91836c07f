-- A read over a store that was loaded from a file.
use Rattle.std.specs.Prelude.{option_map}
use Rattle.std.proofs.Common.{◌≡◌, refl, List, [], ◌∷◌, Option, Some, None, Result, Ok, codes}
use Rattle.gd_prim.specs.declared.Batch.{Batch}
use Rattle.gd_prim.specs.Builtin.{object, name_link}
use Rattle.gd_runs.specs.Request.{Line, read, ReadSet, reply_of}
use Rattle.gd_runs.specs.Input.{line_from, InputFault}
use Rattle.gd_runs.proofs.Plain.{computing}

-- the batches of the file of one group: an object named Ann
abbrev ann : List Batch
ann = record { moment = 0; prims = object ∷ name_link (70, codes "Ann") ∷ [] } ∷ []

-- the read that a line is
abbrev read_in : Result Line InputFault → Option ReadSet
read_in (Ok (read s r)) = Some r
read_in _ = None

-- the object is found at place 70 and dateline 1
pub found : option_map (reply_of ann 1 0) (read_in (line_from (codes "{\"sid\":0,\"read\":{\"query\":[{\"guid\":null,\"name\":\"Ann\",\"timestamp\":null}]}}")))
    ≡ Some (codes "{\"code\":\"/api/status/ok\",\"dateline\":1,\"line\":0,\"result\":[{\"guid\":\"#00000000000000010000000000000046\",\"name\":\"Ann\",\"timestamp\":\"1970-01-01T00:00:00.000Z\"}]}")
unfolding computing
found = refl

-- at dateline 0 it is not there
pub not_yet : option_map (reply_of ann 0 0) (read_in (line_from (codes "{\"sid\":0,\"read\":{\"query\":[{\"guid\":null,\"name\":\"Ann\"}]}}")))
    ≡ Some (codes "{\"code\":\"/api/status/ok\",\"dateline\":0,\"line\":0,\"result\":[]}")
unfolding computing
not_yet = refl
