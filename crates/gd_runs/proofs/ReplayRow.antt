-- Events that begin, freeze and finish a reading.
use Rattle.std.proofs.Common.{◌≡◌, refl, ℕ, List, [], ◌∷◌, ◌++◌, codes, true, Result, Ok, Some, None, inl, inr}
use Rattle.gd_runs.specs.Input.{InputFault}
use Rattle.gd_runs.specs.Owed.{MembersOf}
use Rattle.gd_bytes.specs.Frozen.{Frozen, scanning}
use Rattle.gd_defs.specs.Query.{no_directives, no_members}
use Rattle.gd_runs.specs.Request.{ReadRequest, one_query, no_cursor}
use Rattle.gd_runs.specs.Core.{Event, begin, slice, freeze, State, Reading, opened, entered, FreezesAs, owed_line}
use Rattle.gd_runs.specs.Thawed.{thawed_reply}
use Rattle.gd_runs.proofs.Plain.{computing}
use Rattle.gd_runs.specs.Replay.{event_from, LineStep, Replays}

-- the line that begins a reading
abbrev begin_bytes : List ℕ
begin_bytes = codes "{\"begin\":{\"sid\":0,\"read\":{\"query\":[{\"guid\":null,\"name\":\"English\"}]}}}"

-- the line that freezes it
abbrev freeze_bytes : List ℕ
freeze_bytes = codes "{\"freeze\":{\"sid\":0}}"

-- the line that finishes it
abbrev slice_bytes : List ℕ
slice_bytes = codes "{\"slice\":{\"sid\":0,\"budget\":1000000}}"

-- a read, where there is none
abbrev no_request : ReadRequest
no_request = record { cursor = no_cursor; query = record { listed = true; directives = no_directives; members = no_members } }

-- the read of an event that begins one
abbrev request_of : Result Event InputFault → ReadRequest
request_of (Ok (begin s (one_query r))) = r
request_of _ = no_request

-- the read of the first line
abbrev request : ReadRequest
request = request_of (event_from begin_bytes)

-- the reading that it begins
abbrev reading : Reading
reading = record { request = one_query request; dateline = 0; after = None; thawed = None }

-- the state in which the session holds it
abbrev held : State
held = entered (opened []) 0 (Some reading)

-- the state in which it is finished
abbrev ended : State
ended = entered held 0 None

-- each iterator has one member
abbrev members : MembersOf
members prims hop t = 1

-- the frozen reading in which nothing is scanned yet
abbrev at_start : Frozen
at_start = record { dateline = 0; after = None; rows = []; body = scanning (record { iter = record { place = 0; accepted = None }; weight = 0; frames = [] }) }

pub owes_the_same : (k : ℕ) → thawed_reply [] k request at_start ≡ owed_line [] k reading
unfolding computing
owes_the_same k = refl

pub freezes : FreezesAs members [] request reading at_start
unfolding computing
freezes = record { spelled = refl; dateline = refl; after = refl; fitting = refl; same = owes_the_same }

pub began : LineStep members (λ m. true) (opened []) 0 begin_bytes (codes "{\"code\":\"/api/status/ok\",\"dateline\":0,\"line\":0,\"result\":\"begun\"}") held
unfolding computing
began = inr (inl (begin 0 (one_query request), refl, (refl, refl)))

pub froze : LineStep members (λ m. true) held 1 freeze_bytes (codes "{\"code\":\"/api/status/ok\",\"dateline\":0,\"line\":1,\"result\":{\"frozen\":\"f1:0:-:[]:s[0,0]\"}}") held
unfolding computing
froze = inr (inl (freeze 0, refl, (refl, (at_start, freezes, refl))))

pub finished : LineStep members (λ m. true) held 2 slice_bytes (codes "{\"code\":\"/api/status/ok\",\"dateline\":0,\"line\":2,\"result\":[{\"guid\":\"#00000000000000010000000000000003\",\"name\":\"English\"}]}") ended
unfolding computing
finished = inr (inl (slice 0 1_000_000, refl, inr (refl, refl)))

pub replayed : Replays members (λ m. true) [] (codes "{\"begin\":{\"sid\":0,\"read\":{\"query\":[{\"guid\":null,\"name\":\"English\"}]}}}\n{\"freeze\":{\"sid\":0}}\n{\"slice\":{\"sid\":0,\"budget\":1000000}}\n") (codes "{\"code\":\"/api/status/ok\",\"dateline\":0,\"line\":0,\"result\":\"begun\"}" ++ 10 ∷ codes "{\"code\":\"/api/status/ok\",\"dateline\":0,\"line\":1,\"result\":{\"frozen\":\"f1:0:-:[]:s[0,0]\"}}" ++ 10 ∷ codes "{\"code\":\"/api/status/ok\",\"dateline\":0,\"line\":2,\"result\":[{\"guid\":\"#00000000000000010000000000000003\",\"name\":\"English\"}]}" ++ 10 ∷ []) ended
unfolding computing
replayed = (codes "{\"code\":\"/api/status/ok\",\"dateline\":0,\"line\":0,\"result\":\"begun\"}", held, codes "{\"code\":\"/api/status/ok\",\"dateline\":0,\"line\":1,\"result\":{\"frozen\":\"f1:0:-:[]:s[0,0]\"}}" ++ 10 ∷ codes "{\"code\":\"/api/status/ok\",\"dateline\":0,\"line\":2,\"result\":[{\"guid\":\"#00000000000000010000000000000003\",\"name\":\"English\"}]}" ++ 10 ∷ [], began, refl, (codes "{\"code\":\"/api/status/ok\",\"dateline\":0,\"line\":1,\"result\":{\"frozen\":\"f1:0:-:[]:s[0,0]\"}}", held, codes "{\"code\":\"/api/status/ok\",\"dateline\":0,\"line\":2,\"result\":[{\"guid\":\"#00000000000000010000000000000003\",\"name\":\"English\"}]}" ++ 10 ∷ [], froze, refl, (codes "{\"code\":\"/api/status/ok\",\"dateline\":0,\"line\":2,\"result\":[{\"guid\":\"#00000000000000010000000000000003\",\"name\":\"English\"}]}", ended, [], finished, refl, (refl, refl))))
