-- Events that are refused: learning what is not shown, slicing and freezing what is not held, and a budget of 0; and a reading of several queries.
use Rattle.std.proofs.Common.{refl, ℕ, List, [], ◌++◌, codes, true, inl, inr, Result, Ok, Some, None}
use Rattle.gd_runs.specs.Owed.{MembersOf}
use Rattle.gd_runs.specs.Core.{Event, begin, learn, slice, freeze, thaw, State, opened, entered, learnt}
use Rattle.gd_runs.specs.Input.{InputFault, no_line}
use Rattle.gd_runs.specs.Request.{ReadRequest, queries, bad_line}
use Rattle.gd_runs.specs.Replay.{event_from, LineStep}
use Rattle.gd_runs.proofs.Plain.{computing}

-- each iterator has one member
abbrev members : MembersOf
members prims hop t = 1

-- dateline 1 is ahead of a fresh store
abbrev ahead_reply : List ℕ
ahead_reply = codes "{\"code\":\"/api/status/error\",\"dateline\":0,\"error\":\"CursorAhead\",\"info\":{\"asked\":1,\"have\":0},\"line\":0}"

-- dateline 0 is shown
abbrev learnt_reply : List ℕ
learnt_reply = codes "{\"code\":\"/api/status/ok\",\"dateline\":0,\"line\":1,\"result\":\"learnt\"}"

-- nothing is held
abbrev slice_reply : List ℕ
slice_reply = codes "{\"code\":\"/api/status/error\",\"error\":\"NoReading\",\"info\":{},\"line\":2}"

abbrev freeze_reply : List ℕ
freeze_reply = codes "{\"code\":\"/api/status/error\",\"error\":\"NoReading\",\"info\":{},\"line\":3}"

-- a slice has a budget of 1 to 1,000,000
abbrev budget_reply : List ℕ
budget_reply = codes "{\"code\":\"/api/status/error\",\"error\":\"BadLine\",\"info\":{},\"line\":4}"

-- the state after the second line
abbrev knowing : State
knowing = learnt (opened []) 0 0

pub ahead : LineStep members (λ m. true) (opened []) 0 (codes "{\"learn\":{\"dateline\":1,\"sid\":0}}") ahead_reply (opened [])
unfolding computing
ahead = inr (inl (learn 0 1, refl, (refl, refl)))

pub learns : LineStep members (λ m. true) (opened []) 1 (codes "{\"learn\":{\"dateline\":0,\"sid\":0}}") learnt_reply knowing
unfolding computing
learns = inr (inl (learn 0 0, refl, (refl, refl)))

pub slices_nothing : LineStep members (λ m. true) knowing 2 (codes "{\"slice\":{\"sid\":0,\"budget\":1}}") slice_reply knowing
unfolding computing
slices_nothing = inr (inl (slice 0 1, refl, (refl, refl)))

pub freezes_nothing : LineStep members (λ m. true) knowing 3 (codes "{\"freeze\":{\"sid\":0}}") freeze_reply knowing
unfolding computing
freezes_nothing = inr (inl (freeze 0, refl, (refl, refl)))

pub no_budget : LineStep members (λ m. true) knowing 4 (codes "{\"slice\":{\"sid\":0,\"budget\":0}}") budget_reply knowing
unfolding computing
no_budget = inl (no_line bad_line, refl, refl, refl)

-- ---- several queries

abbrev several : List ℕ
several = codes "{\"queries\":[{\"query\":{\"id\":\"/\"}},{\"query\":{\"id\":\"/x\"}}]}"

abbrev begin_bytes : List ℕ
begin_bytes = codes "{\"begin\":{\"sid\":0,\"read\":" ++ several ++ codes "}}"

-- the reads of an event that begins or thaws some
abbrev reads_of : Result Event InputFault → List ReadRequest
reads_of (Ok (begin s (queries rs))) = rs
reads_of _ = []

abbrev reads : List ReadRequest
reads = reads_of (event_from begin_bytes)

-- the state in which the session holds the reading
abbrev held : State
held = entered (opened []) 0 (Some (record { request = queries reads; dateline = 0; after = None; thawed = None }))

-- a query without a meaning is refused by itself, and the reading has begun
pub begins_several : LineStep members (λ m. true) (opened []) 0 begin_bytes (codes "{\"code\":\"/api/status/ok\",\"dateline\":0,\"line\":0,\"result\":\"begun\"}") held
unfolding computing
begins_several = inr (inl (begin 0 (queries reads), refl, (refl, refl)))

pub freezes_none : LineStep members (λ m. true) held 1 (codes "{\"freeze\":{\"sid\":0}}") (codes "{\"code\":\"/api/status/error\",\"error\":\"ManyQueries\",\"info\":{},\"line\":1}") held
unfolding computing
freezes_none = inr (inl (freeze 0, refl, (refl, refl)))

pub thaws_none : LineStep members (λ m. true) held 2 (codes "{\"thaw\":{\"sid\":0,\"read\":" ++ several ++ codes ",\"text\":\"f1:00\"}}") (codes "{\"code\":\"/api/status/error\",\"error\":\"ManyQueries\",\"info\":{},\"line\":2}") held
unfolding computing
thaws_none = inr (inl (thaw 0 (queries reads) (codes "f1:00"), refl, (refl, refl)))

pub ends_several : LineStep members (λ m. true) held 3 (codes "{\"slice\":{\"sid\":0,\"budget\":1}}")
    (codes "{\"code\":\"/api/status/ok\",\"dateline\":0,\"line\":3,\"result\":[{\"result\":{\"id\":\"/\"}},{\"error\":\"NoSuchId\",\"info\":{\"path\":\"/x\"}}]}") (entered held 0 None)
unfolding computing
ends_several = inr (inl (slice 0 1, refl, inr (refl, refl)))
