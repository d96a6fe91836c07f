-- Sessions as the definitions have them.
use Rattle.std.specs.Prelude.{ℕ, List, map, get_or}
use Rattle.gd_prim.specs.declared.Batch.{Batch}
use Rattle.gd_runs.specs.Core.{Session}
use Rattle.gd_held.specs.Held.{reads, HoldsGoing, held_left}
use Rattle.gd_sessions.specs.Sessions.{new_session}
use Rattle.gd_sessions.specs.declared.held.Held.{Held}

-- the session that this is
abbrev pub session_view : Held → Session
session_view h = record { seen = h.seen; reading = reads h.state }

-- the sessions by their numbers
abbrev pub sessions_of : List Held → ℕ → Session
sessions_of hs i = get_or (map session_view hs) i new_session

-- the reading that a session holds goes on over batches, so many of which are shown
abbrev pub IsGoingOn : List Batch → ℕ → Held → Type 0
IsGoingOn batches shown h = HoldsGoing batches shown h.state

-- how much is left of the reading of the session of a number, at most, where that began; of one that was thawed no steps are counted. `n` is a number that no id reaches
abbrev pub left_at : ℕ → List Batch → List Held → ℕ → ℕ
left_at n batches hs i = get_or (map (λ h. held_left n batches h.state) hs) i 0
