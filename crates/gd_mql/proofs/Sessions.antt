-- Which values are lines.
use Rattle.std.proofs.Common.{◌≡◌, ℕ, [], ◌∷◌, Bool, true, false, ◌||◌, Option, Some, None, Result, Ok, Err, codes, refl, sym, ap, subst}
use Rattle.gd_grammar.specs.Chain.{◌>>=◌, map_err}
use Rattle.gd_tree.specs.Json.{Json, null, boolean, number, text, list, object, Members}
use Rattle.gd_tree.specs.Look.{get, only, member_of}
use Rattle.gd_grammar.proofs.Steps.{some_same}
use Rattle.gd_runs.specs.Input.{as_line}
use Rattle.gd_mql.specs.Envelopes.{read_line_of, write_line_of}
use Rattle.gd_defs.specs.Query.{Fault}
use Rattle.gd_runs.specs.Request.{Line, LineFault, bad_line, bad_form, line_of, session_of}
use Rattle.gd_mql.specs.Line.{line_session}

-- a line has a session, and what has none is no line
abbrev FitsSession : Option ℕ → Result Line LineFault → Type 0
FitsSession None l = l ≡ Err bad_line
FitsSession (Some s) l = l ≡ Err bad_line → ⊥

-- the request of a line may be faulty, the line is one
is_line : {A : Type 0} (r : Result A Fault) (f : A → Line) → (map_err bad_form r >>= λ x. Ok (f x)) ≡ Err bad_line → ⊥
is_line (Ok x) f is = cc
is_line (Err e) f is = cc

by_parts : (ms : Members) (names : Bool) (s : Option ℕ) (r w : Option Json)
    → (only (codes "read" ∷ codes "sid" ∷ []) ms || only (codes "sid" ∷ codes "write" ∷ []) ms) ≡ names → session_of (get (codes "sid") ms) ≡ s → get (codes "read") ms ≡ r → get (codes "write") ms ≡ w
    → FitsSession (line_session (object ms)) (line_of (object ms))
by_parts ms false s r w names sid has_read has_write = rw names refl
by_parts ms true None (Some r) (Some w) names sid has_read has_write = rw (names, sid, has_read, has_write) refl
by_parts ms true None (Some r) None names sid has_read has_write = rw (names, sid, has_read, has_write) refl
by_parts ms true None None (Some w) names sid has_read has_write = rw (names, sid, has_read, has_write) refl
by_parts ms true None None None names sid has_read has_write = rw (names, sid, has_read, has_write) refl
by_parts ms true (Some s) (Some r) (Some w) names sid has_read has_write = rw (names, sid, has_read, has_write) refl
by_parts ms true (Some s) (Some r) None names sid has_read has_write = rw (names, sid, has_read, has_write) (λ bad. is_line _ _ bad)
by_parts ms true (Some s) None (Some w) names sid has_read has_write = rw (names, sid, has_read, has_write) (λ bad. is_line _ _ bad)
by_parts ms true (Some s) None None names sid has_read has_write = rw (names, sid, has_read, has_write) refl

session-fits : (j : Json) → FitsSession (line_session j) (line_of j)
session-fits (object ms) = by_parts ms _ _ _ _ refl refl refl refl
session-fits null = refl
session-fits (boolean b) = refl
session-fits (number n) = refl
session-fits (text t) = refl
session-fits (list js) = refl

-- ---- the request of a line

by_read : (ms : Members) (names : Bool) (t : Option ℕ) (w : Option Json) (s : ℕ) (r : Json)
    → (only (codes "read" ∷ codes "sid" ∷ []) ms || only (codes "sid" ∷ codes "write" ∷ []) ms) ≡ names → session_of (get (codes "sid") ms) ≡ t → get (codes "read") ms ≡ Some r → get (codes "write") ms ≡ w
    → line_session (object ms) ≡ Some s → as_line (line_of (object ms)) ≡ read_line_of s r
by_read ms false t w s r names sid has_read has_write session = let bad = rw names at session in cc
by_read ms true t (Some w) s r names sid has_read has_write session = by t sid
  where
    by : (t : Option ℕ) → session_of (get (codes "sid") ms) ≡ t → as_line (line_of (object ms)) ≡ read_line_of s r
    by None sid = let bad = rw (names, sid, has_read, has_write) at session in cc
    by (Some n) sid = let bad = rw (names, sid, has_read, has_write) at session in cc
by_read ms true None None s r names sid has_read has_write session = let bad = rw (names, sid, has_read, has_write) at session in cc
by_read ms true (Some n) None s r names sid has_read has_write session =
    let same : n ≡ s = some_same n s (rw (names, sid, has_read, has_write) at session) in
    rw (names, sid, has_read, has_write) (ap (λ n. read_line_of n r) same)

by_write : (ms : Members) (names : Bool) (t : Option ℕ) (s : ℕ) (w : Json)
    → (only (codes "read" ∷ codes "sid" ∷ []) ms || only (codes "sid" ∷ codes "write" ∷ []) ms) ≡ names → session_of (get (codes "sid") ms) ≡ t → get (codes "read") ms ≡ None → get (codes "write") ms ≡ Some w
    → line_session (object ms) ≡ Some s → as_line (line_of (object ms)) ≡ write_line_of s w
by_write ms false t s w names sid has_read has_write session = let bad = rw names at session in cc
by_write ms true None s w names sid has_read has_write session = let bad = rw (names, sid, has_read, has_write) at session in cc
by_write ms true (Some n) s w names sid has_read has_write session =
    let same : n ≡ s = some_same n s (rw (names, sid, has_read, has_write) at session) in
    rw (names, sid, has_read, has_write) (ap (λ n. write_line_of n w) same)

by_none : (ms : Members) (names : Bool) (t : Option ℕ) (s : ℕ)
    → (only (codes "read" ∷ codes "sid" ∷ []) ms || only (codes "sid" ∷ codes "write" ∷ []) ms) ≡ names → session_of (get (codes "sid") ms) ≡ t → get (codes "read") ms ≡ None → get (codes "write") ms ≡ None
    → line_session (object ms) ≡ Some s → ⊥
by_none ms false t s names sid no_read no_write session = let bad = rw names at session in cc
by_none ms true None s names sid no_read no_write session = let bad = rw (names, sid, no_read, no_write) at session in cc
by_none ms true (Some n) s names sid no_read no_write session = let bad = rw (names, sid, no_read, no_write) at session in cc

-- a line with a read
pub line_read : (j r : Json) (s : ℕ) → line_session j ≡ Some s → Some r ≡ member_of (codes "read") j → as_line (line_of j) ≡ read_line_of s r
line_read null r s session there = cc
line_read (boolean b) r s session there = cc
line_read (number n) r s session there = cc
line_read (text t) r s session there = cc
line_read (list js) r s session there = cc
line_read (object ms) r s session there = by_read ms _ _ _ s r refl refl (sym there) refl session
