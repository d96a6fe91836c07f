-- The session of a line, and the faults of one, as the definitions have them.
use Rattle.std.specs.Prelude.{ℕ, [], ◌∷◌, ◌||◌, Option, Some, None, codes, if◌then◌else◌}
use Rattle.gd_tree.specs.Json.{Json, object}
use Rattle.gd_tree.specs.Look.{get, only}
use Rattle.gd_json.specs.declared.from.JsonFault.TheVariants as json_fault
use Rattle.gd_runs.specs.Request as request
use Rattle.gd_runs.specs.Request.{session_of}
use Rattle.gd_runs.specs.Input as input
use Rattle.gd_runs.specs.Input.{InputFault}
use Rattle.gd_fault.specs.declared.fault.LineFault.{LineFault}
use Rattle.gd_fault.specs.declared.fault.LineFault.TheVariants as fault
pub use Rattle.gd_fault.specs.Fault.{code_view}

-- the fault that this is; want of memory stands beside those of JSON
abbrev pub fault_view : LineFault → InputFault
fault_view (fault.Json f) = input.no_json f
fault_view fault.BadLine = input.no_line request.bad_line
fault_view (fault.BadQuery code path) = input.no_line (request.bad_form (record { code = code_view code; path = path }))
fault_view fault.Memory = input.no_json json_fault.Memory

-- the session, where the value is a line: an object of just `sid`, a number from 0 to 63, and one of `read` and `write`
abbrev pub line_session : Json → Option ℕ
line_session (object ms) = if only (codes "read" ∷ codes "sid" ∷ []) ms || only (codes "sid" ∷ codes "write" ∷ []) ms
    then by (session_of (get (codes "sid") ms)) (get (codes "read") ms) (get (codes "write") ms) else None
  where
    by : Option ℕ → Option Json → Option Json → Option ℕ
    by session (Some j) None = session
    by session None (Some j) = session
    by _ _ _ = None
line_session _ = None
