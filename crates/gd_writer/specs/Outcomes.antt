-- What is kept of write lines.
use Rattle.std.specs.Prelude.{◌≡◌, ◌+◌, ℕ, Bool, true, false, Option, Some, Err}
use Rattle.gd_json.specs.View.{view}
use Rattle.gd_defs.specs.Lines.{ok_line, err_line}
use Rattle.gd_defs.specs.Write.{WriteRequest}
use Rattle.gd_change.specs.Fault.{fault_of}
use Rattle.gd_runs.specs.Request.{change_refusal}
use Rattle.gd_runs.specs.Explained.{MayBe}
use Rattle.gd_runs.specs.Legal.{History, exec_line}
use Rattle.gd_runs.specs.Side.{Kept, kept_stored, kept_late, kept_refused, kept_doubt, kept_unsettled, kept_memory, Told, told_of}
use Rattle.gd_writer.specs.declared.outcome.Outcome.{Outcome}
use Rattle.gd_writer.specs.declared.outcome.Outcome.TheVariants as outcome
use Rattle.gd_writer.specs.declared.outcome.WriteOf.{WriteOf}

-- what is kept, as the definitions have it
abbrev pub kept_view : Outcome → Kept
kept_view (outcome.Stored entry answer reply) = kept_stored entry (view answer.value)
kept_view (outcome.Late entry) = kept_late entry
kept_view (outcome.Refused f at reply) = kept_refused (fault_of f.value) at
kept_view (outcome.Doubt at) = kept_doubt at
kept_view outcome.Unsettled = kept_unsettled
kept_view outcome.Memory = kept_memory

-- a line with what is kept of it
abbrev pub told_view : WriteOf → Told
told_view w = told_of w.line (kept_view w.outcome)

-- the reply line of what is stored, or was refused, is there
abbrev pub IsTold : ℕ → Outcome → Type 0
IsTold line (outcome.Stored entry answer reply) = reply.items ≡ ok_line (entry + 1) line (view answer.value)
IsTold line (outcome.Refused f at reply) = reply.items ≡ err_line at line (change_refusal (fault_of f.value))
IsTold line _ = Unit {0}

-- what is kept is an entry that is shown
abbrev pub is_stored : Option Kept → Bool
is_stored (Some (kept_stored e r)) = true
is_stored _ = false

-- where a refusal is kept of a write of so many bytes, it is that of the write behind the history at a moment that the clock may give
abbrev pub IsRefusedNow : (ℕ → Bool) → History → ℕ → WriteRequest → Kept → Type 0
IsRefusedNow may h bytes w (kept_refused f n) = (moment : ℕ) × MayBe may moment × (exec_line h w moment bytes ≡ Err f)
IsRefusedNow may h bytes w _ = Unit {0}
