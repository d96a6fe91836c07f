-- Which replies tell a failure of the disk: none to a read, to what is no line, or for which there was no memory.
use Rattle.std.proofs.Common.{◌≡◌, ℕ, List, false, refl}
use Rattle.gd_prim.specs.declared.Batch.{Batch}
use Rattle.gd_tree.specs.Json.{Json}
use Rattle.gd_json.specs.declared.from.JsonFault.TheVariants as json_fault
use Rattle.gd_defs.specs.Lines.{Refusal, ok_line, ok_cursor_line, err_line}
use Rattle.gd_runs.specs.Request.{ReadSet, reply_of, bad_line, bad_form}
use Rattle.gd_runs.specs.Input.{InputFault, line_too_long, no_json, no_line, input_fault_line}
use Rattle.gd_runs.specs.Explained.{memory_line, tells_fault}
use Rattle.gd_runs.specs.Core.{Reading, owed_line}
use Rattle.gd_core_laws.proofs.Shapes.{read_each, owed_each}

module _ (k : ℕ) where
  -- this reply tells none, where it is taken as the one to line k
  abbrev pub Quiet : List ℕ → Type 0
  Quiet reply = tells_fault k reply ≡ false

  pub ok_quiet : (n line : ℕ) (j : Json) → Quiet (ok_line n line j)
  ok_quiet n line j = refl

  pub cursor_quiet : (n line : ℕ) (c j : Json) → Quiet (ok_cursor_line n line c j)
  cursor_quiet n line c j = refl

  pub err_quiet : (n line : ℕ) (r : Refusal) → Quiet (err_line n line r)
  err_quiet n line r = refl

  pub fault_quiet : (line : ℕ) (f : InputFault) → Quiet (input_fault_line line f)
  fault_quiet line line_too_long = refl
  fault_quiet line (no_json json_fault.BadJson) = refl
  fault_quiet line (no_json json_fault.TooDeep) = refl
  fault_quiet line (no_json json_fault.TooWide) = refl
  fault_quiet line (no_json json_fault.FloatValue) = refl
  fault_quiet line (no_json json_fault.Memory) = refl
  fault_quiet line (no_line bad_line) = refl
  fault_quiet line (no_line (bad_form f)) = refl

  pub memory_quiet : (line : ℕ) → Quiet (memory_line line)
  memory_quiet line = refl

  -- the reply to a read, and the one that a reading owes
  pub read_quiet : (bs : List Batch) (snapshot line : ℕ) (r : ReadSet) → Quiet (reply_of bs snapshot line r)
  read_quiet bs snapshot line r = read_each Quiet ok_quiet cursor_quiet err_quiet refl bs snapshot line r

  pub owed_quiet : (bs : List Batch) (line : ℕ) (r : Reading) → Quiet (owed_line bs line r)
  owed_quiet bs line r = owed_each Quiet ok_quiet cursor_quiet err_quiet refl bs line r
