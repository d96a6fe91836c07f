-- How many steps beginning a read takes at most.
use Rattle.std.specs.Prelude.{ℕ, List, length, Option, Result, Ok, Err}
use Rattle.gd_prim.specs.declared.Primitive.{Primitive}
use Rattle.gd_prim.specs.declared.Batch.{Batch}
use Rattle.gd_prim.specs.History.{prims_of, prims_at}
use Rattle.gd_defs.specs.Lines.{Refusal}
use Rattle.gd_bytes.specs.Cursor.{Cursor}
use Rattle.gd_runs.specs.Pace.{begin_steps, begin_all_steps}
use Rattle.gd_runs.specs.Request.{ReadSet, one_query, queries}
use Rattle.gd_read.specs.Begun.{asked_from, dateline_from}

-- the primitives over which a query begins: those below the dateline of its cursor, or else all; of a cursor that is refused all
abbrev pub start_prims : List Batch → Result (Option Cursor) (ℕ × Refusal) → List Primitive
start_prims batches (Ok after) = prims_at batches (dateline_from (length batches) after)
start_prims batches (Err f) = prims_of batches

-- the bound on beginning a read: that of its query over the primitives over which it begins, or of its queries together over all
abbrev pub start_steps : List Batch → ReadSet → ℕ
start_steps batches (one_query r) = begin_steps (start_prims batches (asked_from (length batches) r.cursor)) r.query
start_steps batches (queries rs) = begin_all_steps (prims_of batches) rs
