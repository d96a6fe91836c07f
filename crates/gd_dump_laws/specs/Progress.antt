-- How far a dump was read, and what the next line makes of it.
use Rattle.std.specs.Prelude.{ℕ, ◌^◌, ◌<◌, ◌≤◌, List, [], ◌∷◌, ◌++◌, length, flat_map, Option, Some, None, Ok, Err, ◌==◌, nat_le, if◌then◌else◌}
use Rattle.std.specs.List.{AllByRecursion}
use Rattle.gd_prim.specs.declared.Primitive.{Primitive}
use Rattle.gd_prim.specs.declared.Batch.{Batch}
use Rattle.gd_prim.specs.WellFormed.{max_moment}
use Rattle.gd_grammar.specs.Chain.{◌>>=◌}
use Rattle.gd_grammar.specs.Grammar.{Reads}
use Rattle.gd_dump_laws.specs.Dump.{prim_line, batch_head, batch_text, dump_head, dump_end, PrimitiveFits, BatchFits}
use Rattle.gd_dump_laws.specs.Reading.{choice, head_at, batch_at, end_at, prim_at}

-- Where reading stands: nothing was read; between two batches; in a batch of this moment, of whose so many primitives these were read and some are to come; behind the last line.
pub data Progress : Type 0 where
  opening : Progress
  between : (first : ℕ) (batches : List Batch) → Progress
  within : (first : ℕ) (batches : List Batch) (moment count : ℕ) (prims : List Primitive) → Progress
  closed : (first : ℕ) (batches : List Batch) → Progress

-- the batches that are whole
abbrev pub whole_batches : Progress → List Batch
whole_batches opening = []
whole_batches (between first batches) = batches
whole_batches (within first batches moment count prims) = batches
whole_batches (closed first batches) = batches

-- the first number, where it was read
abbrev pub first_number : Progress → Option ℕ
first_number opening = None
first_number (between first batches) = Some first
first_number (within first batches moment count prims) = Some first
first_number (closed first batches) = Some first

-- the text that was read
abbrev pub consumed : Progress → List ℕ
consumed opening = []
consumed (between first batches) = dump_head first ++ flat_map batch_text batches
consumed (within first batches moment count prims) = dump_head first ++ flat_map batch_text batches ++ batch_head moment count ++ flat_map prim_line prims
consumed (closed first batches) = dump_head first ++ flat_map batch_text batches ++ dump_end (length batches)

-- behind the first line of a batch
abbrev pub opened : ℕ → List Batch → ℕ → ℕ → Progress
opened first batches moment count = if count == 0 then between first (batches ++ record { moment = moment; prims = [] } ∷ []) else within first batches moment count []

-- behind the line of a primitive, where these were read of the batch
abbrev pub added : ℕ → List Batch → ℕ → ℕ → List Primitive → Progress
added first batches moment count prims = if nat_le count (length prims) then between first (batches ++ record { moment = moment; prims = prims } ∷ []) else within first batches moment count prims

-- reads the first line of the next batch
unfoldable pub next_batch_at : ℕ → List Batch → List ℕ → Reads Progress
next_batch_at first batches bytes = batch_at bytes >>= λ b. Ok (opened first batches b.0.0 b.0.1, b.1)

-- reads the last line
unfoldable pub last_at : ℕ → List Batch → List ℕ → Reads Progress
last_at first batches bytes = end_at (length batches) bytes >>= λ u. Ok (closed first batches, u.1)

-- reads the next line: where reading stands behind it, and the bytes after it
unfoldable pub step_at : Progress → List ℕ → Reads Progress
step_at opening bytes = head_at bytes >>= λ f. Ok (between f.0 [], f.1)
step_at (between first batches) bytes = choice (λ c. c == 98) (next_batch_at first batches) (last_at first batches) bytes
step_at (within first batches moment count prims) bytes = prim_at moment bytes >>= λ p. Ok (added first batches moment count (prims ++ p.0 ∷ []), p.1)
step_at (closed first batches) bytes = Err bytes

-- what was read has lines
abbrev pub Read : Progress → Type 0
Read opening = Unit {0}
Read (between first batches) = (first < 2 ^ 32) × AllByRecursion BatchFits batches
Read (within first batches moment count prims) = ((first < 2 ^ 32) × AllByRecursion BatchFits batches) × ((moment ≤ max_moment) × (count ≤ 4096) × (length prims < count) × AllByRecursion (PrimitiveFits moment) prims)
Read (closed first batches) = (first < 2 ^ 32) × AllByRecursion BatchFits batches
