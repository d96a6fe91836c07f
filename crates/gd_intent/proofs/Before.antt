-- The state before a write.
use Rattle.std.proofs.Common.{◌≡◌, List, [], ◌++◌, take, length, ap, ◌∙◌}
use Rattle.std.proofs.lemmas.List.{append-nil}
use Rattle.std.proofs.Math.Seq.{take-length}
use Rattle.gd_prim.specs.declared.Batch.{Batch}
use Rattle.gd_prim.specs.History.{prims_of}

-- all batches, and nothing behind them
pub all_before : (batches : List Batch) → prims_of (take (length batches) batches) ++ [] ≡ prims_of batches
all_before batches = append-nil (prims_of (take (length batches) batches)) ∙ ap prims_of (take-length batches)
