use Rattle.std.proofs.Common.{◌≡◌, List, map, take}
use Rattle.std.specs.Prelude.{All}
use Rattle.gd_prim.specs.declared.Batch.{Batch}
use Rattle.gd_read.specs.Several.{part_request, text_among, PartGoes}
use Rattle.gd_read.proofs.several.texts_of.Given as goal

abbrev pub invariant-loop-part : goal.invariant-loop-part
invariant-loop-part l = (batches : List Batch) → All (PartGoes batches) l.parts → map (λ t. t.now) l.texts.items ≡ map (λ part. text_among batches (part_request part)) (take l.part-index l.parts)
