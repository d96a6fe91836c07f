use Rattle.std.proofs.Common.{◌≡◌, ◌++◌, length, drop}
use Rattle.gd_prim.specs.History.{prims_of}
use Rattle.gd_prim.specs.WellFormed.{all_follow}
use Rattle.gd_log.proofs.replay.absorb_all.Given as goal

abbrev pub invariant-loop-batch : goal.invariant-loop-batch
invariant-loop-batch l = record {
  follow : all_follow (prims_of l.store) (length l.store) (drop l.batch-index l.batches) ≡ all_follow (prims_of l.initial.store) (length l.initial.store) l.batches;
  more : l.store ++ drop l.batch-index l.batches ≡ l.initial.store ++ l.batches;
}
