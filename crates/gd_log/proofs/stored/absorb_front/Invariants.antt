use Rattle.std.proofs.Common.{◌≡◌, ◌++◌, length, take, true}
use Rattle.gd_prim.specs.History.{prims_of}
use Rattle.gd_prim.specs.WellFormed.{all_follow}
use Rattle.gd_log.proofs.stored.absorb_front.Given as goal

abbrev pub invariant-loop-batch : goal.invariant-loop-batch
invariant-loop-batch l = record {
  count : l.taken ≡ l.batch-index;
  follow : all_follow (prims_of l.initial.store) (length l.initial.store) (take l.batch-index l.batches) ≡ true;
  is : l.store ≡ l.initial.store ++ take l.batch-index l.batches;
}
