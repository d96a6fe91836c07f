use Rattle.std.proofs.Common.{◌≡◌, ◌≤◌, ◌++◌, List, length, take}
use Rattle.std.specs.Option.{is_some}
use Rattle.gd_prim.specs.declared.Batch.{Batch}
use Rattle.gd_restore.specs.Gathered.{Gathers, IsReady}
use Rattle.gd_restore.proofs.gathering.Gathering.gather_all.Given as goal

abbrev pub invariant-loop-batch : goal.invariant-loop-batch
invariant-loop-batch g l = record {
  ready : IsReady l.self;
  gathers : (list before : List Batch) → Gathers g.D.Disk.content g.D.Disk.images list before l.fn.self → Gathers g.D.Disk.content g.D.Disk.images list (before ++ take (length l.yielded) l.fn.batches.items) l.self;
  told : is_some (g.D.Disk.content l.self.stored.log.disk) ≡ is_some (g.D.Disk.content l.fn.self.stored.log.disk);
  later : g.D.Disk.faults l.fn.self.stored.log.disk ≤ g.D.Disk.faults l.self.stored.log.disk;
}
