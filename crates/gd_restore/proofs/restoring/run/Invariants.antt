use Rattle.std.proofs.Common.{◌≡◌, ◌≤◌, ◌+◌, ◌-◌, ◌^◌, Some, None, length}
use Rattle.std.specs.Option.{is_some}
use Rattle.std.specs.Io.KnownBytes.{prepend_known}
use Rattle.gd_base.specs.Counts.{RoseBy}
use Rattle.gd_dump.specs.declared.stop.RestoreFault.TheVariants as fault
use Rattle.gd_input.specs.Held.{IsBounded}
use Rattle.gd_restore.specs.Gathered.{IsReady, IsReader, Upto, HoldsAs, Tells}
use Rattle.gd_restore.proofs.Reading.{HasTaken}
use Rattle.gd_restore.proofs.restoring.run.Given as goal

abbrev pub invariant-loop-input : goal.invariant-loop-input
invariant-loop-input g l = record {
  ready : IsReady l.gathering;
  reader : IsReader l.text;
  sound : l.text.fault ≡ Some fault.Memory → ⊥;
  taken : HasTaken (g.S.Source.left l.fn.source) (prepend_known l.input.bytes (g.S.Source.left l.source)) l.input.consumed
      (λ seen. (Tells (g.D.Disk.content l.fn.gathering.stored.log.disk) → HoldsAs g.D.Disk.content g.D.Disk.images l.fn.gathering.stored None)
      → Upto g.D.Disk.content g.D.Disk.images l.fn.gathering.stored.batches seen l.gathering l.text);
  given : RoseBy (g.S.Source.given l.fn.source) (g.S.Source.given l.source) (l.input.consumed + length l.input.bytes);
  bounded : IsBounded l.input;
  told : is_some (g.D.Disk.content l.gathering.stored.log.disk) ≡ is_some (g.D.Disk.content l.fn.gathering.stored.log.disk);
  later : g.D.Disk.faults l.fn.gathering.stored.log.disk ≤ g.D.Disk.faults l.gathering.stored.log.disk;
  source_later : g.S.Source.faults l.fn.source ≤ g.S.Source.faults l.source;
}

abbrev pub decreases-loop-input : goal.decreases-loop-input
decreases-loop-input g l = 2 ^ 40 + 4096 - l.input.consumed
