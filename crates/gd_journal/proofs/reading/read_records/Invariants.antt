use Rattle.std.proofs.Common.{◌≡◌, ◌-◌, ◌≤◌, List, ℕ, Some}
use Rattle.gd_bytes.specs.Disk.{IsUntouched}
use Rattle.gd_journal.specs.Found.{seen}
use Rattle.gd_journal.specs.Reading.{IsReady, IsRead}
use Rattle.gd_journal.proofs.reading.read_records.Given as goal

abbrev pub invariant-loop-records : goal.invariant-loop-records
invariant-loop-records g l = record {
  ready : IsReady (g.D.Disk.content l.disk) l.len l.records.at l.records.window;
  read : (file : List ℕ) → g.D.Disk.content l.fn.disk ≡ Some file → IsRead (seen l.list.items) l.records.at file;
  untouched : IsUntouched g.D.Disk.content g.D.Disk.moment g.D.Disk.images g.D.Disk.images_since l.fn.disk l.disk;
  faults : g.D.Disk.faults l.fn.disk ≤ g.D.Disk.faults l.disk;
}

abbrev pub decreases-loop-records : goal.decreases-loop-records
decreases-loop-records g l = l.len - l.records.at
