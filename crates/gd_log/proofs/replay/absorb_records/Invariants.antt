use Rattle.std.proofs.Common.{◌≡◌, ◌-◌, ◌≤◌, [], List, ℕ, Some}
use Rattle.std.specs.Option.{ForSome}
use Rattle.gd_bytes.specs.Disk.{IsUntouched}
use Rattle.gd_bytes.specs.File.{is_marked}
use Rattle.gd_journal.specs.Meaning.{HasVersion}
use Rattle.gd_journal.specs.Reading.{IsRead}
use Rattle.std.specs.List.{AllByRecursion}
use Rattle.gd_log.specs.Stored.{IsEarly}
use Rattle.gd_log.specs.Groups.{AreGroups}
use Rattle.gd_log.specs.Opening.{bytes_of}
use Rattle.gd_log.proofs.replay.absorb_records.Given as goal

abbrev pub invariant-loop-opening : goal.invariant-loop-opening
invariant-loop-opening g l = record {
  begins : ForSome (g.D.Disk.content l.fn.opening.disk) (λ file. HasVersion l.fn.opening.version file);
  read : (file : List ℕ) → g.D.Disk.content l.fn.opening.disk ≡ Some file → (read : List (ℕ × List ℕ)) × IsRead read l.opening.next file × AreGroups (is_marked l.fn.opening.version) [] (bytes_of read) l.marked l.store;
  version : l.opening.version ≡ l.fn.opening.version;
  untouched : IsUntouched g.D.Disk.content g.D.Disk.moment g.D.Disk.images g.D.Disk.images_since l.fn.opening.disk l.opening.disk;
  faults : g.D.Disk.faults l.fn.opening.disk ≤ g.D.Disk.faults l.opening.disk;
  early : AllByRecursion IsEarly l.store;
}

abbrev pub decreases-loop-opening : goal.decreases-loop-opening
decreases-loop-opening g l = l.opening.len - l.opening.next
