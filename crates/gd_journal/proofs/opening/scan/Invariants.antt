use Rattle.std.proofs.Common.{◌≡◌, ◌-◌, ◌<◌, ◌≤◌, List, ℕ, Some}
use Rattle.gd_bytes.specs.Disk.{IsUntouched}
use Rattle.gd_journal.specs.Meaning.{marked_by}
use Rattle.gd_journal.specs.Shape.{IsWalked}
use Rattle.gd_journal.specs.Versions.{version_seen}
use Rattle.gd_journal.specs.Windows.{Shows}
use Rattle.gd_journal.proofs.opening.scan.Given as goal

abbrev pub invariant-loop-window : goal.invariant-loop-window
invariant-loop-window g l = record {
  within : l.gate < l.len;
  walked : (file : List ℕ) → g.D.Disk.content l.fn.disk ≡ Some file → (ps : List (List ℕ)) × IsWalked (version_seen l.version) ps l.gate file × (l.marked ≡ marked_by (version_seen l.version) ps);
  shows : Shows (g.D.Disk.content l.disk) l.window;
  len : l.window.len ≡ l.len;
  untouched : IsUntouched g.D.Disk.content g.D.Disk.moment g.D.Disk.images g.D.Disk.images_since l.fn.disk l.disk;
  faults : g.D.Disk.faults l.fn.disk ≤ g.D.Disk.faults l.disk;
}

abbrev pub decreases-loop-window : goal.decreases-loop-window
decreases-loop-window g l = l.len - l.gate
