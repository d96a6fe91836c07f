-- Which answers a call may give, and when.
use Rattle.std.specs.Prelude.{ℕ, ⊤}
use Rattle.gd_base.specs.Counts.{Rose}
use Rattle.gd_journal.specs.declared.fault.JournalFault.{JournalFault}
use Rattle.gd_journal.specs.declared.fault.JournalFault.TheVariants.{DiskFault, NotStore, Damaged, Memory}

-- A fault of a journal that is open: one of the disk comes only where the disk's count rose, and memory may be wanting.
abbrev pub HasReason : ℕ → ℕ → JournalFault → Type 0
HasReason before now DiskFault = Rose before now
HasReason before now NotStore = ⊥
HasReason before now (Damaged offset) = ⊥
HasReason before now Memory = ⊤

-- A fault of a journal that is being opened: damage is no such fault, and it may also be no store.
abbrev pub MayRefuse : ℕ → ℕ → JournalFault → Type 0
MayRefuse before now DiskFault = Rose before now
MayRefuse before now NotStore = ⊤
MayRefuse before now (Damaged offset) = ⊥
MayRefuse before now Memory = ⊤
