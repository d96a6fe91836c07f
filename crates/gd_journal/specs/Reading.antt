-- What is read of a file, one payload after the other.
use Rattle.std.specs.Prelude.{◌≡◌, ◌≢◌, ℕ, ◌+◌, ◌^◌, ◌<◌, ◌≤◌, List, [], ◌∷◌, ◌++◌, length, drop, slice_index, Option, Some, None}
use Rattle.std.specs.Option.{ForSome}
use Rattle.gd_bytes.specs.File.{Version, Payloads}
use Rattle.gd_journal.specs.Meaning.{held_by, located}
use Rattle.gd_journal.specs.Shape.{IsRecord, IsTorn, IsWalked}
use Rattle.gd_journal.specs.Windows.{Shows}
use Rattle.gd_journal.specs.declared.payloads.Payload.{Payload}
use Rattle.gd_journal.specs.declared.window.Window.{Window}
use Rattle.gd_journal.specs.declared.reading.Next.{Next}
use Rattle.gd_journal.specs.declared.reading.Next.TheVariants.{End, Torn, Record}

-- At this gate of a file stands no record, a damaged one, or this payload, behind which stands the next gate.
abbrev pub ComesNext : ℕ → ℕ → List ℕ → Next → Type 0
ComesNext at next file End = slice_index (drop at file) 0 ≢ 1
ComesNext at next file (Torn offset) = IsTorn (drop at file)
ComesNext at next file (Record payload) = IsRecord (drop at file) payload.bytes × (next ≡ at + (length payload.bytes + 5))

-- The offset is that of the gate, and the next gate stands further behind where a payload comes.
abbrev pub Moves : ℕ → ℕ → Next → Type 0
Moves at next End = next ≡ at
Moves at next (Torn offset) = (next ≡ at) × (offset ≡ at)
Moves at next (Record payload) = (at < next) × (payload.offset ≡ at)

-- The window shows a file of this length, in which the next gate stands, unless it is an unfinished creation.
pub record IsReady (content : Option (List ℕ)) (len next : ℕ) (window : Window) : Type 0 where
  pub shows : Shows content window
  pub size : window.len ≡ len
  pub within : 9 < len → next < len
  pub near : len < 2 ^ 64

-- These are the first payloads of a file, with the offsets of their gates, and the next gate has this offset.
abbrev pub IsRead : List (ℕ × List ℕ) → ℕ → List ℕ → Type 0
IsRead read next file = (v : Version) × (ps : List (List ℕ)) × (read ≡ located 8 ps) × (9 < length file → IsWalked v ps next file) × (length file ≤ 9 → ps ≡ [])

-- Some payloads were read of the file that the disk tells.
abbrev pub HasRead : Option (List ℕ) → ℕ → Type 0
HasRead content next = ForSome content (λ file. (read : List (ℕ × List ℕ)) × IsRead read next file)

-- A file holds these payloads, maybe others behind them, and maybe a damaged record.
abbrev pub BeginsWith : List (ℕ × List ℕ) → List ℕ → Type 0
BeginsWith read file = (rest : Payloads) × (held_by file ≡ Some (record { list = read ++ rest.list; damaged = rest.damaged }))

-- Behind these payloads comes this one, of which the next gate has this offset; or there is none, and the first damaged record, if there is one, has this one.
abbrev pub ReadsOn : List (ℕ × List ℕ) → List ℕ → Option ℕ → ℕ → Option Payload → Type 0
ReadsOn read file damaged next None = held_by file ≡ Some (record { list = read; damaged = damaged })
ReadsOn read file damaged next (Some p) = IsRead (read ++ (p.offset, p.bytes) ∷ []) next file × BeginsWith (read ++ (p.offset, p.bytes) ∷ []) file
