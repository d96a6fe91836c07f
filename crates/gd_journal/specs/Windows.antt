-- A block of a file.
use Rattle.std.specs.Prelude.{◌≡◌, ℕ, List, length, Option}
use Rattle.std.specs.Option.{ForSome}
use Rattle.gd_bytes.specs.Disk.{part}
use Rattle.gd_journal.specs.declared.window.Window.{Window}

-- The window knows how long the file is, and has its bytes from an offset on, as many as were asked for once.
abbrev pub Shows : Option (List ℕ) → Window → Type 0
Shows content window = ForSome content (λ file. (size : ℕ) × (window.bytes ≡ part window.at size file) × (window.len ≡ length file))
