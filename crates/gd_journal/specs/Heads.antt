-- What stands at a gate.
use Rattle.std.specs.Prelude.{◌≡◌, ◌≢◌, ℕ, ◌+◌, ◌≤◌, List, length, slice_index, ⊤}
use Rattle.gd_journal.specs.Shape.{IsRecord, IsTorn}
use Rattle.gd_journal.specs.declared.head.Head.{Head}
use Rattle.gd_journal.specs.declared.head.Head.TheVariants.{End, Torn, Record}

-- At the gate that these bytes begin with stands no record, a damaged one, or one whose payload has so many bytes.
abbrev pub HeadIs : List ℕ → Head → Type 0
HeadIs tail End = slice_index tail 0 ≢ 1
HeadIs tail Torn = IsTorn tail
HeadIs tail (Record n) = (p : List ℕ) × (length p ≡ n) × IsRecord tail p

-- A record and the gate behind it end within so many bytes, and its payload is no longer than one may be.
abbrev pub Fits : ℕ → Head → Type 0
Fits room End = ⊤
Fits room Torn = ⊤
Fits room (Record n) = (n + 6 ≤ room) × (1 ≤ n) × (n ≤ 268_435_456)
