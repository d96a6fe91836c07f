-- Cursors of the code, and why bytes are none.
use Rattle.std.specs.Prelude.{◌≡◌, ℕ, List, Result, Err}
use Rattle.gd_bytes.specs.Cursor as defined
use Rattle.gd_frozen.specs.declared.cursor.Cursor.{Cursor}
use Rattle.gd_frozen.specs.declared.stop.FrozenFault.{FrozenFault}
use Rattle.gd_frozen.specs.declared.stop.FrozenFault.TheVariants as fault

-- a cursor as the definitions have it
abbrev pub meant : Cursor → defined.Cursor
meant c = record { dateline = c.dateline; after = record { object = c.object; keys = c.keys } }

-- bytes are refused where they are the text of no cursor, with how many of them begin one; memory is not wanted
abbrev pub IsCause : List ℕ → FrozenFault → Type 0
IsCause bytes (fault.BadFrozen offset) = defined.IsBadCursorAt bytes offset
IsCause bytes fault.Memory = ⊥

-- the refusal is the one that reading on lists gives
abbrev pub Refuses : FrozenFault → Result defined.Cursor ℕ → Type 0
Refuses (fault.BadFrozen offset) found = found ≡ Err offset
Refuses fault.Memory found = ⊥
