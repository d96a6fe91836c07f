-- The mark of a cursor, and what a page printed.
use Rattle.std.specs.Prelude.{ℕ, List, Option, option_map, Result, Ok, Err, Vec}
use Rattle.std.specs.declared.alloc.Global.{Global}
use Rattle.gd_grammar.specs.Mark.{Mark}
use Rattle.gd_fault.specs.declared.fault.Path.{Path}
use Rattle.gd_defs.specs.Reply as reply
use Rattle.gd_frozen.specs.declared.cursor.Cursor.{Cursor}
use Rattle.gd_frozen.specs.Meant.{meant}

-- the mark of a cursor
abbrev pub mark_of : Option Cursor → Option Mark
mark_of after = option_map (λ c. (meant c).after) after

-- the text of what was printed, or the path of two answers
abbrev pub printed_view : Result (Vec ℕ Global) Path → Result (List ℕ) reply.Path
printed_view (Ok text) = Ok text.items
printed_view (Err path) = Err path
