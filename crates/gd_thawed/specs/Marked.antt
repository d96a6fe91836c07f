-- What a page printed.
use Rattle.std.specs.Prelude.{ℕ, List, Result, Ok, Err, Vec}
use Rattle.std.specs.declared.alloc.Global.{Global}
use Rattle.gd_fault.specs.declared.fault.Path.{Path}
use Rattle.gd_defs.specs.Reply as reply

-- the text of what was printed, or the path of two answers
abbrev pub printed_view : Result (Vec ℕ Global) Path → Result (List ℕ) reply.Path
printed_view (Ok text) = Ok text.items
printed_view (Err path) = Err path
