-- What is known after one call.
use Rattle.gd_iter_core.specs.declared.turn.Turn.{Turn}
use Rattle.gd_iter_core.specs.declared.turn.Turn.TheVariants as turn

-- a place is given, or there is none
abbrev pub IsKnown : Turn → Type 0
IsKnown (turn.Found id) = Unit {0}
IsKnown turn.Done = Unit {0}
IsKnown turn.Unfinished = ⊥
