-- The sessions of a store that has just been opened.
use Rattle.std.specs.Prelude.{◌≡◌}
use Rattle.gd_held.specs.Held.{nothing}
use Rattle.gd_sessions.specs.declared.held.Held.{Held}

-- a session that has seen nothing, and holds nothing
abbrev pub IsNew : Held → Type 0
IsNew h = h ≡ record { seen = 0; state = nothing }
