-- What was read, in the words of the definitions.
use Rattle.std.specs.Prelude.{ℕ, List, map}
use Rattle.gd_bytes.specs.File.{Payloads}
use Rattle.gd_journal.specs.declared.payloads.Payload.{Payload}
use Rattle.gd_journal.specs.declared.payloads.Payloads.{Payloads as Found}

-- Payloads with the offsets of their gates.
abbrev pub seen : List Payload → List (ℕ × List ℕ)
seen list = map (λ (p : Payload). (p.offset, p.bytes)) list

-- What was read, as the payloads of a file.
abbrev pub found_in : Found → Payloads
found_in found = record { list = seen found.list; damaged = found.damaged }
