-- What the definition says of the bytes of a line, by the value that they spell.
use Rattle.std.proofs.Common.{◌≡◌, ◌≤◌, ℕ, List, length, false, Ok, Err, refl, nat_lt, arith}
use Rattle.std.proofs.lemmas.Bool.Decides.{nat_tests}
use Rattle.gd_tree.specs.Json.{Json}
use Rattle.gd_json.specs.declared.from.JsonFault.{JsonFault}
use Rattle.gd_json.specs.Reading.{json_from}
use Rattle.gd_runs.specs.Request.{line_of}
use Rattle.gd_runs.specs.Input.{no_json, line_from, as_line}

within : (n : ℕ) → n ≤ 262_144 → nat_lt 262_144 n ≡ false
within n short = grind (arith, nat_tests)
