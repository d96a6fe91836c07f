-- When a number has all that the writes of a session told a read.
use Rattle.std.specs.Prelude.{◌≡◌, ◌<◌, ℕ, List, Some}
use Rattle.std.specs.List.{AllByRecursion}
use Rattle.gd_tree.specs.Json.{Json}
use Rattle.gd_runs.specs.Side.{Told, kept_stored}
use Rattle.gd_core_laws.specs.Bounds.{kept_of}
use Rattle.gd_round_lines.specs.declared.work.ReadLine.{ReadLine}
use Rattle.gd_round_lines.specs.declared.work.WriteLine.{WriteLine}

-- a number is greater than the entry of a write, where it is one of the read's session before it that was stored
abbrev pub FollowsWrite : List Told → ReadLine → ℕ → WriteLine → Type 0
FollowsWrite outs r at w = w.line < r.line → w.session ≡ r.session → (e : ℕ) (reply : Json) → kept_of outs w.line ≡ Some (kept_stored e reply) → e < at

-- so it is of all these writes
abbrev pub FollowsWrites : List Told → ReadLine → ℕ → List WriteLine → Type 0
FollowsWrites outs r at writes = AllByRecursion (FollowsWrite outs r at) writes
