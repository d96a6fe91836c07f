-- Numbers that look random, one after another.
use Rattle.std.specs.Prelude.{ℕ, ◌+◌, ◌*◌, ◌/◌, ◌%◌, ◌^◌}

-- the number behind a number
unfoldable pub following : ℕ → ℕ
following x = (x * 1664525 + 1013904223) % 2 ^ 32

-- the draw that a number gives: its upper 16 bits
unfoldable pub draw : ℕ → ℕ
draw x = x / 2 ^ 16
