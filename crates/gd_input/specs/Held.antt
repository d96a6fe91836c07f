-- What a reader holds of its input.
use Rattle.std.specs.Prelude.{ℕ, ◌+◌, ◌-◌, ◌^◌, ◌<◌, ◌≤◌, List, length}
use Rattle.gd_base.specs.Counts.{RoseBy}

-- the bytes that are held, and how many bytes of the input stood before them
pub record Held : Type 0 where
  pub bytes : List ℕ
  pub consumed : ℕ

-- at most one buffer of bytes is held, and the input that was taken is bounded
pub record IsBounded (held : Held) : Type 0 where
  pub buffered : length held.bytes ≤ 4096
  pub taken : held.consumed + length held.bytes < 2 ^ 40 + 4096

-- where the held bytes lie in the buffer
pub record IsWithin (start end consumed : ℕ) : Type 0 where
  pub ordered : start ≤ end
  pub fits : end ≤ 4096
  pub bound : consumed + (end - start) < 2 ^ 40 + 4096

-- what a reader passed or holds stays counted by its source, from any moment on since which it was
abbrev pub CountsOn : Held → ℕ → Held → ℕ → Type 0
CountsOn old given_old new given_new = (before : ℕ) → RoseBy before given_old (old.consumed + length old.bytes) → RoseBy before given_new (new.consumed + length new.bytes)
