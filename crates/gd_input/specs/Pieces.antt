-- Pieces of the input, which end at a newline or at the input's end.
use Rattle.std.specs.Prelude.{◌≡◌, ℕ, ◌+◌, List, [], ◌∷◌, ◌++◌, length, take, drop, Bool, true, false, ◌==◌, if◌then◌else◌, Option, None, Some, ⊤}
use Rattle.std.specs.List.{AllByRecursion}
use Rattle.std.specs.Io.KnownBytes.{Consumes}
use Rattle.gd_runs.specs.Explained.{pieces}
use Rattle.gd_input.specs.declared.line.RoundLine.{RoundLine}
use Rattle.gd_input.specs.declared.piece.Piece.{Piece}
use Rattle.gd_input.specs.Held.{Held}
use Rattle.gd_input.specs.Line.{IsKept}
use Rattle.gd_input.specs.Taken.{ended_lines}

-- no byte is a newline
abbrev pub IsPlain : List ℕ → Type 0
IsPlain bytes = AllByRecursion (λ c. (c == 10) ≡ false) bytes

-- the first newline stands behind so many bytes
pub record IsFirstNewline (bytes : List ℕ) (n : ℕ) : Type 0 where
  pub before : IsPlain (take n bytes)
  pub parts : bytes ≡ take n bytes ++ 10 ∷ drop (n + 1) bytes

-- the held bytes up to a newline, and that newline, or all of them went to a line that has begun, which is kept within a limit
pub record TakesChunk (limit : ℕ) (old new : Held) (begun : RoundLine) (piece : Piece) : Type 0 where
  pub chunk : List ℕ
  pub plain : IsPlain chunk
  pub kept : (line : List ℕ) → IsKept limit begun line → IsKept limit piece.line (line ++ chunk)
  pub parts : old.bytes ≡ chunk ++ (if piece.by_newline then 10 ∷ new.bytes else new.bytes)
  pub all : piece.by_newline ≡ false → new.bytes ≡ []
  pub counted : new.consumed + length new.bytes ≡ old.consumed + length old.bytes

-- known bytes stay known, and this holds of them
abbrev pub Known : Option (List ℕ) → Option (List ℕ) → (List ℕ → List ℕ → Type 0) → Type 0
Known None new P = ⊤
Known (Some before) None P = ⊥
Known (Some before) (Some after) P = P before after

-- bytes were taken off the front of what was left, where that is known, and were counted
pub record Advances (old new : Option (List ℕ)) (m n : ℕ) : Type 0 where
  pub bytes : List ℕ
  pub consumed : Consumes old new bytes
  pub counted : n ≡ m + length bytes

-- these bytes were taken, and end no line
pub record StopsInLine (before after : List ℕ) : Type 0 where
  pub bytes : List ℕ
  pub plain : IsPlain bytes
  pub parts : before ≡ bytes ++ after

-- the pieces that follow one that was ended by a newline or not
abbrev pub later_pieces : Bool → List ℕ → List (List ℕ)
later_pieces by_newline left = if by_newline then pieces [] left else []

-- The first piece of what was left is this line, which is kept within a limit, and the others are those of what is left now. Where a newline ended it, it is the first line of what was taken, whatever follows.
pub record TakesPieceWithin (limit : ℕ) (piece : Piece) (before after : List ℕ) : Type 0 where
  pub line : List ℕ
  pub bytes : List ℕ
  pub parts : before ≡ bytes ++ after
  pub whole : piece.by_newline ≡ true → (more : List ℕ) → ended_lines [] (bytes ++ more) ≡ line ∷ ended_lines [] more
  pub kept : IsKept limit piece.line line
  pub first : pieces [] before ≡ line ∷ later_pieces piece.by_newline after
  pub ended : piece.by_newline ≡ false → after ≡ []

-- the same within the bytes of a line
abbrev pub TakesPiece : Piece → List ℕ → List ℕ → Type 0
TakesPiece piece before after = TakesPieceWithin 262_144 piece before after
