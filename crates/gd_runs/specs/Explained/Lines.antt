-- The lines of an input, and the rounds that they stand in.
use Rattle.std.specs.Prelude.{ℕ, ◌+◌, List, [], ◌∷◌, ◌++◌, ◌==◌, if◌then◌else◌}

-- a line that is not blank: its bytes, and the round that it stands in
pub record Numbered : Type 0 where
  pub bytes : List ℕ
  pub round : ℕ

-- the bytes of a line without one carriage return at their end
abbrev pub without_return : List ℕ → List ℕ
without_return [] = []
without_return (c ∷ []) = if c == 13 then [] else c ∷ []
without_return (c ∷ d ∷ cs) = c ∷ without_return (d ∷ cs)

-- the pieces of an input between newlines, behind a piece that has begun; at the end of the input no carriage return is dropped
abbrev pub pieces : List ℕ → List ℕ → List (List ℕ)
pieces piece [] = piece ∷ []
pieces piece (c ∷ input) = if c == 10 then without_return piece ∷ pieces [] input else pieces (piece ++ c ∷ []) input

-- the greatest number of lines in a round
abbrev pub max_round : ℕ
max_round = 256

-- the pieces that are not blank, each with its round, where so many lines of the present round are taken already: a blank line ends a round, and so does its 256th line
abbrev pub numbered : ℕ → ℕ → List (List ℕ) → List Numbered
numbered round in_round [] = []
numbered round in_round ([] ∷ ps) = numbered (round + 1) 0 ps
numbered round in_round ((c ∷ cs) ∷ ps) = record { bytes = c ∷ cs; round = round } ∷
    (if in_round + 1 == max_round then numbered (round + 1) 0 ps else numbered round (in_round + 1) ps)

-- the lines of an input that are not blank, in order: line k is the k-th, counted from 0
abbrev pub lines_of : List ℕ → List Numbered
lines_of input = numbered 0 0 (pieces [] input)
