-- What lines and pieces of the input come to, on the way to its end.
use Rattle.std.specs.Prelude.{◌≡◌, ℕ, ◌+◌, List, [], ◌∷◌, ◌++◌, length, Option}
use Rattle.std.specs.Io.KnownBytes.{Appends}
use Rattle.gd_runs.specs.Explained.{Numbered, pieces, numbered, lines_of}
use Rattle.gd_outside.specs.Gains.{GainsFront}
use Rattle.gd_answering.specs.Answering.{Replies}

-- the sink gained the reply to line k
pub record LinePrints {A : Type 0} (answers : A → ℕ → List ℕ → List ℕ → A → Type 0) (before : A) (k : ℕ) (bytes : List ℕ) (after : A) (old new : Option (List ℕ)) : Type 0 where
  pub reply : List ℕ
  pub line : answers before k bytes reply after
  pub gained : Appends old new (reply ++ 10 ∷ [])

-- the sink gained a front of the reply to line k
pub record LineFront {A : Type 0} (answers : A → ℕ → List ℕ → List ℕ → A → Type 0) (before : A) (k : ℕ) (bytes : List ℕ) (after : A) (old new : Option (List ℕ)) : Type 0 where
  pub reply : List ℕ
  pub line : answers before k bytes reply after
  pub front : GainsFront old new (reply ++ 10 ∷ [])

-- the lines that a piece of the input is: none where it is blank
abbrev pub lines_at : ℕ → List ℕ → List Numbered
lines_at round [] = []
lines_at round (c ∷ cs) = record { bytes = c ∷ cs; round = round } ∷ []

-- a piece of the input, at line k if it is not blank, is replied to
abbrev pub PieceReplies : {A : Type 0} → (A → ℕ → List ℕ → List ℕ → A → Type 0) → A → ℕ → List ℕ → List ℕ → A → Type 0
PieceReplies answers before k piece output after = (round : ℕ) → Replies answers before k (lines_at round piece) output after

-- the sink gained what a piece of the input is replied, and the next line is line n
pub record PiecePrints {A : Type 0} (answers : A → ℕ → List ℕ → List ℕ → A → Type 0) (before : A) (k : ℕ) (piece : List ℕ) (after : A) (n : ℕ) (old new : Option (List ℕ)) : Type 0 where
  pub output : List ℕ
  pub replies : PieceReplies answers before k piece output after
  pub many : n ≡ k + length (lines_at 0 piece)
  pub gained : Appends old new output

-- the sink gained a front of what a piece of the input is replied
pub record PieceFront {A : Type 0} (answers : A → ℕ → List ℕ → List ℕ → A → Type 0) (before : A) (k : ℕ) (piece : List ℕ) (after : A) (old new : Option (List ℕ)) : Type 0 where
  pub output : List ℕ
  pub rest : List ℕ
  pub replies : PieceReplies answers before k piece (output ++ rest) after
  pub gained : Appends old new output

-- the sink gained what these lines are replied, and the next line is line k
pub record RunsOf {A : Type 0} (answers : A → ℕ → List ℕ → List ℕ → A → Type 0) (before now : A) (old new : Option (List ℕ)) (k : ℕ) (given : List Numbered) : Type 0 where
  pub output : List ℕ
  pub replies : Replies answers before 0 given output now
  pub many : k ≡ length given
  pub gained : Appends old new output

-- there are some lines of which the sink gained what they are replied, and the next line is line k
pub record RunsOn {A : Type 0} (answers : A → ℕ → List ℕ → List ℕ → A → Type 0) (before now : A) (old new : Option (List ℕ)) (k : ℕ) : Type 0 where
  pub given : List Numbered
  pub runs : RunsOf answers before now old new k given

-- the sink gained what the lines of the input are replied that stand before what is left of it, and the next line is line k
pub record RunsUpto {A : Type 0} (answers : A → ℕ → List ℕ → List ℕ → A → Type 0) (before now : A) (old new : Option (List ℕ)) (k : ℕ) (input left : List ℕ) : Type 0 where
  pub round : ℕ
  pub in_round : ℕ
  pub given : List Numbered
  pub lines : lines_of input ≡ given ++ numbered round in_round (pieces [] left)
  pub runs : RunsOf answers before now old new k given
