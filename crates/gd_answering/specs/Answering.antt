-- Lines that are answered one after another, by what answers them: a relation of what it was, the number of a line, its bytes, the reply, and what it is then.
use Rattle.std.specs.Prelude.{◌≡◌, ℕ, ◌+◌, List, [], ◌∷◌, ◌++◌, take, Option}
use Rattle.std.specs.Io.KnownBytes.{Appends}
use Rattle.gd_runs.specs.Explained.{Numbered, lines_of}

-- lines, the first of them line k, are replied to one after another, each by a line: what answers was so before, and is so after
abbrev pub Replies : {A : Type 0} → (A → ℕ → List ℕ → List ℕ → A → Type 0) → A → ℕ → List Numbered → List ℕ → A → Type 0
Replies answers before k [] output after = (output ≡ []) × (after ≡ before)
Replies {A = A} answers before k (l ∷ ls) output after = (reply : List ℕ) × (next : A) × (rest : List ℕ)
    × answers before k l.bytes reply next × (output ≡ reply ++ 10 ∷ rest) × Replies answers next (k + 1) ls rest after

-- the sink gained what all lines of the input are replied
pub record AnswersAll {A : Type 0} (answers : A → ℕ → List ℕ → List ℕ → A → Type 0) (before after : A) (old new : Option (List ℕ)) (input : List ℕ) : Type 0 where
  pub output : List ℕ
  pub replies : Replies answers before 0 (lines_of input) output after
  pub gained : Appends old new output

-- the sink gained what the first so many lines of the input are replied
pub record AnswersTaken {A : Type 0} (answers : A → ℕ → List ℕ → List ℕ → A → Type 0) (before after : A) (old new : Option (List ℕ)) (input : List ℕ) : Type 0 where
  pub taken : ℕ
  pub output : List ℕ
  pub replies : Replies answers before 0 (take taken (lines_of input)) output after
  pub gained : Appends old new output

-- the sink gained a front of what the first so many lines of the input are replied
pub record AnswersFront {A : Type 0} (answers : A → ℕ → List ℕ → List ℕ → A → Type 0) (before after : A) (old new : Option (List ℕ)) (input : List ℕ) : Type 0 where
  pub taken : ℕ
  pub output : List ℕ
  pub rest : List ℕ
  pub replies : Replies answers before 0 (take taken (lines_of input)) (output ++ rest) after
  pub gained : Appends old new output

-- what answers was made so by some lines
pub record Reaches {A : Type 0} (answers : A → ℕ → List ℕ → List ℕ → A → Type 0) (before after : A) : Type 0 where
  pub lines : List Numbered
  pub output : List ℕ
  pub replies : Replies answers before 0 lines output after
