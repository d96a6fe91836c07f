-- Rounds of the input.
use Rattle.std.specs.Prelude.{◌≡◌, ℕ, ◌+◌, List, [], ◌∷◌, ◌++◌, map, true, false, ⊤}
use Rattle.gd_runs.specs.Explained.{Numbered, pieces, numbered}
use Rattle.gd_input.specs.declared.line.RoundLine.{RoundLine}
use Rattle.gd_input.specs.declared.round.Round.{Round}
use Rattle.gd_input.specs.Line.{IsKept}
use Rattle.gd_input.specs.Taken.{whole_rounds}

-- each line is kept, or told as too long
abbrev pub AreKept : List RoundLine → List (List ℕ) → Type 0
AreKept [] [] = ⊤
AreKept (l ∷ ls) (line ∷ lines) = IsKept 262_144 l line × AreKept ls lines
AreKept _ _ = ⊥

-- lines with the number of their round
abbrev pub in_round : ℕ → List (List ℕ) → List Numbered
in_round round lines = map (λ line. record { bytes = line; round = round }) lines

-- these bytes were taken, and no round lies wholly in them
pub record StopsInRound (before after : List ℕ) : Type 0 where
  pub bytes : List ℕ
  pub parts : before ≡ bytes ++ after
  pub none : whole_rounds bytes ≡ 0

-- What was left begins with the lines of this round, and goes on with the rounds of what is left now. It ended where nothing is left; else what was taken is one whole round, whatever follows.
pub record TakesRound (taken : Round) (before after : List ℕ) : Type 0 where
  pub bytes : List ℕ
  pub parts : before ≡ bytes ++ after
  pub whole : taken.ended ≡ false → (more : List ℕ) → whole_rounds (bytes ++ more) ≡ 1 + whole_rounds more
  pub lines : List (List ℕ)
  pub kept : AreKept taken.lines.items lines
  pub rounds : (round : ℕ) → numbered round 0 (pieces [] before) ≡ in_round round lines ++ numbered (round + 1) 0 (pieces [] after)
  pub ended : taken.ended ≡ true → after ≡ []
