-- The lines of an input, the rounds that they stand in, and how long a line may be.
use Rattle.std.proofs.Common.{◌≡◌, Err, false, length, nat_lt, refl, ℕ, List, [], ◌∷◌, ◌++◌, codes, replicate, flat_map, map}
use Rattle.gd_runs.specs.Explained.{lines_of}
use Rattle.gd_runs.specs.Input.{max_line, line_from, line_too_long}

abbrev told : List ℕ → List (List ℕ × ℕ)
told input = map (λ l. (l.bytes, l.round)) (lines_of input)

pub no_input : told [] ≡ []
no_input = refl

-- one carriage return before a newline is dropped, none at the end of input
pub returns : told (codes "a" ++ 13 ∷ 10 ∷ 13 ∷ 10 ∷ 13 ∷ 13 ∷ 10 ∷ 98 ∷ 13 ∷ []) ≡ (codes "a", 0) ∷ (13 ∷ [], 1) ∷ (98 ∷ 13 ∷ [], 1) ∷ []
returns = refl

-- the 256th line ends a round
pub full_round : map (λ l. l.round) (lines_of (flat_map {X = ℕ} (λ n. 97 ∷ 10 ∷ []) (replicate 258 0))) ≡ replicate 256 0 ++ 1 ∷ 1 ∷ []
full_round = refl

-- a line of the greatest length is read, and one byte more is too long
pub longest : nat_lt max_line (length (replicate {A = ℕ} 262_144 97)) ≡ false
longest = refl

pub too_long : line_from (replicate 262_145 97) ≡ Err line_too_long
too_long = refl
