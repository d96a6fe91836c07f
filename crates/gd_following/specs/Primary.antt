-- A node whose lines give it what a primary answered.
use Rattle.std.specs.Prelude.{◌≡◌, ℕ, List, [], ◌∷◌, Some, Ok, slice_get}
use Rattle.gd_bytes.specs.Group.{IsGroup}
use Rattle.gd_prim.specs.declared.Batch.{Batch}
use Rattle.gd_runs.specs.Explained.{Numbered}
use Rattle.gd_follow_laws.specs.World.{Node, Run, World}
use Rattle.gd_following.specs.Lines.{give, follow_from}

-- if a line gives a group, it is one of these answers
abbrev pub GivesAnswer : List Run → List ℕ → Type 0
GivesAnswer answers line = (from : ℕ) (bytes : List ℕ) (group : List Batch) → follow_from line ≡ Ok (give from bytes) → IsGroup bytes group → (number : ℕ) × (slice_get answers number ≡ Some (record { from = from; group = group }))

-- each group that lines give is one of these answers
abbrev pub GiveAnswers : List Run → List Numbered → Type 0
GiveAnswers answers [] = Unit {0}
GiveAnswers answers (l ∷ ls) = GivesAnswer answers l.bytes × GiveAnswers answers ls

-- the world in which the node is so
abbrev pub with_node : World → Node → World
with_node w node = record { primary = w.primary; node = node; answers = w.answers }
