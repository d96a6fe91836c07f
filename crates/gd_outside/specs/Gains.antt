-- What a sink gains where printing stops on the way.
use Rattle.std.specs.Prelude.{◌≡◌, ℕ, List, ◌++◌, Option}
use Rattle.std.specs.Io.KnownBytes.{Appends}

-- the sink gained a front of these bytes
pub record GainsFront (old new : Option (List ℕ)) (whole : List ℕ) : Type 0 where
  pub piece : List ℕ
  pub rest : List ℕ
  pub parts : piece ++ rest ≡ whole
  pub gained : Appends old new piece
