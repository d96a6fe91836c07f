-- The limits of a store, and the first that a batch would pass.
use Rattle.std.specs.Prelude.{ℕ, ◌+◌, List, [], ◌∷◌, length, sum_by, nat_lt, Option, Some, None, if◌then◌else◌}
use Rattle.gd_base.specs.declared.datum.Datum.{Datum}
use Rattle.gd_base.specs.declared.datum.Datum.TheVariants as datum
use Rattle.gd_prim.specs.declared.Primitive.{Primitive}
use Rattle.gd_prim.specs.declared.What.{What}
use Rattle.gd_prim.specs.declared.What.TheVariants as what

-- so many primitives a store has at most
abbrev pub max_prims : ℕ
max_prims = 2_097_151

-- so many a batch
abbrev pub max_batch : ℕ
max_batch = 4_096

-- so many bytes its texts
abbrev pub max_text : ℕ
max_text = 134_217_728

-- so many requests
abbrev pub max_requests : ℕ
max_requests = 4_194_303

-- the bytes of values and names that are texts
abbrev pub text_bytes : Primitive → ℕ
text_bytes p = value p.value + name p.name
  where
    value : Datum → ℕ
    value (datum.Text t) = length t
    value _ = 0

    name : Option (List ℕ) → ℕ
    name None = 0
    name (Some t) = length t

-- what is counted, the number that would be reached, the greatest one
abbrev pub Count : Type 0
Count = What × ℕ × ℕ

-- what a batch would make of the counts of a store, of its list and of so many requests, in the order in which they are tested
abbrev pub limits : List Primitive → ℕ → List Primitive → List Count
limits prims requests batch = (what.Batch, length batch, max_batch) ∷ (what.Primitives, length prims + length batch, max_prims)
    ∷ (what.Text, sum_by text_bytes prims + sum_by text_bytes batch, max_text) ∷ (what.Requests, requests + 1, max_requests) ∷ []

-- the first limit that is passed, and the number that would be reached
abbrev pub first_full : List Count → Option (What × ℕ)
first_full [] = None
first_full (l ∷ ls) = if nat_lt l.2 l.1 then Some (l.0, l.1) else first_full ls
