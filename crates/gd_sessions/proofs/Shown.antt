-- What is shown is a front of what is stored.
use Rattle.std.proofs.Common.{◌≡◌, ℕ, ◌≤◌, List, length, Bool, Option, ap, ◌∙◌, arith}
use Rattle.std.specs.Prelude.{min}
use Rattle.std.proofs.lemmas.List.{length-take}
use Rattle.gd_prim.specs.declared.Batch.{Batch}
use Rattle.gd_runs.specs.Legal.{batches}
use Rattle.gd_writer.specs.Side.{SideValue, KeepsAll}

pub shown_within : {D C : Type 0} (content : D → Option (List ℕ)) (images : D → List ℕ → Type 0) (may : C → ℕ → Bool) (side : SideValue D C) → KeepsAll content images may side
    → length side.shown ≤ length (batches side.history)
shown_within content images may side keeps =
    let is : length side.shown ≡ min (length side.shown) (length (batches side.history)) = ap (λ (bs : List Batch). length bs) keeps.shows ∙ length-take (length side.shown) (batches side.history) in
    omega (arith, is)
