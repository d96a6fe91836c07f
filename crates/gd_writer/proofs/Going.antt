-- What a call of a side leaves.
use Rattle.std.proofs.Common.{ℕ, Bool, List, Option, refl, inl, arith}
use Rattle.gd_disk.specs.Runs.{leaves_start}
use Rattle.gd_writer.specs.Side.{SideValue, KeepsAll, GoesOn, StandsForEither}

-- a call that changes nothing
pub goes_nothing : {D C : Type 0} (content : D → Option (List ℕ)) (moment : D → ℕ) (images : D → List ℕ → Type 0) (images_since : D → ℕ → List ℕ → Type 0) (faults : D → ℕ) (may : C → ℕ → Bool)
    → ((disk : D) (c : List ℕ) → images_since disk (moment disk) c → images disk c) → (side : SideValue D C) → KeepsAll content images may side → GoesOn content moment images images_since faults may side side
goes_nothing content moment images images_since faults may only side keeps = record {
  table = refl;
  clock = refl;
  told = refl;
  moments = λ tells. leaves_start moment images images_since side.log.disk (StandsForEither side side) (only side.log.disk) (λ c now. inl (keeps.holds c (tells, now)));
  later = omega arith;
}
