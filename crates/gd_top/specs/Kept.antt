-- What a run keeps of the file of its store, whatever its status.
use Rattle.std.specs.Prelude.{◌≡◌, ◌⊎◌, ℕ, List, ◌++◌, Option, None, Some, IsSome}
use Rattle.std.specs.Option.{ForSome}
use Rattle.gd_prim.specs.declared.Batch.{Batch}
use Rattle.gd_bytes.specs.File.{not_store, damaged, meaning, StandsFor}

-- what is left of a file: the same bytes, or, where it stood for batches, bytes that stand for these and for further ones behind them
abbrev pub IsLeft : List ℕ → List ℕ → Type 0
IsLeft before after = (after ≡ before) ⊎ ((bs : List Batch) × (more : List Batch) × StandsFor before bs × StandsFor after (bs ++ more))

-- A file is kept: it is told, what is read of it is left of it, all that a stop leaves is left of what one might have left before, and of a file that is no store or damaged nothing is changed.
pub record KeepsFile (file : List ℕ) (now : Option (List ℕ)) (images_old images_new : List ℕ → Type 0) : Type 0 where
  pub told : IsSome now
  pub read : ForSome now (λ later. IsLeft file later)
  pub images : (c : List ℕ) → images_new c → (d : List ℕ) × images_old d × IsLeft d c
  pub not_store : meaning file ≡ not_store → (c : List ℕ) → images_new c → images_old c
  pub damaged : (at : ℕ) → meaning file ≡ damaged at → (c : List ℕ) → images_new c → images_old c

-- where the file is told, it is kept
abbrev pub Keeps : Option (List ℕ) → Option (List ℕ) → (List ℕ → Type 0) → (List ℕ → Type 0) → Type 0
Keeps told now images_old images_new = ForSome told (λ file. KeepsFile file now images_old images_new)

-- ---- a run that did not begin

-- the same bytes, or bytes that stand for the same batches
abbrev pub IsSame : List ℕ → List ℕ → Type 0
IsSame before after = (after ≡ before) ⊎ ((bs : List Batch) × StandsFor before bs × StandsFor after bs)

-- A file is as it was: it is told, a read gives the same bytes or such as stand for the same batches, and so does all that a stop leaves, by what one might have left before.
pub record StaysFile (file : List ℕ) (now : Option (List ℕ)) (images_old images_new : List ℕ → Type 0) : Type 0 where
  pub told : IsSome now
  pub read : ForSome now (λ later. IsSame file later)
  pub images : (c : List ℕ) → images_new c → (d : List ℕ) × images_old d × IsSame d c

-- where the file is told, it is as it was
abbrev pub StaysTold : Option (List ℕ) → Option (List ℕ) → (List ℕ → Type 0) → (List ℕ → Type 0) → Type 0
StaysTold told now images_old images_new = ForSome told (λ file. StaysFile file now images_old images_new)

-- the same of the file that the words name, on a shelf
abbrev pub StaysAt : (content_old content_new : List ℕ → Option (List ℕ)) → (images_old images_new : List ℕ → List ℕ → Type 0) → Option (List ℕ) → Type 0
StaysAt content_old content_new images_old images_new None = Unit {0}
StaysAt content_old content_new images_old images_new (Some path) = StaysTold (content_old path) (content_new path) (images_old path) (images_new path)
