-- What a run finds in the file of its store, and what it leaves there.
use Rattle.std.specs.Prelude.{◌≡◌, ℕ, List, [], Bool, Option, None, Some, IsSome, IsSomeAnd, option_and_then}
use Rattle.std.specs.Option.{ForSome}
use Rattle.gd_prim.specs.declared.Batch.{Batch}
use Rattle.gd_bytes.specs.File.{Meaning, meaning, StandsFor}
use Rattle.gd_runs.specs.Legal.{History}
use Rattle.gd_runs.specs.Explained.{Run, Holds}

-- ---- one file, whose content is told or not

-- where the content is told, it stands for these batches
abbrev pub Loads : Option (List ℕ) → List Batch → Type 0
Loads told loaded = ForSome told (λ file. StandsFor file loaded)

-- where the content was told, all that a stop leaves stands for the history, with or without the one write that is in doubt
abbrev pub Leaves : (ℕ → Bool) → Option (List ℕ) → (List ℕ → Type 0) → History → List Run → Type 0
Leaves may told images h runs = IsSome told → Holds may h runs images

-- where the content is told, it means this
abbrev pub MayMean : Option (List ℕ) → Meaning → Type 0
MayMean told m = ForSome told (λ file. meaning file ≡ m)

-- the content is told, and means this
abbrev pub DoesMean : Option (List ℕ) → Meaning → Type 0
DoesMean told m = IsSomeAnd told (λ file. meaning file ≡ m)

-- ---- the file that the words name, on a shelf

-- its content, where there is such a file and the shelf tells it
abbrev pub told_at : (List ℕ → Option (List ℕ)) → Option (List ℕ) → Option (List ℕ)
told_at content path = option_and_then content path

-- the list that a run begins with: without a file the empty one
abbrev pub BeginsWith : (List ℕ → Option (List ℕ)) → Option (List ℕ) → List Batch → Type 0
BeginsWith content None loaded = loaded ≡ []
BeginsWith content (Some path) loaded = Loads (content path) loaded

-- what the shelf holds at the path after a run with this history
abbrev pub EndsWith : (ℕ → Bool) → (List ℕ → Option (List ℕ)) → (List ℕ → List ℕ → Type 0) → Option (List ℕ) → History → List Run → Type 0
EndsWith may content images None h runs = Unit {0}
EndsWith may content images (Some path) h runs = Leaves may (content path) (images path) h runs

-- there is a file, and where it is told it means this
abbrev pub MayMeanAt : (List ℕ → Option (List ℕ)) → Option (List ℕ) → Meaning → Type 0
MayMeanAt content None m = ⊥
MayMeanAt content (Some path) m = MayMean (content path) m

-- there is no file, or it is told and stands for some batches
abbrev pub IsSoundAt : (List ℕ → Option (List ℕ)) → Option (List ℕ) → Type 0
IsSoundAt content None = Unit {0}
IsSoundAt content (Some path) = IsSomeAnd (content path) (λ file. (bs : List Batch) × StandsFor file bs)
