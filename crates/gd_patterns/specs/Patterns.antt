-- Lines of templates, answered over the newest state of a list of batches.
use Rattle.std.specs.Prelude.{◌≡◌, ◌⊎◌, ℕ, List, [], ◌∷◌, ◌++◌, take, Option, codes}
use Rattle.std.specs.List.{AllZip, flat_map}
use Rattle.std.specs.Option.{ForSome}
use Rattle.std.specs.Io.KnownBytes.{Appends}
use Rattle.gd_prim.specs.declared.Batch.{Batch}
use Rattle.gd_prim.specs.declared.Primitive.{Primitive}
use Rattle.gd_prim.specs.History.{prims_of}
use Rattle.gd_bytes.specs.File.{StandsFor}
use Rattle.gd_runs.specs.Explained.{Numbered, lines_of}
use Rattle.gd_tplang.specs.Meaning.{answer}

-- a line is answered as the definition says, or there was no memory
abbrev pub IsAnswered : List Primitive → List ℕ → List ℕ → Type 0
IsAnswered prims line reply = (reply ≡ answer line prims) ⊎ (reply ≡ codes "! memory")

-- what comes of a line over these batches, which stay
abbrev pub AnswersNewest : List Batch → ℕ → List ℕ → List ℕ → List Batch → Type 0
AnswersNewest bs k line reply after = IsAnswered (prims_of bs) line reply × (after ≡ bs)

-- where the content is told, it stands for these batches
abbrev pub Loads : Option (List ℕ) → List Batch → Type 0
Loads told loaded = ForSome told (λ file. StandsFor file loaded)

-- Lines came to this output: over a list of batches with which it may begin, each is answered by one line.
pub record Answered (loads : List Batch → Type 0) (given : List Numbered) (output : List ℕ) : Type 0 where
  pub loaded : List Batch
  pub begun : loads loaded
  pub replies : List (List ℕ)
  pub each : AllZip (λ (line : Numbered) reply. IsAnswered (prims_of loaded) line.bytes reply) given replies
  pub printed : output ≡ flat_map (λ reply. reply ++ 10 ∷ []) replies

-- the sink gained what all lines of the input came to
pub record AnsweredAll (loads : List Batch → Type 0) (old new : Option (List ℕ)) (input : List ℕ) : Type 0 where
  pub output : List ℕ
  pub answered : Answered loads (lines_of input) output
  pub gained : Appends old new output

-- the sink gained what the first so many lines of the input came to
pub record AnsweredTaken (loads : List Batch → Type 0) (old new : Option (List ℕ)) (input : List ℕ) : Type 0 where
  pub taken : ℕ
  pub output : List ℕ
  pub answered : Answered loads (take taken (lines_of input)) output
  pub gained : Appends old new output

-- the sink gained a front of what the first so many lines of the input came to
pub record AnsweredFront (loads : List Batch → Type 0) (old new : Option (List ℕ)) (input : List ℕ) : Type 0 where
  pub taken : ℕ
  pub output : List ℕ
  pub rest : List ℕ
  pub answered : Answered loads (take taken (lines_of input)) (output ++ rest)
  pub gained : Appends old new output
