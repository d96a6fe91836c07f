-- What stands for the core stands for its history.
use Rattle.std.proofs.Common.{◌≡◌, ℕ, List, Bool, Option, Some, None, IsSome, IsTrue, refl, sym, subst}
use Rattle.std.specs.Option.{ForSome, is_some}
use Rattle.gd_prim.specs.declared.Batch.{Batch}
use Rattle.gd_bytes.specs.File.{StandsFor}
use Rattle.gd_runs.specs.Core.{State}
use Rattle.gd_runs.specs.Legal.{History}
use Rattle.gd_runs.specs.Explained.{Run, Holds}
use Rattle.gd_threads.specs.PassedOn.{Tells, StandsForState}
use Rattle.gd_top.specs.Held.{Leaves, Loads}
use Rattle.gd_top.specs.Opened.{HoldsAs}

-- what holds of files holds of fewer ones
pub holds_fewer : (may : ℕ → Bool) (h : History) (runs : List Run) (files fewer : List ℕ → Type 0) → ((file : List ℕ) → fewer file → files file) → Holds may h runs files → Holds may h runs fewer
holds_fewer may h runs files fewer to holds = record { left = holds.left; may_be = holds.may_be; each = λ file is. holds.each file (to file is) }

-- ---- the file of a run

-- a file that is told
pub tells_some : (told : Option (List ℕ)) → IsSome told → Tells told
tells_some None some = some
tells_some (Some file) some = refl

-- it is told on
pub told_on : (old new : Option (List ℕ)) → is_some new ≡ is_some old → Tells old → Tells new
told_on old new same tells = subst IsTrue (sym same) tells

pub some_tells : (told : Option (List ℕ)) → Tells told → IsSome told
some_tells None tells = absurd (cc)
some_tells (Some file) tells = refl

-- where the disk was opened, its file stands for the loaded batches
pub loads : (told : Option (List ℕ)) (store : List Batch) → ForSome told (λ file. StandsFor file store) → (loaded : List Batch) → loaded ≡ store → Loads told loaded
loads told store means loaded is = subst (Loads told) (sym is) means

-- at the end all that it leaves stands for the history
pub leaves : (may : ℕ → Bool) (first told : Option (List ℕ)) (images : List ℕ → Type 0) (s : State) → is_some told ≡ is_some first → (Tells told → (file : List ℕ) → images file → StandsForState s file)
    → (h : History) (runs : List Run) → HoldsAs may s h runs → Leaves may first images h runs
leaves may first told images s same holds h runs stood = λ some. holds_fewer may h runs (StandsForState s) images (holds (told_on first told same (tells_some first some))) stood
