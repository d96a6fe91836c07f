-- What the disk of a log holds, in batches.
use Rattle.std.specs.Prelude.{ℕ, List, [], ◌∷◌, Option, true, IsTrue, length}
use Rattle.gd_prim.specs.declared.Batch.{Batch}
use Rattle.gd_prim.specs.History.{prims_of}
use Rattle.gd_prim.specs.WellFormed.{all_follow}
use Rattle.gd_bytes.specs.File.{Version, is_marked, StandsFor, MayStandFor}
use Rattle.gd_journal.specs.State.{IsSettled, IsInDoubt}
use Rattle.gd_log.specs.Groups.{IsNext, AreGroups}

-- The records that end at this gate are groups of these batches, behind which texts may have languages, and each image stands for the batches.
pub record IsHeld (content : Option (List ℕ)) (images : List ℕ → Type 0) (gate : ℕ) (bs : List Batch) : Type 0 where
  pub version : Version
  pub payloads : List (List ℕ)
  pub groups : AreGroups (is_marked version) [] payloads true bs
  pub settled : IsSettled content images gate version payloads
  pub means : (c : List ℕ) → images c → StandsFor c bs

-- The records that end at this gate are groups of these batches, behind which texts may have languages, one more group is in doubt up to the next gate, and each image stands for the batches followed by all or none of that group.
pub record IsUnsure (content : Option (List ℕ)) (images : List ℕ → Type 0) (gate next : ℕ) (bs more : List Batch) : Type 0 where
  pub version : Version
  pub payloads : List (List ℕ)
  pub last : List ℕ
  pub groups : AreGroups (is_marked version) [] payloads true bs
  pub next_group : IsNext true bs last more
  pub doubt : IsInDoubt content images gate next version payloads last
  pub means : (c : List ℕ) → images c → MayStandFor bs (more ∷ []) c

-- The disk holds these batches, and the others may follow them.
pub record HoldsBefore (content : Option (List ℕ)) (images : List ℕ → Type 0) (gate : ℕ) (bs more : List Batch) : Type 0 where
  pub held : IsHeld content images gate bs
  pub follow : IsTrue (all_follow (prims_of bs) (length bs) more)
