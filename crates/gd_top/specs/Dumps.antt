-- What a run that dumps prints, for each status.
use Rattle.std.specs.Prelude.{◌≡◌, ◌⊎◌, ℕ, List, true, Option}
use Rattle.std.specs.Io.KnownBytes.{Keeps}
use Rattle.gd_prim.specs.declared.Batch.{Batch}
use Rattle.gd_dump_laws.specs.Dumping.{Dumps, DumpsFront, StartsBehind}
use Rattle.gd_top.specs.declared.status.Status.{Status}
use Rattle.gd_top.specs.declared.status.Status.TheVariants as status
use Rattle.gd_top.specs.Ends.{is_refused}

-- A run with this status printed the dump of the batches of the store from a number on: all of it, a front of it where the sink failed, nothing where the store has fewer, which the status then tells. Without memory it may also not have begun, and where its store was not opened it did not begin.
pub record PrintsDump (s : Status) (begins : List Batch → Type 0) (unbegun : Type 0) (from : ℕ) (held_old held_new : Option (List ℕ)) : Type 0 where
  pub done : s ≡ status.Done → Dumps begins from held_old held_new
  pub front : s ≡ status.SinkFault → DumpsFront begins from held_old held_new
  pub memory : s ≡ status.Memory → unbegun ⊎ DumpsFront begins from held_old held_new
  pub behind : (asked have : ℕ) → s ≡ status.DumpFrom asked have → StartsBehind begins from asked have × Keeps held_old held_new
  pub nothing : is_refused s ≡ true → unbegun
