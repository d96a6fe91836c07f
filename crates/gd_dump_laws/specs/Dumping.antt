-- What a run prints that dumps the list of batches with which it begins.
use Rattle.std.specs.Prelude.{◌≡◌, ℕ, ◌≤◌, ◌<◌, List, ◌++◌, length, drop, Option}
use Rattle.std.specs.Io.KnownBytes.{Appends}
use Rattle.gd_prim.specs.declared.Batch.{Batch}
use Rattle.gd_dump_laws.specs.Dump.{spelling, IsDump}

-- the dump of the batches from this number on
abbrev pub dump_from : ℕ → List Batch → List ℕ
dump_from from batches = spelling (record { first = from; batches = drop from batches })

-- All of the dump was printed, of a list with which the run may have begun, and it is read again as these batches.
pub record Dumps (begins : List Batch → Type 0) (from : ℕ) (old new : Option (List ℕ)) : Type 0 where
  pub loaded : List Batch
  pub begun : begins loaded
  pub there : from ≤ length loaded
  pub reads : IsDump (dump_from from loaded) from (drop from loaded)
  pub gained : Appends old new (dump_from from loaded)

-- a front of it was printed
pub record DumpsFront (begins : List Batch → Type 0) (from : ℕ) (old new : Option (List ℕ)) : Type 0 where
  pub loaded : List Batch
  pub begun : begins loaded
  pub there : from ≤ length loaded
  pub piece : List ℕ
  pub rest : List ℕ
  pub parts : piece ++ rest ≡ dump_from from loaded
  pub gained : Appends old new piece

-- the list has fewer batches than this number, which was asked for
pub record StartsBehind (begins : List Batch → Type 0) (from asked have : ℕ) : Type 0 where
  pub loaded : List Batch
  pub begun : begins loaded
  pub same : asked ≡ from
  pub count : have ≡ length loaded
  pub behind : have < asked
