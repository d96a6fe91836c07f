-- What a dump printed, said of what stands further out, and where a store was not opened.
use Rattle.std.proofs.Common.{◌≡◌, ◌⊎◌, ℕ, List, true, Option, Some, None, IfSome, Result, Ok, Err, OnOk, refl, subst, inl, inr, ⊎_elim}
use Rattle.std.specs.Option.{ForSome}
use Rattle.std.specs.Io.KnownBytes.{Keeps}
use Rattle.gd_prim.specs.declared.Batch.{Batch}
use Rattle.gd_bytes.specs.File.{meaning, StandsFor}
use Rattle.gd_journal.specs.declared.fault.JournalFault.{JournalFault}
use Rattle.gd_journal.specs.declared.fault.JournalFault.TheVariants as journal
use Rattle.gd_log.specs.Opening.{Refuses}
use Rattle.gd_words.specs.Verbs.{dumps}
use Rattle.gd_restore.specs.declared.stop.DumpStop.{DumpStop}
use Rattle.gd_restore.specs.declared.stop.DumpStop.TheVariants as stop
use Rattle.gd_restore.specs.Dumps.{DumpsAs, DumpsBy, IfNotOpened}
use Rattle.gd_dump_laws.specs.Dumping.{Dumps, DumpsFront, StartsBehind}
use Rattle.gd_disk.specs.declared.shelf.ShelfFault.{ShelfFault}
use Rattle.gd_disk.specs.declared.shelf.ShelfFault.TheVariants as shelf
use Rattle.gd_top.specs.declared.status.Status.{Status}
use Rattle.gd_top.specs.declared.status.Status.TheVariants as status
use Rattle.gd_top.specs.Stops.{status_of_shelf, status_of_store, status_of_dump}
use Rattle.gd_top.specs.Ends.{Causes, may_tell}
use Rattle.gd_top.specs.Held.{Loads, MayMean, DoesMean}
use Rattle.gd_top.specs.Dumps.{PrintsDump}
use Rattle.gd_top.proofs.Caused.{not_of_store, causes_begun, causes_refused, refused_tells}

-- ---- a dump

-- known bytes that stay
pub keeps_same : (o : Option (List ℕ)) → Keeps o o
keeps_same None = tt
keeps_same (Some bytes) = refl

module _ (begins begins' : List Batch → Type 0) (begun : (loaded : List Batch) → begins loaded → begins' loaded) (from : ℕ) (old new : Option (List ℕ)) where
  whole_dump : Dumps begins from old new → Dumps begins' from old new
  whole_dump d = record { loaded = d.loaded; begun = begun d.loaded d.begun; there = d.there; reads = d.reads; gained = d.gained }

  dumps_front : DumpsFront begins from old new → DumpsFront begins' from old new
  dumps_front d = record { loaded = d.loaded; begun = begun d.loaded d.begun; there = d.there; piece = d.piece; rest = d.rest; parts = d.parts; gained = d.gained }

  starts_behind : (asked have : ℕ) → StartsBehind begins from asked have → StartsBehind begins' from asked have
  starts_behind asked have d = record { loaded = d.loaded; begun = begun d.loaded d.begun; same = d.same; count = d.count; behind = d.behind }

  pub dump_weaker : (s : Status) (idle idle' : Type 0) → (idle → idle') → PrintsDump s begins idle from old new → PrintsDump s begins' idle' from old new
  dump_weaker s idle idle' still p = record {
    done = λ is. whole_dump (p.done is);
    front = λ is. dumps_front (p.front is);
    memory = λ is. ⊎_elim (λ i. inl (still i)) (λ f. inr (dumps_front f)) (p.memory is);
    behind = λ asked have is. let (starts, kept) = p.behind asked have is in (starts_behind asked have starts, kept);
    nothing = λ is. still (p.nothing is);
  }

-- the store was not opened
refused_dumps : (begins : List Batch → Type 0) (idle : Type 0) (from : ℕ) (old new : Option (List ℕ)) (f : JournalFault) → idle → PrintsDump (status_of_store f) begins idle from old new
refused_dumps begins idle from old new f i = record {
  done = λ is. absurd (not_of_store f status.Done refl is);
  front = λ is. absurd (not_of_store f status.SinkFault refl is);
  memory = λ is. inl i;
  behind = λ asked have is. absurd (not_of_store f (status.DumpFrom asked have) refl is);
  nothing = λ is. i;
}

-- nor its file
pub shelf_dumps : (begins : List Batch → Type 0) (idle : Type 0) (from : ℕ) (old new : Option (List ℕ)) (f : ShelfFault) → idle → PrintsDump (status_of_shelf f) begins idle from old new
shelf_dumps begins idle from old new shelf.Failed i = refused_dumps begins idle from old new journal.DiskFault i
shelf_dumps begins idle from old new shelf.Memory i = refused_dumps begins idle from old new journal.Memory i

-- what a dump printed, by how it ended
pub dump_prints : (begins : List Batch → Type 0) (from : ℕ) (old new : Option (List ℕ)) (still idle : Type 0) → (still → idle) → (still → Keeps old new) → (end : Result (Unit {0}) DumpStop) → DumpsAs end begins from old new still → PrintsDump (status_of_dump end) begins idle from old new
dump_prints begins from old new still idle is_idle kept (Ok u) ends = record { done = λ is. ends; front = λ is. absurd (cc); memory = λ is. absurd (cc); behind = λ asked have is. absurd (cc); nothing = λ is. absurd (cc) }
dump_prints begins from old new still idle is_idle kept (Err stop.SinkFault) ends = record { done = λ is. absurd (cc); front = λ is. ends; memory = λ is. absurd (cc); behind = λ asked have is. absurd (cc); nothing = λ is. absurd (cc) }
dump_prints begins from old new still idle is_idle kept (Err stop.Memory) ends = record { done = λ is. absurd (cc); front = λ is. absurd (cc); memory = λ is. inr ends; behind = λ asked have is. absurd (cc); nothing = λ is. absurd (cc) }
dump_prints begins from old new still idle is_idle kept (Err (stop.DumpFrom a h)) ends = record {
  done = λ is. absurd (cc);
  front = λ is. absurd (cc);
  memory = λ is. absurd (cc);
  behind = λ asked have is. let e : a ≡ asked = cc in let f : h ≡ have = cc in (subst (λ (x : ℕ). StartsBehind begins from x have) e (subst (λ (y : ℕ). StartsBehind begins from a y) f ends.0), kept ends.1);
  nothing = λ is. absurd (cc);
}
dump_prints begins from old new still idle is_idle kept (Err (stop.Unopened f)) ends = refused_dumps begins idle from old new f (is_idle ends)

unopened_by : (k d : Type 0) (f : JournalFault) → DumpsBy (Err (stop.Unopened f)) k d → f ≡ journal.DiskFault → d
unopened_by k d journal.DiskFault by is = by
unopened_by k d journal.NotStore by is = absurd (cc)
unopened_by k d (journal.Damaged offset) by is = absurd (cc)
unopened_by k d journal.Memory by is = absurd (cc)

-- and why
pub dump_causes : (from : ℕ) (old new told : Option (List ℕ)) (still k d : Type 0) (end : Result (Unit {0}) DumpStop) → DumpsAs end (Loads told) from old new still → DumpsBy end k d → ForSome told (λ file. IfNotOpened end (λ f. Refuses f (meaning file)))
    → Causes (status_of_dump end) ⊥ k d ⊥ (MayMean told) (DoesMean told)
dump_causes from old new told still k d (Ok u) ends by refused = causes_begun status.Done ⊥ k d ⊥ told refl (λ is. absurd (cc)) (λ is. absurd (cc)) (λ is. absurd (cc)) (λ is. absurd (cc)) (λ file is. (ends.loaded, ends.begun file is))
dump_causes from old new told still k d (Err stop.SinkFault) ends by refused = causes_begun status.SinkFault ⊥ k d ⊥ told refl (λ is. absurd (cc)) (λ is. by) (λ is. absurd (cc)) (λ is. absurd (cc)) (λ file is. (ends.loaded, ends.begun file is))
dump_causes from old new told still k d (Err stop.Memory) ends by refused = causes_begun status.Memory ⊥ k d ⊥ told refl (λ is. absurd (cc)) (λ is. absurd (cc)) (λ is. absurd (cc)) (λ is. absurd (cc)) (λ file is. (ends.loaded, ends.begun file is))
dump_causes from old new told still k d (Err (stop.DumpFrom a h)) ends by refused =
    causes_begun (status.DumpFrom a h) ⊥ k d ⊥ told refl (λ is. absurd (cc)) (λ is. absurd (cc)) (λ is. absurd (cc)) (λ is. absurd (cc)) (λ file is. (ends.0.loaded, ends.0.begun file is))
dump_causes from old new told still k d (Err (stop.Unopened f)) ends by refused = causes_refused f ⊥ k d ⊥ told (unopened_by k d f by) refused

pub dump_tells : (from : ℕ) (end : Result (Unit {0}) DumpStop) → may_tell (dumps from) (status_of_dump end) ≡ true
dump_tells from (Ok u) = refl
dump_tells from (Err stop.SinkFault) = refl
dump_tells from (Err stop.Memory) = refl
dump_tells from (Err (stop.DumpFrom a h)) = refl
dump_tells from (Err (stop.Unopened f)) = refused_tells (dumps from) f

-- a dump that is done was sent on
pub dump_sent : (S : Type 0) (end : Result (Unit {0}) DumpStop) → OnOk end S → status_of_dump end ≡ status.Done → S
dump_sent S (Ok u) sent is = sent
dump_sent S (Err stop.SinkFault) sent is = absurd (cc)
dump_sent S (Err stop.Memory) sent is = absurd (cc)
dump_sent S (Err (stop.DumpFrom a h)) sent is = absurd (cc)
dump_sent S (Err (stop.Unopened f)) sent is = absurd (not_of_store f status.Done refl is)
