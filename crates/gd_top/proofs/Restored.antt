-- What a text made of a store, said of what stands further out, and where a store was not opened.
use Rattle.std.proofs.Common.{◌≡◌, ◌∙◌, ◌≤◌, ◌⊎◌, ℕ, List, [], ◌∷◌, ◌++◌, length, true, Option, Some, None, IfSome, IsTrue, Result, Ok, Err, OnOk, refl, sym, subst, inl, inr, ⊎_elim, append-nil, append_assoc, arith}
use Rattle.std.specs.Option.{ForSome, is_some}
use Rattle.gd_prim.specs.declared.Batch.{Batch}
use Rattle.gd_bytes.specs.File.{meaning, StandsFor, MayStandFor}
use Rattle.gd_dump_laws.specs.Restoring.{Ending, whole, bad, starts_elsewhere, unfit, in_groups, RestoresFront}
use Rattle.gd_disk.specs.declared.shelf.ShelfFault.{ShelfFault}
use Rattle.gd_disk.specs.declared.shelf.ShelfFault.TheVariants as shelf
use Rattle.gd_journal.specs.declared.fault.JournalFault.{JournalFault}
use Rattle.gd_journal.specs.declared.fault.JournalFault.TheVariants as journal
use Rattle.gd_log.specs.Opening.{IsKept, Refuses}
use Rattle.gd_words.specs.Verbs.{restores}
use Rattle.gd_restore.specs.declared.stop.RestoreStop.{RestoreStop}
use Rattle.gd_restore.specs.declared.stop.RestoreStop.TheVariants as stop
use Rattle.gd_restore.specs.Restores.{Leaves, Ended, EndsAs as RestoreEnds, RestoresAs, EndsBy, IfNotOpened}
use Rattle.gd_top.specs.declared.status.Status.{Status}
use Rattle.gd_top.specs.declared.status.Status.TheVariants as status
use Rattle.gd_top.specs.Stops.{status_of_shelf, status_of_store, status_of_restore}
use Rattle.gd_top.specs.Ends.{Causes, may_tell}
use Rattle.gd_top.specs.Held.{Loads, MayMean, DoesMean}
use Rattle.gd_top.specs.Kept.{Keeps}
use Rattle.gd_top.specs.Restores.{Restored, RestoredFront, RestoredDoubt, RestoresText}
use Rattle.gd_top.proofs.Caused.{not_of_store, causes_begun, causes_refused, refused_tells}
use Rattle.gd_top.proofs.Kept.{keeps_further, keeps_refused, told_is}
use Rattle.gd_top.proofs.Settled.{told_on}

module _ (begins begins' : List Batch → Type 0) (leaves leaves' : List Batch → List (List Batch) → Type 0)
    (begun : (loaded : List Batch) → begins loaded → begins' loaded) (left : (after : List Batch) (groups : List (List Batch)) → leaves after groups → leaves' after groups) where
  restored : (ending : Ending) (known : Option (List ℕ)) → IfSome known (Restored begins leaves ending) → IfSome known (Restored begins' leaves' ending)
  restored ending None r = tt
  restored ending (Some text) r = record { list = r.list; after = r.after; begun = begun r.list r.begun; restores = r.restores; left = left r.after [] r.left }

  restored_front : (known : Option (List ℕ)) → IfSome known (RestoredFront begins leaves) → IfSome known (RestoredFront begins' leaves')
  restored_front None r = tt
  restored_front (Some text) r = record { list = r.list; after = r.after; begun = begun r.list r.begun; restores = r.restores; left = left r.after [] r.left }

  restored_doubt : (known : Option (List ℕ)) → IfSome known (RestoredDoubt begins leaves) → IfSome known (RestoredDoubt begins' leaves')
  restored_doubt None r = tt
  restored_doubt (Some text) r = record { list = r.list; after = r.after; group = r.group; begun = begun r.list r.begun; restores = r.restores; left = left r.after (r.group ∷ []) r.left }

  pub restores_weaker : (s : Status) (idle idle' : Type 0) (known : Option (List ℕ)) → (idle → idle') → RestoresText s begins leaves idle known → RestoresText s begins' leaves' idle' known
  restores_weaker s idle idle' known still p = record {
    done = λ is. restored whole known (p.done is);
    bad_dump = λ offset is. restored (bad offset) known (p.bad_dump offset is);
    elsewhere = λ asked have is. restored (starts_elsewhere asked have) known (p.elsewhere asked have is);
    unfit_batch = λ batch is. restored (unfit batch) known (p.unfit_batch batch is);
    front = λ is. restored_front known (p.front is);
    memory = λ is. ⊎_elim (λ i. inl (still i)) (λ f. inr (restored_front known f)) (p.memory is);
    doubt = λ is. ⊎_elim (λ i. inl (still i)) (λ f. inr (restored_doubt known f)) (p.doubt is);
    not_store = λ is. still (p.not_store is);
    damaged = λ offset is. still (p.damaged offset is);
  }

module _ (begins : List Batch → Type 0) (leaves : List Batch → List (List Batch) → Type 0) (idle : Type 0) (known : Option (List ℕ)) where
  -- the store was not opened
  refused_restores : (f : JournalFault) → idle → RestoresText (status_of_store f) begins leaves idle known
  refused_restores f i = record {
    done = λ is. absurd (not_of_store f status.Done refl is);
    bad_dump = λ offset is. absurd (not_of_store f (status.BadDump offset) refl is);
    elsewhere = λ asked have is. absurd (not_of_store f (status.DumpFrom asked have) refl is);
    unfit_batch = λ batch is. absurd (not_of_store f (status.Unfit batch) refl is);
    front = λ is. absurd (⊎_elim (λ e. not_of_store f status.ReadFault refl e) (λ e. not_of_store f status.TooMuch refl e) is);
    memory = λ is. inl i;
    doubt = λ is. inl i;
    not_store = λ is. i;
    damaged = λ offset is. i;
  }

  -- nor its file
  pub shelf_restores : (f : ShelfFault) → idle → RestoresText (status_of_shelf f) begins leaves idle known
  shelf_restores shelf.Failed i = refused_restores journal.DiskFault i
  shelf_restores shelf.Memory i = refused_restores journal.Memory i

  -- what was restored, by how the run ended
  if_some : {P Q : List ℕ → Type 0} (o : Option (List ℕ)) → ((text : List ℕ) → P text → Q text) → IfSome o P → IfSome o Q
  if_some None f p = tt
  if_some (Some text) f p = f text p

  whole_of : (text : List ℕ) → Ended (Ok tt) begins leaves text → Restored begins leaves whole text
  whole_of text r = record { list = r.list; after = r.after; begun = r.begun; restores = r.ends.0; left = r.ends.1 }

  bad_of : (offset : ℕ) (text : List ℕ) → Ended (Err (stop.BadDump offset)) begins leaves text → Restored begins leaves (bad offset) text
  bad_of offset text r = record { list = r.list; after = r.after; begun = r.begun; restores = r.ends.0; left = r.ends.1 }

  elsewhere_of : (asked have : ℕ) (text : List ℕ) → Ended (Err (stop.DumpFrom asked have)) begins leaves text → Restored begins leaves (starts_elsewhere asked have) text
  elsewhere_of asked have text r = record { list = r.list; after = r.after; begun = r.begun; restores = r.ends.0; left = r.ends.1 }

  unfit_of : (batch : ℕ) (text : List ℕ) → Ended (Err (stop.Unfit batch)) begins leaves text → Restored begins leaves (unfit batch) text
  unfit_of batch text r = record { list = r.list; after = r.after; begun = r.begun; restores = r.ends.0; left = r.ends.1 }

  front_of : (s : RestoreStop) → ((list : List Batch) (text : List ℕ) (after : List Batch) → RestoreEnds (Err s) leaves list text after → RestoresFront list text after × leaves after []) → (text : List ℕ) → Ended (Err s) begins leaves text → RestoredFront begins leaves text
  front_of s front text r = let (is, left) = front r.list text r.after r.ends in record { list = r.list; after = r.after; begun = r.begun; restores = is; left = left }

  doubt_of : (text : List ℕ) → Ended (Err stop.DiskFault) begins leaves text → RestoredDoubt begins leaves text
  doubt_of text r = record { list = r.list; after = r.after; group = r.ends.0; begun = r.begun; restores = r.ends.1; left = r.ends.2 }

  pub restores_come : (still : Type 0) → (still → idle) → (end : Result (Unit {0}) RestoreStop) → IfNotOpened end (λ f. still) → IfSome known (RestoresAs end begins leaves) → RestoresText (status_of_restore end) begins leaves idle known
  restores_come still is_idle (Ok u) unopened ends = record { done = λ is. if_some known whole_of ends; bad_dump = λ offset is. absurd (cc); elsewhere = λ asked have is. absurd (cc); unfit_batch = λ batch is. absurd (cc); front = λ is. absurd (⊎_elim (λ e. cc) (λ e. cc) is); memory = λ is. absurd (cc); doubt = λ is. absurd (cc); not_store = λ is. absurd (cc); damaged = λ offset is. absurd (cc) }
  restores_come still is_idle (Err stop.ReadFault) unopened ends = record { done = λ is. absurd (cc); bad_dump = λ offset is. absurd (cc); elsewhere = λ asked have is. absurd (cc); unfit_batch = λ batch is. absurd (cc); front = λ is. if_some known (front_of stop.ReadFault (λ l t a e. e)) ends; memory = λ is. absurd (cc); doubt = λ is. absurd (cc); not_store = λ is. absurd (cc); damaged = λ offset is. absurd (cc) }
  restores_come still is_idle (Err stop.TooMuch) unopened ends = record { done = λ is. absurd (cc); bad_dump = λ offset is. absurd (cc); elsewhere = λ asked have is. absurd (cc); unfit_batch = λ batch is. absurd (cc); front = λ is. if_some known (front_of stop.TooMuch (λ l t a e. e)) ends; memory = λ is. absurd (cc); doubt = λ is. absurd (cc); not_store = λ is. absurd (cc); damaged = λ offset is. absurd (cc) }
  restores_come still is_idle (Err stop.Memory) unopened ends = record { done = λ is. absurd (cc); bad_dump = λ offset is. absurd (cc); elsewhere = λ asked have is. absurd (cc); unfit_batch = λ batch is. absurd (cc); front = λ is. absurd (⊎_elim (λ e. cc) (λ e. cc) is); memory = λ is. inr (if_some known (front_of stop.Memory (λ l t a e. e)) ends); doubt = λ is. absurd (cc); not_store = λ is. absurd (cc); damaged = λ offset is. absurd (cc) }
  restores_come still is_idle (Err stop.DiskFault) unopened ends = record { done = λ is. absurd (cc); bad_dump = λ offset is. absurd (cc); elsewhere = λ asked have is. absurd (cc); unfit_batch = λ batch is. absurd (cc); front = λ is. absurd (⊎_elim (λ e. cc) (λ e. cc) is); memory = λ is. absurd (cc); doubt = λ is. inr (if_some known doubt_of ends); not_store = λ is. absurd (cc); damaged = λ offset is. absurd (cc) }
  restores_come still is_idle (Err (stop.BadDump o)) unopened ends = record { done = λ is. absurd (cc); bad_dump = λ offset is. let e : o ≡ offset = cc in subst (λ (x : ℕ). IfSome known (Restored begins leaves (bad x))) e (if_some known (bad_of o) ends); elsewhere = λ asked have is. absurd (cc); unfit_batch = λ batch is. absurd (cc); front = λ is. absurd (⊎_elim (λ e. cc) (λ e. cc) is); memory = λ is. absurd (cc); doubt = λ is. absurd (cc); not_store = λ is. absurd (cc); damaged = λ offset is. absurd (cc) }
  restores_come still is_idle (Err (stop.DumpFrom a h)) unopened ends = record { done = λ is. absurd (cc); bad_dump = λ offset is. absurd (cc); elsewhere = λ asked have is. let e : a ≡ asked = cc in let f : h ≡ have = cc in subst (λ (x : ℕ). IfSome known (Restored begins leaves (starts_elsewhere x have))) e (subst (λ (y : ℕ). IfSome known (Restored begins leaves (starts_elsewhere a y))) f (if_some known (elsewhere_of a h) ends)); unfit_batch = λ batch is. absurd (cc); front = λ is. absurd (⊎_elim (λ e. cc) (λ e. cc) is); memory = λ is. absurd (cc); doubt = λ is. absurd (cc); not_store = λ is. absurd (cc); damaged = λ offset is. absurd (cc) }
  restores_come still is_idle (Err (stop.Unfit b)) unopened ends = record { done = λ is. absurd (cc); bad_dump = λ offset is. absurd (cc); elsewhere = λ asked have is. absurd (cc); unfit_batch = λ batch is. let e : b ≡ batch = cc in subst (λ (x : ℕ). IfSome known (Restored begins leaves (unfit x))) e (if_some known (unfit_of b) ends); front = λ is. absurd (⊎_elim (λ e. cc) (λ e. cc) is); memory = λ is. absurd (cc); doubt = λ is. absurd (cc); not_store = λ is. absurd (cc); damaged = λ offset is. absurd (cc) }
  restores_come still is_idle (Err (stop.Unopened f)) unopened ends = refused_restores f (is_idle unopened)

-- where the store was not opened nothing was read, and its file is as it was
pub unopened_stays : (same stays : Type 0) (told : Option (List ℕ)) (K : List ℕ → Type 0) → (ForSome told K → stays) → (end : Result (Unit {0}) RestoreStop) → IfNotOpened end (λ f. same) → ForSome told (λ file. IfNotOpened end (λ f. K file × Refuses f (meaning file)))
    → IfNotOpened end (λ f. same × stays)
unopened_stays same stays told K still (Ok u) unopened refused = tt
unopened_stays same stays told K still (Err stop.ReadFault) unopened refused = tt
unopened_stays same stays told K still (Err stop.TooMuch) unopened refused = tt
unopened_stays same stays told K still (Err stop.Memory) unopened refused = tt
unopened_stays same stays told K still (Err stop.DiskFault) unopened refused = tt
unopened_stays same stays told K still (Err (stop.BadDump o)) unopened refused = tt
unopened_stays same stays told K still (Err (stop.DumpFrom a h)) unopened refused = tt
unopened_stays same stays told K still (Err (stop.Unfit b)) unopened refused = tt
unopened_stays same stays told K still (Err (stop.Unopened f)) unopened refused = (unopened, still (λ file is. (refused file is).0))

-- ---- why

unopened_by : (r d l : Type 0) (f : JournalFault) → EndsBy (Err (stop.Unopened f)) r d l → f ≡ journal.DiskFault → d
unopened_by r d l journal.DiskFault by is = by
unopened_by r d l journal.NotStore by is = absurd (cc)
unopened_by r d l (journal.Damaged offset) by is = absurd (cc)
unopened_by r d l journal.Memory by is = absurd (cc)

-- the file stood for the list with which the run began
stood : (end : Result (Unit {0}) RestoreStop) (told : Option (List ℕ)) (leaves : List Batch → List (List Batch) → Type 0) (text : List ℕ) → Ended end (Loads told) leaves text → ForSome told (λ file. (bs : List Batch) × StandsFor file bs)
stood end told leaves text r file is = (r.list, r.begun file is)

pub restore_causes : (r d l : Type 0) (told : Option (List ℕ)) (K : List ℕ → Type 0) (leaves : List Batch → List (List Batch) → Type 0) (text : List ℕ) (end : Result (Unit {0}) RestoreStop) → EndsBy end r d l → RestoresAs end (Loads told) leaves text
    → ForSome told (λ file. IfNotOpened end (λ f. K file × Refuses f (meaning file))) → Causes (status_of_restore end) r ⊥ d l (MayMean told) (DoesMean told)
restore_causes r d l told K leaves text (Ok u) by made refused = causes_begun status.Done r ⊥ d l told refl (λ is. absurd (cc)) (λ is. absurd (cc)) (λ is. absurd (cc)) (λ is. absurd (cc)) (stood (Ok u) told leaves text made)
restore_causes r d l told K leaves text (Err stop.ReadFault) by made refused = causes_begun status.ReadFault r ⊥ d l told refl (λ is. by) (λ is. absurd (cc)) (λ is. absurd (cc)) (λ is. absurd (cc)) (stood (Err stop.ReadFault) told leaves text made)
restore_causes r d l told K leaves text (Err stop.TooMuch) by made refused = causes_begun status.TooMuch r ⊥ d l told refl (λ is. absurd (cc)) (λ is. absurd (cc)) (λ is. absurd (cc)) (λ is. by) (stood (Err stop.TooMuch) told leaves text made)
restore_causes r d l told K leaves text (Err stop.Memory) by made refused = causes_begun status.Memory r ⊥ d l told refl (λ is. absurd (cc)) (λ is. absurd (cc)) (λ is. absurd (cc)) (λ is. absurd (cc)) (stood (Err stop.Memory) told leaves text made)
restore_causes r d l told K leaves text (Err stop.DiskFault) by made refused = causes_begun status.DiskFault r ⊥ d l told refl (λ is. absurd (cc)) (λ is. absurd (cc)) (λ is. by) (λ is. absurd (cc)) (stood (Err stop.DiskFault) told leaves text made)
restore_causes r d l told K leaves text (Err (stop.BadDump o)) by made refused = causes_begun (status.BadDump o) r ⊥ d l told refl (λ is. absurd (cc)) (λ is. absurd (cc)) (λ is. absurd (cc)) (λ is. absurd (cc)) (stood (Err (stop.BadDump o)) told leaves text made)
restore_causes r d l told K leaves text (Err (stop.DumpFrom a h)) by made refused = causes_begun (status.DumpFrom a h) r ⊥ d l told refl (λ is. absurd (cc)) (λ is. absurd (cc)) (λ is. absurd (cc)) (λ is. absurd (cc)) (stood (Err (stop.DumpFrom a h)) told leaves text made)
restore_causes r d l told K leaves text (Err (stop.Unfit b)) by made refused = causes_begun (status.Unfit b) r ⊥ d l told refl (λ is. absurd (cc)) (λ is. absurd (cc)) (λ is. absurd (cc)) (λ is. absurd (cc)) (stood (Err (stop.Unfit b)) told leaves text made)
restore_causes r d l told K leaves text (Err (stop.Unopened f)) by made refused = causes_refused f r ⊥ d l told (unopened_by r d l f by) (λ file is. (refused file is).1)

pub restore_tells : (end : Result (Unit {0}) RestoreStop) → may_tell restores (status_of_restore end) ≡ true
restore_tells (Ok u) = refl
restore_tells (Err stop.ReadFault) = refl
restore_tells (Err stop.TooMuch) = refl
restore_tells (Err stop.Memory) = refl
restore_tells (Err stop.DiskFault) = refl
restore_tells (Err (stop.BadDump o)) = refl
restore_tells (Err (stop.DumpFrom a h)) = refl
restore_tells (Err (stop.Unfit b)) = refl
restore_tells (Err (stop.Unopened f)) = refused_tells restores f

pub restore_done : (P : Type 0) (end : Result (Unit {0}) RestoreStop) → OnOk end P → status_of_restore end ≡ status.Done → P
restore_done P (Ok u) ok is = ok
restore_done P (Err stop.ReadFault) ok is = absurd (cc)
restore_done P (Err stop.TooMuch) ok is = absurd (cc)
restore_done P (Err stop.Memory) ok is = absurd (cc)
restore_done P (Err stop.DiskFault) ok is = absurd (cc)
restore_done P (Err (stop.BadDump o)) ok is = absurd (cc)
restore_done P (Err (stop.DumpFrom a h)) ok is = absurd (cc)
restore_done P (Err (stop.Unfit b)) ok is = absurd (cc)
restore_done P (Err (stop.Unopened f)) ok is = absurd (not_of_store f status.Done refl is)

-- ---- the file

-- what a run has made of a list begins with that list
grown : (end : Result (Unit {0}) RestoreStop) (leaves : List Batch → List (List Batch) → Type 0) (list : List Batch) (text : List ℕ) (after : List Batch) → RestoreEnds end leaves list text after
    → (more : List Batch) × (groups : List (List Batch)) × (after ≡ list ++ more) × (length groups ≤ 1) × leaves after groups
grown (Ok u) leaves list text after ends = (ends.0.batches, [], ends.0.is, omega arith, ends.1)
grown (Err stop.ReadFault) leaves list text after ends = (ends.0.done, [], ends.0.is, omega arith, ends.1)
grown (Err stop.TooMuch) leaves list text after ends = (ends.0.done, [], ends.0.is, omega arith, ends.1)
grown (Err stop.Memory) leaves list text after ends = (ends.0.done, [], ends.0.is, omega arith, ends.1)
grown (Err stop.DiskFault) leaves list text after ends = (ends.1.done, ends.0 ∷ [], ends.1.is, omega arith, ends.2)
grown (Err (stop.BadDump o)) leaves list text after ends = (in_groups [] ends.0.batches, [], ends.0.is, omega arith, ends.1)
grown (Err (stop.DumpFrom a h)) leaves list text after ends = ([], [], ends.0.is ∙ sym (append-nil list), omega arith, ends.1)
grown (Err (stop.Unfit b)) leaves list text after ends = (in_groups [] ends.0.batches, [], ends.0.is, omega arith, ends.1)
grown (Err (stop.Unopened f)) leaves list text after ends = absurd ends

-- bytes that may stand for a list with one group in doubt behind it stand for that list and further batches
further : (groups : List (List Batch)) (list more : List Batch) (file : List ℕ) → length groups ≤ 1 → MayStandFor (list ++ more) groups file → (others : List Batch) × StandsFor file (list ++ others)
further [] list more file few stands = (more, stands)
further (g ∷ []) list more file few (inl stands) = (more, stands)
further (g ∷ []) list more file few (inr stands) = (more ++ g, subst (StandsFor file) (append_assoc list more g) stands)
further (g ∷ h ∷ gs) list more file few stands = absurd (omega (arith, few))

module _ {D : Type 0} (content : D → Option (List ℕ)) (moment : D → ℕ) (images : D → List ℕ → Type 0) (images_since : D → ℕ → List ℕ → Type 0) (old new : D) (same : is_some (content new) ≡ is_some (content old)) (reads : (disk : D) (file : List ℕ) → content disk ≡ Some file → images disk file) where
  begun_keeps : (end : Result (Unit {0}) RestoreStop) (text : List ℕ) → Ended end (Loads (content old)) (Leaves content images new) text → Keeps (content old) (content new) (images old) (images new)
  begun_keeps end text r file is =
      let (more, groups, grew, few, leaves) = grown end (Leaves content images new) r.list text r.after r.ends in
      let tells : IsTrue (is_some (content new)) = told_on (content old) (content new) same (told_is (content old) file is) in
      keeps_further content images reads old new file r.list is same (r.begun file is)
      (λ c image. further groups r.list more c few (subst (λ (bs : List Batch). MayStandFor bs groups c) grew (leaves tells c image)))

  -- the batches and further ones; where the store was not opened, what reads the same
  pub restore_keeps : (end : Result (Unit {0}) RestoreStop) (text : List ℕ) → RestoresAs end (Loads (content old)) (Leaves content images new) text
      → ForSome (content old) (λ file. IfNotOpened end (λ f. IsKept content moment images images_since file old new × Refuses f (meaning file))) → Keeps (content old) (content new) (images old) (images new)
  restore_keeps (Ok u) text made refused = begun_keeps (Ok u) text made
  restore_keeps (Err stop.ReadFault) text made refused = begun_keeps (Err stop.ReadFault) text made
  restore_keeps (Err stop.TooMuch) text made refused = begun_keeps (Err stop.TooMuch) text made
  restore_keeps (Err stop.Memory) text made refused = begun_keeps (Err stop.Memory) text made
  restore_keeps (Err stop.DiskFault) text made refused = begun_keeps (Err stop.DiskFault) text made
  restore_keeps (Err (stop.BadDump o)) text made refused = begun_keeps (Err (stop.BadDump o)) text made
  restore_keeps (Err (stop.DumpFrom a h)) text made refused = begun_keeps (Err (stop.DumpFrom a h)) text made
  restore_keeps (Err (stop.Unfit b)) text made refused = begun_keeps (Err (stop.Unfit b)) text made
  restore_keeps (Err (stop.Unopened f)) text made refused = keeps_refused content moment images images_since old new (λ file is. (refused file is).0)
