-- A run of events as the status tells it.
use Rattle.std.proofs.Common.{◌≡◌, ℕ, ◌+◌, ◌≤◌, List, [], ◌++◌, take, Bool, true, false, Option, Some, None, IfSome, Result, Ok, Err, OnOk, refl, sym, subst, ap, ◌∙◌, ◌⊎◌, inl, inr, ⊎_elim, arith}
use Rattle.std.specs.Option.{ForSome}
use Rattle.gd_base.specs.Counts.{RoseBy}
use Rattle.gd_prim.specs.declared.Batch.{Batch}
use Rattle.gd_bytes.specs.File.{Meaning, not_store, damaged, groups, joined, meaning, StandsFor}
use Rattle.gd_disk.specs.declared.shelf.ShelfFault.{ShelfFault}
use Rattle.gd_disk.specs.declared.shelf.ShelfFault.TheVariants as shelf
use Rattle.gd_journal.specs.declared.fault.JournalFault.{JournalFault}
use Rattle.gd_journal.specs.declared.fault.JournalFault.TheVariants as journal
use Rattle.gd_log.specs.Opening.{IsKept, Refuses}
use Rattle.gd_runs.specs.Core.{State}
use Rattle.gd_runs.specs.Explained.{Numbered, lines_of}
use Rattle.gd_runs.proofs.Rounds.{some_same}
use Rattle.gd_replay.specs.declared.stop.Stop.{Stop}
use Rattle.gd_replay.specs.declared.stop.Stop.TheVariants as stop
use Rattle.gd_replay.specs.Kept.{HasBatches, IsHindrance, KeepsAs}
use Rattle.gd_replay.specs.Replays.{Accounts, Replays, ReplaysTaken, ReplaysFront}
use Rattle.gd_replay.specs.Stops.{end_faults, EndsAs, EndsBy}
use Rattle.gd_top.specs.declared.status.Status.{Status}
use Rattle.gd_top.specs.declared.status.Status.TheVariants as status
use Rattle.gd_top.specs.Stops.{status_of_store, status_of_shelf, status_of_events}
use Rattle.gd_words.specs.Verbs.{replays}
use Rattle.gd_top.specs.Ends.{IsHindered, IsIdle, Causes, may_tell}
use Rattle.gd_top.specs.Held.{Loads, MayMean, DoesMean}
use Rattle.gd_top.specs.Kept.{Keeps, StaysTold}
use Rattle.gd_top.specs.Replays.{status_faults, PrintsEvents}
use Rattle.gd_top.proofs.Caused.{not_of_store, sound, no_store, no_damage, refused_store, refused_damage, found_store, found_damage, refused_tells}
use Rattle.gd_top.proofs.Kept.{keeps_refused, stays_refused}

-- a store that was lost by a failure of the disk, by its status
lost_faults : (f : JournalFault) → end_faults (Err (stop.Lost f)) ≡ status_faults (status_of_store f)
lost_faults journal.DiskFault = refl
lost_faults journal.NotStore = refl
lost_faults (journal.Damaged offset) = refl
lost_faults journal.Memory = refl

-- ---- what was printed

module _ (told : Bool) (may : ℕ → Bool) (begins begins' : List Batch → Type 0) (leaves leaves' : State → Type 0) (rises rises' : ℕ → Type 0)
    (begun : (loaded : List Batch) → begins loaded → begins' loaded) (left : (s : State) → leaves s → leaves' s) (rose : (n : ℕ) → rises n → rises' n) where
  accounts : (given : List Numbered) (output : List ℕ) → Accounts told may begins leaves rises given output → Accounts told may begins' leaves' rises' given output
  accounts given output a = record { loaded = a.loaded; state = a.state; begun = begun a.loaded a.begun; replies = a.replies; paced = a.paced; left = left a.state a.left; counted = rose _ a.counted }

  whole : (old new known : Option (List ℕ)) → IfSome known (Replays told may begins leaves rises old new) → IfSome known (Replays told may begins' leaves' rises' old new)
  whole old new None r = tt
  whole old new (Some input) r = record { output = r.output; accounts = accounts (lines_of input) r.output r.accounts; gained = r.gained }

  taken : (old new known : Option (List ℕ)) → IfSome known (ReplaysTaken told may begins leaves rises old new) → IfSome known (ReplaysTaken told may begins' leaves' rises' old new)
  taken old new None r = tt
  taken old new (Some input) r = record { taken = r.taken; output = r.output; accounts = accounts (take r.taken (lines_of input)) r.output r.accounts; gained = r.gained }

  front : (old new known : Option (List ℕ)) → IfSome known (ReplaysFront told may begins leaves rises old new) → IfSome known (ReplaysFront told may begins' leaves' rises' old new)
  front old new None r = tt
  front old new (Some input) r = record { taken = r.taken; output = r.output; rest = r.rest; accounts = accounts (take r.taken (lines_of input)) (r.output ++ r.rest) r.accounts; gained = r.gained }

module _ (told : Bool) (may : ℕ → Bool) (begins begins' : List Batch → Type 0) (leaves leaves' : State → Type 0) (rises rises' : ℕ → Type 0)
    (begun : (loaded : List Batch) → begins loaded → begins' loaded) (left : (s : State) → leaves s → leaves' s) (rose : (n : ℕ) → rises n → rises' n) where
  -- the same, said of what stands further out
  pub events_weaker : (s : Status) (idle idle' : Type 0) (known old new : Option (List ℕ)) → (idle → idle') → PrintsEvents s told may begins leaves rises idle known old new → PrintsEvents s told may begins' leaves' rises' idle' known old new
  events_weaker s idle idle' known old new still p = record {
    done = λ is. whole told may begins begins' leaves leaves' rises rises' begun left rose old new known (p.done is);
    between = λ is. taken told may begins begins' leaves leaves' rises rises' begun left rose old new known (p.between is);
    within = λ is. front told may begins begins' leaves leaves' rises rises' begun left rose old new known (p.within is);
    memory = λ is. ⊎_elim (λ i. inl (still i)) (λ r. inr (taken told may begins begins' leaves leaves' rises rises' begun left rose old new known r)) (p.memory is);
    closed = λ is. ⊎_elim (λ i. inl (still i))
        (λ r. inr (taken told may begins begins' leaves leaves' (λ n. rises (n + status_faults s)) (λ n. rises' (n + status_faults s)) begun left (λ n. rose (n + status_faults s)) old new known r)) (p.closed is);
  }

module _ (told : Bool) (may : ℕ → Bool) (begins : List Batch → Type 0) (leaves : State → Type 0) (rises : ℕ → Type 0) (idle : Type 0) (known old new : Option (List ℕ)) where
  -- by a count for a number of faults, one for fewer
  module _ (fewer : (m n : ℕ) → n ≤ m → rises m → rises n) where
    whole_by : (own : ℕ) → IfSome known (Replays told may begins leaves (λ n. rises (n + own)) old new) → IfSome known (Replays told may begins leaves rises old new)
    whole_by own r = whole told may begins begins leaves leaves (λ n. rises (n + own)) rises (λ l is. is) (λ s is. is) (λ n rose. fewer (n + own) n (omega arith) rose) old new known r

    taken_by : (own : ℕ) → IfSome known (ReplaysTaken told may begins leaves (λ n. rises (n + own)) old new) → IfSome known (ReplaysTaken told may begins leaves rises old new)
    taken_by own r = taken told may begins begins leaves leaves (λ n. rises (n + own)) rises (λ l is. is) (λ s is. is) (λ n rose. fewer (n + own) n (omega arith) rose) old new known r

    front_by : (own : ℕ) → IfSome known (ReplaysFront told may begins leaves (λ n. rises (n + own)) old new) → IfSome known (ReplaysFront told may begins leaves rises old new)
    front_by own r = front told may begins begins leaves leaves (λ n. rises (n + own)) rises (λ l is. is) (λ s is. is) (λ n rose. fewer (n + own) n (omega arith) rose) old new known r

    -- a store that is not opened, or is not opened again
    closed_prints : (f : JournalFault) → idle ⊎ IfSome known (ReplaysTaken told may begins leaves (λ n. rises (n + end_faults (Err (stop.Lost f)))) old new) → PrintsEvents (status_of_store f) told may begins leaves rises idle known old new
    closed_prints f ends = record {
      done = λ is. absurd (not_of_store f status.Done refl is);
      between = λ is. absurd (⊎_elim (λ e. not_of_store f status.ReadFault refl e) (λ e. not_of_store f status.TooMuch refl e) is);
      within = λ is. absurd (not_of_store f status.SinkFault refl is);
      memory = λ is. ⊎_elim (λ i. inl i) (λ r. inr (taken_by (end_faults (Err (stop.Lost f))) r)) ends;
      closed = λ is. subst (λ (own : ℕ). idle ⊎ IfSome known (ReplaysTaken told may begins leaves (λ n. rises (n + own)) old new)) (lost_faults f) ends;
    }

    -- an end of a run that was begun, or not
    abbrev Ended : Result (Unit {0}) Stop → Type 0
    Ended end = EndsAs end (IfSome known (Replays told may begins leaves (λ n. rises (n + end_faults end)) old new)) (IfSome known (ReplaysTaken told may begins leaves (λ n. rises (n + end_faults end)) old new))
        (IfSome known (ReplaysFront told may begins leaves (λ n. rises (n + end_faults end)) old new)) idle

    pub events_print : (end : Result (Unit {0}) Stop) → Ended end → PrintsEvents (status_of_events end) told may begins leaves rises idle known old new
    events_print (Ok u) ends = record { done = λ is. whole_by 0 ends; between = λ is. absurd (⊎_elim (λ e. cc) (λ e. cc) is); within = λ is. absurd (cc); memory = λ is. absurd (cc); closed = λ is. absurd (cc) }
    events_print (Err stop.ReadFault) ends = record { done = λ is. absurd (cc); between = λ is. taken_by 0 ends; within = λ is. absurd (cc); memory = λ is. absurd (cc); closed = λ is. absurd (cc) }
    events_print (Err stop.TooMuch) ends = record { done = λ is. absurd (cc); between = λ is. taken_by 0 ends; within = λ is. absurd (cc); memory = λ is. absurd (cc); closed = λ is. absurd (cc) }
    events_print (Err stop.SinkFault) ends = record { done = λ is. absurd (cc); between = λ is. absurd (⊎_elim (λ e. cc) (λ e. cc) is); within = λ is. front_by 0 ends; memory = λ is. absurd (cc); closed = λ is. absurd (cc) }
    events_print (Err stop.Memory) ends = record { done = λ is. absurd (cc); between = λ is. absurd (⊎_elim (λ e. cc) (λ e. cc) is); within = λ is. absurd (cc); memory = λ is. inr (taken_by 0 ends); closed = λ is. absurd (cc) }
    events_print (Err (stop.Unopened f)) ends = closed_prints f (inl ends)
    events_print (Err (stop.Lost f)) ends = closed_prints f (inr ends)

  -- the shelf did not open the file
  pub shelf_prints : (f : ShelfFault) → idle → PrintsEvents (status_of_shelf f) told may begins leaves rises idle known old new
  shelf_prints shelf.Failed i = record { done = λ is. absurd (cc); between = λ is. absurd (⊎_elim (λ e. cc) (λ e. cc) is); within = λ is. absurd (cc); memory = λ is. inl i; closed = λ is. inl i }
  shelf_prints shelf.Memory i = record { done = λ is. absurd (cc); between = λ is. absurd (⊎_elim (λ e. cc) (λ e. cc) is); within = λ is. absurd (cc); memory = λ is. inl i; closed = λ is. inl i }

  pub memory_prints : idle → PrintsEvents status.Memory told may begins leaves rises idle known old new
  memory_prints i = shelf_prints shelf.Memory i

-- what was not touched
pub idle_is : {S K : Type 0} (source_old source_new : S) (sink_old sink_new : K) → (source_new ≡ source_old) × (sink_new ≡ sink_old) → IsIdle source_old source_new sink_old sink_new
idle_is source_old source_new sink_old sink_new same = record { source = same.0; sink = same.1 }

pub events_at_end : (end : Result (Unit {0}) Stop) (P : Type 0) → OnOk end P → status_of_events end ≡ status.Done → P
events_at_end (Ok u) P at_end is = at_end
events_at_end (Err stop.ReadFault) P at_end is = absurd (cc)
events_at_end (Err stop.TooMuch) P at_end is = absurd (cc)
events_at_end (Err stop.SinkFault) P at_end is = absurd (cc)
events_at_end (Err stop.Memory) P at_end is = absurd (cc)
events_at_end (Err (stop.Lost f)) P at_end is = absurd (not_of_store f status.Done refl is)
events_at_end (Err (stop.Unopened f)) P at_end is = absurd (not_of_store f status.Done refl is)

pub events_tells : (end : Result (Unit {0}) Stop) → may_tell replays (status_of_events end) ≡ true
events_tells (Ok u) = refl
events_tells (Err stop.ReadFault) = refl
events_tells (Err stop.TooMuch) = refl
events_tells (Err stop.SinkFault) = refl
events_tells (Err stop.Memory) = refl
events_tells (Err (stop.Lost f)) = refused_tells replays f
events_tells (Err (stop.Unopened f)) = refused_tells replays f

-- ---- what is kept

-- a run began, or its store was not opened
keeps_cases : (end : Result (Unit {0}) Stop) (P : Type 0) (U : JournalFault → Type 0) → KeepsAs end P U → P ⊎ ((f : JournalFault) × (end ≡ Err (stop.Unopened f)) × U f)
keeps_cases (Ok u) P U kept = inl kept
keeps_cases (Err stop.ReadFault) P U kept = inl kept
keeps_cases (Err stop.TooMuch) P U kept = inl kept
keeps_cases (Err stop.SinkFault) P U kept = inl kept
keeps_cases (Err stop.Memory) P U kept = inl kept
keeps_cases (Err (stop.Lost f)) P U kept = inl kept.0
keeps_cases (Err (stop.Unopened f)) P U kept = inr (f, refl, kept)

-- what is said of a file that is told, where it began a run or was refused
abbrev Keeping : {D : Type 0} → (D → Option (List ℕ)) → (D → ℕ) → (D → List ℕ → Type 0) → (D → ℕ → List ℕ → Type 0) → D → D → Result (Unit {0}) Stop → Type 0
Keeping content moment images images_since old new end = ForSome (content old) (λ file. KeepsAs end ((bs : List Batch) × StandsFor file bs × HasBatches (content new) (images new) bs)
    (λ fault. IsKept content moment images images_since file old new × Refuses fault (meaning file)))

module _ {D : Type 0} (content : D → Option (List ℕ)) (moment : D → ℕ) (images : D → List ℕ → Type 0) (images_since : D → ℕ → List ℕ → Type 0) (old new : D) (end : Result (Unit {0}) Stop) (keeping : Keeping content moment images images_since old new end) where
  -- where it was not begun the file is as it was
  pub ends_unbegun : (a b c idle idle' : Type 0) → (idle → idle') → EndsAs end a b c idle → EndsAs end a b c (idle' × StaysTold (content old) (content new) (images old) (images new))
  ends_unbegun = unbegun end keeping
    where
      unbegun : (e : Result (Unit {0}) Stop) → Keeping content moment images images_since old new e → (a b c idle idle' : Type 0) → (idle → idle') → EndsAs e a b c idle
          → EndsAs e a b c (idle' × StaysTold (content old) (content new) (images old) (images new))
      unbegun (Ok u) kept a b c idle idle' still ends = ends
      unbegun (Err stop.ReadFault) kept a b c idle idle' still ends = ends
      unbegun (Err stop.TooMuch) kept a b c idle idle' still ends = ends
      unbegun (Err stop.SinkFault) kept a b c idle idle' still ends = ends
      unbegun (Err stop.Memory) kept a b c idle idle' still ends = ends
      unbegun (Err (stop.Lost f)) kept a b c idle idle' still ends = ends
      unbegun (Err (stop.Unopened f)) kept a b c idle idle' still ends = (still ends, stays_refused content moment images images_since old new (λ file is. (kept file is).0))

  module _ (reads : (disk : D) (file : List ℕ) → content disk ≡ Some file → images disk file) where
    pub events_keep : Keeps (content old) (content new) (images old) (images new)
    events_keep file is = ⊎_elim
        (λ (bs, stands, has). record {
          told = has.told;
          read = λ later now. inr (bs, (has.left later (reads new later now)).0, stands, (has.left later (reads new later now)).1);
          images = λ c now. (file, reads old file is, inr (bs, (has.left c now).0, stands, (has.left c now).1));
          not_store = λ means. absurd (sound file bs not_store stands means no_store);
          damaged = λ at means. absurd (sound file bs (damaged at) stands means (no_damage at));
        })
        (λ (f, same, (kept, refuses)). keeps_refused content moment images images_since old new (λ other e. subst (λ (x : List ℕ). IsKept content moment images images_since x old new) (some_same (sym is ∙ e)) kept) file is)
        (keeps_cases end _ _ (keeping file is))

-- ---- causes

-- a hindrance says nothing of the file
hindered_store : (f : JournalFault) → IsHindrance f → status_of_store f ≡ status.NotStore → ⊥
hindered_store journal.DiskFault h is = cc
hindered_store journal.Memory h is = cc
hindered_store journal.NotStore h is = h
hindered_store (journal.Damaged at) h is = h

hindered_damage : (f : JournalFault) (at : ℕ) → IsHindrance f → status_of_store f ≡ status.Damaged at → ⊥
hindered_damage journal.DiskFault at h is = cc
hindered_damage journal.Memory at h is = cc
hindered_damage journal.NotStore at h is = h
hindered_damage (journal.Damaged other) at h is = h

module _ (file : List ℕ) (X : List Batch → Type 0) (Y : Type 0) where
  abbrev Keeping_of : Result (Unit {0}) Stop → Type 0
  Keeping_of end = KeepsAs end ((bs : List Batch) × StandsFor file bs × X bs) (λ fault. Y × Refuses fault (meaning file))

  told_store : (end : Result (Unit {0}) Stop) → Keeping_of end → status_of_events end ≡ status.NotStore → meaning file ≡ not_store
  told_store (Ok u) kept is = absurd (cc)
  told_store (Err stop.ReadFault) kept is = absurd (cc)
  told_store (Err stop.TooMuch) kept is = absurd (cc)
  told_store (Err stop.SinkFault) kept is = absurd (cc)
  told_store (Err stop.Memory) kept is = absurd (cc)
  told_store (Err (stop.Lost f)) kept is = absurd (hindered_store f kept.1 is)
  told_store (Err (stop.Unopened f)) kept is = refused_store f (meaning file) kept.1 is

  told_damage : (end : Result (Unit {0}) Stop) (at : ℕ) → Keeping_of end → status_of_events end ≡ status.Damaged at → meaning file ≡ damaged at
  told_damage (Ok u) at kept is = absurd (cc)
  told_damage (Err stop.ReadFault) at kept is = absurd (cc)
  told_damage (Err stop.TooMuch) at kept is = absurd (cc)
  told_damage (Err stop.SinkFault) at kept is = absurd (cc)
  told_damage (Err stop.Memory) at kept is = absurd (cc)
  told_damage (Err (stop.Lost f)) at kept is = absurd (hindered_damage f at kept.1 is)
  told_damage (Err (stop.Unopened f)) at kept is = refused_damage f (meaning file) at kept.1 is

  is_found_store : (end : Result (Unit {0}) Stop) → Keeping_of end → meaning file ≡ not_store → (status_of_events end ≡ status.NotStore) ⊎ IsHindered (status_of_events end)
  is_found_store end kept means = ⊎_elim
      (λ (bs, stands, has). absurd (sound file bs not_store stands means no_store))
      (λ (f, same, (y, refuses)). subst (λ (e : Result (Unit {0}) Stop). (status_of_events e ≡ status.NotStore) ⊎ IsHindered (status_of_events e)) (sym same) (found_store f (meaning file) refuses means))
      (keeps_cases end _ _ kept)

  is_found_damage : (end : Result (Unit {0}) Stop) (at : ℕ) → Keeping_of end → meaning file ≡ damaged at → (status_of_events end ≡ status.Damaged at) ⊎ IsHindered (status_of_events end)
  is_found_damage end at kept means = ⊎_elim
      (λ (bs, stands, has). absurd (sound file bs (damaged at) stands means (no_damage at)))
      (λ (f, same, (y, refuses)). subst (λ (e : Result (Unit {0}) Stop). (status_of_events e ≡ status.Damaged at) ⊎ IsHindered (status_of_events e)) (sym same) (found_damage f (meaning file) at refuses means))
      (keeps_cases end _ _ kept)

module _ (r s d l : Type 0) where
  by_read : (end : Result (Unit {0}) Stop) → EndsBy end r s d l → status_of_events end ≡ status.ReadFault → r
  by_read (Ok u) by is = absurd (cc)
  by_read (Err stop.ReadFault) by is = by
  by_read (Err stop.TooMuch) by is = absurd (cc)
  by_read (Err stop.SinkFault) by is = absurd (cc)
  by_read (Err stop.Memory) by is = absurd (cc)
  by_read (Err (stop.Lost f)) by is = absurd (not_of_store f status.ReadFault refl is)
  by_read (Err (stop.Unopened f)) by is = absurd (not_of_store f status.ReadFault refl is)

  by_sink : (end : Result (Unit {0}) Stop) → EndsBy end r s d l → status_of_events end ≡ status.SinkFault → s
  by_sink (Ok u) by is = absurd (cc)
  by_sink (Err stop.ReadFault) by is = absurd (cc)
  by_sink (Err stop.TooMuch) by is = absurd (cc)
  by_sink (Err stop.SinkFault) by is = by
  by_sink (Err stop.Memory) by is = absurd (cc)
  by_sink (Err (stop.Lost f)) by is = absurd (not_of_store f status.SinkFault refl is)
  by_sink (Err (stop.Unopened f)) by is = absurd (not_of_store f status.SinkFault refl is)

  by_length : (end : Result (Unit {0}) Stop) → EndsBy end r s d l → status_of_events end ≡ status.TooMuch → l
  by_length (Ok u) by is = absurd (cc)
  by_length (Err stop.ReadFault) by is = absurd (cc)
  by_length (Err stop.TooMuch) by is = by
  by_length (Err stop.SinkFault) by is = absurd (cc)
  by_length (Err stop.Memory) by is = absurd (cc)
  by_length (Err (stop.Lost f)) by is = absurd (not_of_store f status.TooMuch refl is)
  by_length (Err (stop.Unopened f)) by is = absurd (not_of_store f status.TooMuch refl is)

  by_disk : (end : Result (Unit {0}) Stop) → EndsBy end r s d l → status_of_events end ≡ status.DiskFault → d
  by_disk (Ok u) by is = absurd (cc)
  by_disk (Err stop.ReadFault) by is = absurd (cc)
  by_disk (Err stop.TooMuch) by is = absurd (cc)
  by_disk (Err stop.SinkFault) by is = absurd (cc)
  by_disk (Err stop.Memory) by is = absurd (cc)
  by_disk (Err (stop.Lost journal.DiskFault)) by is = by
  by_disk (Err (stop.Lost journal.NotStore)) by is = absurd (cc)
  by_disk (Err (stop.Lost (journal.Damaged at))) by is = absurd (cc)
  by_disk (Err (stop.Lost journal.Memory)) by is = absurd (cc)
  by_disk (Err (stop.Unopened journal.DiskFault)) by is = by
  by_disk (Err (stop.Unopened journal.NotStore)) by is = absurd (cc)
  by_disk (Err (stop.Unopened (journal.Damaged at))) by is = absurd (cc)
  by_disk (Err (stop.Unopened journal.Memory)) by is = absurd (cc)

  module _ (X : List Batch → Type 0) (Y : List ℕ → Type 0) where
    -- where the file is found to mean so
    found_as : (told : Option (List ℕ)) (end : Result (Unit {0}) Stop) (m : Meaning) (P : Type 0) → ForSome told (λ file. Keeping_of file X (Y file) end) → ((file : List ℕ) → Keeping_of file X (Y file) end → meaning file ≡ m → P)
        → DoesMean told m → P
    found_as None end m P keeping says means = absurd means
    found_as (Some file) end m P keeping says means = says file (keeping file refl) means

    pub events_causes : (told : Option (List ℕ)) (end : Result (Unit {0}) Stop) → EndsBy end r s d l → ForSome told (λ file. Keeping_of file X (Y file) end) → Causes (status_of_events end) r s d l (MayMean told) (DoesMean told)
    events_causes told end by keeping = record {
      read_fault = by_read end by;
      sink_fault = by_sink end by;
      disk_fault = by_disk end by;
      too_much = by_length end by;
      not_store_told = λ is file known. told_store file X (Y file) end (keeping file known) is;
      damaged_told = λ at is file known. told_damage file X (Y file) end at (keeping file known) is;
      not_store_found = found_as told end not_store _ keeping (λ file kept means. is_found_store file X (Y file) end kept means);
      damaged_found = λ at. found_as told end (damaged at) _ keeping (λ file kept means. is_found_damage file X (Y file) end at kept means);
    }

-- ---- an empty store in memory

-- an empty file stands for no batches alone
pub empty_loads : (told : Option (List ℕ)) → told ≡ Some [] → (loaded : List Batch) → Loads told loaded → loaded ≡ []
empty_loads told is loaded loads =
    let (gs, means, joins) = loads [] is in
    let none : [] ≡ gs = cc (means) in
    sym joins ∙ ap joined (sym none)

-- and means nothing else
pub empty_causes : (s : Status) (r k d l : Type 0) (told : Option (List ℕ)) → told ≡ Some [] → (d → ⊥) → Causes s r k d l (MayMean told) (DoesMean told) → Causes s r k ⊥ l (λ m. ⊥) (λ m. ⊥)
empty_causes s r k d l told is steady c = record {
  read_fault = c.read_fault;
  sink_fault = c.sink_fault;
  disk_fault = λ e. steady (c.disk_fault e);
  too_much = c.too_much;
  not_store_told = λ e. let means : groups [] ≡ not_store = c.not_store_told e [] is in cc;
  damaged_told = λ at e. let means : groups [] ≡ damaged at = c.damaged_told at e [] is in cc;
  not_store_found = λ e. absurd e;
  damaged_found = λ at e. absurd e;
}

-- a count that rose for many faults, for fewer
pub fewer_rose : (before now m n : ℕ) → n ≤ m → RoseBy before now m → RoseBy before now n
fewer_rose before now m n less rose = omega (arith, less, rose)

-- a count that never rises, for as many as it rose by
pub rose_nowhere : (n : ℕ) → RoseBy 0 0 n → n ≡ 0
rose_nowhere n rose = omega (arith, rose)
