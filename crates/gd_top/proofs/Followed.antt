-- What a run of a node printed, said of what stands further out, and where a store was not opened.
use Rattle.std.proofs.Common.{◌≡◌, ◌⊎◌, ℕ, List, true, Option, Some, None, IfSome, Result, Ok, Err, OnOk, refl, inl, inr, ⊎_elim}
use Rattle.std.specs.Option.{ForSome, is_some}
use Rattle.gd_prim.specs.declared.Batch.{Batch}
use Rattle.gd_bytes.specs.File.{meaning, StandsFor}
use Rattle.gd_runs.specs.Explained.{Numbered}
use Rattle.gd_disk.specs.declared.shelf.ShelfFault.{ShelfFault}
use Rattle.gd_disk.specs.declared.shelf.ShelfFault.TheVariants as shelf
use Rattle.gd_journal.specs.declared.fault.JournalFault.{JournalFault}
use Rattle.gd_journal.specs.declared.fault.JournalFault.TheVariants as journal
use Rattle.gd_log.specs.Opening.{IsKept, Refuses}
use Rattle.gd_words.specs.Verbs.{follows}
use Rattle.gd_answering.specs.declared.stop.Stop.{Stop}
use Rattle.gd_answering.specs.declared.stop.Stop.TheVariants as line
use Rattle.gd_following.specs.declared.stop.FollowStop.{FollowStop}
use Rattle.gd_following.specs.declared.stop.FollowStop.TheVariants as stop
use Rattle.gd_following.specs.Stops.{EndsAs, EndsBy, IfBetween, KeepsAs}
use Rattle.gd_following.specs.Runs.{Accounts, FollowsAll, FollowsTaken, FollowsFront, HasBatches}
use Rattle.gd_follow_laws.specs.World.{Node}
use Rattle.gd_top.specs.declared.status.Status.{Status}
use Rattle.gd_top.specs.declared.status.Status.TheVariants as status
use Rattle.gd_top.specs.Stops.{status_of_shelf, status_of_store, status_of_follow}
use Rattle.gd_top.specs.Ends.{Causes, may_tell}
use Rattle.gd_top.specs.Held.{MayMean, DoesMean}
use Rattle.gd_top.specs.Kept.{Keeps, StaysTold}
use Rattle.gd_top.specs.Follows.{PrintsNode}
use Rattle.gd_top.proofs.Caused.{not_of_store, causes_begun, causes_refused, refused_tells}
use Rattle.gd_top.proofs.Kept.{keeps_further, keeps_refused, stays_refused}

module _ (begins begins' : List Batch → Type 0) (leaves leaves' : Node → Type 0) (rises rises' : ℕ → Type 0)
    (begun : (loaded : List Batch) → begins loaded → begins' loaded) (left : (node : Node) → leaves node → leaves' node) (rose : (n : ℕ) → rises n → rises' n) (old new : Option (List ℕ)) where
  accounts : (given : List Numbered) (output : List ℕ) → Accounts begins leaves rises given output → Accounts begins' leaves' rises' given output
  accounts given output a = record { loaded = a.loaded; node = a.node; begun = begun a.loaded a.begun; follows = a.follows; left = left a.node a.left; counted = rose _ a.counted }

  all : (known : Option (List ℕ)) → IfSome known (FollowsAll begins leaves rises old new) → IfSome known (FollowsAll begins' leaves' rises' old new)
  all None a = tt
  all (Some input) a = record { output = a.output; accounts = accounts _ a.output a.accounts; gained = a.gained }

  taken : (known : Option (List ℕ)) → IfSome known (FollowsTaken begins leaves rises old new) → IfSome known (FollowsTaken begins' leaves' rises' old new)
  taken None a = tt
  taken (Some input) a = record { taken = a.taken; output = a.output; accounts = accounts _ a.output a.accounts; gained = a.gained }

  front : (known : Option (List ℕ)) → IfSome known (FollowsFront begins leaves rises old new) → IfSome known (FollowsFront begins' leaves' rises' old new)
  front None a = tt
  front (Some input) a = record { taken = a.taken; output = a.output; rest = a.rest; accounts = accounts _ _ a.accounts; gained = a.gained }

  pub node_weaker : (s : Status) (idle idle' : Type 0) (known : Option (List ℕ)) → (idle → idle') → PrintsNode s begins leaves rises idle known old new → PrintsNode s begins' leaves' rises' idle' known old new
  node_weaker s idle idle' known still p = record {
    done = λ is. all known (p.done is);
    between = λ is. taken known (p.between is);
    within = λ is. front known (p.within is);
    memory = λ is. ⊎_elim (λ i. inl (still i)) (λ a. inr (taken known a)) (p.memory is);
    nothing = λ is. still (p.nothing is);
  }

module _ (begins : List Batch → Type 0) (leaves : Node → Type 0) (rises : ℕ → Type 0) (idle : Type 0) (known old new : Option (List ℕ)) where
  -- the store was not opened
  refused_node : (f : JournalFault) → idle → PrintsNode (status_of_store f) begins leaves rises idle known old new
  refused_node f i = record {
    done = λ is. absurd (not_of_store f status.Done refl is);
    between = λ is. absurd (⊎_elim (λ e. not_of_store f status.ReadFault refl e) (λ e. not_of_store f status.TooMuch refl e) is);
    within = λ is. absurd (not_of_store f status.SinkFault refl is);
    memory = λ is. inl i;
    nothing = λ is. i;
  }

  -- nor its file
  pub shelf_node : (f : ShelfFault) → idle → PrintsNode (status_of_shelf f) begins leaves rises idle known old new
  shelf_node shelf.Failed i = refused_node journal.DiskFault i
  shelf_node shelf.Memory i = refused_node journal.Memory i

  -- what was printed, by how it ended
  pub node_prints : (still : Type 0) → (still → idle) → (end : Result (Unit {0}) FollowStop)
      → EndsAs end (IfSome known (FollowsAll begins leaves rises old new)) (IfSome known (FollowsTaken begins leaves rises old new)) (IfSome known (FollowsFront begins leaves rises old new)) still
      → PrintsNode (status_of_follow end) begins leaves rises idle known old new
  node_prints still is_idle (Ok u) ends = record { done = λ is. ends; between = λ is. absurd (⊎_elim (λ e. cc) (λ e. cc) is); within = λ is. absurd (cc); memory = λ is. absurd (cc); nothing = λ is. absurd (cc) }
  node_prints still is_idle (Err (stop.Unopened f)) ends = refused_node f (is_idle ends)
  node_prints still is_idle (Err (stop.Stopped line.ReadFault)) ends = record { done = λ is. absurd (cc); between = λ is. ends; within = λ is. absurd (cc); memory = λ is. absurd (cc); nothing = λ is. absurd (cc) }
  node_prints still is_idle (Err (stop.Stopped line.TooMuch)) ends = record { done = λ is. absurd (cc); between = λ is. ends; within = λ is. absurd (cc); memory = λ is. absurd (cc); nothing = λ is. absurd (cc) }
  node_prints still is_idle (Err (stop.Stopped line.SinkFault)) ends = record { done = λ is. absurd (cc); between = λ is. absurd (⊎_elim (λ e. cc) (λ e. cc) is); within = λ is. ends; memory = λ is. absurd (cc); nothing = λ is. absurd (cc) }
  node_prints still is_idle (Err (stop.Stopped line.Memory)) ends = record { done = λ is. absurd (cc); between = λ is. absurd (⊎_elim (λ e. cc) (λ e. cc) is); within = λ is. absurd (cc); memory = λ is. inr ends; nothing = λ is. absurd (cc) }

unopened_by : (r k d l : Type 0) (f : JournalFault) → EndsBy (Err (stop.Unopened f)) r k d l → f ≡ journal.DiskFault → d
unopened_by r k d l journal.DiskFault by is = by
unopened_by r k d l journal.NotStore by is = absurd (cc)
unopened_by r k d l (journal.Damaged offset) by is = absurd (cc)
unopened_by r k d l journal.Memory by is = absurd (cc)

-- what is kept of a file that is told, where the run was begun and where its store was not opened
abbrev Keeping : (X : List Batch → Type 0) (Y : List ℕ → Type 0) → List ℕ → Result (Unit {0}) FollowStop → Type 0
Keeping X Y file end = KeepsAs end ((bs : List Batch) × StandsFor file bs × X bs) (λ fault. Y file × Refuses fault (meaning file))

module _ (r k d l : Type 0) (X : List Batch → Type 0) (Y : List ℕ → Type 0) (told : Option (List ℕ)) where
  stands : (s : Stop) → ForSome told (λ file. Keeping X Y file (Err (stop.Stopped s))) → ForSome told (λ file. (bs : List Batch) × StandsFor file bs)
  stands s kept file is = let (bs, there, x) = kept file is in (bs, there)

  -- and why
  pub node_causes : (end : Result (Unit {0}) FollowStop) → EndsBy end r k d l → ForSome told (λ file. Keeping X Y file end) → Causes (status_of_follow end) r k d l (MayMean told) (DoesMean told)
  node_causes (Ok u) by kept = causes_begun status.Done r k d l told refl (λ is. absurd (cc)) (λ is. absurd (cc)) (λ is. absurd (cc)) (λ is. absurd (cc)) (λ file is. let (bs, there, x) = kept file is in (bs, there))
  node_causes (Err (stop.Unopened f)) by kept = causes_refused f r k d l told (unopened_by r k d l f by) (λ file is. (kept file is).1)
  node_causes (Err (stop.Stopped line.ReadFault)) by kept = causes_begun status.ReadFault r k d l told refl (λ is. by) (λ is. absurd (cc)) (λ is. absurd (cc)) (λ is. absurd (cc)) (stands line.ReadFault kept)
  node_causes (Err (stop.Stopped line.SinkFault)) by kept = causes_begun status.SinkFault r k d l told refl (λ is. absurd (cc)) (λ is. by) (λ is. absurd (cc)) (λ is. absurd (cc)) (stands line.SinkFault kept)
  node_causes (Err (stop.Stopped line.Memory)) by kept = causes_begun status.Memory r k d l told refl (λ is. absurd (cc)) (λ is. absurd (cc)) (λ is. absurd (cc)) (λ is. absurd (cc)) (stands line.Memory kept)
  node_causes (Err (stop.Stopped line.TooMuch)) by kept = causes_begun status.TooMuch r k d l told refl (λ is. absurd (cc)) (λ is. absurd (cc)) (λ is. absurd (cc)) (λ is. by) (stands line.TooMuch kept)

pub node_tells : (end : Result (Unit {0}) FollowStop) → may_tell follows (status_of_follow end) ≡ true
node_tells (Ok u) = refl
node_tells (Err (stop.Unopened f)) = refused_tells follows f
node_tells (Err (stop.Stopped line.ReadFault)) = refl
node_tells (Err (stop.Stopped line.SinkFault)) = refl
node_tells (Err (stop.Stopped line.Memory)) = refl
node_tells (Err (stop.Stopped line.TooMuch)) = refl

-- what is so of a run that is done
pub node_done : (P : Type 0) (end : Result (Unit {0}) FollowStop) → OnOk end P → status_of_follow end ≡ status.Done → P
node_done P (Ok u) ok is = ok
node_done P (Err (stop.Unopened f)) ok is = absurd (not_of_store f status.Done refl is)
node_done P (Err (stop.Stopped line.ReadFault)) ok is = absurd (cc)
node_done P (Err (stop.Stopped line.SinkFault)) ok is = absurd (cc)
node_done P (Err (stop.Stopped line.Memory)) ok is = absurd (cc)
node_done P (Err (stop.Stopped line.TooMuch)) ok is = absurd (cc)

-- what is so of one that ended behind a line
pub node_between : (P : Type 0) (end : Result (Unit {0}) FollowStop) → IfBetween end P → status_of_follow end ≡ status.Done → P
node_between P (Ok u) between is = between
node_between P (Err (stop.Unopened f)) between is = absurd (not_of_store f status.Done refl is)
node_between P (Err (stop.Stopped line.ReadFault)) between is = absurd (cc)
node_between P (Err (stop.Stopped line.SinkFault)) between is = absurd (cc)
node_between P (Err (stop.Stopped line.Memory)) between is = absurd (cc)
node_between P (Err (stop.Stopped line.TooMuch)) between is = absurd (cc)

-- ---- the file

module _ {D : Type 0} (content : D → Option (List ℕ)) (moment : D → ℕ) (images : D → List ℕ → Type 0) (images_since : D → ℕ → List ℕ → Type 0) (old new : D) (same : is_some (content new) ≡ is_some (content old)) where
  -- of a run that was begun, the batches and further ones; else what reads the same
  pub node_keeps : ((disk : D) (file : List ℕ) → content disk ≡ Some file → images disk file) → (end : Result (Unit {0}) FollowStop)
      → ForSome (content old) (λ file. Keeping (HasBatches (images new)) (λ f. IsKept content moment images images_since f old new) file end) → Keeps (content old) (content new) (images old) (images new)
  node_keeps reads (Ok u) kept file is = let (bs, there, has) = kept file is in keeps_further content images reads old new file bs is same there has
  node_keeps reads (Err (stop.Unopened f)) kept file is = keeps_refused content moment images images_since old new (λ other e. (kept other e).0) file is
  node_keeps reads (Err (stop.Stopped s)) kept file is = let (bs, there, has) = kept file is in keeps_further content images reads old new file bs is same there has

  -- a run that did not begin leaves it as it was
  pub node_stays : (end : Result (Unit {0}) FollowStop) (X : List Batch → Type 0) (a b w idle idle' : Type 0) → ForSome (content old) (λ file. Keeping X (λ f. IsKept content moment images images_since f old new) file end) → (idle → idle')
      → EndsAs end a b w idle → EndsAs end a b w (idle' × StaysTold (content old) (content new) (images old) (images new))
  node_stays (Ok u) X a b w idle idle' kept still ends = ends
  node_stays (Err (stop.Unopened f)) X a b w idle idle' kept still ends = (still ends, stays_refused content moment images images_since old new (λ file is. (kept file is).0))
  node_stays (Err (stop.Stopped line.ReadFault)) X a b w idle idle' kept still ends = ends
  node_stays (Err (stop.Stopped line.SinkFault)) X a b w idle idle' kept still ends = ends
  node_stays (Err (stop.Stopped line.Memory)) X a b w idle idle' kept still ends = ends
  node_stays (Err (stop.Stopped line.TooMuch)) X a b w idle idle' kept still ends = ends
