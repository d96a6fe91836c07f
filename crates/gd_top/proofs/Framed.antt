-- What a verb prints over a disk, said of the store that its command names.
use Rattle.std.proofs.Common.{◌≡◌, ℕ, List, [], Bool, true, Option, Some, None, IsTrue, refl, sym, ap, subst, inl, ⊎_elim, ◌∙◌}
use Rattle.std.specs.Option.{is_some}
use Rattle.gd_base.specs.Counts.{RoseBy}
use Rattle.gd_prim.specs.declared.Batch.{Batch}
use Rattle.gd_disk.specs.declared.shelf.ShelfFault.{ShelfFault}
use Rattle.gd_disk.specs.declared.shelf.ShelfFault.TheVariants as shelf
use Rattle.gd_journal.specs.declared.fault.JournalFault.{JournalFault}
use Rattle.gd_journal.specs.declared.fault.JournalFault.TheVariants as journal
use Rattle.gd_runs.specs.Legal.{History}
use Rattle.gd_runs.specs.Explained.{Run}
use Rattle.gd_words.specs.Verbs.{Verb, serving, serves, caches, replays, dumps, restores, follows, answers, generates}
use Rattle.gd_replay.specs.Stops.{Leaves as LeavesEvents}
use Rattle.gd_top.specs.declared.status.Status.{Status}
use Rattle.gd_top.specs.declared.status.Status.TheVariants as status
use Rattle.gd_top.specs.Held.{Loads, Leaves, BeginsWith, EndsWith}
use Rattle.gd_top.specs.Replays.{is_told_at, LeavesAt, PrintsEvents}
use Rattle.gd_top.specs.Counted.{PrintsCounted, PrintsServed}
use Rattle.gd_top.specs.Serves.{PrintsLines}
use Rattle.gd_top.specs.Stops.{status_of_shelf, status_of_store}
use Rattle.gd_top.specs.Verbs.{PrintsOver, PrintsAt}
use Rattle.gd_top.proofs.Counted.{counted_weaker, counted_stopped}
use Rattle.gd_top.proofs.Weaker.{prints_weaker, loads_same, leaves_same}
use Rattle.gd_top.specs.Follows.{LeavesNode, LeavesNodeAt}
use Rattle.gd_top.specs.Restores.{LeavesBatches, LeavesBatchesAt}
use Rattle.gd_top.proofs.Dumped.{dump_weaker, shelf_dumps}
use Rattle.gd_top.proofs.Restored.{restores_weaker, shelf_restores}
use Rattle.gd_top.proofs.Patterned.{answers_weaker, shelf_answers}
use Rattle.gd_top.proofs.Followed.{node_weaker, shelf_node}
use Rattle.gd_top.proofs.Generated.{summary_weaker, shelf_summary}
use Rattle.gd_top.proofs.Replayed.{events_weaker, shelf_prints, empty_loads, rose_nowhere}

module _ (s : Status) (may : ℕ → Bool) (idle idle' : Type 0) (still : idle → idle') (left now old new : Option (List ℕ)) where
  -- over a disk that told the same, of which a stop leaves less, and where a count rose that counts the same faults
  pub printed_weaker : (v : Verb) (told kept : Option (List ℕ)) (images fewer : List ℕ → Type 0) (rises further : ℕ → Type 0) → told ≡ kept → ((c : List ℕ) → fewer c → images c) → ((n : ℕ) → rises n → further n)
      → PrintsOver v s may told images rises idle left now old new → PrintsOver v s may kept fewer further idle' left now old new
  printed_weaker serves told kept images fewer rises further same to rose p =
      prints_weaker may (Loads told) (Loads kept) (Leaves may told images) (Leaves may kept fewer) rises further
      (loads_same kept told same) (leaves_same may kept told images fewer same to) rose s idle idle' left now old new still p
  printed_weaker (caches n) told kept images fewer rises further same to rose p =
      counted_weaker n may (Loads told) (Loads kept) (Leaves may told images) (Leaves may kept fewer) rises further
      (loads_same kept told same) (leaves_same may kept told images fewer same to) rose s idle idle' left now old new still p
  printed_weaker replays told kept images fewer rises further same to rose p =
      let before : IsTrue (is_some kept) → IsTrue (is_some told) = λ tells. subst (λ (t : Option (List ℕ)). IsTrue (is_some t)) (sym same) tells in
      subst (λ (b : Bool). PrintsEvents s b may (Loads kept) (λ t. IsTrue (is_some kept) → LeavesEvents fewer t) further idle' left old new) (ap (λ (t : Option (List ℕ)). is_some t) same)
      (events_weaker (is_some told) may (Loads told) (Loads kept) (λ t. IsTrue (is_some told) → LeavesEvents images t) (λ t. IsTrue (is_some kept) → LeavesEvents fewer t) rises further
      (loads_same kept told same) (λ t leaves tells file is. leaves (before tells) file (to file is)) rose s idle idle' left old new still p)
  printed_weaker (dumps from) told kept images fewer rises further same to rose p = dump_weaker (Loads told) (Loads kept) (loads_same kept told same) from old new s idle idle' still p
  printed_weaker restores told kept images fewer rises further same to rose p =
      let before : IsTrue (is_some kept) → IsTrue (is_some told) = λ tells. subst (λ (t : Option (List ℕ)). IsTrue (is_some t)) (sym same) tells in
      restores_weaker (Loads told) (Loads kept) (LeavesBatches told images) (LeavesBatches kept fewer) (loads_same kept told same) (λ after groups leaves tells file is. leaves (before tells) file (to file is)) s idle idle' left still p
  printed_weaker follows told kept images fewer rises further same to rose p =
      node_weaker (Loads told) (Loads kept) (LeavesNode told images) (LeavesNode kept fewer) rises further (loads_same kept told same) (λ node leaves file known c is. leaves file (same ∙ known) c (to c is)) rose old new s idle idle' left still p
  printed_weaker answers told kept images fewer rises further same to rose p = answers_weaker (Loads told) (Loads kept) (loads_same kept told same) old new s idle idle' left still p
  printed_weaker (generates number count) told kept images fewer rises further same to rose p = summary_weaker may (Loads told) (Loads kept) rises further (loads_same kept told same) rose number count old new s idle idle' still p

  -- the disk of a path
  pub printed_at : (v : Verb) (content : List ℕ → Option (List ℕ)) (images : List ℕ → List ℕ → Type 0) (path : List ℕ) (rises : ℕ → Type 0)
      → PrintsOver v s may (content path) (images path) rises idle' left now old new → PrintsAt v s may content images (Some path) rises idle' left now old new
  printed_at serves content images path rises p = p
  printed_at (caches n) content images path rises p = p
  printed_at replays content images path rises p = p
  printed_at (dumps from) content images path rises p = p
  printed_at restores content images path rises p = p
  printed_at follows content images path rises p = p
  printed_at answers content images path rises p = p
  printed_at (generates number count) content images path rises p = p

  -- a disk in memory, of which nothing is left
  pub printed_in_memory : (v : Verb) (content : List ℕ → Option (List ℕ)) (images : List ℕ → List ℕ → Type 0)
      → PrintsOver v s may (Some []) (λ c. ⊥) (RoseBy 0 0) idle left now old new → PrintsAt v s may content images None (λ n. n ≡ 0) idle' left now old new
  printed_in_memory serves content images p =
      prints_weaker may (Loads (Some [])) (BeginsWith content None) (Leaves may (Some []) (λ c. ⊥)) (EndsWith may content images None) (RoseBy 0 0) (λ n. n ≡ 0)
      (empty_loads (Some []) refl) (λ h runs stands. tt) rose_nowhere s idle idle' left now old new still p
  printed_in_memory (caches n) content images p =
      counted_weaker n may (Loads (Some [])) (BeginsWith content None) (Leaves may (Some []) (λ c. ⊥)) (EndsWith may content images None) (RoseBy 0 0) (λ n. n ≡ 0)
      (empty_loads (Some []) refl) (λ h runs stands. tt) rose_nowhere s idle idle' left now old new still p
  printed_in_memory replays content images p =
      events_weaker true may (Loads (Some [])) (BeginsWith content None) (λ t. IsTrue true → LeavesEvents (λ c. ⊥) t) (LeavesAt content images None) (RoseBy 0 0) (λ n. n ≡ 0)
      (empty_loads (Some []) refl) (λ t leaves. tt) rose_nowhere s idle idle' left old new still p
  printed_in_memory (dumps from) content images p = dump_weaker (Loads (Some [])) (BeginsWith content None) (empty_loads (Some []) refl) from old new s idle idle' still p
  printed_in_memory restores content images p =
      restores_weaker (Loads (Some [])) (BeginsWith content None) (LeavesBatches (Some []) (λ c. ⊥)) (LeavesBatchesAt content images None) (empty_loads (Some []) refl) (λ after groups leaves. tt) s idle idle' left still p
  printed_in_memory follows content images p =
      node_weaker (Loads (Some [])) (BeginsWith content None) (LeavesNode (Some []) (λ c. ⊥)) (LeavesNodeAt content images None) (RoseBy 0 0) (λ n. n ≡ 0) (empty_loads (Some []) refl) (λ node leaves. tt) rose_nowhere old new s idle idle' left still p
  printed_in_memory answers content images p = answers_weaker (Loads (Some [])) (BeginsWith content None) (empty_loads (Some []) refl) old new s idle idle' left still p
  printed_in_memory (generates number count) content images p = summary_weaker may (Loads (Some [])) (BeginsWith content None) (RoseBy 0 0) (λ n. n ≡ 0) (empty_loads (Some []) refl) rose_nowhere number count old new s idle idle' still p

-- a run of lines, whether sessions keep replies or not
pub printed_serving : (cache : Option ℕ) (s : Status) (may : ℕ → Bool) (told : Option (List ℕ)) (images : List ℕ → Type 0) (rises : ℕ → Type 0) (idle : Type 0) (left now old new : Option (List ℕ))
    → PrintsServed cache s may (Loads told) (Leaves may told images) rises idle left now old new → PrintsOver (serving cache) s may told images rises idle left now old new
printed_serving None s may told images rises idle left now old new p = p
printed_serving (Some n) s may told images rises idle left now old new p = p

-- ---- a store that was not opened

module _ (may : ℕ → Bool) (rises : ℕ → Type 0) (idle : Type 0) (left now old new : Option (List ℕ)) where
  shelf_lines : (begins : List Batch → Type 0) (leaves : History → List Run → Type 0) (f : ShelfFault) → idle → PrintsLines (status_of_shelf f) may begins leaves rises idle left now old new
  shelf_lines begins leaves shelf.Failed i = record { done = λ is. absurd (cc); rounds = λ is. absurd (⊎_elim (λ e. cc) (λ e. cc) is); front = λ is. absurd (cc); memory = λ is. absurd (cc); nothing = λ is. i }
  shelf_lines begins leaves shelf.Memory i = record { done = λ is. absurd (cc); rounds = λ is. absurd (⊎_elim (λ e. cc) (λ e. cc) is); front = λ is. absurd (cc); memory = λ is. inl i; nothing = λ is. absurd (cc) }

  shelf_counted : (n : ℕ) (begins : List Batch → Type 0) (leaves : History → List Run → Type 0) (f : ShelfFault) → idle → PrintsCounted n (status_of_shelf f) may begins leaves rises idle left now old new
  shelf_counted n begins leaves f i = counted_stopped n (status_of_shelf f) may begins leaves rises idle left now old new (not_done f) (shelf_lines begins leaves f i)
    where
      not_done : (f : ShelfFault) → status_of_shelf f ≡ status.Done → ⊥
      not_done shelf.Failed is = cc
      not_done shelf.Memory is = cc

  -- the file was opened and gave no store
  pub refused_lines : (begins : List Batch → Type 0) (leaves : History → List Run → Type 0) (f : JournalFault) → idle → PrintsLines (status_of_store f) may begins leaves rises idle left now old new
  refused_lines begins leaves journal.DiskFault i = record { done = λ is. absurd (cc); rounds = λ is. absurd (⊎_elim (λ e. cc) (λ e. cc) is); front = λ is. absurd (cc); memory = λ is. absurd (cc); nothing = λ is. i }
  refused_lines begins leaves journal.NotStore i = record { done = λ is. absurd (cc); rounds = λ is. absurd (⊎_elim (λ e. cc) (λ e. cc) is); front = λ is. absurd (cc); memory = λ is. absurd (cc); nothing = λ is. i }
  refused_lines begins leaves (journal.Damaged offset) i = record { done = λ is. absurd (cc); rounds = λ is. absurd (⊎_elim (λ e. cc) (λ e. cc) is); front = λ is. absurd (cc); memory = λ is. absurd (cc); nothing = λ is. i }
  refused_lines begins leaves journal.Memory i = record { done = λ is. absurd (cc); rounds = λ is. absurd (⊎_elim (λ e. cc) (λ e. cc) is); front = λ is. absurd (cc); memory = λ is. inl i; nothing = λ is. absurd (cc) }

  pub refused_served : (cache : Option ℕ) (begins : List Batch → Type 0) (leaves : History → List Run → Type 0) (f : JournalFault) → idle → PrintsServed cache (status_of_store f) may begins leaves rises idle left now old new
  refused_served None begins leaves f i = refused_lines begins leaves f i
  refused_served (Some n) begins leaves f i = counted_stopped n (status_of_store f) may begins leaves rises idle left now old new (not_done f) (refused_lines begins leaves f i)
    where
      not_done : (f : JournalFault) → status_of_store f ≡ status.Done → ⊥
      not_done journal.DiskFault is = cc
      not_done journal.NotStore is = cc
      not_done (journal.Damaged offset) is = cc
      not_done journal.Memory is = cc

  -- the shelf did not open it
  pub printed_refused : (v : Verb) (f : ShelfFault) (told : Option (List ℕ)) (images : List ℕ → Type 0) → idle → PrintsOver v (status_of_shelf f) may told images rises idle left now old new
  printed_refused serves f told images i = shelf_lines (Loads told) (Leaves may told images) f i
  printed_refused (caches n) f told images i = shelf_counted n (Loads told) (Leaves may told images) f i
  printed_refused replays f told images i = shelf_prints (is_some told) may (Loads told) (λ t. IsTrue (is_some told) → LeavesEvents images t) rises idle left old new f i
  printed_refused (dumps from) f told images i = shelf_dumps (Loads told) idle from old new f i
  printed_refused restores f told images i = shelf_restores (Loads told) (LeavesBatches told images) idle left f i
  printed_refused follows f told images i = shelf_node (Loads told) (LeavesNode told images) rises idle left old new f i
  printed_refused answers f told images i = shelf_answers (Loads told) idle left old new f i
  printed_refused (generates number count) f told images i = shelf_summary may (Loads told) rises idle number count old new f i

  -- there was no memory for it
  pub printed_nothing : (v : Verb) (told : Option (List ℕ)) (images : List ℕ → Type 0) → idle → PrintsOver v status.Memory may told images rises idle left now old new
  printed_nothing v told images i = printed_refused v shelf.Memory told images i

  -- nor for the words
  pub printed_no_words : (v : Verb) (content : List ℕ → Option (List ℕ)) (images : List ℕ → List ℕ → Type 0) (path : Option (List ℕ)) → idle → PrintsAt v status.Memory may content images path rises idle left now old new
  printed_no_words serves content images path i = shelf_lines (BeginsWith content path) (EndsWith may content images path) shelf.Memory i
  printed_no_words (caches n) content images path i = shelf_counted n (BeginsWith content path) (EndsWith may content images path) shelf.Memory i
  printed_no_words replays content images path i = shelf_prints (is_told_at content path) may (BeginsWith content path) (LeavesAt content images path) rises idle left old new shelf.Memory i
  printed_no_words (dumps from) content images path i = shelf_dumps (BeginsWith content path) idle from old new shelf.Memory i
  printed_no_words restores content images path i = shelf_restores (BeginsWith content path) (LeavesBatchesAt content images path) idle left shelf.Memory i
  printed_no_words follows content images path i = shelf_node (BeginsWith content path) (LeavesNodeAt content images path) rises idle left old new shelf.Memory i
  printed_no_words answers content images path i = shelf_answers (BeginsWith content path) idle left old new shelf.Memory i
  printed_no_words (generates number count) content images path i = shelf_summary may (BeginsWith content path) rises idle number count old new shelf.Memory i
