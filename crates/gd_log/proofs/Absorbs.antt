-- Batches that are absorbed one by one, and withdrawn again.
use Rattle.std.proofs.Common.{◌≡◌, ◌⊎◌, inl, inr, ⊎_elim, Option, Some, None, Err, ℕ, ◌+◌, ◌-◌, ◌<◌, ◌≤◌, List, [], ◌∷◌, ◌++◌, length, take, drop, get_or, true, refl, sym, ◌∙◌, ap, subst, arith, length-append, length-take, append_assoc}
use Rattle.std.proofs.lemmas.List.{take-take, take_all}
use Rattle.std.proofs.Math.Seq.{take-append_seam}
use Rattle.gd_prim.specs.declared.Batch.{Batch}
use Rattle.gd_prim.specs.History.{prims_of}
use Rattle.gd_prim.specs.WellFormed.{may_follow, all_follow}
use Rattle.gd_bytes.specs.Disk.{LeavesOnly, IsUntouched}
use Rattle.gd_bytes.specs.File.{StandsFor, MayStandFor}
use Rattle.gd_disk.specs.Runs.{leaves_start, leaves_weaken, leaves_untouched}
use Rattle.gd_journal.specs.Causes.{HasReason}
use Rattle.gd_journal.specs.declared.fault.JournalFault.{JournalFault}
use Rattle.gd_journal.specs.declared.fault.JournalFault.TheVariants.{DiskFault, NotStore, Damaged, Memory}
use Rattle.gd_log.specs.State.{IsHeld}
use Rattle.gd_log.specs.Stored.{Holds, groups_in_doubt, doubt_after}
use Rattle.gd_log.specs.Writable.{follow_parts}
use Rattle.gd_list_laws.proofs.Histories.{follow_more}
use Rattle.gd_log.proofs.Replays.{next_item, take_item}

-- the next batch may follow
pub next_may : (store xs : List Batch) (i : ℕ) (b : Batch) → i < length xs → b ≡ get_or xs i b → all_follow (prims_of store) (length store) (drop i xs) ≡ true → may_follow (prims_of store) (length store) b ≡ true
next_may store xs i b lt is follow =
    (follow_parts (prims_of store) (length store) b (drop (i + 1) xs) (ap (λ (l : List Batch). all_follow (prims_of store) (length store) l) (sym (next_item xs i b lt is)) ∙ follow)).0

-- and the others may follow behind it
pub rest_may : (store now xs : List Batch) (i : ℕ) (b : Batch) → i < length xs → b ≡ get_or xs i b → now ≡ store ++ b ∷ [] → all_follow (prims_of store) (length store) (drop i xs) ≡ true → all_follow (prims_of now) (length now) (drop (i + 1) xs) ≡ true
rest_may store now xs i b lt is more follow =
    ap (λ (l : List Batch). all_follow (prims_of l) (length l) (drop (i + 1) xs)) more
    ∙ sym (follow_more store b (drop (i + 1) xs) (next_may store xs i b lt is follow))
    ∙ ap (λ (l : List Batch). all_follow (prims_of store) (length store) l) (sym (next_item xs i b lt is)) ∙ follow

-- one more was absorbed
pub more_taken : (start store now xs : List Batch) (i : ℕ) (b : Batch) → i < length xs → b ≡ get_or xs i b → now ≡ store ++ b ∷ [] → store ≡ start ++ take i xs → now ≡ start ++ take (i + 1) xs
more_taken start store now xs i b lt is more before =
    more ∙ ap (λ (l : List Batch). l ++ b ∷ []) before ∙ append_assoc start (take i xs) (b ∷ []) ∙ ap (λ (l : List Batch). start ++ l) (sym (take_item xs i b lt is))

-- all were absorbed
pub all_taken : (start store xs : List Batch) (i : ℕ) → length xs ≤ i → store ≡ start ++ take i xs → store ≡ start ++ xs
all_taken start store xs i done is = is ∙ ap (λ (l : List Batch). start ++ l) (take_all i xs done)

-- those that were absorbed are withdrawn
pub taken_back : (start store after xs : List Batch) (n : ℕ) → n ≡ length xs → store ≡ start ++ xs → after ≡ take (length store - n) store → after ≡ start
taken_back start store after xs n size is taken =
    let long : length store - n ≡ length start = omega (arith, size, ap length is, length-append start xs) in
    taken ∙ ap (λ (k : ℕ). take k store) long ∙ ap (take (length start)) is ∙ take-append_seam start xs

-- one less
pub one_less : (start store now : List Batch) (i : ℕ) → store ≡ take (length start - i) start → now ≡ take (length store - 1) store → i < length start → now ≡ take (length start - (i + 1)) start
one_less start store now i is less lt =
    let size : length store ≡ length start - i = omega (arith, ap length is, length-take (length start - i) start) in
    let count : length store - 1 ≡ length start - (i + 1) = omega (arith, size) in
    less ∙ ap (λ (k : ℕ). take k store) count ∙ ap (take (length start - (i + 1))) is ∙ take-take (length start - (i + 1)) (length start - i) start (omega (arith, lt))

-- ---- the moments of an append to both

-- where no group is in doubt, the log holds the batches
pub holds_held : (co : Option (List ℕ)) (im : List ℕ → Type 0) (gate : ℕ) (next : Option ℕ) (bs : List Batch) → Holds co im gate next bs None → IsHeld co im gate bs
holds_held co im gate None bs held = held
holds_held co im gate (Some next) bs held = absurd held

module _ {D : Type 0} {moment : D → ℕ} {images : D → List ℕ → Type 0} {images_since : D → ℕ → List ℕ → Type 0} where
  -- of one that succeeds
  pub added_moments : (old new : D) (bs after more : List Batch) → after ≡ bs ++ more → LeavesOnly moment images images_since old new (MayStandFor bs (more ∷ []))
      → LeavesOnly moment images images_since old new (λ file. StandsFor file bs ⊎ StandsFor file after)
  added_moments old new bs after more is run =
      leaves_weaken old new (MayStandFor bs (more ∷ [])) (λ file. StandsFor file bs ⊎ StandsFor file after) (λ c. ⊎_elim (λ p. inl p) (λ p. inr (subst (StandsFor c) (sym is) p))) run

  -- of one that does not
  pub failed_moments : {content : D → Option (List ℕ)} (old new : D) (bs after more : List Batch) (before now : ℕ) (fault : JournalFault) → ((c : List ℕ) → images_since old (moment old) c → images old c) → after ≡ bs → HasReason before now fault → ((c : List ℕ) → images old c → StandsFor c bs)
      → LeavesOnly moment images images_since old new (MayStandFor bs (more ∷ [])) → (fault ≡ Memory → IsUntouched content moment images images_since old new)
      → LeavesOnly moment images images_since old new (λ file. StandsFor file bs ⊎ MayStandFor after (groups_in_doubt (doubt_after (Err fault) more)) file)
  failed_moments old new bs after more before now DiskFault only is reason means run untouched =
      leaves_weaken old new (MayStandFor bs (more ∷ [])) (λ file. StandsFor file bs ⊎ MayStandFor after (more ∷ []) file)
      (λ c p. inr (subst (λ (cs : List Batch). MayStandFor cs (more ∷ []) c) (sym is) p)) run
  failed_moments old new bs after more before now Memory only is reason means run untouched =
      let P : List ℕ → Type 0 = λ file. StandsFor file bs ⊎ StandsFor file after in
      leaves_untouched old old new P (leaves_start moment images images_since old P only (λ c now. inl (means c now))) (untouched refl)
  failed_moments old new bs after more before now NotStore only is reason means run untouched = absurd reason
  failed_moments old new bs after more before now (Damaged offset) only is reason means run untouched = absurd reason
