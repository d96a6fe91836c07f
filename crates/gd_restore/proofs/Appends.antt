-- What a stop leaves of an append of the group that was gathered.
use Rattle.std.proofs.Common.{◌≡◌, ◌⊎◌, inl, inr, ⊎_elim, ap, subst, ℕ, List, [], ◌∷◌, ◌++◌, ◌∙◌, Err, Option, None}
use Rattle.gd_prim.specs.declared.Batch.{Batch}
use Rattle.gd_bytes.specs.Disk.{LeavesOnly}
use Rattle.gd_bytes.specs.File.{StandsFor, MayStandFor}
use Rattle.gd_disk.specs.Runs.{leaves_weaken}
use Rattle.gd_journal.specs.declared.fault.JournalFault.{JournalFault}
use Rattle.gd_journal.specs.declared.fault.JournalFault.TheVariants as journal
use Rattle.gd_log.specs.Stored.{Stored, groups_in_doubt, doubt_after}
use Rattle.gd_restore.specs.Gathered.{HoldsAs}

module _ {D : Type 0} {moment : D → ℕ} {images : D → List ℕ → Type 0} {images_since : D → ℕ → List ℕ → Type 0} where
  pub ok_moments : (old new : D) (bs after given group : List Batch) → given ≡ group → after ≡ bs ++ given → LeavesOnly moment images images_since old new (λ file. StandsFor file bs ⊎ MayStandFor after [] file)
      → LeavesOnly moment images images_since old new (MayStandFor bs (group ∷ []))
  ok_moments old new bs after given group same is run =
      leaves_weaken old new (λ file. StandsFor file bs ⊎ MayStandFor after [] file) (MayStandFor bs (group ∷ [])) (λ c. ⊎_elim (λ p. inl p) (λ p. inr (subst (λ (l : List Batch). StandsFor c l) (is ∙ ap (λ (l : List Batch). bs ++ l) same) p))) run

  pub err_moments : (old new : D) (bs after given group : List Batch) (fault : JournalFault) → given ≡ group → after ≡ bs → LeavesOnly moment images images_since old new (λ file. StandsFor file bs ⊎ MayStandFor after (groups_in_doubt (doubt_after (Err fault) given)) file)
      → LeavesOnly moment images images_since old new (MayStandFor bs (group ∷ []))
  err_moments old new bs after given group fault same is run =
      leaves_weaken old new (λ file. StandsFor file bs ⊎ MayStandFor after (groups_in_doubt (doubt_after (Err fault) given)) file) (MayStandFor bs (group ∷ []))
      (λ c. ⊎_elim (λ p. inl p) (λ p. by c fault (subst (λ (l : List Batch). MayStandFor bs (groups_in_doubt (doubt_after (Err fault) l)) c) same (subst (λ (l : List Batch). MayStandFor l (groups_in_doubt (doubt_after (Err fault) given)) c) is p)))) run
    where
      by : (c : List ℕ) (f : JournalFault) → MayStandFor bs (groups_in_doubt (doubt_after (Err f) group)) c → MayStandFor bs (group ∷ []) c
      by c journal.DiskFault p = p
      by c journal.NotStore p = inl p
      by c (journal.Damaged offset) p = inl p
      by c journal.Memory p = inl p

-- the same of the log as it was before the call
pub log_before : {D : Type 0} (content : D → Option (List ℕ)) (moment : D → ℕ) (images : D → List ℕ → Type 0) (images_since : D → ℕ → List ℕ → Type 0) (now old : Stored D) (new : D) (group : List Batch) → now ≡ old
    → (HoldsAs content images now None → LeavesOnly moment images images_since now.log.disk new (MayStandFor now.batches (group ∷ [])))
    → HoldsAs content images old None → LeavesOnly moment images images_since old.log.disk new (MayStandFor old.batches (group ∷ []))
log_before {D} content moment images images_since now old new group same run =
    subst (λ (s : Stored D). HoldsAs content images s None → LeavesOnly moment images images_since s.log.disk new (MayStandFor s.batches (group ∷ []))) same run
