-- What a stop leaves of a node's file.
use Rattle.std.proofs.Common.{◌≡◌, refl, ◌⊎◌, inl, inr, ⊎_elim, ℕ, List, Option, Some, None, sym, subst}
use Rattle.gd_prim.specs.declared.Batch.{Batch}
use Rattle.gd_bytes.specs.Disk.{LeavesOnly}
use Rattle.gd_bytes.specs.File.{StandsFor, MayStandFor}
use Rattle.gd_disk.specs.Runs.{leaves_start, leaves_join, leaves_weaken}
use Rattle.gd_log.specs.Stored.{Holds, groups_in_doubt}
use Rattle.gd_follow_laws.specs.World as world
use Rattle.gd_follow.specs.Node.{StandsForNode}

-- each image that a stop leaves of what a disk holds stands for it
pub holds_means : (co : Option (List ℕ)) (im : List ℕ → Type 0) (gate : ℕ) (next : Option ℕ) (bs : List Batch) (more : Option (List Batch)) → Holds co im gate next bs more → (c : List ℕ) → im c → MayStandFor bs (groups_in_doubt more) c
holds_means co im gate None bs None h c now = h.means c now
holds_means co im gate (Some next) bs (Some more) h c now = h.means c now
holds_means co im gate None bs (Some more) h c now = absurd h
holds_means co im gate (Some next) bs None h c now = absurd h

-- once the doubt is ended, the file stands for what it stood for
settled_stands : (node mid : world.Node) (list : List Batch) → world.Settled node list → mid ≡ world.certain list → (c : List ℕ) → StandsForNode mid c → StandsForNode node c
settled_stands node mid list (inl same) is c stands = by node.doubt refl
  where
    alone : StandsFor c node.list
    alone = subst (λ l. StandsFor c l) same (subst (λ (n : world.Node). StandsForNode n c) is stands)

    by : (d : Option (List Batch)) → node.doubt ≡ d → StandsForNode node c
    by None e = subst (λ d. MayStandFor node.list (groups_in_doubt d) c) (sym e) alone
    by (Some more) e = subst (λ d. MayStandFor node.list (groups_in_doubt d) c) (sym e) (inl alone)
settled_stands node mid list (inr (more, doubt, same)) is c stands =
    subst (λ d. MayStandFor node.list (groups_in_doubt d) c) (sym doubt) (inr (subst (λ l. StandsFor c l) same (subst (λ (n : world.Node). StandsForNode n c) is stands)))

module _ {D : Type 0} {moment : D → ℕ} {images : D → List ℕ → Type 0} {images_since : D → ℕ → List ℕ → Type 0} where
  -- nothing was written
  pub quiet : (disk : D) (co : Option (List ℕ)) (gate : ℕ) (next : Option ℕ) (node new : world.Node) → ((c : List ℕ) → images_since disk (moment disk) c → images disk c) → Holds co (images disk) gate next node.list node.doubt
      → LeavesOnly moment images images_since disk disk (λ file. StandsForNode node file ⊎ StandsForNode new file)
  quiet disk co gate next node new only holds = leaves_start moment images images_since disk (λ file. StandsForNode node file ⊎ StandsForNode new file) only (λ c now. inl (holds_means co (images disk) gate next node.list node.doubt holds c now))

  -- the doubt was ended, or not
  pub tried : (old new : D) (node after : world.Node) → LeavesOnly moment images images_since old new (StandsForNode node) → LeavesOnly moment images images_since old new (λ file. StandsForNode node file ⊎ StandsForNode after file)
  tried old new node after run = leaves_weaken old new (StandsForNode node) (λ file. StandsForNode node file ⊎ StandsForNode after file) (λ c p. inl p) run

  -- the doubt was ended, and then the group was answered
  pub joined : (old mid new : D) (node between after : world.Node) (list : List Batch) → world.Settled node list → between ≡ world.certain list
      → LeavesOnly moment images images_since old mid (λ file. StandsForNode node file ⊎ StandsForNode between file) → LeavesOnly moment images images_since mid new (λ file. StandsForNode between file ⊎ StandsForNode after file)
      → LeavesOnly moment images images_since old new (λ file. StandsForNode node file ⊎ StandsForNode after file)
  joined old mid new node between after list settled is first second =
      leaves_join old mid new (λ file. StandsForNode node file ⊎ StandsForNode after file)
      (leaves_weaken old mid (λ file. StandsForNode node file ⊎ StandsForNode between file) (λ file. StandsForNode node file ⊎ StandsForNode after file) (λ c. ⊎_elim (λ p. inl p) (λ p. inl (settled_stands node between list settled is c p))) first)
      (leaves_weaken mid new (λ file. StandsForNode between file ⊎ StandsForNode after file) (λ file. StandsForNode node file ⊎ StandsForNode after file) (λ c. ⊎_elim (λ p. inl (settled_stands node between list settled is c p)) (λ p. inr p)) second)

  -- a group was appended, or is in doubt
  pub appended : (old new : D) (node after : world.Node) (list now : List Batch) (more : Option (List Batch)) → node.list ≡ list → node.doubt ≡ None → after.list ≡ now → after.doubt ≡ more → LeavesOnly moment images images_since old new (λ file. StandsFor file list ⊎ MayStandFor now (groups_in_doubt more) file)
      → LeavesOnly moment images images_since old new (λ file. StandsForNode node file ⊎ StandsForNode after file)
  appended old new node after list now more list_is none now_is more_is run =
      leaves_weaken old new (λ file. StandsFor file list ⊎ MayStandFor now (groups_in_doubt more) file) (λ file. StandsForNode node file ⊎ StandsForNode after file)
      (λ c. ⊎_elim
      (λ p. inl (subst (λ o. MayStandFor node.list (groups_in_doubt o) c) (sym none) (subst (λ l. StandsFor c l) (sym list_is) p)))
      (λ p. inr (subst (λ o. MayStandFor after.list (groups_in_doubt o) c) (sym more_is) (subst (λ l. MayStandFor l (groups_in_doubt more) c) (sym now_is) p))))
      run
