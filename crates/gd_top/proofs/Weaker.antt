-- How a run ended, said of what stands further out.
use Rattle.std.proofs.Common.{◌≡◌, ◌≤◌, ◌+◌, ◌-◌, ◌^◌, min, ℕ, Bool, List, Option, Some, None, IfSome, subst, inl, inr, ⊎_elim, arith}
use Rattle.gd_base.specs.Counts.{Rose, RoseBy}
use Rattle.gd_prim.specs.declared.Batch.{Batch}
use Rattle.gd_runs.specs.Legal.{History}
use Rattle.gd_runs.specs.Explained.{Numbered, Run}
use Rattle.gd_top.specs.declared.status.Status.{Status}
use Rattle.gd_top.specs.Held.{Loads, Leaves, MayMean, DoesMean}
use Rattle.gd_top.specs.Ends.{Causes}
use Rattle.gd_top.specs.Serves.{Accounts, Serves, ServesFront, ServesRounds, PrintsLines}
use Rattle.gd_top.proofs.Settled.{holds_fewer}

-- ---- what was printed

module _ (may : ℕ → Bool) (begins begins' : List Batch → Type 0) (leaves leaves' : History → List Run → Type 0) (rises rises' : ℕ → Type 0)
    (begun : (loaded : List Batch) → begins loaded → begins' loaded) (left : (h : History) (runs : List Run) → leaves h runs → leaves' h runs) (rose : (n : ℕ) → rises n → rises' n) where
  pub accounts : (given : List Numbered) (output : List ℕ) → Accounts may begins leaves rises given output → Accounts may begins' leaves' rises' given output
  accounts given output a = record {
    loaded = a.loaded;
    history = a.history;
    runs = a.runs;
    begun = begun a.loaded a.begun;
    explained = a.explained;
    left = left a.history a.runs a.left;
    counted = rose _ a.counted;
  }

  serves : (old new known : Option (List ℕ)) → IfSome known (Serves may begins leaves rises old new) → IfSome known (Serves may begins' leaves' rises' old new)
  serves old new None s = tt
  serves old new (Some input) s = record { output = s.output; accounts = accounts _ s.output s.accounts; gained = s.gained }

  pub serves_front : (old new known : Option (List ℕ)) → IfSome known (ServesFront may begins leaves rises old new) → IfSome known (ServesFront may begins' leaves' rises' old new)
  serves_front old new None s = tt
  serves_front old new (Some input) s = record { output = s.output; rest = s.rest; accounts = accounts _ _ s.accounts; gained = s.gained }

  pub serves_rounds : (old new now known : Option (List ℕ)) → IfSome known (ServesRounds may begins leaves rises old new now) → IfSome known (ServesRounds may begins' leaves' rises' old new now)
  serves_rounds old new now None s = tt
  serves_rounds old new now (Some input) s = record { taken = s.taken; parts = s.parts; output = s.output; accounts = accounts _ s.output s.accounts; gained = s.gained }

  pub prints_weaker : (s : Status) (idle idle' : Type 0) (known now old new : Option (List ℕ)) → (idle → idle') → PrintsLines s may begins leaves rises idle known now old new → PrintsLines s may begins' leaves' rises' idle' known now old new
  prints_weaker s idle idle' known now old new still p = record {
    done = λ is. serves old new known (p.done is);
    rounds = λ is. serves_rounds old new now known (p.rounds is);
    front = λ is. serves_front old new known (p.front is);
    memory = λ is. ⊎_elim (λ i. inl (still i)) (λ f. inr (serves_front old new known f)) (p.memory is);
    nothing = λ is. still (p.nothing is);
  }

-- ---- a file on a shelf

pub loads_same : (kept told : Option (List ℕ)) → told ≡ kept → (loaded : List Batch) → Loads told loaded → Loads kept loaded
loads_same kept told same loaded loads = subst (λ (t : Option (List ℕ)). Loads t loaded) same loads

pub leaves_same : (may : ℕ → Bool) (kept told : Option (List ℕ)) (a b : List ℕ → Type 0) → told ≡ kept → ((c : List ℕ) → b c → a c) → (h : History) (runs : List Run) → Leaves may told a h runs → Leaves may kept b h runs
leaves_same may kept told a b same fewer h runs leaves = subst (λ (t : Option (List ℕ)). Leaves may t b h runs) same (λ some. holds_fewer may h runs a b fewer (leaves some))

pub causes_same : (s : Status) (read sink disk disk' long : Type 0) (kept told : Option (List ℕ)) → told ≡ kept → (disk → disk') → Causes s read sink disk long (MayMean told) (DoesMean told) → Causes s read sink disk' long (MayMean kept) (DoesMean kept)
causes_same s read sink disk disk' long kept told same failed c = subst (λ (t : Option (List ℕ)). Causes s read sink disk' long (MayMean t) (DoesMean t)) same (record {
  read_fault = c.read_fault;
  sink_fault = c.sink_fault;
  disk_fault = λ is. failed (c.disk_fault is);
  too_much = c.too_much;
  not_store_told = c.not_store_told;
  damaged_told = c.damaged_told;
  not_store_found = c.not_store_found;
  damaged_found = c.damaged_found;
})

-- ---- counts

-- the same over a longer time
pub rose_within : (a b before after n : ℕ) → before ≤ a → b ≤ after → RoseBy a b n → RoseBy before after n
rose_within a b before after n earlier later rose = omega (arith, earlier, later, rose)

-- the count of a device is added to that of its shelf
pub rose_added : (old mid new before after n : ℕ) → old ≤ mid → before ≡ 0 → new ≡ min (mid + after) (2 ^ 64 - 1) → RoseBy before after n → RoseBy old new n
rose_added old mid new before after n later zero is rose = omega (arith, later, zero, is, rose)

pub rose_device : (old mid new before after : ℕ) → old ≤ mid → before ≡ 0 → new ≡ min (mid + after) (2 ^ 64 - 1) → Rose before after → Rose old new
rose_device old mid new before after later zero is rose = omega (arith, later, zero, is, rose)
