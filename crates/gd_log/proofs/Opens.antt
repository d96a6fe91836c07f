-- What opening a file says of its meaning.
use Rattle.std.proofs.Common.{◌≡◌, inl, inr, ℕ, ◌≤◌, List, [], Some, None, refl, sym, ◌∙◌, ap, subst, arith}
use Rattle.std.specs.Option.{is_some}
use Rattle.gd_base.specs.Counts.{Rose}
use Rattle.std.specs.Prelude.{Option, MatchOption}
use Rattle.gd_prim.specs.declared.Batch.{Batch}
use Rattle.gd_bytes.specs.Disk.{LeavesOnly, IsUntouched}
use Rattle.gd_bytes.specs.File.{Meaning, Version, is_marked, Payloads, meaning, StandsFor}
use Rattle.gd_disk.specs.Runs.{leaves_start, leaves_join, leaves_weaken, leaves_untouched}
use Rattle.gd_journal.specs.declared.fault.JournalFault.{JournalFault}
use Rattle.gd_journal.specs.declared.fault.JournalFault.TheVariants.{DiskFault, NotStore, Damaged, Memory}
use Rattle.gd_journal.specs.Causes.{HasReason, MayRefuse}
use Rattle.gd_journal.specs.Meaning as journal
use Rattle.gd_journal.specs.State.{IsOpened}
use Rattle.gd_log.specs.Groups.{AreGroups}
use Rattle.gd_log.specs.State.{IsHeld}
use Rattle.gd_log.specs.Opening.{MeansOneOf, Refuses, Loads, IsKept, bytes_of}
use Rattle.gd_log.proofs.Meaning.{bytes, meaning_is, meaning_none, same_meaning, walk_all, with_mark_groups, located_bytes}
use Rattle.gd_log.proofs.Held.{hold}

one_found : (a b : Payloads) (o : Option Payloads) → o ≡ Some a → o ≡ Some b → a ≡ b
one_found a b o p q = cc

-- what a journal says of the file, where it refuses it
pub journal_refuses : (f : JournalFault) (before now : ℕ) (file : List ℕ) → MayRefuse before now f → (f ≡ NotStore → journal.held_by file ≡ None) → Refuses f (meaning file)
journal_refuses DiskFault before now file may none = tt
journal_refuses NotStore before now file may none = meaning_none file (none refl)
journal_refuses (Damaged offset) before now file may none = absurd may
journal_refuses Memory before now file may none = tt

-- what was loaded is what the file stands for
pub loads_stands : (v : Version) (file : List ℕ) (bs : List Batch) → Loads v file bs → StandsFor file bs
loads_stands v file bs (last, read, begins, is, are) =
    let w = walk_all (is_marked v) read last bs are in
    (w.0, meaning_is v file (record { list = read; damaged = None }) begins is ∙ w.1, w.2)

-- files that tell the same stand for the same
pub same_stands : (c file : List ℕ) (bs : List Batch) → journal.told_by c ≡ journal.told_by file → StandsFor file bs → StandsFor c bs
same_stands c file bs same (gs, is, all) = (gs, same_meaning c file same ∙ is, all)

-- ---- what a journal answers as it is finished

pub reason_refuses : (f : JournalFault) (before now : ℕ) (m : Meaning) → HasReason before now f → Refuses f m
reason_refuses DiskFault before now m reason = tt
reason_refuses NotStore before now m reason = absurd reason
reason_refuses (Damaged offset) before now m reason = absurd reason
reason_refuses Memory before now m reason = tt

pub reason_rose : (f : JournalFault) (before mid now : ℕ) → before ≤ mid → HasReason mid now f → f ≡ DiskFault → Rose before now
reason_rose DiskFault before mid now le reason e = omega (arith, reason)
reason_rose NotStore before mid now le reason e = absurd reason
reason_rose (Damaged offset) before mid now le reason e = absurd reason
reason_rose Memory before mid now le reason e = cc

module _ {D : Type 0} {content : D → Option (List ℕ)} {moment : D → ℕ} {images : D → List ℕ → Type 0} {images_since : D → ℕ → List ℕ → Type 0} where
  -- nothing was changed
  pub untouched_means : (old new : D) → ((c : List ℕ) → images_since old (moment old) c → images old c) → IsUntouched content moment images images_since old new → LeavesOnly moment images images_since old new (MeansOneOf (images old))
  untouched_means old new only_now u =
      let P : List ℕ → Type 0 = MeansOneOf (images old) in
      leaves_untouched old old new P (leaves_start moment images images_since old P only_now (λ c now. (c, now, refl))) u

  pub kept_untouched : (old new : D) (file : List ℕ) → content old ≡ Some file → IsUntouched content moment images images_since old new → IsKept content moment images images_since file old new
  kept_untouched old new file is u = record {
    told = ap is_some (u.same ∙ is);
    read = λ c there. let same : c ≡ file = cc (u.same, is, there) in inl same;
    stops = λ c now. (c, u.now c now, inl refl);
    left = λ _. u;
  }

  -- nothing was changed, and then the file was cut
  pub finished_means : (old mid new : D) (file : List ℕ) → ((c : List ℕ) → images_since old (moment old) c → images old c) → images old file → IsUntouched content moment images images_since old mid
      → LeavesOnly moment images images_since mid new (λ c. journal.told_by c ≡ journal.told_by file) → LeavesOnly moment images images_since old new (MeansOneOf (images old))
  finished_means old mid new file only_now there u run =
      let P : List ℕ → Type 0 = MeansOneOf (images old) in
      leaves_join old mid new P (untouched_means old mid only_now u)
      (leaves_weaken mid new (λ c. journal.told_by c ≡ journal.told_by file) P (λ c same. (file, there, same_meaning c file same)) run)

  pub kept_finished : (old mid new : D) (file : List ℕ) (bs : List Batch) → ((f : List ℕ) → content new ≡ Some f → images new f) → images old file → content old ≡ Some file → IsUntouched content moment images images_since old mid → StandsFor file bs
      → LeavesOnly moment images images_since mid new (λ c. journal.told_by c ≡ journal.told_by file) → is_some (content new) ≡ is_some (content mid) → IsKept content moment images images_since file old new
  kept_finished old mid new file bs reads_one there is u st run same_told = record {
    told = same_told ∙ ap is_some (u.same ∙ is);
    read = λ c told. inr (bs, st, same_stands c file bs (run.now c (reads_one c told)) st);
    stops = λ c now. (file, there, inr (bs, st, same_stands c file bs (run.now c now) st));
    left = λ none. absurd (none bs st);
  }

-- a journal that was finished, and whose payloads were loaded, holds what was loaded
pub held_finished : (co : Option (List ℕ)) (im : List ℕ → Type 0) (v w : Version) (gate : ℕ) (file : List ℕ) (d : Option ℕ) (bs : List Batch) (B : ℕ → Type 0) → d ≡ None → w ≡ v
    → MatchOption d (IsOpened co im w gate file) B → Loads v file bs → IsHeld co im gate bs
held_finished co im v w gate file None bs B none same (ps, stands_for, settled) (last, read, begins, is, are) =
    let found : Payloads = record { list = read; damaged = None } in
    let one : found ≡ journal.whole ps = one_found found (journal.whole ps) (journal.held_by file) is stands_for.0 in
    let list : read ≡ journal.located 8 ps = ap (λ (p : Payloads). p.list) one in
    let all : bytes_of read ≡ ps = ap bytes list ∙ located_bytes 8 ps in
    let there = subst (λ (l : List (List ℕ)). AreGroups (is_marked v) [] l last bs) all are in
    let groups = with_mark_groups w ps last bs (subst (λ (u : Version). AreGroups (is_marked u) [] ps last bs) (sym same) there) in
    hold co im gate w (journal.with_mark w ps) bs groups settled
held_finished co im v w gate file (Some at) bs B none same m loads = cc
