-- What the disk of a log holds over a call.
use Rattle.std.proofs.Common.{◌≡◌, ℕ, ◌≤◌, List, [], ◌∷◌, length, flat_map, refl, ◌∙◌, ap, arith, length-append}
use Rattle.std.specs.Prelude.{Option, Some, None, IsSome, true}
use Rattle.std.specs.Option.{is_some}
use Rattle.std.specs.Int.{to_be_bytes, w16}
use Rattle.gd_prim.specs.declared.Batch.{Batch}
use Rattle.gd_bytes.specs.Disk.{LeavesOnly, IsUntouched}
use Rattle.gd_bytes.specs.File.{Version, is_marked, MayStandFor}
use Rattle.gd_bytes.specs.Group.{IsGroup, group_of, batch_bytes}
use Rattle.gd_disk.specs.Runs.{leaves_weaken}
use Rattle.gd_journal.specs.Meaning as journal
use Rattle.gd_journal.specs.State.{IsSettled, IsInDoubt}
use Rattle.gd_log.specs.Groups.{IsNext, AreGroups}
use Rattle.gd_log.specs.State.{IsHeld, IsUnsure, HoldsBefore}
use Rattle.gd_log.proofs.Meaning.{stands, may_stand}

-- what is told is some file
pub told_file : (content : Option (List ℕ)) → IsSome content → (file : List ℕ) × (content ≡ Some file)
told_file (Some file) is = (file, refl)
told_file None is = cc

-- ---- what is held

-- the next group of what is held
pub held_next : (co : Option (List ℕ)) (im : List ℕ → Type 0) (gate : ℕ) (bs more : List Batch) (p : List ℕ) → HoldsBefore co im gate bs more → IsGroup p more → group_of p ≡ Some more → IsNext true bs p more
held_next co im gate bs more p before is meant = record { group = is; meant = meant; langs = refl; follow = before.follow }

pub hold : (co : Option (List ℕ)) (im : List ℕ → Type 0) (gate : ℕ) (v : Version) (ps : List (List ℕ)) (bs : List Batch) → AreGroups (is_marked v) [] ps true bs → IsSettled co im gate v ps → IsHeld co im gate bs
hold co im gate v ps bs are s = record { version = v; payloads = ps; groups = are; settled = s; means = λ c now. stands c v ps true bs (s.means c now) are }

pub doubt : (co : Option (List ℕ)) (im : List ℕ → Type 0) (gate next : ℕ) (v : Version) (ps : List (List ℕ)) (p : List ℕ) (bs more : List Batch) → AreGroups (is_marked v) [] ps true bs → IsNext true bs p more → IsInDoubt co im gate next v ps p
    → IsUnsure co im gate next bs more
doubt co im gate next v ps p bs more are n s = record { version = v; payloads = ps; last = p; groups = are; next_group = n; doubt = s; means = λ c now. may_stand c v ps p true bs more (s.means c now) are n }

-- what leaves payloads leaves their batches
pub leaves : {D : Type 0} {moment : D → ℕ} {images : D → List ℕ → Type 0} {images_since : D → ℕ → List ℕ → Type 0} (old new : D) (v : Version) (ps : List (List ℕ)) (p : List ℕ) (bs more : List Batch) → AreGroups (is_marked v) [] ps true bs → IsNext true bs p more
    → LeavesOnly moment images images_since old new (journal.MayStandFor v ps p) → LeavesOnly moment images images_since old new (MayStandFor bs (more ∷ []))
leaves old new v ps p bs more are n run =
    leaves_weaken old new (journal.MayStandFor v ps p) (MayStandFor bs (more ∷ [])) (λ c may. may_stand c v ps p true bs more may are n) run

-- where nothing was changed the same payloads are there
pub settled_untouched : {D : Type 0} {content : D → Option (List ℕ)} {moment : D → ℕ} {images : D → List ℕ → Type 0} {images_since : D → ℕ → List ℕ → Type 0} (old new : D) (gate : ℕ) (v : Version) (ps : List (List ℕ)) → IsUntouched content moment images images_since old new
    → IsSettled (content old) (images old) gate v ps → IsSettled (content new) (images new) gate v ps
settled_untouched old new gate v ps u s = record {
  each = s.each;
  rests = record { told = ap is_some u.same ∙ s.rests.told; place = s.rests.place; left = λ c now. s.rests.left c (u.now c now) };
  means = λ c now. s.means c (u.now c now);
}

-- ---- the bytes of a group

-- they are some
pub group_some : (p : List ℕ) (bs : List Batch) → IsGroup p bs → 1 ≤ length p
group_some p bs is = omega (arith, ap length is.1, length-append (to_be_bytes w16 (length bs)) (flat_map batch_bytes bs))
