-- Laws of what a disk in memory leaves. They are those of the trait of disks.
use Rattle.std.specs.Prelude.{◌≡◌, ℕ, ◌+◌, ◌≤◌, List, [], ◌∷◌, length, drop, Option, Some, None, refl}
use Rattle.std.proofs.Common.{zero, suc, inl, sym, subst, arith}
use Rattle.gd_disk.specs.Recorded.{Recorded, Made, wrote, cut_to, synced, held, left, left_since}
use Rattle.gd_disk.specs.Shelved.{content_in, images_in}

-- what a read gives may be left
pub held_left : (first : List ℕ) (made : List Made) → left first made (held first made)
held_left first [] = refl
held_left first (wrote at bytes ∷ made) = inl refl
held_left first (cut_to n ∷ made) = inl refl
held_left first (synced ∷ made) = refl

pub reads_one_law : (first : List ℕ) (made : List Made) (file : List ℕ) → Some (held first made) ≡ Some file → left first made file
reads_one_law first made file is =
    let same : held first made ≡ file = cc in
    subst (λ (f : List ℕ). left first made f) same (held_left first made)

pub counts_now_law : (first : List ℕ) (made : List Made) (t : ℕ) (c : List ℕ) → t ≤ length made → left first made c → left_since first made t c
counts_now_law first made t c le now = (0, omega arith, now)

at_last : (first : List ℕ) (made : List Made) (later : ℕ) (c : List ℕ) → length made + later ≤ length made → left first (drop later made) c → left first made c
at_last first made zero c le has = has
at_last first made (suc j) c le has = absurd (omega arith)

pub only_now_law : (first : List ℕ) (made : List Made) (c : List ℕ) → left_since first made (length made) c → left first made c
only_now_law first made c since = at_last first made since.0 c since.1 since.2

-- what a slot of a shelf in memory holds as it reads may be left
pub slot_reads_law : (slot : Option (Option Recorded)) (file : List ℕ) → content_in slot ≡ Some file → images_in slot file
slot_reads_law None file is = let same : [] ≡ file = cc in sym same
slot_reads_law (Some None) file is = tt
slot_reads_law (Some (Some disk)) file is = reads_one_law disk.first disk.made file is
