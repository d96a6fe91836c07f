-- A shelf in memory: what its slots hold at each path.
use Rattle.std.specs.Prelude.{◌≡◌, ◌↔◌, ℕ, ◌+◌, ◌-◌, ◌^◌, min, List, [], ◌∷◌, Option, Some, None, Bool, true, false, if◌then◌else◌, bytes_eq, Contains, Result, IsErrOf}
use Rattle.gd_disk.specs.Recorded.{Recorded, content_of, images_of}
use Rattle.gd_disk.specs.declared.memory_shelf.Slot.{Slot}
use Rattle.gd_disk.specs.declared.shelf.ShelfFault.{ShelfFault}
use Rattle.gd_disk.specs.declared.shelf.ShelfFault.TheVariants.{Failed}

-- What contracts see of a shelf in memory.
pub record Shelved : Type 0 where
  -- a path and its disk, or none while it is out
  pub slots : List Slot
  -- the numbers of the calls of `open_at` that are to fail
  pub failing : List ℕ
  -- how many were made
  pub opened : ℕ
  pub faults : ℕ

-- the slot of a path, where there is one
abbrev pub slot_at : List Slot → List ℕ → Option (Option Recorded)
slot_at [] path = None
slot_at (slot ∷ slots) path = if bytes_eq slot.path path then Some slot.disk else slot_at slots path

-- a path without a slot names no file; of one that is out nothing is told
abbrev pub content_in : Option (Option Recorded) → Option (List ℕ)
content_in None = Some []
content_in (Some None) = None
content_in (Some (Some disk)) = content_of disk

abbrev pub images_in : Option (Option Recorded) → List ℕ → Type 0
images_in None c = c ≡ []
images_in (Some None) c = Unit {0}
images_in (Some (Some disk)) c = images_of disk c

abbrev pub is_out_in : Option (Option Recorded) → Bool
is_out_in None = false
is_out_in (Some None) = true
is_out_in (Some (Some disk)) = false

-- One opening more was tried, and failed exactly where its number is among those that are to fail.
pub record IsTried {T : Type 0} (old new : Shelved) (result : Result T ShelfFault) : Type 0 where
  pub opened : new.opened ≡ min (old.opened + 1) (2 ^ 64 - 1)
  pub fails : IsErrOf result Failed ↔ Contains old.failing old.opened
  pub failing : new.failing ≡ old.failing
