-- Batches of a text that are gathered for a log, up to whole groups.
use Rattle.std.specs.Prelude.{◌≡◌, ◌≢◌, ◌⊎◌, ℕ, ◌+◌, List, [], ◌++◌, length, Option, None, Some, Result, Ok, Err, IsTrue}
use Rattle.std.specs.Option.{is_some}
use Rattle.std.specs.List.{AllByRecursion}
use Rattle.gd_prim.specs.declared.Batch.{Batch}
use Rattle.gd_dump_laws.specs.Dump.{IsBadDumpAt, Whole}
use Rattle.gd_dump_laws.specs.Restoring.{in_groups, BeginsWith, Follow, IsNoOther}
use Rattle.gd_dump.specs.declared.stop.RestoreFault.{RestoreFault}
use Rattle.gd_dump.specs.declared.stop.RestoreFault.TheVariants as fault
use Rattle.gd_dump.specs.Read.{Reader, HasRead}
use Rattle.gd_log.specs.Stored.{Stored, IsEarly, IsFirstUnfit, Holds}
use Rattle.gd_restore.specs.declared.stop.RestoreStop.{RestoreStop}
use Rattle.gd_restore.specs.declared.stop.RestoreStop.TheVariants as stop

-- What contracts see: a log with its batches, how many these were at first, and the batches of a group that is not full.
pub record Gathered (D : Type 0) : Type 0 where
  pub stored : Stored D
  pub have : ℕ
  pub group : List Batch

-- a disk of this content tells it
abbrev pub Tells : Option (List ℕ) → Type 0
Tells content = IsTrue (is_some content)

-- nothing is in doubt, the group is not full, and its batches are of moments of a clock
pub record IsReady {D : Type 0} (s : Gathered D) : Type 0 where
  pub no_doubt : s.stored.log.doubt ≡ None
  pub part : in_groups [] s.group ≡ []
  pub early : AllByRecursion IsEarly s.group

-- the disk of a log holds its batches, or is unsure of this group behind them
abbrev pub HoldsAs : {D : Type 0} → (D → Option (List ℕ)) → (D → List ℕ → Type 0) → Stored D → Option (List Batch) → Type 0
HoldsAs content images s doubt = Holds (content s.log.disk) (images s.log.disk) s.log.gate s.log.doubt s.batches doubt

-- Batches came to this: those in whole groups stand behind the list, and the others are gathered.
pub record Gathers {D : Type 0} (content : D → Option (List ℕ)) (images : D → List ℕ → Type 0) (list batches : List Batch) (s : Gathered D) : Type 0 where
  pub done : List Batch
  pub groups : in_groups [] done ≡ done
  pub parts : batches ≡ done ++ s.group
  pub follow : Follow list done
  pub stored : s.stored.batches ≡ list ++ done
  pub count : s.have ≡ length list
  pub holds : Tells (content s.stored.log.disk) → HoldsAs content images s.stored None

-- there are no batches, or the text has them first, from the end of the list on
abbrev pub Begins : List Batch → List ℕ → List Batch → Type 0
Begins list text batches = (batches ≡ []) ⊎ BeginsWith text (length list) batches

-- A text came to this, as far as it was read: its batches are gathered, and begin at the end of the list.
pub record Upto {D : Type 0} (content : D → Option (List ℕ)) (images : D → List ℕ → Type 0) (list : List Batch) (text : List ℕ) (s : Gathered D) (r : Reader) : Type 0 where
  pub batches : List Batch
  pub read : HasRead r text batches
  pub gathers : Gathers content images list batches s
  pub begins : Begins list text batches

-- something was read
abbrev pub IsReader : Reader → Type 0
IsReader r = (text : List ℕ) × (batches : List Batch) × HasRead r text batches

-- a batch of the group may not follow, or there was no memory to tell
abbrev pub IsRefusal : List Batch → List Batch → RestoreStop → Type 0
IsRefusal stored group (stop.Unfit n) = (k : ℕ) × IsFirstUnfit stored group k × (n ≡ length stored + k)
IsRefusal stored group stop.Memory = Unit {0}
IsRefusal stored group _ = ⊥

-- the group was appended
pub record IsAppended {D : Type 0} (old new : Gathered D) : Type 0 where
  pub batches : new.stored.batches ≡ old.stored.batches ++ old.group
  pub follow : Follow old.stored.batches old.group
  pub group : new.group ≡ []
  pub have : new.have ≡ old.have
  pub no_doubt : new.stored.log.doubt ≡ None

-- an append was refused, or failed, and the list is as before; a group may be in doubt that may follow
abbrev pub IsFailure : {D : Type 0} → Gathered D → Gathered D → RestoreStop → Type 0
IsFailure old new stop.DiskFault = (new.stored.batches ≡ old.stored.batches) × Follow old.stored.batches old.group
IsFailure old new (stop.Unfit n) = (new.stored.batches ≡ old.stored.batches) × IsRefusal old.stored.batches old.group (stop.Unfit n)
IsFailure old new stop.Memory = new.stored.batches ≡ old.stored.batches
IsFailure old new _ = ⊥

-- the group that is in doubt where a run stops so
abbrev pub doubt_at : RestoreStop → List Batch → Option (List Batch)
doubt_at stop.DiskFault group = Some group
doubt_at _ group = None

-- what the disk holds after an append
abbrev pub HoldsAfter : {D : Type 0} → (D → Option (List ℕ)) → (D → List ℕ → Type 0) → Result (Unit {0}) RestoreStop → Stored D → List Batch → Type 0
HoldsAfter content images (Ok u) s group = HoldsAs content images s None
HoldsAfter content images (Err e) s group = HoldsAs content images s (doubt_at e group)

-- all of these batches follow the list and stand behind it, and the disk holds them
pub record IsWhole {D : Type 0} (content : D → Option (List ℕ)) (images : D → List ℕ → Type 0) (list batches : List Batch) (s : Gathered D) : Type 0 where
  pub follow : Follow list batches
  pub stored : s.stored.batches ≡ list ++ batches
  pub holds : Tells (content s.stored.log.disk) → HoldsAs content images s.stored None

-- nothing is gathered yet, and nothing in doubt
pub record HasBegun {D : Type 0} (s : Gathered D) : Type 0 where
  pub no_doubt : s.stored.log.doubt ≡ None
  pub group : s.group ≡ []
  pub have : s.have ≡ length s.stored.batches

-- the text that was read has no first number, or this one
abbrev pub IsChecked : ℕ → Reader → Type 0
IsChecked have r = (text : List ℕ) (batches : List Batch) → HasRead r text batches → (first : Option ℕ) × Whole text first batches × IsNoOther first have

-- the text that was read has another first number, and this tells it
abbrev pub IsOther : ℕ → Reader → RestoreStop → Type 0
IsOther have r e = (asked : ℕ) × (e ≡ stop.DumpFrom asked have) × (asked ≢ have) × ((text : List ℕ) (batches : List Batch) → HasRead r text batches → Whole text (Some asked) batches)

-- A text is no dump, which begins with what was read, and has no batches that are whole but those that are whole in this.
pub record IsBadBehind (seen text : List ℕ) (batches : List Batch) (offset : ℕ) : Type 0 where
  pub bad : IsBadDumpAt text offset
  pub rest : List ℕ
  pub parts : text ≡ seen ++ rest
  pub whole : (first : Option ℕ) → Whole seen first batches → Whole text first batches

-- a text with this fault begins with what was read
abbrev pub IsFaultBehind : (seen text : List ℕ) → List Batch → RestoreFault → Type 0
IsFaultBehind seen text batches (fault.BadDump n) = IsBadBehind seen text batches n
IsFaultBehind seen text batches fault.Memory = (rest : List ℕ) × (text ≡ seen ++ rest)
