-- What a text makes of the list of batches to which it is restored.
use Rattle.std.specs.Prelude.{◌≡◌, ◌≢◌, ◌⊎◌, ℕ, ◌+◌, ◌^◌, ◌<◌, List, [], ◌∷◌, ◌++◌, length, sum_by, flat_map, nat_le, Bool, ◌||◌, true, false, Option, None, Some, if◌then◌else◌}
use Rattle.std.specs.List.{AllByRecursion}
use Rattle.gd_prim.specs.declared.Batch.{Batch}
use Rattle.gd_prim.specs.History.{prims_of}
use Rattle.gd_prim.specs.WellFormed.{may_follow, all_follow}
use Rattle.gd_dump_laws.specs.Dump.{dump_head, batch_text, BatchFits, IsDump, IsBadDumpAt, Whole}

-- ---- groups

-- a group is full with 256 batches, or with at least 4,096 primitives
abbrev pub is_full : List Batch → Bool
is_full group = nat_le 256 (length group) || nat_le 4_096 (sum_by (λ b. length b.prims) group)

-- Of these batches those in groups that are full, behind the ones of a group that has begun; what is left over at the end is not among them.
abbrev pub in_groups : (begun : List Batch) → List Batch → List Batch
in_groups begun [] = []
in_groups begun (b ∷ bs) = if is_full (begun ++ b ∷ []) then (begun ++ b ∷ []) ++ in_groups [] bs else in_groups (begun ++ b ∷ []) bs

-- ---- a text, and a list behind which its batches may follow

-- The text has this first number, and then these batches; whatever may stand behind them.
pub record BeginsWith (text : List ℕ) (first : ℕ) (batches : List Batch) : Type 0 where
  pub small : first < 2 ^ 32
  pub each : AllByRecursion BatchFits batches
  pub rest : List ℕ
  pub is : text ≡ dump_head first ++ flat_map batch_text batches ++ rest

-- each of these batches may follow the list and those before it
abbrev pub Follow : List Batch → List Batch → Type 0
Follow list batches = all_follow (prims_of list) (length list) batches ≡ true

-- what a list has become by batches of the text that were appended: the list itself, or the text begins at its end, with these batches in whole groups
pub record Appended (list : List Batch) (text : List ℕ) (after : List Batch) : Type 0 where
  pub done : List Batch
  pub groups : in_groups [] done ≡ done
  pub begins : (done ≡ []) ⊎ BeginsWith text (length list) done
  pub follow : Follow list done
  pub is : after ≡ list ++ done

-- ---- how a text ends that is restored

-- all of it; no dump, with the length of its longest front that begins one; another first number than the list has batches; a batch that may not follow, by its number behind the list
pub data Ending : Type 0 where
  whole : Ending
  bad : (offset : ℕ) → Ending
  starts_elsewhere : (asked have : ℕ) → Ending
  unfit : (batch : ℕ) → Ending

-- the text is the dump of batches that all follow the list
pub record EndsWhole (list : List Batch) (text : List ℕ) (after : List Batch) : Type 0 where
  pub batches : List Batch
  pub dump : IsDump text (length list) batches
  pub follow : Follow list batches
  pub is : after ≡ list ++ batches

-- no first number was read, or this one
abbrev pub IsNoOther : Option ℕ → ℕ → Type 0
IsNoOther None have = Unit {0}
IsNoOther (Some first) have = first ≡ have

-- the text is no dump, begins at the end of the list, if it has a first number, and all of the batches that are whole in it follow
pub record EndsBad (list : List Batch) (text : List ℕ) (offset : ℕ) (after : List Batch) : Type 0 where
  pub bad : IsBadDumpAt text offset
  pub first : Option ℕ
  pub batches : List Batch
  pub whole : Whole text first batches
  pub same : IsNoOther first (length list)
  pub follow : Follow list batches
  pub is : after ≡ list ++ in_groups [] batches

-- the text has a first number, which is not how many batches the list has
pub record StartsElsewhere (list : List Batch) (text : List ℕ) (asked have : ℕ) (after : List Batch) : Type 0 where
  pub begins : BeginsWith text asked []
  pub count : have ≡ length list
  pub other : asked ≢ have
  pub is : after ≡ list

-- the text begins at the end of the list, with batches that follow and one that may not follow those
pub record EndsUnfit (list : List Batch) (text : List ℕ) (number : ℕ) (after : List Batch) : Type 0 where
  pub batches : List Batch
  pub batch : Batch
  pub begins : BeginsWith text (length list) (batches ++ batch ∷ [])
  pub follow : Follow list batches
  pub unfit : may_follow (prims_of (list ++ batches)) (length list + length batches) batch ≡ false
  pub place : number ≡ length list + length batches
  pub is : after ≡ list ++ in_groups [] batches

-- a text that ends so makes this of a list
abbrev pub Restores : List Batch → List ℕ → Ending → List Batch → Type 0
Restores list text whole after = EndsWhole list text after
Restores list text (bad offset) after = EndsBad list text offset after
Restores list text (starts_elsewhere asked have) after = StartsElsewhere list text asked have after
Restores list text (unfit batch) after = EndsUnfit list text batch after

-- ---- where a run stopped for another reason

-- the list, and behind it a front of the text's batches in whole groups
abbrev pub RestoresFront : List Batch → List ℕ → List Batch → Type 0
RestoresFront list text after = Appended list text after

-- The same, and a group of the text's batches behind them is in doubt: all of it is there, or none.
pub record RestoresDoubt (list : List Batch) (text : List ℕ) (after group : List Batch) : Type 0 where
  pub done : List Batch
  pub groups : in_groups [] done ≡ done
  pub begins : BeginsWith text (length list) (done ++ group)
  pub follow : Follow list (done ++ group)
  pub is : after ≡ list ++ done
