-- Payloads that are groups of batches, one group behind the other, and maybe the mark.
use Rattle.std.specs.Prelude.{◌≡◌, ◌⊎◌, List, [], ◌∷◌, ◌++◌, length, ℕ, Some, Bool, true, false, not, ◌||◌, IsTrue}
use Rattle.gd_prim.specs.declared.Batch.{Batch}
use Rattle.gd_prim.specs.History.{prims_of}
use Rattle.gd_prim.specs.WellFormed.{all_follow}
use Rattle.gd_bytes.specs.File.{mark, has_lang}
use Rattle.gd_bytes.specs.Group.{IsGroup, group_of}

-- The payload is the group of batches that may follow these: it spells them, and is read as them; and texts have languages only where they may.
pub record IsNext (marked : Bool) (before : List Batch) (p : List ℕ) (more : List Batch) : Type 0 where
  pub group : IsGroup p more
  pub meant : group_of p ≡ Some more
  pub langs : (marked || not (has_lang more)) ≡ true
  pub follow : IsTrue (all_follow (prims_of before) (length before) more)

-- Each payload is the group of batches that may follow these and those of the payloads before it, or it is the mark, where texts may have no languages yet; all together are the last list, and behind them texts may have languages or not.
abbrev pub AreGroups : Bool → List Batch → List (List ℕ) → Bool → List Batch → Type 0
AreGroups marked before [] last bs = (marked ≡ last) × (before ≡ bs)
AreGroups marked before (p ∷ ps) last bs =
    ((marked ≡ false) × (p ≡ mark) × AreGroups true before ps last bs) ⊎ ((more : List Batch) × IsNext marked before p more × AreGroups marked (before ++ more) ps last bs)
