-- What the indexes of a list of primitives hold.
use Rattle.std.specs.Prelude.{◌≡◌, ℕ, List, [], ◌∷◌, ◌++◌, length, Bool, true, ◌&&◌, nat_lt, Option, Some, None, option_and_then, if◌then◌else◌, IsTrue}
use Rattle.gd_prim.specs.declared.Primitive.{Primitive}
use Rattle.gd_prim.specs.declared.End.{End}
use Rattle.gd_prim.specs.End.{places_with}
use Rattle.gd_prim.specs.Limits.{max_prims}
use Rattle.gd_prim.specs.Live.{successor, places_where}
use Rattle.gd_prim.specs.WellFormed.{refers_below, succeeds_current}
use Rattle.gd_versions.specs.Versions.{successor_of}
use Rattle.gd_keys.specs.Keys.{KeysValue, key_list, object_list}
use Rattle.gd_linkage.specs.Linkage.{LinkageValue, list_of}
use Rattle.gd_store.specs.Keys.{is_key_link, is_key_of}
use Rattle.gd_store.specs.Lefts.{AreLefts}
use Rattle.gd_store.specs.Short.{are_short}
use Rattle.gd_store.specs.Valued.{AreValues}
use Rattle.gd_store.specs.declared.indexes.Indexes.{Indexes}

-- the primitive may be entered behind these: its previous one, if there is one, is current among them
abbrev pub may_come : List Primitive → Primitive → Bool
may_come before p = refers_below (length before) p.previous && succeeds_current before p.previous && nat_lt (length before) max_prims

-- so may each behind those before it
abbrev pub may_enter : List Primitive → List Primitive → Bool
may_enter before [] = true
may_enter before (p ∷ ps) = may_come before p && may_enter (before ++ p ∷ []) ps

-- each place's successor
abbrev pub AreSuccessors : List (Option ℕ) → List Primitive → Type 0
AreSuccessors versions prims = (place : ℕ) → successor_of versions place ≡ successor prims place

-- the places of key links, by namespace and key, and by object
pub record AreKeys (keys : KeysValue) (prims : List Primitive) : Type 0 where
  pub by_key : (namespace : ℕ) (key : List ℕ) → (key_list keys namespace key).ids ≡ places_where (is_key_link namespace key) prims
  pub by_object : (object : ℕ) → (object_list keys object).ids ≡ places_where (is_key_of object) prims

-- the places that name a node, by the end at which they do
abbrev pub AreLinks : LinkageValue → List Primitive → Type 0
AreLinks linkage prims = (end : End) (node : ℕ) → (list_of end node linkage).ids ≡ places_with end node prims

-- all of these
pub record AreIndexes (indexes : Indexes) (prims : List Primitive) : Type 0 where
  pub successors : AreSuccessors indexes.versions prims
  pub keys : AreKeys indexes.keys prims
  pub links : AreLinks indexes.linkage prims
  pub values : AreValues indexes.values prims
  pub lefts : AreLefts indexes.lefts prims

-- the indexes are those of the list, it could be entered, and its texts are short
pub record IsIndexed (indexes : Indexes) (prims : List Primitive) : Type 0 where
  pub entered : IsTrue (may_enter [] prims)
  pub short : IsTrue (are_short prims)
  pub indexed : AreIndexes indexes prims

-- the place, if it is below an end
abbrev pub below_end : ℕ → Option ℕ → Option ℕ
below_end end place = option_and_then (λ p. if nat_lt p end then Some p else None) place
