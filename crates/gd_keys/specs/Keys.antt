-- Lists of identities by namespace and key, and by object.
use Rattle.std.specs.Prelude.{◌≡◌, ℕ, List}
use Rattle.gd_postings.specs.Postings.{Places}
use Rattle.gd_lists.specs.Lists.{pair_list, id_list}
pub use Rattle.gd_lists.specs.Entries.{is_under, is_of, with_entry, without_entry, last_of}

-- the lists by namespace and key, and those by object
pub record KeysValue : Type 0 where
  pub by_key : List (ℕ × List (List ℕ × Places))
  pub by_object : List Places

-- the list of a namespace and a key, empty where nothing was entered
abbrev pub key_list : KeysValue → ℕ → List ℕ → Places
key_list keys namespace key = pair_list keys.by_key namespace key

-- the list of an object, empty where nothing was entered
abbrev pub object_list : KeysValue → ℕ → Places
object_list keys object = id_list keys.by_object object

-- every list has the same identities
pub record SameIds (old new : KeysValue) : Type 0 where
  pub keys : (n : ℕ) (k : List ℕ) → (key_list new n k).ids ≡ (key_list old n k).ids
  pub objects : (o : ℕ) → (object_list new o).ids ≡ (object_list old o).ids
