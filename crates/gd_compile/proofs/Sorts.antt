-- The sort key of a word that leads to a property.
use Rattle.std.proofs.Common.{◌≡◌, refl, ℕ, List, Bool, true, false, Option, Some, Result, codes}
use Rattle.gd_prim.specs.declared.Primitive.{Primitive}
use Rattle.gd_defs.specs.Query.{SortWord, is_word}
use Rattle.gd_defs.specs.Property.{Property, Expects, a_value, a_key, an_object_of_system, a_plain_object, expects_of, property}
use Rattle.gd_defs.specs.Asked as defs
use Rattle.gd_compile.specs.declared.fault.Unknown.{Unknown}
use Rattle.gd_plan.specs.declared.asked.SortKey.{SortKey}
use Rattle.gd_compile.specs.Fault.{Finds}
use Rattle.gd_plan.specs.Seen.{sort_key_view}
use Rattle.gd_compile.specs.Words.{value_key}

-- the key of the property, by what its answers are
key_is : (prims : List Primitive) (context : Option ℕ) (path : List (List ℕ)) (w : SortWord) (p : Property) (e : Expects) (reversed : Bool)
    → is_word (codes "id") w.word ≡ false → is_word (codes "guid") w.word ≡ false → is_word (codes "timestamp") w.word ≡ false
    → property prims context false w.word ≡ Some p → expects_of p.expected ≡ e → p.reversed ≡ reversed
    → defs.sort_key prims context path w ≡ value_key w.descending path p
key_is prims context path w p (a_value k) true no_id no_guid no_timestamp found is turned = rw no_id (rw no_guid (rw no_timestamp (rw found (rw is (rw turned refl)))))
key_is prims context path w p (a_value k) false no_id no_guid no_timestamp found is turned = rw no_id (rw no_guid (rw no_timestamp (rw found (rw is (rw turned refl)))))
key_is prims context path w p a_key reversed no_id no_guid no_timestamp found is turned = rw no_id (rw no_guid (rw no_timestamp (rw found (rw is refl))))
key_is prims context path w p an_object_of_system reversed no_id no_guid no_timestamp found is turned = rw no_id (rw no_guid (rw no_timestamp (rw found (rw is refl))))
key_is prims context path w p a_plain_object reversed no_id no_guid no_timestamp found is turned = rw no_id (rw no_guid (rw no_timestamp (rw found (rw is refl))))

-- what is found for the property is found for the word
pub value_found : (prims : List Primitive) (context : Option ℕ) (path : List (List ℕ)) (w : SortWord) (p : Property) (r : Result SortKey Unknown)
    → is_word (codes "id") w.word ≡ false → is_word (codes "guid") w.word ≡ false → is_word (codes "timestamp") w.word ≡ false
    → property prims context false w.word ≡ Some p
    → Finds sort_key_view (value_key w.descending path p) r → Finds sort_key_view (defs.sort_key prims context path w) r
value_found prims context path w p r no_id no_guid no_timestamp found key =
    rw (key_is prims context path w p (expects_of p.expected) p.reversed no_id no_guid no_timestamp found refl refl) key
