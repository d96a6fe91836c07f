-- The language of texts by the type that is expected.
use Rattle.std.proofs.Common.{◌≡◌, ℕ, Bool, true, false, Some, None, refl}
use Rattle.std.specs.Prelude.{◌==◌, nat_lt, if◌then◌else◌}
use Rattle.gd_prim.specs.Builtin.{english_place, text_place, int_place, boolean_place, datetime_place, key_type_place, builtin_end}
use Rattle.gd_defs.specs.Data.{of_text, of_int, of_boolean, of_datetime}
use Rattle.gd_defs.specs.Property.{a_value, a_key, an_object_of_system, a_plain_object, expects_of, plain_language}

-- only of texts is there one
by_kind : (a b c d e f : Bool) → plain_language (if a then a_value of_text else if b then a_value of_int else if c then a_value of_boolean
    else if d then a_value of_datetime else if e then a_key else if f then an_object_of_system else a_plain_object) ≡ (if a then Some english_place else None)
by_kind true b c d e f = refl
by_kind false true c d e f = refl
by_kind false false true d e f = refl
by_kind false false false true e f = refl
by_kind false false false false true f = refl
by_kind false false false false false true = refl
by_kind false false false false false false = refl

pub plain_by_type : (t : ℕ) → plain_language (expects_of (Some t)) ≡ (if t == text_place then Some english_place else None)
plain_by_type t = by_kind (t == text_place) (t == int_place) (t == boolean_place) (t == datetime_place) (t == key_type_place) (nat_lt t builtin_end)
