-- What the values of primitives keep.
use Rattle.std.specs.Prelude.{◌≡◌, ℕ, nat_le, List, length, Bool, true, false, ◌&&◌}
use Rattle.gd_base.specs.declared.datum.Datum.{Datum}
use Rattle.gd_base.specs.declared.datum.Datum.TheVariants as datum
use Rattle.gd_prim.specs.WellFormed.{is_number, is_moment, may_hold}

-- a primitive may hold the value
abbrev pub MayHold : Datum → Type 0
MayHold d = may_hold d ≡ true

-- a primitive may hold the value, and the types of the code do: besides, its text has at most 4,096 bytes and passes a test
abbrev pub is_typed : (List ℕ → Bool) → Datum → Bool
is_typed T (datum.Bool b) = true
is_typed T (datum.Int n) = is_number n
is_typed T (datum.Moment ms precision) = is_moment ms
is_typed T (datum.Text t) = nat_le (length t) 4096 && T t
is_typed T (datum.Object o) = false
is_typed T datum.Empty = true

-- the types of the code hold the value, with this test of texts
abbrev pub IsTyped : (List ℕ → Bool) → Datum → Type 0
IsTyped T d = is_typed T d ≡ true
