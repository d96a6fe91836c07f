-- Batches that are refused: one primitive too many, and a reference to the primitive's own place.
use Rattle.std.proofs.Common.{◌≡◌, refl, [], ◌∷◌, replicate, true, Some, None, pos, negsuc}
use Rattle.gd_base.specs.declared.datum.Datum.TheVariants as datum
use Rattle.gd_prim.specs.declared.What.TheVariants as what
use Rattle.gd_prim.specs.Builtin.{builtin, object}
use Rattle.gd_prim.specs.Limits.{limits, first_full}
use Rattle.gd_prim.specs.WellFormed.{bad_place}

-- 4,096 primitives are a batch, and one more is too many
pub most : first_full (limits builtin 0 (replicate 4096 object)) ≡ None
most = refl

pub one_more : first_full (limits builtin 0 (replicate 4097 object)) ≡ Some (what.Batch, 4097)
one_more = refl

-- the first primitive of a batch behind the built-in list stands at place 70, and may name 69 and not itself
pub below : bad_place builtin (record { moment = 0; prims = record object { left = Some 69 } ∷ [] }) ≡ None
below = refl

pub itself : bad_place builtin (record { moment = 0; prims = record object { left = Some 70 } ∷ [] }) ≡ Some 70
itself = refl

-- whole numbers have 64 bits
pub greatest : bad_place builtin (record { moment = 0; prims = record object { value = datum.Int (pos 9_223_372_036_854_775_807) } ∷ [] }) ≡ None
greatest = refl

pub above : bad_place builtin (record { moment = 0; prims = record object { value = datum.Int (pos 9_223_372_036_854_775_808) } ∷ [] }) ≡ Some 70
above = refl

pub least : bad_place builtin (record { moment = 0; prims = record object { value = datum.Int (negsuc 9_223_372_036_854_775_807) } ∷ [] }) ≡ None
least = refl

pub below_least : bad_place builtin (record { moment = 0; prims = record object { value = datum.Int (negsuc 9_223_372_036_854_775_808) } ∷ [] }) ≡ Some 70
below_least = refl

-- a language is that of a text, is not English, and lies below
pub lang : bad_place builtin (record { moment = 0; prims = record object { value = datum.Text []; lang = Some 69 } ∷ [] }) ≡ None
lang = refl

pub lang_itself : bad_place builtin (record { moment = 0; prims = record object { value = datum.Text []; lang = Some 70 } ∷ [] }) ≡ Some 70
lang_itself = refl

pub lang_english : bad_place builtin (record { moment = 0; prims = record object { value = datum.Text []; lang = Some 3 } ∷ [] }) ≡ Some 70
lang_english = refl

pub lang_of_number : bad_place builtin (record { moment = 0; prims = record object { value = datum.Bool true; lang = Some 2 } ∷ [] }) ≡ Some 70
lang_of_number = refl
