-- A new object, a new link, and a newer version.
use Rattle.std.specs.Prelude.{ℕ, Bool, true, Option, Some, None}
use Rattle.gd_base.specs.declared.datum.Datum.{Datum}
use Rattle.gd_base.specs.declared.datum.Datum.TheVariants as datum
use Rattle.gd_prim.specs.declared.Primitive.{Primitive}

-- a live object of a moment
abbrev pub object : ℕ → Primitive
object moment = record { left = None; right = None; typ = None; scope = None; value = datum.Empty; name = None; previous = None; live = true; moment = moment; lang = None }

-- a live link of a moment: left, right, typ, value
abbrev pub link : ℕ → Option ℕ → ℕ → Datum → ℕ → Primitive
link left right typ value moment = record { left = Some left; right = right; typ = Some typ; scope = None; value = value; name = None; previous = None; live = true; moment = moment; lang = None }

-- the primitive as a newer version of the one at a place
abbrev pub newer : ℕ → Bool → Primitive → Primitive
newer previous live p = record p { previous = Some previous; live = live }
