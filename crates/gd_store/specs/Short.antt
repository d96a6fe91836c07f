-- Values whose texts are short.
use Rattle.std.specs.Prelude.{List, length, Bool, true, nat_le}
use Rattle.std.specs.List.{list_all}
use Rattle.gd_base.specs.declared.datum.Datum.{Datum}
use Rattle.gd_base.specs.declared.datum.Datum.TheVariants as datum
use Rattle.gd_prim.specs.declared.Primitive.{Primitive}

-- a value that is a text has at most 4,096 bytes
abbrev pub is_short : Datum → Bool
is_short (datum.Text t) = nat_le (length t) 4_096
is_short _ = true

-- so has each of these
abbrev pub are_short : List Primitive → Bool
are_short prims = list_all (λ p. is_short p.value) prims
