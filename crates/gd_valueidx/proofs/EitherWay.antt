-- The derived comparison of data is the same either way.
use Rattle.std.proofs.Common.{◌≡◌, Bool, sym, subst}
use Rattle.std.specs.Cmp.{both_ways}
use Rattle.gd_base.specs.declared.datum.Datum.{Datum}
use Rattle.gd_base.specs.Order.{datum_eq}
use Rattle.gd_base.specs.contracts.datum.DatumPartialEq.TheImpl as equality
use Rattle.gd_base.proofs.Order.{datum_eq_decides, eq_is}

either_way : (a b : Datum) → datum_eq a b ≡ datum_eq b a
either_way a b = both_ways (datum_eq a b) (datum_eq b a) (λ is. (datum_eq_decides b a).1 (sym ((datum_eq_decides a b).0 is))) (λ is. (datum_eq_decides a b).1 (sym ((datum_eq_decides b a).0 is)))

-- of the derived `==` of data
pub same_either_way : (a b : Datum) → (equality.ghosts).eq a b ≡ (equality.ghosts).eq b a
same_either_way = subst (λ (same : Datum → Datum → Bool). (a b : Datum) → same a b ≡ same b a) (sym eq_is) either_way
