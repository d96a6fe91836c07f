-- The order of data.
use Rattle.std.specs.Prelude.{ℕ, Bool}
use Rattle.std.specs.Ordering.{nat_cmp, int_cmp, bool_cmp, ordering_then, is_eq}
use Rattle.std.specs.Cmp.Lexicographic.{slice_cmp}
use Rattle.std.specs.declared.cmp.Ordering.{Ordering}
use Rattle.std.specs.declared.cmp.Ordering.TheVariants.{Equal}
use Rattle.gd_base.specs.declared.datum.Precision.{Precision}
use Rattle.gd_base.specs.declared.datum.Precision.TheVariants.{Year, Month, Day, Time}
use Rattle.gd_base.specs.declared.datum.Datum.{Datum}
use Rattle.gd_base.specs.declared.datum.Datum.TheVariants as datum

-- the place of a kind of datum in the order of the variants
abbrev pub variant : Datum → ℕ
variant (datum.Bool b) = 0
variant (datum.Int n) = 1
variant (datum.Moment ms precision) = 2
variant (datum.Text t) = 3
variant (datum.Object o) = 4
variant datum.Empty = 5

-- the place of a precision in their order
abbrev pub precision_index : Precision → ℕ
precision_index Year = 0
precision_index Month = 1
precision_index Day = 2
precision_index Time = 3

-- of one variant by the contents: texts by bytes, moments by their number and then by precision
abbrev pub contents_cmp : Datum → Datum → Ordering
contents_cmp (datum.Bool a) (datum.Bool b) = bool_cmp a b
contents_cmp (datum.Int m) (datum.Int n) = int_cmp m n
contents_cmp (datum.Moment a p) (datum.Moment b q) = ordering_then (int_cmp a b) (nat_cmp (precision_index p) (precision_index q))
contents_cmp (datum.Text s) (datum.Text t) = slice_cmp nat_cmp s t
contents_cmp (datum.Object a) (datum.Object b) = nat_cmp a b
contents_cmp _ _ = Equal

-- the order of data: by variant, then by contents
abbrev pub datum_cmp : Datum → Datum → Ordering
datum_cmp a b = ordering_then (nat_cmp (variant a) (variant b)) (contents_cmp a b)

-- two data are the same
abbrev pub datum_eq : Datum → Datum → Bool
datum_eq a b = is_eq (datum_cmp a b)
