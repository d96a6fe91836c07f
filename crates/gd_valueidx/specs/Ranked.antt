-- The values in their order, each with its number, and the numbers of those between two.
use Rattle.std.specs.Prelude.{ℕ, List, [], Bool, true, Option, fold, not, ◌&&◌}
use Rattle.std.specs.List.{filter, enumerate_from}
use Rattle.std.specs.Map.{values_of}
use Rattle.std.specs.BTreeMap.{insert_entry}
use Rattle.std.specs.Option.{option_map_or}
use Rattle.std.specs.Ordering.{is_lt, is_gt}
use Rattle.gd_base.specs.declared.datum.Datum.{Datum}
use Rattle.gd_base.specs.Order.{datum_cmp}

-- the values, each with its number from 0, in the order of data
unfoldable pub ranked : List Datum → List (Datum × ℕ)
ranked values = fold (λ ranks numbered. insert_entry datum_cmp ranks numbered.1 numbered.0) [] (enumerate_from 0 values)

-- the value is not below the least nor above the greatest, where these are given
abbrev pub is_between : Option Datum → Option Datum → Datum → Bool
is_between lo hi value = option_map_or (λ least. not (is_lt (datum_cmp value least))) lo true && option_map_or (λ greatest. not (is_gt (datum_cmp value greatest))) hi true

-- the numbers of the values between two, in the order of the values
abbrev pub numbers_between : Option Datum → Option Datum → List Datum → List ℕ
numbers_between lo hi values = values_of (filter (λ rank. is_between lo hi rank.0) (ranked values))
