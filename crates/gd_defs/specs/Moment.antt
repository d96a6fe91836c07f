-- Moments as texts, in the calendar that Gregory's rule of leap years gives for the years 0000 to 9999.
use Rattle.std.specs.Prelude.{ℕ, zero, suc, ◌+◌, ◌-◌, ◌*◌, ◌/◌, ◌%◌, ℤ, pos, negsuc, ◌-ℤ◌, List, [], ◌∷◌, ◌++◌, length, take, drop, Bool, not, ◌&&◌, ◌||◌, ◌==◌, nat_lt, nat_le, Option, Some, None, if◌then◌else◌, codes, bytes_eq, slice_index, sum}
use Rattle.std.specs.List.{list_any}
use Rattle.gd_base.specs.declared.datum.Precision.{Precision}
use Rattle.gd_base.specs.declared.datum.Precision.TheVariants.{Year, Month, Day, Time}

-- a number in so many decimal digits
abbrev pub fixed_digits : ℕ → ℕ → List ℕ
fixed_digits zero n = []
fixed_digits (suc width) n = fixed_digits width (n / 10) ++ (48 + n % 10) ∷ []

-- the year has 366 days
abbrev pub is_leap : ℕ → Bool
is_leap year = (year % 4 == 0) && (not (year % 100 == 0) || year % 400 == 0)

-- the days from the first of January 0000 to the first of January of a year
abbrev pub days_before : ℕ → ℕ
days_before year = 365 * year + (year + 3) / 4 - (year + 99) / 100 + (year + 399) / 400

-- how many days each month of a year has
abbrev pub month_lengths : ℕ → List ℕ
month_lengths year = 31 ∷ (if is_leap year then 29 else 28) ∷ 31 ∷ 30 ∷ 31 ∷ 30 ∷ 31 ∷ 31 ∷ 30 ∷ 31 ∷ 30 ∷ 31 ∷ []

-- the milliseconds from the beginning of the year 0000 to that of 1970
abbrev pub epoch : ℕ
epoch = 62_167_219_200_000

-- the milliseconds of a day
abbrev pub day_ms : ℕ
day_ms = 86_400_000

-- a civil date and time
pub record Civil : Type 0 where
  pub year : ℕ
  pub month : ℕ
  pub day : ℕ
  pub hour : ℕ
  pub minute : ℕ
  pub second : ℕ
  pub milli : ℕ

-- the date and the time of day exist
abbrev pub exists : Civil → Bool
exists c = nat_lt c.year 10_000 && nat_le 1 c.month && nat_le c.month 12 && nat_le 1 c.day
    && nat_le c.day (slice_index (month_lengths c.year) (c.month - 1))
    && nat_lt c.hour 24 && nat_lt c.minute 60 && nat_lt c.second 60 && nat_lt c.milli 1000

-- the milliseconds from the beginning of the year 0000 to a civil time
abbrev pub since_zero : Civil → ℕ
since_zero c = day_ms * (days_before c.year + sum (take (c.month - 1) (month_lengths c.year)) + (c.day - 1))
    + 3_600_000 * c.hour + 60_000 * c.minute + 1000 * c.second + c.milli

-- the milliseconds from the beginning of 1970 to a civil time
abbrev pub ms_of : Civil → ℤ
ms_of c = pos (since_zero c) -ℤ pos epoch

-- the last year, from this one on and among so many, that begins at or before a day
abbrev pub year_from : ℕ → ℕ → ℕ → ℕ
year_from zero year day = year
year_from (suc more) year day = if nat_le (days_before (year + 1)) day then year_from more (year + 1) day else year

-- the month and the day in it, both from 1, of a day of the year, from 0
abbrev pub month_from : ℕ → List ℕ → ℕ → ℕ × ℕ
month_from month [] day = (month, day + 1)
month_from month (n ∷ ns) day = if nat_lt day n then (month, day + 1) else month_from (month + 1) ns (day - n)

-- the civil time so many milliseconds after the beginning of 0000
abbrev pub civil_from : ℕ → Civil
civil_from t =
    let days : ℕ = t / day_ms in
    let year : ℕ = year_from 40 (days / 366) days in
    let date : ℕ × ℕ = month_from 1 (month_lengths year) (days - days_before year) in
    record { year = year; month = date.0; day = date.1; hour = t / 3_600_000 % 24; minute = t / 60_000 % 60; second = t / 1000 % 60; milli = t % 1000 }

-- milliseconds from 1970 as milliseconds from 0000
abbrev pub from_zero : ℤ → ℕ
from_zero (pos n) = epoch + n
from_zero (negsuc n) = epoch - (n + 1)

-- the text of a civil time up to its year, YYYY
abbrev pub year_text : Civil → List ℕ
year_text c = fixed_digits 4 c.year

-- the text of a civil time up to its month, YYYY-MM
abbrev pub month_text : Civil → List ℕ
month_text c = year_text c ++ codes "-" ++ fixed_digits 2 c.month

-- the text of a civil time up to its day, YYYY-MM-DD
abbrev pub day_text : Civil → List ℕ
day_text c = month_text c ++ codes "-" ++ fixed_digits 2 c.day

-- the text of a civil time up to its second, YYYY-MM-DDThh:mm:ss
abbrev pub second_text : Civil → List ℕ
second_text c = day_text c ++ codes "T" ++ fixed_digits 2 c.hour ++ codes ":" ++ fixed_digits 2 c.minute ++ codes ":" ++ fixed_digits 2 c.second

-- the text of a civil time with its milliseconds, YYYY-MM-DDThh:mm:ss.fff
abbrev pub milli_text : Civil → List ℕ
milli_text c = second_text c ++ codes "." ++ fixed_digits 3 c.milli

-- the text of a moment, in its own precision
abbrev pub moment_text : ℤ → Precision → List ℕ
moment_text ms Year = year_text (civil_from (from_zero ms))
moment_text ms Month = month_text (civil_from (from_zero ms))
moment_text ms Day = day_text (civil_from (from_zero ms))
moment_text ms Time = milli_text (civil_from (from_zero ms)) ++ codes "Z"

-- the number that digits spell behind a front of value n
abbrev pub digits_from : ℕ → List ℕ → ℕ
digits_from n [] = n
digits_from n (c ∷ cs) = digits_from (10 * n + (c - 48)) cs

-- the number that so many digits of a text spell from a place on
abbrev pub number_within : List ℕ → ℕ → ℕ → ℕ
number_within text at width = digits_from 0 (take width (drop at text))

-- the beginning of a day
abbrev pub midnight : ℕ → ℕ → ℕ → Civil
midnight year month day = record { year = year; month = month; day = day; hour = 0; minute = 0; second = 0; milli = 0 }

-- the civil time whose parts stand at their places in a text of this precision
abbrev pub read_civil : List ℕ → Precision → Civil
read_civil text Year = midnight (number_within text 0 4) 1 1
read_civil text Month = midnight (number_within text 0 4) (number_within text 5 2) 1
read_civil text Day = midnight (number_within text 0 4) (number_within text 5 2) (number_within text 8 2)
read_civil text Time = record (midnight (number_within text 0 4) (number_within text 5 2) (number_within text 8 2)) {
  hour = number_within text 11 2;
  minute = number_within text 14 2;
  second = number_within text 17 2;
  milli = number_within text 20 3;
}

-- the moment of a civil time, if that exists and the text is one of these spellings of it
abbrev pub spelled : List ℕ → List (List ℕ) → Civil → Precision → Option (ℤ × Precision)
spelled text spellings c precision = if exists c && list_any (bytes_eq text) spellings then Some (ms_of c, precision) else None

-- the spellings of a civil time with milliseconds, without and with `Z`
abbrev pub milli_spellings : Civil → List (List ℕ)
milli_spellings c = milli_text c ∷ (milli_text c ++ codes "Z") ∷ []

-- the spellings of a civil time without milliseconds, without and with `Z`
abbrev pub second_spellings : Civil → List (List ℕ)
second_spellings c = second_text c ∷ (second_text c ++ codes "Z") ∷ []

-- the moment that a text spells, in milliseconds from 1970 and its precision
abbrev pub moment_of : List ℕ → Option (ℤ × Precision)
moment_of text =
    if length text == 4 then spelled text (year_text (read_civil text Year) ∷ []) (read_civil text Year) Year
    else if length text == 7 then spelled text (month_text (read_civil text Month) ∷ []) (read_civil text Month) Month
    else if length text == 10 then spelled text (day_text (read_civil text Day) ∷ []) (read_civil text Day) Day
    else if nat_lt (length text) 21 then (let c : Civil = record (read_civil text Time) { milli = 0 } in spelled text (second_spellings c) c Time)
    else spelled text (milli_spellings (read_civil text Time)) (read_civil text Time) Time
