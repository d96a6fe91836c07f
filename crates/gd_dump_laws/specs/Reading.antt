-- Lines of dumps, read from the left: each reader gives a value and the bytes after it, or the bytes at which no line goes on.
use Rattle.std.specs.Prelude.{ℕ, zero, suc, ◌+◌, ◌-◌, ◌*◌, ◌^◌, ℤ, pos, negsuc, List, [], ◌∷◌, Bool, false, ◌&&◌, ◌||◌, ◌==◌, Option, Some, None, Ok, Err, if◌then◌else◌, codes, decimal}
use Rattle.std.specs.List.{list_any}
use Rattle.gd_base.specs.declared.datum.Precision.{Precision}
use Rattle.gd_base.specs.declared.datum.Precision.TheVariants.{Year, Month, Day, Time}
use Rattle.gd_base.specs.declared.datum.Datum.{Datum}
use Rattle.gd_base.specs.declared.datum.Datum.TheVariants as datum
use Rattle.gd_prim.specs.declared.Primitive.{Primitive}
use Rattle.gd_prim.specs.WellFormed.{max_moment}
use Rattle.gd_grammar.specs.Chain.{◌>>=◌}
use Rattle.gd_grammar.specs.Choice.{is_next}
use Rattle.gd_grammar.specs.Grammar.{Reads, text_at, number_at}
use Rattle.gd_grammar.specs.Reading.{between, byte_if}
use Rattle.gd_utf8.specs.Utf8.{Due, start, may_come, after}

-- reads by the one reader where the next byte passes the test, and else by the other
abbrev pub choice : {A : Type 0} → (ℕ → Bool) → (List ℕ → Reads A) → (List ℕ → Reads A) → List ℕ → Reads A
choice test one two [] = Err []
choice test one two (c ∷ cs) = if test c then one (c ∷ cs) else two (c ∷ cs)

-- ---- numbers, each with the byte behind it

-- reads a number up to a bound, and a mark
unfoldable pub number_to : ℕ → ℕ → List ℕ → Reads ℕ
number_to bound mark bytes = number_at bound bytes >>= λ n. text_at (mark ∷ []) n.1 >>= λ u. Ok (n.0, u.1)

-- reads a number from 1 up to a bound, and a mark
unfoldable pub positive_to : ℕ → ℕ → List ℕ → Reads ℕ
positive_to bound mark bytes = choice (λ c. c == 48) (λ w. Err w) (number_to bound mark) bytes

-- reads a number below 0, of at most so many, behind its `-`
unfoldable pub negative_to : ℕ → ℕ → List ℕ → Reads ℤ
negative_to bound mark bytes = text_at (45 ∷ []) bytes >>= λ d. positive_to bound mark d.1 >>= λ n. Ok (negsuc (n.0 - 1), n.1)

-- reads a number from 0 on
unfoldable pub natural_to : ℕ → ℕ → List ℕ → Reads ℤ
natural_to bound mark bytes = number_to bound mark bytes >>= λ n. Ok (pos n.0, n.1)

-- reads a whole number from minus `low` up to `high`, and a mark
unfoldable pub int_to : ℕ → ℕ → ℕ → List ℕ → Reads ℤ
int_to low high mark bytes = choice (λ c. c == 45) (negative_to low mark) (natural_to high mark) bytes

-- reads a place, or `-`, and a space
unfoldable pub some_place_at : List ℕ → Reads (Option ℕ)
some_place_at bytes = number_to (2 ^ 32 - 1) 32 bytes >>= λ n. Ok (Some n.0, n.1)

unfoldable pub no_place_at : List ℕ → Reads (Option ℕ)
no_place_at bytes = text_at (45 ∷ 32 ∷ []) bytes >>= λ u. Ok (None, u.1)

unfoldable pub place_at : List ℕ → Reads (Option ℕ)
place_at bytes = choice (λ c. c == 45) no_place_at some_place_at bytes

-- ---- texts in hexadecimal digits

-- the hexadecimal digits
abbrev pub hex_digits : List ℕ
hex_digits = codes "0123456789abcdef"

-- the byte is a hexadecimal digit
abbrev pub is_hex : ℕ → Bool
is_hex c = between 48 57 c || between 97 102 c

-- what a hexadecimal digit is worth
abbrev pub hex_value : ℕ → ℕ
hex_value c = if between 48 57 c then c - 48 else c - 87

-- the digit may come behind another one in a byte of a text that has room for so many bytes more
abbrev pub second_digit : ℕ → Due → ℕ → ℕ → Bool
second_digit n s c d = is_hex c && is_hex d && may_come n s (16 * hex_value c + hex_value d)

-- the digit may begin a byte of the text
abbrev pub first_digit : ℕ → Due → ℕ → Bool
first_digit n s c = list_any (second_digit n s c) hex_digits

-- reads a byte of a text
unfoldable pub pair_at : ℕ → Due → List ℕ → Reads ℕ
pair_at n s bytes = byte_if (first_digit n s) bytes >>= λ c. byte_if (second_digit n s c.0) c.1 >>= λ d. Ok (16 * hex_value c.0 + hex_value d.0, d.1)

-- reads the end of a text
unfoldable pub end_to : ℕ → List ℕ → Reads (List ℕ)
end_to mark bytes = text_at (mark ∷ []) bytes >>= λ u. Ok ([], u.1)

-- reads UTF-8 of at most so many bytes more, from inside or between characters, and a mark
abbrev pub hex_from : ℕ → Due → ℕ → List ℕ → Reads (List ℕ)
hex_from zero s mark bytes = end_to mark bytes
hex_from (suc n) s mark bytes = if s.due == 0 && is_next mark bytes then end_to mark bytes else (pair_at n s bytes >>= λ b. hex_from n (after s b.0) mark b.1 >>= λ t. Ok (b.0 ∷ t.0, t.1))

-- reads a text and a mark
unfoldable pub hex_to : ℕ → List ℕ → Reads (List ℕ)
hex_to mark bytes = hex_from 4096 start mark bytes

-- ---- the parts of a primitive, each with the byte behind it

-- reads a letter of a precision
abbrev pub is_precision : ℕ → Bool
is_precision c = c == 121 || c == 109 || c == 100 || c == 116

-- the precision of its letter
abbrev pub precision_of : ℕ → Precision
precision_of c = if c == 121 then Year else (if c == 109 then Month else (if c == 100 then Day else Time))

-- the letters of the kinds of values
abbrev pub is_kind : ℕ → Bool
is_kind c = c == 101 || c == 105 || c == 98 || c == 109 || c == 116

-- reads a truth value
unfoldable pub boolean_at : List ℕ → Reads Datum
boolean_at bytes = byte_if (between 48 49) bytes >>= λ b. text_at (32 ∷ []) b.1 >>= λ u. Ok (datum.Bool (b.0 == 49), u.1)

-- reads a moment
unfoldable pub moment_at : List ℕ → Reads Datum
moment_at bytes = byte_if is_precision bytes >>= λ p. int_to 62_167_219_200_000 max_moment 32 p.1 >>= λ n. Ok (datum.Moment n.0 (precision_of p.0), n.1)

-- reads a number
unfoldable pub integer_at : List ℕ → Reads Datum
integer_at bytes = int_to (2 ^ 63) (2 ^ 63 - 1) 32 bytes >>= λ n. Ok (datum.Int n.0, n.1)

-- reads a text
unfoldable pub string_at : List ℕ → Reads Datum
string_at bytes = hex_to 32 bytes >>= λ t. Ok (datum.Text t.0, t.1)

-- reads no contents
unfoldable pub nothing_at : List ℕ → Reads Datum
nothing_at bytes = text_at (32 ∷ []) bytes >>= λ u. Ok (datum.Empty, u.1)

-- reads the contents of a value of the kind of this letter
unfoldable pub contents_at : ℕ → List ℕ → Reads Datum
contents_at c bytes = if c == 101 then nothing_at bytes else (if c == 105 then integer_at bytes else (if c == 98 then boolean_at bytes else (if c == 109 then moment_at bytes else string_at bytes)))

-- reads a value and a space
unfoldable pub value_at : List ℕ → Reads Datum
value_at bytes = byte_if is_kind bytes >>= λ c. contents_at c.0 c.1

-- reads a name that is there
unfoldable pub some_name_at : List ℕ → Reads (Option (List ℕ))
some_name_at bytes = text_at (116 ∷ []) bytes >>= λ u. hex_to 10 u.1 >>= λ t. Ok (Some t.0, t.1)

-- reads `-`
unfoldable pub no_name_at : List ℕ → Reads (Option (List ℕ))
no_name_at bytes = text_at (45 ∷ 10 ∷ []) bytes >>= λ u. Ok (None, u.1)

-- reads a name, or `-`, and the end of the line
unfoldable pub name_at : List ℕ → Reads (Option (List ℕ))
name_at bytes = choice (λ c. c == 45) no_name_at some_name_at bytes

-- reads whether a primitive is live, and a space
unfoldable pub live_at : List ℕ → Reads Bool
live_at bytes = byte_if (λ c. c == 43 || c == 45) bytes >>= λ c. text_at (32 ∷ []) c.1 >>= λ u. Ok (c.0 == 43, u.1)

-- reads the rest of the line of a primitive of this moment, behind its first five references
abbrev pub behind_previous_at : ℕ → Option ℕ → Option ℕ → Option ℕ → Option ℕ → Option ℕ → List ℕ → Reads Primitive
behind_previous_at moment left right typ scope previous bytes = place_at bytes >>= λ g. live_at g.1 >>= λ a. value_at a.1 >>= λ v. name_at v.1 >>= λ n.
    Ok (record { left = left; right = right; typ = typ; scope = scope; value = v.0; name = n.0; previous = previous; live = a.0; moment = moment; lang = g.0 }, n.1)

-- reads the rest of the line of a primitive of this moment, behind its first three references
unfoldable pub behind_typ_at : ℕ → Option ℕ → Option ℕ → Option ℕ → List ℕ → Reads Primitive
behind_typ_at moment left right typ bytes = place_at bytes >>= λ s. place_at s.1 >>= λ p. behind_previous_at moment left right typ s.0 p.0 p.1

-- reads the line of a primitive of this moment
unfoldable pub prim_at : ℕ → List ℕ → Reads Primitive
prim_at moment bytes = place_at bytes >>= λ l. place_at l.1 >>= λ r. place_at r.1 >>= λ t. behind_typ_at moment l.0 r.0 t.0 t.1

-- ---- the other lines

-- reads the first line of a dump
unfoldable pub head_at : List ℕ → Reads ℕ
head_at bytes = text_at (codes "graphd-dump 1 ") bytes >>= λ u. number_to (2 ^ 32 - 1) 10 u.1

-- reads the first line of a batch: its moment, and how many primitives it has
unfoldable pub batch_at : List ℕ → Reads (ℕ × ℕ)
batch_at bytes = text_at (codes "batch ") bytes >>= λ u. number_to max_moment 32 u.1 >>= λ m. number_to 4096 10 m.1 >>= λ n. Ok ((m.0, n.0), n.1)

-- reads the last line of a dump of so many batches
unfoldable pub end_at : ℕ → List ℕ → Reads (Unit {0})
end_at count bytes = text_at (codes "end ") bytes >>= λ u. text_at (decimal count) u.1 >>= λ v. text_at (10 ∷ []) v.1
