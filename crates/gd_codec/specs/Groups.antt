-- Groups of batches, read from the left: each reader gives a value and the bytes after it, or the bytes at which no group goes on.
use Rattle.std.specs.Prelude.{ℕ, ◌-◌, ◌^◌, List, [], ◌∷◌, Bool, ◌==◌, Option, Some, None, Result, Ok, if◌then◌else◌}
use Rattle.std.specs.Int.{w64, bit_at, cast_signed}
use Rattle.gd_base.specs.declared.datum.Precision.{Precision}
use Rattle.gd_base.specs.declared.datum.Precision.TheVariants.{Year, Month, Day, Time}
use Rattle.gd_base.specs.declared.datum.Datum.{Datum}
use Rattle.gd_base.specs.declared.datum.Datum.TheVariants as datum
use Rattle.gd_prim.specs.declared.Primitive.{Primitive}
use Rattle.gd_prim.specs.declared.Batch.{Batch}
use Rattle.gd_prim.specs.WellFormed.{max_moment}
use Rattle.gd_grammar.specs.Chain.{◌>>=◌}
use Rattle.gd_grammar.specs.Grammar.{Reads, ended}
use Rattle.gd_grammar.specs.Reading.{Range, number_at, items_at}
use Rattle.gd_utf8.specs.Utf8.{utf8_at}

-- the numbers up to this one
abbrev pub up_to : ℕ → List Range
up_to most = (0, most) ∷ []

-- moments in milliseconds, as numbers of eight bytes in two's complement: from the year 0000 to the last of 9999
abbrev pub moments : List Range
moments = (0, max_moment) ∷ (2 ^ 64 - 62_167_219_200_000, 2 ^ 64 - 1) ∷ []

-- reads a text: its length, at most 4,096, and so many bytes of UTF-8
abbrev pub text_at : List ℕ → Reads (List ℕ)
text_at bytes = number_at (up_to 4096) 2 bytes >>= λ n. utf8_at n.0 n.1

-- the precision at this place in their order
abbrev pub precision_from : ℕ → Precision
precision_from n = if n == 0 then Year else (if n == 1 then Month else (if n == 2 then Day else Time))

-- reads a number of 64 bits
abbrev pub integer_at : List ℕ → Reads Datum
integer_at bytes = number_at (up_to (2 ^ 64 - 1)) 8 bytes >>= λ n. Ok (datum.Int (cast_signed w64 n.0), n.1)

-- reads a truth value
abbrev pub boolean_at : List ℕ → Reads Datum
boolean_at bytes = number_at (up_to 1) 1 bytes >>= λ n. Ok (datum.Bool (n.0 == 1), n.1)

-- reads a moment: its precision and its milliseconds
abbrev pub moment_at : List ℕ → Reads Datum
moment_at bytes = number_at (up_to 3) 1 bytes >>= λ p. number_at moments 8 p.1 >>= λ n. Ok (datum.Moment (cast_signed w64 n.0) (precision_from p.0), n.1)

-- reads the contents of a value of this kind
unfoldable pub contents_at : ℕ → List ℕ → Reads Datum
contents_at kind bytes = if kind == 0 then Ok (datum.Empty, bytes)
    else (if kind == 1 then (text_at bytes >>= λ t. Ok (datum.Text t.0, t.1))
    else (if kind == 2 then integer_at bytes else (if kind == 3 then boolean_at bytes else moment_at bytes)))

-- reads a value: its kind and its contents
unfoldable pub value_at : List ℕ → Reads Datum
value_at bytes = number_at (up_to 4) 1 bytes >>= λ k. contents_at k.0 k.1

-- reads a reference where it is there
unfoldable pub reference_at : Bool → List ℕ → Reads (Option ℕ)
reference_at present bytes = if present then (number_at (up_to (2 ^ 32 - 1)) 4 bytes >>= λ n. Ok (Some n.0, n.1)) else Ok (None, bytes)

-- reads a name where it is there
unfoldable pub name_at : Bool → List ℕ → Reads (Option (List ℕ))
name_at present bytes = if present then (text_at bytes >>= λ t. Ok (Some t.0, t.1)) else Ok (None, bytes)

-- a flag of the flag byte is set
abbrev pub flag_at : ℕ → ℕ → Bool
flag_at flags i = bit_at flags i == 1

-- reads what stands behind the first five references of a primitive of this moment and these flags
abbrev pub behind_previous_at : ℕ → ℕ → Option ℕ → Option ℕ → Option ℕ → Option ℕ → Option ℕ → List ℕ → Reads Primitive
behind_previous_at moment flags left right typ scope previous bytes = reference_at (flag_at flags 7) bytes >>= λ g. value_at g.1 >>= λ v. name_at (flag_at flags 5) v.1 >>= λ n.
    Ok (record { left = left; right = right; typ = typ; scope = scope; value = v.0; name = n.0; previous = previous; live = flag_at flags 6; moment = moment; lang = g.0 }, n.1)

-- reads what stands behind the first three references of a primitive of this moment and these flags
abbrev pub behind_typ_at : ℕ → ℕ → Option ℕ → Option ℕ → Option ℕ → List ℕ → Reads Primitive
behind_typ_at moment flags left right typ bytes = reference_at (flag_at flags 3) bytes >>= λ s. reference_at (flag_at flags 4) s.1 >>= λ p.
    behind_previous_at moment flags left right typ s.0 p.0 p.1

-- reads a primitive of this moment: its flags, the references that they announce, its value, and its name where they announce one
unfoldable pub primitive_at : ℕ → List ℕ → Reads Primitive
primitive_at moment bytes = number_at (up_to 255) 1 bytes >>= λ f. reference_at (flag_at f.0 0) f.1 >>= λ l. reference_at (flag_at f.0 1) l.1 >>= λ r. reference_at (flag_at f.0 2) r.1 >>= λ t.
    behind_typ_at moment f.0 l.0 r.0 t.0 t.1

-- reads a batch: its moment, the number of its primitives, and the primitives
unfoldable pub batch_at : List ℕ → Reads Batch
batch_at bytes = number_at (up_to max_moment) 8 bytes >>= λ m. number_at (up_to 4096) 2 m.1 >>= λ n. items_at (primitive_at m.0) n.0 n.1 >>= λ ps. Ok (record { moment = m.0; prims = ps.0 }, ps.1)

-- reads a group: the number of its batches, 1 to 256, and the batches
unfoldable pub group_at : List ℕ → Reads (List Batch)
group_at bytes = number_at ((1, 256) ∷ []) 2 bytes >>= λ n. items_at batch_at n.0 n.1

-- reads a group, behind which no byte may follow
abbrev pub whole_group_at : List ℕ → Result (List Batch) (List ℕ)
whole_group_at bytes = group_at bytes >>= ended
