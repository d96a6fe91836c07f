-- A group of batches as bytes: its one spelling, and its reading.
use Rattle.std.specs.Prelude.{◌≡◌, ℕ, ◌+◌, ◌^◌, ◌<◌, ◌≤◌, List, [], ◌∷◌, ◌++◌, length, flat_map, Bool, true, false, ◌&&◌, ◌||◌, ◌==◌, nat_lt, nat_le, Option, Some, None, is_some, if◌then◌else◌, IsUtf8, IsTrue}
use Rattle.std.specs.List.{AllByRecursion}
use Rattle.std.specs.Int.{w16, w32, w64, to_be_bytes, cast_signed, cast_unsigned, bit_at}
use Rattle.std.specs.Str.{is_utf8}
use Rattle.gd_base.specs.declared.datum.Precision.{Precision}
use Rattle.gd_base.specs.declared.datum.Precision.TheVariants.{Year, Month, Day, Time}
use Rattle.gd_base.specs.declared.datum.Datum.{Datum}
use Rattle.gd_base.specs.declared.datum.Datum.TheVariants as datum
use Rattle.gd_prim.specs.declared.Primitive.{Primitive}
use Rattle.gd_prim.specs.declared.Batch.{Batch}
use Rattle.gd_base.specs.Order.{precision_index}
use Rattle.gd_grammar.specs.Maybe.{◌>>=◌}
use Rattle.gd_grammar.specs.Grammar.{IsFaultAt, IsText}
use Rattle.gd_grammar.specs.Options.{Reads, bytes_at, u8_at, u16_at, u32_at, u64_at, many_at}
use Rattle.gd_prim.specs.WellFormed.{max_moment, is_moment}

-- ---- spelling

-- what a flag adds to the flag byte
abbrev pub flag : ℕ → Bool → ℕ
flag worth set = if set then worth else 0

-- the flag byte of a primitive: which references and whether a name and a language are there, and whether it is live
abbrev pub flags : Primitive → ℕ
flags p = flag 1 (is_some p.left) + flag 2 (is_some p.right) + flag 4 (is_some p.typ) + flag 8 (is_some p.scope)
    + flag 16 (is_some p.previous) + flag 32 (is_some p.name) + flag 64 p.live + flag 128 (is_some p.lang)

-- the bytes of a reference: four, where it is there
abbrev pub reference_bytes : Option ℕ → List ℕ
reference_bytes None = []
reference_bytes (Some p) = to_be_bytes w32 p

-- the bytes of a text: its length in two bytes, and the text
abbrev pub text_bytes : List ℕ → List ℕ
text_bytes t = to_be_bytes w16 (length t) ++ t

-- the bytes of a value: one for its kind, and its contents
abbrev pub value_bytes : Datum → List ℕ
value_bytes datum.Empty = 0 ∷ []
value_bytes (datum.Text t) = 1 ∷ text_bytes t
value_bytes (datum.Int n) = 2 ∷ to_be_bytes w64 (cast_unsigned w64 n)
value_bytes (datum.Bool b) = 3 ∷ (if b then 1 else 0) ∷ []
value_bytes (datum.Moment ms precision) = 4 ∷ precision_index precision ∷ to_be_bytes w64 (cast_unsigned w64 ms)
value_bytes (datum.Object o) = []

-- the bytes of a name, where it is there
abbrev pub name_bytes : Option (List ℕ) → List ℕ
name_bytes None = []
name_bytes (Some t) = text_bytes t

-- the bytes of a primitive: flags, the references that are there, the value, the name
abbrev pub primitive_bytes : Primitive → List ℕ
primitive_bytes p = flags p ∷ reference_bytes p.left ++ reference_bytes p.right ++ reference_bytes p.typ ++ reference_bytes p.scope ++ reference_bytes p.previous ++ reference_bytes p.lang
    ++ value_bytes p.value ++ name_bytes p.name

-- the bytes of a batch: its moment, the number of its primitives, and the primitives
abbrev pub batch_bytes : Batch → List ℕ
batch_bytes b = to_be_bytes w64 b.moment ++ to_be_bytes w16 (length b.prims) ++ flat_map primitive_bytes b.prims

-- the bytes of a group: the number of its batches, and the batches
abbrev pub spelling : List Batch → List ℕ
spelling bs = to_be_bytes w16 (length bs) ++ flat_map batch_bytes bs

-- ---- what has a spelling

-- a reference that is there fits in four bytes
abbrev pub ReferenceFits : Option ℕ → Type 0
ReferenceFits None = Unit {0}
ReferenceFits (Some p) = p < 2 ^ 32

-- a text has at most 4,096 bytes of UTF-8
abbrev pub TextFits : List ℕ → Type 0
TextFits t = (length t ≤ 4096) × IsUtf8 t

-- a name that is there is a text
abbrev pub NameFits : Option (List ℕ) → Type 0
NameFits None = Unit {0}
NameFits (Some t) = TextFits t

-- a value has a spelling: a number of 64 bits, a moment in range, but no object
abbrev pub ValueFits : Datum → Type 0
ValueFits (datum.Text t) = TextFits t
ValueFits (datum.Int n) = cast_signed w64 (cast_unsigned w64 n) ≡ n
ValueFits (datum.Moment ms precision) = IsTrue (is_moment ms)
ValueFits (datum.Object o) = ⊥
ValueFits _ = Unit {0}

-- a primitive has a spelling in a batch of this moment: each of its parts has one, and the moment is its own
pub record PrimitiveFits (moment : ℕ) (p : Primitive) : Type 0 where
  pub left : ReferenceFits p.left
  pub right : ReferenceFits p.right
  pub typ : ReferenceFits p.typ
  pub scope : ReferenceFits p.scope
  pub previous : ReferenceFits p.previous
  pub lang : ReferenceFits p.lang
  pub value : ValueFits p.value
  pub name : NameFits p.name
  pub same : p.moment ≡ moment

-- a batch has a spelling: its moment and its number of primitives lie within their bounds, and each primitive has one
pub record BatchFits (b : Batch) : Type 0 where
  pub moment : b.moment ≤ max_moment
  pub few : length b.prims ≤ 4096
  pub each : AllByRecursion (PrimitiveFits b.moment) b.prims

-- batches have a spelling as a group: they are 1 to 256, and each has one
pub record Fits (bs : List Batch) : Type 0 where
  pub some : 0 < length bs
  pub few : length bs ≤ 256
  pub each : AllByRecursion BatchFits bs

-- the bytes are the group of these batches
abbrev pub IsGroup : List ℕ → List Batch → Type 0
IsGroup bytes bs = IsText spelling Fits bs bytes

-- the bytes are no group, and n of them go with some group
abbrev pub IsBadGroupAt : List ℕ → ℕ → Type 0
IsBadGroupAt bytes n = IsFaultAt spelling Fits bytes n

-- ---- reading: the value and the bytes after it, where they spell one

-- reads a reference where its flag is set
abbrev pub reference_at : Bool → List ℕ → Reads (Option ℕ)
reference_at false bytes = Some (None, bytes)
reference_at true bytes = u32_at bytes >>= λ n. Some (Some n.0, n.1)

-- reads a text: its length and so many bytes of UTF-8
abbrev pub text_at : List ℕ → Reads (List ℕ)
text_at bytes = u16_at bytes >>= λ n. bytes_at n.0 n.1 >>= λ t. if nat_le (length t.0) 4096 && is_utf8 t.0 then Some t else None

-- the precision that a byte stands for
abbrev pub precision_of : ℕ → Option Precision
precision_of n = if n == 0 then Some Year else if n == 1 then Some Month else if n == 2 then Some Day else if n == 3 then Some Time else None

-- the truth value that a byte stands for
abbrev pub boolean_of : ℕ → Option Bool
boolean_of n = if n == 0 then Some false else if n == 1 then Some true else None

-- reads a moment: its precision, and its milliseconds in range
abbrev pub moment_at : List ℕ → Reads Datum
moment_at bytes = u8_at bytes >>= λ k. precision_of k.0 >>= λ p. u64_at k.1 >>= λ n.
    if is_moment (cast_signed w64 n.0) then Some (datum.Moment (cast_signed w64 n.0) p, n.1) else None

-- reads the contents of a value of this kind
abbrev pub contents_at : ℕ → List ℕ → Reads Datum
contents_at kind bytes = if kind == 0 then Some (datum.Empty, bytes)
    else if kind == 1 then (text_at bytes >>= λ t. Some (datum.Text t.0, t.1))
    else if kind == 2 then (u64_at bytes >>= λ n. Some (datum.Int (cast_signed w64 n.0), n.1))
    else if kind == 3 then (u8_at bytes >>= λ k. boolean_of k.0 >>= λ b. Some (datum.Bool b, k.1))
    else if kind == 4 then moment_at bytes else None

-- reads a value: its kind and its contents
abbrev pub value_at : List ℕ → Reads Datum
value_at bytes = u8_at bytes >>= λ k. contents_at k.0 k.1

-- reads a name where its flag is set
abbrev pub name_at : Bool → List ℕ → Reads (Option (List ℕ))
name_at false bytes = Some (None, bytes)
name_at true bytes = text_at bytes >>= λ t. Some (Some t.0, t.1)

-- reads a primitive of this moment
abbrev pub primitive_at : ℕ → List ℕ → Reads Primitive
primitive_at moment bytes = u8_at bytes >>= λ f.
    reference_at (bit_at f.0 0 == 1) f.1 >>= λ l. reference_at (bit_at f.0 1 == 1) l.1 >>= λ r. reference_at (bit_at f.0 2 == 1) r.1 >>= λ t.
    reference_at (bit_at f.0 3 == 1) t.1 >>= λ s. reference_at (bit_at f.0 4 == 1) s.1 >>= λ p. reference_at (bit_at f.0 7 == 1) p.1 >>= λ g. value_at g.1 >>= λ v. name_at (bit_at f.0 5 == 1) v.1 >>= λ n.
    Some (record { left = l.0; right = r.0; typ = t.0; scope = s.0; value = v.0; name = n.0; previous = p.0; live = bit_at f.0 6 == 1; moment = moment; lang = g.0 }, n.1)

-- reads a batch
abbrev pub batch_at : List ℕ → Reads Batch
batch_at bytes = u64_at bytes >>= λ m. u16_at m.1 >>= λ n. if nat_lt max_moment m.0 || nat_lt 4096 n.0 then None else
    (many_at (primitive_at m.0) n.0 n.1 >>= λ ps. Some (record { moment = m.0; prims = ps.0 }, ps.1))

-- the value that was read, if no byte follows
abbrev pub whole : {A : Type 0} → A × List ℕ → Option A
whole {A} x = if length x.1 == 0 then Some x.0 else None

-- the batches of which the bytes are the group
abbrev pub group_of : List ℕ → Option (List Batch)
group_of bytes = u16_at bytes >>= λ n. if n.0 == 0 || nat_lt 256 n.0 then None else (many_at batch_at n.0 n.1 >>= whole)
