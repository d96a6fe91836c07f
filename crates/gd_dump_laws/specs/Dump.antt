-- A list of batches as a text, line by line, from a number on: its one dump.
use Rattle.std.specs.Prelude.{◌≡◌, ℕ, suc, ◌/◌, ◌%◌, ◌^◌, ◌<◌, ◌≤◌, ℤ, pos, negsuc, List, [], ◌∷◌, ◌++◌, length, flat_map, Bool, Option, Some, None, if◌then◌else◌, codes, decimal, IsUtf8, IsTrue}
use Rattle.std.specs.List.{AllByRecursion}
use Rattle.gd_base.specs.declared.datum.Precision.{Precision}
use Rattle.gd_base.specs.declared.datum.Precision.TheVariants.{Year, Month, Day, Time}
use Rattle.gd_base.specs.declared.datum.Datum.{Datum}
use Rattle.gd_base.specs.declared.datum.Datum.TheVariants as datum
use Rattle.gd_prim.specs.declared.Primitive.{Primitive}
use Rattle.gd_prim.specs.declared.Batch.{Batch}
use Rattle.gd_prim.specs.WellFormed.{max_moment, is_number, is_moment}
use Rattle.gd_tree.specs.Hex.{hex_digit}
use Rattle.gd_grammar.specs.Grammar.{IsText, IsFaultAt, BeginsSome}
use Rattle.gd_grammar.specs.Mark.{place_text}

-- ---- spelling

-- a byte in two lower-case hexadecimal digits
abbrev pub byte_text : ℕ → List ℕ
byte_text b = hex_digit (b / 16) ∷ hex_digit (b % 16) ∷ []

-- bytes in hexadecimal digits
abbrev pub hex_text : List ℕ → List ℕ
hex_text bytes = flat_map byte_text bytes

-- a whole number in decimal digits, behind `-` where it is below 0
abbrev pub int_text : ℤ → List ℕ
int_text (pos n) = decimal n
int_text (negsuc n) = 45 ∷ decimal (suc n)

-- the letter of a precision
abbrev pub precision_letter : Precision → ℕ
precision_letter Year = 121
precision_letter Month = 109
precision_letter Day = 100
precision_letter Time = 116

-- a value: a letter for its kind, and its contents
abbrev pub value_text : Datum → List ℕ
value_text datum.Empty = codes "e"
value_text (datum.Int n) = 105 ∷ int_text n
value_text (datum.Bool b) = 98 ∷ (if b then 49 else 48) ∷ []
value_text (datum.Moment ms precision) = 109 ∷ precision_letter precision ∷ int_text ms
value_text (datum.Text t) = 116 ∷ hex_text t
value_text (datum.Object o) = []

-- a name, or `-` where there is none
abbrev pub name_text : Option (List ℕ) → List ℕ
name_text None = codes "-"
name_text (Some t) = 116 ∷ hex_text t

-- whether a primitive is live
abbrev pub live_mark : Bool → ℕ
live_mark live = if live then 43 else 45

-- the line of a primitive: its references, the last of them its language, whether it is live, its value and its name, with spaces between them
abbrev pub prim_line : Primitive → List ℕ
prim_line p = (place_text p.left ++ 32 ∷ []) ++ (place_text p.right ++ 32 ∷ []) ++ (place_text p.typ ++ 32 ∷ []) ++ (place_text p.scope ++ 32 ∷ []) ++ (place_text p.previous ++ 32 ∷ [])
    ++ (place_text p.lang ++ 32 ∷ []) ++ (live_mark p.live ∷ 32 ∷ []) ++ (value_text p.value ++ 32 ∷ []) ++ (name_text p.name ++ 10 ∷ [])

-- the first line of a batch: its moment, and how many primitives it has
abbrev pub batch_head : ℕ → ℕ → List ℕ
batch_head moment count = codes "batch " ++ (decimal moment ++ 32 ∷ []) ++ (decimal count ++ 10 ∷ [])

-- the lines of a batch: the first one, and one for each primitive
abbrev pub batch_text : Batch → List ℕ
batch_text b = batch_head b.moment (length b.prims) ++ flat_map prim_line b.prims

-- the first line of a dump: the number of its first batch
abbrev pub dump_head : ℕ → List ℕ
dump_head first = codes "graphd-dump 1 " ++ (decimal first ++ 10 ∷ [])

-- the last line of a dump: how many batches it has
abbrev pub dump_end : ℕ → List ℕ
dump_end count = codes "end " ++ (decimal count ++ 10 ∷ [])

-- batches, and the number of the first of them
pub record Dump : Type 0 where
  pub first : ℕ
  pub batches : List Batch

-- the text of a dump
abbrev pub spelling : Dump → List ℕ
spelling d = dump_head d.first ++ flat_map batch_text d.batches ++ dump_end (length d.batches)

-- ---- what has a spelling

-- a place is a number of 32 bits
abbrev pub PlaceFits : Option ℕ → Type 0
PlaceFits None = Unit {0}
PlaceFits (Some place) = place < 2 ^ 32

-- a text has at most 4,096 bytes of UTF-8
abbrev pub TextFits : List ℕ → Type 0
TextFits t = (length t ≤ 4096) × IsUtf8 t

-- a name that is there is a text
abbrev pub NameFits : Option (List ℕ) → Type 0
NameFits None = Unit {0}
NameFits (Some t) = TextFits t

-- a value that a primitive may hold: a text, a number of 64 bits, a moment in range, but no object
abbrev pub ValueFits : Datum → Type 0
ValueFits (datum.Text t) = TextFits t
ValueFits (datum.Int n) = IsTrue (is_number n)
ValueFits (datum.Moment ms precision) = IsTrue (is_moment ms)
ValueFits (datum.Object o) = ⊥
ValueFits _ = Unit {0}

-- a primitive has a line in a batch of this moment: each of its parts has a text, and the moment is its own
pub record PrimitiveFits (moment : ℕ) (p : Primitive) : Type 0 where
  pub left : PlaceFits p.left
  pub right : PlaceFits p.right
  pub typ : PlaceFits p.typ
  pub scope : PlaceFits p.scope
  pub previous : PlaceFits p.previous
  pub lang : PlaceFits p.lang
  pub value : ValueFits p.value
  pub name : NameFits p.name
  pub same : p.moment ≡ moment

-- a batch has lines: its moment and its number of primitives lie within their bounds, and each primitive has a line
pub record BatchFits (b : Batch) : Type 0 where
  pub moment : b.moment ≤ max_moment
  pub few : length b.prims ≤ 4096
  pub each : AllByRecursion (PrimitiveFits b.moment) b.prims

-- a dump has a text: its first number has 32 bits, and each batch has lines
pub record Fits (d : Dump) : Type 0 where
  pub first : d.first < 2 ^ 32
  pub each : AllByRecursion BatchFits d.batches

-- the bytes are the dump of these batches from this number on
abbrev pub IsDump : List ℕ → ℕ → List Batch → Type 0
IsDump bytes first batches = IsText spelling Fits (record { first = first; batches = batches }) bytes

-- the bytes are no dump, and n of them go with some dump
abbrev pub IsBadDumpAt : List ℕ → ℕ → Type 0
IsBadDumpAt bytes n = IsFaultAt spelling Fits bytes n

-- the bytes begin some dump
abbrev pub BeginsDump : List ℕ → Type 0
BeginsDump bytes = BeginsSome spelling Fits bytes

-- ---- what is whole in a text that is read piece by piece

-- the text goes on from here with the lines of no batch that has lines
abbrev pub NoBatchNext : List ℕ → Type 0
NoBatchNext rest = (b : Batch) (more : List ℕ) → BatchFits b → rest ≡ batch_text b ++ more → ⊥

-- The bytes begin with the line of this first number and then just these batches are whole in them; or not even that line is.
abbrev pub Whole : List ℕ → Option ℕ → List Batch → Type 0
Whole bytes None batches = (batches ≡ []) × ((first : ℕ) (more : List ℕ) → first < 2 ^ 32 → bytes ≡ dump_head first ++ more → ⊥)
Whole bytes (Some first) batches = (first < 2 ^ 32) × AllByRecursion BatchFits batches × ((rest : List ℕ) × (bytes ≡ dump_head first ++ flat_map batch_text batches ++ rest) × NoBatchNext rest)
