-- The lines of a round, once read.
use Rattle.std.specs.Prelude.{◌≡◌, ◌⊎◌, ℕ, ◌+◌, ◌^◌, ◌<◌, ◌≤◌, List, [], ◌∷◌, ◌++◌, length, map, true, None, Some, IfSome, Ok, Err, slice_get}
use Rattle.std.specs.List.{AllByRecursion}
use Rattle.gd_runs.specs.Request.{read}
use Rattle.gd_runs.specs.Input.{InputFault, line_from, input_fault_line}
use Rattle.gd_runs.specs.Explained.{Numbered, memory_line}
use Rattle.gd_runs.specs.Side as side
use Rattle.gd_input.specs.declared.line.RoundLine.{RoundLine}
use Rattle.gd_input.specs.Line.{IsKept}
use Rattle.gd_cache.specs.Asked.{key_of, IsKeyOf}
use Rattle.gd_mql.specs.Requests.{read_set_view, write_view}
use Rattle.gd_core_laws.specs.Round.{one_write, write_lines}
use Rattle.gd_core_laws.specs.Writes.{RisesBy}
use Rattle.gd_round_lines.specs.declared.work.ReadLine.{ReadLine}
use Rattle.gd_round_lines.specs.declared.work.WriteLine.{WriteLine}
use Rattle.gd_round_lines.specs.declared.work.LineNumber.{LineNumber}
use Rattle.gd_round_lines.specs.declared.work.Works.{Works}
use Rattle.gd_round_lines.specs.declared.work.Asked.{Asked}
use Rattle.gd_round_lines.specs.declared.work.Asked.TheVariants.{Read, Write, Told, Unread}
use Rattle.gd_round_lines.specs.Some.{IsSomeOf}
use Rattle.gd_reply.specs.Replies.{reply_text}

-- the bytes of lines
abbrev pub texts_of : List Numbered → List (List ℕ)
texts_of given = map (λ l. l.bytes) given

-- the write line that this is
abbrev pub write_of : WriteLine → side.WriteLine
write_of w = record { line = w.line; session = w.session; request = write_view w.request; bytes = w.bytes }

-- a line without a number
abbrev pub no_number : LineNumber
no_number = record { number = None; entry = None }

-- the first reply to line k of these bytes: why they are no line, or that there was no memory
abbrev pub IsFirstReply : ℕ → List ℕ → List ℕ → Type 0
IsFirstReply k bytes reply = ((f : InputFault) × (line_from bytes ≡ Err f) × (reply ≡ input_fault_line k f)) ⊎ (reply ≡ memory_line k)

-- ---- one line

-- line k of these bytes is this read, and its key, if it has one, is that of the bytes
abbrev pub IsReadOf : ℕ → List ℕ → ReadLine → Type 0
IsReadOf k bytes r = (r.line ≡ k) × (line_from bytes ≡ Ok (read r.session (read_set_view r.request))) × IfSome r.key (λ text. key_of bytes ≡ Some text)

-- the key of a read, if it has one, is a text under which its reply may be kept
abbrev pub IsKeyed : ReadLine → Type 0
IsKeyed r = IfSome r.key (λ text. IsKeyOf text (read_set_view r.request))

-- these bytes are no line
abbrev pub IsNoLine : List ℕ → Type 0
IsNoLine bytes = (f : InputFault) × (line_from bytes ≡ Err f)

-- what line k of these bytes asks, or its first reply where it is no line
abbrev pub IsAsked : ℕ → List ℕ → Asked → Type 0
IsAsked k bytes (Read r) = IsReadOf k bytes r
IsAsked k bytes (Write w) = one_write k (length bytes) (line_from bytes) ≡ write_of w ∷ []
IsAsked k bytes (Told reply) = IsNoLine bytes × IsFirstReply k bytes (reply_text reply)
IsAsked k bytes (Unread line) = line ≡ k

-- a read is of line k, of one of the 64 sessions, and has the key that it may have
abbrev pub IsReadAsked : ℕ → ReadLine → Type 0
IsReadAsked k r = (r.line ≡ k) × (r.session < 64) × IsKeyed r

-- a write is of line k, and has no more bytes than a line
abbrev pub IsWriteAsked : ℕ → WriteLine → Type 0
IsWriteAsked k w = (w.line ≡ k) × (w.bytes ≤ 262_144)

-- what is asked is of line k
abbrev pub IsAskedAt : ℕ → Asked → Type 0
IsAskedAt k (Read r) = IsReadAsked k r
IsAskedAt k (Write w) = IsWriteAsked k w
IsAskedAt k (Told reply) = Unit {0}
IsAskedAt k (Unread line) = line ≡ k

-- what the line at a place asks, the first of the lines being line first, whichever bytes it was kept of
pub record IsAskedOf (first : ℕ) (lines : List RoundLine) (place : ℕ) (what : Asked) : Type 0 where
  pub line : IsAskedAt (first + place) what
  pub asked : (text : RoundLine) (bytes : List ℕ) → slice_get lines place ≡ Some text → IsKept 262_144 text bytes → IsAsked (first + place) bytes what

-- what each of the lines asks, the first of them being line first
pub record AreAsked (first : ℕ) (lines : List RoundLine) (all : List Asked) : Type 0 where
  pub count : length all ≡ length lines
  pub each : (place : ℕ) (what : Asked) → slice_get all place ≡ Some what → IsAskedOf first lines place what

-- ---- lines one after another

-- a line was appended, with these reads and writes of its own and this first reply, and no number
pub record Pushes (old new : Works) (reads : List ReadLine) (writes : List WriteLine) (reply : List ℕ) : Type 0 where
  pub numbers : new.numbers.items ≡ old.numbers.items ++ no_number ∷ []
  pub replies : map reply_text new.replies.items ≡ map reply_text old.replies.items ++ reply ∷ []
  pub reads_are : new.reads.items ≡ old.reads.items ++ reads
  pub writes_are : new.writes.items ≡ old.writes.items ++ writes
  pub same_whole : new.whole ≡ old.whole

-- line k of these bytes was read behind others: it has no number and a first reply, and is a read or a write of its own, or none; where the lines are whole then, they were before, and its write is there if it is one
pub record TakesLine (k : ℕ) (bytes : List ℕ) (old new : Works) : Type 0 where
  pub numbers : new.numbers.items ≡ old.numbers.items ++ no_number ∷ []
  pub reply : List ℕ
  pub replies : map reply_text new.replies.items ≡ map reply_text old.replies.items ++ reply ∷ []
  pub first : IsFirstReply k bytes reply
  pub writes : List side.WriteLine
  pub written : map write_of new.writes.items ≡ map write_of old.writes.items ++ writes
  pub some : IsSomeOf writes (one_write k (length bytes) (line_from bytes))
  pub is_whole : new.whole ≡ true → (old.whole ≡ true) × (writes ≡ one_write k (length bytes) (line_from bytes))
  pub reads : List ReadLine
  pub asked : new.reads.items ≡ old.reads.items ++ reads
  pub each : AllByRecursion (IsReadOf k bytes) reads

-- a read of a line of the round, from line first up to an end, of one of the 64 sessions, and with the key that it may have
abbrev pub IsReadWithin : ℕ → ℕ → ReadLine → Type 0
IsReadWithin first end r = (first ≤ r.line) × (r.line < end) × (r.session < 64) × IsKeyed r

-- a write of a line of the round, with no more bytes than a line has
abbrev pub IsWriteWithin : ℕ → ℕ → WriteLine → Type 0
IsWriteWithin first end w = (first ≤ w.line) × (w.line < end) × (w.bytes ≤ 262_144)

-- a write has no more bytes than a line has, and a number that a reply tells
abbrev pub MayBeWritten : WriteLine → Type 0
MayBeWritten w = (w.bytes ≤ 262_144) × (w.line < 2 ^ 63)

-- no line is both a read and a write
abbrev pub AreApart : List ReadLine → List WriteLine → Type 0
AreApart reads writes = (x y : ℕ) (r : ReadLine) (w : WriteLine) → slice_get reads x ≡ Some r → slice_get writes y ≡ Some w → r.line ≡ w.line → ⊥

-- the lines of a round were read, from line first up to an end, in their order
pub record AreWithin (first end : ℕ) (works : Works) : Type 0 where
  pub reads : AllByRecursion (IsReadWithin first end) works.reads.items
  pub writes : AllByRecursion (IsWriteWithin first end) works.writes.items
  pub numbers : first + length works.numbers.items ≡ end
  pub replies : first + length works.replies.items ≡ end
  pub none : AllByRecursion (λ n. n ≡ no_number) works.numbers.items
  pub reads_rise : RisesBy (λ r. r.line) works.reads.items
  pub writes_rise : RisesBy (λ w. w.line) works.writes.items
  pub apart : AreApart works.reads.items works.writes.items

-- a read is one of the lines
pub record IsReadAmong (first : ℕ) (given : List Numbered) (r : ReadLine) : Type 0 where
  pub place : ℕ
  pub line : Numbered
  pub there : slice_get given place ≡ Some line
  pub asks : IsReadOf (first + place) line.bytes r

-- lines were read, the first of them line first
pub record AreRead (first : ℕ) (given : List Numbered) (works : Works) : Type 0 where
  pub numbers : (j : ℕ) (n : LineNumber) → slice_get works.numbers.items j ≡ Some n → n ≡ no_number
  pub many : length works.numbers.items ≡ length given
  pub replies : (j : ℕ) (l : Numbered) (reply : List ℕ) → slice_get given j ≡ Some l → slice_get (map reply_text works.replies.items) j ≡ Some reply → IsFirstReply (first + j) l.bytes reply
  pub count : length (map reply_text works.replies.items) ≡ length given
  pub writes : IsSomeOf (map write_of works.writes.items) (write_lines first given)
  pub whole : works.whole ≡ true → map write_of works.writes.items ≡ write_lines first given
  pub reads : AllByRecursion (IsReadAmong first given) works.reads.items
