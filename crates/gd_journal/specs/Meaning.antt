-- What the file of a journal stands for.
use Rattle.std.specs.Prelude.{◌≡◌, ◌⊎◌, ℕ, ◌+◌, ◌<◌, List, [], ◌∷◌, ◌++◌, length, nat_le, bytes_eq, Bool, true, not, ◌&&◌, ◌||◌, Option, Some, None, if◌then◌else◌}
use Rattle.std.specs.Option.{option_map}
use Rattle.std.specs.List.{list_any}
use Rattle.gd_bytes.specs.File.{Version, version_of, is_marked, mark, Payloads, payloads, no_payloads}

-- The payloads that a file holds: an unfinished creation holds none, and what is no store is told apart.
unfoldable pub held_by : List ℕ → Option Payloads
held_by file = if nat_le (length file) 9 then Some no_payloads else option_map (λ _. payloads file) (version_of file)

-- A file that is no unfinished creation has the header of this version.
abbrev pub HasVersion : Version → List ℕ → Type 0
HasVersion v file = 9 < length file → version_of file ≡ Some v

-- Payloads with the offsets of their gates, where the first gate has this one.
abbrev pub located : ℕ → List (List ℕ) → List (ℕ × List ℕ)
located at [] = []
located at (p ∷ ps) = (at, p) ∷ located (at + 5 + length p) ps

-- These payloads one behind the other from offset 8 on, and no damage.
abbrev pub whole : List (List ℕ) → Payloads
whole ps = record { list = located 8 ps; damaged = None }

-- A file stands for these payloads, and has the header of this version unless it is an unfinished creation.
abbrev pub StandsFor : Version → List (List ℕ) → List ℕ → Type 0
StandsFor v ps file = (held_by file ≡ Some (whole ps)) × HasVersion v file

-- A file stands for these payloads, or for these and one more.
abbrev pub MayStandFor : Version → List (List ℕ) → List ℕ → List ℕ → Type 0
MayStandFor v ps p file = StandsFor v ps file ⊎ StandsFor v (ps ++ p ∷ []) file

-- The first damaged record of a file has its gate at this offset.
abbrev pub IsDamagedAt : ℕ → List ℕ → Type 0
IsDamagedAt at file = (found : Payloads) × (held_by file ≡ Some found) × (found.damaged ≡ Some at)

-- ---- the mark

-- Texts may have languages behind these payloads of a file of this version: the mark is among them, or none is needed.
abbrev pub marked_by : Version → List (List ℕ) → Bool
marked_by v ps = is_marked v || list_any (λ p. bytes_eq p mark) ps

-- These payloads, and the mark behind them where none of them is it, and one is needed.
abbrev pub with_mark : Version → List (List ℕ) → List (List ℕ)
with_mark v ps = if marked_by v ps then ps else ps ++ mark ∷ []

-- Payloads without the mark, each with whether texts may have languages there, behind payloads where they may or not. Where they may, no mark may stand, and a payload of its bytes is one as any other.
abbrev pub told : Bool → List (ℕ × List ℕ) → List (Bool × (ℕ × List ℕ))
told marked [] = []
told marked (r ∷ rs) = if not marked && bytes_eq r.1 mark then told true rs else (marked, r) ∷ told marked rs

-- What a file tells: its payloads without the mark, and the offset of its first damaged record.
pub record Told : Type 0 where
  pub list : List (Bool × (ℕ × List ℕ))
  pub damaged : Option ℕ

-- What these payloads tell in a file of this version.
abbrev pub told_of : Payloads → Version → Told
told_of found v = record { list = told (is_marked v) found.list; damaged = found.damaged }

-- What a file tells: an unfinished creation nothing, and what is no store is told apart.
unfoldable pub told_by : List ℕ → Option Told
told_by file = if nat_le (length file) 9 then Some (record { list = []; damaged = None }) else option_map (told_of (payloads file)) (version_of file)

-- A file tells what some image of before tells.
abbrev pub TellsOneOf : (List ℕ → Type 0) → List ℕ → Type 0
TellsOneOf images file = (before : List ℕ) × images before × (told_by file ≡ told_by before)
