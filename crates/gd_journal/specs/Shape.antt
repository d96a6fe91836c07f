-- How the file of a journal is built up from its gates.
use Rattle.std.specs.Prelude.{◌≡◌, ◌≢◌, ℕ, ◌≤◌, List, [], ◌∷◌, ◌++◌, length, take, drop, slice_index, flat_map, Option, None, Some}
use Rattle.std.specs.List.{AllByRecursion}
use Rattle.std.specs.Int.{to_be_bytes, w32}
use Rattle.gd_bytes.specs.File.{Version, header, open_record, payload as payload_of}

-- A payload has 1 to 268,435,456 bytes.
pub record IsPayload (p : List ℕ) : Type 0 where
  pub some : 1 ≤ length p
  pub short : length p ≤ 268_435_456

-- A payload behind its length.
abbrev pub spelled : List ℕ → List ℕ
spelled p = to_be_bytes w32 (length p) ++ p

-- All that stands before the gate behind these payloads of a file of this version.
unfoldable pub front : Version → List (List ℕ) → List ℕ
front v ps = header v ++ flat_map open_record ps

-- Behind these payloads stand a gate that is not open, and anything behind it.
pub record IsClosed (v : Version) (ps : List (List ℕ)) (file : List ℕ) : Type 0 where
  pub gate : ℕ
  pub rest : List ℕ
  pub shut : gate ≢ 1
  pub is : file ≡ front v ps ++ gate ∷ rest

-- A gate that is not open ends the file behind these payloads.
pub record IsAtRest (v : Version) (ps : List (List ℕ)) (file : List ℕ) : Type 0 where
  pub gate : ℕ
  pub shut : gate ≢ 1
  pub is : file ≡ front v ps ++ gate ∷ []

-- Behind some gate stand one more payload and its closed gate.
pub record IsStaged (v : Version) (ps : List (List ℕ)) (p file : List ℕ) : Type 0 where
  pub gate : ℕ
  pub is : file ≡ front v ps ++ gate ∷ (spelled p ++ 0 ∷ [])

-- The gate is open only in front of the whole payload and its closed gate.
pub record IsDoubtful (v : Version) (ps : List (List ℕ)) (p file : List ℕ) : Type 0 where
  pub gate : ℕ
  pub rest : List ℕ
  pub is : file ≡ front v ps ++ gate ∷ rest
  pub full : gate ≡ 1 → rest ≡ spelled p ++ 0 ∷ []

-- An open gate, a whole record, and the gate behind it.
pub record IsRecord (tail p : List ℕ) : Type 0 where
  pub fits : IsPayload p
  pub gate : ℕ
  pub rest : List ℕ
  pub is : tail ≡ 1 ∷ (spelled p ++ gate ∷ rest)

-- An open gate with no whole record behind it.
pub record IsTorn (tail : List ℕ) : Type 0 where
  pub rest : List ℕ
  pub is : tail ≡ 1 ∷ rest
  pub none : payload_of rest ≡ None

-- The records of these payloads end at this gate.
pub record IsWalked (v : Version) (ps : List (List ℕ)) (gate : ℕ) (file : List ℕ) : Type 0 where
  pub each : AllByRecursion IsPayload ps
  pub place : gate ≡ length (front v ps)
  pub is : take gate file ≡ front v ps

-- At this gate the file ends, or its first damaged record stands there.
abbrev pub EndsAt : ℕ → List ℕ → Option ℕ → Type 0
EndsAt gate file None = slice_index (drop gate file) 0 ≢ 1
EndsAt gate file (Some at) = (at ≡ gate) × IsTorn (drop gate file)
