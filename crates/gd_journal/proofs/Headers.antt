-- The headers of the versions.
use Rattle.std.proofs.Common.{◌≡◌, ◌⊎◌, inl, inr, ℕ, ◌+◌, List, ◌++◌, length, take, drop, flat_map, true, false, Some, None, refl, sym, ◌∙◌, ap, arith, length-append, append_assoc}
use Rattle.std.specs.Prelude.{if◌then◌else◌, bytes_eq, Option, Bool}
use Rattle.std.proofs.lemmas.Slice.Eq.{bytes_eq-Decides}
use Rattle.gd_bytes.specs.File.{Version, first, second, header, version_of, open_record}
use Rattle.gd_journal.specs.Shape.{front}

pub cases_bool : (b : Bool) → (b ≡ true) ⊎ (b ≡ false)
cases_bool true = inl refl
cases_bool false = inr refl

-- ---- what begins with a header

pub take_header : (v : Version) (rest : List ℕ) → take 8 (header v ++ rest) ≡ header v
take_header first rest = refl
take_header second rest = refl

pub drop_header : (v : Version) (rest : List ℕ) → drop 8 (header v ++ rest) ≡ rest
drop_header first rest = refl
drop_header second rest = refl

pub length-header : (v : Version) → length (header v) ≡ 8
length-header first = refl
length-header second = refl

pub version_header : (v : Version) (rest : List ℕ) → version_of (header v ++ rest) ≡ Some v
version_header first rest = refl
version_header second rest = refl

-- ---- what has a version begins with its header

abbrev picked : Bool → Bool → Option Version
picked one two = if one then Some first else if two then Some second else None

picked_first : (one two : Bool) (v : Version) → one ≡ true → picked one two ≡ Some v → v ≡ first
picked_first true two v is some = cc
picked_first false two v is some = cc

picked_second : (one two : Bool) (v : Version) → one ≡ false → picked one two ≡ Some v → (two ≡ true) × (v ≡ second)
picked_second true two v is some = cc
picked_second false true v is some = (refl, cc)
picked_second false false v is some = cc

pub has_header : (file : List ℕ) (v : Version) → version_of file ≡ Some v → take 8 file ≡ header v
has_header file v is = elim (cases_bool (bytes_eq (take 8 file) (header first))) [
  | inl one ↦ (bytes_eq-Decides (take 8 file) (header first)).0 one ∙ ap header (sym (picked_first _ _ v one is))
  | inr other ↦
      let two = picked_second _ _ v other is in
      (bytes_eq-Decides (take 8 file) (header second)).0 two.0 ∙ ap header (sym two.1)
]

-- and so has what begins with the same bytes
pub same_version : (c file : List ℕ) → take 8 c ≡ take 8 file → version_of c ≡ version_of file
same_version c file same = ap (λ (l : List ℕ). picked (bytes_eq l (header first)) (bytes_eq l (header second))) same

-- ---- the front of a file

pub length-front : (v : Version) (ps : List (List ℕ)) → length (front v ps) ≡ 8 + length (flat_map open_record ps)
unfolding front
length-front v ps = omega (arith, length-append (header v) (flat_map open_record ps), length-header v)

pub front_split : (v : Version) (ps : List (List ℕ)) (rest : List ℕ) → front v ps ++ rest ≡ header v ++ (flat_map open_record ps ++ rest)
unfolding front
front_split v ps rest = append_assoc (header v) (flat_map open_record ps) rest

pub version_front : (v : Version) (ps : List (List ℕ)) (rest file : List ℕ) → file ≡ front v ps ++ rest → version_of file ≡ Some v
version_front v ps rest file is = ap version_of (is ∙ front_split v ps rest) ∙ version_header v (flat_map open_record ps ++ rest)
