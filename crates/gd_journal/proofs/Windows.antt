-- What a block of a file has of it.
use Rattle.std.proofs.Common.{◌≡◌, inl, inr, ℕ, ◌+◌, ◌-◌, ◌≤◌, List, length, take, drop, ◌∙◌, ap, arith, length-take, length-drop}
use Rattle.std.specs.Prelude.{min}
use Rattle.std.proofs.lemmas.Bool.{cases_lt}
use Rattle.std.proofs.lemmas.List.{drop-take, drop-drop, take-take, take_all}
use Rattle.gd_bytes.specs.Disk.{part}

-- a part of a part, at the end of an offset that is not before it
pub part_inside : (file bytes : List ℕ) (w size at len : ℕ) → bytes ≡ part w size file → w ≤ at → at - w + len ≤ size → take len (drop (at - w) bytes) ≡ part at len file
part_inside file bytes w size at len is le fits =
    let n = at - w in
    let more = size - n in
    let split : size ≡ n + more = omega (arith, fits) in
    let place : w + n ≡ at = omega (arith, le) in
    ap (λ (l : List ℕ). take len (drop n l)) is
    ∙ ap (λ (k : ℕ). take len (drop n (take k (drop w file)))) split
    ∙ ap (λ (l : List ℕ). take len l) (drop-take n more (drop w file))
    ∙ take-take len more (drop n (drop w file)) (omega (arith, fits))
    ∙ ap (λ (l : List ℕ). take len l) (drop-drop n w file)
    ∙ ap (λ (k : ℕ). take len (drop k file)) place

-- what has so many bytes was asked for as many
pub part_long : (file bytes : List ℕ) (w size : ℕ) → bytes ≡ part w size file → length bytes ≤ size
part_long file bytes w size is = omega (arith, ap length is, length-take size (drop w file))

-- a block of as many bytes as are wanted, or of what is left of the file
pub part_left : (file bytes : List ℕ) (end at size len : ℕ) → end ≡ length file → bytes ≡ part at size file → min (end - at) len ≤ size → take len (drop (at - at) bytes) ≡ part at len file
part_left file bytes end at size len whole is enough = elim (cases_lt size len) [
  | inl short ↦
      let all : bytes ≡ drop at file = is ∙ take_all size (drop at file) (omega (arith, length-drop at file, whole, enough)) in
      let none : at - at ≡ 0 = omega arith in
      ap (λ (k : ℕ). take len (drop k bytes)) none ∙ ap (λ (l : List ℕ). take len l) all
  | inr long ↦ part_inside file bytes at size at len is (omega arith) (omega arith)
]
