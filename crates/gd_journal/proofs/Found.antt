-- The payloads that were read, one after another.
use Rattle.std.proofs.Common.{◌≡◌, inl, inr, ◌+◌, ◌<◌, ℕ, List, [], ◌∷◌, ◌++◌, length, take, drop, flat_map, Some, None, refl, sym, ◌∙◌, ap, arith, length-append, append_assoc}
use Rattle.std.specs.Prelude.{Option, IsSome}
use Rattle.std.specs.Option.{is_some, option_or}
use Rattle.std.specs.Int.{to_be_bytes, w32}
use Rattle.std.proofs.lemmas.List.{take_at, drop-drop}
use Rattle.gd_bytes.specs.Disk.{part}
use Rattle.gd_bytes.specs.File.{Version, version_of, Payloads, open_record}
use Rattle.gd_journal.specs.Meaning.{held_by, located, whole}
use Rattle.gd_journal.specs.Shape.{spelled, IsRecord}
use Rattle.gd_journal.specs.State.{Standing}
use Rattle.gd_journal.proofs.Heads.{no_header}

pub located_push : (ps : List (List ℕ)) (at : ℕ) (p : List ℕ) → located at (ps ++ p ∷ []) ≡ located at ps ++ (at + length (flat_map open_record ps), p) ∷ []
located_push [] at p = ap (λ (n : ℕ). (n, p) ∷ []) (omega arith)
located_push (q ∷ ps) at p =
    let same : at + 5 + length q + length (flat_map open_record ps) ≡ at + length (flat_map open_record (q ∷ ps)) = omega (arith, length-append (spelled q) (flat_map open_record ps), length-append (to_be_bytes w32 (length q)) q) in
    ap (λ (l : List (ℕ × List ℕ)). (at, q) ∷ l) (located_push ps (at + 5 + length q) p) ∙ ap (λ (n : ℕ). (at, q) ∷ (located (at + 5 + length q) ps ++ (n, p) ∷ [])) same

-- the bytes behind a gate and a length are the payload
pub payload_read : (file p : List ℕ) (at n : ℕ) → length p ≡ n → IsRecord (drop at file) p → part (at + 5) n file ≡ p
payload_read file p at n size whole =
    let back : drop (at + 5) file ≡ p ++ (whole.gate ∷ whole.rest) = sym (drop-drop 5 at file) ∙ ap (λ (l : List ℕ). drop 5 l) whole.is ∙ ap (λ (l : List ℕ). drop 4 l) (append_assoc (to_be_bytes w32 (length p)) p (whole.gate ∷ whole.rest)) in
    ap (λ (l : List ℕ). take n l) back ∙ take_at p (whole.gate ∷ whole.rest) n size

-- a file that holds payloads has a header
pub some_version : (file : List ℕ) (found : Payloads) → held_by file ≡ Some found → 9 < length file → IsSome (version_of file)
some_version file found held long = by (version_of file) refl
  where
    by : (o : Option Version) → version_of file ≡ o → IsSome (version_of file)
    by None is = cc (held, no_header file long is)
    by (Some v) is = ap is_some is

-- what a journal keeps holds payloads, and its damage
pub standing_held : (co : Option (List ℕ)) (im : List ℕ → Type 0) (v : Version) (gate : ℕ) (doubt damaged : Option ℕ) (file : List ℕ) → Standing co im v gate doubt damaged → im file → (found : Payloads) × (held_by file ≡ Some found) × (found.damaged ≡ damaged)
standing_held co im v gate None None file (ps, s) now = (whole ps, (s.means file now).0, refl)
standing_held co im v gate (Some n) None file (ps, p, s) now = elim (s.means file now) [
  | inl stands ↦ (whole ps, stands.0, refl)
  | inr stands ↦ (whole (ps ++ p ∷ []), stands.0, refl)
]
standing_held co im v gate None (Some at) file s now = let there = (s file now).0 in (there.0, there.1, there.2)
standing_held co im v gate (Some n) (Some at) file s now = absurd s

-- so the damage that is found is the one that is known
pub same_damage : (co : Option (List ℕ)) (im : List ℕ → Type 0) (v : Version) (gate : ℕ) (doubt damaged : Option ℕ) (file : List ℕ) (found : Payloads) → Standing co im v gate doubt damaged → im file → held_by file ≡ Some found → found.damaged ≡ damaged
same_damage co im v gate doubt damaged file found s now held =
    let k = standing_held co im v gate doubt damaged file s now in
    let one : k.0 ≡ found = cc (k.1, held) in
    ap (λ (f : Payloads). f.damaged) (sym one) ∙ k.2

pub or_same : (o d : Option ℕ) → o ≡ d → option_or o d ≡ d
or_same None None same = refl
or_same None (Some b) same = refl
or_same (Some a) None same = same
or_same (Some a) (Some b) same = same
