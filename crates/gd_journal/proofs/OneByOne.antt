-- Payloads that are read one after the other.
use Rattle.std.proofs.Common.{◌≡◌, ℕ, ◌+◌, ◌<◌, ◌≤◌, List, [], ◌∷◌, ◌++◌, length, flat_map, get_or, drop, Some, None, refl, sym, ◌∙◌, ap, subst, arith, suc, take-append-drop}
use Rattle.std.specs.Prelude.{Bool, Option, IsSome}
use Rattle.std.proofs.lemmas.List.{map-append, drop_more}
use Rattle.gd_bytes.specs.File.{Version, second, version_of, open_record, payloads_from}
use Rattle.gd_journal.specs.declared.payloads.Payload.{Payload}
use Rattle.gd_journal.specs.declared.payloads.Payloads.{Payloads as Found}
use Rattle.gd_journal.specs.declared.reading.Next.TheVariants.{Record}
use Rattle.gd_journal.specs.Found.{seen, found_in}
use Rattle.gd_journal.specs.Meaning.{held_by, located}
use Rattle.gd_journal.specs.Shape.{front, IsWalked, EndsAt}
use Rattle.gd_journal.specs.Reading.{ComesNext, IsRead, BeginsWith}
use Rattle.gd_journal.specs.State.{HasEnd}
use Rattle.gd_journal.proofs.Ends.{end_damage}
use Rattle.gd_journal.proofs.Found.{located_push}
use Rattle.gd_journal.proofs.Headers.{length-front}
use Rattle.gd_journal.proofs.Heads.{walked_none, walked_more, walked_held}
use Rattle.gd_journal.proofs.Means.{held_front, held_short}

-- before the first
pub read_none : (file : List ℕ) → (9 < length file → IsSome (version_of file)) → IsRead [] 8 file
read_none file is = by (version_of file) refl
  where
    by : (o : Option Version) → version_of file ≡ o → IsRead [] 8 file
    by (Some v) there = (v, [], refl, λ long. walked_none v file there, λ short. refl)
    by None there = (second, [], refl, λ long. cc (is long, there), λ short. refl)

-- one more
pub read_more : (read : List (ℕ × List ℕ)) (at next : ℕ) (file : List ℕ) (p : Payload) → 9 < length file → IsRead read at file → ComesNext at next file (Record p) → p.offset ≡ at → IsRead (read ++ (p.offset, p.bytes) ∷ []) next file
read_more read at next file p long (v, ps, same, walked, short) (whole, place) offset =
    let w = walked long in
    let there : p.offset ≡ 8 + length (flat_map open_record ps) = omega (arith, offset, w.place, length-front v ps) in (
      v,
      ps ++ p.bytes ∷ [],
      ap (λ (l : List (ℕ × List ℕ)). l ++ (p.offset, p.bytes) ∷ []) same ∙ ap (λ (n : ℕ). located 8 ps ++ (n, p.bytes) ∷ []) there ∙ sym (located_push ps 8 p.bytes),
      λ _. subst (λ (n : ℕ). IsWalked v (ps ++ p.bytes ∷ []) n file) (sym place) (walked_more v ps at (length p.bytes) file p.bytes w refl whole),
      λ no. absurd (omega arith),
    )

-- behind the last
pub read_all_of : (read : List (ℕ × List ℕ)) (at : ℕ) (file : List ℕ) (damaged : Option ℕ) → 9 < length file → at < length file → IsRead read at file → EndsAt at file damaged → held_by file ≡ Some (record { list = read; damaged = damaged })
read_all_of read at file damaged long within (v, ps, same, walked, short) ends =
    walked_held v ps at file damaged long within (walked long) ends ∙ ap (λ (l : List (ℕ × List ℕ)). Some (record { list = l; damaged = damaged })) (sym same)

-- of a file whose end is known
pub read_end : (read : List (ℕ × List ℕ)) (at len : ℕ) (v : Version) (marked : Bool) (gate : ℕ) (known damaged : Option ℕ) (file : List ℕ) → 9 < len → HasEnd file len v marked gate known → at < len → IsRead read at file → EndsAt at file damaged
    → (held_by file ≡ Some (record { list = read; damaged = damaged })) × (damaged ≡ known)
read_end read at len v marked gate known damaged file long h within was ends =
    let held = read_all_of read at file damaged (omega (arith, h.size)) (omega (arith, h.size)) was ends in
    (held, end_damage file len v marked gate known (record { list = read; damaged = damaged }) h held)

-- an unfinished creation
pub read_short : (read : List (ℕ × List ℕ)) (at : ℕ) (file : List ℕ) → length file ≤ 9 → IsRead read at file → held_by file ≡ Some (record { list = read; damaged = None })
read_short read at file le (v, ps, same, walked, short) =
    held_short file le ∙ ap (λ (l : List (ℕ × List ℕ)). Some (record { list = l; damaged = None })) (sym (same ∙ ap (located 8) (short le)))

-- what is read are the first payloads of the file
pub read_begins : (read : List (ℕ × List ℕ)) (at : ℕ) (file : List ℕ) → 9 < length file → at < length file → IsRead read at file → BeginsWith read file
read_begins read at file long within (v, ps, same, walked, short) =
    let w = walked long in
    let split : file ≡ front v ps ++ get_or file at 0 ∷ drop (at + 1) file = sym (take-append-drop at file) ∙ ap (λ (l : List ℕ). l ++ drop at file) w.is ∙ ap (λ (l : List ℕ). front v ps ++ l) (drop_more file at 0 within) in
    let held = held_front v ps (get_or file at 0) (drop (at + 1) file) file w.each long split in
    let rest = payloads_from (suc held.0) (length (front v ps)) (get_or file at 0 ∷ drop (at + 1) file) in
    (rest, held.1 ∙ ap (λ (l : List (ℕ × List ℕ)). Some (record { list = l ++ rest.list; damaged = rest.damaged })) (sym same))

-- ---- the list of those that were read

pub seen_push : (list more : List Payload) (p : Payload) → more ≡ list ++ p ∷ [] → seen more ≡ seen list ++ (p.offset, p.bytes) ∷ []
seen_push list more p is = ap seen is ∙ map-append (λ (q : Payload). (q.offset, q.bytes)) list (p ∷ [])

pub found_is : (file : List ℕ) (found : Found) (list : List Payload) (damaged : Option ℕ) → found.list ≡ list → found.damaged ≡ damaged → held_by file ≡ Some (record { list = seen list; damaged = damaged }) → held_by file ≡ Some (found_in found)
found_is file found list damaged list_is damaged_is held =
    held ∙ ap (λ (l : List Payload). Some (record { list = seen l; damaged = damaged })) (sym list_is) ∙ ap (λ (o : Option ℕ). Some (record { list = seen found.list; damaged = o })) (sym damaged_is)
