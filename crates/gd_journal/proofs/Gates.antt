-- What each step of an append or a settle makes of a file with a gate.
use Rattle.std.proofs.Common.{◌≡◌, ◌≢◌, ◌⊎◌, inl, inr, ℕ, ◌+◌, ◌<◌, ◌≤◌, List, [], ◌∷◌, ◌++◌, length, get_or, take, drop, refl, sym, ◌∙◌, ap, arith, length-append, take-append-drop}
use Rattle.std.proofs.lemmas.List.{append-nil, append_assoc, take_at, drop_at, take_all, drop_all, take-take, drop_more, get_or_at}
use Rattle.std.proofs.lemmas.Bool.{cases_eq}
use Rattle.std.specs.Int.{to_be_bytes, w32}
use Rattle.std.specs.List.{AllByRecursion}
use Rattle.gd_bytes.specs.Disk.{written, Torn, Cut}
use Rattle.std.proofs.Common.{flat_map}
use Rattle.gd_bytes.specs.File.{Version, header, open_record}
use Rattle.gd_journal.specs.Shape.{front, spelled, IsClosed, IsAtRest, IsStaged, IsDoubtful, IsPayload}

pub at_rest_closed : (v : Version) (ps : List (List ℕ)) (c : List ℕ) → IsAtRest v ps c → IsClosed v ps c
at_rest_closed v ps c rests = record { gate = rests.gate; rest = []; shut = rests.shut; is = rests.is }

-- what has the same front and gate is closed too
closed_prefix : (v : Version) (ps : List (List ℕ)) (d c : List ℕ) → take (length (front v ps) + 1) c ≡ take (length (front v ps) + 1) d → IsClosed v ps d → IsClosed v ps c
closed_prefix v ps d c same closed =
    let f = front v ps in
    let m = length f + 1 in
    let long : length (f ++ closed.gate ∷ []) ≡ m = length-append f (closed.gate ∷ []) in
    let split : d ≡ (f ++ closed.gate ∷ []) ++ closed.rest = closed.is ∙ sym (append_assoc f (closed.gate ∷ []) closed.rest) in
    let head : take m c ≡ f ++ closed.gate ∷ [] = same ∙ ap (λ (l : List ℕ). take m l) split ∙ take_at (f ++ closed.gate ∷ []) closed.rest m long in
    record {
      gate = closed.gate;
      rest = drop m c;
      shut = closed.shut;
      is = sym (take-append-drop m c) ∙ ap (λ (l : List ℕ). l ++ drop m c) head ∙ append_assoc f (closed.gate ∷ []) (drop m c);
    }

-- a write behind the gate leaves it closed
pub closed_torn : (v : Version) (ps : List (List ℕ)) (at n : ℕ) (d c : List ℕ) → length (front v ps) + 1 ≤ at → IsClosed v ps d → Torn at n d c → IsClosed v ps c
closed_torn v ps at n d c le closed torn =
    let m = length (front v ps) + 1 in
    closed_prefix v ps d c (sym (take-take m at c le) ∙ ap (λ (l : List ℕ). take m l) torn.before ∙ take-take m at d le) closed

pub closed_cut : (v : Version) (ps : List (List ℕ)) (n : ℕ) (d c : List ℕ) → n ≡ length (front v ps) + 1 → IsClosed v ps d → Cut n d c → IsClosed v ps c
closed_cut v ps n d c is closed cut =
    let f = front v ps in
    let m = length f + 1 in
    let long : m ≤ length d = omega (arith, ap length closed.is, length-append f (closed.gate ∷ closed.rest)) in
    let reaches : m ≤ length c = omega (arith, cut.no_shorter) in
    closed_prefix v ps d c (ap (λ (l : List ℕ). take m l) (sym cut.front) ∙ take-take m (length c) d reaches) closed

written_end : (at : ℕ) (bytes file : List ℕ) → at ≡ length file → written at bytes file ≡ file ++ bytes
written_end at bytes file is =
    ap (λ (l : List ℕ). l ++ (bytes ++ drop (at + length bytes) file)) (take_all at file (omega arith))
    ∙ ap (λ (l : List ℕ). file ++ (bytes ++ l)) (drop_all (at + length bytes) file (omega arith))
    ∙ ap (λ (l : List ℕ). file ++ l) (append-nil bytes)

-- after the write of a record
pub staged : (v : Version) (ps : List (List ℕ)) (gate a : ℕ) (bytes p c0 c1 : List ℕ) → gate ≡ length (front v ps) → a ≡ gate + 1 → bytes ≡ spelled p ++ 0 ∷ [] → IsAtRest v ps c0 → c1 ≡ written a bytes c0 → IsStaged v ps p c1
staged v ps gate a bytes p c0 c1 place a_is spells rests w =
    let f = front v ps in
    let size : length c0 ≡ gate + 1 = omega (arith, ap length rests.is, length-append f (rests.gate ∷ [])) in
    record {
      gate = rests.gate;
      is = w ∙ written_end a bytes c0 (omega (arith, size)) ∙ ap (λ (l : List ℕ). c0 ++ l) spells
          ∙ ap (λ (l : List ℕ). l ++ (spelled p ++ 0 ∷ [])) rests.is ∙ append_assoc f (rests.gate ∷ []) (spelled p ++ 0 ∷ []);
    }

pub staged_doubtful : (v : Version) (ps : List (List ℕ)) (p c : List ℕ) → IsStaged v ps p c → IsDoubtful v ps p c
staged_doubtful v ps p c there = record { gate = there.gate; rest = spelled p ++ 0 ∷ []; is = there.is; full = λ _. refl }

pub closed_doubtful : (v : Version) (ps : List (List ℕ)) (p c : List ℕ) → IsClosed v ps c → IsDoubtful v ps p c
closed_doubtful v ps p c closed = record { gate = closed.gate; rest = closed.rest; is = closed.is; full = λ is_open. absurd (closed.shut is_open) }

-- the write of the gate leaves what stands behind it
pub gate_torn : (v : Version) (ps : List (List ℕ)) (p d c : List ℕ) (gate : ℕ) → gate ≡ length (front v ps) → IsStaged v ps p d → Torn gate 1 d c → IsDoubtful v ps p c
gate_torn v ps p d c gate place there torn =
    let f = front v ps in
    let tail = spelled p ++ 0 ∷ [] in
    let long : gate < length d = omega (arith, ap length there.is, length-append f (there.gate ∷ tail)) in
    let head : take gate d ≡ f = ap (λ (l : List ℕ). take gate l) there.is ∙ take_at f (there.gate ∷ tail) gate (sym place) in
    let split : d ≡ (f ++ there.gate ∷ []) ++ tail = there.is ∙ sym (append_assoc f (there.gate ∷ []) tail) in
    let back : drop (gate + 1) d ≡ tail = ap (λ (l : List ℕ). drop (gate + 1) l) split ∙ drop_at (f ++ there.gate ∷ []) tail (gate + 1) (omega (arith, length-append f (there.gate ∷ []))) in
    let now = get_or c gate 0 in
    let rest : drop gate c ≡ now ∷ tail = drop_more c gate 0 (omega (arith, torn.no_shorter)) ∙ ap (λ (l : List ℕ). now ∷ l) (torn.after ∙ back) in
    record {
      gate = now;
      rest = tail;
      is = sym (take-append-drop gate c) ∙ ap (λ (l : List ℕ). l ++ drop gate c) (torn.before ∙ head) ∙ ap (λ (l : List ℕ). f ++ l) rest;
      full = λ _. refl;
    }

blocks_push : (ps : List (List ℕ)) (p rest : List ℕ) → flat_map open_record (ps ++ p ∷ []) ++ rest ≡ flat_map open_record ps ++ 1 ∷ (spelled p ++ rest)
blocks_push [] p rest = ap (λ (l : List ℕ). 1 ∷ (l ++ rest)) (append-nil (spelled p))
blocks_push (q ∷ ps) p rest =
    ap (λ (l : List ℕ). 1 ∷ l) (append_assoc (spelled q) (flat_map open_record (ps ++ p ∷ [])) rest ∙ ap (λ (l : List ℕ). spelled q ++ l) (blocks_push ps p rest) ∙ sym (append_assoc (spelled q) (flat_map open_record ps) (1 ∷ (spelled p ++ rest))))

pub front_push : (v : Version) (ps : List (List ℕ)) (p rest : List ℕ) → front v (ps ++ p ∷ []) ++ rest ≡ front v ps ++ 1 ∷ (spelled p ++ rest)
unfolding front
front_push v ps p rest =
    append_assoc (header v) (flat_map open_record (ps ++ p ∷ [])) rest ∙ ap (λ (l : List ℕ). header v ++ l) (blocks_push ps p rest)
    ∙ sym (append_assoc (header v) (flat_map open_record ps) (1 ∷ (spelled p ++ rest)))

-- the open gate makes the p count
pub opened : (v : Version) (ps : List (List ℕ)) (p d c : List ℕ) (gate : ℕ) → gate ≡ length (front v ps) → IsStaged v ps p d → c ≡ written gate (1 ∷ []) d → IsAtRest v (ps ++ p ∷ []) c
opened v ps p d c gate place there is =
    let f = front v ps in
    let tail = spelled p ++ 0 ∷ [] in
    let head : take gate d ≡ f = ap (λ (l : List ℕ). take gate l) there.is ∙ take_at f (there.gate ∷ tail) gate (sym place) in
    let split : d ≡ (f ++ there.gate ∷ []) ++ tail = there.is ∙ sym (append_assoc f (there.gate ∷ []) tail) in
    let back : drop (gate + 1) d ≡ tail = ap (λ (l : List ℕ). drop (gate + 1) l) split ∙ drop_at (f ++ there.gate ∷ []) tail (gate + 1) (omega (arith, length-append f (there.gate ∷ []))) in
    record {
      gate = 0;
      shut = omega arith;
      is = is ∙ ap (λ (l : List ℕ). l ++ (1 ∷ drop (gate + 1) d)) head ∙ ap (λ (l : List ℕ). f ++ 1 ∷ l) back ∙ sym (front_push v ps p (0 ∷ []));
    }

pub length-front_push : (v : Version) (ps : List (List ℕ)) (p : List ℕ) → length (front v (ps ++ p ∷ [])) ≡ length (front v ps) + 5 + length p
length-front_push v ps p =
    let four : length (to_be_bytes w32 (length p)) ≡ 4 = refl in
    omega (arith, four, ap length (front_push v ps p []), length-append (front v (ps ++ p ∷ [])) [], length-append (front v ps) (1 ∷ (spelled p ++ [])), length-append (spelled p) [], length-append (to_be_bytes w32 (length p)) p)

-- a gate that turns out open
pub counts : (v : Version) (ps : List (List ℕ)) (p c : List ℕ) (there : IsDoubtful v ps p c) → there.gate ≡ 1 → IsAtRest v (ps ++ p ∷ []) c
counts v ps p c there is_open = record {
  gate = 0;
  shut = omega arith;
  is = there.is ∙ ap (λ (n : ℕ). front v ps ++ n ∷ there.rest) is_open ∙ ap (λ (l : List ℕ). front v ps ++ 1 ∷ l) (there.full is_open) ∙ sym (front_push v ps p (0 ∷ []));
}

-- a file in doubt stands for the ps, with the last or without it
pub one_or_other : (v : Version) (ps : List (List ℕ)) (p c : List ℕ) → IsDoubtful v ps p c → IsClosed v ps c ⊎ IsClosed v (ps ++ p ∷ []) c
one_or_other v ps p c there = elim (cases_eq there.gate 1) [
  | inl is_open ↦ inr (at_rest_closed v (ps ++ p ∷ []) c (counts v ps p c there is_open))
  | inr shut ↦ inl (record { gate = there.gate; rest = there.rest; shut = shut; is = there.is })
]

pub All_push : (ps : List (List ℕ)) (p : List ℕ) → AllByRecursion IsPayload ps → IsPayload p → AllByRecursion IsPayload (ps ++ p ∷ [])
All_push [] p each last = (last, tt)
All_push (q ∷ ps) p each last = (each.0, All_push ps p each.1 last)

-- a cut behind the gate ends the file there
pub cut_rests : (v : Version) (ps : List (List ℕ)) (d c : List ℕ) (n : ℕ) → n ≡ length (front v ps) + 1 → IsClosed v ps d → c ≡ take n d → IsAtRest v ps c
cut_rests v ps d c n is closed cut =
    let f = front v ps in
    let split : d ≡ (f ++ closed.gate ∷ []) ++ closed.rest = closed.is ∙ sym (append_assoc f (closed.gate ∷ []) closed.rest) in
    record {
      gate = closed.gate;
      shut = closed.shut;
      is = cut ∙ ap (λ (l : List ℕ). take n l) split ∙ take_at (f ++ closed.gate ∷ []) closed.rest n (omega (arith, is, length-append f (closed.gate ∷ [])));
    }

-- the gate is the byte in its place
pub gate_is : (v : Version) (ps : List (List ℕ)) (p c : List ℕ) (gate : ℕ) → gate ≡ length (front v ps) → (there : IsDoubtful v ps p c) → get_or c gate 0 ≡ there.gate
gate_is v ps p c gate place there = ap (λ (l : List ℕ). get_or l gate 0) there.is ∙ get_or_at (front v ps) there.gate there.rest 0 gate (sym place)

pub closed_if : (v : Version) (ps : List (List ℕ)) (p c : List ℕ) (gate : ℕ) → gate ≡ length (front v ps) → get_or c gate 0 ≢ 1 → IsDoubtful v ps p c → IsClosed v ps c
closed_if v ps p c gate place shut there = record { gate = there.gate; rest = there.rest; shut = λ is_open. shut (gate_is v ps p c gate place there ∙ is_open); is = there.is }

pub counts_if : (v : Version) (ps : List (List ℕ)) (p c : List ℕ) (gate : ℕ) → gate ≡ length (front v ps) → get_or c gate 0 ≡ 1 → IsDoubtful v ps p c → IsAtRest v (ps ++ p ∷ []) c
counts_if v ps p c gate place is_open there = counts v ps p c there (sym (gate_is v ps p c gate place there) ∙ is_open)
