-- What files with gates stand for.
use Rattle.std.proofs.Common.{◌≡◌, ◌≢◌, ◌⊎◌, inl, inr, ℕ, zero, suc, ◌+◌, ◌-◌, ◌<◌, ◌≤◌, List, [], ◌∷◌, ◌++◌, length, take, drop, flat_map, true, false, Some, None, refl, sym, ◌∙◌, ap, arith, length-append, add-zero}
use Rattle.std.specs.Prelude.{if◌then◌else◌, nat_le, nat_lt, Option, ◌||◌, ◌==◌, Bool}
use Rattle.std.specs.List.{AllByRecursion}
use Rattle.std.specs.Option.{option_map}
use Rattle.std.specs.Int.{to_be_bytes, from_be_bytes, w32}
use Rattle.std.proofs.lemmas.Bool.{cases_lt}
use Rattle.std.proofs.lemmas.Bool.Decides.{nat_tests}
use Rattle.std.proofs.lemmas.List.{append_assoc, append-nil, take_at, drop_at}
use Rattle.std.proofs.lemmas.Nat.{from_be_bytes-to_be_bytes_4}
use Rattle.gd_bytes.specs.File.{Version, version_of, Payloads, header, payloads, payloads_from, no_payloads, open_record, payload as payload_of}
use Rattle.gd_journal.specs.Meaning.{held_by, located, whole, StandsFor, MayStandFor}
use Rattle.gd_journal.specs.Shape.{front, spelled, IsPayload, IsClosed, IsDoubtful}
use Rattle.gd_journal.proofs.Gates.{one_or_other, All_push}
use Rattle.gd_journal.proofs.Headers.{drop_header, length-header, length-front, front_split, version_front}

-- payloads in front of what follows
abbrev pub after : List (ℕ × List ℕ) → Payloads → Payloads
after list behind = record { list = list ++ behind.list; damaged = behind.damaged }

-- the payload behind a length that is in range, where it and one byte more are there
pub payload_by : (bytes : List ℕ) (n : ℕ) → from_be_bytes w32 (take 4 bytes) ≡ n → 1 ≤ n → n ≤ 268435456 → 5 + n ≤ length bytes → payload_of bytes ≡ Some (take n (drop 4 bytes))
payload_by bytes n is some short enough =
    let by : ℕ → Option (List ℕ) = λ (m : ℕ). if nat_lt (length bytes) 4 || m == 0 || nat_lt 268435456 m || nat_le (length bytes) (4 + m) then None else Some (take m (drop 4 bytes)) in
    let test : (nat_lt (length bytes) 4 || n == 0 || nat_lt 268435456 n || nat_le (length bytes) (4 + n)) ≡ false = grind (arith, nat_tests) in
    ap by is ∙ ap (λ (b : Bool). if b then None else Some (take n (drop 4 bytes))) test

-- there is none elsewhere
pub payload_none : (bytes : List ℕ) (n : ℕ) → from_be_bytes w32 (take 4 bytes) ≡ n → (length bytes < 4) ⊎ (n ≡ 0) ⊎ (268435456 < n) ⊎ (length bytes ≤ 4 + n) → payload_of bytes ≡ None
payload_none bytes n is why =
    let by : ℕ → Option (List ℕ) = λ (m : ℕ). if nat_lt (length bytes) 4 || m == 0 || nat_lt 268435456 m || nat_le (length bytes) (4 + m) then None else Some (take m (drop 4 bytes)) in
    let test : (nat_lt (length bytes) 4 || n == 0 || nat_lt 268435456 n || nat_le (length bytes) (4 + n)) ≡ true = grind (arith, nat_tests) in
    ap by is ∙ ap (λ (b : Bool). if b then None else Some (take n (drop 4 bytes))) test

-- a whole record is read
pub payload_spelled : (p behind : List ℕ) → IsPayload p → 1 ≤ length behind → payload_of (spelled p ++ behind) ≡ Some p
payload_spelled p behind fits some =
    let all = spelled p ++ behind in
    let len = to_be_bytes w32 (length p) in
    let head : take 4 all ≡ len = refl in
    let n_is : from_be_bytes w32 (take 4 all) ≡ length p = ap (λ (l : List ℕ). from_be_bytes w32 l) head ∙ from_be_bytes-to_be_bytes_4 (length p) (omega (arith, fits.short)) in
    let size : length all ≡ 4 + length p + length behind = omega (arith, length-append len (p ++ behind), length-append p behind) in
    payload_by all (length p) n_is fits.some fits.short (omega (arith, size)) ∙ ap (λ (l : List ℕ). Some l) (take_at p behind (length p) refl)

-- an open gate and a payload behind it
pub payloads_step : (n at : ℕ) (bytes p : List ℕ) → payload_of bytes ≡ Some p → payloads_from (suc n) at (1 ∷ bytes) ≡ after ((at, p) ∷ []) (payloads_from n (at + 5 + length p) (drop (4 + length p) bytes))
payloads_step n at bytes p is = rw is refl

-- an open gate and no payload
pub payloads_torn : (n at : ℕ) (bytes : List ℕ) → payload_of bytes ≡ None → payloads_from (suc n) at (1 ∷ bytes) ≡ record { list = []; damaged = Some at }
payloads_torn n at bytes is = rw is refl

-- a gate that is not open
pub payloads_end : (n at gate : ℕ) (bytes : List ℕ) → gate ≢ 1 → payloads_from (suc n) at (gate ∷ bytes) ≡ no_payloads
payloads_end n at gate bytes shut = let test : (gate == 1) ≡ false = grind (arith, nat_tests) in rw test refl

-- the payloads of records, in front of what follows
pub walk : (ps : List (List ℕ)) (n more at : ℕ) (tail : List ℕ) → n ≡ length ps + more → 1 ≤ length tail → AllByRecursion IsPayload ps → payloads_from n at (flat_map open_record ps ++ tail) ≡ after (located at ps) (payloads_from more (at + length (flat_map open_record ps)) tail)
walk [] n more at tail is some each =
    let same : n ≡ more = omega arith in
    ap (λ (m : ℕ). payloads_from m at tail) same ∙ ap (λ (a : ℕ). payloads_from more a tail) (sym (add-zero at))
walk (p ∷ ps) zero more at tail is some each = absurd (omega arith)
walk (p ∷ ps) (suc n) more at tail is some each =
    let behind = flat_map open_record ps ++ tail in
    let bytes = (spelled p ++ flat_map open_record ps) ++ tail in
    let split : bytes ≡ spelled p ++ behind = append_assoc (spelled p) (flat_map open_record ps) tail in
    let there : payload_of bytes ≡ Some p = ap payload_of split ∙ payload_spelled p behind each.0 (omega (arith, length-append (flat_map open_record ps) tail)) in
    let back : drop (4 + length p) bytes ≡ behind = ap (λ (l : List ℕ). drop (4 + length p) l) split ∙ drop_at (spelled p) behind (4 + length p) (length-append (to_be_bytes w32 (length p)) p) in
    let place : at + 5 + length p + length (flat_map open_record ps) ≡ at + length (flat_map open_record (p ∷ ps)) = omega (arith, length-append (spelled p) (flat_map open_record ps), length-append (to_be_bytes w32 (length p)) p) in
    payloads_step n at bytes p there
    ∙ ap (λ (l : List ℕ). after ((at, p) ∷ []) (payloads_from n (at + 5 + length p) l)) back
    ∙ ap (λ (r : Payloads). after ((at, p) ∷ []) r) (walk ps n more (at + 5 + length p) tail (omega arith) some each.1)
    ∙ ap (λ (a : ℕ). after (located at (p ∷ ps)) (payloads_from more a tail)) place

records_long : (ps : List (List ℕ)) → length ps ≤ length (flat_map open_record ps)
records_long [] = omega arith
records_long (p ∷ ps) = omega (arith, records_long ps, length-append (spelled p) (flat_map open_record ps))

pub held_short : (file : List ℕ) → length file ≤ 9 → held_by file ≡ Some no_payloads
unfolding held_by
held_short file short =
    let test : nat_le (length file) 9 ≡ true = grind (arith, nat_tests) in
    ap (λ (b : Bool). if b then Some no_payloads else option_map (λ (v : Version). payloads file) (version_of file)) test

pub held_long : (file : List ℕ) (v : Version) → 9 < length file → version_of file ≡ Some v → held_by file ≡ Some (payloads file)
unfolding held_by
held_long file v long is =
    let test : nat_le (length file) 9 ≡ false = grind (arith, nat_tests) in
    ap (λ (b : Bool). if b then Some no_payloads else option_map (λ (w : Version). payloads file) (version_of file)) test
    ∙ ap (λ (o : Option Version). option_map (λ (w : Version). payloads file) o) is

-- the payloads of a file whose records end at a gate
pub held_front : (v : Version) (ps : List (List ℕ)) (gate : ℕ) (rest file : List ℕ) → AllByRecursion IsPayload ps → 9 < length file → file ≡ front v ps ++ gate ∷ rest
    → (more : ℕ) × (held_by file ≡ Some (after (located 8 ps) (payloads_from (suc more) (length (front v ps)) (gate ∷ rest))))
held_front v ps gate rest file each long is =
    let body = flat_map open_record ps ++ gate ∷ rest in
    let split : file ≡ header v ++ body = is ∙ front_split v ps (gate ∷ rest) in
    let head : version_of file ≡ Some v = version_front v ps (gate ∷ rest) file is in
    let back : drop 8 file ≡ body = ap (λ (l : List ℕ). drop 8 l) split ∙ drop_header v body in
    let enough : length ps ≤ length (flat_map open_record ps) = records_long ps in
    let more = length file - length ps - 1 in
    let fuel : length file ≡ length ps + suc more = omega (arith, enough, ap length split, length-append (header v) body, length-header v, length-append (flat_map open_record ps) (gate ∷ rest)) in
    let place : 8 + length (flat_map open_record ps) ≡ length (front v ps) = sym (length-front v ps) in (
      more,
      held_long file v long head ∙ ap (λ (r : Payloads). Some r)
          (ap (λ (l : List ℕ). payloads_from (length file) 8 l) back ∙ walk ps (length file) (suc more) 8 (gate ∷ rest) fuel (omega arith) each
          ∙ ap (λ (a : ℕ). after (located 8 ps) (payloads_from (suc more) a (gate ∷ rest))) place),
    )

short_none : (v : Version) (ps : List (List ℕ)) (gate : ℕ) (rest : List ℕ) → length (front v ps ++ gate ∷ rest) ≤ 9 → ps ≡ []
short_none v [] gate rest short = refl
short_none v (p ∷ ps) gate rest short =
    absurd (omega (arith, length-front v (p ∷ ps), length-append (front v (p ∷ ps)) (gate ∷ rest), length-append (spelled p) (flat_map open_record ps), length-append (to_be_bytes w32 (length p)) p))

-- a closed file holds its payloads
pub closed_holds : (v : Version) (ps : List (List ℕ)) (file : List ℕ) → AllByRecursion IsPayload ps → IsClosed v ps file → held_by file ≡ Some (whole ps)
closed_holds v ps file each closed = elim (cases_lt 9 (length file)) [
  | inr short ↦
      let none : ps ≡ [] = short_none v ps closed.gate closed.rest (omega (arith, short, ap length closed.is)) in
      held_short file short ∙ ap (λ (l : List (List ℕ)). Some (whole l)) (sym none)
  | inl long ↦
      let held = held_front v ps closed.gate closed.rest file each long closed.is in
      held.1 ∙ ap (λ (r : Payloads). Some (after (located 8 ps) r)) (payloads_end held.0 (length (front v ps)) closed.gate closed.rest closed.shut) ∙ ap (λ (l : List (ℕ × List ℕ)). Some (record { list = l; damaged = None })) (append-nil (located 8 ps))
]

-- and stands for them
pub closed_stands : (v : Version) (ps : List (List ℕ)) (file : List ℕ) → AllByRecursion IsPayload ps → IsClosed v ps file → StandsFor v ps file
closed_stands v ps file each closed = (closed_holds v ps file each closed, λ _. version_front v ps (closed.gate ∷ closed.rest) file closed.is)

-- one that may be in doubt stands for them, or for one more
pub doubtful_stands : (v : Version) (ps : List (List ℕ)) (p file : List ℕ) → AllByRecursion IsPayload ps → IsPayload p → IsDoubtful v ps p file → MayStandFor v ps p file
doubtful_stands v ps p file each last there = elim (one_or_other v ps p file there) [
  | inl closed ↦ inl (closed_stands v ps file each closed)
  | inr more ↦ inr (closed_stands v (ps ++ p ∷ []) file (All_push ps p each last) more)
]
