-- What stands at a gate, and the way from gate to gate.
use Rattle.std.proofs.Common.{◌≡◌, ◌≢◌, ◌⊎◌, ℕ, zero, suc, ◌+◌, ◌-◌, ◌<◌, ◌≤◌, List, [], ◌∷◌, ◌++◌, length, get_or, take, drop, Some, None, true, false, refl, sym, ◌∙◌, ap, arith, length-take, length-drop, take-append-drop}
use Rattle.std.specs.Prelude.{if◌then◌else◌, nat_le, Option, MatchOption, Bool}
use Rattle.std.specs.Option.{is_some, option_map}
use Rattle.std.proofs.lemmas.List.{append_assoc, append-nil, take_at, drop_more, length-take-le, drop_all}
use Rattle.std.proofs.lemmas.Nat.{be_bytes_4}
use Rattle.std.proofs.lemmas.Bool.Decides.{nat_tests}
use Rattle.std.specs.Int.{to_be_bytes, from_be_bytes, w32}
use Rattle.gd_bytes.specs.Disk.{written}
use Rattle.gd_bytes.specs.File.{Version, second, version_of, Payloads, header, payloads, no_payloads}
use Rattle.gd_journal.specs.Meaning.{held_by, located, IsDamagedAt}
use Rattle.gd_journal.specs.Shape.{front, IsRecord, IsTorn, IsWalked, IsAtRest, IsClosed, EndsAt}
use Rattle.gd_journal.proofs.Gates.{front_push, length-front_push, All_push}
use Rattle.gd_journal.proofs.Headers.{has_header, length-front}
use Rattle.gd_journal.proofs.Means.{after, payload_none, payloads_torn, held_front, closed_holds}

pub whole_of : (tail len : List ℕ) (n room : ℕ) → 1 ∷ len ≡ take 5 tail → length tail ≡ room → length len ≡ 4 → ((i : ℕ) → get_or len i 0 < 256) → n ≡ from_be_bytes w32 len → 1 ≤ n → n ≤ 268435456 → 6 + n ≤ room
    → (p : List ℕ) × (length p ≡ n) × IsRecord tail p
whole_of tail len n room head size four fits is some short enough =
    let behind = drop 5 tail in
    let long : length behind ≡ room - 5 = omega (arith, length-drop 5 tail, size) in
    let p = take n behind in
    let is_long : length p ≡ n = length-take-le n behind (omega (arith, long)) in
    let gate = get_or behind n 0 in
    let rest = drop (n + 1) behind in
    let split : behind ≡ p ++ (gate ∷ rest) = sym (take-append-drop n behind) ∙ ap (λ (l : List ℕ). p ++ l) (drop_more behind n 0 (omega (arith, long))) in
    let spells : to_be_bytes w32 (length p) ≡ len = be_bytes_4 len (length p) four fits (is_long ∙ is) in (
      p,
      is_long,
      record {
        fits = record { some = omega (arith, is_long); short = omega (arith, is_long) };
        gate = gate;
        rest = rest;
        is = sym (take-append-drop 5 tail) ∙ ap (λ (l : List ℕ). l ++ behind) (sym head) ∙ ap (λ (l : List ℕ). 1 ∷ (len ++ l)) split
            ∙ ap (λ (l : List ℕ). 1 ∷ (l ++ (p ++ (gate ∷ rest)))) (sym spells) ∙ ap (λ (l : List ℕ). 1 ∷ l) (sym (append_assoc (to_be_bytes w32 (length p)) p (gate ∷ rest)));
      },
    )

pub five : (bytes tail : List ℕ) → bytes ≡ take 5 tail → 5 ≤ length bytes → bytes ≡ get_or bytes 0 0 ∷ get_or bytes 1 0 ∷ get_or bytes 2 0 ∷ get_or bytes 3 0 ∷ get_or bytes 4 0 ∷ []
five (a ∷ b ∷ c ∷ d ∷ e ∷ []) tail is long = refl
five (a ∷ b ∷ c ∷ d ∷ e ∷ f ∷ bytes) tail is long = absurd (omega (arith, ap length is, length-take 5 tail))
five [] tail is long = absurd (omega arith)
five (a ∷ []) tail is long = absurd (omega arith)
five (a ∷ b ∷ []) tail is long = absurd (omega arith)
five (a ∷ b ∷ c ∷ []) tail is long = absurd (omega arith)
five (a ∷ b ∷ c ∷ d ∷ []) tail is long = absurd (omega arith)

pub four_bytes : (a b c d : ℕ) → a < 256 → b < 256 → c < 256 → d < 256 → (i : ℕ) → get_or (a ∷ b ∷ c ∷ d ∷ []) i 0 < 256
four_bytes a b c d p q r s zero = p
four_bytes a b c d p q r s (suc zero) = q
four_bytes a b c d p q r s (suc (suc zero)) = r
four_bytes a b c d p q r s (suc (suc (suc zero))) = s
four_bytes a b c d p q r s (suc (suc (suc (suc i)))) = omega arith

-- an open gate behind which no whole record stands
pub torn : (tail bytes : List ℕ) (n : ℕ) → bytes ≡ take 5 tail → 1 ≤ length bytes → get_or bytes 0 0 ≡ 1 → from_be_bytes w32 (drop 1 bytes) ≡ n → (length tail < 5) ⊎ (n ≡ 0) ⊎ (268435456 < n) ⊎ (length tail < 6 + n) → IsTorn tail
torn [] bytes n is some one size why = absurd (omega (arith, ap length is))
torn (g ∷ rest) bytes n is some one size why =
    let opens : g ≡ 1 = sym (ap (λ (l : List ℕ). get_or l 0 0) is) ∙ one in
    let len : take 4 rest ≡ drop 1 bytes = sym (ap (λ (l : List ℕ). drop 1 l) is) in
    record {
      rest = rest;
      is = ap (λ (x : ℕ). x ∷ rest) opens;
      none = payload_none rest n (ap (λ (l : List ℕ). from_be_bytes w32 l) len ∙ size) (why_none rest n g why);
    }
  where
    why_none : (rest : List ℕ) (n g : ℕ) → (length (g ∷ rest) < 5) ⊎ (n ≡ 0) ⊎ (268435456 < n) ⊎ (length (g ∷ rest) < 6 + n) → (length rest < 4) ⊎ (n ≡ 0) ⊎ (268435456 < n) ⊎ (length rest ≤ 4 + n)
    why_none rest n g w = grind arith

pub walked_none : (v : Version) (file : List ℕ) → version_of file ≡ Some v → IsWalked v [] 8 file
unfolding front
walked_none v file is = record { each = tt; place = sym (length-front v []); is = has_header file v is ∙ sym (append-nil (header v)) }

-- one record more
pub walked_more : (v : Version) (ps : List (List ℕ)) (at n : ℕ) (file p : List ℕ) → IsWalked v ps at file → length p ≡ n → IsRecord (drop at file) p → IsWalked v (ps ++ p ∷ []) (at + (n + 5)) file
walked_more v ps at n file p walked is whole =
    let long = length-front_push v ps p in
    let split : file ≡ front v (ps ++ p ∷ []) ++ whole.gate ∷ whole.rest = sym (take-append-drop at file) ∙ ap (λ (l : List ℕ). l ++ drop at file) walked.is ∙ ap (λ (l : List ℕ). front v ps ++ l) whole.is ∙ sym (front_push v ps p (whole.gate ∷ whole.rest)) in
    record {
      each = All_push ps p walked.each whole.fits;
      place = omega (arith, walked.place, long, is);
      is = ap (λ (l : List ℕ). take (at + (n + 5)) l) split ∙ take_at (front v (ps ++ p ∷ [])) (whole.gate ∷ whole.rest) (at + (n + 5)) (omega (arith, walked.place, long, is));
    }

abbrev nine : List ℕ
nine = 71 ∷ 82 ∷ 65 ∷ 80 ∷ 72 ∷ 68 ∷ 50 ∷ 10 ∷ 0 ∷ []

-- what a creation writes
pub fresh : (d e c : List ℕ) → length d ≤ 9 → e ≡ written 0 nine d → c ≡ take 9 e → IsAtRest second [] c
unfolding front
fresh d e c short w cut =
    let is : e ≡ nine = w ∙ ap (λ (l : List ℕ). nine ++ l) (drop_all 9 d short) in
    record { gate = 0; shut = omega arith; is = cut ∙ ap (λ (l : List ℕ). take 9 l) is }

-- a walk to a gate that is not open
pub walked_closed : (v : Version) (ps : List (List ℕ)) (gate : ℕ) (file : List ℕ) → gate < length file → IsWalked v ps gate file → get_or (drop gate file) 0 0 ≢ 1 → IsClosed v ps file
walked_closed v ps gate file within walked shut =
    let head = drop_more file gate 0 within in
    record {
      gate = get_or file gate 0;
      rest = drop (gate + 1) file;
      shut = λ one. shut (ap (λ (l : List ℕ). get_or l 0 0) head ∙ one);
      is = sym (take-append-drop gate file) ∙ ap (λ (l : List ℕ). l ++ drop gate file) walked.is ∙ ap (λ (l : List ℕ). front v ps ++ l) head;
    }

-- the payloads of a file, once its gates were walked
pub walked_held : (v : Version) (ps : List (List ℕ)) (gate : ℕ) (file : List ℕ) (damaged : Option ℕ) → 9 < length file → gate < length file → IsWalked v ps gate file → EndsAt gate file damaged → held_by file ≡ Some (record { list = located 8 ps; damaged = damaged })
walked_held v ps gate file None long within walked ends = closed_holds v ps file walked.each (walked_closed v ps gate file within walked ends)
walked_held v ps gate file (Some at) long within walked (same, ends) =
    let is : file ≡ front v ps ++ 1 ∷ ends.rest = sym (take-append-drop gate file) ∙ ap (λ (l : List ℕ). l ++ drop gate file) walked.is ∙ ap (λ (l : List ℕ). front v ps ++ l) ends.is in
    let held = held_front v ps 1 ends.rest file walked.each long is in
    held.1 ∙ ap (λ (r : Payloads). Some (after (located 8 ps) r)) (payloads_torn held.0 (length (front v ps)) ends.rest ends.none)
    ∙ ap (λ (l : List (ℕ × List ℕ)). Some (record { list = l; damaged = Some (length (front v ps)) })) (append-nil (located 8 ps))
    ∙ ap (λ (n : ℕ). Some (record { list = located 8 ps; damaged = Some n })) (sym walked.place ∙ sym same)

pub torn_ends : (v : Version) (damaged : Option ℕ) (ps : List (List ℕ)) (gate : ℕ) (file : List ℕ) (A U : Type 0) → is_some damaged ≡ true → 9 < length file → gate < length file → IsWalked v ps gate file → EndsAt gate file damaged → U
    → MatchOption damaged A (λ at. IsDamagedAt at file × U)
torn_ends v None ps gate file A U is long within walked ends u = cc
torn_ends v (Some at) ps gate file A U is long within walked ends u = ((record { list = located 8 ps; damaged = Some at }, walked_held v ps gate file (Some at) long within walked ends, refl), u)

pub closed_ends : (damaged : Option ℕ) (A : Type 0) (B : ℕ → Type 0) → is_some damaged ≡ false → A → MatchOption damaged A B
closed_ends None A B is a = a
closed_ends (Some at) A B is a = cc

pub ends_shut : (damaged : Option ℕ) (gate : ℕ) (file : List ℕ) → is_some damaged ≡ false → EndsAt gate file damaged → get_or (drop gate file) 0 0 ≢ 1
ends_shut None gate file is ends = ends
ends_shut (Some at) gate file is ends = cc

-- an empty store
pub fresh_place : 8 ≡ length (front second [])
unfolding front
fresh_place = refl

-- what begins with no header is no store
pub no_header : (file : List ℕ) → 9 < length file → version_of file ≡ None → held_by file ≡ None
unfolding held_by
no_header file long other =
    let test : nat_le (length file) 9 ≡ false = grind (arith, nat_tests) in
    ap (λ (b : Bool). if b then Some no_payloads else option_map (λ (v : Version). payloads file) (version_of file)) test
    ∙ ap (λ (o : Option Version). option_map (λ (v : Version). payloads file) o) other
