-- Guids whose digits are written from the last to the first.
use Rattle.std.proofs.Common.{◌≡◌, ℕ, zero, suc, ◌+◌, ◌/◌, ◌%◌, ◌^◌, ◌<◌, List, [], ◌∷◌, ◌++◌, length, take, drop, set, codes, refl, sym, ap, ◌∙◌, arith, append_assoc, length-set, Bool, true, false, ◌&&◌, nat_lt, ltb-true}
use Rattle.std.specs.List.{list_all}
use Rattle.std.proofs.lemmas.List.{take-append-drop, take-set-le, drop-set}
use Rattle.std.proofs.lemmas.Bool.Decides.{nat_tests}
use Rattle.std.proofs.lemmas.Str.{IsAscii-append}
use Rattle.std.proofs.lemmas.Str.Ascii.{IsAscii-nil, IsAscii-cons, IsAscii-push}
use Rattle.std.specs.Str.{IsAscii}
use Rattle.gd_tree.specs.Hex.{hex, hex_digit}
use Rattle.gd_defs.specs.Ids.{guid}

-- bytes that end in so many digits of a number, the others of which are still to be written
pub record EndsIn (place left : ℕ) (few : ℕ) (bytes : List ℕ) : Type 0 where
  pub long : length bytes ≡ 33
  pub front : take 25 bytes ≡ codes "#000000000000000100000000"
  pub digits : hex few left ++ drop (25 + few) bytes ≡ hex 8 place

-- one digit more is written
pub one_more : (place left few : ℕ) (bytes : List ℕ) → few < 8 → EndsIn place left (suc few) bytes → EndsIn place (left / 16) few (set bytes (25 + few) (hex_digit (left % 16)))
one_more place left few bytes small ends =
    let at : 25 + few + 1 ≡ 25 + suc few = omega arith in
    record {
      long = length-set bytes (25 + few) (hex_digit (left % 16)) ∙ ends.long;
      front = take-set-le 25 bytes (25 + few) (hex_digit (left % 16)) (omega arith) ∙ ends.front;
      digits =
          ap (λ bs. hex few (left / 16) ++ bs) (drop-set bytes (25 + few) (hex_digit (left % 16)) (omega (arith, ends.long)) ∙ ap (λ n. hex_digit (left % 16) ∷ drop n bytes) at)
          ∙ sym (append_assoc (hex few (left / 16)) (hex_digit (left % 16) ∷ []) (drop (25 + suc few) bytes)) ∙ ends.digits;
    }

-- a number of few digits has zeros before them
zeros : (w n : ℕ) → n < 16 ^ w → hex (w + 8) n ≡ codes "00000000" ++ hex w n
zeros zero n small = let none : n ≡ 0 = omega arith in rw none refl
zeros (suc w) n small =
    let front : n / 16 < 16 ^ w = omega arith in
    let more : suc w + 8 ≡ suc (w + 8) = omega arith in
    ap (λ width. hex width n) more ∙ ap (λ ds. ds ++ hex_digit (n % 16) ∷ []) (zeros w (n / 16) front)
    ∙ append_assoc (codes "00000000") (hex w (n / 16)) (hex_digit (n % 16) ∷ [])

-- all digits are written
pub all_written : (place left : ℕ) (bytes : List ℕ) → place < 2 ^ 32 → EndsIn place left 0 bytes → bytes ≡ guid place
all_written place left bytes small ends =
    let few : place < 16 ^ 8 = small in
    sym (take-append-drop 25 bytes) ∙ ap (λ bs. bs ++ drop 25 bytes) ends.front ∙ ap (λ bs. codes "#000000000000000100000000" ++ bs) ends.digits
    ∙ ap (λ ds. codes "#0000000000000001" ++ ds) (sym (zeros 8 place few))

digit_ascii : (d : ℕ) → d < 16 → hex_digit d < 128
digit_ascii d small = grind (arith, nat_tests)

hex_ascii : (w n : ℕ) → IsAscii (hex w n)
hex_ascii zero n = IsAscii-nil
hex_ascii (suc w) n = IsAscii-push (hex w (n / 16)) (hex_digit (n % 16)) (hex_ascii w (n / 16)) (digit_ascii (n % 16) (omega arith))

both : (a b : Bool) → (a && b) ≡ true → (a ≡ true) × (b ≡ true)
both true b is = (refl, is)
both false b is = cc

-- a literal
by_test : (cs : List ℕ) → list_all (λ c. nat_lt c 128) cs ≡ true → IsAscii cs
by_test [] is = IsAscii-nil
by_test (c ∷ cs) is = let (low, rest) = both (nat_lt c 128) (list_all (λ d. nat_lt d 128) cs) is in IsAscii-cons c cs (ltb-true c 128 low) (by_test cs rest)

pub guid_ascii : (place : ℕ) → IsAscii (guid place)
guid_ascii place = IsAscii-append (codes "#0000000000000001") (hex 16 place) (by_test (codes "#0000000000000001") refl) (hex_ascii 16 place)
