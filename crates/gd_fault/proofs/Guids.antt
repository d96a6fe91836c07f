-- Guids and the digits in them.
use Rattle.std.proofs.Common.{◌≡◌, ◌≢◌, ◌<◌, ◌≤◌, ◌^◌, ℕ, zero, suc, ◌+◌, ◌*◌, ◌-◌, ◌/◌, ◌%◌, List, [], ◌∷◌, ◌++◌, length, take, drop, Bool, true, false, Option, Some, None, refl, ap, sym, subst, lit<, ◌∙◌, arith, codes, append_assoc, append-nil, length-append}
use Rattle.std.proofs.lemmas.List.{take-append-drop}
use Rattle.std.specs.Prelude.{if◌then◌else◌, bytes_eq}
use Rattle.std.specs.Char.{is_ascii_digit}
use Rattle.std.specs.Int.{is_in_range}
use Rattle.std.proofs.Math.Nat.{pow-le-pow_right}
use Rattle.std.proofs.lemmas.Bool.Decides.{nat_tests}
use Rattle.std.proofs.lemmas.Slice.Eq.{bytes_eq-Decides}
use Rattle.gd_grammar.specs.Maybe.{◌>>=◌}
use Rattle.gd_tree.specs.Hex.{hex, hex_digit}
use Rattle.gd_defs.specs.Ids.{guid, guid_place, hex_value, hex_number}

-- ---- digits

low_digit : (n : ℕ) → n < 10 → hex_digit n ≡ 48 + n
low_digit n low = grind (arith, nat_tests)

high_digit : (n : ℕ) → 10 ≤ n → hex_digit n ≡ 87 + n
high_digit n high = grind (arith, nat_tests)

within : (low high c : ℕ) → is_in_range low high c ≡ true → (low ≤ c) × (c ≤ high)
within low high c is = grind (arith, nat_tests)

-- a digit's value is below 16, and its digit is the one that was read
digit_back : (c d : ℕ) → hex_value c ≡ Some d → (d < 16) × (hex_digit d ≡ c)
digit_back c d is = by (is_ascii_digit c) (is_in_range 97 102 c) refl refl is
  where
    by : (a b : Bool) → is_ascii_digit c ≡ a → is_in_range 97 102 c ≡ b → (if a then Some (c - 48) else if b then Some (c - 87) else None) ≡ Some d → (d < 16) × (hex_digit d ≡ c)
    by true b low high value =
        let range : (48 ≤ c) × (c ≤ 57) = within 48 57 c low in
        let is : c - 48 ≡ d = cc in
        (omega arith, low_digit d (omega arith) ∙ omega arith)
    by false true low high value =
        let range : (97 ≤ c) × (c ≤ 102) = within 97 102 c high in
        let is : c - 87 ≡ d = cc in
        (omega arith, high_digit d (omega arith) ∙ omega arith)
    by false false low high value = cc

-- one digit more behind a front
front_digit : (k w d c : ℕ) → d < 16 → hex_digit d ≡ c → hex (suc w) (16 * k + d) ≡ hex w k ++ c ∷ []
front_digit k w d c small is =
    let front : (16 * k + d) / 16 ≡ k = omega arith in
    let last : (16 * k + d) % 16 ≡ d = omega arith in
    rw (front, last, is) refl

-- a number that digits spell behind a front is spelled by the digits of the front and these
pub hex_of_number : (ds : List ℕ) (k w n : ℕ) → hex_number k ds ≡ Some n → hex (w + length ds) n ≡ hex w k ++ ds
hex_of_number [] k w n is = let same : k ≡ n = cc in let count : w + 0 ≡ w = omega arith in rw (same, count) (sym (append-nil (hex w n)))
hex_of_number (c ∷ cs) k w n is = step (hex_value c) refl (λ d. hex_of_number cs (16 * k + d) (suc w) n) is
  where
    step : (o : Option ℕ) → hex_value c ≡ o → ((d : ℕ) → hex_number (16 * k + d) cs ≡ Some n → hex (suc w + length cs) n ≡ hex (suc w) (16 * k + d) ++ cs)
        → (o >>= λ d. hex_number (16 * k + d) cs) ≡ Some n → hex (w + length (c ∷ cs)) n ≡ hex w k ++ c ∷ cs
    step None value rest spelled = cc
    step (Some d) value rest spelled =
        let back : (d < 16) × (hex_digit d ≡ c) = digit_back c d value in
        let count : w + length (c ∷ cs) ≡ suc w + length cs = omega arith in
        rw count (rest d spelled ∙ ap (λ xs. xs ++ cs) (front_digit k w d c back.0 back.1) ∙ append_assoc (hex w k) (c ∷ []) cs)

pub length-hex : (w n : ℕ) → length (hex w n) ≡ w
length-hex zero n = refl
length-hex (suc w) n = length-append (hex w (n / 16)) (hex_digit (n % 16) ∷ []) ∙ ap (λ m. m + 1) (length-hex w (n / 16)) ∙ omega arith

-- ---- guids

-- a text behind the front of guids, of 16 bytes, is a guid where these spell a number
pub guid_place-behind : (text digits : List ℕ) → text ≡ codes "#0000000000000001" ++ digits → length digits ≡ 16 → guid_place text ≡ hex_number 0 digits
guid_place-behind text digits is count = rw is (by (hex_number 0 digits) refl)
  where
    same : (n : ℕ) → hex_number 0 digits ≡ Some n → bytes_eq (guid n) (codes "#0000000000000001" ++ digits) ≡ true
    same n spelled =
        let whole : hex (0 + length digits) n ≡ digits = hex_of_number digits 0 0 n spelled in
        let all : 0 + length digits ≡ 16 = omega arith in
        let sixteen : hex 16 n ≡ digits = subst (λ (w : ℕ). hex w n ≡ digits) all whole in
        (bytes_eq-Decides (guid n) (codes "#0000000000000001" ++ digits)).1 (ap (λ ds. codes "#0000000000000001" ++ ds) sixteen)

    by : (o : Option ℕ) → hex_number 0 digits ≡ o → (o >>= λ place. if bytes_eq (guid place) (codes "#0000000000000001" ++ digits) then Some place else None) ≡ o
    by None spelled = refl
    by (Some n) spelled = ap (λ b. if b then Some n else None) (same n spelled)

-- a text that is the guid of no place
pub guid_place-none : (text : List ℕ) → ((n : ℕ) → guid n ≢ text) → guid_place text ≡ None
guid_place-none text other = by (hex_number 0 (drop 17 text))
  where
    chosen : (n : ℕ) (b : Bool) → bytes_eq (guid n) text ≡ b → (if b then Some n else None) ≡ None
    chosen n true is = absurd (other n ((bytes_eq-Decides (guid n) text).0 is))
    chosen n false is = refl

    by : (o : Option ℕ) → (o >>= λ place. if bytes_eq (guid place) text then Some place else None) ≡ None
    by None = refl
    by (Some n) = chosen n (bytes_eq (guid n) text) refl

-- one digit more keeps a number of at most 16 digits below 2 ^ 64
pub digit_more : (i n d : ℕ) → i < 16 → n < 16 ^ i → d < 16 → 16 * n + d < 2 ^ 64
digit_more i n d few small digit =
    let up : i ≤ 15 = omega arith in
    let most : 16 ^ i ≤ 16 ^ 15 = pow-le-pow_right (lit< tt) up in
    let below : n < 16 ^ 15 = omega arith in
    omega arith

-- a text that does not begin as guids do
pub guid_place-other : (text : List ℕ) → bytes_eq (take 17 text) (codes "#0000000000000001") ≡ false → guid_place text ≡ None
guid_place-other text is = guid_place-none text (λ n same.
    let begins : bytes_eq (take 17 text) (codes "#0000000000000001") ≡ true = (bytes_eq-Decides (take 17 text) (codes "#0000000000000001")).1 (ap (take 17) (sym same)) in
    cc)

-- a text of another length behind that
pub guid_place-length : (text : List ℕ) → length (drop 17 text) ≢ 16 → guid_place text ≡ None
guid_place-length text other = guid_place-none text (λ n same. other (ap (λ t. length (drop 17 t)) (sym same)))

-- a text that begins as guids do, and goes on with 16 bytes
pub guid_place-whole : (text digits : List ℕ) → bytes_eq (take 17 text) (codes "#0000000000000001") ≡ true → digits ≡ drop 17 text → length digits ≡ 16 → guid_place text ≡ hex_number 0 digits
guid_place-whole text digits begins is count =
    let front : take 17 text ≡ codes "#0000000000000001" = (bytes_eq-Decides (take 17 text) (codes "#0000000000000001")).0 begins in
    guid_place-behind text digits (sym (take-append-drop 17 text) ∙ ap (λ a. a ++ drop 17 text) front ∙ ap (λ b. codes "#0000000000000001" ++ b) (sym is)) count
