-- Bytes of compact texts: digits, quotes, and where one part ends.
use Rattle.std.proofs.Common.{◌≡◌, ◌≢◌, ◌⊎◌, inl, inr, ℕ, zero, suc, ◌+◌, ◌/◌, ◌%◌, ◌≤◌, ◌==◌, Bool, true, false, nat_lt, if◌then◌else◌, List, [], ◌∷◌, ◌++◌, flat_map, codes, decimal, refl, sym, ap, arith, append_assoc, ◌∙◌, Option, Some, None}
use Rattle.std.specs.Fmt.{digits, digits_onto, digit_glyph}
use Rattle.std.proofs.lemmas.Bool.{lt-ltb, ne_eqb, eqb-false}
use Rattle.gd_tree.specs.Hex.{hex}
use Rattle.gd_tree.specs.Json.{escaped}
use Rattle.gd_grammar.specs.Mark.{Mark, place_text, cursor_text}
use Rattle.gd_paging_laws.specs.Told.{Clear}

pub head_same : {x y : ℕ} {xs ys : List ℕ} → x ∷ xs ≡ y ∷ ys → x ≡ y
head_same is = cc

pub tail_same : {x y : ℕ} {xs ys : List ℕ} → x ∷ xs ≡ y ∷ ys → xs ≡ ys
tail_same is = cc

-- ---- up to a separator

-- no byte is this one
abbrev pub Without : ℕ → List ℕ → Type 0
Without s [] = Unit {0}
Without s (c ∷ cs) = (c ≢ s) × Without s cs

pub up_to : (s : ℕ) (xs ys a b : List ℕ) → Without s xs → Without s ys → xs ++ s ∷ a ≡ ys ++ s ∷ b → (xs ≡ ys) × (a ≡ b)
up_to s [] [] a b p q e = (refl, tail_same e)
up_to s [] (y ∷ ys) a b p q e = absurd (q.0 (sym (head_same e)))
up_to s (x ∷ xs) [] a b p q e = absurd (p.0 (head_same e))
up_to s (x ∷ xs) (y ∷ ys) a b p q e =
    let heads : x ≡ y = head_same e in
    let rest = up_to s xs ys a b p.1 q.1 (tail_same e) in
    let tails : xs ≡ ys = rest.0 in
    (cc (heads, tails), rest.1)

-- ---- digits

-- each byte is a digit
abbrev pub Digits : List ℕ → Type 0
Digits [] = Unit {0}
Digits (c ∷ cs) = (48 ≤ c) × (c ≤ 57) × Digits cs

-- and there is one
abbrev pub SomeDigits : List ℕ → Type 0
SomeDigits [] = ⊥
SomeDigits (c ∷ cs) = (48 ≤ c) × (c ≤ 57) × Digits cs

either_digits : (b : Bool) (xs ys : List ℕ) → SomeDigits xs → SomeDigits ys → SomeDigits (if b then xs else ys)
either_digits true xs ys p q = p
either_digits false xs ys p q = q

glyph : (n : ℕ) → (48 ≤ digit_glyph false (n % 10)) × (digit_glyph false (n % 10) ≤ 57)
glyph n = by (nat_lt (n % 10) 10) (lt-ltb (n % 10) 10 (omega arith))
  where
    by : (b : Bool) → b ≡ true → (48 ≤ (if b then 48 + n % 10 else 87 + n % 10)) × ((if b then 48 + n % 10 else 87 + n % 10) ≤ 57)
    by true is = (omega arith, omega arith)
    by false is = absurd (cc)

digits_step : (k n : ℕ) (behind : List ℕ) → Digits behind
    → ((n : ℕ) (c : ℕ) (cs : List ℕ) → SomeDigits (c ∷ cs) → SomeDigits (digits_onto k 10 false n (c ∷ cs))) → SomeDigits (digits_onto (suc k) 10 false n behind)
digits_step k n behind p more =
    let here : SomeDigits (digit_glyph false (n % 10) ∷ behind) = let g = glyph n in (g.0, g.1, p) in
    either_digits (n / 10 == 0) (digit_glyph false (n % 10) ∷ behind) (digits_onto k 10 false (n / 10) (digit_glyph false (n % 10) ∷ behind)) here
    (more (n / 10) (digit_glyph false (n % 10)) behind here)

digits_all : (k n c : ℕ) (cs : List ℕ) → SomeDigits (c ∷ cs) → SomeDigits (digits_onto k 10 false n (c ∷ cs))
digits_all zero n c cs p = p
digits_all (suc k) n c cs p = digits_step k n (c ∷ cs) p (digits_all k)

pub decimal_digits : (n : ℕ) → SomeDigits (decimal n)
unfolding digits
decimal_digits n = digits_step 63 n [] tt (digits_all 63)

pub all_digits : (xs : List ℕ) → SomeDigits xs → Digits xs
all_digits [] p = absurd p
all_digits (c ∷ cs) p = p

-- ---- bytes that need no escape

pub clear_append : (xs ys : List ℕ) → Clear xs → Clear ys → Clear (xs ++ ys)
clear_append [] ys p q = q
clear_append (x ∷ xs) ys p q = (p.0, p.1, p.2, p.3, clear_append xs ys p.4 q)

clear_digits : (xs : List ℕ) → Digits xs → Clear xs
clear_digits [] p = tt
clear_digits (c ∷ cs) p = (λ e. omega (arith, p.0, p.1, e), λ e. omega (arith, p.0, p.1, e), omega (arith, p.0), omega (arith, p.1), clear_digits cs p.2)

pub clear_decimal : (n : ℕ) → Clear (decimal n)
clear_decimal n = clear_digits (decimal n) (all_digits (decimal n) (decimal_digits n))

without_digits : (xs : List ℕ) → Digits xs → Without 44 xs
without_digits [] p = tt
without_digits (c ∷ cs) p = (λ e. omega (arith, p.0, e), without_digits cs p.2)

pub without_comma : (n : ℕ) → Without 44 (decimal n)
without_comma n = without_digits (decimal n) (all_digits (decimal n) (decimal_digits n))

clear_place : (key : Option ℕ) → Clear (codes ":" ++ place_text key)
clear_place None = clear_append (codes ":") (codes "-") (λ e. omega (arith, e), λ e. omega (arith, e), omega arith, omega arith, tt) (λ e. omega (arith, e), λ e. omega (arith, e), omega arith, omega arith, tt)
clear_place (Some n) = clear_append (codes ":") (decimal n) (λ e. omega (arith, e), λ e. omega (arith, e), omega arith, omega arith, tt) (clear_decimal n)

clear_places : (keys : List (Option ℕ)) → Clear (flat_map (λ key. codes ":" ++ place_text key) keys)
clear_places [] = tt
clear_places (k ∷ ks) = clear_append (codes ":" ++ place_text k) (flat_map (λ key. codes ":" ++ place_text key) ks) (clear_place k) (clear_places ks)

pub clear_cursor : (dateline : ℕ) (m : Mark) → Clear (cursor_text dateline m)
clear_cursor dateline m =
    clear_append (codes "c1:" ++ decimal dateline ++ codes ":" ++ decimal m.object) (flat_map (λ key. codes ":" ++ place_text key) m.keys)
    (clear_append (codes "c1:" ++ decimal dateline ++ codes ":") (decimal m.object)
    (clear_append (codes "c1:" ++ decimal dateline) (codes ":")
    (clear_append (codes "c1:") (decimal dateline)
    (λ e. omega (arith, e), λ e. omega (arith, e), omega arith, omega arith, (λ e. omega (arith, e), λ e. omega (arith, e), omega arith, omega arith, (λ e. omega (arith, e), λ e. omega (arith, e), omega arith, omega arith, tt)))
    (clear_decimal dateline))
    (λ e. omega (arith, e), λ e. omega (arith, e), omega arith, omega arith, tt))
    (clear_decimal m.object))
    (clear_places m.keys)

-- ---- quoted texts

-- what follows an escape
abbrev Escape : List ℕ → Type 0
Escape xs = (rest : List ℕ) × (xs ≡ 92 ∷ rest)

either_escape : (b : Bool) (xs ys : List ℕ) → Escape xs → Escape ys → Escape (if b then xs else ys)
either_escape true xs ys p q = p
either_escape false xs ys p q = q

-- a byte stands as it is, or an escape stands for it
abbrev Stands : ℕ → List ℕ → Type 0
Stands c xs = ((xs ≡ c ∷ []) × (c ≢ 34)) ⊎ Escape xs

stands : (c : ℕ) → Stands c (escaped c)
stands c = by (c == 34) (c == 92) (nat_lt 31 c) refl
  where
    rare : List ℕ
    rare = if c == 8 then codes "\\b" else if c == 12 then codes "\\f" else if c == 10 then codes "\\n"
        else if c == 13 then codes "\\r" else if c == 9 then codes "\\t" else codes "\\u" ++ hex 4 c

    rare_escape : Escape rare
    rare_escape =
        either_escape (c == 8) (codes "\\b") _ (_, refl)
        (either_escape (c == 12) (codes "\\f") _ (_, refl)
        (either_escape (c == 10) (codes "\\n") _ (_, refl)
        (either_escape (c == 13) (codes "\\r") _ (_, refl)
        (either_escape (c == 9) (codes "\\t") _ (_, refl) (_, refl)))))

    by : (a b d : Bool) → (c == 34) ≡ a → Stands c (if a then codes "\\\"" else if b then codes "\\\\" else if d then c ∷ [] else rare)
    by true b d is = inr (_, refl)
    by false true d is = inr (_, refl)
    by false false true is = inl (refl, eqb-false c 34 is)
    by false false false is = inr rare_escape

-- a clear text is quoted as it is
pub clear_same : (t : List ℕ) → Clear t → flat_map escaped t ≡ t
clear_same [] p = refl
clear_same (c ∷ cs) p =
    let one : (c == 34) ≡ false = ne_eqb c 34 p.0 in
    let two : (c == 92) ≡ false = ne_eqb c 92 p.1 in
    let three : nat_lt 31 c ≡ true = lt-ltb 31 c p.2 in
    rw (one, two, three) (ap (λ l. c ∷ l) (clear_same cs p.4))

-- one byte in front of a text in quotes that reads as a clear one
quoted_step : (c : ℕ) (s x y : List ℕ) → ((t : List ℕ) → Clear t → flat_map escaped s ++ 34 ∷ x ≡ t ++ 34 ∷ y → (s ≡ t) × (x ≡ y))
    → (xs : List ℕ) → Stands c xs → (t : List ℕ) → Clear t → xs ++ (flat_map escaped s ++ 34 ∷ x) ≡ t ++ 34 ∷ y → (c ∷ s ≡ t) × (x ≡ y)
quoted_step c s x y more xs (inl (is, other)) [] p e = absurd (other (head_same (ap (λ l. l ++ (flat_map escaped s ++ 34 ∷ x)) (sym is) ∙ e)))
quoted_step c s x y more xs (inl (is, other)) (d ∷ t) p e =
    let here = ap (λ l. l ++ (flat_map escaped s ++ 34 ∷ x)) (sym is) ∙ e in
    let heads : c ≡ d = head_same here in
    let rest = more t p.4 (tail_same here) in
    let tails : s ≡ t = rest.0 in
    (cc (heads, tails), rest.1)
quoted_step c s x y more xs (inr (rest, is)) [] p e = let here : 92 ≡ 34 = head_same (ap (λ l. l ++ (flat_map escaped s ++ 34 ∷ x)) (sym is) ∙ e) in absurd (omega (arith, here))
quoted_step c s x y more xs (inr (rest, is)) (d ∷ t) p e = absurd (p.1 (sym (head_same (ap (λ l. l ++ (flat_map escaped s ++ 34 ∷ x)) (sym is) ∙ e))))

-- a text in quotes that reads as a clear one is that one
pub quoted_same : (s t x y : List ℕ) → Clear t → flat_map escaped s ++ 34 ∷ x ≡ t ++ 34 ∷ y → (s ≡ t) × (x ≡ y)
quoted_same [] [] x y p e = (refl, tail_same e)
quoted_same [] (d ∷ t) x y p e = absurd (p.0 (sym (head_same e)))
quoted_same (c ∷ s) t x y p e = quoted_step c s x y (λ u clear is. quoted_same s u x y clear is) (escaped c) (stands c) t p (sym (append_assoc (escaped c) (flat_map escaped s) (34 ∷ x)) ∙ e)
