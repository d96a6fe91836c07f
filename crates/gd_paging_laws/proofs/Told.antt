-- What a reply line with a cursor tells can be told from its bytes.
use Rattle.std.proofs.Common.{◌≡◌, inl, inr, ℕ, ◌≤◌, ℤ, pos, negsuc, true, false, List, [], ◌∷◌, ◌++◌, flat_map, codes, decimal, get_or, drop, refl, sym, ap, arith, append_assoc, ◌∙◌}
use Rattle.std.proofs.lemmas.List.{append_cancel_left, append_cancel_right}
use Rattle.gd_tree.specs.Json.{Json, null, boolean, number, text, list, object, no_items, item, no_members, member, compact, quoted, escaped, number_text}
use Rattle.gd_defs.specs.Lines.{Refusal, err_line, err_line_plain, ok_line, ok_cursor_line}
use Rattle.gd_paging_laws.specs.Told.{Clear, IsCursor}
use Rattle.gd_paging_laws.proofs.Bytes.{head_same, tail_same, up_to, SomeDigits, decimal_digits, without_comma, quoted_same, clear_same}

-- ---- first bytes of values

-- a text of digits begins with one
digit_first : (xs x y : List ℕ) (b : ℕ) → SomeDigits xs → xs ++ x ≡ b ∷ y → (48 ≤ b) × (b ≤ 57)
digit_first [] x y b p e = absurd p
digit_first (c ∷ cs) x y b p e = let same = head_same e in (omega (arith, p.0, same), omega (arith, p.1, same))

pub number_first : (n : ℤ) (x y : List ℕ) (b : ℕ) → number_text n ++ x ≡ b ∷ y → (45 ≤ b) × (b ≤ 57)
number_first (pos n) x y b e = let within = digit_first (decimal n) x y b (decimal_digits n) e in (omega (arith, within.0), within.1)
number_first (negsuc n) x y b e = let same = head_same e in (omega (arith, same), omega (arith, same))

-- some byte comes first
pub compact_first : (j : Json) → (b : ℕ) × (xs : List ℕ) × (compact j ≡ b ∷ xs)
compact_first null = (_, _, refl)
compact_first (boolean true) = (_, _, refl)
compact_first (boolean false) = (_, _, refl)
compact_first (number (pos n)) = by (decimal n) (decimal_digits n)
  where
    by : (xs : List ℕ) → SomeDigits xs → (b : ℕ) × (ys : List ℕ) × (xs ≡ b ∷ ys)
    by [] p = absurd p
    by (c ∷ cs) p = (c, cs, refl)
compact_first (number (negsuc n)) = (_, _, refl)
compact_first (text s) = (_, _, refl)
compact_first (list no_items) = (_, _, refl)
compact_first (list (item j js)) = (_, _, refl)
compact_first (object no_members) = (_, _, refl)
compact_first (object (member k j ms)) = (_, _, refl)

-- ---- cursors

-- a value that prints `false` is that
false_told : (c : Json) (x y : List ℕ) → compact c ++ x ≡ codes "false" ++ y → (c ≡ boolean false) × (x ≡ y)
false_told null x y e = let same : 110 ≡ 102 = head_same e in absurd (omega (arith, same))
false_told (boolean true) x y e = let same : 116 ≡ 102 = head_same e in absurd (omega (arith, same))
false_told (boolean false) x y e = (refl, ap (drop 5) e)
false_told (number n) x y e = let within = number_first n x _ 102 e in absurd (omega (arith, within.1))
false_told (text s) x y e = let same : 34 ≡ 102 = head_same e in absurd (omega (arith, same))
false_told (list no_items) x y e = let same : 91 ≡ 102 = head_same e in absurd (omega (arith, same))
false_told (list (item j js)) x y e = let same : 91 ≡ 102 = head_same e in absurd (omega (arith, same))
false_told (object no_members) x y e = let same : 123 ≡ 102 = head_same e in absurd (omega (arith, same))
false_told (object (member k j ms)) x y e = let same : 123 ≡ 102 = head_same e in absurd (omega (arith, same))

-- a value that prints a clear text in quotes is that text
text_told : (c : Json) (t x y : List ℕ) → Clear t → compact c ++ x ≡ quoted t ++ y → (c ≡ text t) × (x ≡ y)
text_told null t x y p e = let same : 110 ≡ 34 = head_same e in absurd (omega (arith, same))
text_told (boolean true) t x y p e = let same : 116 ≡ 34 = head_same e in absurd (omega (arith, same))
text_told (boolean false) t x y p e = let same : 102 ≡ 34 = head_same e in absurd (omega (arith, same))
text_told (number n) t x y p e = let within = number_first n x _ 34 e in absurd (omega (arith, within.0))
text_told (text s) t x y p e =
    let inner : flat_map escaped s ++ 34 ∷ x ≡ t ++ 34 ∷ y =
    sym (append_assoc (flat_map escaped s) (34 ∷ []) x) ∙ tail_same e ∙ append_assoc (flat_map escaped t) (34 ∷ []) y ∙ ap (λ l. l ++ 34 ∷ y) (clear_same t p) in
    let both = quoted_same s t x y p inner in
    (ap text both.0, both.1)
text_told (list no_items) t x y p e = let same : 91 ≡ 34 = head_same e in absurd (omega (arith, same))
text_told (list (item j js)) t x y p e = let same : 91 ≡ 34 = head_same e in absurd (omega (arith, same))
text_told (object no_members) t x y p e = let same : 123 ≡ 34 = head_same e in absurd (omega (arith, same))
text_told (object (member k j ms)) t x y p e = let same : 123 ≡ 34 = head_same e in absurd (omega (arith, same))

cursor_told : (c d : Json) (x y : List ℕ) → IsCursor d → compact c ++ x ≡ compact d ++ y → (c ≡ d) × (x ≡ y)
cursor_told c d x y (inl is) e = let both = false_told c x y (e ∙ ap (λ j. compact j ++ y) is) in (both.0 ∙ sym is, both.1)
cursor_told c d x y (inr (t, is, clear)) e = let both = text_told c t x y clear (e ∙ ap (λ j. compact j ++ y) is) in (both.0 ∙ sym is, both.1)

-- ---- lines

-- a line with a cursor in its parts
abbrev pub parts : ℕ → ℕ → Json → Json → List ℕ
parts dateline line cursor result =
    codes "{\"code\":\"/api/status/ok\",\"cursor\":" ++ (compact cursor ++ 44 ∷ (codes "\"dateline\":" ++ (decimal dateline ++ 44 ∷ (codes "\"line\":" ++ (decimal line ++ 44 ∷ (codes "\"result\":" ++ (compact result ++ codes "}")))))))

-- two lists and what is behind them
behind : (xs ys zs us : List ℕ) → ys ++ zs ≡ us → (xs ++ ys) ++ zs ≡ xs ++ us
behind xs ys zs us is = append_assoc xs ys zs ∙ ap (λ l. xs ++ l) is

pub line_parts : (dateline line : ℕ) (cursor result : Json) → ok_cursor_line dateline line cursor result ≡ parts dateline line cursor result
line_parts dateline line cursor result =
    ap (λ l. codes "{\"code\":\"/api/status/ok\",\"cursor\":" ++ l)
    (behind (compact cursor) _ (codes "}") _ (ap (λ l. 44 ∷ (codes "\"dateline\":" ++ l))
    (behind (decimal dateline) _ (codes "}") _ (ap (λ l. 44 ∷ (codes "\"line\":" ++ l))
    (behind (decimal line) _ (codes "}") _ (ap (λ l. 44 ∷ (codes "\"result\":" ++ l))
    (behind (compact result) [] (codes "}") _ refl)))))))

-- lines with cursors that are the same tell the same cursor, and results and datelines that print alike
pub line_told : (dateline d line : ℕ) (cursor c result r : Json) → IsCursor cursor → ok_cursor_line dateline line cursor result ≡ ok_cursor_line d line c r
    → (cursor ≡ c) × (compact result ≡ compact r) × (decimal d ≡ decimal dateline)
line_told dateline d line cursor c result r is e =
    let whole : parts d line c r ≡ parts dateline line cursor result = sym (line_parts d line c r) ∙ sym e ∙ line_parts dateline line cursor result in
    let one = cursor_told c cursor _ _ is (append_cancel_left (codes "{\"code\":\"/api/status/ok\",\"cursor\":") _ _ whole) in
    let two = up_to 44 (decimal d) (decimal dateline) _ _ (without_comma d) (without_comma dateline) (append_cancel_left (codes "\"dateline\":") _ _ (tail_same one.1)) in
    let three = append_cancel_left (decimal line) _ _ (append_cancel_left (codes "\"line\":") _ _ two.1) in
    let four = append_cancel_right (compact r) (compact result) (codes "}") (append_cancel_left (codes "\"result\":") _ _ (tail_same three)) in
    (sym one.0, sym four, two.0)

-- lines that differ in datelines alone, which print alike, are the same
pub dated_same : (dateline d line : ℕ) (c r : Json) → decimal d ≡ decimal dateline → ok_cursor_line d line c r ≡ ok_cursor_line dateline line c r
dated_same dateline d line c r is =
    line_parts d line c r
    ∙ ap (λ (n : List ℕ). codes "{\"code\":\"/api/status/ok\",\"cursor\":" ++ (compact c ++ 44 ∷ (codes "\"dateline\":" ++ (n ++ 44 ∷ (codes "\"line\":" ++ (decimal line ++ 44 ∷ (codes "\"result\":" ++ (compact r ++ codes "}")))))))) is
    ∙ sym (line_parts dateline line c r)

-- no refusal is a line with a cursor
pub not_refused : (n d line k : ℕ) (f : Refusal) (c r : Json) → err_line n line f ≡ ok_cursor_line d k c r → ⊥
not_refused n d line k f c r e = let same : 101 ≡ 111 = ap (λ l. get_or l 21 0) e in omega (arith, same)

-- and no line without one
pub not_without : (n d line k : ℕ) (j c r : Json) → ok_line n line j ≡ ok_cursor_line d k c r → ⊥
not_without n d line k j c r e = let same : 100 ≡ 99 = ap (λ l. get_or l 26 0) e in omega (arith, same)

-- nor is one that has no dateline
pub not_plain : (d line k : ℕ) (f : Refusal) (c r : Json) → err_line_plain line f ≡ ok_cursor_line d k c r → ⊥
not_plain d line k f c r e = let same : 101 ≡ 111 = ap (λ l. get_or l 21 0) e in omega (arith, same)
