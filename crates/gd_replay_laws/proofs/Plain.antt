-- A reply is one line: no byte of it is a control character. So it is found again among the pieces of an output.
use Rattle.std.proofs.Common.{◌≡◌, ℕ, zero, suc, ◌+◌, ◌<◌, ◌/◌, ◌%◌, ◌≤◌, ◌==◌, ◌&&◌, ℤ, pos, negsuc, Bool, true, false, nat_lt, nat_le, if◌then◌else◌, List, [], ◌∷◌, ◌++◌, flat_map, codes, decimal, refl, sym, ap, ◌∙◌, arith, ltb-true, leb-true, append-nil, append_assoc}
use Rattle.std.specs.Fmt.{digits, digits_onto, digit_glyph}
use Rattle.std.proofs.lemmas.Bool.Decides.{nat_tests}
use Rattle.gd_tree.specs.Hex.{hex, hex_digit}
use Rattle.gd_tree.specs.Json.{Json, Items, Members, null, boolean, number, text, list, object, no_items, item, no_members, member, escaped, quoted, number_text, compact, more_items, more_members}
use Rattle.gd_defs.specs.Lines.{Refusal, line_text, object_of, count_json, ok_code, err_code, ok_line, ok_cursor_line, err_line, err_line_plain}
use Rattle.gd_runs.specs.Explained.{without_return, pieces}

-- no byte is a control character
abbrev pub Plain : List ℕ → Type 0
Plain [] = Unit {0}
Plain (c ∷ cs) = (32 ≤ c) × Plain cs

abbrev is_plain : List ℕ → Bool
is_plain [] = true
is_plain (c ∷ cs) = nat_le 32 c && is_plain cs

split : (a b : Bool) → (a && b) ≡ true → (a ≡ true) × (b ≡ true)
split true b is = (refl, is)
split false b is = cc

plain_by : (xs : List ℕ) → is_plain xs ≡ true → Plain xs
plain_by [] is = tt
plain_by (c ∷ cs) is = let both = split (nat_le 32 c) (is_plain cs) is in (leb-true 32 c both.0, plain_by cs both.1)

join : (xs ys : List ℕ) → Plain xs → Plain ys → Plain (xs ++ ys)
join [] ys p q = q
join (c ∷ cs) ys (here, p) q = (here, join cs ys p q)

either : (b : Bool) (xs ys : List ℕ) → Plain xs → Plain ys → Plain (if b then xs else ys)
either true xs ys p q = p
either false xs ys p q = q

when : (b : Bool) (xs ys : List ℕ) → (b ≡ true → Plain xs) → Plain ys → Plain (if b then xs else ys)
when true xs ys p q = p refl
when false xs ys p q = q

-- ---- digits

above : (b : Bool) (m n : ℕ) → 32 ≤ m → 32 ≤ n → 32 ≤ (if b then m else n)
above true m n p q = p
above false m n p q = q

plain_hex : (width n : ℕ) → Plain (hex width n)
plain_hex zero n = tt
plain_hex (suc width) n = join (hex width (n / 16)) (hex_digit (n % 16) ∷ []) (plain_hex width (n / 16)) (above (nat_lt (n % 16) 10) (48 + n % 16) (87 + n % 16) (omega arith) (omega arith), tt)

glyph : (n : ℕ) → 32 ≤ digit_glyph false n
glyph n = above (nat_lt n 10) (48 + n) (87 + n) (omega arith) (omega arith)

plain_onto : (k n : ℕ) (behind : List ℕ) → Plain behind → Plain (digits_onto k 10 false n behind)
plain_onto zero n behind p = p
plain_onto (suc k) n behind p =
    either (n / 10 == 0) (digit_glyph false (n % 10) ∷ behind) (digits_onto k 10 false (n / 10) (digit_glyph false (n % 10) ∷ behind)) (glyph (n % 10), p)
    (plain_onto k (n / 10) (digit_glyph false (n % 10) ∷ behind) (glyph (n % 10), p))

plain_decimal : (n : ℕ) → Plain (decimal n)
unfolding digits
plain_decimal n = plain_onto 64 n [] tt

plain_number : (n : ℤ) → Plain (number_text n)
plain_number (pos n) = plain_decimal n
plain_number (negsuc n) = (omega arith, plain_decimal (n + 1))

-- ---- texts

plain_escaped : (c : ℕ) → Plain (escaped c)
plain_escaped c =
    either (c == 34) (codes "\\\"") _ (plain_by (codes "\\\"") refl)
    (either (c == 92) (codes "\\\\") _ (plain_by (codes "\\\\") refl)
    (when (nat_lt 31 c) (c ∷ []) _ (λ e. let over = ltb-true 31 c e in (omega (arith, over), tt))
    (either (c == 8) (codes "\\b") _ (plain_by (codes "\\b") refl)
    (either (c == 12) (codes "\\f") _ (plain_by (codes "\\f") refl)
    (either (c == 10) (codes "\\n") _ (plain_by (codes "\\n") refl)
    (either (c == 13) (codes "\\r") _ (plain_by (codes "\\r") refl)
    (either (c == 9) (codes "\\t") _ (plain_by (codes "\\t") refl)
    (join (codes "\\u") (hex 4 c) (plain_by (codes "\\u") refl) (plain_hex 4 c)))))))))

plain_all : (s : List ℕ) → Plain (flat_map escaped s)
plain_all [] = tt
plain_all (c ∷ cs) = join (escaped c) (flat_map escaped cs) (plain_escaped c) (plain_all cs)

plain_quoted : (s : List ℕ) → Plain (quoted s)
plain_quoted s = join (34 ∷ flat_map escaped s) (34 ∷ []) (omega arith, plain_all s) (omega arith, tt)

-- ---- values

mutual
  plain_compact : (j : Json) → Plain (compact j)
  plain_compact null = plain_by (codes "null") refl
  plain_compact (boolean true) = plain_by (codes "true") refl
  plain_compact (boolean false) = plain_by (codes "false") refl
  plain_compact (number n) = plain_number n
  plain_compact (text s) = plain_quoted s
  plain_compact (list no_items) = plain_by (codes "[]") refl
  plain_compact (list (item j js)) = join (codes "[" ++ compact j ++ more_items js) (codes "]") (join (codes "[" ++ compact j) (more_items js) (join (codes "[") (compact j) (plain_by (codes "[") refl) (plain_compact j)) (plain_more_items js)) (plain_by (codes "]") refl)
  plain_compact (object no_members) = plain_by (codes "{}") refl
  plain_compact (object (member k j ms)) = join (codes "{" ++ quoted k ++ codes ":" ++ compact j ++ more_members ms) (codes "}")
      (join (codes "{" ++ quoted k ++ codes ":" ++ compact j) (more_members ms)
      (join (codes "{" ++ quoted k ++ codes ":") (compact j)
      (join (codes "{" ++ quoted k) (codes ":") (join (codes "{") (quoted k) (plain_by (codes "{") refl) (plain_quoted k)) (plain_by (codes ":") refl)) (plain_compact j)) (plain_more_members ms)) (plain_by (codes "}") refl)

  plain_more_items : (js : Items) → Plain (more_items js)
  plain_more_items no_items = tt
  plain_more_items (item j js) = join (codes "," ++ compact j) (more_items js) (join (codes ",") (compact j) (plain_by (codes ",") refl) (plain_compact j)) (plain_more_items js)

  plain_more_members : (ms : Members) → Plain (more_members ms)
  plain_more_members no_members = tt
  plain_more_members (member k j ms) = join (codes "," ++ quoted k ++ codes ":" ++ compact j) (more_members ms)
      (join (codes "," ++ quoted k ++ codes ":") (compact j) (join (codes "," ++ quoted k) (codes ":") (join (codes ",") (quoted k) (plain_by (codes ",") refl) (plain_quoted k)) (plain_by (codes ":") refl)) (plain_compact j))
      (plain_more_members ms)

-- ---- replies

pub plain_line : (ms : List (List ℕ × Json)) → Plain (line_text ms)
plain_line ms = plain_compact (object (object_of ms))

pub plain_ok : (n k : ℕ) (j : Json) → Plain (ok_line n k j)
plain_ok n k j = plain_line (ok_code ∷ (codes "dateline", count_json n) ∷ (codes "line", count_json k) ∷ (codes "result", j) ∷ [])

pub plain_cursor : (n k : ℕ) (c j : Json) → Plain (ok_cursor_line n k c j)
plain_cursor n k c j = plain_line (ok_code ∷ (codes "cursor", c) ∷ (codes "dateline", count_json n) ∷ (codes "line", count_json k) ∷ (codes "result", j) ∷ [])

pub plain_err : (n k : ℕ) (r : Refusal) → Plain (err_line n k r)
plain_err n k r = plain_line (err_code ∷ (codes "dateline", count_json n) ∷ (codes "error", text r.error) ∷ (codes "info", object r.info) ∷ (codes "line", count_json k) ∷ [])

pub plain_refusal : (k : ℕ) (r : Refusal) → Plain (err_line_plain k r)
plain_refusal k r = plain_line (err_code ∷ (codes "error", text r.error) ∷ (codes "info", object r.info) ∷ (codes "line", count_json k) ∷ [])

-- ---- pieces of an output

differ : (c n : ℕ) → 32 ≤ c → n < 32 → (c == n) ≡ false
differ c n over under = grind (arith, nat_tests)

no_return : (x : List ℕ) → Plain x → without_return x ≡ x
no_return [] p = refl
no_return (c ∷ []) (here, p) = ap (λ (b : Bool). if b then [] else c ∷ []) (differ c 13 here (omega arith))
no_return (c ∷ d ∷ cs) (here, p) = ap (λ (xs : List ℕ). c ∷ xs) (no_return (d ∷ cs) p)

cut_line : (piece x rest : List ℕ) → Plain x → pieces piece (x ++ 10 ∷ rest) ≡ without_return (piece ++ x) ∷ pieces [] rest
cut_line piece [] rest p = ap (λ (xs : List ℕ). without_return xs ∷ pieces [] rest) (sym (append-nil piece))
cut_line piece (c ∷ cs) rest (here, p) =
    ap (λ (b : Bool). if b then without_return piece ∷ pieces [] (cs ++ 10 ∷ rest) else pieces (piece ++ c ∷ []) (cs ++ 10 ∷ rest)) (differ c 10 here (omega arith))
    ∙ (cut_line (piece ++ c ∷ []) cs rest p ∙ ap (λ (xs : List ℕ). without_return xs ∷ pieces [] rest) (append_assoc piece (c ∷ []) cs))

-- a line that is printed is the first piece of what is printed from it on
pub first_piece : (x rest : List ℕ) → Plain x → pieces [] (x ++ 10 ∷ rest) ≡ x ∷ pieces [] rest
first_piece x rest p = cut_line [] x rest p ∙ ap (λ (y : List ℕ). y ∷ pieces [] rest) (no_return x p)
