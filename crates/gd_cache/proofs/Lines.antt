-- What is kept of a reply line gives that line again, at each number.
use Rattle.std.proofs.Common.{◌≡◌, ◌∙◌, sym, ap, ℕ, List, [], ◌++◌, append_assoc}
use Rattle.std.specs.Prelude.{Some, None, codes, decimal}
use Rattle.std.proofs.lemmas.List.{append-nil}
use Rattle.gd_tree.specs.Json.{Json, compact}
use Rattle.gd_defs.specs.Lines.{ok_line, ok_cursor_line}
use Rattle.gd_cache.specs.Line.{kept_text}

-- the parts of a line, joined as its printing joins them
three : (a b c d : List ℕ) → (a ++ (b ++ (c ++ (d ++ [])))) ++ codes "}" ≡ (((a ++ b) ++ c) ++ d) ++ codes "}"
three a b c d = ap (λ x. x ++ codes "}") (ap (λ x. a ++ (b ++ (c ++ x))) (append-nil d) ∙ sym (append_assoc a b (c ++ d)) ∙ sym (append_assoc (a ++ b) c d))

four : (a z b c d : List ℕ) → (a ++ (z ++ (b ++ (c ++ (d ++ []))))) ++ codes "}" ≡ ((((a ++ z) ++ b) ++ c) ++ d) ++ codes "}"
four a z b c d = ap (λ x. x ++ codes "}") (sym (append_assoc a z (b ++ (c ++ (d ++ []))))) ∙ three (a ++ z) b c d

-- a reply without a cursor
pub plain : (dateline k : ℕ) (result : Json) → kept_text dateline k (record { cursor = None; outcome = compact result }) ≡ ok_line dateline k result
plain dateline k result = sym (three (codes "{\"code\":\"/api/status/ok\"") (codes ",\"dateline\":" ++ decimal dateline) (codes ",\"line\":" ++ decimal k) (codes ",\"result\":" ++ compact result))

-- a reply with one
pub with_cursor : (dateline k : ℕ) (cursor result : Json) → kept_text dateline k (record { cursor = Some (compact cursor); outcome = compact result }) ≡ ok_cursor_line dateline k cursor result
with_cursor dateline k cursor result = sym (four (codes "{\"code\":\"/api/status/ok\"") (codes ",\"cursor\":" ++ compact cursor) (codes ",\"dateline\":" ++ decimal dateline) (codes ",\"line\":" ++ decimal k) (codes ",\"result\":" ++ compact result))
