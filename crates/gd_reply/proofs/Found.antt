-- The reply line and the text of what a query prints, put together from the text of its value.
use Rattle.std.proofs.Common.{◌≡◌, ℕ, List, [], ◌∷◌, ◌++◌, Option, None, Some, Result, Ok, Err, ap, sym, ◌∙◌, append_assoc, append-nil, codes, decimal}
use Rattle.gd_tree.specs.Json.{Json, compact}
use Rattle.gd_defs.specs.Lines.{Refusal, ok_cursor_line}
use Rattle.gd_defs.specs.Reply as reply
use Rattle.gd_defs.specs.Reply.{answer_line, answer_item, within_reply}
use Rattle.gd_reply.specs.Answers.{told_of}
use Rattle.gd_reply.specs.Replies.{cursor_front_of, found_front, item_front}
use Rattle.gd_reply.proofs.Several.{line_is}

-- ---- lines

pieces : (k t d q l r c e : List ℕ) → k ++ t ++ d ++ q ++ l ++ r ++ c ++ e ≡ (k ++ (t ++ (d ++ (q ++ (l ++ (r ++ (c ++ []))))))) ++ e
pieces k t d q l r c e = ap (λ zs. zs ++ e)
    (append_assoc (k ++ t ++ d ++ q ++ l) r c
    ∙ append_assoc (k ++ t ++ d ++ q) l (r ++ c)
    ∙ append_assoc (k ++ t ++ d) q (l ++ (r ++ c))
    ∙ append_assoc (k ++ t) d (q ++ (l ++ (r ++ c)))
    ∙ append_assoc k t (d ++ (q ++ (l ++ (r ++ c))))
    ∙ ap (λ zs. k ++ (t ++ (d ++ (q ++ (l ++ (r ++ zs)))))) (sym (append-nil c)))

cursor_line : (dateline line : ℕ) (cursor j : Json) → cursor_front_of dateline line cursor ++ compact j ++ codes "}" ≡ ok_cursor_line dateline line cursor j
cursor_line dateline line cursor j = ap (λ zs. codes "{\"code\":\"/api/status/ok\",\"cursor\":" ++ zs)
    (pieces (compact cursor) (codes ",\"dateline\":") (decimal dateline) (codes ",\"line\":") (decimal line) (codes ",\"result\":") (compact j) (codes "}"))

-- what is told of two answers is the same part by part
parts : (x : Option Json × List ℕ) (cursor : Option Json) (outcome : List ℕ) → ◌≡◌ {A = Result (Option Json × List ℕ) Refusal} (Ok (cursor, outcome)) (Ok x) → (cursor ≡ x.0) × (outcome ≡ x.1)
parts x cursor outcome is = let e : (cursor, outcome) ≡ x = cc in (ap (λ p. p.0) e, ap (λ p. p.1) e)

-- LAW: the reply line is that of an answer of which this is told
pub line_told : (dateline line : ℕ) (cursor : Option Json) (outcome : List ℕ) (expected : reply.Answer) → Ok (cursor, outcome) ≡ told_of expected
    → within_reply dateline line (found_front dateline line cursor ++ outcome ++ 125 ∷ []) ≡ answer_line dateline line expected
line_told dateline line None outcome (Ok (None, j)) is =
    let e = (parts (None, compact j) None outcome is).1 in
    ap (λ zs. within_reply dateline line (found_front dateline line None ++ zs ++ codes "}")) e ∙ ap (within_reply dateline line) (line_is dateline line j)
line_told dateline line (Some c) outcome (Ok (Some d, j)) is =
    let both = parts (Some d, compact j) (Some c) outcome is in
    let e = both.1 in
    let same : c ≡ d = cc both.0 in
    ap (λ zs. within_reply dateline line (cursor_front_of dateline line c ++ zs ++ codes "}")) e
    ∙ ap (λ k. within_reply dateline line (cursor_front_of dateline line k ++ compact j ++ codes "}")) same
    ∙ ap (within_reply dateline line) (cursor_line dateline line d j)
line_told dateline line None outcome (Ok (Some d, j)) is = cc ((parts (Some d, compact j) None outcome is).0)
line_told dateline line (Some c) outcome (Ok (None, j)) is = cc ((parts (None, compact j) (Some c) outcome is).0)
line_told dateline line cursor outcome (Err r) is = cc

-- ---- among others

short_pieces : (k r c e : List ℕ) → k ++ r ++ c ++ e ≡ (k ++ (r ++ (c ++ []))) ++ e
short_pieces k r c e = ap (λ zs. zs ++ e) (append_assoc k r c ∙ ap (λ zs. k ++ (r ++ zs)) (sym (append-nil c)))

-- LAW: the text is that of an answer of which this is told
pub item_told : (cursor : Option Json) (outcome : List ℕ) (expected : reply.Answer) → Ok (cursor, outcome) ≡ told_of expected → item_front cursor ++ outcome ++ 125 ∷ [] ≡ compact (answer_item expected)
item_told None outcome (Ok (None, j)) is =
    let e = (parts (None, compact j) None outcome is).1 in
    ap (λ zs. codes "{\"result\":" ++ (zs ++ codes "}")) (e ∙ sym (append-nil (compact j)))
item_told (Some c) outcome (Ok (Some d, j)) is =
    let both = parts (Some d, compact j) (Some c) outcome is in
    let e = both.1 in
    let same : c ≡ d = cc both.0 in
    ap (λ zs. item_front (Some c) ++ zs ++ codes "}") e
    ∙ ap (λ k. item_front (Some k) ++ compact j ++ codes "}") same
    ∙ ap (λ zs. codes "{\"cursor\":" ++ zs) (short_pieces (compact d) (codes ",\"result\":") (compact j) (codes "}"))
item_told None outcome (Ok (Some d, j)) is = cc ((parts (Some d, compact j) None outcome is).0)
item_told (Some c) outcome (Ok (None, j)) is = cc ((parts (None, compact j) (Some c) outcome is).0)
item_told cursor outcome (Err r) is = cc

-- LAW: an answer of which a refusal is told is that refusal
pub refused_told : (r : Refusal) (expected : reply.Answer) → Err r ≡ told_of expected → expected ≡ Err r
refused_told r (Ok found) is = cc
refused_told r (Err other) is = cc
