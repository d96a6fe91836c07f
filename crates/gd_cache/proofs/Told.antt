-- What the line of what is kept tells, part by part.
use Rattle.std.proofs.Common.{◌≡◌, ◌∙◌, sym, ap, ℕ, List, ◌∷◌, ◌++◌, append_assoc, codes, decimal}
use Rattle.std.specs.Prelude.{Some}
use Rattle.gd_cache.specs.declared.key.Kept.{Kept}
use Rattle.gd_cache.specs.Line.{cursor_part, kept_text, middle_text}
use Rattle.gd_cache.specs.Right.{ok_front}
use Rattle.gd_cache.proofs.Parts.{nested}

-- what stands behind the name of the dateline
abbrev pub behind_dateline : ℕ → ℕ → Kept → List ℕ
behind_dateline d k kept = decimal d ++ 44 ∷ (codes "\"line\":" ++ (decimal k ++ (codes ",\"result\":" ++ (kept.outcome ++ codes "}"))))

pub middle_told : (d k : ℕ) (kept : Kept) → codes ",\"dateline\":" ++ behind_dateline d k kept ≡ middle_text d k ++ (kept.outcome ++ codes "}")
middle_told d k kept =
    ap (λ l. codes ",\"dateline\":" ++ (decimal d ++ l)) (sym (append_assoc (codes ",\"line\":" ++ decimal k) (codes ",\"result\":") (kept.outcome ++ codes "}") ∙ append_assoc (codes ",\"line\":") (decimal k) (codes ",\"result\":" ++ (kept.outcome ++ codes "}"))))
    ∙ sym (append_assoc (codes ",\"dateline\":") (decimal d) (((codes ",\"line\":" ++ decimal k) ++ codes ",\"result\":") ++ (kept.outcome ++ codes "}")))
    ∙ sym (append_assoc (codes ",\"dateline\":" ++ decimal d) ((codes ",\"line\":" ++ decimal k) ++ codes ",\"result\":") (kept.outcome ++ codes "}"))
    ∙ ap (λ l. l ++ (kept.outcome ++ codes "}")) (sym (append_assoc (codes ",\"dateline\":" ++ decimal d) (codes ",\"line\":" ++ decimal k) (codes ",\"result\":")))

pub line_told : (d k : ℕ) (kept : Kept) → kept_text d k kept ≡ ok_front ++ (cursor_part kept.cursor ++ (codes ",\"dateline\":" ++ behind_dateline d k kept))
line_told d k kept =
    nested ok_front (cursor_part kept.cursor) (codes ",\"dateline\":" ++ decimal d) (codes ",\"line\":" ++ decimal k) (codes ",\"result\":") kept.outcome
    ∙ ap (λ l. ok_front ++ (cursor_part kept.cursor ++ l)) (sym (middle_told d k kept))

pub same_number : (m n : ℕ) → Some m ≡ Some n → m ≡ n
same_number m n is = cc
