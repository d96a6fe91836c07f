-- What lines are told, in pieces.
use Rattle.std.proofs.Common.{◌≡◌, ℕ, List, [], ◌∷◌, ◌++◌, sym, ap, ◌∙◌, append_assoc, append-nil, codes, decimal}
use Rattle.gd_runs.specs.Explained.{late_line}
use Rattle.gd_reply.specs.Replies.{late_front}

-- a line in pieces, and its newline
pub pieces_line : (xs ys line : List ℕ) → xs ++ ys ++ 125 ∷ [] ≡ line → xs ++ (ys ++ 125 ∷ [] ++ 10 ∷ []) ≡ line ++ 10 ∷ []
pieces_line xs ys line is = sym (append_assoc xs (ys ++ 125 ∷ []) (10 ∷ [])) ∙ ap (λ (zs : List ℕ). zs ++ 10 ∷ []) (sym (append_assoc xs ys (125 ∷ [])) ∙ is)

-- ---- the line that tells that a write is stored and not shown yet

late_pieces : (x y : List ℕ) → (x ++ codes "},\"line\":") ++ (y ++ codes "}" ++ 10 ∷ []) ≡ ((((x ++ []) ++ codes "}") ++ (codes ",\"line\":" ++ (y ++ []))) ++ codes "}") ++ 10 ∷ []
late_pieces [] y = ap (λ (z : List ℕ). codes "},\"line\":" ++ ((z ++ codes "}") ++ 10 ∷ [])) (sym (append-nil y))
late_pieces (c ∷ cs) y = ap (λ (zs : List ℕ). c ∷ zs) (late_pieces cs y)

pub late_text : (k e : ℕ) → late_front e ++ (decimal k ++ codes "}" ++ 10 ∷ []) ≡ late_line k e ++ 10 ∷ []
late_text k e = ap (λ (zs : List ℕ). codes "{\"code\":\"/api/status/error\",\"error\":\"MemoryLate\",\"info\":{\"entry\":" ++ zs) (late_pieces (decimal e) (decimal k))
