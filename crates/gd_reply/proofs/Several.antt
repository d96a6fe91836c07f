-- The reply line of several answers, put together from their texts.
use Rattle.std.proofs.Common.{◌≡◌, ℕ, List, [], ◌∷◌, ◌++◌, map, refl, ap, sym, ◌∙◌, append_assoc, append-nil, codes, decimal}
use Rattle.gd_tree.specs.Json.{Json, list, compact, more_items}
use Rattle.gd_defs.specs.Lines.{items_of, ok_line}
use Rattle.gd_reply.specs.Answers.{further, joined}
use Rattle.gd_reply.specs.Replies.{ok_front_of}

further_is : (js : List Json) → further (map compact js) ≡ more_items (items_of js)
further_is [] = refl
further_is (j ∷ js) = ap (λ ts. codes "," ++ compact j ++ ts) (further_is js)

-- LAW: the printed form of a list is that of its items, joined
pub list_is : (js : List Json) → codes "[" ++ joined (map compact js) ++ codes "]" ≡ compact (list (items_of js))
list_is [] = refl
list_is (j ∷ js) = ap (λ ts. codes "[" ++ compact j ++ ts ++ codes "]") (further_is js)

closes : (front ts : List ℕ) → front ++ codes "[" ++ ts ++ codes "]}" ≡ front ++ (codes "[" ++ ts ++ codes "]") ++ codes "}"
closes front ts =
    ap (λ zs. zs ++ codes "]}") (append_assoc front (codes "[") ts)
    ∙ append_assoc front (codes "[" ++ ts) (codes "]}")
    ∙ ap (λ zs. front ++ zs) (sym (append_assoc (codes "[" ++ ts) (codes "]") (codes "}")))
    ∙ sym (append_assoc front (codes "[" ++ ts ++ codes "]") (codes "}"))

pieces : (d q l r c e : List ℕ) → d ++ q ++ l ++ r ++ c ++ e ≡ (d ++ (q ++ (l ++ (r ++ (c ++ []))))) ++ e
pieces d q l r c e = ap (λ zs. zs ++ e)
    (append_assoc (d ++ q ++ l) r c
    ∙ append_assoc (d ++ q) l (r ++ c)
    ∙ append_assoc d q (l ++ (r ++ c))
    ∙ ap (λ zs. d ++ (q ++ (l ++ (r ++ zs)))) (sym (append-nil c)))

-- LAW: a reply line is what stands before the result, the text of the result and a brace
pub line_is : (dateline line : ℕ) (j : Json) → ok_front_of dateline line ++ compact j ++ codes "}" ≡ ok_line dateline line j
line_is dateline line j = ap (λ zs. codes "{\"code\":\"/api/status/ok\",\"dateline\":" ++ zs)
    (pieces (decimal dateline) (codes ",\"line\":") (decimal line) (codes ",\"result\":") (compact j) (codes "}"))

-- LAW: so the line of several is made of their texts
pub several_line : (dateline line : ℕ) (ts : List (List ℕ)) (js : List Json) → ts ≡ map compact js → ok_front_of dateline line ++ codes "[" ++ joined ts ++ codes "]}" ≡ ok_line dateline line (list (items_of js))
several_line dateline line ts js are =
    closes (ok_front_of dateline line) (joined ts)
    ∙ ap (λ us. ok_front_of dateline line ++ (codes "[" ++ joined us ++ codes "]") ++ codes "}") are
    ∙ ap (λ t. ok_front_of dateline line ++ t ++ codes "}") (list_is js)
    ∙ line_is dateline line (list (items_of js))
