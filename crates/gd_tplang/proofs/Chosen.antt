-- Those of a list that pass a test, one after another.
use Rattle.std.proofs.Common.{◌≡◌, ℕ, Bool, true, false, cond, List, [], ◌∷◌, ◌++◌, drop, length, get_or, ◌<◌, ◌+◌, filter, sym, ap, ◌∙◌, append_assoc}
use Rattle.gd_tplang.proofs.Prints.{list_left}

-- one that passes stands in front of those behind it
pub one_more : (test : ℕ → Bool) (found xs all : List ℕ) (i x : ℕ) → i < length xs → x ≡ get_or xs i x → test x ≡ true → found ++ filter test (drop i xs) ≡ all
    → (found ++ x ∷ []) ++ filter test (drop (i + 1) xs) ≡ all
one_more test found xs all i x within is passes was =
    append_assoc found (x ∷ []) (filter test (drop (i + 1) xs))
    ∙ ap (λ b. found ++ cond b (x ∷ filter test (drop (i + 1) xs)) (filter test (drop (i + 1) xs))) (sym passes)
    ∙ ap (λ ys. found ++ filter test ys) (sym (list_left xs i x within is)) ∙ was

-- one that does not is left out
pub none_more : (test : ℕ → Bool) (found xs all : List ℕ) (i x : ℕ) → i < length xs → x ≡ get_or xs i x → test x ≡ false → found ++ filter test (drop i xs) ≡ all
    → found ++ filter test (drop (i + 1) xs) ≡ all
none_more test found xs all i x within is fails was =
    ap (λ b. found ++ cond b (x ∷ filter test (drop (i + 1) xs)) (filter test (drop (i + 1) xs))) (sym fails)
    ∙ ap (λ ys. found ++ filter test ys) (sym (list_left xs i x within is)) ∙ was
