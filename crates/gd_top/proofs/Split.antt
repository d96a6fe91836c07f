-- Lines that are printed are found again among the pieces of the output.
use Rattle.std.proofs.Common.{◌≡◌, ℕ, suc, ◌+◌, ◌<◌, ◌≤◌, ◌==◌, Bool, false, if◌then◌else◌, List, [], ◌∷◌, ◌++◌, length, map, flat_map, Some, slice_get, refl, sym, subst, ap, ◌∙◌, ◌⊎◌, inl, inr, ⊎_elim, arith, append-nil, append_assoc}
use Rattle.std.proofs.lemmas.Bool.Decides.{nat_tests}
use Rattle.gd_prim.specs.declared.Batch.{Batch}
use Rattle.gd_runs.specs.Legal.{History}
use Rattle.gd_runs.specs.Explained.{Numbered, Run, without_return, pieces, IsExplainedBy, fault_count, faults_told}
use Rattle.gd_threads.specs.PassedOn.{printed}
use Rattle.gd_round_laws.proofs.Counts.{fault_count-append}
use Rattle.gd_top.proofs.Plain.{Plain, plain_reply}

-- all lines are plain
abbrev pub ArePlain : List (List ℕ) → Type 0
ArePlain [] = Unit {0}
ArePlain (x ∷ xs) = Plain x × ArePlain xs

differ : (c n : ℕ) → 32 ≤ c → n < 32 → (c == n) ≡ false
differ c n over under = grind (arith, nat_tests)

no_return : (x : List ℕ) → Plain x → without_return x ≡ x
no_return [] p = refl
no_return (c ∷ []) (here, p) = ap (λ (b : Bool). if b then [] else c ∷ []) (differ c 13 here (omega arith))
no_return (c ∷ d ∷ cs) (here, p) = ap (λ (xs : List ℕ). c ∷ xs) (no_return (d ∷ cs) p)

-- ---- cutting

cut_line : (piece x rest : List ℕ) → Plain x → pieces piece (x ++ 10 ∷ rest) ≡ without_return (piece ++ x) ∷ pieces [] rest
cut_line piece [] rest p = ap (λ (xs : List ℕ). without_return xs ∷ pieces [] rest) (sym (append-nil piece))
cut_line piece (c ∷ cs) rest (here, p) =
    ap (λ (b : Bool). if b then without_return piece ∷ pieces [] (cs ++ 10 ∷ rest) else pieces (piece ++ c ∷ []) (cs ++ 10 ∷ rest)) (differ c 10 here (omega arith))
    ∙ (cut_line (piece ++ c ∷ []) cs rest p ∙ ap (λ (xs : List ℕ). without_return xs ∷ pieces [] rest) (append_assoc piece (c ∷ []) cs))

printed-cons : (x : List ℕ) (xs : List (List ℕ)) → printed (x ∷ xs) ≡ x ++ 10 ∷ printed xs
printed-cons x xs = append_assoc x (10 ∷ []) (printed xs)

cut_all : (xs : List (List ℕ)) → ArePlain xs → pieces [] (printed xs) ≡ xs ++ [] ∷ []
cut_all [] p = refl
cut_all (x ∷ xs) (here, p) =
    ap (pieces []) (printed-cons x xs) ∙ (cut_line [] x (printed xs) here ∙ (ap (λ (y : List ℕ). y ∷ pieces [] (printed xs)) (no_return x here) ∙ ap (λ (ys : List (List ℕ)). x ∷ ys) (cut_all xs p)))

-- ---- the same lines

newlines : List ℕ → ℕ
newlines [] = 0
newlines (c ∷ cs) = (if c == 10 then 1 else 0) + newlines cs

newlines-append : (xs ys : List ℕ) → newlines (xs ++ ys) ≡ newlines xs + newlines ys
unfolding newlines
newlines-append [] ys = omega arith
newlines-append (c ∷ cs) ys = let rest = newlines-append cs ys in omega (arith, rest)

newlines-plain : (x : List ℕ) → Plain x → newlines x ≡ 0
unfolding newlines
newlines-plain [] p = refl
newlines-plain (c ∷ cs) (here, p) = ap (λ (b : Bool). (if b then 1 else 0) + newlines cs) (differ c 10 here (omega arith)) ∙ (let rest = newlines-plain cs p in omega (arith, rest))

newlines-line : (x rest : List ℕ) → newlines (x ++ 10 ∷ rest) ≡ newlines x + (1 + newlines rest)
unfolding newlines
newlines-line x rest = newlines-append x (10 ∷ rest)

at_least : (xs : List (List ℕ)) → length xs ≤ newlines (printed xs)
at_least [] = omega arith
at_least (x ∷ xs) =
    let rest = at_least xs in
    let is = ap newlines (printed-cons x xs) ∙ newlines-line x (printed xs) in
    omega (arith, rest, is)

exactly : (xs : List (List ℕ)) → ArePlain xs → newlines (printed xs) ≡ length xs
unfolding newlines
exactly [] p = refl
exactly (x ∷ xs) (here, p) =
    let rest = exactly xs p in
    let none = newlines-plain x here in
    let is = ap newlines (printed-cons x xs) ∙ newlines-line x (printed xs) in
    omega (arith, rest, none, is)

-- where two texts begin with a line, they begin with the same one, or the second goes on past the first one's end
first_line : (x y a b : List ℕ) → Plain x → x ++ 10 ∷ a ≡ y ++ 10 ∷ b → ((x ≡ y) × (a ≡ b)) ⊎ ((z : List ℕ) × (a ≡ z ++ 10 ∷ b))
first_line [] [] a b p is = inl (refl, tail_is is)
  where
    tail_is : {c d : ℕ} {xs ys : List ℕ} → c ∷ xs ≡ d ∷ ys → xs ≡ ys
    tail_is e = cc
first_line [] (d ∷ ds) a b p is = inr (ds, tail_is is)
  where
    tail_is : {c d : ℕ} {xs ys : List ℕ} → c ∷ xs ≡ d ∷ ys → xs ≡ ys
    tail_is e = cc
first_line (c ∷ cs) [] a b (here, p) is = let same = head_is is in absurd (omega (arith, here, same))
  where
    head_is : {c d : ℕ} {xs ys : List ℕ} → c ∷ xs ≡ d ∷ ys → c ≡ d
    head_is e = cc
first_line (c ∷ cs) (d ∷ ds) a b (here, p) is = ⊎_elim (λ (same, rest). inl (both (head_is is) same, rest)) (λ (z, rest). inr (z, rest)) (first_line cs ds a b p (tail_is is))
  where
    head_is : {c d : ℕ} {xs ys : List ℕ} → c ∷ xs ≡ d ∷ ys → c ≡ d
    head_is e = cc

    tail_is : {c d : ℕ} {xs ys : List ℕ} → c ∷ xs ≡ d ∷ ys → xs ≡ ys
    tail_is e = cc

    both : {c d : ℕ} {xs ys : List ℕ} → c ≡ d → xs ≡ ys → c ∷ xs ≡ d ∷ ys
    both e f = cc

same_lines : (xs ys : List (List ℕ)) → ArePlain xs → length xs ≡ length ys → printed xs ≡ printed ys → xs ≡ ys
same_lines [] [] p many is = refl
same_lines [] (y ∷ ys) p many is = absurd (omega (arith, many))
same_lines (x ∷ xs) [] p many is = absurd (omega (arith, many))
same_lines (x ∷ xs) (y ∷ ys) (here, p) many is = ⊎_elim
    (λ (same, rest). both same (same_lines xs ys p (omega (arith, many)) rest))
    (λ (z, rest).
    let left = sym (ap newlines rest) ∙ exactly xs p in
    let right = newlines-line z (printed ys) in
    let least = at_least ys in
    absurd (omega (arith, left, right, least, many)))
    (first_line x y (printed xs) (printed ys) here (sym (printed-cons x xs) ∙ (is ∙ printed-cons y ys)))
  where
    both : {a b : List ℕ} {ls ms : List (List ℕ)} → a ≡ b → ls ≡ ms → a ∷ ls ≡ b ∷ ms
    both e f = cc

-- ---- the faults that an explained output tells

replies_of : List Run → List (List ℕ)
replies_of runs = map (λ (r : Run). r.reply) runs

printed_of : (runs : List Run) → flat_map (λ (r : Run). r.reply ++ 10 ∷ []) runs ≡ printed (replies_of runs)
unfolding replies_of
printed_of [] = refl
printed_of (r ∷ rs) = ap (λ (out : List ℕ). (r.reply ++ 10 ∷ []) ++ out) (printed_of rs)

all_plain : (runs : List Run) → ((k : ℕ) (r : Run) → slice_get runs k ≡ Some r → Plain r.reply) → ArePlain (replies_of runs)
unfolding replies_of
all_plain [] each = tt
all_plain (r ∷ rs) each = (each 0 r refl, all_plain rs (λ k q at. each (suc k) q at))

many_of : (runs : List Run) → length (replies_of runs) ≡ length (map (λ (r : Run). r.line) runs)
unfolding replies_of
many_of [] = refl
many_of (r ∷ rs) = ap suc (many_of rs)

-- they are those that its replies tell
pub told_is : (loaded : List Batch) (may : ℕ → Bool) (given : List Numbered) (output : List ℕ) (h : History) (runs : List Run) (replies : List (List ℕ)) → IsExplainedBy loaded may given output h runs
    → output ≡ printed replies → length given ≡ length replies → faults_told output ≡ fault_count 0 replies
told_is loaded may given output h runs replies ex prints many =
    let plain : ArePlain (replies_of runs) = all_plain runs (λ k r at. plain_reply h k r.line.bytes r.outcome r.reply (ex.each k r at)) in
    let same : replies_of runs ≡ replies = same_lines (replies_of runs) replies plain (many_of runs ∙ (ap length ex.lines ∙ many)) (sym (printed_of runs) ∙ (sym ex.replies ∙ prints)) in
    let all : ArePlain replies = subst ArePlain same plain in
    ap (λ (out : List ℕ). fault_count 0 (pieces [] out)) prints ∙ (ap (fault_count 0) (cut_all replies all) ∙ (fault_count-append 0 replies ([] ∷ []) ∙ none (0 + length replies) (fault_count 0 replies)))
  where
    none : (k n : ℕ) → n + fault_count k ([] ∷ []) ≡ n
    none k n = omega arith
