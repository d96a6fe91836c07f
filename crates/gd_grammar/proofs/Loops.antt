-- The code's loops over items, each behind a mark.
use Rattle.std.proofs.Common.{◌≡◌, ◌∙◌, refl, sym, ap, ℕ, zero, suc, List, [], ◌∷◌, ◌++◌, Bool, false, ◌==◌, if◌then◌else◌, Ok, eq-eqb}
use Rattle.std.proofs.lemmas.List.{append-nil}
use Rattle.gd_grammar.specs.Chain.{◌>>=◌}
use Rattle.gd_grammar.specs.Choice.{is_next, with_front}
use Rattle.gd_grammar.specs.Grammar.{Reads, more_at}
use Rattle.gd_grammar.proofs.Exact.{front_cons}
use Rattle.gd_grammar.proofs.Scans.{ok_of}

-- where no mark comes, there are no further ones
pub none_more : {A : Type 0} (mark n : ℕ) (one : List ℕ → Reads A) (rest : List ℕ) → is_next mark rest ≡ false → more_at n mark one rest ≡ Ok ([], rest)
none_more mark zero one rest none = refl
none_more mark (suc n) one [] none = refl
none_more {A} mark (suc n) one (c ∷ cs) none = ap (λ (b : Bool). if b then (one cs >>= λ x. more_at n mark one x.1 >>= λ xs. Ok (x.0 ∷ xs.0, xs.1)) else ok_of {X = List A × List ℕ} {Y = List ℕ} ([], c ∷ cs)) none

-- where no mark comes, all are read
pub more_ends : {A : Type 0} (mark n : ℕ) (one : List ℕ → Reads A) (front : List A) (rest : List ℕ) (whole : Reads (List A)) → is_next mark rest ≡ false → with_front front (more_at n mark one rest) ≡ whole → whole ≡ Ok (front, rest)
more_ends {A} mark n one front rest whole none left = sym left ∙ ap (with_front front) (none_more mark n one rest none) ∙ ap (λ (l : List A). ok_of (l, rest)) (append-nil front)

-- where none are wanted, all are read
pub more_done : {A : Type 0} (mark n : ℕ) (one : List ℕ → Reads A) (front : List A) (rest : List ℕ) (whole : Reads (List A)) → n ≡ 0 → with_front front (more_at n mark one rest) ≡ whole → whole ≡ Ok (front, rest)
more_done {A} mark n one front rest whole none left = sym left ∙ ap (λ (k : ℕ). with_front front (more_at k mark one rest)) none ∙ ap (λ (l : List A). ok_of (l, rest)) (append-nil front)

-- behind a mark comes one
pub some_more : {A : Type 0} (mark n : ℕ) (one : List ℕ → Reads A) (cs : List ℕ) → more_at (suc n) mark one (mark ∷ cs) ≡ (one cs >>= λ x. more_at n mark one x.1 >>= λ xs. Ok (x.0 ∷ xs.0, xs.1))
some_more {A} mark n one cs = ap (λ (b : Bool). if b then (one cs >>= λ x. more_at n mark one x.1 >>= λ xs. Ok (x.0 ∷ xs.0, xs.1)) else ok_of {X = List A × List ℕ} {Y = List ℕ} ([], mark ∷ cs)) (eq-eqb mark mark refl)

-- one more is read
pub more_step : {A : Type 0} (mark n m : ℕ) (one : List ℕ → Reads A) (front more : List A) (x : A) (rest cs after : List ℕ) (whole : Reads (List A)) → n ≡ suc m → rest ≡ mark ∷ cs → one cs ≡ Ok (x, after) → more ≡ front ++ x ∷ []
    → with_front front (more_at n mark one rest) ≡ whole → with_front more (more_at m mark one after) ≡ whole
more_step {A} mark n m one front more x rest cs after whole n_is rest_is found more_is left =
    let step : more_at n mark one rest ≡ (more_at m mark one after >>= λ xs. Ok (x ∷ xs.0, xs.1)) =
    ap (λ (k : ℕ). more_at k mark one rest) n_is ∙ ap (more_at (suc m) mark one) rest_is ∙ some_more mark m one cs ∙ ap (λ (r : Reads A). r >>= λ y. more_at m mark one y.1 >>= λ xs. Ok (y.0 ∷ xs.0, xs.1)) found in
    ap (λ (l : List A). with_front l (more_at m mark one after)) more_is ∙ sym (front_cons front x (more_at m mark one after)) ∙ ap (with_front front) (sym step) ∙ left
