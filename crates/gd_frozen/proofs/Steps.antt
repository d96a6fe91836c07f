-- What follows for a reader of the code from its first steps.
use Rattle.std.proofs.Common.{◌≡◌, ◌∙◌, ℕ, zero, suc, List, [], ◌∷◌, ◌++◌, true, false, Option, Result, Ok, Err, refl, sym, ap, subst, eqb-true}
use Rattle.std.specs.Prelude.{if◌then◌else◌}
use Rattle.std.proofs.lemmas.List.{append-nil}
use Rattle.std.proofs.Common.{append_assoc}
use Rattle.gd_grammar.specs.Chain.{◌>>=◌}
use Rattle.gd_grammar.specs.Grammar.{Reads, text_at, more_at}
use Rattle.gd_grammar.specs.Choice.{is_next, with_front}
use Rattle.gd_bytes.specs.Cursor.{place_at}
use Rattle.gd_grammar.proofs.Exact.{front_cons}
use Rattle.gd_grammar.proofs.Loops.{more_ends, more_done}
use Rattle.gd_frozen.specs.declared.stop.Stop.{Stop}
use Rattle.gd_frozen.specs.Finds.{Stopped, next_at}

-- where the first step stops, the whole stops
pub stopped_then : {A B : Type 0} (e : Stop) (r : Reads A) (f : A × List ℕ → Reads B) → Stopped e r → Stopped e (r >>= f)
stopped_then e (Ok x) f s = absurd s
stopped_then e (Err rest) f s = s

pub stopped_same : {A : Type 0} (e : Stop) (r q : Result A (List ℕ)) → r ≡ q → Stopped e r → Stopped e q
stopped_same e r q is s = subst (Stopped e) is s

-- where the first step succeeds, the whole is what follows
pub after_ok : {A B : Type 0} (r : Reads A) (x : A × List ℕ) (f : A × List ℕ → Reads B) → r ≡ Ok x → (r >>= f) ≡ f x
after_ok r x f is = ap (λ (q : Reads _). q >>= f) is

-- ---- keys

more_there : (n : ℕ) (bytes : List ℕ) → is_next 58 bytes ≡ true → more_at (suc n) 58 place_at bytes ≡ (next_at bytes >>= λ x. more_at n 58 place_at x.1 >>= λ xs. Ok (x.0 ∷ xs.0, xs.1))
unfolding next_at
more_there n [] there = cc
more_there n (c ∷ cs) there = let P : ℕ → Type 0 = λ d. more_at (suc n) 58 place_at (d ∷ cs) ≡ ((text_at (58 ∷ []) (d ∷ cs) >>= λ u. place_at u.1) >>= λ x. more_at n 58 place_at x.1 >>= λ xs. Ok (x.0 ∷ xs.0, xs.1)) in
    subst P (sym (eqb-true c 58 there)) refl

-- no colon: the places are those that were read
pub places_end : (n : ℕ) (front : List (Option ℕ)) (rest : List ℕ) (whole : Reads (List (Option ℕ))) → is_next 58 rest ≡ false → with_front front (more_at n 58 place_at rest) ≡ whole → whole ≡ Ok (front, rest)
places_end n front rest whole there left = more_ends 58 n place_at front rest whole there left

-- none are wanted
pub places_done : (n : ℕ) (front : List (Option ℕ)) (rest : List ℕ) (whole : Reads (List (Option ℕ))) → n ≡ 0 → with_front front (more_at n 58 place_at rest) ≡ whole → whole ≡ Ok (front, rest)
places_done n front rest whole none left = more_done 58 n place_at front rest whole none left

-- one more
pub places_more : (n m : ℕ) (front more : List (Option ℕ)) (place : Option ℕ) (rest after : List ℕ) (whole : Reads (List (Option ℕ))) → n ≡ suc m → is_next 58 rest ≡ true → next_at rest ≡ Ok (place, after) → more ≡ front ++ place ∷ []
    → with_front front (more_at n 58 place_at rest) ≡ whole → with_front more (more_at m 58 place_at after) ≡ whole
places_more n m front more place rest after whole n_is there found more_is left =
    let step : more_at n 58 place_at rest ≡ (more_at m 58 place_at after >>= λ xs. Ok (place ∷ xs.0, xs.1)) =
    ap (λ k. more_at k 58 place_at rest) n_is ∙ (more_there m rest there ∙ after_ok (next_at rest) (place, after) (λ x. more_at m 58 place_at x.1 >>= λ xs. Ok (x.0 ∷ xs.0, xs.1)) found) in
    ap (λ l. with_front l (more_at m 58 place_at after)) more_is ∙ (sym (front_cons front place (more_at m 58 place_at after)) ∙ (ap (with_front front) (sym step) ∙ left))

-- it is none
pub places_stop : (e : Stop) (n m : ℕ) (front : List (Option ℕ)) (rest : List ℕ) (whole : Reads (List (Option ℕ))) → n ≡ suc m → is_next 58 rest ≡ true → Stopped e (next_at rest) → with_front front (more_at n 58 place_at rest) ≡ whole → Stopped e whole
places_stop e n m front rest whole n_is there stopped left =
    let one : Stopped e (more_at (suc m) 58 place_at rest) = stopped_same e _ _ (sym (more_there m rest there)) (stopped_then e (next_at rest) (λ x. more_at m 58 place_at x.1 >>= λ xs. Ok (x.0 ∷ xs.0, xs.1)) stopped) in
    stopped_same e _ _ (ap (λ k. with_front front (more_at k 58 place_at rest)) (sym n_is) ∙ left) (stopped_then e (more_at (suc m) 58 place_at rest) (λ x. Ok (front ++ x.0, x.1)) one)
