-- What the code's loops over the parts of a list read.
use Rattle.std.proofs.Common.{◌≡◌, ◌∙◌, refl, sym, ap, subst, ℕ, zero, suc, List, [], ◌∷◌, ◌++◌, Bool, true, false, ◌==◌, if◌then◌else◌, Result, Ok, Err, append_assoc, eqb-true, eq-eqb}
use Rattle.std.proofs.lemmas.List.{append-nil}
use Rattle.gd_grammar.specs.Chain.{◌>>=◌}
use Rattle.gd_grammar.specs.Grammar.{Reads, text_at, more_at}
use Rattle.gd_tplang.specs.declared.stop.Stop.{Stop}
use Rattle.gd_tplang.specs.Stop.{Stopped}
use Rattle.gd_grammar.specs.Choice.{is_byte, begins, seen_at, behind_at, list_at, with_front}
use Rattle.gd_grammar.proofs.Exact.{front_cons}
use Rattle.gd_grammar.proofs.Loops.{more_ends, more_done}
use Rattle.gd_tplang.specs.Steps.{next_at}
use Rattle.gd_tplang.proofs.Texts.{stopped_then}

pub stopped_same : {A : Type 0} (e : Stop) (r q : Result A (List ℕ)) → r ≡ q → Stopped e r → Stopped e q
stopped_same e r q is s = subst (Stopped e) is s

module _ {A : Type 0} (mark : ℕ) (one : List ℕ → Reads A) where
  -- an item, and at most so many more
  abbrev and_more : ℕ → Reads A → Reads (List A)
  and_more n r = r >>= λ x. more_at n mark one x.1 >>= λ xs. Ok (x.0 ∷ xs.0, xs.1)

  abbrev text_by : List ℕ → Bool → Reads (Unit {0})
  text_by cs b = if b then Ok (tt, cs) else Err (mark ∷ cs)

  abbrev one_behind : Reads (Unit {0}) → Reads A
  one_behind r = r >>= λ u. one u.1

  abbrev more_by : ℕ → List ℕ → Bool → Reads (List A)
  more_by n cs b = if b then and_more n (one cs) else Ok ([], mark ∷ cs)

  at_mark : (n : ℕ) (cs : List ℕ) (b : Bool) → b ≡ true → more_by n cs b ≡ and_more n (one_behind (text_by cs b))
  at_mark n cs true e = refl
  at_mark n cs false e = cc

  more_there : (n : ℕ) (bytes : List ℕ) → begins (is_byte mark) bytes ≡ true → more_at (suc n) mark one bytes ≡ and_more n (next_at mark one bytes)
  unfolding next_at
  more_there n [] there = cc
  more_there n (c ∷ cs) there = subst (λ d. more_at (suc n) mark one (d ∷ cs) ≡ and_more n (one_behind (text_at (mark ∷ []) (d ∷ cs)))) (sym (eqb-true c mark there)) (at_mark n cs (mark == mark) (eq-eqb mark mark refl))

  -- no part more
  pub list_end : (n : ℕ) (front : List A) (rest : List ℕ) (whole : Reads (List A)) → begins (is_byte mark) rest ≡ false → with_front front (more_at n mark one rest) ≡ whole → whole ≡ Ok (front, rest)
  list_end n front rest whole none left = more_ends mark n one front rest whole none left

  -- as many as there may be
  pub list_full : (n : ℕ) (front : List A) (rest : List ℕ) (whole : Reads (List A)) → n ≡ 0 → with_front front (more_at n mark one rest) ≡ whole → whole ≡ Ok (front, rest)
  list_full n front rest whole none left = more_done mark n one front rest whole none left

  -- one part more
  pub list_more : (n m : ℕ) (front more : List A) (x : A) (rest behind : List ℕ) (whole : Reads (List A)) → n ≡ suc m → begins (is_byte mark) rest ≡ true → next_at mark one rest ≡ Ok (x, behind) → more ≡ front ++ x ∷ []
      → with_front front (more_at n mark one rest) ≡ whole → with_front more (more_at m mark one behind) ≡ whole
  list_more n m front more x rest behind whole n_is there found more_is left =
      let step : more_at n mark one rest ≡ (more_at m mark one behind >>= λ xs. Ok (x ∷ xs.0, xs.1)) = ap (λ k. more_at k mark one rest) n_is ∙ more_there m rest there ∙ ap (and_more m) found in
      ap (λ l. with_front l (more_at m mark one behind)) more_is ∙ sym (front_cons front x (more_at m mark one behind)) ∙ sym (ap (with_front front) step) ∙ left

  -- a part that is none
  pub list_stop : (e : Stop) (n m : ℕ) (front : List A) (rest : List ℕ) (whole : Reads (List A)) → n ≡ suc m → begins (is_byte mark) rest ≡ true → Stopped e (next_at mark one rest) → with_front front (more_at n mark one rest) ≡ whole → Stopped e whole
  list_stop e n m front rest whole n_is there stopped left =
      let one_more = stopped_same e _ _ (sym (ap (λ k. more_at k mark one rest) n_is ∙ more_there m rest there)) (stopped_then e (next_at mark one rest) (λ x. more_at m mark one x.1 >>= λ xs. Ok (x.0 ∷ xs.0, xs.1)) stopped) in
      stopped_same e _ _ left (stopped_then e (more_at n mark one rest) (λ x. Ok (front ++ x.0, x.1)) one_more)

  -- the first part
  pub list_first : (n : ℕ) (bytes : List ℕ) (x : A) (rest : List ℕ) → one bytes ≡ Ok (x, rest) → with_front (x ∷ []) (more_at n mark one rest) ≡ list_at n mark one bytes
  list_first n bytes x rest found = sym (ap (λ (r : Reads A). r >>= λ y. more_at n mark one y.1 >>= λ xs. Ok (y.0 ∷ xs.0, xs.1)) found)

-- behind a word a reader stops
pub behind_stops : {A B : Type 0} (e : Stop) (word : List ℕ) (f : A → B) (read : List ℕ → Reads A) (bytes rest : List ℕ) → text_at word bytes ≡ Ok (tt, rest) → Stopped e (read rest) → Stopped e (behind_at word f read bytes)
behind_stops e word f read bytes rest found stopped =
    stopped_same e _ _ (sym (ap (λ (r : Reads (Unit {0})). r >>= λ u. seen_at f read u.1) found)) (stopped_then e (read rest) (λ x. Ok (f x.0, x.1)) stopped)
