-- The code's loops over items, each behind a mark.
use Rattle.std.proofs.Common.{◌≡◌, ◌∙◌, refl, sym, ap, subst, arith, ℕ, zero, suc, ◌-◌, ◌<◌, ◌≤◌, List, [], ◌∷◌, ◌++◌, length, Bool, true, false, ◌==◌, if◌then◌else◌, Result, Ok, Err, append_assoc, eq-eqb, map}
use Rattle.std.proofs.lemmas.List.{append-nil}
use Rattle.gd_grammar.specs.Chain.{◌>>=◌}
use Rattle.gd_grammar.specs.Grammar.{Reads, more_at}
use Rattle.gd_grammar.specs.Choice.{is_next, with_front}
use Rattle.gd_grammar.proofs.Loops.{more_ends, some_more, more_step}
use Rattle.gd_frozen.specs.declared.stop.Stop.{Stop}
use Rattle.gd_frozen.specs.declared.halt.Halt.{Halt}
use Rattle.gd_frozen.specs.declared.halt.Halt.TheVariants as halt
use Rattle.gd_frozen.specs.Finds.{Stopped}
use Rattle.gd_frozen.specs.FrozenAt.{all_at}
use Rattle.gd_frozen.specs.Halts.{Halts}

pub halts_then : {A B : Type 0} (h : Halt) (r : Reads A) (f : A × List ℕ → Reads B) → Halts h r → Halts h (r >>= f)
halts_then (halt.Bad left) (Ok x) f stopped = absurd stopped
halts_then (halt.Bad left) (Err rest) f stopped = stopped
halts_then halt.Memory r f stopped = tt

pub halts_same : {A : Type 0} (h : Halt) (r q : Result A (List ℕ)) → r ≡ q → Halts h r → Halts h q
halts_same h r q is s = subst (Halts h) is s

-- where a reader without memory stops
pub stop_halts : {A : Type 0} (s : Stop) (r : Result A (List ℕ)) → Stopped s r → Halts (halt.Bad s.left) r
stop_halts s (Ok x) stopped = stopped
stop_halts s (Err rest) stopped = stopped

pub halts_stop : {A : Type 0} (s : Stop) (r : Result A (List ℕ)) → Halts (halt.Bad s.left) r → Stopped s r
halts_stop s (Ok x) stopped = stopped
halts_stop s (Err rest) stopped = stopped

-- ---- at most so many

pub more_halts : {A : Type 0} (h : Halt) (mark n m : ℕ) (one : List ℕ → Reads A) (front : List A) (rest cs : List ℕ) (whole : Reads (List A)) → n ≡ suc m → rest ≡ mark ∷ cs → Halts h (one cs) → with_front front (more_at n mark one rest) ≡ whole → Halts h whole
more_halts {A} h mark n m one front rest cs whole n_is rest_is stopped left =
    let step : more_at n mark one rest ≡ (one cs >>= λ x. more_at m mark one x.1 >>= λ xs. Ok (x.0 ∷ xs.0, xs.1)) = ap (λ (k : ℕ). more_at k mark one rest) n_is ∙ ap (more_at (suc m) mark one) rest_is ∙ some_more mark m one cs in
    let inside = halts_then h (one cs) (λ x. more_at m mark one x.1 >>= λ xs. Ok (x.0 ∷ xs.0, xs.1)) stopped in
    halts_same h _ _ (ap (with_front front) (sym step) ∙ left) (halts_then h (one cs >>= λ x. more_at m mark one x.1 >>= λ xs. Ok (x.0 ∷ xs.0, xs.1)) (λ x. Ok (front ++ x.0, x.1)) inside)

pub more_stops : {A : Type 0} (s : Stop) (mark n m : ℕ) (one : List ℕ → Reads A) (front : List A) (rest cs : List ℕ) (whole : Reads (List A)) → n ≡ suc m → rest ≡ mark ∷ cs → Stopped s (one cs) → with_front front (more_at n mark one rest) ≡ whole → Stopped s whole
more_stops s mark n m one front rest cs whole n_is rest_is stopped left = halts_stop s whole (more_halts (halt.Bad s.left) mark n m one front rest cs whole n_is rest_is (stop_halts s (one cs) stopped) left)

-- ---- all that there are

pub all_ends : {A : Type 0} (mark : ℕ) (one : List ℕ → Reads A) (front : List A) (rest : List ℕ) (whole : Reads (List A)) → is_next mark rest ≡ false → with_front front (all_at mark one rest) ≡ whole → whole ≡ Ok (front, rest)
all_ends mark one front rest whole none left = more_ends mark (length rest) one front rest whole none left

pub all_step : {A : Type 0} (mark : ℕ) (one : List ℕ → Reads A) (front more : List A) (x : A) (rest cs after : List ℕ) (whole : Reads (List A)) → ((n m : ℕ) (bytes : List ℕ) → length bytes ≤ n → length bytes ≤ m → more_at n mark one bytes ≡ more_at m mark one bytes)
    → length after ≤ length cs → rest ≡ mark ∷ cs → one cs ≡ Ok (x, after) → more ≡ front ++ x ∷ [] → with_front front (all_at mark one rest) ≡ whole → with_front more (all_at mark one after) ≡ whole
all_step {A} mark one front more x rest cs after whole enough less rest_is found more_is left =
    ap (with_front more) (enough (length after) (length cs) after (omega arith) less) ∙ more_step mark (length rest) (length cs) one front more x rest cs after whole (ap length rest_is) rest_is found more_is left

pub all_halts : {A : Type 0} (h : Halt) (mark : ℕ) (one : List ℕ → Reads A) (front : List A) (rest cs : List ℕ) (whole : Reads (List A)) → rest ≡ mark ∷ cs → Halts h (one cs) → with_front front (all_at mark one rest) ≡ whole → Halts h whole
all_halts h mark one front rest cs whole rest_is stopped left = more_halts h mark (length rest) (length cs) one front rest cs whole (ap length rest_is) rest_is stopped left

-- ---- items as they are meant

pub map_more : {A B : Type 0} (f : A → B) (xs ys : List A) (x : A) → ys ≡ xs ++ x ∷ [] → map f ys ≡ map f xs ++ f x ∷ []
map_more {A} f xs ys x is = ap (map f) is ∙ by xs
  where
    by : (l : List A) → map f (l ++ x ∷ []) ≡ map f l ++ f x ∷ []
    by [] = refl
    by (y ∷ l) = ap (λ (k : List _). f y ∷ k) (by l)
