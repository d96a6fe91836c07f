-- What follows for a reader of the code from its first steps.
use Rattle.std.proofs.Common.{◌≡◌, ℕ, suc, ◌+◌, ◌-◌, ◌*◌, ◌<◌, List, ◌++◌, ◌∷◌, Result, Ok, Err, length, take, drop, refl, arith, subst, sym, ap}
use Rattle.gd_grammar.specs.Chain.{◌>>=◌}
use Rattle.gd_grammar.specs.Grammar.{Reads}
use Rattle.gd_grammar.specs.Reading.{Range, items_at, byte_if, number_goes_on, number_from}
use Rattle.gd_utf8.specs.Utf8.{Due, may_come, after, utf8_from}
use Rattle.gd_grammar.specs.Choice.{with_front}
use Rattle.gd_grammar.specs.Choice.{with_front}
use Rattle.gd_codec.specs.declared.stop.Stop.{Stop}
use Rattle.gd_codec.specs.declared.stop.Stop.TheVariants.{Bad, Memory}
use Rattle.gd_codec.specs.Stop.{Stopped}

-- where the first step stops, the whole stops
pub stopped_then : {A B : Type 0} (e : Stop) (r : Reads A) (f : A × List ℕ → Reads B) → Stopped e r → Stopped e (r >>= f)
stopped_then (Bad left) (Ok x) f s = absurd s
stopped_then (Bad left) (Err rest) f s = s
stopped_then Memory r f s = tt

pub stopped_same : {A : Type 0} (e : Stop) (r q : Result A (List ℕ)) → r ≡ q → Stopped e r → Stopped e q
stopped_same e r q is s = subst (Stopped e) is s

-- where the first step succeeds, the whole is what follows
pub after_ok : {A B : Type 0} (r : Reads A) (x : A × List ℕ) (f : A × List ℕ → Reads B) → r ≡ Ok x → (r >>= f) ≡ f x
after_ok r x f is = ap (λ (q : Reads _). q >>= f) is

-- where an item stops, the items stop
pub items_stop : {A : Type 0} (e : Stop) (one : List ℕ → Reads A) (count place : ℕ) (front : List A) (bytes : List ℕ) → place < count → Stopped e (one bytes) → Stopped e (with_front front (items_at one (count - place) bytes))
items_stop e one count place front bytes more stopped =
    let n = count - 1 - place in
    let here : count - place ≡ suc (count - 1 - place) = omega (arith, more) in
    subst (λ (k : ℕ). Stopped e (with_front front (items_at one k bytes))) (sym here)
    (stopped_then e (items_at one (suc n) bytes) (λ x. Ok (front ++ x.0, x.1)) (stopped_then e (one bytes) (λ x. items_at one n x.1 >>= λ xs. Ok (x.0 ∷ xs.0, xs.1)) stopped))

-- where a reader stops, and what is left there
pub stopped_at : {A : Type 0} (e : Stop) (left : ℕ) (r : Result A (List ℕ)) → e ≡ Bad left → Stopped e r → (rest : List ℕ) × (r ≡ Err rest) × (left ≡ length rest)
stopped_at {A} e left r is s = by r (subst (λ (x : Stop). Stopped x r) is s)
  where
    by : (r : Result A (List ℕ)) → Stopped (Bad left) r → (rest : List ℕ) × (r ≡ Err rest) × (left ≡ length rest)
    by (Ok x) s = absurd s
    by (Err rest) s = (rest, refl, s)

-- where a byte of a number may not come, the number stops
pub number_stops : (e : Stop) (ranges : List Range) (size place n : ℕ) (rest : List ℕ) → place < size → Stopped e (byte_if (number_goes_on ranges (size - 1 - place) n) rest) → Stopped e (number_from ranges (size - place) n rest)
number_stops e ranges size place n rest more s =
    let here : size - place ≡ suc (size - 1 - place) = omega (arith, more) in
    subst (λ (k : ℕ). Stopped e (number_from ranges k n rest)) (sym here)
    (stopped_then e (byte_if (number_goes_on ranges (size - 1 - place) n) rest) (λ x. number_from ranges (size - 1 - place) (256 * n + x.0) x.1) s)

-- where a byte of a text may not come, the text stops
pub utf8_stops : (e : Stop) (bytes : List ℕ) (count at : ℕ) (s : Due) → at < count → Stopped e (byte_if (may_come (count - 1 - at) s) (drop at bytes)) → Stopped e (with_front (take at bytes) (utf8_from (count - at) s (drop at bytes)))
utf8_stops e bytes count at s few stopped =
    let n = count - 1 - at in
    let here : count - at ≡ suc (count - 1 - at) = omega (arith, few) in
    subst (λ (k : ℕ). Stopped e (with_front (take at bytes) (utf8_from k s (drop at bytes)))) (sym here)
    (stopped_then e (utf8_from (suc n) s (drop at bytes)) (λ x. Ok (take at bytes ++ x.0, x.1)) (stopped_then e (byte_if (may_come n s) (drop at bytes)) (λ x. utf8_from n (after s x.0) x.1 >>= λ t. Ok (x.0 ∷ t.0, t.1)) stopped))
