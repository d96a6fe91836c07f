-- What follows for a reader of the code from its first steps.
use Rattle.std.proofs.Common.{◌≡◌, ◌∙◌, ℕ, suc, ◌+◌, ◌-◌, ◌<◌, ◌≤◌, List, [], ◌∷◌, ◌++◌, length, Bool, true, false, ◌==◌, Result, Ok, Err, refl, sym, ap, subst, arith, append_assoc, ◌&&◌, nat_lt}
use Rattle.std.specs.Prelude.{if◌then◌else◌}
use Rattle.gd_grammar.specs.Chain.{◌>>=◌}
use Rattle.gd_grammar.specs.Grammar.{Reads, text_at}
use Rattle.std.specs.Str.{IsUtf8, is_utf8}
use Rattle.std.specs.Str.Lossy.{utf8_valid_len}
use Rattle.std.proofs.lemmas.Str.{is_utf8-from_IsUtf8}
use Rattle.std.proofs.lemmas.Bool.Decides.{nat_tests}
use Rattle.gd_base.specs.Text.{text_of}
use Rattle.gd_base.specs.declared.text.TextFault.{TextFault}
use Rattle.gd_base.specs.declared.text.TextFault.TheVariants.{TooLong, NotUtf8}
use Rattle.gd_utf8.specs.Utf8.{Due, start, after}
use Rattle.gd_grammar.specs.Choice.{is_next, with_front}
use Rattle.gd_dump_laws.specs.Reading.{is_hex, pair_at, end_to, hex_from, hex_to}
use Rattle.gd_dump_laws.proofs.Hex.{text_fits}
use Rattle.gd_grammar.proofs.Exact.{front_cons, front_none}
use Rattle.gd_dump.specs.declared.stop.Stop.{Stop}
use Rattle.gd_dump.specs.declared.stop.Stop.TheVariants.{Bad, Memory}
use Rattle.gd_dump.specs.Stop.{Stopped}

-- where the first step stops, the whole stops
pub stopped_then : {A B : Type 0} (e : Stop) (r : Reads A) (f : A × List ℕ → Reads B) → Stopped e r → Stopped e (r >>= f)
stopped_then (Bad left) (Ok x) f s = absurd s
stopped_then (Bad left) (Err rest) f s = s
stopped_then Memory r f s = tt

pub stopped_same : {A : Type 0} (e : Stop) (r q : Result A (List ℕ)) → r ≡ q → Stopped e r → Stopped e q
stopped_same e r q is s = subst (Stopped e) is s

-- where the first step succeeds, the whole is what follows
pub after_ok : {A B : Type 0} (r : Reads A) (x : A × List ℕ) (f : A × List ℕ → Reads B) → r ≡ Ok x → (r >>= f) ≡ f x
after_ok r x f is = ap (λ (q : Reads _). q >>= f) is

-- where a reader stops, and what is left there
pub stopped_at : {A : Type 0} (e : Stop) (left : ℕ) (r : Result A (List ℕ)) → e ≡ Bad left → Stopped e r → (rest : List ℕ) × (r ≡ Err rest) × (left ≡ length rest)
stopped_at {A} e left r is s = by r (subst (λ (x : Stop). Stopped x r) is s)
  where
    by : (r : Result A (List ℕ)) → Stopped (Bad left) r → (rest : List ℕ) × (r ≡ Err rest) × (left ≡ length rest)
    by (Ok x) s = absurd s
    by (Err rest) s = (rest, refl, s)

-- ---- words

-- a word by its first byte
pub word_first : (c : ℕ) (cs bytes : List ℕ) → text_at (c ∷ cs) bytes ≡ (text_at (c ∷ []) bytes >>= λ u. text_at cs u.1)
word_first c cs [] = refl
word_first c cs (d ∷ ds) = by (c == d)
  where
    behind : Bool → Reads (Unit {0})
    behind b = if b then Ok (tt, ds) else Err (d ∷ ds)

    by : (b : Bool) → (if b then text_at cs ds else Err (d ∷ ds)) ≡ (behind b >>= λ u. text_at cs u.1)
    by true = refl
    by false = refl

-- ---- texts in hexadecimal digits

abbrev goes_by : ℕ → Due → ℕ → List ℕ → Bool → Reads (List ℕ)
goes_by n s mark rest b = if b then end_to mark rest else (pair_at n s rest >>= λ b. hex_from n (after s b.0) mark b.1 >>= λ t. Ok (b.0 ∷ t.0, t.1))

-- with room for more, by the test
text_by : (at : ℕ) (s : Due) (mark : ℕ) (rest : List ℕ) (b : Bool) → at < 4096 → ((s.due == 0) && is_next mark rest) ≡ b → hex_from (4096 - at) s mark rest ≡ goes_by (4095 - at) s mark rest b
text_by at s mark rest b more is =
    let here : 4096 - at ≡ suc (4095 - at) = omega (arith, more) in
    ap (λ (k : ℕ). hex_from k s mark rest) here ∙ ap (goes_by (4095 - at) s mark rest) is

-- the text ends
pub text_ends : (front : List ℕ) (at : ℕ) (s : Due) (mark : ℕ) (rest : List ℕ) (whole : Reads (List ℕ)) → at < 4096 → ((s.due == 0) && is_next mark rest) ≡ true → with_front front (hex_from (4096 - at) s mark rest) ≡ whole → with_front front (end_to mark rest) ≡ whole
text_ends front at s mark rest whole more is left = ap (with_front front) (sym (text_by at s mark rest true more is)) ∙ left

-- there is no room for more
pub text_full : (front : List ℕ) (at : ℕ) (s : Due) (mark : ℕ) (rest : List ℕ) (whole : Reads (List ℕ)) → 4096 ≤ at → with_front front (hex_from (4096 - at) s mark rest) ≡ whole → with_front front (end_to mark rest) ≡ whole
text_full front at s mark rest whole all left = let none : 4096 - at ≡ 0 = omega (arith, all) in ap (λ (k : ℕ). with_front front (hex_from k s mark rest)) (sym none) ∙ left

-- a byte more
pub text_more : (front : List ℕ) (at : ℕ) (s t : Due) (mark b : ℕ) (rest behind : List ℕ) (whole : Reads (List ℕ)) → at < 4096 → ((s.due == 0) && is_next mark rest) ≡ false → pair_at (4095 - at) s rest ≡ Ok (b, behind) → t ≡ after s b
    → with_front front (hex_from (4096 - at) s mark rest) ≡ whole → with_front (front ++ b ∷ []) (hex_from (4096 - (at + 1)) t mark behind) ≡ whole
text_more front at s t mark b rest behind whole more is found t_is left =
    let fewer : 4096 - (at + 1) ≡ 4095 - at = omega arith in
    (λ i. with_front (front ++ b ∷ []) (hex_from (fewer i) (t_is i) mark behind)) ∙ sym (front_cons front b (hex_from (4095 - at) (after s b) mark behind))
    ∙ ap (with_front front) (sym (text_by at s mark rest false more is ∙ after_ok (pair_at (4095 - at) s rest) (b, behind) (λ b. hex_from (4095 - at) (after s b.0) mark b.1 >>= λ t. Ok (b.0 ∷ t.0, t.1)) found)) ∙ left

-- a byte that may not come
pub text_stops : (e : Stop) (front : List ℕ) (at : ℕ) (s : Due) (mark : ℕ) (rest : List ℕ) (whole : Reads (List ℕ)) → at < 4096 → ((s.due == 0) && is_next mark rest) ≡ false → Stopped e (pair_at (4095 - at) s rest)
    → with_front front (hex_from (4096 - at) s mark rest) ≡ whole → Stopped e whole
text_stops e front at s mark rest whole more is stopped left =
    stopped_same e _ _ (ap (with_front front) (sym (text_by at s mark rest false more is)) ∙ left)
    (stopped_then e (goes_by (4095 - at) s mark rest false) (λ x. Ok (front ++ x.0, x.1)) (stopped_then e (pair_at (4095 - at) s rest) (λ b. hex_from (4095 - at) (after s b.0) mark b.1 >>= λ t. Ok (b.0 ∷ t.0, t.1)) stopped))

-- what was read is UTF-8, and short
pub text_is : (mark : ℕ) (bytes t rest : List ℕ) → is_hex mark ≡ false → hex_to mark bytes ≡ Ok (t, rest) → (length t ≤ 4096) × (is_utf8 t ≡ true)
text_is mark bytes t rest apart is = let (short, utf8) = text_fits mark apart bytes t rest is in (short, is_utf8-from_IsUtf8 t utf8)

-- nothing was read
pub text_begun : (front : List ℕ) (s : Due) (mark : ℕ) (bytes : List ℕ) → front ≡ [] → s ≡ start → with_front front (hex_from (4096 - 0) s mark bytes) ≡ hex_to mark bytes
unfolding hex_to
text_begun front s mark bytes none begun = (λ i. with_front (none i) (hex_from 4096 (begun i) mark bytes)) ∙ front_none (hex_from 4096 start mark bytes)
