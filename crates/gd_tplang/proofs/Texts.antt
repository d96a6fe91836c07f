-- What the code's loop over the bytes of a text reads.
use Rattle.std.proofs.Common.{◌≡◌, ◌∙◌, refl, sym, ap, subst, ℕ, zero, suc, ◌+◌, ◌-◌, ◌≤◌, ◌<◌, List, [], ◌∷◌, ◌++◌, Bool, true, false, ◌&&◌, ◌==◌, nat_lt, if◌then◌else◌, Result, Ok, Err, length, arith, append_assoc}
use Rattle.std.specs.Str.{IsUtf8, is_utf8}
use Rattle.std.specs.Str.Lossy.{utf8_valid_len}
use Rattle.std.proofs.lemmas.Str.{is_utf8-from_IsUtf8}
use Rattle.std.proofs.lemmas.Bool.Decides.{nat_tests}
use Rattle.gd_base.specs.Text.{text_of}
use Rattle.gd_base.specs.declared.text.TextFault.{TextFault}
use Rattle.gd_base.specs.declared.text.TextFault.TheVariants.{TooLong, NotUtf8}
use Rattle.gd_grammar.specs.Chain.{◌>>=◌}
use Rattle.gd_grammar.specs.Grammar.{Reads}
use Rattle.gd_utf8.specs.Utf8.{Due, start, after}
use Rattle.gd_grammar.proofs.Exact.{front_cons, front_none}
use Rattle.gd_tplang.specs.declared.stop.Stop.{Stop}
use Rattle.gd_tplang.specs.declared.stop.Stop.TheVariants.{Bad, Memory}
use Rattle.gd_tplang.specs.Stop.{Stopped}
use Rattle.gd_grammar.specs.Choice.{is_byte, begins, seen_at, with_front}
use Rattle.gd_tplang.specs.Written.{char_at, quote_at, and_tail_at, tail_at}
use Rattle.gd_tplang.proofs.Strings.{tail_fits}

-- where the first step stops, the whole stops
pub stopped_then : {A B : Type 0} (e : Stop) (r : Result A (List ℕ)) (f : A → Result B (List ℕ)) → Stopped e r → Stopped e (r >>= f)
stopped_then (Bad left) (Ok x) f s = absurd s
stopped_then (Bad left) (Err rest) f s = s
stopped_then Memory r f s = tt

-- the text ends here
abbrev pub ends_here : Due → List ℕ → Bool
ends_here s rest = s.due == 0 && begins (is_byte 34) rest

abbrev tail_by : ℕ → Due → List ℕ → Bool → Bool → Reads (List ℕ)
tail_by n s rest a b = if a then (if b then quote_at rest else and_tail_at (char_at n s) (λ c. tail_at n (after s c)) rest) else and_tail_at (char_at n s) (λ c. tail_at n (after s c)) rest

pub text_ends : (n : ℕ) (s : Due) (rest : List ℕ) → ends_here s rest ≡ true → tail_at n s rest ≡ quote_at rest
unfolding tail_at
text_ends zero s rest is = refl
text_ends (suc n) s rest is = by (s.due == 0) (begins (is_byte 34) rest) is
  where
    by : (a b : Bool) → (a && b) ≡ true → tail_by n s rest a b ≡ quote_at rest
    by true true e = refl
    by true false e = cc
    by false b e = cc

text_goes : (n : ℕ) (s : Due) (rest : List ℕ) → ends_here s rest ≡ false → tail_at (suc n) s rest ≡ and_tail_at (char_at n s) (λ c. tail_at n (after s c)) rest
unfolding tail_at
text_goes n s rest is = by (s.due == 0) (begins (is_byte 34) rest) is
  where
    by : (a b : Bool) → (a && b) ≡ false → tail_by n s rest a b ≡ and_tail_at (char_at n s) (λ c. tail_at n (after s c)) rest
    by true true e = cc
    by true false e = refl
    by false b e = refl

-- no byte is read yet
pub text_begun : (front : List ℕ) (s : Due) (bytes : List ℕ) → front ≡ [] → s ≡ start → with_front front (tail_at (4096 - 0) s bytes) ≡ tail_at 4096 start bytes
text_begun front s bytes none begun = (λ i. with_front (none i) (tail_at 4096 (begun i) bytes)) ∙ front_none (tail_at 4096 start bytes)

-- one byte more
pub text_more : (at : ℕ) (s t : Due) (front more rest : List ℕ) (b : ℕ) (behind : List ℕ) (whole : Reads (List ℕ)) → at < 4096 → ends_here s rest ≡ false → char_at (4096 - 1 - at) s rest ≡ Ok (b, behind) → t ≡ after s b → more ≡ front ++ b ∷ []
    → with_front front (tail_at (4096 - at) s rest) ≡ whole → with_front more (tail_at (4096 - (at + 1)) t behind) ≡ whole
text_more at s t front more rest b behind whole few goes is t_is more_is left =
    let n = 4096 - 1 - at in
    let here : 4096 - at ≡ suc (4096 - 1 - at) = omega (arith, few) in
    let fewer : 4096 - (at + 1) ≡ 4096 - 1 - at = omega arith in
    let step : tail_at (4096 - at) s rest ≡ (tail_at n (after s b) behind >>= λ x. Ok (b ∷ x.0, x.1)) = ap (λ k. tail_at k s rest) here ∙ text_goes n s rest goes ∙ ap (λ (r : Reads ℕ). r >>= λ c. seen_at (λ x. c.0 ∷ x) (tail_at n (after s c.0)) c.1) is in
    ap (λ k. with_front more (tail_at k t behind)) fewer ∙ ap (λ u. with_front more (tail_at n u behind)) t_is ∙ ap (λ l. with_front l (tail_at n (after s b) behind)) more_is ∙ sym (front_cons front b (tail_at n (after s b) behind)) ∙ sym (ap (with_front front) step) ∙ left

-- no byte more
pub text_stops : (e : Stop) (at : ℕ) (s : Due) (front rest : List ℕ) (whole : Reads (List ℕ)) → at < 4096 → ends_here s rest ≡ false → Stopped e (char_at (4096 - 1 - at) s rest) → with_front front (tail_at (4096 - at) s rest) ≡ whole → Stopped e whole
text_stops e at s front rest whole few goes stopped left =
    let n = 4096 - 1 - at in
    let here : 4096 - at ≡ suc (4096 - 1 - at) = omega (arith, few) in
    let step : tail_at (4096 - at) s rest ≡ and_tail_at (char_at n s) (λ c. tail_at n (after s c)) rest = ap (λ k. tail_at k s rest) here ∙ text_goes n s rest goes in
    subst (Stopped e) (sym (ap (with_front front) step) ∙ left) (stopped_then e (and_tail_at (char_at n s) (λ c. tail_at n (after s c)) rest) (λ x. Ok (front ++ x.0, x.1)) (stopped_then e (char_at n s rest) (λ c. seen_at (λ x. c.0 ∷ x) (tail_at n (after s c.0)) c.1) stopped))

-- the quote behind what was read
pub text_quoted : (at : ℕ) (s : Due) (front rest : List ℕ) (whole : Reads (List ℕ)) → tail_at (4096 - at) s rest ≡ quote_at rest → with_front front (tail_at (4096 - at) s rest) ≡ whole → with_front front (quote_at rest) ≡ whole
text_quoted at s front rest whole is left = ap (with_front front) (sym is) ∙ left

pub text_full : (at : ℕ) (s : Due) (rest : List ℕ) → 4096 ≤ at → tail_at (4096 - at) s rest ≡ quote_at rest
unfolding tail_at
text_full at s rest full = let none : 4096 - at ≡ 0 = omega (arith, full) in ap (λ k. tail_at k s rest) none

-- what is read is UTF-8, and short
pub text_is : (bytes t rest : List ℕ) → tail_at 4096 start bytes ≡ Ok (t, rest) → (length t ≤ 4096) × (is_utf8 t ≡ true)
text_is bytes t rest is = let (utf8, few, each) = tail_fits bytes t rest is in (few, is_utf8-from_IsUtf8 t utf8)
