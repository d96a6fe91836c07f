-- The runs of bytes are the UTF-8 texts.
use Rattle.std.proofs.Common.{◌≡◌, ◌⊎◌, inl, inr, ⊎_elim, ℕ, zero, suc, ◌+◌, ◌-◌, ◌*◌, ◌/◌, ◌<◌, ◌≤◌, Bool, true, false, List, [], ◌∷◌, ◌++◌, length, refl, sym, ◌∙◌, ap, subst, arith}
use Rattle.std.specs.Prelude.{◌&&◌}
use Rattle.std.specs.Str.{IsUtf8}
use Rattle.std.proofs.lemmas.Bool.{cases_lt, cases_eq}
use Rattle.std.proofs.lemmas.List.{append-nil}
use Rattle.std.proofs.lemmas.Bool.Decides.{nat_tests}
use Rattle.std.proofs.lemmas.Str.{IsUtf8-append}
use lib.Utf8.{scalar, scalars, encode, encodes, next, scalar_cases}
use Rattle.gd_utf8.specs.Utf8.{Due, start, may_come, after, follow, least_after, most_after}

-- these bytes come one after another, so many, from what is due at first to between two characters
abbrev pub IsRun : ℕ → Due → List ℕ → Type 0
IsRun zero s w = w ≡ []
IsRun (suc n) s w = (b : ℕ) × (u : List ℕ) × (may_come n s b ≡ true) × IsRun n (after s b) u × (w ≡ b ∷ u)

abbrev state : ℕ → ℕ → ℕ → Due
state due least most = record { due = due; least = least; most = most }

-- one byte more in front
step : (n : ℕ) (s t : Due) (b : ℕ) (u : List ℕ) → may_come n s b ≡ true → after s b ≡ t → IsRun n t u → IsRun (suc n) s (b ∷ u)
step n s t b u comes is run = (b, u, comes, subst (λ (x : Due). IsRun n x u) (sym is) run, refl)

follow_one : (b : ℕ) → 194 ≤ b → b ≤ 223 → follow b ≡ 1
follow_one b p q = grind (arith, nat_tests)

follow_two : (b : ℕ) → 224 ≤ b → b ≤ 239 → follow b ≡ 2
follow_two b p q = grind (arith, nat_tests)

follow_three : (b : ℕ) → 240 ≤ b → b ≤ 244 → follow b ≡ 3
follow_three b p q = grind (arith, nat_tests)

lead : (n b k : ℕ) → follow b ≡ k → k ≤ n → k < 4 → may_come n start b ≡ true
unfolding may_come
lead n b k is le lt = grind (arith, nat_tests)

after_lead : (b : ℕ) → after start b ≡ state (follow b) (least_after b) (most_after b)
unfolding after
after_lead b = refl

cont : (n k lo hi b : ℕ) → lo ≤ b → b ≤ hi → may_come n (state (suc k) lo hi) b ≡ true
unfolding may_come
cont n k lo hi b p q = grind (arith, nat_tests)

after_cont : (k lo hi b : ℕ) → after (state (suc k) lo hi) b ≡ state k 128 191
unfolding after
after_cont k lo hi b = grind (arith, nat_tests)

need : (b n : ℕ) → may_come n start b ≡ true → (follow b ≤ n) × (follow b < 4)
unfolding may_come
need b n comes = (grind (arith, nat_tests), grind (arith, nat_tests))

follow_none : (b : ℕ) → 128 ≤ b → b < 194 → follow b ≡ 4
follow_none b p q = grind (arith, nat_tests)

follow_high : (b : ℕ) → 244 < b → follow b ≡ 4
follow_high b p = grind (arith, nat_tests)

abbrev One : ℕ → Type 0
One b = b < 128

abbrev Two : ℕ → ℕ → Type 0
Two b n = (194 ≤ b) × (b ≤ 223) × (1 ≤ n)

abbrev Three : ℕ → ℕ → Type 0
Three b n = (224 ≤ b) × (b ≤ 239) × (2 ≤ n)

abbrev Four : ℕ → ℕ → Type 0
Four b n = (240 ≤ b) × (b ≤ 244) × (3 ≤ n)

first_cases : (b n : ℕ) → may_come n start b ≡ true → (One b ⊎ Two b n) ⊎ (Three b n ⊎ Four b n)
first_cases b n comes =
    let f = need b n comes in
    elim (cases_lt b 128) [
      | inl one ↦ inl (inl one)
      | inr a ↦ elim (cases_lt b 194) [
        | inl low ↦ absurd (omega (arith, f.1, follow_none b a low))
        | inr c ↦ elim (cases_lt b 224) [
          | inl two ↦ inl (inr (c, omega arith, omega (arith, f.0, follow_one b c (omega arith))))
          | inr d ↦ elim (cases_lt b 240) [
            | inl three ↦ inr (inl (d, omega arith, omega (arith, f.0, follow_two b d (omega arith))))
            | inr e ↦ elim (cases_lt 244 b) [
              | inl high ↦ absurd (omega (arith, f.1, follow_high b high))
              | inr four ↦ inr (inr (e, four, omega (arith, f.0, follow_three b e four)))
            ]
          ]
        ]
      ]
    ]

next_needs : (n k lo hi b : ℕ) → may_come n (state (suc k) lo hi) b ≡ true → (lo ≤ b) × (b ≤ hi)
unfolding may_come
next_needs n k lo hi b comes = (grind (arith, nat_tests), grind (arith, nat_tests))

enc_one : (c : ℕ) → c < 128 → encode c ≡ c ∷ []
unfolding encode
enc_one c p = grind (arith, nat_tests)

enc_two : (c : ℕ) → 128 ≤ c → c < 2048 → encode c ≡ (192 + c / 64) ∷ next c ∷ []
unfolding encode
enc_two c p q = grind (arith, nat_tests)

enc_three : (c : ℕ) → 2048 ≤ c → c < 65536 → encode c ≡ (224 + c / 4096) ∷ next (c / 64) ∷ next c ∷ []
unfolding encode
enc_three c p q = grind (arith, nat_tests)

enc_four : (c : ℕ) → 65536 ≤ c → encode c ≡ (240 + c / 262144) ∷ next (c / 4096) ∷ next (c / 64) ∷ next c ∷ []
unfolding encode
enc_four c p = grind (arith, nat_tests)

-- one character in front
run_one : (c n : ℕ) (u : List ℕ) → c < 128 → IsRun n start u → IsRun (suc n) start (c ∷ u)
run_one c n u p run = step n start start c u (lead n c 0 (zero_follow c p) (omega arith) (omega arith)) (after_lead c ∙ same) run
  where
    zero_follow : (b : ℕ) → b < 128 → follow b ≡ 0
    zero_follow b q = grind (arith, nat_tests)

    same : state (follow c) (least_after c) (most_after c) ≡ start
    same = grind (arith, nat_tests)

lead_two : (b : ℕ) → 194 ≤ b → b ≤ 223 → after start b ≡ state 1 128 191
lead_two b p q = after_lead b ∙ same
  where
    same : state (follow b) (least_after b) (most_after b) ≡ state 1 128 191
    same = grind (arith, nat_tests)

lead_three : (b : ℕ) → 224 ≤ b → b ≤ 239 → after start b ≡ state 2 (least_after b) (most_after b)
lead_three b p q = after_lead b ∙ ap (λ (k : ℕ). state k (least_after b) (most_after b)) (follow_two b p q)

lead_four : (b : ℕ) → 240 ≤ b → b ≤ 244 → after start b ≡ state 3 (least_after b) (most_after b)
lead_four b p q = after_lead b ∙ ap (λ (k : ℕ). state k (least_after b) (most_after b)) (follow_three b p q)

least_ok : (b x : ℕ) → 128 ≤ x → (b ≡ 224 → 160 ≤ x) → (b ≡ 240 → 144 ≤ x) → least_after b ≤ x
least_ok b x p q r = grind (arith, nat_tests)

most_ok : (b x : ℕ) → x ≤ 191 → (b ≡ 237 → x ≤ 159) → (b ≡ 244 → x ≤ 143) → x ≤ most_after b
most_ok b x p q r = grind (arith, nat_tests)

run_two : (c n : ℕ) (u : List ℕ) → 128 ≤ c → c < 2048 → IsRun n start u → IsRun (suc (suc n)) start ((192 + c / 64) ∷ next c ∷ u)
run_two c n u p q run =
    let b = 192 + c / 64 in
    step (suc n) start (state 1 128 191) b (next c ∷ u) (lead (suc n) b 1 (follow_one b (omega arith) (omega arith)) (omega arith) (omega arith)) (lead_two b (omega arith) (omega arith))
    (step n (state 1 128 191) start (next c) u (cont n 0 128 191 (next c) (omega arith) (omega arith)) (after_cont 0 128 191 (next c)) run)

run_three : (c n : ℕ) (u : List ℕ) → 2048 ≤ c → c < 65536 → (c < 55296) ⊎ (57344 ≤ c) → IsRun n start u → IsRun (suc (suc (suc n))) start ((224 + c / 4096) ∷ next (c / 64) ∷ next c ∷ u)
run_three c n u p q out run =
    let b = 224 + c / 4096 in
    let x = next (c / 64) in
    let low : least_after b ≤ x = least_ok b x (omega arith) (λ e. omega arith) (λ e. omega arith) in
    let high : x ≤ most_after b = most_ok b x (omega arith) (λ e. ⊎_elim (λ below. omega (arith, e, below, p, q)) (λ above. omega (arith, e, above, p, q)) out) (λ e. omega arith) in
    step (suc (suc n)) start (state 2 (least_after b) (most_after b)) b (x ∷ next c ∷ u) (lead (suc (suc n)) b 2 (follow_two b (omega arith) (omega arith)) (omega arith) (omega arith)) (lead_three b (omega arith) (omega arith))
    (step (suc n) (state 2 (least_after b) (most_after b)) (state 1 128 191) x (next c ∷ u) (cont (suc n) 1 (least_after b) (most_after b) x low high) (after_cont 1 (least_after b) (most_after b) x)
    (step n (state 1 128 191) start (next c) u (cont n 0 128 191 (next c) (omega arith) (omega arith)) (after_cont 0 128 191 (next c)) run))

run_four : (c n : ℕ) (u : List ℕ) → 65536 ≤ c → c < 1114112 → IsRun n start u → IsRun (suc (suc (suc (suc n)))) start ((240 + c / 262144) ∷ next (c / 4096) ∷ next (c / 64) ∷ next c ∷ u)
run_four c n u p q run =
    let b = 240 + c / 262144 in
    let x = next (c / 4096) in
    let low : least_after b ≤ x = least_ok b x (omega arith) (λ e. omega arith) (λ e. omega arith) in
    let high : x ≤ most_after b = most_ok b x (omega arith) (λ e. omega arith) (λ e. omega arith) in
    step (suc (suc (suc n))) start (state 3 (least_after b) (most_after b)) b (x ∷ next (c / 64) ∷ next c ∷ u) (lead (suc (suc (suc n))) b 3 (follow_three b (omega arith) (omega arith)) (omega arith) (omega arith)) (lead_four b (omega arith) (omega arith))
    (step (suc (suc n)) (state 3 (least_after b) (most_after b)) (state 2 128 191) x (next (c / 64) ∷ next c ∷ u) (cont (suc (suc n)) 2 (least_after b) (most_after b) x low high) (after_cont 2 (least_after b) (most_after b) x)
    (step (suc n) (state 2 128 191) (state 1 128 191) (next (c / 64)) (next c ∷ u) (cont (suc n) 1 128 191 (next (c / 64)) (omega arith) (omega arith)) (after_cont 1 128 191 (next (c / 64)))
    (step n (state 1 128 191) start (next c) u (cont n 0 128 191 (next c) (omega arith) (omega arith)) (after_cont 0 128 191 (next c)) run)))

-- any character in front
run_char : (c : ℕ) (u : List ℕ) → scalar c ≡ true → IsRun (length u) start u → IsRun (length (encode c ++ u)) start (encode c ++ u)
run_char c u is run =
    let fits = scalar_cases c is in
    elim (cases_lt c 128) [
      | inl one ↦ subst (λ (l : List ℕ). IsRun (length (l ++ u)) start (l ++ u)) (sym (enc_one c one)) (run_one c (length u) u one run)
      | inr a ↦ elim (cases_lt c 2048) [
        | inl two ↦ subst (λ (l : List ℕ). IsRun (length (l ++ u)) start (l ++ u)) (sym (enc_two c a two)) (run_two c (length u) u a two run)
        | inr d ↦ elim (cases_lt c 65536) [
          | inl three ↦ subst (λ (l : List ℕ). IsRun (length (l ++ u)) start (l ++ u)) (sym (enc_three c d three)) (run_three c (length u) u d three (⊎_elim (λ below. inl below) (λ above. inr above.0) fits) run)
          | inr four ↦ subst (λ (l : List ℕ). IsRun (length (l ++ u)) start (l ++ u)) (sym (enc_four c four)) (run_four c (length u) u four (⊎_elim (λ below. omega arith) (λ above. above.1) fits) run)
        ]
      ]
    ]

and_parts : (x y : Bool) → (x && y) ≡ true → (x ≡ true) × (y ≡ true)
and_parts true y is = (refl, is)
and_parts false y is = cc

runs : (cs : List ℕ) → scalars cs ≡ true → IsRun (length (encodes cs)) start (encodes cs)
runs [] is = refl
runs (c ∷ cs) is = let both = and_parts (scalar c) (scalars cs) is in run_char c (encodes cs) both.0 (runs cs both.1)

-- UTF-8 is a run
pub run_of_utf8 : (w : List ℕ) → IsUtf8 w → IsRun (length w) start w
run_of_utf8 w (cs, (all, is)) = subst (λ (l : List ℕ). IsRun (length l) start l) is (runs cs all)

char_utf8 : (c : ℕ) (bs u : List ℕ) → scalar c ≡ true → encode c ≡ bs → IsUtf8 u → IsUtf8 (bs ++ u)
char_utf8 c bs u fits is rest = IsUtf8-append bs u (c ∷ [], (ap (λ (t : Bool). t && true) fits, append-nil (encode c) ∙ is)) rest

scalar_below : (c : ℕ) → c < 55296 → scalar c ≡ true
scalar_below c p = grind (arith, nat_tests)

scalar_above : (c : ℕ) → 57344 ≤ c → c < 1114112 → scalar c ≡ true
scalar_above c p q = grind (arith, nat_tests)

char_two : (b x : ℕ) → 194 ≤ b → b ≤ 223 → 128 ≤ x → x ≤ 191 → let c = (b - 192) * 64 + (x - 128) in (scalar c ≡ true) × (encode c ≡ b ∷ x ∷ [])
char_two b x p q r s =
    let c = (b - 192) * 64 + (x - 128) in
    let one : 192 + c / 64 ≡ b = omega arith in
    let two : next c ≡ x = omega arith in
    (scalar_below c (omega arith), enc_two c (omega arith) (omega arith) ∙ (λ i. one i ∷ two i ∷ []))

least_is : (b x : ℕ) → least_after b ≤ x → (128 ≤ x) × ((b ≡ 224 → 160 ≤ x) × (b ≡ 240 → 144 ≤ x))
least_is b x p = (grind (arith, nat_tests), (λ e. grind (arith, nat_tests), λ e. grind (arith, nat_tests)))

most_is : (b x : ℕ) → x ≤ most_after b → (x ≤ 191) × ((b ≡ 237 → x ≤ 159) × (b ≡ 244 → x ≤ 143))
most_is b x p = (grind (arith, nat_tests), (λ e. grind (arith, nat_tests), λ e. grind (arith, nat_tests)))

char_three : (b x y : ℕ) → 224 ≤ b → b ≤ 239 → least_after b ≤ x → x ≤ most_after b → 128 ≤ y → y ≤ 191 → let c = (b - 224) * 4096 + (x - 128) * 64 + (y - 128) in (scalar c ≡ true) × (encode c ≡ b ∷ x ∷ y ∷ [])
char_three b x y p q r s t v =
    let c = (b - 224) * 4096 + (x - 128) * 64 + (y - 128) in
    let l = least_is b x r in
    let m = most_is b x s in
    let one : 224 + c / 4096 ≡ b = omega (arith, l.0, m.0) in
    let two : next (c / 64) ≡ x = omega (arith, l.0, m.0) in
    let three : next c ≡ y = omega (arith, l.0, m.0) in
    let big : 2048 ≤ c = elim (cases_eq b 224) [ inl e ↦ omega (arith, l.1.0 e, m.0) | inr ne ↦ omega (arith, l.0, m.0, ne) ] in
    let small : c < 65536 = omega (arith, l.0, m.0) in
    let fits : scalar c ≡ true = elim (cases_lt c 55296) [ inl below ↦ scalar_below c below | inr above ↦ scalar_above c (elim (cases_eq b 237) [ inl e ↦ absurd (omega (arith, above, m.1.0 e, l.0)) | inr ne ↦ omega (arith, above, l.0, m.0, ne) ]) (omega (arith, small)) ] in
    (fits, enc_three c big small ∙ (λ i. one i ∷ two i ∷ three i ∷ []))

char_four : (b x y z : ℕ) → 240 ≤ b → b ≤ 244 → least_after b ≤ x → x ≤ most_after b → 128 ≤ y → y ≤ 191 → 128 ≤ z → z ≤ 191 → let c = (b - 240) * 262144 + (x - 128) * 4096 + (y - 128) * 64 + (z - 128) in (scalar c ≡ true) × (encode c ≡ b ∷ x ∷ y ∷ z ∷ [])
char_four b x y z p q r s t v h k =
    let c = (b - 240) * 262144 + (x - 128) * 4096 + (y - 128) * 64 + (z - 128) in
    let l = least_is b x r in
    let m = most_is b x s in
    let one : 240 + c / 262144 ≡ b = omega (arith, l.0, m.0) in
    let two : next (c / 4096) ≡ x = omega (arith, l.0, m.0) in
    let three : next (c / 64) ≡ y = omega (arith, l.0, m.0) in
    let four : next c ≡ z = omega (arith, l.0, m.0) in
    let big : 65536 ≤ c = elim (cases_eq b 240) [ inl e ↦ omega (arith, l.1.1 e, m.0) | inr ne ↦ omega (arith, l.0, m.0, ne) ] in
    let small : c < 1114112 = elim (cases_eq b 244) [ inl e ↦ omega (arith, m.1.1 e, l.0) | inr ne ↦ omega (arith, l.0, m.0, ne) ] in
    (scalar_above c (omega (arith, big)) small, enc_four c big ∙ (λ i. one i ∷ two i ∷ three i ∷ four i ∷ []))

-- the next byte of a run
more : (n : ℕ) (s : Due) (w : List ℕ) → 1 ≤ n → IsRun n s w → (m : ℕ) × (n ≡ suc m) × (b : ℕ) × (u : List ℕ) × (may_come m s b ≡ true) × IsRun m (after s b) u × (w ≡ b ∷ u)
more zero s w some run = absurd (omega arith)
more (suc m) s w some (b, u, comes, run, is) = (m, refl, b, u, comes, run, is)

follow_ascii : (b : ℕ) → b < 128 → state (follow b) (least_after b) (most_after b) ≡ start
follow_ascii b p = grind (arith, nat_tests)

move : (n : ℕ) (s t : Due) (u : List ℕ) → s ≡ t → IsRun n s u → IsRun n t u
move n s t u is run = subst (λ (x : Due). IsRun n x u) is run

from_run : (fuel n : ℕ) (w : List ℕ) → n ≤ fuel → IsRun n start w → IsUtf8 w
from_run fuel zero w le run = subst IsUtf8 (sym run) ([], (refl, refl))
from_run zero (suc n) w le run = absurd (omega arith)
from_run (suc fuel) (suc n) w le (b, u, comes, run, is) = subst IsUtf8 (sym is) (elim (first_cases b n comes) [
  | inl (inl one) ↦ char_utf8 b (b ∷ []) u (scalar_below b (omega (arith, one))) (enc_one b one) (from_run fuel n u (omega arith) (move n (after start b) start u (after_lead b ∙ follow_ascii b one) run))
  | inl (inr two) ↦
      let x = more n (state 1 128 191) u two.2 (move n (after start b) (state 1 128 191) u (lead_two b two.0 two.1) run) in
      let xs = next_needs x.0 0 128 191 x.2 x.4 in
      let c = char_two b x.2 two.0 two.1 xs.0 xs.1 in
      subst (λ (l : List ℕ). IsUtf8 (b ∷ l)) (sym x.6) (char_utf8 _ (b ∷ x.2 ∷ []) x.3 c.0 c.1 (from_run fuel x.0 x.3 (omega (arith, x.1)) (move x.0 _ start x.3 (after_cont 0 128 191 x.2) x.5)))
  | inr (inl three) ↦
      let x = more n (state 2 (least_after b) (most_after b)) u (omega (arith, three.2)) (move n (after start b) _ u (lead_three b three.0 three.1) run) in
      let xs = next_needs x.0 1 (least_after b) (most_after b) x.2 x.4 in
      let y = more x.0 (state 1 128 191) x.3 (omega (arith, x.1, three.2)) (move x.0 _ (state 1 128 191) x.3 (after_cont 1 (least_after b) (most_after b) x.2) x.5) in
      let ys = next_needs y.0 0 128 191 y.2 y.4 in
      let c = char_three b x.2 y.2 three.0 three.1 xs.0 xs.1 ys.0 ys.1 in
      subst (λ (l : List ℕ). IsUtf8 (b ∷ l)) (sym (x.6 ∙ ap (λ (l : List ℕ). x.2 ∷ l) y.6)) (char_utf8 _ (b ∷ x.2 ∷ y.2 ∷ []) y.3 c.0 c.1 (from_run fuel y.0 y.3 (omega (arith, x.1, y.1)) (move y.0 _ start y.3 (after_cont 0 128 191 y.2) y.5)))
  | inr (inr four) ↦
      let x = more n (state 3 (least_after b) (most_after b)) u (omega (arith, four.2)) (move n (after start b) _ u (lead_four b four.0 four.1) run) in
      let xs = next_needs x.0 2 (least_after b) (most_after b) x.2 x.4 in
      let y = more x.0 (state 2 128 191) x.3 (omega (arith, x.1, four.2)) (move x.0 _ (state 2 128 191) x.3 (after_cont 2 (least_after b) (most_after b) x.2) x.5) in
      let ys = next_needs y.0 1 128 191 y.2 y.4 in
      let z = more y.0 (state 1 128 191) y.3 (omega (arith, x.1, y.1, four.2)) (move y.0 _ (state 1 128 191) y.3 (after_cont 1 128 191 y.2) y.5) in
      let zs = next_needs z.0 0 128 191 z.2 z.4 in
      let c = char_four b x.2 y.2 z.2 four.0 four.1 xs.0 xs.1 ys.0 ys.1 zs.0 zs.1 in
      subst (λ (l : List ℕ). IsUtf8 (b ∷ l)) (sym (x.6 ∙ ap (λ (l : List ℕ). x.2 ∷ l) y.6 ∙ ap (λ (l : List ℕ). x.2 ∷ y.2 ∷ l) z.6)) (char_utf8 _ (b ∷ x.2 ∷ y.2 ∷ z.2 ∷ []) z.3 c.0 c.1 (from_run fuel z.0 z.3 (omega (arith, x.1, y.1, z.1)) (move z.0 _ start z.3 (after_cont 0 128 191 z.2) z.5)))
])

-- a run is UTF-8
pub utf8_of_run : (n : ℕ) (w : List ℕ) → IsRun n start w → IsUtf8 w
utf8_of_run n w run = from_run n n w (omega arith) run
