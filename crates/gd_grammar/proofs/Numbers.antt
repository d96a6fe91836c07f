-- Words and numbers of texts are read exactly.
use Rattle.std.proofs.Common.{◌≡◌, refl, ℕ, zero, suc, ◌+◌, ◌-◌, ◌*◌, ◌/◌, ◌%◌, ◌^◌, ◌<◌, ◌≤◌, Bool, true, false, not, ◌&&◌, ◌==◌, nat_lt, nat_le, if◌then◌else◌, List, [], ◌∷◌, ◌++◌, length, Ok, Err, decimal, subst, sym, ap, ◌∙◌, arith, length-append, append_assoc, eqb-true, eq-eqb, le-leb, ltb-true, ltb-false}
use Rattle.std.specs.Char.{is_ascii_digit}
use Rattle.std.proofs.lemmas.List.{append-nil}
use Rattle.std.proofs.lemmas.Bool.Decides.{nat_tests}
use Rattle.std.proofs.lemmas.Fmt.{decimal_step, decimal_digit, decimal_injective, decimal_nonempty}
use Rattle.gd_grammar.specs.Grammar.{Reads, text_at, digits_at, number_at}
use Rattle.gd_grammar.proofs.Scans.{Ends, Stops, Found, Scans, ok_of, ok_same, not_equal, head_same}

-- ---- these very bytes

abbrev pub Word : List ℕ → Unit {0} → List ℕ → Type 0
Word cs u w = w ≡ cs

word_step : (c : ℕ) (cs : List ℕ) (d : ℕ) (ds : List ℕ) → Bool → Reads (Unit {0})
word_step c cs d ds b = if b then text_at cs ds else Err (d ∷ ds)

pub word_ends : (cs w rest : List ℕ) → w ≡ cs → Ends (Word cs) w rest
word_ends cs w rest is b more e (u, v, m, v_is, split) =
    let one = ap length (sym v_is ∙ split) in
    let two = length-append (w ++ (b ∷ [])) m in
    let three = length-append w (b ∷ []) in
    let four = ap length is in
    omega (arith, one, two, three, four)

word_found : (cs bytes : List ℕ) (u : Unit {0}) (rest : List ℕ) → text_at cs bytes ≡ Ok (u, rest) → bytes ≡ cs ++ rest
word_found [] bytes u rest is = let pairs = ok_same is in ap (λ p. p.1) pairs
word_found (c ∷ cs) [] u rest is = cc
word_found (c ∷ cs) (d ∷ ds) u rest is = by (λ e. word_found cs ds u rest e) (c == d) refl is
  where
    by : (text_at cs ds ≡ Ok (u, rest) → ds ≡ cs ++ rest) → (b : Bool) → (c == d) ≡ b → (if b then text_at cs ds else Err (d ∷ ds)) ≡ Ok (u, rest) → d ∷ ds ≡ c ∷ (cs ++ rest)
    by ih true t e = let same = eqb-true c d t in let more = ih e in cc
    by ih false f e = cc

word_all : (cs rest : List ℕ) → text_at cs (cs ++ rest) ≡ Ok (tt, rest)
word_all [] rest = refl
word_all (c ∷ cs) rest = ap (λ (b : Bool). if b then text_at cs (cs ++ rest) else Err (c ∷ (cs ++ rest))) (eq-eqb c c refl) ∙ word_all cs rest

word_stops : (cs bytes rest : List ℕ) → text_at cs bytes ≡ Err rest → Stops (Word cs) bytes rest
word_stops [] bytes rest is = absurd (differ is)
  where
    differ : ok_of {X = Unit {0} × List ℕ} {Y = List ℕ} (tt, bytes) ≡ Err rest → ⊥
    differ e = cc
word_stops (c ∷ cs) [] rest is = record { front = []; split = cc; begins = (tt, c ∷ cs, c ∷ cs, refl, refl); last = λ b more e begun. cc }
word_stops (c ∷ cs) (d ∷ ds) rest is = by (λ e. word_stops cs ds rest e) (c == d) refl is
  where
    by : (text_at cs ds ≡ Err rest → Stops (Word cs) ds rest) → (b : Bool) → (c == d) ≡ b → (if b then text_at cs ds else Err (d ∷ ds)) ≡ Err rest → Stops (Word (c ∷ cs)) (d ∷ ds) rest
    by ih true t e =
        let same = eqb-true c d t in
        let s = ih e in
        let (u, w, m, w_is, split) = s.begins in
        record {
          front = c ∷ s.front;
          split = let more = s.split in cc;
          begins = (tt, c ∷ w, m, ap (λ (l : List ℕ). c ∷ l) w_is, ap (λ (l : List ℕ). c ∷ l) split);
          last = λ b more e' (u', w', m', w'_is, split').
              let inner : cs ≡ (s.front ++ (b ∷ [])) ++ m' = tail_same c cs ((s.front ++ (b ∷ [])) ++ m') (sym w'_is ∙ split') in
              s.last b more e' (tt, cs, m', refl, inner);
        }
      where
        tail_same : (x : ℕ) (xs ys : List ℕ) → x ∷ xs ≡ x ∷ ys → xs ≡ ys
        tail_same x xs ys q = cc
    by ih false f e = record {
      front = [];
      split = cc;
      begins = (tt, c ∷ cs, c ∷ cs, refl, refl);
      last = λ b more e' (u', w', m', w'_is, split').
          let rest_is : rest ≡ d ∷ ds = cc in
          let b_is : b ≡ d = cc (rest_is, e') in
          let c_is : c ≡ b = cc (w'_is, split') in
          not_equal c d f (c_is ∙ b_is);
    }

pub Scans-word : (cs : List ℕ) → Scans (Word cs) (text_at cs)
Scans-word cs = record {
  found = λ bytes u rest is. record { text = cs; spelled = refl; split = word_found cs bytes u rest is; last = word_ends cs cs rest refl };
  all = λ u w rest w_is ends. ap (λ (l : List ℕ). text_at cs (l ++ rest)) w_is ∙ word_all cs rest;
  stops = word_stops cs;
}

-- ---- numbers

-- a number up to a bound, as its decimal
abbrev pub Number : ℕ → ℕ → List ℕ → Type 0
Number bound n w = (n ≤ bound) × (w ≡ decimal n)

digit_is : (c : ℕ) → 48 ≤ c → c ≤ 57 → is_ascii_digit c ≡ true
digit_is c low high = and_true (nat_le 48 c) (nat_le c 57) (le-leb 48 c low) (le-leb c 57 high)
  where
    and_true : (a b : Bool) → a ≡ true → b ≡ true → (a && b) ≡ true
    and_true a b p q = ap (λ (x : Bool). x && b) p ∙ q

-- a list is empty or has a last member
data Snoc (xs : List ℕ) : Type 0 where
  is_nil : xs ≡ [] → Snoc xs
  is_snoc : (ys : List ℕ) (z : ℕ) → xs ≡ ys ++ (z ∷ []) → Snoc xs

snoc : (xs : List ℕ) → Snoc xs
snoc [] = is_nil refl
snoc (x ∷ xs) = by (snoc xs)
  where
    by : Snoc xs → Snoc (x ∷ xs)
    by (is_nil e) = is_snoc [] x (ap (λ (l : List ℕ). x ∷ l) e)
    by (is_snoc ys z e) = is_snoc (x ∷ ys) z (ap (λ (l : List ℕ). x ∷ l) e)

snoc_same : (xs ys : List ℕ) (a b : ℕ) → xs ++ (a ∷ []) ≡ ys ++ (b ∷ []) → (xs ≡ ys) × (a ≡ b)
snoc_same [] [] a b e = (refl, cc)
snoc_same [] (y ∷ ys) a b e = let l = ap length e in let m = length-append ys (b ∷ []) in absurd (omega (arith, l, m))
snoc_same (x ∷ xs) [] a b e = let l = ap length e in let m = length-append xs (a ∷ []) in absurd (omega (arith, l, m))
snoc_same (x ∷ xs) (y ∷ ys) a b e =
    let heads : x ≡ y = cc in
    let tails : xs ++ (a ∷ []) ≡ ys ++ (b ∷ []) = cc in
    let (p, q) = snoc_same xs ys a b tails in
    (cc (heads, p), q)

-- below this all numbers of texts lie
abbrev pub big : ℕ
big = 2 ^ 64

abbrev Behind : ℕ → ℕ → ℕ → Type 0
Behind m n b = (48 ≤ b) × (b ≤ 57) × (0 < m) × (10 * m + (b - 48) ≤ n)

behind_step : (k : ℕ) → ((m n b : ℕ) (t : List ℕ) → length t < k → m < 2 ^ 64 → n < 2 ^ 64 → decimal n ≡ decimal m ++ (b ∷ t) → Behind m n b)
    → (m n b : ℕ) (t : List ℕ) → length t ≤ k → m < 2 ^ 64 → n < 2 ^ 64 → decimal n ≡ decimal m ++ (b ∷ t) → Behind m n b
behind_step k ih m n b t short m_big n_big is = by (nat_lt n 10) refl
  where
    small : n < 10 → ⊥
    small h = let some = decimal_nonempty m m_big in let l = ap length (sym (decimal_digit n h) ∙ is) in let k = length-append (decimal m) (b ∷ t) in omega (arith, l, k, some)

    at : 10 ≤ n → Snoc t → Behind m n b
    at h (is_nil e) =
        let step = decimal_step n h n_big in
        let ends : decimal (n / 10) ++ ((48 + n % 10) ∷ []) ≡ decimal m ++ (b ∷ []) = sym step ∙ is ∙ ap (λ (l : List ℕ). decimal m ++ (b ∷ l)) e in
        let (front, last) = snoc_same (decimal (n / 10)) (decimal m) (48 + n % 10) b ends in
        let same = decimal_injective (n / 10) m (omega (arith, n_big)) m_big front in
        (omega (arith, last), omega (arith, last), omega (arith, same, h), omega (arith, same, last))
    at h (is_snoc ys z e) =
        let step = decimal_step n h n_big in
        let long = ap length e in
        let sum = length-append ys (z ∷ []) in
        let ends : decimal (n / 10) ++ ((48 + n % 10) ∷ []) ≡ (decimal m ++ (b ∷ ys)) ++ (z ∷ []) = sym step ∙ is ∙ ap (λ (l : List ℕ). decimal m ++ (b ∷ l)) e ∙ sym (append_assoc (decimal m) (b ∷ ys) (z ∷ [])) in
        let (front, last) = snoc_same (decimal (n / 10)) (decimal m ++ (b ∷ ys)) (48 + n % 10) z ends in
        let (p, q, r, s) = ih m (n / 10) b ys (omega (arith, long, sum, short)) m_big (omega (arith, n_big)) front in
        (p, q, r, omega (arith, s))

    by : (t' : Bool) → nat_lt n 10 ≡ t' → Behind m n b
    by true e = absurd (small (ltb-true n 10 e))
    by false e = at (ltb-false n 10 e) (snoc t)

-- A digit that stands behind the decimal of m in that of n: m is not 0, and with the digit it is at most n.
behind_all : (k m n b : ℕ) (t : List ℕ) → length t ≤ k → m < 2 ^ 64 → n < 2 ^ 64 → decimal n ≡ decimal m ++ (b ∷ t) → Behind m n b
behind_all zero = behind_step 0 (λ m n b t short. absurd (omega (arith, short)))
behind_all (suc k) = behind_step (suc k) (λ m n b t short. behind_all k m n b t (omega (arith, short)))

pub digit_behind : (m n b : ℕ) (t : List ℕ) → m < 2 ^ 64 → n < 2 ^ 64 → decimal n ≡ decimal m ++ (b ∷ t) → Behind m n b
digit_behind m n b t = behind_all (length t) m n b t (omega arith)

-- the decimal of a number that goes on by a digit
pub digit_more : (m c : ℕ) → 0 < m → 48 ≤ c → c ≤ 57 → 10 * m + (c - 48) < 2 ^ 64 → decimal (10 * m + (c - 48)) ≡ decimal m ++ (c ∷ [])
digit_more m c some low high fits =
    let front : (10 * m + (c - 48)) / 10 ≡ m = omega arith in
    let last : 48 + (10 * m + (c - 48)) % 10 ≡ c = omega arith in
    decimal_step (10 * m + (c - 48)) (omega (arith, some)) fits ∙ ap (λ (n : ℕ). decimal n ++ ((48 + (10 * m + (c - 48)) % 10) ∷ [])) front ∙ ap (λ (d : ℕ). decimal m ++ (d ∷ [])) last

tail_same : {x y : ℕ} {xs ys : List ℕ} → x ∷ xs ≡ y ∷ ys → xs ≡ ys
tail_same q = cc

abbrev FirstDigit : ℕ → Type 0
FirstDigit c = (48 ≤ c) × (c ≤ 57)

first_step : (k : ℕ) → ((n c : ℕ) (t : List ℕ) → n < k → n < 2 ^ 64 → decimal n ≡ c ∷ t → FirstDigit c) → (n c : ℕ) (t : List ℕ) → n ≤ k → n < 2 ^ 64 → decimal n ≡ c ∷ t → FirstDigit c
first_step k ih n c t within n_big is = by (nat_lt n 10) refl
  where
    at : 10 ≤ n → (l : List ℕ) → decimal (n / 10) ≡ l → FirstDigit c
    at h [] e = let some = decimal_nonempty (n / 10) (omega (arith, n_big)) in let none = ap length e in absurd (omega (arith, some, none))
    at h (x ∷ xs) e =
        let same : c ≡ x = head_same (sym is ∙ decimal_step n h n_big ∙ ap (λ (l : List ℕ). l ++ ((48 + n % 10) ∷ [])) e) in
        let (low, high) = ih (n / 10) x xs (omega (arith, h, within)) (omega (arith, n_big)) e in
        (omega (arith, same, low), omega (arith, same, high))

    by : (t' : Bool) → nat_lt n 10 ≡ t' → FirstDigit c
    by true e = let same : c ≡ 48 + n = head_same (sym is ∙ decimal_digit n (ltb-true n 10 e)) in let h = ltb-true n 10 e in (omega (arith, same), omega (arith, same, h))
    by false e = at (ltb-false n 10 e) (decimal (n / 10)) refl

first_all : (k n c : ℕ) (t : List ℕ) → n ≤ k → n < 2 ^ 64 → decimal n ≡ c ∷ t → FirstDigit c
first_all zero = first_step 0 (λ n c t h. absurd (omega (arith, h)))
first_all (suc k) = first_step (suc k) (λ n c t h. first_all k n c t (omega (arith, h)))

-- each decimal begins with a digit
pub first_digit : (n c : ℕ) (t : List ℕ) → n < 2 ^ 64 → decimal n ≡ c ∷ t → FirstDigit c
first_digit n c t = first_all n n c t (omega arith)

pub one_digit : (c : ℕ) → 48 ≤ c → c ≤ 57 → decimal (c - 48) ≡ c ∷ []
one_digit c low high = decimal_digit (c - 48) (omega (arith, low, high)) ∙ (let is : 48 + (c - 48) ≡ c = omega (arith, low) in ap (λ (d : ℕ). d ∷ []) is)

-- the first digit of a decimal is at most its number
pub digit_within : (n c : ℕ) (t : List ℕ) → n < 2 ^ 64 → decimal n ≡ c ∷ t → c - 48 ≤ n
digit_within n c [] n_big is =
    let (low, high) = first_digit n c [] n_big is in
    let same = decimal_injective n (c - 48) n_big (omega (arith, high)) (is ∙ sym (one_digit c low high)) in
    omega (arith, same)
digit_within n c (b ∷ t) n_big is =
    let (low, high) = first_digit n c (b ∷ t) n_big is in
    let (p, q, r, s) = digit_behind (c - 48) n b t (omega (arith, high)) n_big (is ∙ ap (λ (l : List ℕ). l ++ (b ∷ t)) (sym (one_digit c low high))) in
    omega (arith, s)

-- ---- reading a number

-- the digit makes the number go on
abbrev goes_on : ℕ → ℕ → ℕ → Bool
goes_on bound n c = is_ascii_digit c && not (n == 0) && nat_le (10 * n + (c - 48)) bound

goes_on_true : (bound n c : ℕ) → goes_on bound n c ≡ true → (48 ≤ c) × (c ≤ 57) × (0 < n) × (10 * n + (c - 48) ≤ bound)
goes_on_true bound n c e = (grind (arith, nat_tests), grind (arith, nat_tests), grind (arith, nat_tests), grind (arith, nat_tests))

true_goes_on : (bound n c : ℕ) → 48 ≤ c → c ≤ 57 → 0 < n → 10 * n + (c - 48) ≤ bound → goes_on bound n c ≡ true
true_goes_on bound n c p q r s = grind (arith, nat_tests)

begins_true : (bound c : ℕ) → (is_ascii_digit c && nat_le (c - 48) bound) ≡ true → (48 ≤ c) × (c ≤ 57) × (c - 48 ≤ bound)
begins_true bound c e = (grind (arith, nat_tests), grind (arith, nat_tests), grind (arith, nat_tests))

true_begins : (bound c : ℕ) → 48 ≤ c → c ≤ 57 → c - 48 ≤ bound → (is_ascii_digit c && nat_le (c - 48) bound) ≡ true
true_begins bound c p q r = grind (arith, nat_tests)

pub true_false : {b : Bool} {P : Type 0} → b ≡ true → b ≡ false → P
true_false {b} t f = absurd (differ t f)
  where
    differ : b ≡ true → b ≡ false → ⊥
    differ p q = cc

-- what further digits give
pub record Digits (bound n : ℕ) (cs : List ℕ) (r : ℕ × List ℕ) : Type 0 where
  pub text : List ℕ
  pub value : decimal r.0 ≡ decimal n ++ text
  pub split : cs ≡ text ++ r.1
  pub within : r.0 ≤ bound
  pub last : Ends (Number bound) (decimal r.0) r.1

digits_found : (bound : ℕ) → bound < 2 ^ 64 → (n : ℕ) (cs : List ℕ) → n ≤ bound → Digits bound n cs (digits_at bound n cs)
digits_found bound small n [] within = record { text = []; value = sym (append-nil (decimal n)); split = refl; within = within; last = λ b more e begun. absurd (apart b more e) }
  where
    apart : (b : ℕ) (more : List ℕ) → [] ≡ b ∷ more → ⊥
    apart b more e = cc
digits_found bound small n (c ∷ cs) within = by (λ h. digits_found bound small (10 * n + (c - 48)) cs h) (goes_on bound n c) refl
  where
    result : Bool → ℕ × List ℕ
    result b = if b then digits_at bound (10 * n + (c - 48)) cs else (n, c ∷ cs)

    by : (10 * n + (c - 48) ≤ bound → Digits bound (10 * n + (c - 48)) cs (digits_at bound (10 * n + (c - 48)) cs)) → (t : Bool) → goes_on bound n c ≡ t → Digits bound n (c ∷ cs) (result t)
    by ih true e =
        let (low, high, some, fits) = goes_on_true bound n c e in
        let d = ih fits in
        record {
          text = c ∷ d.text;
          value = d.value ∙ ap (λ (l : List ℕ). l ++ d.text) (digit_more n c some low high (omega (arith, fits, small))) ∙ append_assoc (decimal n) (c ∷ []) d.text;
          split = ap (λ (l : List ℕ). c ∷ l) d.split;
          within = d.within;
          last = d.last;
        }
    by ih false e = record {
      text = [];
      value = sym (append-nil (decimal n));
      split = refl;
      within = within;
      last = λ b more rest_is (n', w, m, (n'_within, w_is), split').
          let b_is : c ≡ b = head_same rest_is in
          let there : decimal n' ≡ decimal n ++ (c ∷ m) = sym w_is ∙ split' ∙ append_assoc (decimal n) (b ∷ []) m ∙ ap (λ (d : ℕ). decimal n ++ (d ∷ m)) (sym b_is) in
          let (p, q, r, s) = digit_behind n n' c m (omega (arith, within, small)) (omega (arith, n'_within, small)) there in
          true_false (true_goes_on bound n c p q r (omega (arith, s, n'_within))) e;
    }

digits_all : (bound : ℕ) → bound < 2 ^ 64 → (n m : ℕ) (w rest : List ℕ) → n ≤ bound → m ≤ bound → decimal m ≡ decimal n ++ w → Ends (Number bound) (decimal m) rest → digits_at bound n (w ++ rest) ≡ (m, rest)
digits_all bound small n m [] [] n_in m_in is ends =
    let same = decimal_injective m n (omega (arith, m_in, small)) (omega (arith, n_in, small)) (is ∙ append-nil (decimal n)) in
    ap (λ (x : ℕ). (x, [])) (sym same)
digits_all bound small n m [] (b ∷ more) n_in m_in is ends = by (goes_on bound n b) refl
  where
    same : m ≡ n
    same = decimal_injective m n (omega (arith, m_in, small)) (omega (arith, n_in, small)) (is ∙ append-nil (decimal n))

    result : Bool → ℕ × List ℕ
    result t = if t then digits_at bound (10 * n + (b - 48)) more else (n, b ∷ more)

    by : (t : Bool) → goes_on bound n b ≡ t → result (goes_on bound n b) ≡ (m, b ∷ more)
    by true e =
        let (low, high, some, fits) = goes_on_true bound n b e in
        let longer = digit_more n b some low high (omega (arith, fits, small)) in
        absurd (ends b more refl (10 * n + (b - 48), decimal (10 * n + (b - 48)), [], (fits, refl), longer ∙ ap (λ (x : ℕ). decimal x ++ (b ∷ [])) (sym same) ∙ sym (append-nil (decimal m ++ (b ∷ [])))))
    by false e = ap (λ (t : Bool). result t) e ∙ ap (λ (x : ℕ). (x, b ∷ more)) (sym same)
digits_all bound small n m (c ∷ w) rest n_in m_in is ends =
    let (low, high, some, fits) = digit_behind n m c w (omega (arith, n_in, small)) (omega (arith, m_in, small)) is in
    let fits' : 10 * n + (c - 48) ≤ bound = omega (arith, fits, m_in) in
    let longer = digit_more n c some low high (omega (arith, fits', small)) in
    let there : decimal m ≡ decimal (10 * n + (c - 48)) ++ w = is ∙ sym (ap (λ (l : List ℕ). l ++ w) longer ∙ append_assoc (decimal n) (c ∷ []) w) in
    ap (λ (t : Bool). if t then digits_at bound (10 * n + (c - 48)) (w ++ rest) else (n, c ∷ (w ++ rest))) (true_goes_on bound n c low high some fits')
    ∙ digits_all bound small (10 * n + (c - 48)) m w rest fits' m_in there ends

abbrev number_by : ℕ → ℕ → List ℕ → Bool → Reads ℕ
number_by bound c cs t = if t then Ok (digits_at bound (c - 48) cs) else Err (c ∷ cs)

number_found : (bound : ℕ) → bound < 2 ^ 64 → (bytes : List ℕ) (n : ℕ) (rest : List ℕ) → number_at bound bytes ≡ Ok (n, rest) → Found (Number bound) bytes n rest
number_found bound small [] n rest is = cc
number_found bound small (c ∷ cs) n rest is = by (is_ascii_digit c && nat_le (c - 48) bound) refl is
  where
    by : (t : Bool) → (is_ascii_digit c && nat_le (c - 48) bound) ≡ t → number_by bound c cs t ≡ Ok (n, rest) → Found (Number bound) (c ∷ cs) n rest
    by true e same =
        let (low, high, fits) = begins_true bound c e in
        let d = digits_found bound small (c - 48) cs fits in
        let pairs : digits_at bound (c - 48) cs ≡ (n, rest) = ok_same same in
        let value : ◌≡◌ {A = ℕ} (digits_at bound (c - 48) cs).0 n = ap (λ p. p.0) pairs in
        let tail : ◌≡◌ {A = List ℕ} (digits_at bound (c - 48) cs).1 rest = ap (λ p. p.1) pairs in
        let is_text : c ∷ d.text ≡ decimal n = ap (λ (l : List ℕ). l ++ d.text) (sym (one_digit c low high)) ∙ sym d.value ∙ ap decimal value in
        let within = d.within in
        record {
          text = decimal n;
          spelled = (omega (arith, value, within), refl);
          split = ap (λ (l : List ℕ). c ∷ l) (d.split ∙ ap (λ (l : List ℕ). d.text ++ l) tail) ∙ ap (λ (l : List ℕ). l ++ rest) is_text;
          last = subst (Ends (Number bound) (decimal n)) tail (subst (λ (x : ℕ). Ends (Number bound) (decimal x) (digits_at bound (c - 48) cs).1) value d.last);
        }
    by false e same = cc

number_all : (bound : ℕ) → bound < 2 ^ 64 → (n : ℕ) (w rest : List ℕ) → Number bound n w → Ends (Number bound) w rest → number_at bound (w ++ rest) ≡ Ok (n, rest)
number_all bound small n w rest (within, w_is) ends = ap (λ (l : List ℕ). number_at bound (l ++ rest)) w_is ∙ at (decimal n) refl
  where
    n_big : n < 2 ^ 64
    n_big = omega (arith, within, small)

    at : (l : List ℕ) → decimal n ≡ l → number_at bound (l ++ rest) ≡ Ok (n, rest)
    at [] e = let some = decimal_nonempty n n_big in let none = ap length e in absurd (omega (arith, some, none))
    at (c ∷ t) e =
        let (low, high) = first_digit n c t n_big e in
        let least = digit_within n c t n_big e in
        let fits : c - 48 ≤ bound = omega (arith, least, within) in
        let there : decimal n ≡ decimal (c - 48) ++ t = e ∙ ap (λ (l : List ℕ). l ++ t) (sym (one_digit c low high)) in
        ap (λ (b : Bool). number_by bound c (t ++ rest) b) (true_begins bound c low high fits)
        ∙ ap (λ (r : ℕ × List ℕ). ok_of r) (digits_all bound small (c - 48) n t rest fits within there (subst (λ (l : List ℕ). Ends (Number bound) l rest) w_is ends))

number_stops : (bound : ℕ) → bound < 2 ^ 64 → (bytes rest : List ℕ) → number_at bound bytes ≡ Err rest → Stops (Number bound) bytes rest
number_stops bound small [] rest is = record { front = []; split = cc; begins = (0, decimal 0, decimal 0, (omega arith, refl), refl); last = λ b more e begun. cc }
number_stops bound small (c ∷ cs) rest is = by (is_ascii_digit c && nat_le (c - 48) bound) refl is
  where
    by : (t : Bool) → (is_ascii_digit c && nat_le (c - 48) bound) ≡ t → number_by bound c cs t ≡ Err rest → Stops (Number bound) (c ∷ cs) rest
    by true e same = cc
    by false e same = record {
      front = [];
      split = cc;
      begins = (0, decimal 0, decimal 0, (omega arith, refl), refl);
      last = λ b more rest_is (n, w, m, (within, w_is), split').
          let b_is : c ≡ b = cc (same, rest_is) in
          let there : decimal n ≡ c ∷ m = sym w_is ∙ split' ∙ ap (λ (d : ℕ). d ∷ m) (sym b_is) in
          let n_big : n < 2 ^ 64 = omega (arith, within, small) in
          let (low, high) = first_digit n c m n_big there in
          let least = digit_within n c m n_big there in
          true_false (true_begins bound c low high (omega (arith, least, within))) e;
    }

pub Scans-number : (bound : ℕ) → bound < 2 ^ 64 → Scans (Number bound) (number_at bound)
Scans-number bound small = record { found = number_found bound small; all = number_all bound small; stops = number_stops bound small }

-- no number goes on with another byte than a digit
pub number_ends : (bound n b : ℕ) (w u : List ℕ) → bound < 2 ^ 64 → Number bound n w → ((48 ≤ b) × (b ≤ 57) → ⊥) → Ends (Number bound) w (b ∷ u)
number_ends bound n b w u small (within, w_is) no_digit c more e (n', w', m, (within', w'_is), split') =
    let c_is : b ≡ c = head_same e in
    let there : decimal n' ≡ decimal n ++ (c ∷ m) = sym w'_is ∙ split' ∙ append_assoc w (c ∷ []) m ∙ ap (λ (l : List ℕ). l ++ (c ∷ m)) w_is in
    let (low, high, some, fits) = digit_behind n n' c m (omega (arith, within, small)) (omega (arith, within', small)) there in
    no_digit (omega (arith, c_is, low), omega (arith, c_is, high))
