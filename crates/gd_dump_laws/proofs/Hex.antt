-- Texts in hexadecimal digits, with the mark behind them, are read exactly.
use Rattle.std.proofs.Common.{Ok, ◌≡◌, refl, ◌⊎◌, inl, inr, ℕ, zero, suc, ◌+◌, ◌-◌, ◌*◌, ◌/◌, ◌%◌, ◌<◌, ◌≤◌, Bool, true, false, ◌&&◌, ◌||◌, ◌==◌, nat_lt, nat_le, if◌then◌else◌, List, [], ◌∷◌, ◌++◌, length, sym, ◌∙◌, ap, subst, arith, append_assoc, le-leb, eqb-true, ne_eqb}
use Rattle.std.specs.List.{list_any}
use Rattle.std.proofs.lemmas.Bool.Decides.{nat_tests}
use Rattle.gd_tree.specs.Hex.{hex_digit}
use Rattle.gd_grammar.specs.Choice.{is_next}
use Rattle.gd_grammar.specs.Grammar.{Reads, IsText, text_at}
use Rattle.gd_grammar.specs.Reading.{between, byte_if}
use Rattle.gd_utf8.specs.Utf8.{Due, start, may_come, after, follow, least_after, most_after}
use Rattle.gd_grammar.proofs.Scans.{Then, chain, head_same}
use Rattle.gd_grammar.proofs.Exact.{Exact, Exact-then, Exact-same, Exact-mapped, Exact-byte, OneByte, Some_text, Sound, Mapped, mapped}
use Rattle.gd_utf8.proofs.Runs.{IsRun, run_of_utf8, utf8_of_run}
use Rattle.gd_grammar.proofs.Numbers.{Word, true_false}
use Rattle.gd_dump_laws.proofs.Marks.{Exact-word, Exact-choice, Either}
use Rattle.gd_dump_laws.specs.Dump.{byte_text, hex_text, TextFits}
use Rattle.gd_dump_laws.specs.Reading.{choice, hex_digits, is_hex, hex_value, second_digit, first_digit, pair_at, end_to, hex_from, hex_to}

and_true : (x y : Bool) → (x && y) ≡ true → (x ≡ true) × (y ≡ true)
and_true true y is = (refl, is)
and_true false y is = cc

and_both : (x y : Bool) → x ≡ true → y ≡ true → (x && y) ≡ true
and_both x y p q = ap (λ (t : Bool). t && y) p ∙ q

le_of : (a b : ℕ) → nat_le a b ≡ true → a ≤ b
le_of a b is = grind (arith, nat_tests)

-- ---- digits

hex_back : (c : ℕ) → is_hex c ≡ true → (hex_value c < 16) × (hex_digit (hex_value c) ≡ c)
hex_back c is = (grind (arith, nat_tests), grind (arith, nat_tests))

hex_forth : (x : ℕ) → x < 16 → (is_hex (hex_digit x) ≡ true) × (hex_value (hex_digit x) ≡ x)
hex_forth x small = (grind (arith, nat_tests), grind (arith, nat_tests))

any_of : (test : ℕ → Bool) (xs : List ℕ) (d : ℕ) → list_any (λ e. e == d) xs ≡ true → test d ≡ true → list_any test xs ≡ true
any_of test [] d there passes = cc
any_of test (x ∷ xs) d there passes = by (λ e. any_of test xs d e passes) (x == d) refl there
  where
    by : (list_any (λ e. e == d) xs ≡ true → list_any test xs ≡ true) → (b : Bool) → (x == d) ≡ b → (b || list_any (λ e. e == d) xs) ≡ true → (test x || list_any test xs) ≡ true
    by further true same is = ap (λ (t : Bool). t || list_any test xs) (ap test (eqb-true x d same) ∙ passes)
    by further false other is = right (test x) (list_any test xs) (further is)
      where
        right : (a b : Bool) → b ≡ true → (a || b) ≡ true
        right true b p = refl
        right false b p = p

of_any : (test : ℕ → Bool) (xs : List ℕ) → list_any test xs ≡ true → (d : ℕ) × (test d ≡ true)
of_any test [] is = cc
of_any test (x ∷ xs) is = by (λ e. of_any test xs e) (test x) refl is
  where
    by : (list_any test xs ≡ true → (d : ℕ) × (test d ≡ true)) → (b : Bool) → test x ≡ b → (b || list_any test xs) ≡ true → (d : ℕ) × (test d ≡ true)
    by further true passes e = (x, passes)
    by further false fails e = further e

member : (d : ℕ) → is_hex d ≡ true → list_any (λ e. e == d) hex_digits ≡ true
member d is = grind (arith, nat_tests)

-- ---- a byte in two digits

-- a byte that may come next, in two digits
abbrev pub Pair : ℕ → Due → ℕ → List ℕ → Type 0
Pair n s b w = (may_come n s b ≡ true) × (b < 256) × (w ≡ byte_text b)

second_parts : (n : ℕ) (s : Due) (c d : ℕ) → second_digit n s c d ≡ true → (is_hex c ≡ true) × (is_hex d ≡ true) × (may_come n s (16 * hex_value c + hex_value d) ≡ true)
second_parts n s c d is =
    let (both, comes) = and_true (is_hex c && is_hex d) (may_come n s (16 * hex_value c + hex_value d)) is in
    let (hc, hd) = and_true (is_hex c) (is_hex d) both in
    (hc, hd, comes)

abbrev Digits : ℕ → Due → ℕ → List ℕ → Type 0
Digits n s = Then (OneByte (first_digit n s)) (λ c. Mapped (λ d. 16 * hex_value c + hex_value d) (OneByte (second_digit n s c)))

digits_pair : (n : ℕ) (s : Due) (b : ℕ) (w : List ℕ) → Digits n s b w → Pair n s b w
digits_pair n s b w (c, v, u, (first, v_is), (d, b_is, (second, u_is)), w_is) =
    let (hc, hd, comes) = second_parts n s c d second in
    let (c_small, c_back) = hex_back c hc in
    let (d_small, d_back) = hex_back d hd in
    let high : b / 16 ≡ hex_value c = omega (arith, b_is, d_small) in
    let low : b % 16 ≡ hex_value d = omega (arith, b_is, d_small) in
    let text : w ≡ c ∷ d ∷ [] = w_is ∙ ap (λ (l : List ℕ). l ++ u) v_is ∙ ap (λ (l : List ℕ). c ∷ l) u_is in
    (ap (may_come n s) b_is ∙ comes, omega (arith, b_is, c_small, d_small), text ∙ (λ i. (sym (ap hex_digit high ∙ c_back)) i ∷ (sym (ap hex_digit low ∙ d_back)) i ∷ []))

pair_digits : (n : ℕ) (s : Due) (b : ℕ) (w : List ℕ) → Pair n s b w → Digits n s b w
pair_digits n s b w (comes, small, w_is) =
    let c = hex_digit (b / 16) in
    let d = hex_digit (b % 16) in
    let (hc, c_is) = hex_forth (b / 16) (omega (arith, small)) in
    let (hd, d_is) = hex_forth (b % 16) (omega arith) in
    let whole : b ≡ 16 * hex_value c + hex_value d = omega (arith, c_is, d_is) in
    let second : second_digit n s c d ≡ true = and_both (is_hex c && is_hex d) _ (and_both (is_hex c) (is_hex d) hc hd) (ap (may_come n s) (sym whole) ∙ comes) in
    (c, c ∷ [], d ∷ [], (any_of (second_digit n s c) hex_digits d (member d hd) second, refl), (d, whole, (second, refl)), w_is)

-- a byte passes each test of its digits
Exact-pair : (n : ℕ) (s : Due) → (b : ℕ) × (may_come n s b ≡ true) × (b < 256) → Exact (Pair n s) (pair_at n s)
unfolding pair_at
Exact-pair n s (b, comes, small) =
    let (c, v, u, (first, v_is), (d, b_is, (second, u_is)), w_is) = pair_digits n s b (byte_text b) (comes, small, refl) in
    Exact-same (Digits n s) (Pair n s) (pair_at n s) (digits_pair n s) (pair_digits n s)
    (Exact-then (OneByte (first_digit n s)) (λ x. Mapped (λ y. 16 * hex_value x + hex_value y) (OneByte (second_digit n s x))) (byte_if (first_digit n s)) (λ x. mapped (λ y. 16 * hex_value x + hex_value y) (byte_if (second_digit n s x)))
    (Exact-byte (first_digit n s) c first)
    (λ x w (passes, w_is). let (y, there) = of_any (second_digit n s x) hex_digits passes in Exact-mapped (λ z. 16 * hex_value x + hex_value z) (OneByte (second_digit n s x)) (byte_if (second_digit n s x)) (Exact-byte (second_digit n s x) y there))
    (λ x w (passes, w_is). let (y, there) = of_any (second_digit n s x) hex_digits passes in (16 * hex_value x + hex_value y, y ∷ [], (y, refl, (there, refl)))))

-- ---- bytes one after another

-- so many bytes more can end between two characters
record IsAlive (n : ℕ) (s : Due) : Type 0 where
  due : s.due ≤ n
  order : s.least ≤ s.most
  byte : s.most ≤ 191

-- a byte that may come next
some_byte : (n : ℕ) (s : Due) → IsAlive (suc n) s → (b : ℕ) × (may_come n s b ≡ true) × (b < 256)
unfolding may_come
some_byte n s alive = by (s.due == 0) refl
  where
    by : (t : Bool) → (s.due == 0) ≡ t → (b : ℕ) × (may_come n s b ≡ true) × (b < 256)
    by true none = (97, ap (λ (t : Bool). if t then (nat_le 0 n && nat_lt 0 4) else between s.least s.most 97) none ∙ and_both (nat_le 0 n) (nat_lt 0 4) (le-leb 0 n (omega arith)) refl, omega arith)
    by false more = (
      s.least,
      ap (λ (t : Bool). if t then (nat_le (follow s.least) n && nat_lt (follow s.least) 4) else between s.least s.most s.least) more ∙ and_both (nat_le s.least s.least) (nat_le s.least s.most) (le-leb s.least s.least (omega arith)) (le-leb s.least s.most alive.order),
      omega (arith, alive.order, alive.byte),
    )

order_after : (b : ℕ) → (least_after b ≤ most_after b) × (most_after b ≤ 191)
order_after b = (grind (arith, nat_tests), grind (arith, nat_tests))

abbrev next_by : Due → ℕ → Bool → Due
next_by s b t = if t then record { due = follow b; least = least_after b; most = most_after b } else record { due = s.due - 1; least = 128; most = 191 }

alive_after : (n : ℕ) (s : Due) (b : ℕ) → may_come n s b ≡ true → IsAlive (suc n) s → IsAlive n (after s b)
unfolding may_come after
alive_after n s b comes alive = by (s.due == 0) refl
  where
    by : (t : Bool) → (s.due == 0) ≡ t → IsAlive n (after s b)
    by true none =
        let passes = sym (ap (λ (t : Bool). if t then (nat_le (follow b) n && nat_lt (follow b) 4) else between s.least s.most b) none) ∙ comes in
        let fits = (and_true (nat_le (follow b) n) (nat_lt (follow b) 4) passes).0 in
        let (order, byte) = order_after b in
        subst (λ (t : Bool). IsAlive n (next_by s b t)) (sym none) (record { due = le_of (follow b) n fits; order = order; byte = byte })
    by false more = subst (λ (t : Bool). IsAlive n (next_by s b t)) (sym more) (record { due = omega (arith, alive.due); order = omega arith; byte = omega arith })

-- the end of a text, which stands between two characters
abbrev pub Ended : ℕ → Due → List ℕ → List ℕ → Type 0
Ended mark s t w = (s.due ≡ 0) × (t ≡ []) × (w ≡ mark ∷ [])

-- at most so many bytes, in digits, from here to between two characters, and the mark
abbrev pub Run : ℕ → ℕ → Due → List ℕ → List ℕ → Type 0
Run mark zero s t w = Ended mark s t w
Run mark (suc n) s t w = Ended mark s t w ⊎ ((b : ℕ) × (u x : List ℕ) × (may_come n s b ≡ true) × (b < 256) × Run mark n (after s b) u x × (t ≡ b ∷ u) × (w ≡ byte_text b ++ x))

module _ (mark : ℕ) (apart : is_hex mark ≡ false) where
  some_run : (n : ℕ) (s : Due) → IsAlive n s → Some_text (Run mark n s)
  some_run zero s alive = ([], mark ∷ [], (omega (arith, alive.due), refl, refl))
  some_run (suc n) s alive =
      let (b, comes, small) = some_byte n s alive in
      let (u, x, run) = some_run n (after s b) (alive_after n s b comes alive) in
      (b ∷ u, byte_text b ++ x, inr (b, u, x, comes, small, run, refl, refl))

  -- the end
  Exact-end : (s : Due) → s.due ≡ 0 → Exact (Ended mark s) (end_to mark)
  unfolding end_to
  Exact-end s none = Exact-same (Mapped (λ u. []) (Word (mark ∷ []))) (Ended mark s) (end_to mark)
      (λ t w (u, t_is, w_is). (none, t_is, w_is))
      (λ t w (none, t_is, w_is). (tt, t_is, w_is))
      (Exact-mapped (λ u. []) (Word (mark ∷ [])) (text_at (mark ∷ [])) (Exact-word (mark ∷ [])))

  -- a byte, and then the others
  abbrev Goes : ℕ → Due → List ℕ → List ℕ → Type 0
  Goes n s = Then (Pair n s) (λ b. Mapped (λ t. b ∷ t) (Run mark n (after s b)))

  abbrev goes_at : ℕ → Due → List ℕ → Reads (List ℕ)
  goes_at n s = chain (pair_at n s) (λ b. mapped (λ t. b ∷ t) (hex_from n (after s b) mark))

  Exact-goes : (n : ℕ) (s : Due) → IsAlive (suc n) s → ((z : Due) → IsAlive n z → Exact (Run mark n z) (hex_from n z mark)) → Exact (Goes n s) (goes_at n s)
  Exact-goes n s alive further =
      Exact-then (Pair n s) (λ b. Mapped (λ t. b ∷ t) (Run mark n (after s b))) (pair_at n s) (λ b. mapped (λ t. b ∷ t) (hex_from n (after s b) mark))
      (Exact-pair n s (some_byte n s alive))
      (λ b w (comes, small, w_is). Exact-mapped (λ t. b ∷ t) (Run mark n (after s b)) (hex_from n (after s b) mark) (further (after s b) (alive_after n s b comes alive)))
      (λ b w (comes, small, w_is). let (u, x, run) = some_run n (after s b) (alive_after n s b comes alive) in (b ∷ u, x, (u, refl, run)))

  to_goes : (n : ℕ) (s : Due) (t w : List ℕ) → Goes n s t w → Run mark (suc n) s t w
  to_goes n s t w (b, v, x, (comes, small, v_is), (u, t_is, run), w_is) = inr (b, u, x, comes, small, run, t_is, w_is ∙ ap (λ (l : List ℕ). l ++ x) v_is)

  -- digits are not the mark
  digit_apart : (b : ℕ) → b < 256 → (hex_digit (b / 16) == mark) ≡ false
  digit_apart b small = ne_eqb (hex_digit (b / 16)) mark (λ same. let (is, back) = hex_forth (b / 16) (omega (arith, small)) in true_false (subst (λ (x : ℕ). is_hex x ≡ true) same is) apart)

  mark_same : (mark == mark) ≡ true
  mark_same = grind (arith, nat_tests)

  either_run : (n : ℕ) (s : Due) (t w : List ℕ) → Either (Ended mark s) (Goes n s) t w → Run mark (suc n) s t w
  either_run n s t w (inl e) = inl e
  either_run n s t w (inr g) = to_goes n s t w g

  run_either : (n : ℕ) (s : Due) (t w : List ℕ) → Run mark (suc n) s t w → Either (Ended mark s) (Goes n s) t w
  run_either n s t w (inl e) = inl e
  run_either n s t w (inr (b, u, x, comes, small, run, t_is, w_is)) = inr (b, byte_text b, x, (comes, small, refl), (u, t_is, run), w_is)

  run_goes : (n : ℕ) (s : Due) (t w : List ℕ) → (s.due == 0) ≡ false → Run mark (suc n) s t w → Goes n s t w
  run_goes n s t w more (inl (none, t_is, w_is)) = absurd (differ none more)
    where
      differ : s.due ≡ 0 → (s.due == 0) ≡ false → ⊥
      differ p q = cc (ap (λ (k : ℕ). k == 0) p, q)
  run_goes n s t w more (inr (b, u, x, comes, small, run, t_is, w_is)) = (b, byte_text b, x, (comes, small, refl), (u, t_is, run), w_is)

  -- the code's choice at the next byte, as one of two readers
  abbrev two_at : ℕ → Due → List ℕ → Reads (List ℕ)
  two_at n s = choice (λ c. c == mark) (end_to mark) (goes_at n s)

  abbrev goes_by : ℕ → Due → List ℕ → Bool → Reads (List ℕ)
  goes_by n s bytes b = if b then end_to mark bytes else goes_at n s bytes

  between_is : (n : ℕ) (s : Due) (bytes : List ℕ) → (s.due == 0) ≡ true → hex_from (suc n) s mark bytes ≡ two_at n s bytes
  unfolding pair_at
  between_is n s [] none = ap (λ (t : Bool). goes_by n s [] (t && false)) none
  between_is n s (c ∷ cs) none = ap (λ (t : Bool). goes_by n s (c ∷ cs) (t && (c == mark))) none

  inside_is : (n : ℕ) (s : Due) (bytes : List ℕ) → (s.due == 0) ≡ false → hex_from (suc n) s mark bytes ≡ goes_at n s bytes
  inside_is n s bytes more = ap (λ (t : Bool). goes_by n s bytes (t && is_next mark bytes)) more

  same_reader : {A : Type 0} (spells : A → List ℕ → Type 0) (one two : List ℕ → Reads A) → ((bytes : List ℕ) → two bytes ≡ one bytes) → Exact spells one → Exact spells two
  same_reader {A} spells one two same reads = subst (λ (r : List ℕ → Reads A). Exact spells r) (λ i bytes. sym (same bytes) i) reads

  Exact-run : (n : ℕ) (s : Due) → IsAlive n s → Exact (Run mark n s) (hex_from n s mark)
  Exact-run zero s alive = Exact-end s (omega (arith, alive.due))
  Exact-run (suc n) s alive = by (Exact-goes n s alive (λ z still. Exact-run n z still)) (s.due == 0) refl
    where
      by : Exact (Goes n s) (goes_at n s) → (b : Bool) → (s.due == 0) ≡ b → Exact (Run mark (suc n) s) (hex_from (suc n) s mark)
      by goes true none =
          let no_due : s.due ≡ 0 = eqb-true s.due 0 none in
          same_reader (Run mark (suc n) s) (two_at n s) (hex_from (suc n) s mark) (λ bytes. between_is n s bytes none)
          (Exact-same (Either (Ended mark s) (Goes n s)) (Run mark (suc n) s) (two_at n s) (either_run n s) (run_either n s)
          (Exact-choice (λ c. c == mark) (Ended mark s) (Goes n s) (end_to mark) (goes_at n s) (Exact-end s no_due) goes
          (λ t w (d, t_is, w_is). (mark, [], w_is, mark_same))
          (λ t w (b, v, x, (comes, small, v_is), rest, w_is). (hex_digit (b / 16), hex_digit (b % 16) ∷ x, w_is ∙ ap (λ (l : List ℕ). l ++ x) v_is, digit_apart b small))
          ([], mark ∷ [], inl (no_due, refl, refl))))
      by goes false more =
          same_reader (Run mark (suc n) s) (goes_at n s) (hex_from (suc n) s mark) (λ bytes. inside_is n s bytes more)
          (Exact-same (Goes n s) (Run mark (suc n) s) (goes_at n s) (to_goes n s) (λ t w run. run_goes n s t w more run) goes)

  -- ---- such a text is UTF-8

  -- what is due fits in what follows
  run_due : (n : ℕ) (s : Due) (t w : List ℕ) → Run mark n s t w → s.due ≤ length t
  unfolding after
  run_due zero s t w (none, t_is, w_is) = omega (arith, none)
  run_due (suc n) s t w (inl (none, t_is, w_is)) = omega (arith, none)
  run_due (suc n) s t w (inr (b, u, x, comes, small, run, t_is, w_is)) =
      let further = run_due n (after s b) u x run in
      let long = ap length t_is in
      by (s.due == 0) refl further long
    where
      by : (c : Bool) → (s.due == 0) ≡ c → (after s b).due ≤ length u → length t ≡ suc (length u) → s.due ≤ length t
      by true none further long = let no_due : s.due ≡ 0 = eqb-true s.due 0 none in omega (arith, no_due)
      by false more further long =
          let left : s.due - 1 ≤ length u = subst (λ (z : Bool). (next_by s b z).due ≤ length u) more further in
          omega (arith, left, long)

  -- a byte that may come with room for more may come with just what follows
  comes_with : (n k : ℕ) (s : Due) (b : ℕ) → may_come n s b ≡ true → (after s b).due ≤ k → may_come k s b ≡ true
  unfolding may_come after
  comes_with n k s b comes due = by (s.due == 0) refl
    where
      by : (c : Bool) → (s.due == 0) ≡ c → may_come k s b ≡ true
      by true none =
          let passes = sym (ap (λ (t : Bool). if t then (nat_le (follow b) n && nat_lt (follow b) 4) else between s.least s.most b) none) ∙ comes in
          let few = (and_true (nat_le (follow b) n) (nat_lt (follow b) 4) passes).1 in
          let fits : follow b ≤ k = subst (λ (z : Bool). (next_by s b z).due ≤ k) none due in
          ap (λ (t : Bool). if t then (nat_le (follow b) k && nat_lt (follow b) 4) else between s.least s.most b) none ∙ and_both (nat_le (follow b) k) (nat_lt (follow b) 4) (le-leb (follow b) k fits) few
      by false more =
          let passes = sym (ap (λ (t : Bool). if t then (nat_le (follow b) n && nat_lt (follow b) 4) else between s.least s.most b) more) ∙ comes in
          ap (λ (t : Bool). if t then (nat_le (follow b) k && nat_lt (follow b) 4) else between s.least s.most b) more ∙ passes

  run_is : (n : ℕ) (s : Due) (t w : List ℕ) → Run mark n s t w → IsRun (length t) s t × (length t ≤ n) × (w ≡ hex_text t ++ mark ∷ [])
  run_is zero s t w (none, t_is, w_is) = subst (λ (l : List ℕ). IsRun (length l) s l × (length l ≤ 0) × (w ≡ hex_text l ++ mark ∷ [])) (sym t_is) (refl, omega arith, w_is)
  run_is (suc n) s t w (inl (none, t_is, w_is)) = subst (λ (l : List ℕ). IsRun (length l) s l × (length l ≤ suc n) × (w ≡ hex_text l ++ mark ∷ [])) (sym t_is) (refl, omega arith, w_is)
  run_is (suc n) s t w (inr (b, u, x, comes, small, run, t_is, w_is)) =
      let (is, few, x_is) = run_is n (after s b) u x run in
      let due = run_due n (after s b) u x run in
      subst (λ (l : List ℕ). IsRun (length l) s l × (length l ≤ suc n) × (w ≡ hex_text l ++ mark ∷ [])) (sym t_is)
      ((b, u, comes_with n (length u) s b comes due, is, refl), omega (arith, few), w_is ∙ ap (λ (l : List ℕ). byte_text b ++ l) x_is ∙ sym (append_assoc (byte_text b) (hex_text u) (mark ∷ [])))

  more_room : (k n : ℕ) (s : Due) (b : ℕ) → k ≤ n → may_come k s b ≡ true → may_come n s b ≡ true
  unfolding may_come
  more_room k n s b le comes = by (s.due == 0) refl
    where
      by : (c : Bool) → (s.due == 0) ≡ c → may_come n s b ≡ true
      by true none =
          let passes = sym (ap (λ (t : Bool). if t then (nat_le (follow b) k && nat_lt (follow b) 4) else between s.least s.most b) none) ∙ comes in
          let (fits, few) = and_true (nat_le (follow b) k) (nat_lt (follow b) 4) passes in
          let within = le_of (follow b) k fits in
          ap (λ (t : Bool). if t then (nat_le (follow b) n && nat_lt (follow b) 4) else between s.least s.most b) none ∙ and_both (nat_le (follow b) n) (nat_lt (follow b) 4) (le-leb (follow b) n (omega (arith, within, le))) few
      by false more =
          let passes = sym (ap (λ (t : Bool). if t then (nat_le (follow b) k && nat_lt (follow b) 4) else between s.least s.most b) more) ∙ comes in
          ap (λ (t : Bool). if t then (nat_le (follow b) n && nat_lt (follow b) 4) else between s.least s.most b) more ∙ passes

  -- a byte that may come is one
  byte_small : (n : ℕ) (s : Due) (b : ℕ) → s.most ≤ 191 → may_come n s b ≡ true → b < 256
  unfolding may_come
  byte_small n s b low comes = by (s.due == 0) refl
    where
      first : (b : ℕ) → nat_lt (follow b) 4 ≡ true → b < 256
      first b few = grind (arith, nat_tests)

      inside : (least most b : ℕ) → most ≤ 191 → between least most b ≡ true → b < 256
      inside least most b low is = grind (arith, nat_tests)

      by : (c : Bool) → (s.due == 0) ≡ c → b < 256
      by true none =
          let passes = sym (ap (λ (t : Bool). if t then (nat_le (follow b) n && nat_lt (follow b) 4) else between s.least s.most b) none) ∙ comes in
          first b (and_true (nat_le (follow b) n) (nat_lt (follow b) 4) passes).1
      by false more =
          let passes = sym (ap (λ (t : Bool). if t then (nat_le (follow b) n && nat_lt (follow b) 4) else between s.least s.most b) more) ∙ comes in
          inside s.least s.most b low passes

  is_run : (n : ℕ) (s : Due) (t : List ℕ) → IsAlive n s → length t ≤ n → s.due ≤ length t → IsRun (length t) s t → Run mark n s t (hex_text t ++ mark ∷ [])
  is_run zero s [] alive few due run = (omega (arith, alive.due), refl, refl)
  is_run zero s (b ∷ t) alive few due run = absurd (omega (arith, few))
  is_run (suc n) s [] alive few due run = inl (omega (arith, due), refl, refl)
  is_run (suc n) s (b ∷ t) alive few due (c, u, comes, run, is) =
      let b_is : b ≡ c = head_same is in
      let t_is : t ≡ u = tail_same is in
      let here : may_come (length t) s b ≡ true = subst (λ (x : ℕ). may_come (length t) s x ≡ true) (sym b_is) comes in
      let room = more_room (length t) n s b (omega (arith, few)) here in
      let on : IsRun (length t) (after s b) t = subst (λ (x : ℕ). IsRun (length t) (after s x) t) (sym b_is) (subst (λ (l : List ℕ). IsRun (length t) (after s c) l) (sym t_is) run) in
      let just = alive_after (length t) s b here (record { due = due; order = alive.order; byte = alive.byte }) in
      inr (b, t, hex_text t ++ mark ∷ [], room, byte_small n s b alive.byte room, is_run n (after s b) t (alive_after n s b room alive) (omega (arith, few)) just.due on, refl, append_assoc (byte_text b) (hex_text t) (mark ∷ []))
    where
      tail_same : {x y : ℕ} {xs ys : List ℕ} → x ∷ xs ≡ y ∷ ys → xs ≡ ys
      tail_same q = cc

  -- a text with the mark behind it
  abbrev pub Marked_text : List ℕ → List ℕ → Type 0
  Marked_text = IsText (λ t. hex_text t ++ mark ∷ []) TextFits

  alive_start : IsAlive 4096 start
  alive_start = record { due = omega arith; order = omega arith; byte = omega arith }

  run_text : (t w : List ℕ) → Run mark 4096 start t w → Marked_text t w
  run_text t w run = let (is, few, w_is) = run_is 4096 start t w run in ((few, utf8_of_run (length t) t is), w_is)

  text_run : (t w : List ℕ) → Marked_text t w → Run mark 4096 start t w
  text_run t w ((few, utf8), w_is) = subst (λ (l : List ℕ). Run mark 4096 start t l) (sym w_is) (is_run 4096 start t alive_start few (omega arith) (run_of_utf8 t utf8))

  pub Sound-text : Sound Marked_text (hex_to mark)
  unfolding hex_to
  Sound-text = record {
    exact = Exact-same (Run mark 4096 start) Marked_text (hex_to mark) run_text text_run (Exact-run 4096 start alive_start);
    some = ([], mark ∷ [], text_run_none);
  }
    where
      text_run_none : Marked_text [] (mark ∷ [])
      text_run_none = ((omega arith, ([], (refl, refl))), refl)

  -- what was read is a text
  pub text_fits : (bytes t rest : List ℕ) → hex_to mark bytes ≡ Ok (t, rest) → TextFits t
  text_fits bytes t rest is = let (w, (fits, w_is), split) = Sound-text.exact.found bytes t rest is in fits
