-- The parts of lines, each with the byte behind it, are read exactly.
use Rattle.std.proofs.Common.{◌≡◌, refl, inl, inr, ℕ, zero, suc, ◌-◌, ◌<◌, ◌≤◌, ◌^◌, ℤ, pos, negsuc, Bool, true, false, ◌||◌, ◌==◌, if◌then◌else◌, List, [], ◌∷◌, ◌++◌, length, Option, Some, None, Ok, Err, decimal, sym, ◌∙◌, ap, subst, arith, ne_eqb}
use Rattle.std.proofs.lemmas.Bool.Decides.{nat_tests}
use Rattle.gd_grammar.specs.Grammar.{Reads, IsText, text_at}
use Rattle.gd_grammar.specs.Mark.{place_text}
use Rattle.gd_grammar.specs.Reading.{byte_if}
use Rattle.gd_grammar.proofs.Scans.{Begins, Stops, Then, head_same}
use Rattle.gd_grammar.proofs.Exact.{Exact, Exact-then, Exact-same, Exact-mapped, Exact-byte, OneByte, Some_text, Sound, Sound-then, Sound-mapped, Mapped, mapped, join}
use Rattle.std.proofs.lemmas.Fmt.{decimal_digit, decimal_injective, decimal_nonempty}
use Rattle.gd_grammar.proofs.Numbers.{Word, first_digit, digit_behind, true_false}
use Rattle.gd_dump_laws.proofs.Marks.{Exact-word, Sound-word, Exact-choice, Either, NoDigit, Marked, Exact-marked, Sound-marked}
use Rattle.gd_dump_laws.proofs.Hex.{Marked_text, Sound-text}
use Rattle.gd_dump_laws.specs.Dump.{int_text, hex_text, name_text, live_mark, PlaceFits, NameFits}
use Rattle.gd_dump_laws.specs.Reading.{choice, number_to, positive_to, negative_to, natural_to, int_to, some_place_at, no_place_at, place_at, hex_to, some_name_at, no_name_at, name_at, live_at}

pub no_space : NoDigit 32
no_space (low, high) = omega (arith, low)

pub no_line : NoDigit 10
no_line (low, high) = omega (arith, low)

-- a decimal begins with a digit
decimal_head : (n mark : ℕ) → n < 2 ^ 64 → (c : ℕ) × (t : List ℕ) × (decimal n ≡ c ∷ t) × ((48 ≤ c) × (c ≤ 57))
decimal_head n mark small = by (decimal n) refl
  where
    by : (l : List ℕ) → decimal n ≡ l → (c : ℕ) × (t : List ℕ) × (decimal n ≡ c ∷ t) × ((48 ≤ c) × (c ≤ 57))
    by [] e = let some = decimal_nonempty n small in let none = ap length e in absurd (omega (arith, some, none))
    by (c ∷ t) e = (c, t, e, first_digit n c t small e)

-- only 0 begins with the digit 0
zero_head : (n : ℕ) (t : List ℕ) → n < 2 ^ 64 → decimal n ≡ 48 ∷ t → n ≡ 0
zero_head n [] small is = decimal_injective n 0 small (omega arith) (is ∙ sym (decimal_digit 0 (omega arith)))
zero_head n (b ∷ t) small is =
    let zero_is : decimal 0 ≡ 48 ∷ [] = decimal_digit 0 (omega arith) in
    let (low, high, some, fits) = digit_behind 0 n b t (omega arith) small (is ∙ ap (λ (l : List ℕ). l ++ b ∷ t) (sym zero_is)) in
    absurd (omega (arith, some))

-- ---- numbers from 1 on

-- a number from 1 up to a bound, and a mark
abbrev pub Positive : ℕ → ℕ → ℕ → List ℕ → Type 0
Positive bound mark n w = (1 ≤ n) × Marked bound mark n w

module _ (bound mark : ℕ) (small : bound < 2 ^ 64) (some : 1 ≤ bound) (apart : NoDigit mark) where
  abbrev numbers : List ℕ → Reads ℕ
  numbers = number_to bound mark

  abbrev by : ℕ → List ℕ → Bool → Reads ℕ
  by c cs b = if b then Err (c ∷ cs) else numbers (c ∷ cs)

  reads : Exact (Marked bound mark) numbers
  reads = Exact-marked bound mark small apart

  -- a text that does not begin with 0 is of a number from 1 on
  not_zero : (n c : ℕ) (t w : List ℕ) → Marked bound mark n w → w ≡ c ∷ t → (c == 48) ≡ false → 1 ≤ n
  not_zero zero c t w (within, w_is) is other =
      let same : c ≡ 48 = head_same (sym is ∙ w_is ∙ ap (λ (l : List ℕ). l ++ mark ∷ []) (decimal_digit 0 (omega arith))) in
      absurd (differ same other)
    where
      differ : c ≡ 48 → (c == 48) ≡ false → ⊥
      differ p q = cc (ap (λ (k : ℕ). k == 48) p, q)
  not_zero (suc n) c t w s is other = omega arith

  -- and one of such a number does not begin so
  positive_head : (n : ℕ) (w : List ℕ) → Positive bound mark n w → (c : ℕ) × (t : List ℕ) × (w ≡ c ∷ t) × ((c == 48) ≡ false)
  positive_head n w (above, (within, w_is)) =
      let (c, t, is, digit) = decimal_head n mark (omega (arith, within, small)) in
      (c, t ++ mark ∷ [], w_is ∙ ap (λ (l : List ℕ). l ++ mark ∷ []) is, ne_eqb c 48 (λ same. let none = zero_head n t (omega (arith, within, small)) (is ∙ ap (λ (x : ℕ). x ∷ t) same) in omega (arith, above, none)))

  some_positive : Some_text (Positive bound mark)
  some_positive = (1, decimal 1 ++ mark ∷ [], (omega arith, (some, refl)))

  positive_found : (bytes : List ℕ) (n : ℕ) (rest : List ℕ) → positive_to bound mark bytes ≡ Ok (n, rest) → (w : List ℕ) × Positive bound mark n w × (bytes ≡ w ++ rest)
  unfolding positive_to
  positive_found [] n rest is = cc
  positive_found (c ∷ cs) n rest is = at (c == 48) refl is
    where
      at : (b : Bool) → (c == 48) ≡ b → by c cs b ≡ Ok (n, rest) → (w : List ℕ) × Positive bound mark n w × (c ∷ cs ≡ w ++ rest)
      at true e same = cc
      at false e same =
          let (w, s, split) = reads.found (c ∷ cs) n rest same in
          let (d, t, is, digit) = decimal_head n mark (omega (arith, s.0, small)) in
          let w_is : w ≡ d ∷ t ++ mark ∷ [] = s.1 ∙ ap (λ (l : List ℕ). l ++ mark ∷ []) is in
          let c_is : c ≡ d = head_same (split ∙ ap (λ (l : List ℕ). l ++ rest) w_is) in
          (w, (not_zero n d (t ++ mark ∷ []) w s w_is (subst (λ (x : ℕ). (x == 48) ≡ false) c_is e), s), split)

  positive_all : (n : ℕ) (w rest : List ℕ) → Positive bound mark n w → positive_to bound mark (w ++ rest) ≡ Ok (n, rest)
  unfolding positive_to
  positive_all n w rest s =
      let (c, t, is, other) = positive_head n w s in
      ap (λ (l : List ℕ). choice (λ x. x == 48) (λ v. Err v) numbers (l ++ rest)) is ∙ ap (λ (b : Bool). by c (t ++ rest) b) other ∙ ap (λ (l : List ℕ). numbers (l ++ rest)) (sym is) ∙ reads.all n w rest s.1

  positive_stops : (bytes rest : List ℕ) → positive_to bound mark bytes ≡ Err rest → Stops (Positive bound mark) bytes rest
  unfolding positive_to
  positive_stops [] rest is = let (n, w, s) = some_positive in record { front = []; split = cc; begins = (n, w, w, s, refl); last = λ b more e begun. cc (is, e) }
  positive_stops (c ∷ cs) rest is = at (c == 48) refl is
    where
      at : (b : Bool) → (c == 48) ≡ b → by c cs b ≡ Err rest → Stops (Positive bound mark) (c ∷ cs) rest
      at true e same =
          let (n, w, s) = some_positive in
          record {
            front = [];
            split = cc;
            begins = (n, w, w, s, refl);
            last = λ b more rest_is (m, v, u, t, v_is).
                let (d, x, d_is, other) = positive_head m v t in
                let c_is : c ≡ b = head_same (rest_of ∙ rest_is) in
                let d_same : d ≡ b = head_same (sym d_is ∙ v_is) in
                true_false (subst (λ (y : ℕ). (y == 48) ≡ true) (c_is ∙ sym d_same) e) other;
          }
        where
          rest_of : c ∷ cs ≡ rest
          rest_of = cc
      at false e same =
          let s = reads.stops (c ∷ cs) rest same in
          record { front = s.front; split = s.split; begins = begun s.front s.split s.begins; last = λ b more rest_is (m, v, u, t, v_is). s.last b more rest_is (m, v, u, t.1, v_is) }
        where
          begun : (front : List ℕ) → c ∷ cs ≡ front ++ rest → Begins (Marked bound mark) front → Begins (Positive bound mark) front
          begun [] split (n, w, m, s, w_is) = let (k, v, t) = some_positive in (k, v, v, t, refl)
          begun (d ∷ front) split (n, w, m, s, w_is) =
              let c_is : c ≡ d = head_same split in
              (n, w, m, (not_zero n d (front ++ m) w s w_is (subst (λ (x : ℕ). (x == 48) ≡ false) c_is e), s), w_is)

  pub Exact-positive : Exact (Positive bound mark) (positive_to bound mark)
  Exact-positive = record { found = positive_found; all = positive_all; stops = positive_stops }

  pub Sound-positive : Sound (Positive bound mark) (positive_to bound mark)
  Sound-positive = record { exact = Exact-positive; some = some_positive }

-- ---- whole numbers

-- from minus low up to high
abbrev pub InInts : ℕ → ℕ → ℤ → Type 0
InInts low high (pos n) = n ≤ high
InInts low high (negsuc n) = suc n ≤ low

abbrev pub Int : ℕ → ℕ → ℕ → ℤ → List ℕ → Type 0
Int low high mark = IsText (λ z. int_text z ++ mark ∷ []) (InInts low high)

module _ (low high mark : ℕ) (low_small : low < 2 ^ 64) (high_small : high < 2 ^ 64) (some : 1 ≤ low) (apart : NoDigit mark) where
  abbrev Below : ℤ → List ℕ → Type 0
  Below = Then (Word (45 ∷ [])) (λ u. Mapped (λ n. negsuc (n - 1)) (Positive low mark))

  abbrev Above : ℤ → List ℕ → Type 0
  Above = Mapped (λ n. pos n) (Marked high mark)

  sound_below : Sound Below (negative_to low mark)
  unfolding negative_to
  sound_below = Sound-then (Word (45 ∷ [])) (λ u. Mapped (λ n. negsuc (n - 1)) (Positive low mark)) (text_at (45 ∷ [])) (λ u. mapped (λ n. negsuc (n - 1)) (positive_to low mark)) (Sound-word (45 ∷ []))
      (λ u w s. Sound-mapped (λ n. negsuc (n - 1)) (Positive low mark) (positive_to low mark) (Sound-positive low mark low_small some apart))

  sound_above : Sound Above (natural_to high mark)
  unfolding natural_to
  sound_above = Sound-mapped (λ n. pos n) (Marked high mark) (number_to high mark) (Sound-marked high mark high_small apart)

  above_head : (z : ℤ) (w : List ℕ) → Above z w → (c : ℕ) × (t : List ℕ) × (w ≡ c ∷ t) × ((c == 45) ≡ false)
  above_head z w (n, z_is, (within, w_is)) =
      let (c, t, is, (low_digit, high_digit)) = decimal_head n mark (omega (arith, within, high_small)) in
      (c, t ++ mark ∷ [], w_is ∙ ap (λ (l : List ℕ). l ++ mark ∷ []) is, ne_eqb c 45 (λ same. omega (arith, same, low_digit)))

  to_int : (z : ℤ) (w : List ℕ) → Either Below Above z w → Int low high mark z w
  to_int z w (inl (u, v, x, v_is, (n, z_is, (above, (within, x_is))), w_is)) =
      let back : suc (n - 1) ≡ n = omega (arith, above) in
      subst (λ (y : ℤ). Int low high mark y w) (sym z_is) (omega (arith, above, within), join w_is v_is x_is ∙ ap (λ (k : ℕ). 45 ∷ decimal k ++ mark ∷ []) (sym back))
  to_int z w (inr (n, z_is, (within, w_is))) = subst (λ (y : ℤ). Int low high mark y w) (sym z_is) (within, w_is)

  from_int : (z : ℤ) (w : List ℕ) → Int low high mark z w → Either Below Above z w
  from_int (pos n) w (within, w_is) = inr (n, refl, (within, w_is))
  from_int (negsuc n) w (within, w_is) =
      let back : suc n - 1 ≡ n = omega arith in
      inl (tt, 45 ∷ [], decimal (suc n) ++ mark ∷ [], refl, (suc n, ap (λ (k : ℕ). negsuc k) (sym back), (omega arith, (within, refl))), w_is)

  pub Sound-int : Sound (Int low high mark) (int_to low high mark)
  unfolding int_to
  Sound-int =
      let some_above = sound_above.some in
      record {
        exact = Exact-same (Either Below Above) (Int low high mark) (int_to low high mark) to_int from_int
            (Exact-choice (λ c. c == 45) Below Above (negative_to low mark) (natural_to high mark) sound_below.exact sound_above.exact
            (λ z w (u, v, x, v_is, s, w_is). (45, x, w_is ∙ ap (λ (l : List ℕ). l ++ x) v_is, refl))
            above_head
            (some_above.0, some_above.1, inr some_above.2));
        some = (pos 0, decimal 0 ++ mark ∷ [], (omega arith, refl));
      }

-- ---- places

abbrev pub Place : Option ℕ → List ℕ → Type 0
Place = IsText (λ o. place_text o ++ 32 ∷ []) PlaceFits

abbrev NoPlace : Option ℕ → List ℕ → Type 0
NoPlace = Mapped (λ u. None) (Word (45 ∷ 32 ∷ []))

abbrev SomePlace : Option ℕ → List ℕ → Type 0
SomePlace = Mapped (λ n. Some n) (Marked (2 ^ 32 - 1) 32)

sound_no_place : Sound NoPlace no_place_at
unfolding no_place_at
sound_no_place = Sound-mapped (λ u. None) (Word (45 ∷ 32 ∷ [])) (text_at (45 ∷ 32 ∷ [])) (Sound-word (45 ∷ 32 ∷ []))

sound_some_place : Sound SomePlace some_place_at
unfolding some_place_at
sound_some_place = Sound-mapped (λ n. Some n) (Marked (2 ^ 32 - 1) 32) (number_to (2 ^ 32 - 1) 32) (Sound-marked (2 ^ 32 - 1) 32 (omega arith) no_space)

some_place_head : (o : Option ℕ) (w : List ℕ) → SomePlace o w → (c : ℕ) × (t : List ℕ) × (w ≡ c ∷ t) × ((c == 45) ≡ false)
some_place_head o w (n, o_is, (within, w_is)) =
    let (c, t, is, (low, high)) = decimal_head n 32 (omega (arith, within)) in
    (c, t ++ 32 ∷ [], w_is ∙ ap (λ (l : List ℕ). l ++ 32 ∷ []) is, ne_eqb c 45 (λ same. omega (arith, same, low)))

to_place : (o : Option ℕ) (w : List ℕ) → Either NoPlace SomePlace o w → Place o w
to_place o w (inl (u, o_is, w_is)) = subst (λ (x : Option ℕ). Place x w) (sym o_is) (tt, w_is)
to_place o w (inr (n, o_is, (within, w_is))) = subst (λ (x : Option ℕ). Place x w) (sym o_is) (omega (arith, within), w_is)

from_place : (o : Option ℕ) (w : List ℕ) → Place o w → Either NoPlace SomePlace o w
from_place None w (fits, w_is) = inl (tt, refl, w_is)
from_place (Some n) w (fits, w_is) = inr (n, refl, (omega (arith, fits), w_is))

pub Sound-place : Sound Place place_at
unfolding place_at
Sound-place = record {
  exact = Exact-same (Either NoPlace SomePlace) Place place_at to_place from_place
      (Exact-choice (λ c. c == 45) NoPlace SomePlace no_place_at some_place_at sound_no_place.exact sound_some_place.exact (λ o w (u, o_is, w_is). (45, 32 ∷ [], w_is, refl)) some_place_head (None, 45 ∷ 32 ∷ [], inl (tt, refl, refl)));
  some = (None, 45 ∷ 32 ∷ [], (tt, refl));
}

-- ---- whether a primitive is live

abbrev pub Live : Bool → List ℕ → Type 0
Live = IsText (λ b. live_mark b ∷ 32 ∷ []) (λ b. Unit {0})

abbrev is_mark : ℕ → Bool
is_mark c = c == 43 || c == 45

abbrev LiveParts : Bool → List ℕ → Type 0
LiveParts = Then (OneByte is_mark) (λ c. Mapped (λ u. c == 43) (Word (32 ∷ [])))

to_live : (b : Bool) (w : List ℕ) → LiveParts b w → Live b w
to_live b w (c, v, x, (is, v_is), (u, b_is, x_is), w_is) = subst (λ (y : Bool). Live y w) (sym b_is) (tt, join w_is v_is x_is ∙ ap (λ (y : ℕ). y ∷ 32 ∷ []) (mark_back c is))
  where
    mark_back : (c : ℕ) → is_mark c ≡ true → c ≡ live_mark (c == 43)
    mark_back c is = grind (arith, nat_tests)

from_live : (b : Bool) (w : List ℕ) → Live b w → LiveParts b w
from_live true w (fits, w_is) = (43, 43 ∷ [], 32 ∷ [], (refl, refl), (tt, refl, refl), w_is)
from_live false w (fits, w_is) = (45, 45 ∷ [], 32 ∷ [], (refl, refl), (tt, refl, refl), w_is)

pub Sound-live : Sound Live live_at
unfolding live_at
Sound-live = record {
  exact = Exact-same LiveParts Live live_at to_live from_live
      (Exact-then (OneByte is_mark) (λ c. Mapped (λ u. c == 43) (Word (32 ∷ []))) (byte_if is_mark) (λ c. mapped (λ u. c == 43) (text_at (32 ∷ []))) (Exact-byte is_mark 43 refl)
      (λ c w s. Exact-mapped (λ u. c == 43) (Word (32 ∷ [])) (text_at (32 ∷ [])) (Exact-word (32 ∷ [])))
      (λ c w s. (c == 43, 32 ∷ [], (tt, refl, refl))));
  some = (true, 43 ∷ 32 ∷ [], (tt, refl));
}

-- ---- names

abbrev pub Name : Option (List ℕ) → List ℕ → Type 0
Name = IsText (λ o. name_text o ++ 10 ∷ []) NameFits

abbrev NoName : Option (List ℕ) → List ℕ → Type 0
NoName = Mapped (λ u. None) (Word (45 ∷ 10 ∷ []))

abbrev SomeName : Option (List ℕ) → List ℕ → Type 0
SomeName = Then (Word (116 ∷ [])) (λ u. Mapped (λ t. Some t) (Marked_text 10 refl))

sound_no_name : Sound NoName no_name_at
unfolding no_name_at
sound_no_name = Sound-mapped (λ u. None) (Word (45 ∷ 10 ∷ [])) (text_at (45 ∷ 10 ∷ [])) (Sound-word (45 ∷ 10 ∷ []))

sound_some_name : Sound SomeName some_name_at
unfolding some_name_at
sound_some_name = Sound-then (Word (116 ∷ [])) (λ u. Mapped (λ t. Some t) (Marked_text 10 refl)) (text_at (116 ∷ [])) (λ u. mapped (λ t. Some t) (hex_to 10)) (Sound-word (116 ∷ []))
    (λ u w s. Sound-mapped (λ t. Some t) (Marked_text 10 refl) (hex_to 10) (Sound-text 10 refl))

to_name : (o : Option (List ℕ)) (w : List ℕ) → Either NoName SomeName o w → Name o w
to_name o w (inl (u, o_is, w_is)) = subst (λ (x : Option (List ℕ)). Name x w) (sym o_is) (tt, w_is)
to_name o w (inr (u, v, x, v_is, (t, o_is, (fits, x_is)), w_is)) = subst (λ (y : Option (List ℕ)). Name y w) (sym o_is) (fits, join w_is v_is x_is)

from_name : (o : Option (List ℕ)) (w : List ℕ) → Name o w → Either NoName SomeName o w
from_name None w (fits, w_is) = inl (tt, refl, w_is)
from_name (Some t) w (fits, w_is) = inr (tt, 116 ∷ [], hex_text t ++ 10 ∷ [], refl, (t, refl, (fits, refl)), w_is)

pub Sound-name : Sound Name name_at
unfolding name_at
Sound-name = record {
  exact = Exact-same (Either NoName SomeName) Name name_at to_name from_name
      (Exact-choice (λ c. c == 45) NoName SomeName no_name_at some_name_at sound_no_name.exact sound_some_name.exact (λ o w (u, o_is, w_is). (45, 10 ∷ [], w_is, refl))
      (λ o w (u, v, x, v_is, s, w_is). (116, x, w_is ∙ ap (λ (l : List ℕ). l ++ x) v_is, refl)) (None, 45 ∷ 10 ∷ [], inl (tt, refl, refl)));
  some = (None, 45 ∷ 10 ∷ [], (tt, refl));
}
