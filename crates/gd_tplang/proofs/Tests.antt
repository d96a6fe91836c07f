-- Values and tests are read exactly.
use Rattle.std.proofs.Common.{◌≡◌, refl, ◌⊎◌, inl, inr, ℕ, zero, suc, pos, negsuc, ◌+◌, ◌-◌, ◌*◌, ◌^◌, ◌<◌, ◌≤◌, Bool, true, false, not, ◌&&◌, ◌==◌, nat_le, if◌then◌else◌, List, [], ◌∷◌, ◌++◌, length, flat_map, Ok, Err, decimal, sym, ◌∙◌, ap, subst, arith, append_assoc, le-leb, eqb-true, ne_eqb}
use Rattle.std.specs.Prelude.{codes}
use Rattle.std.specs.Char.{is_ascii_digit}
use Rattle.std.proofs.lemmas.List.{append-nil}
use Rattle.std.proofs.lemmas.Fmt.{decimal_nonempty, decimal_digit}
use Rattle.gd_base.specs.declared.datum.Datum.{Datum}
use Rattle.gd_base.specs.declared.datum.Datum.TheVariants as datum
use Rattle.gd_prim.specs.Limits.{max_prims}
use Rattle.gd_prim.specs.declared.End.{End}
use Rattle.gd_prim.specs.declared.End.TheVariants.{Left, Right, Typ, Scope}
use Rattle.gd_grammar.specs.Grammar.{Reads, IsText, number_at, digits_at, more_at}
use Rattle.gd_grammar.proofs.Scans.{Begins, Ends, Stops, Found, Then, ok_of, ok_same, ends_nil, head_same, not_equal}
use Rattle.gd_grammar.proofs.Numbers.{Number, first_digit}
use Rattle.gd_grammar.specs.Choice.{is_byte, either_at, seen_at, behind_at, list_at}
use Rattle.gd_tplang.specs.Written.{Relation, equal, unequal, below, at_most, above, at_least, Test, end_is, is_object, place_in, place_not, value, value_in, value_like, end_text, relation_text, value_text, list_text, test_text, PlaceFits, TextFits, ValueFits, ListFits, TestFits, string_at, positive_at, int_at, value_at, end_at, bound_at, asked_at, begins_end, end_test_at, test_at}
use Rattle.gd_grammar.proofs.Exact.{Mapped}
use Rattle.gd_grammar.proofs.Good.{Good, Good-same, Good-less, Good-seen, Good-word, Good-behind, Good-either, Good-then, Good-and, Good-more, Good-number, Any, NoDigit, Means, Behind, More, Head}
use Rattle.gd_tplang.proofs.Strings.{Quoted, Good-string}

-- ---- numbers that are not 0

abbrev Positive : ℕ → ℕ → List ℕ → Type 0
Positive bound n w = (0 < n) × Number bound n w

zero_alone : (bound : ℕ) (t : List ℕ) → digits_at bound 0 t ≡ (0, t)
zero_alone bound [] = refl
zero_alone bound (c ∷ cs) = by (is_ascii_digit c)
  where
    by : (b : Bool) → (if b && not (0 == 0) && nat_le (10 * 0 + (c - 48)) bound then digits_at bound (10 * 0 + (c - 48)) cs else (0, c ∷ cs)) ≡ (0, c ∷ cs)
    by true = refl
    by false = refl

-- the decimal of a number that is not 0 does not begin with 0
not_zero_first : (n c : ℕ) (t : List ℕ) → 0 < n → n < 2 ^ 64 → decimal n ≡ c ∷ t → c ≡ 48 → ⊥
not_zero_first n c t some small is zero_is =
    let g = Good-number n small in
    let whole : number_at n (decimal n ++ []) ≡ Ok (n, []) = g.scans.all n (decimal n) [] (omega arith, refl) (ends_nil (Number n) (decimal n) [] refl) in
    let text : decimal n ++ [] ≡ 48 ∷ t = append-nil (decimal n) ∙ is ∙ ap (λ x. x ∷ t) zero_is in
    let read : number_at n (48 ∷ t) ≡ Ok (0, t) = ap (λ b. if b then Ok (digits_at n 0 t) else Err (48 ∷ t)) (le-leb 0 n (omega arith)) ∙ ap (λ r. ok_of r) (zero_alone n t) in
    let pairs = ok_same (sym whole ∙ ap (number_at n) text ∙ read) in
    let none : n ≡ 0 = ap (λ p. p.0) pairs in
    omega (arith, none, some)

module _ (bound : ℕ) (some : 0 < bound) (small : bound < 2 ^ 64) where
  numbers : Good NoDigit (Number bound) (number_at bound)
  numbers = Good-number bound small

  -- a number whose text begins with another byte than 0
  some_first : (n c : ℕ) (t : List ℕ) → n ≤ bound → decimal n ≡ c ∷ t → (c ≡ 48 → ⊥) → 0 < n
  some_first zero c t within is other = absurd (other (head_same (sym is ∙ decimal_digit 0 (omega arith))))
  some_first (suc n) c t within is other = omega arith

  less : (w rest : List ℕ) → Ends (Number bound) w rest → Ends (Positive bound) w rest
  less w rest ends b more e (n, v, m, (more_than, s), is) = ends b more e (n, v, m, s, is)

  abbrev by_zero : ℕ → List ℕ → Bool → Reads ℕ
  by_zero c cs t = if t then Err (c ∷ cs) else number_at bound (c ∷ cs)

  positive_found : (bytes : List ℕ) (n : ℕ) (rest : List ℕ) → positive_at bound bytes ≡ Ok (n, rest) → Found (Positive bound) bytes n rest
  positive_found [] n rest is = cc
  positive_found (c ∷ cs) n rest is = by (c == 48) refl is
    where
      by : (t : Bool) → (c == 48) ≡ t → (if t then Err (c ∷ cs) else number_at bound (c ∷ cs)) ≡ Ok (n, rest) → Found (Positive bound) (c ∷ cs) n rest
      by true e same = cc
      by false e same =
          let f = numbers.scans.found (c ∷ cs) n rest same in
          record { text = f.text; spelled = (first f.text f.spelled f.split, f.spelled); split = f.split; last = less f.text rest f.last }
        where
          first : (text : List ℕ) → Number bound n text → c ∷ cs ≡ text ++ rest → 0 < n
          first [] (within, is) split = let long = decimal_nonempty n (omega (arith, within, small)) in let none = ap length is in absurd (omega (arith, long, none))
          first (d ∷ text) (within, is) split = let same : c ≡ d = head_same split in some_first n d text within (sym is) (λ z. not_equal c 48 e (same ∙ z))

  begins_positive : (c : ℕ) (front m : List ℕ) (n : ℕ) (w : List ℕ) → (c ≡ 48 → ⊥) → Number bound n w → w ≡ (c ∷ front) ++ m → Positive bound n w
  begins_positive c front m n w other (within, w_is) is = (some_first n c (front ++ m) within (sym w_is ∙ is) other, (within, w_is))

  positive_all : (n : ℕ) (w rest : List ℕ) → Positive bound n w → Ends (Positive bound) w rest → positive_at bound (w ++ rest) ≡ Ok (n, rest)
  positive_all n w rest (more_than, (within, w_is)) ends = at w refl
    where
      at : (l : List ℕ) → w ≡ l → positive_at bound (w ++ rest) ≡ Ok (n, rest)
      at [] e = let long = decimal_nonempty n (omega (arith, within, small)) in let none = ap length (sym w_is ∙ e) in absurd (omega (arith, long, none))
      at (c ∷ t) e =
          let other : c ≡ 48 → ⊥ = not_zero_first n c t more_than (omega (arith, within, small)) (sym w_is ∙ e) in
          ap (λ l. positive_at bound (l ++ rest)) e ∙ ap (λ b. by_zero c (t ++ rest) b) (ne_eqb c 48 other) ∙ ap (λ l. number_at bound (l ++ rest)) (sym e)
          ∙ numbers.scans.all n w rest (within, w_is) (λ b more rest_is (n', v, m, s, is).
          ends b more rest_is (n', v, m, begins_positive c (t ++ (b ∷ [])) m n' v other s (is ∙ ap (λ l. (l ++ (b ∷ [])) ++ m) e), is))

  positive_stops : (bytes rest : List ℕ) → positive_at bound bytes ≡ Err rest → Stops (Positive bound) bytes rest
  positive_stops [] rest is = record { front = []; split = cc; begins = (1, decimal 1, decimal 1, (omega arith, (omega (arith, some), refl)), refl); last = λ b more e begun. cc }
  positive_stops (c ∷ cs) rest is = by (c == 48) refl is
    where
      by : (t : Bool) → (c == 48) ≡ t → (if t then Err (c ∷ cs) else number_at bound (c ∷ cs)) ≡ Err rest → Stops (Positive bound) (c ∷ cs) rest
      by true e same = record {
        front = [];
        split = cc;
        begins = (1, decimal 1, decimal 1, (omega arith, (omega (arith, some), refl)), refl);
        last = λ b more rest_is (n, w, m, (more_than, (within, w_is)), split).
            let b_is : c ≡ b = cc (same, rest_is) in
            not_zero_first n b m more_than (omega (arith, within, small)) (sym w_is ∙ split) (sym b_is ∙ eqb-true c 48 e);
      }
      by false e same =
          let s = numbers.scans.stops (c ∷ cs) rest same in
          record { front = s.front; split = s.split; begins = begun s.front s.split s.begins; last = less s.front rest s.last }
        where
          begun : (front : List ℕ) → c ∷ cs ≡ front ++ rest → Begins (Number bound) front → Begins (Positive bound) front
          begun [] split b = (1, decimal 1, decimal 1, (omega arith, (omega (arith, some), refl)), refl)
          begun (d ∷ front) split (n, w, m, s, is) = let same : c ≡ d = head_same split in (n, w, m, begins_positive d front m n w (λ z. not_equal c 48 e (same ∙ z)) s is, is)

  Good-positive : Good NoDigit (Positive bound) (positive_at bound)
  Good-positive = record {
    scans = record { found = positive_found; all = positive_all; stops = positive_stops };
    some = (1, decimal 1, (omega arith, (omega (arith, some), refl)));
    before = λ n v b t (more_than, s) no. less v (b ∷ t) (numbers.before n v b t s no);
  }

-- ---- alternatives

pub Good-or : {A : Type 0} {P : ℕ → Type 0} {first second : A → List ℕ → Type 0} {one two : List ℕ → Reads A} (test : ℕ → Bool) → Good P first one → Good P second two
    → ((a : A) (w : List ℕ) → first a w → Head (λ c. test c ≡ true) w) → ((a : A) (w : List ℕ) → second a w → Head (λ c. test c ≡ false) w) → Good P (λ a w. first a w ⊎ second a w) (either_at test one two)
Good-or {A} {P} {first} {second} {one} {two} test g h passing failing = Good-either P test first second one two g h passing failing

-- one of two, each of which begins so
pub heads : {A : Type 0} {Q : ℕ → Type 0} {first second : A → List ℕ → Type 0} → ((a : A) (w : List ℕ) → first a w → Head Q w) → ((a : A) (w : List ℕ) → second a w → Head Q w) → (a : A) (w : List ℕ) → first a w ⊎ second a w → Head Q w
heads one two a w (inl s) = one a w s
heads one two a w (inr s) = two a w s

-- ---- values

abbrev IntText : Datum → List ℕ → Type 0
IntText d w = Behind (codes "-") (λ n. datum.Int (negsuc (n - 1))) (Positive 9_223_372_036_854_775_808) d w ⊎ Mapped (λ n. datum.Int (pos n)) (Number 9_223_372_036_854_775_807) d w

number_head : (bound n : ℕ) (w : List ℕ) → bound < 2 ^ 64 → Number bound n w → Head (λ c. (48 ≤ c) × (c ≤ 57)) w
number_head bound n w small (within, w_is) = at (decimal n) refl
  where
    at : (l : List ℕ) → decimal n ≡ l → Head (λ c. (48 ≤ c) × (c ≤ 57)) w
    at [] e = let long = decimal_nonempty n (omega (arith, within, small)) in let none = ap length e in absurd (omega (arith, long, none))
    at (c ∷ t) e = (c, t, w_is ∙ e, first_digit n c t (omega (arith, within, small)) e)

Good-int : Good NoDigit IntText int_at
unfolding int_at
Good-int = Good-or (is_byte 45)
    (Good-behind NoDigit (codes "-") (λ n. datum.Int (negsuc (n - 1))) (Positive 9_223_372_036_854_775_808) (positive_at 9_223_372_036_854_775_808) (Good-positive 9_223_372_036_854_775_808 (omega arith) (omega arith)))
    (Good-seen NoDigit (λ n. datum.Int (pos n)) (Number 9_223_372_036_854_775_807) (number_at 9_223_372_036_854_775_807) (Good-number 9_223_372_036_854_775_807 (omega arith)))
    (λ d w (n, v, d_is, s, w_is). (45, v, w_is, refl))
    (λ d w (n, d_is, s). let (c, t, w_is, (low, high)) = number_head 9_223_372_036_854_775_807 n w (omega arith) s in (c, t, w_is, ne_eqb c 45 (λ e. omega (arith, e, low))))

-- the bytes with which a number begins
int_head : (d : Datum) (w : List ℕ) → IntText d w → Head (λ c. (45 ≤ c) × (c ≤ 57)) w
int_head d w (inl (n, v, d_is, s, w_is)) = (45, v, w_is, (omega arith, omega arith))
int_head d w (inr (n, d_is, s)) = let (c, t, w_is, (low, high)) = number_head 9_223_372_036_854_775_807 n w (omega arith) s in (c, t, w_is, (omega (arith, low), high))

no_byte : (k : ℕ) → 57 < k → (d : Datum) (w : List ℕ) → IntText d w → Head (λ c. is_byte k c ≡ false) w
no_byte k far d w s = let (c, t, w_is, (low, high)) = int_head d w s in (c, t, w_is, ne_eqb c k (λ e. omega (arith, e, high, far)))

no_quote : (d : Datum) (w : List ℕ) → IntText d w → Head (λ c. is_byte 34 c ≡ false) w
no_quote d w s = let (c, t, w_is, (low, high)) = int_head d w s in (c, t, w_is, ne_eqb c 34 (λ e. omega (arith, e, low)))

abbrev pub ValueText : Datum → List ℕ → Type 0
ValueText = IsText value_text ValueFits

any_less : {A : Type 0} {spells : A → List ℕ → Type 0} {read : List ℕ → Reads A} {P : ℕ → Type 0} → Good Any spells read → Good P spells read
any_less {A} {spells} {read} g = Good-less spells read (λ b p. tt) g

pub Good-value : Good NoDigit ValueText value_at
unfolding value_at
Good-value = Good-same (λ d w. Mapped (λ t. datum.Text t) Quoted d w ⊎ (Means (codes "true") (datum.Bool true) d w ⊎ (Means (codes "false") (datum.Bool false) d w ⊎ IntText d w))) ValueText value_at to from
    (Good-or (is_byte 34) (Good-seen NoDigit (λ t. datum.Text t) Quoted string_at (any_less Good-string))
    (Good-or (is_byte 116) (Good-word NoDigit (codes "true") (datum.Bool true))
    (Good-or (is_byte 102) (Good-word NoDigit (codes "false") (datum.Bool false)) Good-int (λ d w (d_is, w_is). (102, codes "alse", w_is, refl)) (no_byte 102 (omega arith)))
    (λ d w (d_is, w_is). (116, codes "rue", w_is, refl)) (heads (λ d w (d_is, w_is). (102, codes "alse", w_is, refl)) (no_byte 116 (omega arith))))
    (λ d w (t, d_is, (fits, w_is)). (34, _, w_is, refl))
    (heads (λ d w (d_is, w_is). (116, codes "rue", w_is, refl)) (heads (λ d w (d_is, w_is). (102, codes "alse", w_is, refl)) no_quote)))
  where
    to : (d : Datum) (w : List ℕ) → Mapped (λ t. datum.Text t) Quoted d w ⊎ (Means (codes "true") (datum.Bool true) d w ⊎ (Means (codes "false") (datum.Bool false) d w ⊎ IntText d w)) → ValueText d w
    to d w (inl (t, d_is, (fits, w_is))) = subst (λ x. ValueText x w) (sym d_is) (fits, w_is)
    to d w (inr (inl (d_is, w_is))) = subst (λ x. ValueText x w) (sym d_is) (tt, w_is)
    to d w (inr (inr (inl (d_is, w_is)))) = subst (λ x. ValueText x w) (sym d_is) (tt, w_is)
    to d w (inr (inr (inr (inl (n, v, d_is, (some, (within, v_is)), w_is))))) =
        let whole : n ≡ n - 1 + 1 = omega (arith, some) in
        subst (λ x. ValueText x w) (sym d_is) (omega (arith, within), w_is ∙ ap (λ l. 45 ∷ l) v_is ∙ ap (λ k. 45 ∷ decimal k) whole)
    to d w (inr (inr (inr (inr (n, d_is, (within, w_is)))))) = subst (λ x. ValueText x w) (sym d_is) (within, w_is)

    from : (d : Datum) (w : List ℕ) → ValueText d w → Mapped (λ t. datum.Text t) Quoted d w ⊎ (Means (codes "true") (datum.Bool true) d w ⊎ (Means (codes "false") (datum.Bool false) d w ⊎ IntText d w))
    from (datum.Text t) w (fits, w_is) = inl (t, refl, (fits, w_is))
    from (datum.Bool true) w (fits, w_is) = inr (inl (refl, w_is))
    from (datum.Bool false) w (fits, w_is) = inr (inr (inl (refl, w_is)))
    from (datum.Int (negsuc n)) w (fits, w_is) = let less : n ≡ n + 1 - 1 = omega arith in inr (inr (inr (inl (n + 1, decimal (n + 1), ap (λ k. datum.Int (negsuc k)) less, (omega arith, (omega (arith, fits), refl)), w_is))))
    from (datum.Int (pos n)) w (fits, w_is) = inr (inr (inr (inr (n, refl, (fits, w_is)))))
    from (datum.Moment ms precision) w (fits, w_is) = absurd fits
    from (datum.Object o) w (fits, w_is) = absurd fits
    from datum.Empty w (fits, w_is) = absurd fits

-- the bytes with which a value begins: none is `=`
value_head : (d : Datum) (w : List ℕ) → ValueText d w → Head (λ c. is_byte 61 c ≡ false) w
value_head (datum.Text t) w (fits, w_is) = (34, _, w_is, refl)
value_head (datum.Bool true) w (fits, w_is) = (116, codes "rue", w_is, refl)
value_head (datum.Bool false) w (fits, w_is) = (102, codes "alse", w_is, refl)
value_head (datum.Int (negsuc n)) w (fits, w_is) = (45, decimal (n + 1), w_is, refl)
value_head (datum.Int (pos n)) w (fits, w_is) = let (c, t, is, (low, high)) = number_head 9_223_372_036_854_775_807 n w (omega arith) (fits, w_is) in (c, t, is, ne_eqb c 61 (λ e. omega (arith, e, high)))
value_head (datum.Moment ms precision) w (fits, w_is) = absurd fits
value_head (datum.Object o) w (fits, w_is) = absurd fits
value_head datum.Empty w (fits, w_is) = absurd fits

-- ---- lists

-- what ends an item of a template
abbrev pub Closing : ℕ → Type 0
Closing b = (b ≡ 32) ⊎ (b ≡ 41)

pub closing_no_digit : (b : ℕ) → Closing b → NoDigit b
closing_no_digit b (inl e) (low, high) = omega (arith, e, low)
closing_no_digit b (inr e) (low, high) = omega (arith, e, low)

closing_no_bar : (b : ℕ) → Closing b → b ≡ 124 → ⊥
closing_no_bar b (inl e) is = omega (arith, e, is)
closing_no_bar b (inr e) is = omega (arith, e, is)

bar : NoDigit 124
bar (low, high) = omega (arith, high)

module _ {A : Type 0} (spelling : A → List ℕ) (Fits : A → Type 0) (one : List ℕ → Reads A) (g : Good NoDigit (IsText spelling Fits) one) where
  abbrev Behind_bars : ℕ → List A → List ℕ → Type 0
  Behind_bars = More Closing NoDigit spelling Fits one 124 g bar closing_no_digit closing_no_bar

  abbrev List_parts : List A → List ℕ → Type 0
  List_parts = Then (IsText spelling Fits) (λ x. Mapped (λ xs. x ∷ xs) (Behind_bars 63))

  more_head : (xs : List A) (w : List ℕ) → Behind_bars 63 xs w → ((w ≡ []) × ((b : ℕ) → Closing b → NoDigit b)) ⊎ Head NoDigit w
  more_head [] w (few, each, w_is) = inl (w_is, closing_no_digit)
  more_head (x ∷ xs) w (few, each, w_is) = inr (124, _, w_is, bar)

  to_list : (xs : List A) (w : List ℕ) → List_parts xs w → IsText (list_text spelling) (ListFits Fits) xs w
  to_list xs w (x, v, u, (fits, v_is), (ys, xs_is, (few, each, u_is)), w_is) =
      subst (λ l. IsText (list_text spelling) (ListFits Fits) l w) (sym xs_is) ((fits, few, each), w_is ∙ ap (λ l. l ++ u) v_is ∙ ap (λ l. spelling x ++ l) u_is)

  from_list : (xs : List A) (w : List ℕ) → IsText (list_text spelling) (ListFits Fits) xs w → List_parts xs w
  from_list [] w (fits, w_is) = absurd fits
  from_list (x ∷ xs) w ((fits, few, each), w_is) = (x, spelling x, flat_map (λ y. codes "|" ++ spelling y) xs, (fits, refl), (xs, refl, (few, each, refl)), w_is)

  pub Good-list : Good Closing (IsText (list_text spelling) (ListFits Fits)) (list_at 63 124 one)
  Good-list = Good-same List_parts (IsText (list_text spelling) (ListFits Fits)) (list_at 63 124 one) to_list from_list
      (Good-then Closing NoDigit (IsText spelling Fits) (λ x. Mapped (λ xs. x ∷ xs) (Behind_bars 63)) one (λ x. seen_at (λ xs. x ∷ xs) (more_at 63 124 one)) g
      (λ x w s. Good-seen Closing (λ xs. x ∷ xs) (Behind_bars 63) (more_at 63 124 one) (Good-more Closing NoDigit spelling Fits one 124 g bar closing_no_digit closing_no_bar 63))
      (λ x v xs u s (ys, xs_is, m). more_head ys u m))

abbrev Places : List ℕ → List ℕ → Type 0
Places = IsText (list_text decimal) (ListFits PlaceFits)

Good-place : Good NoDigit (Number max_prims) (number_at max_prims)
Good-place = Good-number max_prims (omega arith)

Good-places : Good Closing Places (list_at 63 124 (number_at max_prims))
Good-places = Good-list decimal PlaceFits (number_at max_prims) Good-place

abbrev Values : List Datum → List ℕ → Type 0
Values = IsText (list_text value_text) (ListFits ValueFits)

Good-values : Good Closing Values (list_at 63 124 value_at)
Good-values = Good-list value_text ValueFits value_at Good-value

-- ---- ends

abbrev pub EndText : End → List ℕ → Type 0
EndText = IsText end_text (λ e. Unit {0})

pub end_head : (e : End) (w : List ℕ) → EndText e w → Head (λ c. begins_end c ≡ true) w
end_head Left w (fits, w_is) = (108, codes "eft", w_is, refl)
end_head Right w (fits, w_is) = (114, codes "ight", w_is, refl)
end_head Typ w (fits, w_is) = (116, codes "ype", w_is, refl)
end_head Scope w (fits, w_is) = (115, codes "cope", w_is, refl)

pub Good-end : Good Any EndText end_at
unfolding end_at
Good-end = Good-same (λ e w. Means (codes "left") Left e w ⊎ (Means (codes "right") Right e w ⊎ (Means (codes "type") Typ e w ⊎ Means (codes "scope") Scope e w))) EndText end_at to from
    (Good-or (is_byte 108) (Good-word Any (codes "left") Left)
    (Good-or (is_byte 114) (Good-word Any (codes "right") Right)
    (Good-or (is_byte 116) (Good-word Any (codes "type") Typ) (Good-word Any (codes "scope") Scope) (λ e w (e_is, w_is). (116, codes "ype", w_is, refl)) (λ e w (e_is, w_is). (115, codes "cope", w_is, refl)))
    (λ e w (e_is, w_is). (114, codes "ight", w_is, refl)) (heads (λ e w (e_is, w_is). (116, codes "ype", w_is, refl)) (λ e w (e_is, w_is). (115, codes "cope", w_is, refl))))
    (λ e w (e_is, w_is). (108, codes "eft", w_is, refl))
    (heads (λ e w (e_is, w_is). (114, codes "ight", w_is, refl)) (heads (λ e w (e_is, w_is). (116, codes "ype", w_is, refl)) (λ e w (e_is, w_is). (115, codes "cope", w_is, refl)))))
  where
    to : (e : End) (w : List ℕ) → Means (codes "left") Left e w ⊎ (Means (codes "right") Right e w ⊎ (Means (codes "type") Typ e w ⊎ Means (codes "scope") Scope e w)) → EndText e w
    to e w (inl (e_is, w_is)) = subst (λ x. EndText x w) (sym e_is) (tt, w_is)
    to e w (inr (inl (e_is, w_is))) = subst (λ x. EndText x w) (sym e_is) (tt, w_is)
    to e w (inr (inr (inl (e_is, w_is)))) = subst (λ x. EndText x w) (sym e_is) (tt, w_is)
    to e w (inr (inr (inr (e_is, w_is)))) = subst (λ x. EndText x w) (sym e_is) (tt, w_is)

    from : (e : End) (w : List ℕ) → EndText e w → Means (codes "left") Left e w ⊎ (Means (codes "right") Right e w ⊎ (Means (codes "type") Typ e w ⊎ Means (codes "scope") Scope e w))
    from Left w (fits, w_is) = inl (refl, w_is)
    from Right w (fits, w_is) = inr (inl (refl, w_is))
    from Typ w (fits, w_is) = inr (inr (inl (refl, w_is)))
    from Scope w (fits, w_is) = inr (inr (inr (refl, w_is)))

-- ---- tests

abbrev Bound : List ℕ → Relation → Relation → Test → List ℕ → Type 0
Bound word strict loose = Behind word (λ (t : Test). t) (λ t w. Behind (codes "=") (value loose) ValueText t w ⊎ Mapped (value strict) ValueText t w)

closing_less : {A : Type 0} {spells : A → List ℕ → Type 0} {read : List ℕ → Reads A} → Good NoDigit spells read → Good Closing spells read
closing_less {A} {spells} {read} g = Good-less spells read closing_no_digit g

Good-bound : (word : List ℕ) (strict loose : Relation) → Good Closing (Bound word strict loose) (bound_at word strict loose)
unfolding bound_at
Good-bound word strict loose = Good-behind Closing word (λ t. t) (λ t w. Behind (codes "=") (value loose) ValueText t w ⊎ Mapped (value strict) ValueText t w) (either_at (is_byte 61) (behind_at (codes "=") (value loose) value_at) (seen_at (value strict) value_at))
    (Good-or (is_byte 61) (Good-behind Closing (codes "=") (value loose) ValueText value_at (closing_less Good-value)) (Good-seen Closing (value strict) ValueText value_at (closing_less Good-value))
    (λ t w (d, v, t_is, s, w_is). (61, v, w_is, refl)) (λ t w (d, t_is, s). value_head d w s))

abbrev Asked : Test → List ℕ → Type 0
Asked t w = Behind (codes "=") (value equal) ValueText t w ⊎ (Behind (codes "!=") (value unequal) ValueText t w ⊎ (Behind (codes "|=") value_in Values t w ⊎ (Behind (codes "~=") value_like Quoted t w ⊎ (Bound (codes "<") below at_most t w ⊎ Bound (codes ">") above at_least t w))))

Good-asked : Good Closing Asked asked_at
unfolding asked_at
Good-asked =
    Good-or (is_byte 61) (Good-behind Closing (codes "=") (value equal) ValueText value_at (closing_less Good-value))
    (Good-or (is_byte 33) (Good-behind Closing (codes "!=") (value unequal) ValueText value_at (closing_less Good-value))
    (Good-or (is_byte 124) (Good-behind Closing (codes "|=") value_in Values (list_at 63 124 value_at) Good-values)
    (Good-or (is_byte 126) (Good-behind Closing (codes "~=") value_like Quoted string_at (any_less Good-string))
    (Good-or (is_byte 60) (Good-bound (codes "<") below at_most) (Good-bound (codes ">") above at_least) (λ t w (d, v, t_is, s, w_is). (60, v, w_is, refl)) (λ t w (d, v, t_is, s, w_is). (62, v, w_is, refl)))
    (λ t w (d, v, t_is, s, w_is). (126, _, w_is, refl)) (heads (λ t w (d, v, t_is, s, w_is). (60, v, w_is, refl)) (λ t w (d, v, t_is, s, w_is). (62, v, w_is, refl))))
    (λ t w (d, v, t_is, s, w_is). (124, _, w_is, refl)) (heads (λ t w (d, v, t_is, s, w_is). (126, _, w_is, refl)) (heads (λ t w (d, v, t_is, s, w_is). (60, v, w_is, refl)) (λ t w (d, v, t_is, s, w_is). (62, v, w_is, refl)))))
    (λ t w (d, v, t_is, s, w_is). (33, _, w_is, refl))
    (heads (λ t w (d, v, t_is, s, w_is). (124, _, w_is, refl)) (heads (λ t w (d, v, t_is, s, w_is). (126, _, w_is, refl)) (heads (λ t w (d, v, t_is, s, w_is). (60, v, w_is, refl)) (λ t w (d, v, t_is, s, w_is). (62, v, w_is, refl))))))
    (λ t w (d, v, t_is, s, w_is). (61, v, w_is, refl))
    (heads (λ t w (d, v, t_is, s, w_is). (33, _, w_is, refl))
    (heads (λ t w (d, v, t_is, s, w_is). (124, _, w_is, refl)) (heads (λ t w (d, v, t_is, s, w_is). (126, _, w_is, refl)) (heads (λ t w (d, v, t_is, s, w_is). (60, v, w_is, refl)) (λ t w (d, v, t_is, s, w_is). (62, v, w_is, refl))))))

abbrev EndTest : Test → List ℕ → Type 0
EndTest = Then EndText (λ e. Behind (codes "=") (end_is e) (Number max_prims))

Good-end-test : Good Closing EndTest end_test_at
unfolding end_test_at
Good-end-test = Good-and Closing EndText (λ e. Behind (codes "=") (end_is e) (Number max_prims)) end_at (λ e. behind_at (codes "=") (end_is e) (number_at max_prims)) Good-end
    (λ e w s. Good-behind Closing (codes "=") (end_is e) (Number max_prims) (number_at max_prims) (closing_less Good-place))

end_test_head : (t : Test) (w : List ℕ) → EndTest t w → Head (λ c. begins_end c ≡ true) w
end_test_head t w (e, v, u, s, b, w_is) = let (c, x, v_is, passes) = end_head e v s in (c, x ++ u, w_is ∙ ap (λ l. l ++ u) v_is, passes)

abbrev Parts : Test → List ℕ → Type 0
Parts t w = EndTest t w ⊎ (Means (codes "object") is_object t w ⊎ (Behind (codes "at=") place_in Places t w ⊎ (Behind (codes "not=") place_not (Number max_prims) t w ⊎ Behind (codes "value") (λ (x : Test). x) Asked t w)))

Good-parts : Good Closing Parts test_at
unfolding test_at
Good-parts = Good-or begins_end Good-end-test
    (Good-or (is_byte 111) (Good-word Closing (codes "object") is_object)
    (Good-or (is_byte 97) (Good-behind Closing (codes "at=") place_in Places (list_at 63 124 (number_at max_prims)) Good-places)
    (Good-or (is_byte 110) (Good-behind Closing (codes "not=") place_not (Number max_prims) (number_at max_prims) (closing_less Good-place)) (Good-behind Closing (codes "value") (λ x. x) Asked asked_at Good-asked)
    (λ t w (d, v, t_is, s, w_is). (110, _, w_is, refl)) (λ t w (d, v, t_is, s, w_is). (118, _, w_is, refl)))
    (λ t w (d, v, t_is, s, w_is). (97, _, w_is, refl)) (heads (λ t w (d, v, t_is, s, w_is). (110, _, w_is, refl)) (λ t w (d, v, t_is, s, w_is). (118, _, w_is, refl))))
    (λ t w (t_is, w_is). (111, _, w_is, refl)) (heads (λ t w (d, v, t_is, s, w_is). (97, _, w_is, refl)) (heads (λ t w (d, v, t_is, s, w_is). (110, _, w_is, refl)) (λ t w (d, v, t_is, s, w_is). (118, _, w_is, refl)))))
    end_test_head
    (heads (λ t w (t_is, w_is). (111, _, w_is, refl)) (heads (λ t w (d, v, t_is, s, w_is). (97, _, w_is, refl)) (heads (λ t w (d, v, t_is, s, w_is). (110, _, w_is, refl)) (λ t w (d, v, t_is, s, w_is). (118, _, w_is, refl)))))

-- ---- the parts are the spelling

abbrev pub TestText : Test → List ℕ → Type 0
TestText = IsText test_text TestFits

-- a value that stands so to another
compared : (r : Relation) (d : Datum) (t : Test) (w u v : List ℕ) → t ≡ value r d → ValueFits d → w ≡ codes "value" ++ (relation_text r ++ value_text d) → TestText t w
compared r d t w u v t_is fits w_is = subst (λ x. TestText x w) (sym t_is) (fits, w_is)

to_bound : (word : List ℕ) (strict loose : Relation) → relation_text strict ≡ word → relation_text loose ≡ word ++ codes "=" → (t : Test) (u w : List ℕ) → Bound word strict loose t u → w ≡ codes "value" ++ u → TestText t w
to_bound word strict loose strict_is loose_is t u w (t', v, t_is, inl (d, x, t'_is, (fits, x_is), v_is), u_is) w_is =
    subst (λ y. TestText y w) (sym (t_is ∙ t'_is)) (fits, w_is ∙ ap (λ l. codes "value" ++ l) (u_is ∙ ap (λ l. word ++ l) (v_is ∙ ap (λ l. codes "=" ++ l) x_is) ∙ sym (append_assoc word (codes "=") (value_text d)) ∙ ap (λ l. l ++ value_text d) (sym loose_is)))
to_bound word strict loose strict_is loose_is t u w (t', v, t_is, inr (d, t'_is, (fits, v_is)), u_is) w_is =
    subst (λ y. TestText y w) (sym (t_is ∙ t'_is)) (fits, w_is ∙ ap (λ l. codes "value" ++ l) (u_is ∙ ap (λ l. word ++ l) v_is ∙ ap (λ l. l ++ value_text d) (sym strict_is)))

to_asked : (t : Test) (u w : List ℕ) → Asked t u → w ≡ codes "value" ++ u → TestText t w
to_asked t u w (inl (d, v, t_is, (fits, v_is), u_is)) w_is = subst (λ x. TestText x w) (sym t_is) (fits, w_is ∙ ap (λ l. codes "value" ++ l) (u_is ∙ ap (λ l. codes "=" ++ l) v_is))
to_asked t u w (inr (inl (d, v, t_is, (fits, v_is), u_is))) w_is = subst (λ x. TestText x w) (sym t_is) (fits, w_is ∙ ap (λ l. codes "value" ++ l) (u_is ∙ ap (λ l. codes "!=" ++ l) v_is))
to_asked t u w (inr (inr (inl (ds, v, t_is, (fits, v_is), u_is)))) w_is = subst (λ x. TestText x w) (sym t_is) (fits, w_is ∙ ap (λ l. codes "value" ++ l) (u_is ∙ ap (λ l. codes "|=" ++ l) v_is))
to_asked t u w (inr (inr (inr (inl (s, v, t_is, (fits, v_is), u_is))))) w_is = subst (λ x. TestText x w) (sym t_is) (fits, w_is ∙ ap (λ l. codes "value" ++ l) (u_is ∙ ap (λ l. codes "~=" ++ l) v_is))
to_asked t u w (inr (inr (inr (inr (inl b))))) w_is = to_bound (codes "<") below at_most refl refl t u w b w_is
to_asked t u w (inr (inr (inr (inr (inr b))))) w_is = to_bound (codes ">") above at_least refl refl t u w b w_is

to_test : (t : Test) (w : List ℕ) → Parts t w → TestText t w
to_test t w (inl (e, v, u, (unit, v_is), (n, x, t_is, (fits, x_is), u_is), w_is)) = subst (λ y. TestText y w) (sym t_is) (fits, w_is ∙ ap (λ l. l ++ u) v_is ∙ ap (λ l. end_text e ++ l) (u_is ∙ ap (λ l. codes "=" ++ l) x_is))
to_test t w (inr (inl (t_is, w_is))) = subst (λ y. TestText y w) (sym t_is) (tt, w_is)
to_test t w (inr (inr (inl (ns, v, t_is, (fits, v_is), w_is)))) = subst (λ y. TestText y w) (sym t_is) (fits, w_is ∙ ap (λ l. codes "at=" ++ l) v_is)
to_test t w (inr (inr (inr (inl (n, v, t_is, (fits, v_is), w_is))))) = subst (λ y. TestText y w) (sym t_is) (fits, w_is ∙ ap (λ l. codes "not=" ++ l) v_is)
to_test t w (inr (inr (inr (inr (t', u, t_is, asked, w_is))))) = subst (λ y. TestText y w) (sym t_is) (to_asked t' u w asked w_is)

-- what is asked of a value
asks : (t : Test) (w u : List ℕ) → Asked t u → w ≡ codes "value" ++ u → Parts t w
asks t w u asked w_is = inr (inr (inr (inr (t, u, refl, asked, w_is))))

from_test : (t : Test) (w : List ℕ) → TestText t w → Parts t w
from_test (end_is e n) w (fits, w_is) = inl (e, end_text e, codes "=" ++ decimal n, (tt, refl), (n, decimal n, refl, (fits, refl), refl), w_is)
from_test is_object w (fits, w_is) = inr (inl (refl, w_is))
from_test (place_in ns) w (fits, w_is) = inr (inr (inl (ns, list_text decimal ns, refl, (fits, refl), w_is)))
from_test (place_not n) w (fits, w_is) = inr (inr (inr (inl (n, decimal n, refl, (fits, refl), w_is))))
from_test (value equal d) w (fits, w_is) = asks (value equal d) w (codes "=" ++ value_text d) (inl (d, value_text d, refl, (fits, refl), refl)) w_is
from_test (value unequal d) w (fits, w_is) = asks (value unequal d) w (codes "!=" ++ value_text d) (inr (inl (d, value_text d, refl, (fits, refl), refl))) w_is
from_test (value below d) w (fits, w_is) = asks (value below d) w (codes "<" ++ value_text d) (inr (inr (inr (inr (inl (value below d, value_text d, refl, inr (d, refl, (fits, refl)), refl)))))) w_is
from_test (value at_most d) w (fits, w_is) = asks (value at_most d) w (codes "<=" ++ value_text d) (inr (inr (inr (inr (inl (value at_most d, codes "=" ++ value_text d, refl, inl (d, value_text d, refl, (fits, refl), refl), refl)))))) w_is
from_test (value above d) w (fits, w_is) = asks (value above d) w (codes ">" ++ value_text d) (inr (inr (inr (inr (inr (value above d, value_text d, refl, inr (d, refl, (fits, refl)), refl)))))) w_is
from_test (value at_least d) w (fits, w_is) = asks (value at_least d) w (codes ">=" ++ value_text d) (inr (inr (inr (inr (inr (value at_least d, codes "=" ++ value_text d, refl, inl (d, value_text d, refl, (fits, refl), refl), refl)))))) w_is
from_test (value_in ds) w (fits, w_is) = asks (value_in ds) w (codes "|=" ++ list_text value_text ds) (inr (inr (inl (ds, list_text value_text ds, refl, (fits, refl), refl)))) w_is
from_test (value_like t) w (fits, w_is) = asks (value_like t) w (codes "~=" ++ value_text (datum.Text t)) (inr (inr (inr (inl (t, value_text (datum.Text t), refl, (fits, refl), refl))))) w_is

pub Good-test : Good Closing TestText test_at
Good-test = Good-same Parts TestText test_at to_test from_test Good-parts

-- a test begins with another byte than a clause
pub test_head : (t : Test) (w : List ℕ) → TestText t w → Head (λ c. Rattle.gd_tplang.specs.Written.begins_clause c ≡ false) w
test_head (end_is Left n) w (fits, w_is) = (108, _, w_is, refl)
test_head (end_is Right n) w (fits, w_is) = (114, _, w_is, refl)
test_head (end_is Typ n) w (fits, w_is) = (116, _, w_is, refl)
test_head (end_is Scope n) w (fits, w_is) = (115, _, w_is, refl)
test_head is_object w (fits, w_is) = (111, _, w_is, refl)
test_head (place_in ns) w (fits, w_is) = (97, _, w_is, refl)
test_head (place_not n) w (fits, w_is) = (110, _, w_is, refl)
test_head (value r d) w (fits, w_is) = (118, _, w_is, refl)
test_head (value_in ds) w (fits, w_is) = (118, _, w_is, refl)
test_head (value_like t) w (fits, w_is) = (118, _, w_is, refl)

-- and with no bracket
pub test_start : (t : Test) (w : List ℕ) → TestText t w → Head (λ c. is_byte 41 c ≡ false) w
test_start (end_is Left n) w (fits, w_is) = (108, _, w_is, refl)
test_start (end_is Right n) w (fits, w_is) = (114, _, w_is, refl)
test_start (end_is Typ n) w (fits, w_is) = (116, _, w_is, refl)
test_start (end_is Scope n) w (fits, w_is) = (115, _, w_is, refl)
test_start is_object w (fits, w_is) = (111, _, w_is, refl)
test_start (place_in ns) w (fits, w_is) = (97, _, w_is, refl)
test_start (place_not n) w (fits, w_is) = (110, _, w_is, refl)
test_start (value r d) w (fits, w_is) = (118, _, w_is, refl)
test_start (value_in ds) w (fits, w_is) = (118, _, w_is, refl)
test_start (value_like t) w (fits, w_is) = (118, _, w_is, refl)

-- ---- what the numbers that are read are

pub number_read : (bound : ℕ) (bytes : List ℕ) (n : ℕ) (rest : List ℕ) → bound < 2 ^ 64 → number_at bound bytes ≡ Ok (n, rest) → n ≤ bound
number_read bound bytes n rest small is = ((Good-number bound small).scans.found bytes n rest is).spelled.0

pub positive_read : (bound : ℕ) (bytes : List ℕ) (n : ℕ) (rest : List ℕ) → 0 < bound → bound < 2 ^ 64 → positive_at bound bytes ≡ Ok (n, rest) → (0 < n) × (n ≤ bound)
positive_read bound bytes n rest some small is = let (more, (within, w_is)) = ((Good-positive bound some small).scans.found bytes n rest is).spelled in (more, within)
