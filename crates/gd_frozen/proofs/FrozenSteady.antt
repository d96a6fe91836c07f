-- The text of a frozen reading is read exactly.
use Rattle.std.proofs.Common.{◌≡◌, ◌∙◌, refl, sym, ap, subst, arith, ◌⊎◌, inl, inr, ℕ, zero, suc, ◌+◌, ◌<◌, ◌≤◌, ◌^◌, List, [], ◌∷◌, ◌++◌, length, map, flat_map, Bool, true, false, ◌&&◌, ◌||◌, ◌==◌, nat_lt, nat_le, if◌then◌else◌, Option, Some, None, Result, Ok, Err, append_assoc, decimal, codes, le-leb, leb-true, ltb-true, lt-ltb, eqb-true, eq-eqb, ne_eqb}
use Rattle.std.specs.Prelude.{IsTrue}
use Rattle.std.specs.Char.{is_ascii_digit}
use Rattle.std.specs.List.{AllByRecursion, list_all, join_with_byte}
use Rattle.std.proofs.lemmas.List.{append-nil}
use Rattle.std.proofs.lemmas.Bool.Decides.{nat_tests}
use Rattle.std.proofs.lemmas.Fmt.{decimal_nonempty}
use Rattle.gd_grammar.specs.Chain.{◌>>=◌}
use Rattle.gd_grammar.specs.Grammar.{Reads, IsText, text_at, number_at, more_at, whole, ended, with_offset}
use Rattle.gd_grammar.specs.Mark.{Mark, place_text}
use Rattle.gd_grammar.proofs.Scans.{Then, chain, Only, Says}
use Rattle.gd_grammar.proofs.Numbers.{Word, Number, first_digit}
use Rattle.gd_grammar.proofs.Steady.{Steady, Clear, nothing, only, either_of, clear_left, clear_right, Choice, choose, Steady-word, Steady-number, Steady-then, Steady-same, Steady-alike, Steady-only, Steady-choice, steady_says, steady_all, Few, Items, marked, further, Steady-few, Steady-items, behind_item}
use Rattle.gd_tree.specs.Trees.{Trees, TreeLists, no_lists, and_list, tree_lists_of, has_list}
use Rattle.gd_prim.specs.Limits.{max_prims, max_requests}
use Rattle.gd_bytes.specs.Cursor.{PlaceFits, place_at}
use Rattle.gd_bytes.specs.Frozen.{IterAt, Frame, Scan, Walk, by_guid, is_root, by_links, Body, scanning, building, printing, Frozen, max_number, row_text, after_text, bracketed, iter_text, trees_text, more_lists, lists_text, frame_text, scan_text, walk_text, body_text, spelling, place_in_bounds, key_in_bounds, row_in_bounds, after_in_bounds, iter_in_bounds, trees_in_bounds, lists_in_bounds, frame_in_bounds, scan_in_bounds, walk_in_bounds, body_in_bounds, Fits}
use Rattle.gd_bytes.specs.FrozenRead.{some_at, unless_closed, bracketed_at, row_at, after_at, mark_at, iter_at, walk_at}
use Rattle.gd_frozen.specs.Pieces.{trees_at}
use Rattle.gd_frozen.specs.FrozenAt.{all_at, one_or_more_at, lists_at, frame_at, scan_at, walks_at, building_at, printing_at, body_at, frozen_at, frozen_of}
use Rattle.gd_frozen.proofs.TreesSteady.{Trees_in, Steady-trees}

-- ---- single steps

free : (l : List ℕ) → Clear nothing l
free [] = tt
free (c ∷ cs) = refl

-- a word, and then something
word_then : {C : Type 0} (cs : List ℕ) (second : C → List ℕ → Type 0) (two : List ℕ → Reads C) (after : ℕ → Bool) → Steady second two after → Steady (Then (Word cs) (λ u. second)) (chain (text_at cs) (λ u. two)) after
word_then cs second two after next = Steady-then (Word cs) (λ u. second) (text_at cs) (λ u. two) nothing after (Steady-word cs) (λ u w is. next) (λ u c v rest s clear. free (v ++ rest))

-- something with which no byte goes on, and then another
shut_then : {A C : Type 0} (first : A → List ℕ → Type 0) (second : A → C → List ℕ → Type 0) (one : List ℕ → Reads A) (two : A → List ℕ → Reads C) (after : ℕ → Bool) → Steady first one nothing → ((a : A) → Steady (second a) (two a) after)
    → Steady (Then first second) (chain one two) after
shut_then first second one two after reads next = Steady-then first second one two nothing after reads (λ a w is. next a) (λ a c u rest s clear. free (u ++ rest))

-- something, then a word with whose first byte it does not go on, and then another
then_word : {A C : Type 0} (first : A → List ℕ → Type 0) (c : ℕ) (second : A → C → List ℕ → Type 0) (one : List ℕ → Reads A) (two : A → List ℕ → Reads C) (goes_on after : ℕ → Bool) → goes_on c ≡ false → Steady first one goes_on → ((a : A) → Steady (second a) (two a) after)
    → Steady (Then first (λ a. Then (Word (c ∷ [])) (λ u. second a))) (chain one (λ a. chain (text_at (c ∷ [])) (λ u. two a))) after
then_word first c second one two goes_on after apart reads next =
    Steady-then first (λ a. Then (Word (c ∷ [])) (λ u. second a)) one (λ a. chain (text_at (c ∷ [])) (λ u. two a)) goes_on after reads (λ a w is. word_then (c ∷ []) (second a) (two a) after (next a))
    (λ a b u rest (t, v, x, v_is, s, u_is) clear. subst (λ (l : List ℕ). Clear goes_on (l ++ rest)) (sym (u_is ∙ ap (λ (l : List ℕ). l ++ x) v_is)) apart)

-- the last thing is a value
then_only : {A C : Type 0} (first : A → List ℕ → Type 0) (make : A → C) (one : List ℕ → Reads A) (goes_on : ℕ → Bool) → Steady first one goes_on → Steady (Then first (λ a. Only (make a))) (chain one (λ a b. Ok (make a, b))) goes_on
then_only first make one goes_on reads = Steady-then first (λ a. Only (make a)) one (λ a b. Ok (make a, b)) goes_on goes_on reads (λ a w is. Steady-only (make a) goes_on) (λ a c u rest (same, none) clear. subst (λ (l : List ℕ). Clear goes_on (l ++ rest)) (sym none) clear)

-- a text whose last part is empty
no_more : {w v u : List ℕ} → w ≡ v ++ u → u ≡ [] → w ≡ v
no_more {w} {v} {u} is none = is ∙ ap (λ (l : List ℕ). v ++ l) none ∙ append-nil v

number_small : max_number < 2 ^ 64
number_small = omega arith

place_small : max_prims < 2 ^ 64
place_small = omega arith

dateline_small : max_requests < 2 ^ 64
dateline_small = omega arith

pub both : (a b : Bool) → (a && b) ≡ true → (a ≡ true) × (b ≡ true)
both true b e = (refl, e)
both false b e = cc

both_true : (a b : Bool) → a ≡ true → b ≡ true → (a && b) ≡ true
both_true a b p q = ap (λ (x : Bool). x && b) p ∙ q

-- ---- items

pub joined : {A : Type 0} (c : ℕ) (f : A → List ℕ) (w : List ℕ) (xs : List A) → join_with_byte c (w ∷ map f xs) ≡ w ++ flat_map (λ y. c ∷ f y) xs
joined c f w [] = sym (append-nil w)
joined c f w (y ∷ ys) = ap (λ (l : List ℕ). w ++ (c ∷ l)) (joined c f (f y) ys)

all_true : {A : Type 0} (test : A → Bool) (xs : List A) → AllByRecursion (λ x. test x ≡ true) xs → list_all test xs ≡ true
all_true test [] all = refl
all_true test (x ∷ xs) (p, all) = both_true (test x) (list_all test xs) p (all_true test xs all)

true_all : {A : Type 0} (test : A → Bool) (xs : List A) → list_all test xs ≡ true → AllByRecursion (λ x. test x ≡ true) xs
true_all test [] e = tt
true_all test (x ∷ xs) e = let p = both (test x) (list_all test xs) e in (p.0, true_all test xs p.1)

-- ---- places of keys

Key_fits : Option ℕ → Type 0
Key_fits k = key_in_bounds k ≡ true

-- no number begins with another byte than a digit
number_head : (bound n k : ℕ) (w rest : List ℕ) → bound < 2 ^ 64 → Number bound n w → is_ascii_digit k ≡ false → Clear (only k) (w ++ rest)
number_head bound n k w rest small (within, w_is) other = subst (λ (l : List ℕ). Clear (only k) (l ++ rest)) (sym w_is) (by (decimal n) refl)
  where
    by : (l : List ℕ) → decimal n ≡ l → Clear (only k) (l ++ rest)
    by [] e = let some = decimal_nonempty n (omega (arith, within, small)) in let none = ap length e in absurd (omega (arith, some, none))
    by (c ∷ t) e = let (low, high) = first_digit n c t (omega (arith, within, small)) e in grind (arith, nat_tests, other, low, high)

-- a number as a value
abbrev Counted : {C : Type 0} → ℕ → (ℕ → C) → C → List ℕ → Type 0
Counted bound make = Then (Number bound) (λ n. Only (make n))

counted_at : {C : Type 0} → ℕ → (ℕ → C) → List ℕ → Reads C
counted_at bound make = chain (number_at bound) (λ n b. Ok (make n, b))

Steady-counted : {C : Type 0} (bound : ℕ) (make : ℕ → C) → bound < 2 ^ 64 → Steady (Counted bound make) (chain (number_at bound) (λ n b. Ok (make n, b))) is_ascii_digit
Steady-counted bound make small = then_only (Number bound) make (number_at bound) is_ascii_digit (Steady-number bound small)

abbrev Place : Option ℕ → List ℕ → Type 0
Place = IsText place_text Key_fits

Steady-place : Steady Place place_at is_ascii_digit
unfolding Key_fits
Steady-place =
    Steady-same (Choice 45 (Only None) (Counted max_prims (λ n. Some n))) Place place_at is_ascii_digit is_ascii_digit to from (λ rest clear. clear)
    (Steady-alike (Choice 45 (Only None) (Counted max_prims (λ n. Some n))) (choose 45 (λ b. Ok (None, b)) (chain (number_at max_prims) (λ n b. Ok (Some n, b)))) place_at is_ascii_digit alike
    (Steady-choice 45 (Only None) (Counted max_prims (λ n. Some n)) (λ b. Ok (None, b)) (chain (number_at max_prims) (λ n b. Ok (Some n, b))) is_ascii_digit (Steady-only None is_ascii_digit) (Steady-counted max_prims (λ n. Some n) place_small)
    (λ k w rest (n, v, u, is, (k_is, none), w_is) clear. subst (λ (l : List ℕ). Clear (only 45) (l ++ rest)) (sym (no_more w_is none)) (number_head max_prims n 45 v rest place_small is refl))))
  where
    to : (k : Option ℕ) (w : List ℕ) → Choice 45 (Only None) (Counted max_prims (λ n. Some n)) k w → Place k w
    to k w (inl (u, w_is, (k_is, none))) = subst (λ (x : Option ℕ). Place x w) (sym k_is) (refl, w_is ∙ ap (λ (l : List ℕ). 45 ∷ l) none)
    to k w (inr (n, v, u, (within, v_is), (k_is, none), w_is)) = subst (λ (x : Option ℕ). Place x w) (sym k_is) (le-leb n max_prims within, no_more w_is none ∙ v_is)

    from : (k : Option ℕ) (w : List ℕ) → Place k w → Choice 45 (Only None) (Counted max_prims (λ n. Some n)) k w
    from None w (fit, is) = inl ([], is, (refl, refl))
    from (Some n) w (fit, is) = inr (n, w, [], (leb-true n max_prims fit, is), (refl, refl), sym (append-nil w))

    alike : (bytes : List ℕ) → choose 45 (λ b. Ok (None, b)) (chain (number_at max_prims) (λ n b. Ok (Some n, b))) bytes ≡ place_at bytes
    alike [] = refl
    alike (c ∷ cs) = refl

-- ---- rows

Row_fits : Mark → Type 0
Row_fits r = row_in_bounds r ≡ true

abbrev Row : Mark → List ℕ → Type 0
Row = IsText row_text Row_fits

-- the bytes with which a row goes on
abbrev row_more : ℕ → Bool
row_more = either_of is_ascii_digit (only 44)

abbrev Keys : List (Option ℕ) → List ℕ → Type 0
Keys = Few place_text Key_fits place_at is_ascii_digit Steady-place 44 refl 4

Steady-row : Steady Row row_at row_more
unfolding Row_fits Key_fits
Steady-row =
    Steady-same (Then (Number max_prims) (λ o. Then Keys (λ ks. Only (record { object = o; keys = ks })))) Row row_at row_more row_more to from (λ rest clear. clear)
    (Steady-then (Number max_prims) (λ o. Then Keys (λ ks. Only (record { object = o; keys = ks }))) (number_at max_prims) (λ o. chain (more_at 4 44 place_at) (λ ks b. Ok (record { object = o; keys = ks }, b))) is_ascii_digit row_more (Steady-number max_prims place_small)
    (λ o w is. then_only Keys (λ ks. record { object = o; keys = ks }) (more_at 4 44 place_at) row_more (Steady-few place_text Key_fits place_at is_ascii_digit Steady-place 44 refl 4))
    (λ o r u rest (ks, v, x, f, (r_is, none), u_is) clear. subst (λ (l : List ℕ). Clear is_ascii_digit (l ++ rest)) (sym (no_more u_is none)) (behind_item place_text Key_fits place_at is_ascii_digit Steady-place 44 refl 4 ks v rest f clear)))
  where
    to : (r : Mark) (w : List ℕ) → Then (Number max_prims) (λ o. Then Keys (λ ks. Only (record { object = o; keys = ks }))) r w → Row r w
    to r w (o, v, u, (within, v_is), (ks, x, y, f, (r_is, none), u_is), w_is) =
        subst (λ (z : Mark). Row z w) (sym r_is) (
          both_true (place_in_bounds o && nat_le (length ks) 4) (list_all key_in_bounds ks) (both_true (place_in_bounds o) (nat_le (length ks) 4) (le-leb o max_prims within) (le-leb (length ks) 4 f.few)) (all_true key_in_bounds ks f.each),
          w_is ∙ ap (λ (l : List ℕ). l ++ u) v_is ∙ ap (λ (l : List ℕ). decimal o ++ l) (no_more u_is none ∙ f.is) ∙ sym (joined 44 place_text (decimal o) ks),
        )

    from : (r : Mark) (w : List ℕ) → Row r w → Then (Number max_prims) (λ o. Then Keys (λ ks. Only (record { object = o; keys = ks }))) r w
    from r w (fit, is) =
        let two = both (place_in_bounds r.object && nat_le (length r.keys) 4) (list_all key_in_bounds r.keys) fit in
        let one = both (place_in_bounds r.object) (nat_le (length r.keys) 4) two.0 in
        let keys = flat_map (λ k. 44 ∷ place_text k) r.keys in (
          r.object,
          decimal r.object,
          keys,
          (leb-true r.object max_prims one.0, refl),
          (r.keys, keys, [], record { few = leb-true (length r.keys) 4 one.1; each = true_all key_in_bounds r.keys two.1; is = refl }, (refl, refl), sym (append-nil keys)),
          is ∙ joined 44 place_text (decimal r.object) r.keys,
        )

-- ---- the row after which a page begins

After_fits : Option Mark → Type 0
After_fits a = after_in_bounds a ≡ true

abbrev After : Option Mark → List ℕ → Type 0
After = IsText after_text After_fits

abbrev Given : Option Mark → List ℕ → Type 0
Given = Then (Word (codes "(")) (λ u. Then Row (λ r. Then (Word (codes ")")) (λ v. Only (Some r))))

abbrev given_at : List ℕ → Reads (Option Mark)
given_at = chain (text_at (codes "(")) (λ u. chain row_at (λ r. chain (text_at (codes ")")) (λ v b. Ok (Some r, b))))

Steady-given : Steady Given given_at nothing
Steady-given =
    word_then (codes "(") (Then Row (λ r. Then (Word (codes ")")) (λ v. Only (Some r)))) (chain row_at (λ r. chain (text_at (codes ")")) (λ v b. Ok (Some r, b)))) nothing
    (then_word Row 41 (λ r. Only (Some r)) row_at (λ r b. Ok (Some r, b)) row_more nothing refl Steady-row (λ r. Steady-only (Some r) nothing))

Steady-after : Steady After after_at nothing
unfolding After_fits Row_fits
Steady-after =
    Steady-same (Choice 45 (Only None) Given) After after_at nothing nothing to from (λ rest clear. clear)
    (Steady-alike (Choice 45 (Only None) Given) (choose 45 (λ b. Ok (None, b)) given_at) after_at nothing alike
    (Steady-choice 45 (Only None) Given (λ b. Ok (None, b)) given_at nothing (Steady-only None nothing) Steady-given
    (λ a w rest (t, v, u, v_is, s, w_is) clear. subst (λ (l : List ℕ). Clear (only 45) (l ++ rest)) (sym (w_is ∙ ap (λ (l : List ℕ). l ++ u) v_is)) refl)))
  where
    to : (a : Option Mark) (w : List ℕ) → Choice 45 (Only None) Given a w → After a w
    to a w (inl (u, w_is, (a_is, none))) = subst (λ (x : Option Mark). After x w) (sym a_is) (refl, w_is ∙ ap (λ (l : List ℕ). 45 ∷ l) none)
    to a w (inr (t, v, u, v_is, (r, x, y, (fit, x_is), (t', p, q, p_is, (a_is, none), y_is), u_is), w_is)) =
        let text : v ++ (x ++ (p ++ q)) ≡ codes "(" ++ row_text r ++ codes ")" = ap (λ (l : List ℕ). l ++ (x ++ (p ++ q))) v_is ∙ ap (λ (l : List ℕ). 40 ∷ (l ++ (p ++ q))) x_is ∙ ap (λ (l : List ℕ). 40 ∷ (row_text r ++ (l ++ q))) p_is ∙ ap (λ (l : List ℕ). 40 ∷ (row_text r ++ (41 ∷ l))) none in
        subst (λ (z : Option Mark). After z w) (sym a_is) (fit, w_is ∙ ap (λ (l : List ℕ). v ++ l) (u_is ∙ ap (λ (l : List ℕ). x ++ l) y_is) ∙ text)

    from : (a : Option Mark) (w : List ℕ) → After a w → Choice 45 (Only None) Given a w
    from None w (fit, is) = inl ([], is, (refl, refl))
    from (Some r) w (fit, is) = inr (tt, codes "(", row_text r ++ codes ")", refl, (r, row_text r, codes ")", (fit, refl), (tt, codes ")", [], refl, (refl, refl), refl), refl), is)

    alike : (bytes : List ℕ) → choose 45 (λ b. Ok (None, b)) given_at bytes ≡ after_at bytes
    alike [] = refl
    alike (c ∷ cs) = refl

-- ---- positions of iterators

Iter_fits : IterAt → Type 0
Iter_fits i = iter_in_bounds i ≡ true

abbrev Iter : IterAt → List ℕ → Type 0
Iter = IsText iter_text Iter_fits

abbrev iter_more : ℕ → Bool
iter_more = either_of is_ascii_digit (only 63)

abbrev Accepted : Option ℕ → List ℕ → Type 0
Accepted = Choice 63 (Counted max_number (λ m. Some m)) (Only None)

Steady-mark : Steady Accepted mark_at iter_more
Steady-mark =
    Steady-alike Accepted (choose 63 (chain (number_at max_number) (λ m b. Ok (Some m, b))) (λ b. Ok (None, b))) mark_at iter_more alike
    (Steady-choice 63 (Counted max_number (λ m. Some m)) (Only None) (chain (number_at max_number) (λ m b. Ok (Some m, b))) (λ b. Ok (None, b)) iter_more
    (Steady-same (Counted max_number (λ m. Some m)) (Counted max_number (λ m. Some m)) (chain (number_at max_number) (λ m b. Ok (Some m, b))) is_ascii_digit iter_more (λ a w s. s) (λ a w s. s) (clear_left is_ascii_digit (only 63)) (Steady-counted max_number (λ m. Some m) number_small))
    (Steady-only None iter_more)
    (λ a w rest (same, none) clear. subst (λ (l : List ℕ). Clear (only 63) (l ++ rest)) (sym none) (clear_right is_ascii_digit (only 63) rest clear)))
  where
    alike : (bytes : List ℕ) → choose 63 (chain (number_at max_number) (λ m b. Ok (Some m, b))) (λ b. Ok (None, b)) bytes ≡ mark_at bytes
    alike [] = refl
    alike (c ∷ cs) = refl

Steady-iter : Steady Iter iter_at iter_more
unfolding Iter_fits
Steady-iter =
    Steady-same (Then (Number max_prims) (λ p. Then Accepted (λ m. Only (record { place = p; accepted = m })))) Iter iter_at iter_more iter_more to from (λ rest clear. clear)
    (Steady-then (Number max_prims) (λ p. Then Accepted (λ m. Only (record { place = p; accepted = m }))) (number_at max_prims) (λ p. chain mark_at (λ m b. Ok (record { place = p; accepted = m }, b))) is_ascii_digit iter_more (Steady-number max_prims place_small)
    (λ p w is. then_only Accepted (λ m. record { place = p; accepted = m }) mark_at iter_more Steady-mark)
    (λ p i u rest (m, v, x, s, (i_is, none), u_is) clear. subst (λ (l : List ℕ). Clear is_ascii_digit (l ++ rest)) (sym (no_more u_is none)) (behind m v rest s clear)))
  where
    behind : (m : Option ℕ) (v rest : List ℕ) → Accepted m v → Clear iter_more rest → Clear is_ascii_digit (v ++ rest)
    behind m v rest (inl (u, v_is, s)) clear = subst (λ (l : List ℕ). Clear is_ascii_digit (l ++ rest)) (sym v_is) refl
    behind m v rest (inr (same, none)) clear = subst (λ (l : List ℕ). Clear is_ascii_digit (l ++ rest)) (sym none) (clear_left is_ascii_digit (only 63) rest clear)

    to : (i : IterAt) (w : List ℕ) → Then (Number max_prims) (λ p. Then Accepted (λ m. Only (record { place = p; accepted = m }))) i w → Iter i w
    to i w (p, v, u, (within, v_is), (m, x, y, inl (z, x_is, (n, a, b, (small, a_is), (m_is, b_none), z_is)), (i_is, none), u_is), w_is) =
        let text : w ≡ decimal p ++ (63 ∷ decimal n) = w_is ∙ ap (λ (l : List ℕ). l ++ u) v_is ∙ ap (λ (l : List ℕ). decimal p ++ l) (no_more u_is none ∙ x_is ∙ ap (λ (l : List ℕ). 63 ∷ l) (no_more z_is b_none ∙ a_is)) in
        subst (λ (q : IterAt). Iter q w) (sym (i_is ∙ ap (λ (o : Option ℕ). record { place = p; accepted = o }) m_is)) (both_true (place_in_bounds p) (nat_le n max_number) (le-leb p max_prims within) (le-leb n max_number small), text)
    to i w (p, v, u, (within, v_is), (m, x, y, inr (m_is, x_none), (i_is, none), u_is), w_is) =
        let text : w ≡ decimal p ++ [] = w_is ∙ ap (λ (l : List ℕ). l ++ u) v_is ∙ ap (λ (l : List ℕ). decimal p ++ l) (no_more u_is none ∙ x_none) in
        subst (λ (q : IterAt). Iter q w) (sym (i_is ∙ ap (λ (o : Option ℕ). record { place = p; accepted = o }) m_is)) (both_true (place_in_bounds p) true (le-leb p max_prims within) refl, text)

    from : (i : IterAt) (w : List ℕ) → Iter i w → Then (Number max_prims) (λ p. Then Accepted (λ m. Only (record { place = p; accepted = m }))) i w
    from i w (fit, is) = by i.accepted refl
      where
        Goal : Type 0
        Goal = Then (Number max_prims) (λ p. Then Accepted (λ m. Only (record { place = p; accepted = m }))) i w

        by : (o : Option ℕ) → i.accepted ≡ o → Then (Number max_prims) (λ p. Then Accepted (λ m. Only (record { place = p; accepted = m }))) i w
        by None e =
            let j : IterAt = record { place = i.place; accepted = None } in
            let i_is : i ≡ j = ap (λ (o : Option ℕ). record { place = i.place; accepted = o }) e in
            let fit' : iter_in_bounds j ≡ true = subst (λ (x : IterAt). iter_in_bounds x ≡ true) i_is fit in
            let is' : w ≡ iter_text j = is ∙ ap iter_text i_is in
            let p = both (place_in_bounds i.place) true fit' in
            (i.place, decimal i.place, [], (leb-true i.place max_prims p.0, refl), (None, [], [], inr (refl, refl), (i_is, refl), refl), is')
        by (Some n) e =
            let j : IterAt = record { place = i.place; accepted = Some n } in
            let i_is : i ≡ j = ap (λ (o : Option ℕ). record { place = i.place; accepted = o }) e in
            let fit' : iter_in_bounds j ≡ true = subst (λ (x : IterAt). iter_in_bounds x ≡ true) i_is fit in
            let is' : w ≡ iter_text j = is ∙ ap iter_text i_is in
            let p = both (place_in_bounds i.place) (nat_le n max_number) fit' in
            (i.place, decimal i.place, 63 ∷ decimal n, (leb-true i.place max_prims p.0, refl), (Some n, 63 ∷ decimal n, [], inl (decimal n, refl, (n, decimal n, [], (leb-true n max_number p.1, refl), (refl, refl), sym (append-nil (decimal n)))), (i_is, refl), sym (append-nil (63 ∷ decimal n))), is')

-- ---- one item or more

module _ {A : Type 0} (text_of : A → List ℕ) (Fit : A → Type 0) (one : List ℕ → Reads A) (goes_on : ℕ → Bool) (reads : Steady (IsText text_of Fit) one goes_on) (mark : ℕ) (apart : goes_on mark ≡ false) where
  abbrev more_of : ℕ → Bool
  more_of = either_of goes_on (only mark)

  -- one item, and those behind it
  pub record Some_of (limit : ℕ → Type 0) (xs : List A) (w : List ℕ) : Type 0 where
    pub head : A
    pub tail : List A
    pub are : xs ≡ head ∷ tail
    pub few : limit (length tail)
    pub fit : Fit head
    pub each : AllByRecursion Fit tail
    pub is : w ≡ text_of head ++ flat_map (λ x. mark ∷ text_of x) tail

  -- any number
  abbrev any : ℕ → Type 0
  any n = Unit {0}

  abbrev Behind : List A → List ℕ → Type 0
  Behind = Items text_of Fit one goes_on reads mark apart

  behind_all : (xs : List A) (u rest : List ℕ) → Behind xs u → Clear more_of rest → Clear goes_on (u ++ rest)
  behind_all xs u rest f clear = behind_item text_of Fit one goes_on reads mark apart (length xs) xs u rest (record { few = omega arith; each = f.each; is = f.is }) clear

  pub Steady-some : Steady (Some_of any) (one_or_more_at mark one) more_of
  Steady-some =
      Steady-same (Then (IsText text_of Fit) (λ x. Then Behind (λ xs. Only (x ∷ xs)))) (Some_of any) (one_or_more_at mark one) more_of more_of
      (λ xs w (x, v, u, (fit, v_is), (ys, a, b, f, (xs_is, none), u_is), w_is).
      record { head = x; tail = ys; are = xs_is; few = tt; fit = fit; each = f.each; is = w_is ∙ ap (λ (l : List ℕ). l ++ u) v_is ∙ ap (λ (l : List ℕ). text_of x ++ l) (no_more u_is none ∙ f.is) })
      (λ xs w s.
      (s.head, text_of s.head, flat_map (λ x. mark ∷ text_of x) s.tail, (s.fit, refl), (s.tail, flat_map (λ x. mark ∷ text_of x) s.tail, [], record { each = s.each; is = refl }, (s.are, refl), sym (append-nil (flat_map (λ x. mark ∷ text_of x) s.tail))), s.is))
      (λ rest clear. clear)
      (Steady-then (IsText text_of Fit) (λ x. Then Behind (λ xs. Only (x ∷ xs))) one (λ x. chain (all_at mark one) (λ xs b. Ok (x ∷ xs, b))) goes_on more_of reads
      (λ x w is. then_only Behind (λ xs. x ∷ xs) (all_at mark one) more_of (Steady-items text_of Fit one goes_on reads mark apart))
      (λ x xs u rest (ys, a, b, f, (xs_is, none), u_is) clear. subst (λ (l : List ℕ). Clear goes_on (l ++ rest)) (sym (no_more u_is none)) (behind_all ys a rest f clear)))

  -- at most so many behind the first
  abbrev within : ℕ → ℕ → Type 0
  within n m = m ≤ n

  abbrev Few_behind : ℕ → List A → List ℕ → Type 0
  Few_behind n = Few text_of Fit one goes_on reads mark apart n

  pub Steady-bounded : (n : ℕ) → Steady (Some_of (within n)) (some_at n mark one) more_of
  Steady-bounded n =
      Steady-same (Then (IsText text_of Fit) (λ x. Then (Few_behind n) (λ xs. Only (x ∷ xs)))) (Some_of (within n)) (some_at n mark one) more_of more_of
      (λ xs w (x, v, u, (fit, v_is), (ys, a, b, f, (xs_is, none), u_is), w_is).
      record { head = x; tail = ys; are = xs_is; few = f.few; fit = fit; each = f.each; is = w_is ∙ ap (λ (l : List ℕ). l ++ u) v_is ∙ ap (λ (l : List ℕ). text_of x ++ l) (no_more u_is none ∙ f.is) })
      (λ xs w s.
      (s.head, text_of s.head, flat_map (λ x. mark ∷ text_of x) s.tail, (s.fit, refl), (s.tail, flat_map (λ x. mark ∷ text_of x) s.tail, [], record { few = s.few; each = s.each; is = refl }, (s.are, refl), sym (append-nil (flat_map (λ x. mark ∷ text_of x) s.tail))), s.is))
      (λ rest clear. clear)
      (Steady-then (IsText text_of Fit) (λ x. Then (Few_behind n) (λ xs. Only (x ∷ xs))) one (λ x. chain (more_at n mark one) (λ xs b. Ok (x ∷ xs, b))) goes_on more_of reads
      (λ x w is. then_only (Few_behind n) (λ xs. x ∷ xs) (more_at n mark one) more_of (Steady-few text_of Fit one goes_on reads mark apart n))
      (λ x xs u rest (ys, a, b, f, (xs_is, none), u_is) clear. subst (λ (l : List ℕ). Clear goes_on (l ++ rest)) (sym (no_more u_is none)) (behind_item text_of Fit one goes_on reads mark apart n ys a rest f clear)))

-- ---- items between brackets

-- none, or these, and then the closing bracket
abbrev Closing : {A : Type 0} → (List A → List ℕ → Type 0) → List A → List ℕ → Type 0
Closing items = Choice 93 (Only []) (Then items (λ xs. Then (Word (codes "]")) (λ u. Only xs)))

abbrev closing_at : {A : Type 0} → (List ℕ → Reads (List A)) → List ℕ → Reads (List A)
closing_at items bytes = unless_closed 93 items bytes >>= λ xs. text_at (codes "]") xs.1 >>= λ c. Ok (xs.0, c.1)

Steady-closing : {A : Type 0} (items : List A → List ℕ → Type 0) (read : List ℕ → Reads (List A)) (goes_on : ℕ → Bool) → goes_on 93 ≡ false → ((xs : List A) (w rest : List ℕ) → items xs w → Clear (only 93) (w ++ rest)) → Steady items read goes_on
    → Steady (Closing items) (closing_at read) nothing
Steady-closing {A} items read goes_on apart head reads =
    Steady-alike (Closing items) (choose 93 (λ b. Ok ([], b)) shut_at) (closing_at read) nothing alike
    (Steady-choice 93 (Only []) (Then items (λ xs. Then (Word (codes "]")) (λ u. Only xs))) (λ b. Ok ([], b)) shut_at nothing (Steady-only [] nothing)
    (then_word items 93 (λ xs. Only xs) read (λ xs b. Ok (xs, b)) goes_on nothing apart reads (λ xs. Steady-only xs nothing))
    (λ xs w rest (ys, v, u, s, t, w_is) clear. subst (Clear (only 93)) (sym (ap (λ (l : List ℕ). l ++ rest) w_is ∙ append_assoc v u rest)) (head ys v (u ++ rest) s)))
  where
    shut_at : List ℕ → Reads (List A)
    shut_at = chain read (λ xs. chain (text_at (codes "]")) (λ u b. Ok (xs, b)))

    alike : (bytes : List ℕ) → choose 93 (λ b. Ok ([], b)) (chain read (λ xs. chain (text_at (codes "]")) (λ u b. Ok (xs, b)))) bytes ≡ closing_at read bytes
    alike [] = refl
    alike (c ∷ cs) = by (c == 93) refl
      where
        none : List ℕ → Reads (List A)
        none b = Ok ([], b)

        shut : Reads (List A) → Reads (List A)
        shut r = r >>= λ xs. text_at (codes "]") xs.1 >>= λ d. Ok (xs.0, d.1)

        by : (t : Bool) → (c == 93) ≡ t → (if t then none cs else shut (read (c ∷ cs))) ≡ shut (if t then none (c ∷ cs) else read (c ∷ cs))
        by true e = subst (λ (x : ℕ). none cs ≡ shut (none (x ∷ cs))) (sym (eqb-true c 93 e)) refl
        by false e = refl

-- ---- rows

Rows_fit : List Mark → Type 0
Rows_fit rs = (nat_le (length rs) 1001 && list_all row_in_bounds rs) ≡ true

rows_text : List Mark → List ℕ
rows_text rs = bracketed (map row_text rs)

abbrev Rows : List Mark → List ℕ → Type 0
Rows = IsText rows_text Rows_fit

abbrev Some_rows : List Mark → List ℕ → Type 0
Some_rows = Some_of row_text Row_fits row_at row_more Steady-row 59 refl (λ m. m ≤ 1000)

row_head : (rs : List Mark) (w rest : List ℕ) → Some_rows rs w → Clear (only 93) (w ++ rest)
unfolding Row_fits
row_head rs w rest s =
    let keys = flat_map (λ k. 44 ∷ place_text k) s.head.keys in
    let tail = flat_map (λ r. 59 ∷ row_text r) s.tail in
    let text : w ++ rest ≡ decimal s.head.object ++ ((keys ++ tail) ++ rest) = ap (λ (l : List ℕ). l ++ rest) (s.is ∙ ap (λ (l : List ℕ). l ++ tail) (joined 44 place_text (decimal s.head.object) s.head.keys)) ∙ assoc (decimal s.head.object) keys tail rest in
    subst (Clear (only 93)) (sym text) (number_head max_prims s.head.object 93 (decimal s.head.object) ((keys ++ tail) ++ rest) place_small (object s.head s.fit, refl) refl)
  where
    assoc : (a b c d : List ℕ) → ((a ++ b) ++ c) ++ d ≡ a ++ ((b ++ c) ++ d)
    assoc a b c d = simp append_assoc

    object : (r : Mark) → Row_fits r → r.object ≤ max_prims
    object r fit = leb-true r.object max_prims (both (place_in_bounds r.object) (nat_le (length r.keys) 4) (both (place_in_bounds r.object && nat_le (length r.keys) 4) (list_all key_in_bounds r.keys) fit).0).0

Steady-rows : Steady Rows (bracketed_at 1000 row_at) nothing
unfolding Rows_fit Row_fits rows_text
Steady-rows =
    Steady-same (Then (Word (codes "[")) (λ u. Closing Some_rows)) Rows (bracketed_at 1000 row_at) nothing nothing to from (λ rest clear. clear)
    (word_then (codes "[") (Closing Some_rows) (closing_at (some_at 1000 59 row_at)) nothing
    (Steady-closing Some_rows (some_at 1000 59 row_at) (either_of row_more (only 59)) refl row_head (Steady-bounded row_text Row_fits row_at row_more Steady-row 59 refl 1000)))
  where
    to : (rs : List Mark) (w : List ℕ) → Then (Word (codes "[")) (λ u. Closing Some_rows) rs w → Rows rs w
    to rs w (t, v, u, v_is, inl (x, u_is, (rs_is, none)), w_is) = subst (λ (l : List Mark). Rows l w) (sym rs_is) (refl, w_is ∙ ap (λ (l : List ℕ). l ++ u) v_is ∙ ap (λ (l : List ℕ). 91 ∷ l) (u_is ∙ ap (λ (l : List ℕ). 93 ∷ l) none))
    to rs w (t, v, u, v_is, inr (ys, x, y, s, (t', p, q, p_is, (rs_is, none), y_is), u_is), w_is) =
        let few = s.few in
        let tail = flat_map (λ r. 59 ∷ row_text r) s.tail in
        let inside : u ≡ (row_text s.head ++ tail) ++ codes "]" = u_is ∙ ap (λ (l : List ℕ). l ++ y) s.is ∙ ap (λ (l : List ℕ). (row_text s.head ++ tail) ++ l) (no_more y_is none ∙ p_is) in
        let text : w ≡ codes "[" ++ join_with_byte 59 (map row_text (s.head ∷ s.tail)) ++ codes "]" = w_is ∙ ap (λ (l : List ℕ). l ++ u) v_is ∙ ap (λ (l : List ℕ). 91 ∷ l) inside ∙ ap (λ (l : List ℕ). 91 ∷ (l ++ codes "]")) (sym (joined 59 row_text (row_text s.head) s.tail)) in
        subst (λ (l : List Mark). Rows l w) (sym (rs_is ∙ s.are))
        (both_true (nat_le (suc (length s.tail)) 1001) (row_in_bounds s.head && list_all row_in_bounds s.tail) (le-leb (suc (length s.tail)) 1001 (omega (arith, few))) (both_true (row_in_bounds s.head) (list_all row_in_bounds s.tail) s.fit (all_true row_in_bounds s.tail s.each)), text)

    from : (rs : List Mark) (w : List ℕ) → Rows rs w → Then (Word (codes "[")) (λ u. Closing Some_rows) rs w
    from [] w (fit, is) = (tt, codes "[", codes "]", refl, inl ([], refl, (refl, refl)), is)
    from (r ∷ rs) w (fit, is) =
        let parts = both (nat_le (suc (length rs)) 1001) (row_in_bounds r && list_all row_in_bounds rs) fit in
        let each = both (row_in_bounds r) (list_all row_in_bounds rs) parts.1 in
        let few = leb-true (suc (length rs)) 1001 parts.0 in
        let inside = row_text r ++ flat_map (λ x. 59 ∷ row_text x) rs in (
          tt,
          codes "[",
          inside ++ codes "]",
          refl,
          inr (r ∷ rs, inside, codes "]", record { head = r; tail = rs; are = refl; few = omega (arith, few); fit = each.0; each = true_all row_in_bounds rs each.1; is = refl }, (tt, codes "]", [], refl, (refl, refl), refl), refl),
          is ∙ ap (λ (l : List ℕ). 91 ∷ (l ++ codes "]")) (joined 59 row_text (row_text r) rs),
        )

-- ---- lists of trees

Lists_fit : TreeLists → Type 0
Lists_fit ls = (has_list ls && lists_in_bounds ls) ≡ true

abbrev Lists : TreeLists → List ℕ → Type 0
Lists = IsText lists_text Lists_fit

abbrev Some_trees : List Trees → List ℕ → Type 0
Some_trees = Some_of trees_text Trees_in trees_at nothing Steady-trees 44 refl (λ m. Unit {0})

pub lists_more : (ls : List Trees) → more_lists (tree_lists_of ls) ≡ flat_map (λ l. 44 ∷ trees_text l) ls
lists_more [] = refl
lists_more (l ∷ ls) = ap (λ (x : List ℕ). 44 ∷ (trees_text l ++ x)) (lists_more ls)

lists_bound : (ls : List Trees) → AllByRecursion Trees_in ls → lists_in_bounds (tree_lists_of ls) ≡ true
lists_bound [] all = refl
lists_bound (l ∷ ls) (p, all) = both_true (trees_in_bounds l) (lists_in_bounds (tree_lists_of ls)) p (lists_bound ls all)

-- lists as a list
abbrev lists_list : TreeLists → List Trees
lists_list no_lists = []
lists_list (and_list ts ls) = ts ∷ lists_list ls

lists_again : (ls : TreeLists) → tree_lists_of (lists_list ls) ≡ ls
lists_again no_lists = refl
lists_again (and_list ts ls) = ap (and_list ts) (lists_again ls)

bound_lists : (ls : TreeLists) → lists_in_bounds ls ≡ true → AllByRecursion Trees_in (lists_list ls)
bound_lists no_lists e = tt
bound_lists (and_list ts ls) e = let p = both (trees_in_bounds ts) (lists_in_bounds ls) e in (p.0, bound_lists ls p.1)

Steady-lists : Steady Lists lists_at nothing
unfolding Lists_fit
Steady-lists =
    Steady-same (Then (Word (codes "(")) (λ u. Then Some_trees (λ ls. Then (Word (codes ")")) (λ v. Only (tree_lists_of ls))))) Lists lists_at nothing nothing to from (λ rest clear. clear)
    (word_then (codes "(") (Then Some_trees (λ ls. Then (Word (codes ")")) (λ v. Only (tree_lists_of ls)))) (chain (one_or_more_at 44 trees_at) (λ ls. chain (text_at (codes ")")) (λ v b. Ok (tree_lists_of ls, b)))) nothing
    (then_word Some_trees 41 (λ ls. Only (tree_lists_of ls)) (one_or_more_at 44 trees_at) (λ ls b. Ok (tree_lists_of ls, b)) (either_of nothing (only 44)) nothing refl (Steady-some trees_text Trees_in trees_at nothing Steady-trees 44 refl) (λ ls. Steady-only (tree_lists_of ls) nothing)))
  where
    assoc : (a b c : List ℕ) → 40 ∷ ((a ++ b) ++ c) ≡ ((40 ∷ a) ++ b) ++ c
    assoc a b c = refl

    to : (ls : TreeLists) (w : List ℕ) → Then (Word (codes "(")) (λ u. Then Some_trees (λ xs. Then (Word (codes ")")) (λ v. Only (tree_lists_of xs)))) ls w → Lists ls w
    to ls w (t, v, u, v_is, (xs, x, y, s, (t', p, q, p_is, (ls_is, none), y_is), u_is), w_is) =
        let tail = flat_map (λ l. 44 ∷ trees_text l) s.tail in
        let text : w ≡ ((40 ∷ trees_text s.head) ++ more_lists (tree_lists_of s.tail)) ++ codes ")"
        = w_is ∙ ap (λ (l : List ℕ). l ++ u) v_is ∙ ap (λ (l : List ℕ). 40 ∷ l) (u_is ∙ ap (λ (l : List ℕ). l ++ y) s.is ∙ ap (λ (l : List ℕ). (trees_text s.head ++ tail) ++ l) (no_more y_is none ∙ p_is))
        ∙ ap (λ (l : List ℕ). ((40 ∷ trees_text s.head) ++ l) ++ codes ")") (sym (lists_more s.tail)) in
        subst (λ (l : TreeLists). Lists l w) (sym (ls_is ∙ ap tree_lists_of s.are)) (both_true (trees_in_bounds s.head) (lists_in_bounds (tree_lists_of s.tail)) s.fit (lists_bound s.tail s.each), text)

    from : (ls : TreeLists) (w : List ℕ) → Lists ls w → Then (Word (codes "(")) (λ u. Then Some_trees (λ xs. Then (Word (codes ")")) (λ v. Only (tree_lists_of xs)))) ls w
    from no_lists w (fit, is) = cc
    from (and_list ts ls) w (fit, is) =
        let parts = both (trees_in_bounds ts) (lists_in_bounds ls) fit in
        let tail = flat_map (λ l. 44 ∷ trees_text l) (lists_list ls) in
        let more : more_lists ls ≡ tail = ap more_lists (sym (lists_again ls)) ∙ lists_more (lists_list ls) in (
          tt,
          codes "(",
          (trees_text ts ++ tail) ++ codes ")",
          refl,
          (ts ∷ lists_list ls, trees_text ts ++ tail, codes ")", record { head = ts; tail = lists_list ls; are = refl; few = tt; fit = parts.0; each = bound_lists ls parts.1; is = refl }, (tt, codes ")", [], refl, (sym (lists_again (and_list ts ls)), refl), refl), refl),
          is ∙ ap (λ (l : List ℕ). ((40 ∷ trees_text ts) ++ l) ++ codes ")") more,
        )

-- ---- frames

pub Frame_fits : Frame → Type 0
Frame_fits f = frame_in_bounds f ≡ true

abbrev AFrame : Frame → List ℕ → Type 0
AFrame = IsText frame_text Frame_fits

abbrev Frame_lists : ℕ → IterAt → Frame → List ℕ → Type 0
Frame_lists p i = Then Lists (λ ls. Only (record { place = p; iter = i; lists = ls }))

abbrev Frame_iter : ℕ → Frame → List ℕ → Type 0
Frame_iter p = Then Iter (λ i. Then (Word (codes ",")) (λ d. Frame_lists p i))

abbrev Frame_parts : Frame → List ℕ → Type 0
Frame_parts = Then (Number max_prims) (λ p. Then (Word (codes ",")) (λ c. Frame_iter p))

pub Steady-frame : Steady AFrame frame_at nothing
unfolding Frame_fits Iter_fits Lists_fit
Steady-frame =
    Steady-same Frame_parts AFrame frame_at nothing nothing to from (λ rest clear. clear)
    (then_word (Number max_prims) 44 Frame_iter (number_at max_prims) (λ p. chain iter_at (λ i. chain (text_at (codes ",")) (λ d. chain lists_at (λ ls b. Ok (record { place = p; iter = i; lists = ls }, b))))) is_ascii_digit nothing refl (Steady-number max_prims place_small)
    (λ p. then_word Iter 44 (Frame_lists p) iter_at (λ i. chain lists_at (λ ls b. Ok (record { place = p; iter = i; lists = ls }, b))) iter_more nothing refl Steady-iter
    (λ i. then_only Lists (λ ls. record { place = p; iter = i; lists = ls }) lists_at nothing Steady-lists)))
  where
    assoc : (a b c : List ℕ) → a ++ (44 ∷ (b ++ (44 ∷ c))) ≡ (((a ++ codes ",") ++ b) ++ codes ",") ++ c
    assoc a b c = simp append_assoc

    to : (f : Frame) (w : List ℕ) → Frame_parts f w → AFrame f w
    to f w (p, v1, u1, (within, v1_is), (t2, v2, u2, v2_is, (i, v3, u3, (i_fit, v3_is), (t4, v4, u4, v4_is, (ls, v5, u5, (ls_fit, v5_is), (f_is, none), u4_is), u3_is), u2_is), u1_is), w_is) =
        let lists = both (has_list ls) (lists_in_bounds ls) ls_fit in
        let text : w ≡ decimal p ++ (44 ∷ (iter_text i ++ (44 ∷ lists_text ls)))
        = w_is ∙ ap (λ (l : List ℕ). l ++ u1) v1_is ∙ ap (λ (l : List ℕ). decimal p ++ l) (u1_is ∙ ap (λ (l : List ℕ). l ++ u2) v2_is ∙ ap (λ (l : List ℕ). 44 ∷ l) (u2_is ∙ ap (λ (l : List ℕ). l ++ u3) v3_is ∙ ap (λ (l : List ℕ). iter_text i ++ l) (u3_is ∙ ap (λ (l : List ℕ). l ++ u4) v4_is ∙ ap (λ (l : List ℕ). 44 ∷ l) (no_more u4_is none ∙ v5_is)))) in
        subst (λ (z : Frame). AFrame z w) (sym f_is)
        (both_true (place_in_bounds p && iter_in_bounds i && has_list ls) (lists_in_bounds ls) (both_true (place_in_bounds p && iter_in_bounds i) (has_list ls) (both_true (place_in_bounds p) (iter_in_bounds i) (le-leb p max_prims within) i_fit) lists.0) lists.1, text ∙ assoc (decimal p) (iter_text i) (lists_text ls))

    from : (f : Frame) (w : List ℕ) → AFrame f w → Frame_parts f w
    from f w (fit, is) =
        let three = both (place_in_bounds f.place && iter_in_bounds f.iter && has_list f.lists) (lists_in_bounds f.lists) fit in
        let two = both (place_in_bounds f.place && iter_in_bounds f.iter) (has_list f.lists) three.0 in
        let one = both (place_in_bounds f.place) (iter_in_bounds f.iter) two.0 in (
          f.place,
          decimal f.place,
          44 ∷ (iter_text f.iter ++ (44 ∷ lists_text f.lists)),
          (leb-true f.place max_prims one.0, refl),
          (
            tt,
            codes ",",
            iter_text f.iter ++ (44 ∷ lists_text f.lists),
            refl,
            (
              f.iter,
              iter_text f.iter,
              44 ∷ lists_text f.lists,
              (one.1, refl),
              (tt, codes ",", lists_text f.lists, refl, (f.lists, lists_text f.lists, [], (both_true (has_list f.lists) (lists_in_bounds f.lists) two.1 three.1, refl), (refl, refl), sym (append-nil (lists_text f.lists))), refl),
              refl,
            ),
            refl,
          ),
          is ∙ sym (assoc (decimal f.place) (iter_text f.iter) (lists_text f.lists)),
        )

-- ---- scans

Scan_fits : Scan → Type 0
Scan_fits s = scan_in_bounds s ≡ true

abbrev AScan : Scan → List ℕ → Type 0
AScan = IsText scan_text Scan_fits

abbrev Frames : List Frame → List ℕ → Type 0
Frames = Items frame_text Frame_fits frame_at nothing Steady-frame 59 refl

abbrev Scan_frames : IterAt → ℕ → Scan → List ℕ → Type 0
Scan_frames i w = Then Frames (λ fs. Then (Word (codes "]")) (λ d. Only (record { iter = i; weight = w; frames = fs })))

abbrev scan_frames_at : IterAt → ℕ → List ℕ → Reads Scan
scan_frames_at i w = chain (all_at 59 frame_at) (λ fs. chain (text_at (codes "]")) (λ d b. Ok (record { iter = i; weight = w; frames = fs }, b)))

abbrev Scan_weight : IterAt → Scan → List ℕ → Type 0
Scan_weight i = Then (Number max_number) (λ w. Scan_frames i w)

abbrev Scan_parts : Scan → List ℕ → Type 0
Scan_parts = Then (Word (codes "[")) (λ o. Then Iter (λ i. Then (Word (codes ",")) (λ c. Scan_weight i)))

Steady-scan-frames : (i : IterAt) (w : ℕ) → Steady (Scan_frames i w) (scan_frames_at i w) nothing
Steady-scan-frames i w =
    then_word Frames 93 (λ fs. Only (record { iter = i; weight = w; frames = fs })) (all_at 59 frame_at) (λ fs b. Ok (record { iter = i; weight = w; frames = fs }, b)) (either_of nothing (only 59)) nothing refl (Steady-items frame_text Frame_fits frame_at nothing Steady-frame 59 refl) (λ fs. Steady-only (record { iter = i; weight = w; frames = fs }) nothing)

Steady-scan : Steady AScan scan_at nothing
unfolding Scan_fits Iter_fits Frame_fits
Steady-scan =
    Steady-same Scan_parts AScan scan_at nothing nothing to from (λ rest clear. clear)
    (word_then (codes "[") (Then Iter (λ i. Then (Word (codes ",")) (λ c. Scan_weight i))) (chain iter_at (λ i. chain (text_at (codes ",")) (λ c. chain (number_at max_number) (λ w. scan_frames_at i w)))) nothing
    (then_word Iter 44 Scan_weight iter_at (λ i. chain (number_at max_number) (λ w. scan_frames_at i w)) iter_more nothing refl Steady-iter
    (λ i. Steady-then (Number max_number) (λ w. Scan_frames i w) (number_at max_number) (λ w. scan_frames_at i w) is_ascii_digit nothing (Steady-number max_number number_small) (λ w v is. Steady-scan-frames i w) (λ w s u rest parts clear. behind i w s u rest parts))))
  where
    frames_head : (fs : List Frame) (x rest : List ℕ) → Frames fs x → Clear is_ascii_digit rest → Clear is_ascii_digit (x ++ rest)
    frames_head [] x rest f clear = subst (λ (l : List ℕ). Clear is_ascii_digit (l ++ rest)) (sym f.is) clear
    frames_head (g ∷ fs) x rest f clear = subst (λ (l : List ℕ). Clear is_ascii_digit (l ++ rest)) (sym f.is) refl

    behind : (i : IterAt) (w : ℕ) (s : Scan) (u rest : List ℕ) → Scan_frames i w s u → Clear is_ascii_digit (u ++ rest)
    behind i w s u rest (fs, x, y, f, (t, p, q, p_is, only_s, y_is), u_is) =
        let there : Clear is_ascii_digit (y ++ rest) = subst (λ (l : List ℕ). Clear is_ascii_digit (l ++ rest)) (sym (y_is ∙ ap (λ (l : List ℕ). l ++ q) p_is)) refl in
        subst (Clear is_ascii_digit) (sym (ap (λ (l : List ℕ). l ++ rest) u_is ∙ append_assoc x y rest)) (frames_head fs x (y ++ rest) f there)

    assoc : (a b c : List ℕ) → 91 ∷ (a ++ (44 ∷ (b ++ (c ++ codes "]")))) ≡ codes "[" ++ (((a ++ codes ",") ++ b) ++ c) ++ codes "]"
    assoc a b c = simp append_assoc

    to : (s : Scan) (w : List ℕ) → Scan_parts s w → AScan s w
    to s w (t0, v0, u0, v0_is, (i, v1, u1, (i_fit, v1_is), (t2, v2, u2, v2_is, (n, v3, u3, (within, v3_is), (fs, v4, u4, f, (t5, v5, u5, v5_is, (s_is, none), u4_is), u3_is), u2_is), u1_is), u0_is), w_is) =
        let tail = flat_map (λ x. 59 ∷ frame_text x) fs in
        let text : w ≡ 91 ∷ (iter_text i ++ (44 ∷ (decimal n ++ (tail ++ codes "]"))))
        = w_is ∙ ap (λ (l : List ℕ). l ++ u0) v0_is ∙ ap (λ (l : List ℕ). 91 ∷ l) (u0_is ∙ ap (λ (l : List ℕ). l ++ u1) v1_is ∙ ap (λ (l : List ℕ). iter_text i ++ l) (u1_is ∙ ap (λ (l : List ℕ). l ++ u2) v2_is
        ∙ ap (λ (l : List ℕ). 44 ∷ l) (u2_is ∙ ap (λ (l : List ℕ). l ++ u3) v3_is ∙ ap (λ (l : List ℕ). decimal n ++ l) (u3_is ∙ ap (λ (l : List ℕ). l ++ u4) f.is ∙ ap (λ (l : List ℕ). tail ++ l) (no_more u4_is none ∙ v5_is))))) in
        subst (λ (z : Scan). AScan z w) (sym s_is) (
          both_true (iter_in_bounds i && nat_le n max_number) (list_all frame_in_bounds fs) (both_true (iter_in_bounds i) (nat_le n max_number) i_fit (le-leb n max_number within)) (all_true frame_in_bounds fs f.each),
          text ∙ assoc (iter_text i) (decimal n) tail ∙ ap (λ (l : List ℕ). codes "[" ++ l ++ codes "]") (sym (joined 59 frame_text (iter_text i ++ codes "," ++ decimal n) fs)),
        )

    from : (s : Scan) (w : List ℕ) → AScan s w → Scan_parts s w
    from s w (fit, is) =
        let two = both (iter_in_bounds s.iter && nat_le s.weight max_number) (list_all frame_in_bounds s.frames) fit in
        let one = both (iter_in_bounds s.iter) (nat_le s.weight max_number) two.0 in
        let tail = flat_map (λ x. 59 ∷ frame_text x) s.frames in (
          tt,
          codes "[",
          iter_text s.iter ++ (44 ∷ (decimal s.weight ++ (tail ++ codes "]"))),
          refl,
          (
            s.iter,
            iter_text s.iter,
            44 ∷ (decimal s.weight ++ (tail ++ codes "]")),
            (one.0, refl),
            (
              tt,
              codes ",",
              decimal s.weight ++ (tail ++ codes "]"),
              refl,
              (
                s.weight,
                decimal s.weight,
                tail ++ codes "]",
                (leb-true s.weight max_number one.1, refl),
                (s.frames, tail, codes "]", record { each = true_all frame_in_bounds s.frames two.1; is = refl }, (tt, codes "]", [], refl, (refl, refl), refl), refl),
                refl,
              ),
              refl,
            ),
            refl,
          ),
          is ∙ ap (λ (l : List ℕ). codes "[" ++ l ++ codes "]") (joined 59 frame_text (iter_text s.iter ++ codes "," ++ decimal s.weight) s.frames) ∙ sym (assoc (iter_text s.iter) (decimal s.weight) tail),
        )

-- ---- walks

Place_fits : ℕ → Type 0
Place_fits k = place_in_bounds k ≡ true

Steady-number-text : Steady (IsText decimal Place_fits) (number_at max_prims) is_ascii_digit
unfolding Place_fits
Steady-number-text =
    Steady-same (Number max_prims) (IsText decimal Place_fits) (number_at max_prims) is_ascii_digit is_ascii_digit (λ n w (within, is). (le-leb n max_prims within, is)) (λ n w (fit, is). (leb-true n max_prims fit, is)) (λ rest clear. clear) (Steady-number max_prims place_small)

pub Walk_fits : Walk → Type 0
Walk_fits w = walk_in_bounds w ≡ true

abbrev AWalk : Walk → List ℕ → Type 0
AWalk = IsText walk_text Walk_fits

abbrev pub walk_more : ℕ → Bool
walk_more = either_of is_ascii_digit (only 44)

abbrev Links : List ℕ → List ℕ → Type 0
Links = Some_of decimal Place_fits (number_at max_prims) is_ascii_digit Steady-number-text 44 refl (λ m. m ≤ 15)

abbrev Linked : Walk → List ℕ → Type 0
Linked = Then Links (λ ks. Only (by_links ks))

abbrev linked_at : List ℕ → Reads Walk
linked_at = chain (some_at 15 44 (number_at max_prims)) (λ ks b. Ok (by_links ks, b))

links_head : (k : ℕ) (ks : List ℕ) (w rest : List ℕ) → is_ascii_digit k ≡ false → Links ks w → Clear (only k) (w ++ rest)
unfolding Place_fits
links_head k ks w rest other s =
    let tail = flat_map (λ x. 44 ∷ decimal x) s.tail in
    subst (Clear (only k)) (sym (ap (λ (l : List ℕ). l ++ rest) s.is ∙ append_assoc (decimal s.head) tail rest)) (number_head max_prims s.head k (decimal s.head) (tail ++ rest) place_small (leb-true s.head max_prims s.fit, refl) other)

linked_head : (k : ℕ) (x : Walk) (w rest : List ℕ) → is_ascii_digit k ≡ false → Linked x w → Clear (only k) (w ++ rest)
linked_head k x w rest other (ks, v, u, s, (x_is, none), w_is) = subst (λ (l : List ℕ). Clear (only k) (l ++ rest)) (sym (no_more w_is none)) (links_head k ks v rest other s)

abbrev Walk_parts : Walk → List ℕ → Type 0
Walk_parts = Choice 103 (Only by_guid) (Choice 47 (Only is_root) Linked)

pub Steady-walk : Steady AWalk walk_at walk_more
unfolding Walk_fits Place_fits
Steady-walk =
    Steady-same Walk_parts AWalk walk_at walk_more walk_more to from (λ rest clear. clear)
    (Steady-alike Walk_parts (choose 103 (λ b. Ok (by_guid, b)) (choose 47 (λ b. Ok (is_root, b)) linked_at)) walk_at walk_more alike
    (Steady-choice 103 (Only by_guid) (Choice 47 (Only is_root) Linked) (λ b. Ok (by_guid, b)) (choose 47 (λ b. Ok (is_root, b)) linked_at) walk_more (Steady-only by_guid walk_more)
    (Steady-choice 47 (Only is_root) Linked (λ b. Ok (is_root, b)) linked_at walk_more (Steady-only is_root walk_more)
    (then_only Links (λ ks. by_links ks) (some_at 15 44 (number_at max_prims)) walk_more (Steady-bounded decimal Place_fits (number_at max_prims) is_ascii_digit Steady-number-text 44 refl 15))
    (λ x w rest s clear. linked_head 47 x w rest refl s))
    away))
  where
    away : (x : Walk) (w rest : List ℕ) → Choice 47 (Only is_root) Linked x w → Clear walk_more rest → Clear (only 103) (w ++ rest)
    away x w rest (inl (u, w_is, s)) clear = subst (λ (l : List ℕ). Clear (only 103) (l ++ rest)) (sym w_is) refl
    away x w rest (inr s) clear = linked_head 103 x w rest refl s

    to : (x : Walk) (w : List ℕ) → Walk_parts x w → AWalk x w
    to x w (inl (u, w_is, (x_is, none))) = subst (λ (y : Walk). AWalk y w) (sym x_is) (refl, w_is ∙ ap (λ (l : List ℕ). 103 ∷ l) none)
    to x w (inr (inl (u, w_is, (x_is, none)))) = subst (λ (y : Walk). AWalk y w) (sym x_is) (refl, w_is ∙ ap (λ (l : List ℕ). 47 ∷ l) none)
    to x w (inr (inr (ks, v, u, s, (x_is, none), w_is))) =
        let few = s.few in
        subst (λ (y : Walk). AWalk y w) (sym (x_is ∙ ap by_links s.are)) (
          both_true (nat_lt 0 (suc (length s.tail)) && nat_le (suc (length s.tail)) 16) (list_all place_in_bounds (s.head ∷ s.tail)) (both_true (nat_lt 0 (suc (length s.tail))) (nat_le (suc (length s.tail)) 16) (lt-ltb 0 (suc (length s.tail)) (omega arith)) (le-leb (suc (length s.tail)) 16 (omega (arith, few))))
              (both_true (place_in_bounds s.head) (list_all place_in_bounds s.tail) s.fit (all_true place_in_bounds s.tail s.each)),
          no_more w_is none ∙ s.is ∙ sym (joined 44 decimal (decimal s.head) s.tail),
        )

    from : (x : Walk) (w : List ℕ) → AWalk x w → Walk_parts x w
    from by_guid w (fit, is) = inl ([], is, (refl, refl))
    from is_root w (fit, is) = inr (inl ([], is, (refl, refl)))
    from (by_links []) w (fit, is) = cc
    from (by_links (k ∷ ks)) w (fit, is) =
        let parts = both (nat_lt 0 (suc (length ks)) && nat_le (suc (length ks)) 16) (list_all place_in_bounds (k ∷ ks)) fit in
        let sizes = both (nat_lt 0 (suc (length ks))) (nat_le (suc (length ks)) 16) parts.0 in
        let each = both (place_in_bounds k) (list_all place_in_bounds ks) parts.1 in
        let few = leb-true (suc (length ks)) 16 sizes.1 in
        inr (inr (k ∷ ks, w, [], record { head = k; tail = ks; are = refl; few = omega (arith, few); fit = each.0; each = true_all place_in_bounds ks each.1; is = is ∙ joined 44 decimal (decimal k) ks }, (refl, refl), sym (append-nil w)))

    alike : (bytes : List ℕ) → choose 103 (λ b. Ok (by_guid, b)) (choose 47 (λ b. Ok (is_root, b)) linked_at) bytes ≡ walk_at bytes
    alike [] = refl
    alike (c ∷ cs) = refl

Walks_fit : List Walk → Type 0
Walks_fit ws = list_all walk_in_bounds ws ≡ true

walks_text : List Walk → List ℕ
walks_text ws = bracketed (map walk_text ws)

abbrev Walks : List Walk → List ℕ → Type 0
Walks = IsText walks_text Walks_fit

abbrev Some_walks : List Walk → List ℕ → Type 0
Some_walks = Some_of walk_text Walk_fits walk_at walk_more Steady-walk 59 refl (λ m. Unit {0})

walk_head : (x : Walk) (w rest : List ℕ) → AWalk x w → Clear (only 93) (w ++ rest)
unfolding Walk_fits
walk_head by_guid w rest (fit, is) = subst (λ (l : List ℕ). Clear (only 93) (l ++ rest)) (sym is) refl
walk_head is_root w rest (fit, is) = subst (λ (l : List ℕ). Clear (only 93) (l ++ rest)) (sym is) refl
walk_head (by_links []) w rest (fit, is) = cc
walk_head (by_links (k ∷ ks)) w rest (fit, is) =
    let parts = both (nat_lt 0 (suc (length ks)) && nat_le (suc (length ks)) 16) (list_all place_in_bounds (k ∷ ks)) fit in
    let each = both (place_in_bounds k) (list_all place_in_bounds ks) parts.1 in
    let tail = flat_map (λ x. 44 ∷ decimal x) ks in
    subst (Clear (only 93)) (sym (ap (λ (l : List ℕ). l ++ rest) (is ∙ joined 44 decimal (decimal k) ks) ∙ append_assoc (decimal k) tail rest)) (number_head max_prims k 93 (decimal k) (tail ++ rest) place_small (leb-true k max_prims each.0, refl) refl)

walks_head : (ws : List Walk) (w rest : List ℕ) → Some_walks ws w → Clear (only 93) (w ++ rest)
walks_head ws w rest s =
    let tail = flat_map (λ x. 59 ∷ walk_text x) s.tail in
    subst (Clear (only 93)) (sym (ap (λ (l : List ℕ). l ++ rest) s.is ∙ append_assoc (walk_text s.head) tail rest)) (walk_head s.head (walk_text s.head) (tail ++ rest) (s.fit, refl))

Steady-walks : Steady Walks walks_at nothing
unfolding Walks_fit Walk_fits walks_text
Steady-walks =
    Steady-same (Then (Word (codes "[")) (λ u. Closing Some_walks)) Walks walks_at nothing nothing to from (λ rest clear. clear)
    (word_then (codes "[") (Closing Some_walks) (closing_at (one_or_more_at 59 walk_at)) nothing
    (Steady-closing Some_walks (one_or_more_at 59 walk_at) (either_of walk_more (only 59)) refl walks_head (Steady-some walk_text Walk_fits walk_at walk_more Steady-walk 59 refl)))
  where
    to : (ws : List Walk) (w : List ℕ) → Then (Word (codes "[")) (λ u. Closing Some_walks) ws w → Walks ws w
    to ws w (t, v, u, v_is, inl (x, u_is, (ws_is, none)), w_is) = subst (λ (l : List Walk). Walks l w) (sym ws_is) (refl, w_is ∙ ap (λ (l : List ℕ). l ++ u) v_is ∙ ap (λ (l : List ℕ). 91 ∷ l) (u_is ∙ ap (λ (l : List ℕ). 93 ∷ l) none))
    to ws w (t, v, u, v_is, inr (ys, x, y, s, (t', p, q, p_is, (ws_is, none), y_is), u_is), w_is) =
        let tail = flat_map (λ r. 59 ∷ walk_text r) s.tail in
        let inside : u ≡ (walk_text s.head ++ tail) ++ codes "]" = u_is ∙ ap (λ (l : List ℕ). l ++ y) s.is ∙ ap (λ (l : List ℕ). (walk_text s.head ++ tail) ++ l) (no_more y_is none ∙ p_is) in
        let text : w ≡ codes "[" ++ join_with_byte 59 (map walk_text (s.head ∷ s.tail)) ++ codes "]" = w_is ∙ ap (λ (l : List ℕ). l ++ u) v_is ∙ ap (λ (l : List ℕ). 91 ∷ l) inside ∙ ap (λ (l : List ℕ). 91 ∷ (l ++ codes "]")) (sym (joined 59 walk_text (walk_text s.head) s.tail)) in
        subst (λ (l : List Walk). Walks l w) (sym (ws_is ∙ s.are)) (both_true (walk_in_bounds s.head) (list_all walk_in_bounds s.tail) s.fit (all_true walk_in_bounds s.tail s.each), text)

    from : (ws : List Walk) (w : List ℕ) → Walks ws w → Then (Word (codes "[")) (λ u. Closing Some_walks) ws w
    from [] w (fit, is) = (tt, codes "[", codes "]", refl, inl ([], refl, (refl, refl)), is)
    from (r ∷ rs) w (fit, is) =
        let each = both (walk_in_bounds r) (list_all walk_in_bounds rs) fit in
        let inside = walk_text r ++ flat_map (λ x. 59 ∷ walk_text x) rs in (
          tt,
          codes "[",
          inside ++ codes "]",
          refl,
          inr (r ∷ rs, inside, codes "]", record { head = r; tail = rs; are = refl; few = tt; fit = each.0; each = true_all walk_in_bounds rs each.1; is = refl }, (tt, codes "]", [], refl, (refl, refl), refl), refl),
          is ∙ ap (λ (l : List ℕ). 91 ∷ (l ++ codes "]")) (joined 59 walk_text (walk_text r) rs),
        )

-- ---- what a reading does

abbrev Scanned : Body → List ℕ → Type 0
Scanned = Then AScan (λ s. Only (scanning s))

abbrev Built_scan : ℕ → Trees → Body → List ℕ → Type 0
Built_scan n ts = Then AScan (λ s. Only (building n ts s))

abbrev ATrees : Trees → List ℕ → Type 0
ATrees = IsText trees_text Trees_in

abbrev Built_trees : ℕ → Body → List ℕ → Type 0
Built_trees n = Then ATrees (λ ts. Then (Word (codes ":")) (λ u. Built_scan n ts))

abbrev Built : Body → List ℕ → Type 0
Built = Then (Number max_number) (λ n. Then (Word (codes ":")) (λ u. Built_trees n))

abbrev Printed_walks : ℕ → Trees → Body → List ℕ → Type 0
Printed_walks n ts = Then Walks (λ ws. Only (printing n ts ws))

abbrev Printed_trees : ℕ → Body → List ℕ → Type 0
Printed_trees n = Then ATrees (λ ts. Then (Word (codes ":")) (λ u. Printed_walks n ts))

abbrev Printed : Body → List ℕ → Type 0
Printed = Then (Number max_number) (λ n. Then (Word (codes ":")) (λ u. Printed_trees n))

Steady-built : Steady Built building_at nothing
Steady-built =
    then_word (Number max_number) 58 Built_trees (number_at max_number) (λ n. chain trees_at (λ ts. chain (text_at (codes ":")) (λ u. chain scan_at (λ s b. Ok (building n ts s, b))))) is_ascii_digit nothing refl (Steady-number max_number number_small)
    (λ n. then_word ATrees 58 (Built_scan n) trees_at (λ ts. chain scan_at (λ s b. Ok (building n ts s, b))) nothing nothing refl Steady-trees (λ ts. then_only AScan (λ s. building n ts s) scan_at nothing Steady-scan))

Steady-printed : Steady Printed printing_at nothing
Steady-printed =
    then_word (Number max_number) 58 Printed_trees (number_at max_number) (λ n. chain trees_at (λ ts. chain (text_at (codes ":")) (λ u. chain walks_at (λ ws b. Ok (printing n ts ws, b))))) is_ascii_digit nothing refl (Steady-number max_number number_small)
    (λ n. then_word ATrees 58 (Printed_walks n) trees_at (λ ts. chain walks_at (λ ws b. Ok (printing n ts ws, b))) nothing nothing refl Steady-trees (λ ts. then_only Walks (λ ws. printing n ts ws) walks_at nothing Steady-walks))

Body_fits : Body → Type 0
Body_fits b = body_in_bounds b ≡ true

abbrev ABody : Body → List ℕ → Type 0
ABody = IsText body_text Body_fits

abbrev Lettered : Body → List ℕ → Type 0
Lettered = Then (Word (codes "p")) (λ u. Printed)

abbrev Body_parts : Body → List ℕ → Type 0
Body_parts = Choice 115 Scanned (Choice 98 Built Lettered)

abbrev lettered_at : List ℕ → Reads Body
lettered_at = chain (text_at (codes "p")) (λ u. printing_at)

lettered_head : (k : ℕ) (b : Body) (w rest : List ℕ) → (112 == k) ≡ false → Lettered b w → Clear (only k) (w ++ rest)
lettered_head k b w rest other (t, v, u, v_is, s, w_is) = subst (λ (l : List ℕ). Clear (only k) (l ++ rest)) (sym (w_is ∙ ap (λ (l : List ℕ). l ++ u) v_is)) other

Steady-body : Steady ABody body_at nothing
unfolding Body_fits Scan_fits Walks_fit walks_text
Steady-body =
    Steady-same Body_parts ABody body_at nothing nothing to from (λ rest clear. clear)
    (Steady-alike Body_parts (choose 115 (chain scan_at (λ s b. Ok (scanning s, b))) (choose 98 building_at lettered_at)) body_at nothing alike
    (Steady-choice 115 Scanned (Choice 98 Built Lettered) (chain scan_at (λ s b. Ok (scanning s, b))) (choose 98 building_at lettered_at) nothing (then_only AScan (λ s. scanning s) scan_at nothing Steady-scan)
    (Steady-choice 98 Built Lettered building_at lettered_at nothing Steady-built (word_then (codes "p") Printed printing_at nothing Steady-printed) (λ b w rest s clear. lettered_head 98 b w rest refl s))
    away))
  where
    away : (b : Body) (w rest : List ℕ) → Choice 98 Built Lettered b w → Clear nothing rest → Clear (only 115) (w ++ rest)
    away b w rest (inl (u, w_is, s)) clear = subst (λ (l : List ℕ). Clear (only 115) (l ++ rest)) (sym w_is) refl
    away b w rest (inr s) clear = lettered_head 115 b w rest refl s

    last : ℕ → List ℕ → Bool → Reads Body
    last c cs t = if t then printing_at cs else Err (c ∷ cs)

    turned : (c : ℕ) (cs : List ℕ) (t : Bool) → (c == 112) ≡ t → (112 == c) ≡ t
    turned c cs true e = eq-eqb 112 c (sym (eqb-true c 112 e))
    turned c cs false e = ne_eqb 112 c (λ same. let t = eq-eqb c 112 (sym same) in cc (t, e))

    third : (c : ℕ) (cs : List ℕ) → lettered_at (c ∷ cs) ≡ last c cs (c == 112)
    third c cs = by (c == 112) refl
      where
        word : Bool → Reads (Unit {0})
        word t = if t then Ok (tt, cs) else Err (c ∷ cs)

        by : (t : Bool) → (c == 112) ≡ t → lettered_at (c ∷ cs) ≡ last c cs t
        by true e = ap (λ (t : Bool). word t >>= λ x. printing_at x.1) (turned c cs true e)
        by false e = ap (λ (t : Bool). word t >>= λ x. printing_at x.1) (turned c cs false e)

    alike : (bytes : List ℕ) → choose 115 (chain scan_at (λ s b. Ok (scanning s, b))) (choose 98 building_at lettered_at) bytes ≡ body_at bytes
    alike [] = refl
    alike (c ∷ cs) = ap (λ (r : Reads Body). if c == 115 then chain scan_at (λ s b. Ok (scanning s, b)) cs else if c == 98 then building_at cs else r) (third c cs)

    assoc : (k : ℕ) (a b c : List ℕ) → k ∷ (a ++ (58 ∷ (b ++ (58 ∷ c)))) ≡ ((((k ∷ []) ++ a) ++ codes ":") ++ b) ++ codes ":" ++ c
    assoc k a b c = simp append_assoc

    to : (b : Body) (w : List ℕ) → Body_parts b w → ABody b w
    to b w (inl (u, w_is, (s, x, y, (fit, x_is), (b_is, none), u_is))) = subst (λ (z : Body). ABody z w) (sym b_is) (fit, w_is ∙ ap (λ (l : List ℕ). 115 ∷ l) (no_more u_is none ∙ x_is))
    to b w (inr (inl (u, w_is, (n, v1, u1, (within, v1_is), (t2, v2, u2, v2_is, (ts, v3, u3, (ts_fit, v3_is), (t4, v4, u4, v4_is, (s, v5, u5, (s_fit, v5_is), (b_is, none), u4_is), u3_is), u2_is), u1_is), u_is)))) =
        let text : w ≡ 98 ∷ (decimal n ++ (58 ∷ (trees_text ts ++ (58 ∷ scan_text s))))
        = w_is ∙ ap (λ (l : List ℕ). 98 ∷ l) (u_is ∙ ap (λ (l : List ℕ). l ++ u1) v1_is ∙ ap (λ (l : List ℕ). decimal n ++ l) (u1_is ∙ ap (λ (l : List ℕ). l ++ u2) v2_is ∙ ap (λ (l : List ℕ). 58 ∷ l) (u2_is ∙ ap (λ (l : List ℕ). l ++ u3) v3_is
        ∙ ap (λ (l : List ℕ). trees_text ts ++ l) (u3_is ∙ ap (λ (l : List ℕ). l ++ u4) v4_is ∙ ap (λ (l : List ℕ). 58 ∷ l) (no_more u4_is none ∙ v5_is))))) in
        subst (λ (z : Body). ABody z w) (sym b_is) (both_true (nat_le n max_number && trees_in_bounds ts) (scan_in_bounds s) (both_true (nat_le n max_number) (trees_in_bounds ts) (le-leb n max_number within) ts_fit) s_fit, text ∙ assoc 98 (decimal n) (trees_text ts) (scan_text s))
    to b w (inr (inr (t0, v0, u0, v0_is, (n, v1, u1, (within, v1_is), (t2, v2, u2, v2_is, (ts, v3, u3, (ts_fit, v3_is), (t4, v4, u4, v4_is, (ws, v5, u5, (ws_fit, v5_is), (b_is, none), u4_is), u3_is), u2_is), u1_is), u0_is), w_is))) =
        let text : w ≡ 112 ∷ (decimal n ++ (58 ∷ (trees_text ts ++ (58 ∷ bracketed (map walk_text ws)))))
        = w_is ∙ ap (λ (l : List ℕ). l ++ u0) v0_is ∙ ap (λ (l : List ℕ). 112 ∷ l) (u0_is ∙ ap (λ (l : List ℕ). l ++ u1) v1_is ∙ ap (λ (l : List ℕ). decimal n ++ l) (u1_is ∙ ap (λ (l : List ℕ). l ++ u2) v2_is ∙ ap (λ (l : List ℕ). 58 ∷ l) (u2_is ∙ ap (λ (l : List ℕ). l ++ u3) v3_is
        ∙ ap (λ (l : List ℕ). trees_text ts ++ l) (u3_is ∙ ap (λ (l : List ℕ). l ++ u4) v4_is ∙ ap (λ (l : List ℕ). 58 ∷ l) (no_more u4_is none ∙ v5_is))))) in
        subst (λ (z : Body). ABody z w) (sym b_is) (both_true (nat_le n max_number && trees_in_bounds ts) (list_all walk_in_bounds ws) (both_true (nat_le n max_number) (trees_in_bounds ts) (le-leb n max_number within) ts_fit) ws_fit, text ∙ assoc 112 (decimal n) (trees_text ts) (bracketed (map walk_text ws)))

    from : (b : Body) (w : List ℕ) → ABody b w → Body_parts b w
    from (scanning s) w (fit, is) = inl (scan_text s, is, (s, scan_text s, [], (fit, refl), (refl, refl), sym (append-nil (scan_text s))))
    from (building n ts s) w (fit, is) =
        let two = both (nat_le n max_number && trees_in_bounds ts) (scan_in_bounds s) fit in
        let one = both (nat_le n max_number) (trees_in_bounds ts) two.0 in
        inr (inl (
          decimal n ++ (58 ∷ (trees_text ts ++ (58 ∷ scan_text s))),
          is ∙ sym (assoc 98 (decimal n) (trees_text ts) (scan_text s)),
          (
            n,
            decimal n,
            58 ∷ (trees_text ts ++ (58 ∷ scan_text s)),
            (leb-true n max_number one.0, refl),
            (
              tt,
              codes ":",
              trees_text ts ++ (58 ∷ scan_text s),
              refl,
              (ts, trees_text ts, 58 ∷ scan_text s, (one.1, refl), (tt, codes ":", scan_text s, refl, (s, scan_text s, [], (two.1, refl), (refl, refl), sym (append-nil (scan_text s))), refl), refl),
              refl,
            ),
            refl,
          ),
        ))
    from (printing n ts ws) w (fit, is) =
        let two = both (nat_le n max_number && trees_in_bounds ts) (list_all walk_in_bounds ws) fit in
        let one = both (nat_le n max_number) (trees_in_bounds ts) two.0 in
        let walks = bracketed (map walk_text ws) in
        inr (inr (
          tt,
          codes "p",
          decimal n ++ (58 ∷ (trees_text ts ++ (58 ∷ walks))),
          refl,
          (
            n,
            decimal n,
            58 ∷ (trees_text ts ++ (58 ∷ walks)),
            (leb-true n max_number one.0, refl),
            (
              tt,
              codes ":",
              trees_text ts ++ (58 ∷ walks),
              refl,
              (ts, trees_text ts, 58 ∷ walks, (one.1, refl), (tt, codes ":", walks, refl, (ws, walks, [], (two.1, refl), (refl, refl), sym (append-nil walks)), refl), refl),
              refl,
            ),
            refl,
          ),
          is ∙ sym (assoc 112 (decimal n) (trees_text ts) walks),
        ))

-- ---- a frozen reading

abbrev pub AFrozen : Frozen → List ℕ → Type 0
AFrozen = IsText spelling Fits

abbrev Ends_with : ℕ → Option Mark → List Mark → Frozen → List ℕ → Type 0
Ends_with d a rs = Then ABody (λ b. Only (record { dateline = d; after = a; rows = rs; body = b }))

abbrev Has_rows : ℕ → Option Mark → Frozen → List ℕ → Type 0
Has_rows d a = Then Rows (λ rs. Then (Word (codes ":")) (λ u. Ends_with d a rs))

abbrev Has_after : ℕ → Frozen → List ℕ → Type 0
Has_after d = Then After (λ a. Then (Word (codes ":")) (λ u. Has_rows d a))

abbrev Has_dateline : Frozen → List ℕ → Type 0
Has_dateline = Then (Number max_requests) (λ d. Then (Word (codes ":")) (λ u. Has_after d))

abbrev Parts : Frozen → List ℕ → Type 0
Parts = Then (Word (codes "f1:")) (λ u. Has_dateline)

abbrev ends_at : ℕ → Option Mark → List Mark → List ℕ → Reads Frozen
ends_at d a rs = chain body_at (λ b l. Ok (record { dateline = d; after = a; rows = rs; body = b }, l))

abbrev rows_then_at : ℕ → Option Mark → List ℕ → Reads Frozen
rows_then_at d a = chain (bracketed_at 1000 row_at) (λ rs. chain (text_at (codes ":")) (λ u. ends_at d a rs))

abbrev after_then_at : ℕ → List ℕ → Reads Frozen
after_then_at d = chain after_at (λ a. chain (text_at (codes ":")) (λ u. rows_then_at d a))

-- reading gives the frozen reading whose text the bytes begin with, or where no text goes on
pub Steady-frozen : Steady AFrozen frozen_at nothing
unfolding Body_fits Rows_fit After_fits rows_text
Steady-frozen =
    Steady-same Parts AFrozen frozen_at nothing nothing to from (λ rest clear. clear)
    (word_then (codes "f1:") Has_dateline (chain (number_at max_requests) (λ d. chain (text_at (codes ":")) (λ u. after_then_at d))) nothing
    (then_word (Number max_requests) 58 Has_after (number_at max_requests) (λ d. after_then_at d) is_ascii_digit nothing refl (Steady-number max_requests dateline_small)
    (λ d. then_word After 58 (Has_rows d) after_at (λ a. rows_then_at d a) nothing nothing refl Steady-after
    (λ a. then_word Rows 58 (Ends_with d a) (bracketed_at 1000 row_at) (λ rs. ends_at d a rs) nothing nothing refl Steady-rows
    (λ rs. then_only ABody (λ b. record { dateline = d; after = a; rows = rs; body = b }) body_at nothing Steady-body)))))
  where
    assoc : (d a rs b : List ℕ) → codes "f1:" ++ (d ++ (58 ∷ (a ++ (58 ∷ (rs ++ (58 ∷ b)))))) ≡ ((((((codes "f1:" ++ d) ++ codes ":") ++ a) ++ codes ":") ++ rs) ++ codes ":") ++ b
    assoc d a rs b = simp append_assoc

    to : (f : Frozen) (w : List ℕ) → Parts f w → AFrozen f w
    to f w (t0, v0, u0, v0_is, (d, v1, u1, (within, v1_is), (t2, v2, u2, v2_is, (a, v3, u3, (a_fit, v3_is), (t4, v4, u4, v4_is, (rs, v5, u5, (rs_fit, v5_is), (t6, v6, u6, v6_is, (b, v7, u7, (b_fit, v7_is), (f_is, none), u6_is), u5_is), u4_is), u3_is), u2_is), u1_is), u0_is), w_is) =
        let rows = rows_text rs in
        let text : w ≡ codes "f1:" ++ (decimal d ++ (58 ∷ (after_text a ++ (58 ∷ (rows ++ (58 ∷ body_text b))))))
        = w_is ∙ ap (λ (l : List ℕ). l ++ u0) v0_is ∙ ap (λ (l : List ℕ). codes "f1:" ++ l) (u0_is ∙ ap (λ (l : List ℕ). l ++ u1) v1_is ∙ ap (λ (l : List ℕ). decimal d ++ l) (u1_is ∙ ap (λ (l : List ℕ). l ++ u2) v2_is ∙ ap (λ (l : List ℕ). 58 ∷ l) (u2_is ∙ ap (λ (l : List ℕ). l ++ u3) v3_is
        ∙ ap (λ (l : List ℕ). after_text a ++ l) (u3_is ∙ ap (λ (l : List ℕ). l ++ u4) v4_is ∙ ap (λ (l : List ℕ). 58 ∷ l) (u4_is ∙ ap (λ (l : List ℕ). l ++ u5) v5_is ∙ ap (λ (l : List ℕ). rows ++ l) (u5_is ∙ ap (λ (l : List ℕ). l ++ u6) v6_is ∙ ap (λ (l : List ℕ). 58 ∷ l) (no_more u6_is none ∙ v7_is))))))) in
        let rs_two = both (nat_le (length rs) 1001) (list_all row_in_bounds rs) rs_fit in
        let fit = both_true (nat_le d max_requests && after_in_bounds a && nat_le (length rs) 1001 && list_all row_in_bounds rs) (body_in_bounds b)
        (both_true (nat_le d max_requests && after_in_bounds a && nat_le (length rs) 1001) (list_all row_in_bounds rs) (both_true (nat_le d max_requests && after_in_bounds a) (nat_le (length rs) 1001) (both_true (nat_le d max_requests) (after_in_bounds a) (le-leb d max_requests within) a_fit) rs_two.0) rs_two.1) b_fit in
        subst (λ (z : Frozen). AFrozen z w) (sym f_is) (fit, text ∙ assoc (decimal d) (after_text a) rows (body_text b))

    from : (f : Frozen) (w : List ℕ) → AFrozen f w → Parts f w
    from f w (fit, is) =
        let rows = rows_text f.rows in
        let four = both (nat_le f.dateline max_requests && after_in_bounds f.after && nat_le (length f.rows) 1001 && list_all row_in_bounds f.rows) (body_in_bounds f.body) fit in
        let three = both (nat_le f.dateline max_requests && after_in_bounds f.after && nat_le (length f.rows) 1001) (list_all row_in_bounds f.rows) four.0 in
        let two = both (nat_le f.dateline max_requests && after_in_bounds f.after) (nat_le (length f.rows) 1001) three.0 in
        let one = both (nat_le f.dateline max_requests) (after_in_bounds f.after) two.0 in
        let at_body = body_text f.body in
        let at_rows = rows ++ (58 ∷ at_body) in
        let at_after = after_text f.after ++ (58 ∷ at_rows) in (
          tt,
          codes "f1:",
          decimal f.dateline ++ (58 ∷ at_after),
          refl,
          (
            f.dateline,
            decimal f.dateline,
            58 ∷ at_after,
            (leb-true f.dateline max_requests one.0, refl),
            (
              tt,
              codes ":",
              at_after,
              refl,
              (
                f.after,
                after_text f.after,
                58 ∷ at_rows,
                (one.1, refl),
                (
                  tt,
                  codes ":",
                  at_rows,
                  refl,
                  (
                    f.rows,
                    rows,
                    58 ∷ at_body,
                    (both_true (nat_le (length f.rows) 1001) (list_all row_in_bounds f.rows) two.1 three.1, refl),
                    (
                      tt,
                      codes ":",
                      at_body,
                      refl,
                      (f.body, at_body, [], (four.1, refl), (refl, refl), sym (append-nil at_body)),
                      refl,
                    ),
                    refl,
                  ),
                  refl,
                ),
                refl,
              ),
              refl,
            ),
            refl,
          ),
          is ∙ sym (assoc (decimal f.dateline) (after_text f.after) rows (body_text f.body)),
        )

-- Reading all of the bytes gives the frozen reading that they spell, or just how many of them go with the grammar.
pub frozen_says : (bytes : List ℕ) → Says spelling Fits bytes (frozen_of bytes)
frozen_says bytes = steady_says spelling Fits frozen_at nothing Steady-frozen bytes

-- and the text of a frozen reading is read as that reading
pub frozen_whole : (f : Frozen) (bytes : List ℕ) → AFrozen f bytes → frozen_of bytes ≡ Ok f
frozen_whole f bytes s = ap (λ (r : Reads Frozen). with_offset bytes (r >>= ended)) (steady_all spelling Fits frozen_at nothing Steady-frozen f bytes s)

-- each frame of a body that lies within the bounds has a list
pub body_lists : (f : Frozen) → Fits f → body_in_bounds f.body ≡ true
body_lists f fit = (both (nat_le f.dateline max_requests && after_in_bounds f.after && nat_le (length f.rows) 1001 && list_all row_in_bounds f.rows) (body_in_bounds f.body) fit).1

pub scan_lists : (s : Scan) → scan_in_bounds s ≡ true → AllByRecursion (λ f. has_list f.lists ≡ true) s.frames
scan_lists s fit = each s.frames (both (iter_in_bounds s.iter && nat_le s.weight max_number) (list_all frame_in_bounds s.frames) fit).1
  where
    each : (fs : List Frame) → list_all frame_in_bounds fs ≡ true → AllByRecursion (λ f. has_list f.lists ≡ true) fs
    each [] e = tt
    each (f ∷ fs) e =
        let two = both (frame_in_bounds f) (list_all frame_in_bounds fs) e in
        let three = both (place_in_bounds f.place && iter_in_bounds f.iter && has_list f.lists) (lists_in_bounds f.lists) two.0 in
        ((both (place_in_bounds f.place && iter_in_bounds f.iter) (has_list f.lists) three.0).1, each fs two.1)
