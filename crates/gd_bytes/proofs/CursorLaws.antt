-- A cursor's text is read exactly: the cursor that it spells, or how far it goes with the grammar.
use Rattle.std.proofs.Common.{◌≡◌, refl, ℕ, zero, suc, ◌^◌, ◌<◌, ◌≤◌, Bool, true, false, ◌==◌, if◌then◌else◌, List, [], ◌∷◌, ◌++◌, length, flat_map, Ok, Err, Option, Some, None, codes, decimal, subst, sym, ap, ◌∙◌, ◌⊎◌, inl, inr, ⊎_elim, arith, length-append, append_assoc, eqb-true, ne_eqb}
use Rattle.std.proofs.lemmas.List.{append-nil}
use Rattle.std.proofs.lemmas.Fmt.{decimal_nonempty}
use Rattle.std.specs.List.{AllByRecursion}
use Rattle.gd_grammar.specs.Chain.{◌>>=◌}
use Rattle.gd_grammar.specs.Grammar.{Reads, text_at, number_at, more_at, ended, with_offset}
use Rattle.gd_grammar.specs.Mark.{place_text}
use Rattle.gd_prim.specs.Limits.{max_prims, max_requests}
use Rattle.gd_bytes.specs.Cursor.{Cursor, PlaceFits, spelling, Fits, place_at, cursor_at, cursor_of, IsCursorText}
use Rattle.gd_grammar.proofs.Scans.{Begins, Ends, Stops, Found, Scans, Then, chain, Only, Scans-then, Scans-only, Scans-same, Says, whole_says, read_all, ok_same, ends_nil, not_equal, head_same}
use Rattle.gd_grammar.proofs.Numbers.{Word, Scans-word, word_ends, Number, Scans-number, number_ends, first_digit}

-- ---- key places

abbrev Place : Option ℕ → List ℕ → Type 0
Place p w = PlaceFits p × (w ≡ place_text p)

-- a number that is a place
abbrev Given : Option ℕ → List ℕ → Type 0
Given = Then (Number max_prims) (λ n. Only (Some n))

place_small : max_prims < 2 ^ 64
place_small = omega arith

dateline_small : max_requests < 2 ^ 64
dateline_small = omega arith

Scans-given : Scans Given (chain (number_at max_prims) (λ n b. Ok (Some n, b)))
Scans-given = Scans-then (Number max_prims) (λ n. Only (Some n)) (number_at max_prims) (λ n b. Ok (Some n, b))
    (Scans-number max_prims place_small) (λ n w is. Scans-only (Some n)) (λ n w is. (Some n, [], (refl, refl))) (λ n v is c u (same, none). ends_nil (Number max_prims) v u none)

given_place : (p : Option ℕ) (w : List ℕ) → Given p w → Place p w
given_place p w (n, v, u, (within, v_is), (p_is, none), w_is) =
    let text : w ≡ decimal n = w_is ∙ ap (λ (l : List ℕ). v ++ l) none ∙ append-nil v ∙ v_is in
    subst (λ (q : Option ℕ). Place q w) (sym p_is) (within, text)

place_given : (n : ℕ) (w : List ℕ) → Place (Some n) w → Given (Some n) w
place_given n w (within, w_is) = (n, w, [], (within, w_is), (refl, refl), sym (append-nil w))

small_64 : (n : ℕ) → n ≤ max_prims → n < 2 ^ 64
small_64 n h = omega (arith, h)

no_mark : (n : ℕ) (t : List ℕ) → n ≤ max_prims → decimal n ≡ 45 ∷ t → ⊥
no_mark n t within e = let (low, high) = first_digit n 45 t (small_64 n within) e in omega (arith, low)

abbrev place_by : ℕ → List ℕ → Bool → Reads (Option ℕ)
place_by c cs b = if b then Ok (None, cs) else (number_at max_prims (c ∷ cs) >>= λ n. Ok (Some n.0, n.1))

-- behind a given front, a place that is a number goes on as a number
turn_ends : (front rest : List ℕ) → 0 < length front → Ends Given front rest → Ends Place front rest
turn_ends front rest some ends b more e (None, w, m, (fits, w_is), split) =
    let one = ap length (sym w_is ∙ split) in
    let two = length-append (front ++ (b ∷ [])) m in
    let three = length-append front (b ∷ []) in
    omega (arith, one, two, three, some)
turn_ends front rest some ends b more e (Some n, w, m, is, split) = ends b more e (Some n, w, m, place_given n w is, split)

mark_ends : (rest : List ℕ) → Ends Place (45 ∷ []) rest
mark_ends rest b more e (None, w, m, (fits, w_is), split) = let one = ap length (sym w_is ∙ split) in omega (arith, one)
mark_ends rest b more e (Some n, w, m, (within, w_is), split) = no_mark n (b ∷ m) within (sym w_is ∙ split)

place_found : (bytes : List ℕ) (p : Option ℕ) (rest : List ℕ) → place_at bytes ≡ Ok (p, rest) → Found Place bytes p rest
place_found [] p rest is = cc
place_found (c ∷ cs) p rest is = by (c == 45) refl is
  where
    by : (b : Bool) → (c == 45) ≡ b → place_by c cs b ≡ Ok (p, rest) → Found Place (c ∷ cs) p rest
    by true t e =
        let same = eqb-true c 45 t in
        let pairs = ok_same e in
        let p_is : None ≡ p = ap (λ p. p.0) pairs in
        let tail : cs ≡ rest = ap (λ p. p.1) pairs in
        record { text = 45 ∷ []; spelled = subst (λ (q : Option ℕ). Place q (45 ∷ [])) p_is (tt, refl); split = ap (λ (x : ℕ). x ∷ cs) same ∙ ap (λ (l : List ℕ). 45 ∷ l) tail; last = mark_ends rest }
    by false f e =
        let g = Scans-given.found (c ∷ cs) p rest e in
        let (n, v, u, (within, v_is), (p_is, none), w_is) = g.spelled in
        let some = decimal_nonempty n (small_64 n within) in
        let long = ap length v_is in
        let sum = length-append v u in
        let all = ap length w_is in
        record { text = g.text; spelled = given_place p g.text g.spelled; split = g.split; last = turn_ends g.text rest (omega (arith, some, long, sum, all)) g.last }

place_all : (p : Option ℕ) (w rest : List ℕ) → Place p w → Ends Place w rest → place_at (w ++ rest) ≡ Ok (p, rest)
place_all None w rest (fits, w_is) ends = ap (λ (l : List ℕ). place_at (l ++ rest)) w_is
place_all (Some n) w rest (within, w_is) ends = ap (λ (l : List ℕ). place_at (l ++ rest)) w_is ∙ at (decimal n) refl
  where
    given : Given (Some n) w
    given = place_given n w (within, w_is)

    read_given : List ℕ → Reads (Option ℕ)
    read_given bytes = number_at max_prims bytes >>= λ n. Ok (Some n.0, n.1)

    reads : read_given (w ++ rest) ≡ Ok (Some n, rest)
    reads = Scans-given.all (Some n) w rest given (λ b more e (q, v, m, s, split). ends b more e (q, v, m, given_place q v s, split))

    at : (l : List ℕ) → decimal n ≡ l → place_at (l ++ rest) ≡ Ok (Some n, rest)
    at [] e = let some = decimal_nonempty n (small_64 n within) in let none = ap length e in absurd (omega (arith, some, none))
    at (c ∷ t) e =
        let other : (c == 45) ≡ false = ne_eqb c 45 (λ same. no_mark n t within (e ∙ ap (λ (x : ℕ). x ∷ t) same)) in
        ap (λ (b : Bool). place_by c (t ++ rest) b) other ∙ ap (λ (l : List ℕ). read_given (l ++ rest)) (sym e ∙ sym w_is) ∙ reads

place_stops : (bytes rest : List ℕ) → place_at bytes ≡ Err rest → Stops Place bytes rest
place_stops [] rest is = record { front = []; split = cc; begins = (None, 45 ∷ [], 45 ∷ [], (tt, refl), refl); last = λ b more e begun. cc }
place_stops (c ∷ cs) rest is = by (c == 45) refl is
  where
    by : (b : Bool) → (c == 45) ≡ b → place_by c cs b ≡ Err rest → Stops Place (c ∷ cs) rest
    by true t e = cc
    by false f e = at s.front refl
      where
        s : Stops Given (c ∷ cs) rest
        s = Scans-given.stops (c ∷ cs) rest e

        at : (front : List ℕ) → s.front ≡ front → Stops Place (c ∷ cs) rest
        at [] front_is = record {
          front = [];
          split = s.split ∙ ap (λ (l : List ℕ). l ++ rest) front_is;
          begins = (None, 45 ∷ [], 45 ∷ [], (tt, refl), refl);
          last = λ b more rest_is. last_nil b more rest_is;
        }
          where
            last_nil : (b : ℕ) (more : List ℕ) → rest ≡ b ∷ more → Begins Place (b ∷ []) → ⊥
            last_nil b more rest_is (None, w, m, (fits, w_is), split) =
                let there : c ∷ cs ≡ b ∷ more = s.split ∙ ap (λ (l : List ℕ). l ++ rest) front_is ∙ rest_is in
                let b_is : 45 ≡ b = head_same (sym w_is ∙ split) in
                not_equal c 45 f (head_same there ∙ sym b_is)
            last_nil b more rest_is (Some n, w, m, is, split) =
                s.last b more rest_is (Some n, w, m, place_given n w is, split ∙ ap (λ (l : List ℕ). (l ++ (b ∷ [])) ++ m) (sym front_is))
        at (d ∷ front) front_is =
            let (q, w, m, g, w_is) = s.begins in
            let long = ap length front_is in
            record { front = s.front; split = s.split; begins = (q, w, m, given_place q w g, w_is); last = turn_ends s.front rest (omega (arith, long)) s.last }

Scans-place : Scans Place place_at
Scans-place = record { found = place_found; all = place_all; stops = place_stops }

-- no place goes on with a colon
place_colon : (p : Option ℕ) (v u : List ℕ) → Place p v → (u ≡ []) ⊎ ((t : List ℕ) × (u ≡ 58 ∷ t)) → Ends Place v u
place_colon p v u place (inl none) = ends_nil Place v u none
place_colon None v u (fits, v_is) (inr (t, u_is)) = subst (λ (l : List ℕ). Ends Place l u) (sym v_is) (mark_ends u)
place_colon (Some n) v u (within, v_is) (inr (t, u_is)) =
    let some = decimal_nonempty n (small_64 n within) in
    let long = ap length v_is in
    let ends : Ends (Number max_prims) v (58 ∷ t) = number_ends max_prims n 58 v t place_small (within, v_is) (λ (low, high). omega (arith, high)) in
    turn_ends v u (omega (arith, some, long)) (subst (Ends Given v) (sym u_is) (λ b more e (q, w, m, (n', x, y, num, (q_is, none), w_is), split).
    ends b more e (n', x, m, num, sym (w_is ∙ ap (λ (l : List ℕ). x ++ l) none ∙ append-nil x) ∙ split)))

-- at most so many key places, each behind a colon
abbrev Many : ℕ → List (Option ℕ) → List ℕ → Type 0
Many = Rattle.gd_grammar.proofs.Scans.Many Place place_at 58 Scans-place (None, 45 ∷ [], (tt, refl)) place_colon

many_none : (n : ℕ) → Many n [] []
many_none = Rattle.gd_grammar.proofs.Scans.many_none Place place_at 58 Scans-place (None, 45 ∷ [], (tt, refl)) place_colon

many_head : (n : ℕ) (ps : List (Option ℕ)) (w : List ℕ) → Many n ps w → (w ≡ []) ⊎ ((t : List ℕ) × (w ≡ 58 ∷ t))
many_head = Rattle.gd_grammar.proofs.Scans.many_head Place place_at 58 Scans-place (None, 45 ∷ [], (tt, refl)) place_colon

Scans-many : (n : ℕ) → Scans (Many n) (more_at n 58 place_at)
Scans-many = Rattle.gd_grammar.proofs.Scans.Scans-many Place place_at 58 Scans-place (None, 45 ∷ [], (tt, refl)) place_colon

-- ---- the cursor

abbrev Keys : ℕ → ℕ → Cursor → List ℕ → Type 0
Keys d o = Then (Many 4) (λ ks. Only (record { dateline = d; after = record { object = o; keys = ks } }))

abbrev Object : ℕ → Cursor → List ℕ → Type 0
Object d = Then (Number max_prims) (λ o. Keys d o)

abbrev Colon : ℕ → Cursor → List ℕ → Type 0
Colon d = Then (Word (codes ":")) (λ u. Object d)

abbrev Dateline : Cursor → List ℕ → Type 0
Dateline = Then (Number max_requests) Colon

abbrev Whole : Cursor → List ℕ → Type 0
Whole = Then (Word (codes "c1:")) (λ u. Dateline)

keys_at : ℕ → ℕ → List ℕ → Reads Cursor
keys_at d o = chain (more_at 4 58 place_at) (λ ks b. Ok (record { dateline = d; after = record { object = o; keys = ks } }, b))

some_keys : (d o : ℕ) → (c : Cursor) × (u : List ℕ) × Keys d o c u
some_keys d o = (record { dateline = d; after = record { object = o; keys = [] } }, [], ([], [], [], many_none 4, (refl, refl), refl))

some_object : (d : ℕ) → (c : Cursor) × (u : List ℕ) × Object d c u
some_object d = let (c, u, s) = some_keys d 0 in (c, decimal 0 ++ u, (0, decimal 0, u, (omega arith, refl), s, refl))

some_colon : (d : ℕ) → (c : Cursor) × (u : List ℕ) × Colon d c u
some_colon d = let (c, u, s) = some_object d in (c, codes ":" ++ u, (tt, codes ":", u, refl, s, refl))

some_dateline : (c : Cursor) × (u : List ℕ) × Dateline c u
some_dateline = let (c, u, s) = some_colon 0 in (c, decimal 0 ++ u, (0, decimal 0, u, (omega arith, refl), s, refl))

keys_head : (d o : ℕ) (c : Cursor) (u : List ℕ) → Keys d o c u → (u ≡ []) ⊎ ((t : List ℕ) × (u ≡ 58 ∷ t))
keys_head d o c u (ks, x, y, many, (c_is, none), u_is) =
    let u_x : u ≡ x = u_is ∙ ap (λ (l : List ℕ). x ++ l) none ∙ append-nil x in
    ⊎_elim (λ e. inl (u_x ∙ e)) (λ (t, e). inr (t, u_x ∙ e)) (many_head 4 ks x many)

number_colon : (bound n : ℕ) (v u : List ℕ) → bound < 2 ^ 64 → Number bound n v → (u ≡ []) ⊎ ((t : List ℕ) × (u ≡ 58 ∷ t)) → Ends (Number bound) v u
number_colon bound n v u small is (inl none) = ends_nil (Number bound) v u none
number_colon bound n v u small is (inr (t, u_is)) = subst (Ends (Number bound) v) (sym u_is) (number_ends bound n 58 v t small is (λ (low, high). omega (arith, high)))

Scans-keys : (d o : ℕ) → Scans (Keys d o) (keys_at d o)
unfolding keys_at
Scans-keys d o = Scans-then (Many 4) (λ ks. Only (record { dateline = d; after = record { object = o; keys = ks } })) (more_at 4 58 place_at) (λ ks b. Ok (record { dateline = d; after = record { object = o; keys = ks } }, b)) (Scans-many 4)
    (λ ks v many. Scans-only (record { dateline = d; after = record { object = o; keys = ks } })) (λ ks v many. (record { dateline = d; after = record { object = o; keys = ks } }, [], (refl, refl))) (λ ks v many c u (same, none). ends_nil (Many 4) v u none)

Scans-object : (d : ℕ) → Scans (Object d) (chain (number_at max_prims) (λ o. keys_at d o))
Scans-object d = Scans-then (Number max_prims) (λ o. Keys d o) (number_at max_prims) (λ o. keys_at d o) (Scans-number max_prims place_small) (λ o w is. Scans-keys d o) (λ o w is. some_keys d o) (λ o v is c u s. number_colon max_prims o v u place_small is (keys_head d o c u s))

Scans-colon : (d : ℕ) → Scans (Colon d) (chain (text_at (codes ":")) (λ u. chain (number_at max_prims) (λ o. keys_at d o)))
Scans-colon d = Scans-then (Word (codes ":")) (λ u. Object d) (text_at (codes ":")) (λ u. chain (number_at max_prims) (λ o. keys_at d o)) (Scans-word (codes ":")) (λ u w is. Scans-object d) (λ u w is. some_object d) (λ u v is c x s. word_ends (codes ":") v x is)

Scans-dateline : Scans Dateline (chain (number_at max_requests) (λ d. chain (text_at (codes ":")) (λ u. chain (number_at max_prims) (λ o. keys_at d o))))
Scans-dateline = Scans-then (Number max_requests) Colon (number_at max_requests) (λ d. chain (text_at (codes ":")) (λ u. chain (number_at max_prims) (λ o. keys_at d o))) (Scans-number max_requests dateline_small) (λ d w is. Scans-colon d) (λ d w is. some_colon d)
    (λ d v is c u (a, x, y, x_is, s, u_is). number_colon max_requests d v u dateline_small is (inr (y, u_is ∙ ap (λ (l : List ℕ). l ++ y) x_is)))

Scans-parts : Scans Whole cursor_at
unfolding keys_at
Scans-parts = Scans-then (Word (codes "c1:")) (λ u. Dateline) (text_at (codes "c1:")) (λ u. chain (number_at max_requests) (λ d. chain (text_at (codes ":")) (λ u. chain (number_at max_prims) (λ o. keys_at d o)))) (Scans-word (codes "c1:")) (λ u w is. Scans-dateline) (λ u w is. some_dateline) (λ u v is c x s. word_ends (codes "c1:") v x is)

-- ---- the parts are the spelling

abbrev keys_text : List (Option ℕ) → List ℕ
keys_text ks = flat_map (λ k. codes ":" ++ place_text k) ks

many_text : (n : ℕ) (ks : List (Option ℕ)) (w : List ℕ) → Many n ks w → (length ks ≤ n) × AllByRecursion PlaceFits ks × (w ≡ keys_text ks)
many_text zero ks w (ks_is, w_is) = subst (λ (l : List (Option ℕ)). (length l ≤ 0) × AllByRecursion PlaceFits l × (w ≡ keys_text l)) (sym ks_is) (omega arith, tt, w_is)
many_text (suc n) ks w (inl (ks_is, w_is)) = subst (λ (l : List (Option ℕ)). (length l ≤ suc n) × AllByRecursion PlaceFits l × (w ≡ keys_text l)) (sym ks_is) (omega arith, tt, w_is)
many_text (suc n) ks w (inr (p, qs, v, u, (fits, v_is), many, ks_is, w_is)) =
    let (few, each, u_is) = many_text n qs u many in
    subst (λ (l : List (Option ℕ)). (length l ≤ suc n) × AllByRecursion PlaceFits l × (w ≡ keys_text l)) (sym ks_is)
    (omega (arith, few), (fits, each), w_is ∙ ap (λ (l : List ℕ). 58 ∷ (l ++ u)) v_is ∙ ap (λ (l : List ℕ). 58 ∷ (place_text p ++ l)) u_is)

text_many : (n : ℕ) (ks : List (Option ℕ)) → length ks ≤ n → AllByRecursion PlaceFits ks → Many n ks (keys_text ks)
text_many n [] few each = many_none n
text_many zero (k ∷ ks) few each = absurd (omega (arith, few))
text_many (suc n) (k ∷ ks) few (fits, each) = inr (k, ks, place_text k, keys_text ks, (fits, refl), text_many n ks (omega (arith, few)) each, refl, refl)

-- the five parts of a text, joined from the right and from the left
abbrev from_right : List ℕ → List ℕ → List ℕ → List ℕ
from_right d o ks = codes "c1:" ++ (d ++ (codes ":" ++ (o ++ ks)))

abbrev from_left : List ℕ → List ℕ → List ℕ → List ℕ
from_left d o ks = (((codes "c1:" ++ d) ++ codes ":") ++ o) ++ ks

regroup : (d o ks : List ℕ) → from_right d o ks ≡ from_left d o ks
regroup d o ks =
    sym (append_assoc (codes "c1:") d (codes ":" ++ (o ++ ks))) ∙ sym (append_assoc (codes "c1:" ++ d) (codes ":") (o ++ ks)) ∙ sym (append_assoc ((codes "c1:" ++ d) ++ codes ":") o ks)

whole_text : (c : Cursor) (w : List ℕ) → Whole c w → IsCursorText c w
whole_text c w (a1, v1, u1, v1_is, (d, v2, u2, (d_in, v2_is), (a3, v3, u3, v3_is, (o, v4, u4, (o_in, v4_is), (ks, v5, u5, many, (c_is, none), u4_is), u3_is), u2_is), u1_is), w_is) =
    let (few, each, text) = many_text 4 ks v5 many in
    let last : u4 ≡ keys_text ks = u4_is ∙ ap (λ (l : List ℕ). v5 ++ l) none ∙ append-nil v5 ∙ text in
    let third : u3 ≡ decimal o ++ keys_text ks = u3_is ∙ ap (λ (l : List ℕ). l ++ u4) v4_is ∙ ap (λ (l : List ℕ). decimal o ++ l) last in
    let second : u2 ≡ codes ":" ++ (decimal o ++ keys_text ks) = u2_is ∙ ap (λ (l : List ℕ). l ++ u3) v3_is ∙ ap (λ (l : List ℕ). codes ":" ++ l) third in
    let first : u1 ≡ decimal d ++ (codes ":" ++ (decimal o ++ keys_text ks)) = u1_is ∙ ap (λ (l : List ℕ). l ++ u2) v2_is ∙ ap (λ (l : List ℕ). decimal d ++ l) second in
    let is : w ≡ from_left (decimal d) (decimal o) (keys_text ks) = w_is ∙ ap (λ (l : List ℕ). l ++ u1) v1_is ∙ ap (λ (l : List ℕ). codes "c1:" ++ l) first ∙ regroup (decimal d) (decimal o) (keys_text ks) in
    subst (λ (x : Cursor). IsCursorText x w) (sym c_is) (record { dateline = d_in; object = o_in; keys = each; few = few }, is)

text_whole : (c : Cursor) (w : List ℕ) → IsCursorText c w → Whole c w
text_whole c w (fits, is) = (
  tt,
  codes "c1:",
  decimal c.dateline ++ (codes ":" ++ (decimal c.after.object ++ keys_text c.after.keys)),
  refl,
  (
    c.dateline,
    decimal c.dateline,
    codes ":" ++ (decimal c.after.object ++ keys_text c.after.keys),
    (fits.dateline, refl),
    (
      tt,
      codes ":",
      decimal c.after.object ++ keys_text c.after.keys,
      refl,
      (
        c.after.object,
        decimal c.after.object,
        keys_text c.after.keys,
        (fits.object, refl),
        (c.after.keys, keys_text c.after.keys, [], text_many 4 c.after.keys fits.few fits.keys, (refl, refl), sym (append-nil (keys_text c.after.keys))),
        refl,
      ),
      refl,
    ),
    refl,
  ),
  is ∙ sym (regroup (decimal c.dateline) (decimal c.after.object) (keys_text c.after.keys)),
)

pub Scans-cursor : Scans IsCursorText cursor_at
Scans-cursor = Scans-same Whole IsCursorText cursor_at whole_text text_whole Scans-parts

-- Reading gives the cursor that the bytes spell, or where the grammar stops.
pub cursor_says : (bytes : List ℕ) → Says spelling Fits bytes (cursor_of bytes)
cursor_says bytes = whole_says spelling Fits cursor_at Scans-cursor bytes

-- and the text of a cursor is read as that cursor
pub cursor_again : (c : Cursor) (bytes : List ℕ) → IsCursorText c bytes → cursor_at bytes ≡ Ok (c, [])
cursor_again c bytes s = read_all spelling Fits cursor_at Scans-cursor c bytes s

pub cursor_whole : (c : Cursor) (bytes : List ℕ) → IsCursorText c bytes → cursor_of bytes ≡ Ok c
cursor_whole c bytes s = ap (λ (r : Reads Cursor). with_offset bytes (r >>= ended)) (cursor_again c bytes s)
