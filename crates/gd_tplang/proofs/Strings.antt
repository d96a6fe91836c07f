-- Texts in quotes are read exactly.
use Rattle.std.proofs.Common.{◌≡◌, refl, ◌⊎◌, inl, inr, ⊎_elim, ℕ, zero, suc, ◌-◌, ◌<◌, ◌≤◌, Bool, true, false, not, ◌&&◌, ◌||◌, ◌==◌, nat_lt, nat_le, if◌then◌else◌, List, [], ◌∷◌, ◌++◌, length, flat_map, Ok, sym, ◌∙◌, ap, subst, arith, append_assoc, le-leb, eqb-true, eq-eqb, ne_eqb}
use Rattle.std.specs.Prelude.{codes}
use Rattle.std.specs.List.{AllByRecursion}
use Rattle.std.proofs.lemmas.Bool.{leb-true}
use Rattle.std.proofs.lemmas.Bool.Decides.{nat_tests}
use Rattle.gd_tree.specs.Json.{escaped, quoted}
use Rattle.gd_grammar.specs.Grammar.{Reads}
use Rattle.gd_grammar.specs.Reading.{between, byte_if}
use Rattle.gd_utf8.specs.Utf8.{Due, start, may_come, after, follow, least_after, most_after}
use Rattle.gd_grammar.proofs.Scans.{Then}
use Rattle.gd_grammar.proofs.Exact.{Mapped, OneByte, Exact-byte}
use Rattle.gd_utf8.proofs.Runs.{IsRun, run_of_utf8, utf8_of_run}
use Rattle.gd_grammar.specs.Choice.{is_byte, either_at, seen_at}
use Rattle.gd_tplang.specs.Written.{TextFits, is_escaped, may_stand, escape_at, char_at, quote_at, and_tail_at, tail_at, string_at}
use Rattle.gd_grammar.proofs.Good.{Good, Good-same, Good-exact, Good-seen, Good-word, Good-behind, Good-either, Good-and, Any, Means, Behind, Either, Head}

and_true : (x y : Bool) → (x && y) ≡ true → (x ≡ true) × (y ≡ true)
and_true true y is = (refl, is)
and_true false y is = cc

and_both : (x y : Bool) → x ≡ true → y ≡ true → (x && y) ≡ true
and_both x y p q = ap (λ (t : Bool). t && y) p ∙ q

-- ---- what is due

abbrev come_by : ℕ → Due → ℕ → Bool → Bool
come_by n s b t = if t then (nat_le (follow b) n && nat_lt (follow b) 4) else between s.least s.most b

abbrev next_by : Due → ℕ → Bool → Due
next_by s b t = if t then record { due = follow b; least = least_after b; most = most_after b } else record { due = s.due - 1; least = 128; most = 191 }

-- a byte may come before as many bytes as are due after it
lower : (n m : ℕ) (s : Due) (b : ℕ) → may_come n s b ≡ true → (after s b).due ≤ m → may_come m s b ≡ true
unfolding may_come after
lower n m s b = by (s.due == 0)
  where
    by : (t : Bool) → come_by n s b t ≡ true → (next_by s b t).due ≤ m → come_by m s b t ≡ true
    by true comes few = and_both (nat_le (follow b) m) (nat_lt (follow b) 4) (le-leb (follow b) m few) (and_true (nat_le (follow b) n) (nat_lt (follow b) 4) comes).1
    by false comes few = comes

raise : (m n : ℕ) (s : Due) (b : ℕ) → may_come m s b ≡ true → m ≤ n → may_come n s b ≡ true
unfolding may_come
raise m n s b = by (s.due == 0)
  where
    by : (t : Bool) → come_by m s b t ≡ true → m ≤ n → come_by n s b t ≡ true
    by true comes more = let parts = and_true (nat_le (follow b) m) (nat_lt (follow b) 4) comes in let few = leb-true (follow b) m parts.0 in and_both (nat_le (follow b) n) (nat_lt (follow b) 4) (le-leb (follow b) n (omega (arith, few, more))) parts.1
    by false comes more = comes

-- what is due before a byte
due_before : (s : Due) (b m : ℕ) → (after s b).due ≤ m → s.due ≤ suc m
unfolding after
due_before s b m = by (s.due == 0) refl
  where
    by : (t : Bool) → (s.due == 0) ≡ t → (next_by s b t).due ≤ m → s.due ≤ suc m
    by true e few = let none = eqb-true s.due 0 e in omega (arith, none)
    by false e few = omega (arith, few)

-- what is due after it
due_after : (m : ℕ) (s : Due) (b : ℕ) → may_come m s b ≡ true → s.due ≤ suc m → (after s b).due ≤ m
unfolding may_come after
due_after m s b = by (s.due == 0)
  where
    by : (t : Bool) → come_by m s b t ≡ true → s.due ≤ suc m → (next_by s b t).due ≤ m
    by true comes few = leb-true (follow b) m (and_true (nat_le (follow b) m) (nat_lt (follow b) 4) comes).0
    by false comes few = omega (arith, few)

-- so many bytes more can end between two characters
record IsAlive (n : ℕ) (s : Due) : Type 0 where
  due : s.due ≤ n
  high : 128 ≤ s.least
  order : s.least ≤ s.most

high_after : (b : ℕ) → 128 ≤ least_after b
high_after b = grind (arith, nat_tests)

order_after : (b : ℕ) → least_after b ≤ most_after b
order_after b = grind (arith, nat_tests)

bounds_after : (s : Due) (b : ℕ) → (128 ≤ (after s b).least) × ((after s b).least ≤ (after s b).most)
unfolding after
bounds_after s b = by (s.due == 0)
  where
    by : (t : Bool) → (128 ≤ (next_by s b t).least) × ((next_by s b t).least ≤ (next_by s b t).most)
    by true = (high_after b, order_after b)
    by false = (omega arith, omega arith)

alive_after : (n : ℕ) (s : Due) (b : ℕ) → may_come n s b ≡ true → IsAlive (suc n) s → IsAlive n (after s b)
alive_after n s b comes alive = record { due = due_after n s b comes alive.due; high = (bounds_after s b).0; order = (bounds_after s b).1 }

-- ---- a byte

-- the text of a byte that may come before so many bytes more
abbrev Char : ℕ → Due → ℕ → List ℕ → Type 0
Char n s b w = (may_come n s b ≡ true) × (31 < b) × (w ≡ escaped b)

-- a byte that is written with a stroke before it
escapes : (b : ℕ) → is_escaped b ≡ true → (b ≡ 34) ⊎ (b ≡ 92)
escapes b is = by (b == 34) (b == 92) refl refl is
  where
    by : (x y : Bool) → (b == 34) ≡ x → (b == 92) ≡ y → (x || y) ≡ true → (b ≡ 34) ⊎ (b ≡ 92)
    by true y e f is = inl (eqb-true b 34 e)
    by false true e f is = inr (eqb-true b 92 f)
    by false false e f is = cc

escaped_stroke : (b : ℕ) → is_escaped b ≡ true → escaped b ≡ 92 ∷ b ∷ []
escaped_stroke b is = ⊎_elim (λ e. subst (λ x. escaped x ≡ 92 ∷ x ∷ []) (sym e) refl) (λ e. subst (λ x. escaped x ≡ 92 ∷ x ∷ []) (sym e) refl) (escapes b is)

escaped_plain : (b : ℕ) → is_escaped b ≡ false → 31 < b → escaped b ≡ b ∷ []
escaped_plain b is high = by (b == 34) (b == 92) is
  where
    others : List ℕ
    others = if b == 8 then codes "\\b" else if b == 12 then codes "\\f" else if b == 10 then codes "\\n" else if b == 13 then codes "\\r" else if b == 9 then codes "\\t" else codes "\\u" ++ Rattle.gd_tree.specs.Hex.hex 4 b

    is_high : nat_lt 31 b ≡ true
    is_high = le-leb 32 b high

    by : (x y : Bool) → (x || y) ≡ false → (if x then codes "\\\"" else if y then codes "\\\\" else if nat_lt 31 b then b ∷ [] else others) ≡ b ∷ []
    by true y e = cc
    by false true e = cc
    by false false e = ap (λ t. if t then b ∷ [] else others) is_high

-- a byte that may stand as it is
stands : (n : ℕ) (s : Due) (b : ℕ) → may_stand n s b ≡ true → (may_come n s b ≡ true) × (31 < b) × (is_escaped b ≡ false)
stands n s b is =
    let (high, rest) = and_true (nat_lt 31 b) (not (is_escaped b) && may_come n s b) is in
    let (plain, comes) = and_true (not (is_escaped b)) (may_come n s b) rest in
    (comes, leb-true 32 b high, opposite (is_escaped b) plain)
  where
    opposite : (t : Bool) → not t ≡ true → t ≡ false
    opposite true e = cc
    opposite false e = refl

stand : (n : ℕ) (s : Due) (b : ℕ) → may_come n s b ≡ true → 31 < b → is_escaped b ≡ false → may_stand n s b ≡ true
stand n s b comes high plain = and_both (nat_lt 31 b) (not (is_escaped b) && may_come n s b) (le-leb 32 b high) (and_both (not (is_escaped b)) (may_come n s b) (ap not plain) comes)

-- between two characters such a byte may come
escape_comes : (n : ℕ) (s : Due) (b : ℕ) → (s.due == 0) ≡ true → is_escaped b ≡ true → may_come n s b ≡ true
unfolding may_come
escape_comes n s b none is = ap (λ t. come_by n s b t) none ∙ ⊎_elim (λ e. subst (λ x. (nat_le (follow x) n && nat_lt (follow x) 4) ≡ true) (sym e) (and_both (nat_le 0 n) true (le-leb 0 n (omega arith)) refl))
    (λ e. subst (λ x. (nat_le (follow x) n && nat_lt (follow x) 4) ≡ true) (sym e) (and_both (nat_le 0 n) true (le-leb 0 n (omega arith)) refl)) (escapes b is)

some_between : (n : ℕ) (s : Due) → (s.due == 0) ≡ true → may_stand n s 97 ≡ true
unfolding may_come
some_between n s none = ap (λ t. come_by n s 97 t) none ∙ and_both (nat_le 0 n) true (le-leb 0 n (omega arith)) refl

-- inside a character no byte is written with a stroke
inside_plain : (n : ℕ) (s : Due) (b : ℕ) → (s.due == 0) ≡ false → 128 ≤ s.least → may_come n s b ≡ true → (31 < b) × (is_escaped b ≡ false)
unfolding may_come
inside_plain n s b more high comes =
    let passes : between s.least s.most b ≡ true = sym (ap (λ t. come_by n s b t) more) ∙ comes in
    let least = leb-true s.least b (and_true (nat_le s.least b) (nat_le b s.most) passes).0 in
    (omega (arith, least, high), plain (omega (arith, least, high)))
  where
    plain : 128 ≤ b → is_escaped b ≡ false
    plain big = ap (λ t. t || (b == 92)) (ne_eqb b 34 (λ e. omega (arith, e, big))) ∙ ne_eqb b 92 (λ e. omega (arith, e, big))

some_inside : (n : ℕ) (s : Due) → (s.due == 0) ≡ false → 128 ≤ s.least → s.least ≤ s.most → may_come n s s.least ≡ true
unfolding may_come
some_inside n s more high order = ap (λ t. come_by n s s.least t) more ∙ and_both (nat_le s.least s.least) (nat_le s.least s.most) (le-leb s.least s.least (omega arith)) (le-leb s.least s.most order)

abbrev Escape : ℕ → List ℕ → Type 0
Escape = Behind (codes "\\") (λ (c : ℕ). c) (OneByte is_escaped)

Good-escape : Good Any Escape escape_at
Good-escape = Good-behind Any (codes "\\") (λ c. c) (OneByte is_escaped) (byte_if is_escaped) (Good-exact (OneByte is_escaped) (byte_if is_escaped) (Exact-byte is_escaped 34 refl) (34, 34 ∷ [], (refl, refl)))

Good-plain : (n : ℕ) (s : Due) (b : ℕ) → may_stand n s b ≡ true → Good Any (OneByte (may_stand n s)) (byte_if (may_stand n s))
Good-plain n s b passes = Good-exact (OneByte (may_stand n s)) (byte_if (may_stand n s)) (Exact-byte (may_stand n s) b passes) (b, b ∷ [], (passes, refl))

plain_char : (n : ℕ) (s : Due) (b : ℕ) (w : List ℕ) → OneByte (may_stand n s) b w → Char n s b w
plain_char n s b w (passes, w_is) = let (comes, high, plain) = stands n s b passes in (comes, high, w_is ∙ sym (escaped_plain b plain high))

Good-char : (n : ℕ) (s : Due) → IsAlive (suc n) s → Good Any (Char n s) (char_at n s)
Good-char n s alive = by (s.due == 0) refl
  where
    plain_at : List ℕ → Reads ℕ
    plain_at = byte_if (may_stand n s)

    by : (t : Bool) → (s.due == 0) ≡ t → Good Any (Char n s) (λ bytes. if t then either_at (is_byte 92) escape_at (byte_if (may_stand n s)) bytes else byte_if (may_stand n s) bytes)
    by true none =
        Good-same (Either Any (is_byte 92) Escape (OneByte (may_stand n s)) escape_at (byte_if (may_stand n s)) Good-escape (Good-plain n s 97 (some_between n s none)) passing failing) (Char n s) (either_at (is_byte 92) escape_at (byte_if (may_stand n s))) to from
        (Good-either Any (is_byte 92) Escape (OneByte (may_stand n s)) escape_at (byte_if (may_stand n s)) Good-escape (Good-plain n s 97 (some_between n s none)) passing failing)
      where
        passing : (b : ℕ) (w : List ℕ) → Escape b w → Head (λ c. is_byte 92 c ≡ true) w
        passing b w (a, v, b_is, s, w_is) = (92, v, w_is, refl)

        failing : (b : ℕ) (w : List ℕ) → OneByte (may_stand n s) b w → Head (λ c. is_byte 92 c ≡ false) w
        failing b w (passes, w_is) = (b, [], w_is, other (b == 34) (b == 92) (stands n s b passes).2)
          where
            other : (x y : Bool) → (x || y) ≡ false → y ≡ false
            other true y e = cc
            other false y e = e

        to : (b : ℕ) (w : List ℕ) → Escape b w ⊎ OneByte (may_stand n s) b w → Char n s b w
        to b w (inl (a, v, b_is, (passes, v_is), w_is)) =
            let at : is_escaped b ≡ true = ap is_escaped b_is ∙ passes in
            let high : 31 < b = ⊎_elim (λ e. omega (arith, e)) (λ e. omega (arith, e)) (escapes b at) in
            (escape_comes n s b none at, high, w_is ∙ ap (λ l. 92 ∷ l) v_is ∙ ap (λ x. 92 ∷ x ∷ []) (sym b_is) ∙ sym (escaped_stroke b at))
        to b w (inr plain) = plain_char n s b w plain

        from : (b : ℕ) (w : List ℕ) → Char n s b w → Escape b w ⊎ OneByte (may_stand n s) b w
        from b w (comes, high, w_is) = pick (is_escaped b) refl
          where
            pick : (t : Bool) → is_escaped b ≡ t → Escape b w ⊎ OneByte (may_stand n s) b w
            pick true e = inl (b, b ∷ [], refl, (e, refl), w_is ∙ escaped_stroke b e)
            pick false e = inr (stand n s b comes high e, w_is ∙ escaped_plain b e high)
    by false more =
        let comes = some_inside n s more alive.high alive.order in
        let (high, plain) = inside_plain n s s.least more alive.high comes in
        Good-same (OneByte (may_stand n s)) (Char n s) (byte_if (may_stand n s)) (plain_char n s)
        (λ b w (comes, high, w_is). let (big, plain) = inside_plain n s b more alive.high comes in (stand n s b comes high plain, w_is ∙ escaped_plain b plain high))
        (Good-plain n s s.least (stand n s s.least comes high plain))

-- ---- the rest of a text

-- bytes of UTF-8 from here on, each above 31, as they are written, and the quote
abbrev Tail : ℕ → Due → List ℕ → List ℕ → Type 0
Tail n s t w = (length t ≤ n) × (s.due ≤ length t) × IsRun (length t) s t × AllByRecursion (λ c. 31 < c) t × (w ≡ flat_map escaped t ++ 34 ∷ [])

abbrev Parts : ℕ → Due → List ℕ → List ℕ → Type 0
Parts n s = Then (Char n s) (λ b. Mapped (λ t. b ∷ t) (Tail n (after s b)))

parts_tail : (n : ℕ) (s : Due) (t w : List ℕ) → Parts n s t w → Tail (suc n) s t w
parts_tail n s t w (b, v, u, (comes, high, v_is), (t', t_is, (few, due, run, each, u_is)), w_is) =
    subst (λ l. Tail (suc n) s l w) (sym t_is)
    (omega (arith, few), due_before s b (length t') due, (b, t', lower n (length t') s b comes due, run, refl), (high, each), w_is ∙ ap (λ l. l ++ u) v_is ∙ ap (λ l. escaped b ++ l) u_is ∙ sym (append_assoc (escaped b) (flat_map escaped t') (34 ∷ [])))

tail_parts : (n : ℕ) (s : Due) (b : ℕ) (t w : List ℕ) → Tail (suc n) s (b ∷ t) w → Parts n s (b ∷ t) w
tail_parts n s b t w (few, due, (b', u, comes', run', is), (high, each), w_is) =
    let b_is : b' ≡ b = cc in
    let u_is : u ≡ t = cc in
    let comes : may_come (length t) s b ≡ true = subst (λ x. may_come (length t) s x ≡ true) b_is comes' in
    let run : IsRun (length t) (after s b) t = subst (λ x. IsRun (length t) (after s x) t) b_is (subst (λ l. IsRun (length t) (after s b') l) u_is run') in
    (b, escaped b, flat_map escaped t ++ 34 ∷ [], (raise (length t) n s b comes (omega (arith, few)), high, refl), (t, refl, (omega (arith, few), due_after (length t) s b comes due, run, each, refl)), w_is ∙ append_assoc (escaped b) (flat_map escaped t) (34 ∷ []))

Good-parts : (n : ℕ) (s : Due) → IsAlive (suc n) s → ((b : ℕ) → IsAlive n (after s b) → Good Any (Tail n (after s b)) (tail_at n (after s b))) → Good Any (Parts n s) (and_tail_at (char_at n s) (λ b. tail_at n (after s b)))
Good-parts n s alive ih = Good-and Any (Char n s) (λ b. Mapped (λ t. b ∷ t) (Tail n (after s b))) (char_at n s) (λ b. seen_at (λ t. b ∷ t) (tail_at n (after s b))) (Good-char n s alive)
    (λ b w (comes, high, w_is). Good-seen Any (λ t. b ∷ t) (Tail n (after s b)) (tail_at n (after s b)) (ih b (alive_after n s b comes alive)))

Good-longer : (n : ℕ) (s : Due) → Good Any (Parts n s) (and_tail_at (char_at n s) (λ b. tail_at n (after s b))) → Good Any (Tail (suc n) s) (tail_at (suc n) s)
unfolding tail_at
Good-longer n s parts = by (s.due == 0) refl
  where
    by : (t : Bool) → (s.due == 0) ≡ t
        → Good Any (Tail (suc n) s) (λ bytes. if t then either_at (is_byte 34) quote_at (and_tail_at (char_at n s) (λ b. tail_at n (after s b))) bytes else and_tail_at (char_at n s) (λ b. tail_at n (after s b)) bytes)
    by true none =
        Good-same (Either Any (is_byte 34) (Means (codes "\"") []) (Parts n s) quote_at (and_tail_at (char_at n s) (λ b. tail_at n (after s b))) (Good-word Any (codes "\"") []) parts passing failing) (Tail (suc n) s) (either_at (is_byte 34) quote_at (and_tail_at (char_at n s) (λ b. tail_at n (after s b)))) to from
        (Good-either Any (is_byte 34) (Means (codes "\"") []) (Parts n s) quote_at (and_tail_at (char_at n s) (λ b. tail_at n (after s b))) (Good-word Any (codes "\"") []) parts passing failing)
      where
        passing : (t w : List ℕ) → Means (codes "\"") [] t w → Head (λ c. is_byte 34 c ≡ true) w
        passing t w (t_is, w_is) = (34, [], w_is, refl)

        failing : (t w : List ℕ) → Parts n s t w → Head (λ c. is_byte 34 c ≡ false) w
        failing t w (b, v, u, (comes, high, v_is), rest, w_is) = first (is_escaped b) refl
          where
            first : (x : Bool) → is_escaped b ≡ x → Head (λ c. is_byte 34 c ≡ false) w
            first true e = (92, b ∷ u, w_is ∙ ap (λ l. l ++ u) (v_is ∙ escaped_stroke b e), refl)
            first false e = (b, u, w_is ∙ ap (λ l. l ++ u) (v_is ∙ escaped_plain b e high), other (b == 34) (b == 92) e)
              where
                other : (x y : Bool) → (x || y) ≡ false → x ≡ false
                other true y e = cc
                other false y e = refl

        to : (t w : List ℕ) → Means (codes "\"") [] t w ⊎ Parts n s t w → Tail (suc n) s t w
        to t w (inl (t_is, w_is)) = let zero_due = eqb-true s.due 0 none in subst (λ l. Tail (suc n) s l w) (sym t_is) (omega arith, omega (arith, zero_due), refl, tt, w_is)
        to t w (inr p) = parts_tail n s t w p

        from : (t w : List ℕ) → Tail (suc n) s t w → Means (codes "\"") [] t w ⊎ Parts n s t w
        from [] w (few, due, run, each, w_is) = inl (refl, w_is)
        from (b ∷ t) w tail = inr (tail_parts n s b t w tail)
    by false more = Good-same (Parts n s) (Tail (suc n) s) (and_tail_at (char_at n s) (λ b. tail_at n (after s b))) (parts_tail n s) from parts
      where
        from : (t w : List ℕ) → Tail (suc n) s t w → Parts n s t w
        from [] w (few, due, run, each, w_is) = let none : s.due ≡ 0 = omega (arith, due) in let t = eq-eqb s.due 0 none in absurd (differ (s.due == 0) t more)
          where
            differ : (x : Bool) → x ≡ true → x ≡ false → ⊥
            differ x p q = cc
        from (b ∷ t) w tail = tail_parts n s b t w tail

Good-tail : (n : ℕ) (s : Due) → IsAlive n s → Good Any (Tail n s) (tail_at n s)
unfolding tail_at
Good-tail zero s alive = Good-same (Means (codes "\"") []) (Tail 0 s) quote_at to from (Good-word Any (codes "\"") [])
  where
    to : (t w : List ℕ) → Means (codes "\"") [] t w → Tail 0 s t w
    to t w (t_is, w_is) = subst (λ l. Tail 0 s l w) (sym t_is) (omega arith, alive.due, refl, tt, w_is)

    from : (t w : List ℕ) → Tail 0 s t w → Means (codes "\"") [] t w
    from [] w (few, due, run, each, w_is) = (refl, w_is)
    from (b ∷ t) w (few, due, run, each, w_is) = absurd (omega (arith, few))
Good-tail (suc n) s alive = Good-longer n s (Good-parts n s alive (λ b alive'. Good-tail n (after s b) alive'))

-- ---- the whole text

-- a text in quotes
abbrev pub Quoted : List ℕ → List ℕ → Type 0
Quoted t w = TextFits t × (w ≡ quoted t)

alive_start : IsAlive 4096 start
alive_start = record { due = omega arith; high = omega arith; order = omega arith }

-- what is read behind the first quote is such a text
pub tail_fits : (bytes t rest : List ℕ) → tail_at 4096 start bytes ≡ Ok (t, rest) → TextFits t
tail_fits bytes t rest is = let (few, due, run, each, w_is) = ((Good-tail 4096 start alive_start).scans.found bytes t rest is).spelled in (utf8_of_run (length t) t run, few, each)

pub Good-string : Good Any Quoted string_at
unfolding string_at
Good-string = Good-same (Behind (codes "\"") (λ t. t) (Tail 4096 start)) Quoted string_at to from (Good-behind Any (codes "\"") (λ t. t) (Tail 4096 start) (tail_at 4096 start) (Good-tail 4096 start alive_start))
  where
    to : (t w : List ℕ) → Behind (codes "\"") (λ t. t) (Tail 4096 start) t w → Quoted t w
    to t w (a, v, t_is, (few, due, run, each, v_is), w_is) = subst (λ l. Quoted l w) (sym t_is) ((utf8_of_run (length a) a run, few, each), w_is ∙ ap (λ l. 34 ∷ l) v_is)

    from : (t w : List ℕ) → Quoted t w → Behind (codes "\"") (λ t. t) (Tail 4096 start) t w
    from t w ((utf8, few, each), w_is) = (t, flat_map escaped t ++ 34 ∷ [], refl, (few, omega arith, run_of_utf8 t utf8, each, refl), w_is)
