-- UTF-8 is read exactly.
use Rattle.std.proofs.Common.{◌≡◌, refl, ℕ, zero, suc, ◌+◌, ◌-◌, ◌<◌, ◌≤◌, Bool, true, false, ◌&&◌, ◌==◌, nat_lt, nat_le, if◌then◌else◌, List, [], ◌∷◌, ◌++◌, length, take, drop, Ok, Err, get_or, sym, ◌∙◌, ap, subst, arith, le-leb, append_assoc, length-drop}
use Rattle.std.specs.Str.{IsUtf8}
use Rattle.std.proofs.lemmas.List.{append-nil, take_more, drop_more}
use Rattle.std.proofs.lemmas.Bool.Decides.{nat_tests}
use Rattle.gd_grammar.specs.Chain.{◌>>=◌}
use Rattle.gd_grammar.specs.Grammar.{Reads}
use Rattle.gd_grammar.proofs.Scans.{Then, Only, ok_of}
use Rattle.gd_grammar.specs.Choice.{with_front}
use Rattle.gd_grammar.specs.Reading.{between, byte_if}
use Rattle.gd_utf8.specs.Utf8.{Due, start, follow, least_after, most_after, may_come, after, utf8_from, utf8_at}
use Rattle.gd_grammar.proofs.Exact.{Exact, Exact-then, Exact-only, Exact-byte, Exact-same, Exact-mapped, OneByte, byte_found, Some_text, Mapped, mapped, front_cons, front_none}
use Rattle.gd_utf8.proofs.Runs.{IsRun, run_of_utf8, utf8_of_run}

pub and_true : (x y : Bool) → (x && y) ≡ true → (x ≡ true) × (y ≡ true)
and_true true y is = (refl, is)
and_true false y is = cc

pub and_both : (x y : Bool) → x ≡ true → y ≡ true → (x && y) ≡ true
and_both x y p q = ap (λ (t : Bool). t && y) p ∙ q

le_of : (a b : ℕ) → nat_le a b ≡ true → a ≤ b
le_of a b is = grind (arith, nat_tests)

order_after : (b : ℕ) → least_after b ≤ most_after b
order_after b = grind (arith, nat_tests)

-- so many bytes more can end between two characters
pub record IsAlive (n : ℕ) (s : Due) : Type 0 where
  pub due : s.due ≤ n
  pub order : s.least ≤ s.most

-- a byte that may come next
some_byte : (n : ℕ) (s : Due) → IsAlive (suc n) s → (b : ℕ) × (may_come n s b ≡ true)
unfolding may_come
some_byte n s alive = by (s.due == 0) refl
  where
    by : (t : Bool) → (s.due == 0) ≡ t → (b : ℕ) × (may_come n s b ≡ true)
    by true none = (97, ap (λ (t : Bool). if t then (nat_le 0 n && nat_lt 0 4) else between s.least s.most 97) none ∙ and_both (nat_le 0 n) (nat_lt 0 4) (le-leb 0 n (omega arith)) refl)
    by false more =
        (s.least, ap (λ (t : Bool). if t then (nat_le (follow s.least) n && nat_lt (follow s.least) 4) else between s.least s.most s.least) more ∙ and_both (nat_le s.least s.least) (nat_le s.least s.most) (le-leb s.least s.least (omega arith)) (le-leb s.least s.most alive.order))

abbrev next_by : Due → ℕ → Bool → Due
next_by s b t = if t then record { due = follow b; least = least_after b; most = most_after b } else record { due = s.due - 1; least = 128; most = 191 }

pub alive_after : (n : ℕ) (s : Due) (b : ℕ) → may_come n s b ≡ true → IsAlive (suc n) s → IsAlive n (after s b)
unfolding may_come after
alive_after n s b comes alive = by (s.due == 0) refl
  where
    by : (t : Bool) → (s.due == 0) ≡ t → IsAlive n (after s b)
    by true none =
        let passes = sym (ap (λ (t : Bool). if t then (nat_le (follow b) n && nat_lt (follow b) 4) else between s.least s.most b) none) ∙ comes in
        let fits = (and_true (nat_le (follow b) n) (nat_lt (follow b) 4) passes).0 in
        subst (λ (t : Bool). IsAlive n (next_by s b t)) (sym none) (record { due = le_of (follow b) n fits; order = order_after b })
    by false more = subst (λ (t : Bool). IsAlive n (next_by s b t)) (sym more) (record { due = omega (arith, alive.due); order = omega arith })

-- so many bytes that go on from here
some_run : (n : ℕ) (s : Due) → IsAlive n s → (w : List ℕ) × IsRun n s w
some_run zero s alive = ([], refl)
some_run (suc n) s alive =
    let (b, comes) = some_byte n s alive in
    let (u, run) = some_run n (after s b) (alive_after n s b comes alive) in
    (b ∷ u, (b, u, comes, run, refl))

-- the bytes are a run and its text
abbrev Run : ℕ → Due → List ℕ → List ℕ → Type 0
Run n s t w = (t ≡ w) × IsRun n s w

-- a byte, and then the others
abbrev Parts : ℕ → Due → List ℕ → List ℕ → Type 0
Parts n s = Then (OneByte (may_come n s)) (λ b. Mapped (λ t. b ∷ t) (Run n (after s b)))

parts_run : (n : ℕ) (s : Due) (t w : List ℕ) → Parts n s t w → Run (suc n) s t w
parts_run n s t w (b, v, u, (comes, v_is), (t', t_is, (same, run)), w_is) =
    let whole : w ≡ b ∷ u = w_is ∙ ap (λ (l : List ℕ). l ++ u) v_is in
    (t_is ∙ ap (λ (l : List ℕ). b ∷ l) same ∙ sym whole, (b, u, comes, run, whole))

run_parts : (n : ℕ) (s : Due) (t w : List ℕ) → Run (suc n) s t w → Parts n s t w
run_parts n s t w (same, (b, u, comes, run, whole)) = (b, b ∷ [], u, (comes, refl), (u, same ∙ whole, (refl, run)), whole)

Exact-run : (n : ℕ) (s : Due) → IsAlive n s → Exact (Run n s) (utf8_from n s)
Exact-run zero s alive = Exact-same (Only []) (Run 0 s) (utf8_from 0 s) (λ t w (same, none). (same ∙ sym none, none)) (λ t w (same, none). (same ∙ none, none)) (Exact-only [])
Exact-run (suc n) s alive =
    let (b, comes) = some_byte n s alive in
    Exact-same (Parts n s) (Run (suc n) s) (utf8_from (suc n) s) (parts_run n s) (run_parts n s)
    (Exact-then (OneByte (may_come n s)) (λ b. Mapped (λ t. b ∷ t) (Run n (after s b))) (byte_if (may_come n s)) (λ b. mapped (λ t. b ∷ t) (utf8_from n (after s b)))
    (Exact-byte (may_come n s) b comes)
    (λ b w (passes, w_is). Exact-mapped (λ t. b ∷ t) (Run n (after s b)) (utf8_from n (after s b)) (Exact-run n (after s b) (alive_after n s b passes alive)))
    (λ b w (passes, w_is). let (u, run) = some_run n (after s b) (alive_after n s b passes alive) in (b ∷ u, u, (u, refl, (refl, run)))))

-- so many bytes of UTF-8
abbrev pub Utf8 : ℕ → List ℕ → List ℕ → Type 0
Utf8 n t w = (length t ≡ n) × IsUtf8 t × (w ≡ t)

length_run : (n : ℕ) (s : Due) (w : List ℕ) → IsRun n s w → length w ≡ n
length_run zero s w run = ap length run
length_run (suc n) s w (b, u, comes, run, is) = let l = length_run n (after s b) u run in ap length is ∙ omega (arith, l)

pub alive_start : (n : ℕ) → IsAlive n start
alive_start n = record { due = omega arith; order = omega arith }

run_utf8 : (n : ℕ) (t w : List ℕ) → Run n start t w → Utf8 n t w
run_utf8 n t w (same, run) = (ap length same ∙ length_run n start w run, subst IsUtf8 (sym same) (utf8_of_run n w run), sym same)

utf8_run : (n : ℕ) (t w : List ℕ) → Utf8 n t w → Run n start t w
utf8_run n t w (long, utf8, w_is) = (sym w_is, subst (λ (l : List ℕ). IsRun n start l) (sym w_is) (subst (λ (k : ℕ). IsRun k start t) long (run_of_utf8 t utf8)))

pub Exact-utf8 : (n : ℕ) → Exact (Utf8 n) (utf8_at n)
Exact-utf8 n = Exact-same (Run n start) (Utf8 n) (utf8_at n) (run_utf8 n) (utf8_run n) (Exact-run n start (alive_start n))

pub utf8_some : (n : ℕ) → Some_text (Utf8 n)
utf8_some n = let (w, run) = some_run n start (alive_start n) in (w, w, run_utf8 n w w (refl, run))

-- ---- the code's loop

-- the byte that was read stands at this index
pub next_at : (test : ℕ → Bool) (bytes : List ℕ) (at b : ℕ) (behind : List ℕ) → byte_if test (drop at bytes) ≡ Ok (b, behind) → (at < length bytes) × (behind ≡ drop (at + 1) bytes) × (take (at + 1) bytes ≡ take at bytes ++ b ∷ [])
next_at test bytes at b behind is =
    let (w, (passes, w_is), split) = byte_found test (drop at bytes) b behind is in
    let there : drop at bytes ≡ b ∷ behind = split ∙ ap (λ (l : List ℕ). l ++ behind) w_is in
    let long = ap length there in
    let size = length-drop at bytes in
    let some : at < length bytes = omega (arith, long, size) in
    let more : drop at bytes ≡ get_or bytes at 0 ∷ drop (at + 1) bytes = drop_more bytes at 0 some in
    let same = sym there ∙ more in
    let b_is : b ≡ get_or bytes at 0 = cc in
    let behind_is : behind ≡ drop (at + 1) bytes = cc in
    (some, behind_is, take_more bytes at 0 some ∙ ap (λ (x : ℕ). take at bytes ++ x ∷ []) (sym b_is))

-- one byte more
pub utf8_more : (bytes : List ℕ) (count at : ℕ) (s t : Due) (b : ℕ) (behind : List ℕ) → at < count → byte_if (may_come (count - 1 - at) s) (drop at bytes) ≡ Ok (b, behind) → t ≡ after s b
    → with_front (take (at + 1) bytes) (utf8_from (count - (at + 1)) t (drop (at + 1) bytes)) ≡ with_front (take at bytes) (utf8_from (count - at) s (drop at bytes))
utf8_more bytes count at s t b behind few is t_is =
    let n = count - 1 - at in
    let fewer : count - (at + 1) ≡ count - 1 - at = omega arith in
    let here : count - at ≡ suc (count - 1 - at) = omega (arith, few) in
    let (some, behind_is, front_is) = next_at (may_come n s) bytes at b behind is in
    let next = λ (x : ℕ × List ℕ). utf8_from n (after s x.0) x.1 >>= λ t. Ok (x.0 ∷ t.0, t.1) in
    let step : with_front (take at bytes) (utf8_from (count - at) s (drop at bytes)) ≡ with_front (take at bytes) (utf8_from n (after s b) behind >>= λ t. Ok (b ∷ t.0, t.1)) =
    ap (λ (k : ℕ). with_front (take at bytes) (utf8_from k s (drop at bytes))) here ∙ ap (λ (r : Reads ℕ). with_front (take at bytes) (r >>= next)) is in
    ap (λ (k : ℕ). with_front (take (at + 1) bytes) (utf8_from k t (drop (at + 1) bytes))) fewer
    ∙ ap (λ (x : Due). with_front (take (at + 1) bytes) (utf8_from n x (drop (at + 1) bytes))) t_is
    ∙ ap (λ (l : List ℕ). with_front (take (at + 1) bytes) (utf8_from n (after s b) l)) (sym behind_is)
    ∙ ap (λ (l : List ℕ). with_front l (utf8_from n (after s b) behind)) front_is
    ∙ sym (step ∙ front_cons (take at bytes) b (utf8_from n (after s b) behind))

-- all bytes are read
pub utf8_done : (bytes : List ℕ) (count at : ℕ) (s : Due) → count ≤ at → with_front (take at bytes) (utf8_from (count - at) s (drop at bytes)) ≡ Ok (take at bytes, drop at bytes)
utf8_done bytes count at s many =
    let none : count - at ≡ 0 = omega (arith, many) in
    ap (λ (k : ℕ). with_front (take at bytes) (utf8_from k s (drop at bytes))) none ∙ ap (λ (l : List ℕ). ok_of (l, drop at bytes)) (append-nil (take at bytes))

-- no bytes are read yet
pub utf8_begun : (bytes : List ℕ) (count : ℕ) → with_front (take 0 bytes) (utf8_from (count - 0) start (drop 0 bytes)) ≡ utf8_at count bytes
utf8_begun bytes count =
    let whole : count - 0 ≡ count = omega arith in
    ap (λ (k : ℕ). with_front (take 0 bytes) (utf8_from k start (drop 0 bytes))) whole ∙ front_none (utf8_from count start bytes)

-- what was read is UTF-8 of that length
pub utf8_read : (count : ℕ) (bytes t rest : List ℕ) → utf8_at count bytes ≡ Ok (t, rest) → (length t ≡ count) × IsUtf8 t
utf8_read count bytes t rest is = let (w, (long, utf8, w_is), split) = (Exact-utf8 count).found bytes t rest is in (long, utf8)
